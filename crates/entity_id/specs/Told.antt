-- Document 01's number and values for each case of this crate's answers.
use Rattle.std.specs.Prelude.{Result, Ok, Err}
use Rattle.bluebook.specs.Layouts.{Entity}
use Rattle.refusal.specs.Answer.{Answer, gives}
use Rattle.refusal.specs.Told.{refused}
use Rattle.refusal.specs.declared.Refusal.{Refusal}
use Rattle.entity_id.specs.Rules.{meaning}
use Rattle.entity_id.specs.declared.EntityIdTlv.{EntityIdTlv}

abbrev pub told_entity : Result EntityIdTlv Refusal → Answer Entity
told_entity (Ok t) = gives (meaning t)
told_entity (Err r) = refused r
