-- The laws of `specs/Boundary.antt`: how an answer crosses, and what a writer tells; and one of the walk's steps. Assumes nothing.
use Rattle.std.specs.Prelude.{Result}
use mathlib.Core.Path.{◌≡◌, refl, sym, ap, ◌∙◌}
use Prim.Native.Nat.{ℕ}
use mathlib.Core.List.{List}
use lib.ListN.{length}
use Rattle.refusal.specs.Answer.{Answer, gives, refuses, map_answer, and_then}
use Rattle.refusal.specs.Told.{told}
use Rattle.refusal.specs.declared.Refusal.{Refusal}
use Rattle.splice.specs.Writing.{leaves, Wrote}
use Rattle.walk.specs.declared.End.{End}
use Rattle.walk.specs.declared.Step.{Step}
use Rattle.walk.specs.declared.Step.TheVariants.{End as Ended}
use Rattle.cabi.specs.Boundary.{refusal, or_else, crossed, written_answer, Sent}
use Rattle.cabi.specs.declared.Numbered.{Numbered}
use Rattle.cabi.specs.declared.WrittenAnswer.{WrittenAnswer}

-- an answer `a` of the library that is the case `e` crosses as that case does
pub told_out : {E A T : Type 0} (out : Numbered → A → T) (z : A) (told : E → Answer A) (a e : E) {n : Numbered} → n ≡ refusal (told e) → a ≡ e
    → out n (or_else z (told e)) ≡ crossed out z (told a)
told_out out z told a e p q = ap (λ m. out m (or_else z (told e))) p ∙ sym (ap (λ x. crossed out z (told x)) q)

-- a step that is an end, and which
pub is_end : {a : Step} {e f : End} → a ≡ Ended e → e ≡ f → a ≡ Ended f
is_end p q = p ∙ ap Ended q

-- a call's answer `a` crosses where it is handed on as the case `e` that it is
pub crosses : {E A T : Type 0} (out : Answer A → T) (told : E → Answer A) {a e : E} {x : Answer A} {r : T} → r ≡ out (told e) → a ≡ e → told a ≡ x → r ≡ out x
crosses out told p q h = p ∙ ap out (sym (ap told q) ∙ h)

-- a writer of the library, and what is told of it to C
pub sent : {out was : Answer (List ℕ)} {told : Answer ℕ} {r : WrittenAnswer} {old new : List ℕ} → out ≡ was → r ≡ written_answer told → Wrote 0 was told old new
    → Sent out r old new
sent {out} {was} {told} {r} {old} e p w =
    record {
      answer = p ∙ ap written_answer (w.answer ∙ ap (map_answer length) (sym e));
      bytes = w.bytes ∙ ap (λ o. leaves 0 o old) (sym e);
    }

-- the same, where its answer is handed on as the case that it is
pub sent_as : {out was : Answer (List ℕ)} {a e : Result ℕ Refusal} {r : WrittenAnswer} {old new : List ℕ} → out ≡ was → r ≡ written_answer (told e) → a ≡ e
    → Wrote 0 was (told a) old new → Sent out r old new
sent_as o p q w = sent o (crosses written_answer told p q refl) w

-- nothing is written where an argument is refused
pub unsent : {out : Answer (List ℕ)} {n : ℕ} {vs : List ℕ} {r : WrittenAnswer} {old : List ℕ} → out ≡ refuses n vs → r ≡ written_answer (refuses n vs)
    → Sent out r old old
unsent {old = old} e p = record { answer = p ∙ ap (λ o. written_answer (map_answer length o)) (sym e); bytes = ap (λ o. leaves 0 o old) (sym e) }

-- what is written of an argument that C hands in: `f` of it, or its refusal

pub given : {A : Type 0} (f : A → Answer (List ℕ)) {a : Answer A} {x : A} → gives x ≡ a → and_then a f ≡ f x
given f e = ap (λ a. and_then a f) (sym e)

pub ungiven : {A : Type 0} (f : A → Answer (List ℕ)) {a : Answer A} {n : ℕ} {vs : List ℕ} → refuses n vs ≡ a → and_then a f ≡ refuses n vs
ungiven f e = ap (λ a. and_then a f) (sym e)
