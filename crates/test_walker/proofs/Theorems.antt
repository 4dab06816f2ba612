-- ONE ANSWER of `step_at`: what tells the same step, with the same place after it, is one value. By walk's `one_step`. Assumes nothing.
use mathlib.Core.Path.{◌≡◌, sym, ◌∙◌}
use Prim.Native.Nat.{ℕ}
use Rattle.refusal.specs.Answer.{Answer}
use Rattle.walk.specs.Rules.{Standing}
use Rattle.walk.specs.Told.{told_step}
use Rattle.walk.proofs.Theorems.{one_step}
use Rattle.test_walker.specs.declared.Stepped.{Stepped}

pub one_stepped : (x : Answer Standing) (p : ℕ) (a b : Stepped) → (told_step a.step ≡ x) × (a.at ≡ p) → (told_step b.step ≡ x) × (b.at ≡ p) → a ≡ b
one_stepped x p a b k l =
    let s : a.step ≡ b.step = one_step x a.step b.step k.0 l.0 in
    let t : a.at ≡ b.at = k.1 ∙ sym l.1 in
    λ i. record { step = s i; at = t i }
