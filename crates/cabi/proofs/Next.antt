-- A STEP IN TWO REGISTERS: all that a step tells follows from them, from the place, and from how many bytes there are. A record's length byte says
-- where it ends, so where it ends says its length. Assumes nothing.
use mathlib.Core.Path.{◌≡◌, refl, sym, ap, subst, ◌∙◌}
use Prim.Native.Nat.{ℕ, ◌+◌, ◌-◌, ◌≤◌}
use native.Mathlib.Omega.{arith}
use mathlib.Core.Bool.{Bool, true, false}
use mathlib.Core.List.{List, [], ◌∷◌}
use lib.ListN.{length, drop, length-drop}
use lib.Dec.{leb}
use borrow.Author.Tests.{leb-true, leb-false}
use Rattle.refusal.specs.Answer.{Answer, gives}
use Rattle.lv.specs.Rules.{span}
use Rattle.walk.specs.Journal.{end_at}
use Rattle.walk.specs.Rules.{limit, Standing, found, ended, front, step_at}
use Rattle.walk.specs.declared.End.TheVariants.{Whole, Cut}
use Rattle.walk.specs.declared.Record.{Record}
use Rattle.walk.proofs.Steps.{says, step_long, step_past, step_there}
use Rattle.cabi.specs.Boundary.{numbered, step_by, step_answer, next_answer, step_of, place_of, behind_of}

module _ (s : List ℕ) (p : ℕ) where
  told_record : (r : Record) (next : ℕ) → front p (drop p s) ≡ found r next → r.value ≡ span (p + 2) (next - (p + 2))
  told_record r next e =
      let (m, rest, _, is, to) = says p (drop p s) (found r next) e in
      ap (λ (x : Record). x.value) is ∙ ap (span (p + 2)) (omega (arith, to))

  told_cut : (q behind : ℕ) (d : List ℕ) → Cut q behind ≡ end_at p d → length d ≡ length s - p → behind ≡ length s - q
  told_cut q behind [] e n = let z : behind ≡ 0 = ap behind_of e in omega (arith, ap place_of e)
  told_cut q behind (b ∷ bs) e n = omega (arith, ap place_of e, ap behind_of e)

  pub next_tells : step_answer (step_at s p) ≡ step_of (length s) p (next_answer (step_at s p))
  next_tells = long (leb (length s) limit) refl
    where
      by : (x : Answer Standing) → step_at s p ≡ x → step_answer x ≡ step_of (length s) p (next_answer x) → step_answer (step_at s p) ≡ step_of (length s) p (next_answer (step_at s p))
      by x e h = subst (λ (y : Answer Standing). step_answer y ≡ step_of (length s) p (next_answer y)) (sym e) h

      there : (x : Standing) → front p (drop p s) ≡ x → step_answer (gives x) ≡ step_of (length s) p (next_answer (gives x))
      there (found r next) e = ap (λ v. step_by (numbered 0 []) 0 r.tlv_type v next) (told_record r next e)
      there (ended (Whole q)) e = refl
      there (ended (Cut q behind)) e =
          ap (λ (n : ℕ). step_by (numbered 0 []) 2 0 (span q n) q) (told_cut q behind (drop p s) (says p (drop p s) (ended (Cut q behind)) e).1 (length-drop p s))

      inside : (b : Bool) → leb p (length s) ≡ b → length s ≤ limit → step_answer (step_at s p) ≡ step_of (length s) p (next_answer (step_at s p))
      inside true e h = by _ (step_there s p h (leb-true p (length s) e)) (there (front p (drop p s)) refl)
      inside false e h = by _ (step_past s p h (leb-false p (length s) e)) refl

      long : (b : Bool) → leb (length s) limit ≡ b → step_answer (step_at s p) ≡ step_of (length s) p (next_answer (step_at s p))
      long true e = inside (leb p (length s)) refl (leb-true (length s) limit e)
      long false e = by _ (step_long s p (leb-false (length s) limit e)) refl
