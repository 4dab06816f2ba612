-- The laws of the actions: a code and its action say the same, and a number is a code exactly where the table has a row for it. Assumes nothing.
use mathlib.Core.Path.{◌≡◌, refl, sym, ap, ◌∙◌}
use Prim.Native.Nat.{ℕ, zero, suc, ◌+◌, ◌≤◌, ◌<◌}
use native.Mathlib.Omega.{arith}
use mathlib.Core.List.{List, [], ◌∷◌}
use mathlib.Core.Bool.{Bool, true, false}
use lib.ListN.{length, get_or}
use lib.Dec.{ltb}
use borrow.Author.Tests.{lt-ltb, le-ltb, ltb-true, ltb-false}
use Rattle.bluebook.specs.Layouts.{actions}
use Rattle.refusal.specs.Answer.{gives, refuses}
use Rattle.refusal.proofs.Laws.{gives_same, gives_or_refuses}
use Rattle.action.specs.Rules.{code_of, codes, action_at, action_of}
use Rattle.action.specs.declared.FilestoreActionCode.{FilestoreActionCode}
use Rattle.action.specs.declared.FilestoreActionCode.TheVariants.{CreateFile, DeleteFile, RenameFile, AppendFile, ReplaceFile, CreateDirectory, RemoveDirectory, DenyFile, DenyDirectory}

-- ---- the list of actions is in the order of their codes, from k on

abbrev Ordered : ℕ → List FilestoreActionCode → Type 0
Ordered k [] = Unit {0}
Ordered k (a ∷ l) = (code_of a ≡ k) × Ordered (suc k) l

ordered_at : (k : ℕ) (l : List FilestoreActionCode) → Ordered k l → (n : ℕ) → n < length l → code_of (get_or l n CreateFile) ≡ k + n
ordered_at k [] h n m = absurd (omega arith)
ordered_at k (a ∷ l) h zero m = omega (arith, h.0)
ordered_at k (a ∷ l) h (suc n) m = omega (arith, ordered_at (suc k) l h.1 n (omega arith))

in_order : Ordered 0 codes
in_order = (refl, (refl, (refl, (refl, (refl, (refl, (refl, (refl, (refl, tt)))))))))

-- the action of a code has that code
pub code_back : (n : ℕ) → n < length actions → code_of (action_at n) ≡ n
unfolding action_at
code_back n h =
    omega (arith, ordered_at 0 codes in_order n h)

-- every action's code is in the table, and reads as the action
pub action_back : (a : FilestoreActionCode) → action_of (code_of a) ≡ gives a
unfolding action_of action_at
action_back CreateFile = refl
action_back DeleteFile = refl
action_back RenameFile = refl
action_back AppendFile = refl
action_back ReplaceFile = refl
action_back CreateDirectory = refl
action_back RemoveDirectory = refl
action_back DenyFile = refl
action_back DenyDirectory = refl

-- the tests of a number against 0, 1, 2, ..: each that fails leaves one number more behind
pub more : {n k : ℕ} → k ≤ n → (n ≡ k → ⊥) → k + 1 ≤ n
more h e = omega arith

pub action_of_known : (n : ℕ) → n < length actions → action_of n ≡ gives (action_at n)
unfolding action_of
action_of_known n h = simp (lt-ltb n (length actions) h)

pub action_of_none : (n : ℕ) → length actions ≤ n → action_of n ≡ refuses 7 (n ∷ [])
unfolding action_of
action_of_none n h = simp (le-ltb n (length actions) h)

-- what is given is the action of a code of the table
pub action_of_lem : (n : ℕ) (a : FilestoreActionCode) → action_of n ≡ gives a → (n < length actions) × (code_of a ≡ n) × (action_at n ≡ a)
action_of_lem n a e = go (ltb n (length actions)) refl
  where
    go : (t : Bool) → ltb n (length actions) ≡ t → (n < length actions) × (code_of a ≡ n) × (action_at n ≡ a)
    go true p =
        let h = ltb-true n (length actions) p in
        let s = gives_same (action_at n) a (sym (action_of_known n h) ∙ e) in
        (h, ap code_of (sym s) ∙ code_back n h, s)
    go false p = absurd (gives_or_refuses a 7 (n ∷ []) (sym e ∙ action_of_none n (ltb-false n (length actions) p)))

pub code_known : (a : FilestoreActionCode) → code_of a < length actions
code_known a = (action_of_lem (code_of a) a (action_back a)).0

-- two actions are the same where their codes are
pub one_code : (a b : FilestoreActionCode) → code_of a ≡ code_of b → a ≡ b
one_code a b e = gives_same a b (sym (action_back a) ∙ ap action_of e ∙ action_back b)
