-- WHAT READING MEANS, for requests and responses at once: what is found selects the meaning whose layout stands there, may be written again, and
-- what was written is found again; and where reading ran short. Assumes nothing.
use Rattle.std.specs.Prelude.{None, Option, Some}
use mathlib.Core.Path.{◌≡◌, refl, sym, ap, subst, ◌∙◌}
use Prim.Native.Nat.{ℕ, ◌+◌, ◌*◌, ◌/◌, ◌≤◌, ◌<◌}
use native.Mathlib.Omega.{arith}
use mathlib.Core.Bool.{Bool, true, false}
use mathlib.Core.List.{List, [], ◌∷◌, ◌++◌, append_assoc, append-nil}
use lib.ListN.{length, drop, get_or, length-append}
use lib.Dec.{ltb}
use Rattle.bluebook.specs.Layouts.{Octets, actions, second_present, there, lv, lv_if, tlv}
use Rattle.refusal.specs.Answer.{Answer, gives, map_answer, and_then, RefusedBy, short_at, ShortBy, limit_test}
use Rattle.refusal.specs.Reader.{Took, took, Exactly}
use Rattle.refusal.proofs.Laws.{also_both, pick_passed, refused_pick, refused_map, refused_then, short_here, short_given, short_other, short_pick, short_map, short_then, short_test, short_limit, short_so, limit_passed, mapped_by, map_answer_map_answer}
use Rattle.refusal.proofs.Readers.{exactly_tested}
use Rattle.splice.specs.Writing.{Wrote}
use Rattle.splice.proofs.Writing.{left_by}
use Rattle.lv.specs.Rules.{span, part_of, take_lv}
use Rattle.lv.specs.Short.{ShortLv}
use Rattle.lv.proofs.Laws.{span_test_in, take_lv_refusals}
use Rattle.lv.proofs.Theorems.{selects, exactly_lv, lv_runs_short}
use Rattle.tlv.specs.Rules.{take_of}
use Rattle.tlv.specs.Short.{ShortPart, ShortTlv}
use Rattle.tlv.proofs.Theorems.{exactly_of, of_type_runs_short}
use Rattle.action.specs.Rules.{code_of, due_of}
use Rattle.action.specs.declared.FilestoreActionCode.{FilestoreActionCode}
use Rattle.action.proofs.Laws.{code_back, code_known}
use Rattle.filestore_base.specs.Meaning.{Filed, filed, is_there, part_if, kind_of, value_of, filed_tlv, meaning, second_at, placed}
use Rattle.filestore_base.specs.Rules.{span_if, len_of, write_test, write_base, same_base}
use Rattle.filestore_base.specs.declared.FilestoreTlvBase.{FilestoreTlvBase}
use Rattle.filestore_base.proofs.Laws.{Spans, there_if, length-value, writable, write_passed}
use Rattle.filestore_base.proofs.Theorems.{Buildable, builds, same_means}
use Rattle.filestore_reader.specs.Rules.{take_octet, take_if, take_second, take_value, take_filed, take_strict, found_of, found, read_base, low_bits_test, left_test, status_listed, listed_test, strict_test, strict_base}
use Rattle.filestore_reader.specs.declared.Found.{Found}
use Rattle.filestore_reader.proofs.Exact.{FiledOk, exactly_octet, exactly_second, exactly_filed}

-- a request or response, with what is left of its value and what stands behind it
abbrev pub stands : Bool → Filed → List ℕ → List ℕ → List ℕ
stands d m left rest = tlv (kind_of d) (value_of m ++ left) ++ rest

-- ---- SPANS: where the parts of a layout lie, and that they select them

part_if_lem : (p : List ℕ) (s : Option (List ℕ)) (rest : List ℕ) (at : ℕ) → length p ≡ at → part_if (second_at at s) (p ++ (lv_if s ++ rest)) ≡ s
part_if_lem p None rest at e = refl
part_if_lem p (Some v) rest at e =
    ap Some
    (ap (part_of (span (at + 1) (length v))) (sym (append_assoc p (length v ∷ []) (v ++ rest)))
    ∙ selects (p ++ (length v ∷ [])) v rest (at + 1) (length-append p (length v ∷ []) ∙ omega arith))

span_if_lem : (p : List ℕ) (s : Option (List ℕ)) (rest : List ℕ) (at : ℕ) → length p ≡ at → gives tt ≡ span_if (second_at at s) (p ++ (lv_if s ++ rest))
span_if_lem p None rest at e = refl
span_if_lem p (Some v) rest at e =
    sym (span_test_in (span (at + 1) (length v)) (p ++ (lv v ++ rest)) (omega (arith, length-append p (lv v ++ rest), length-append v rest)))

module _ (d : Bool) (m : Filed) (left rest : List ℕ) where
  f : List ℕ
  f = m.first

  s : List ℕ
  s = lv_if m.second

  x : List ℕ
  x = lv_if m.message

  head : List ℕ
  head = kind_of d ∷ length (value_of m ++ left) ∷ (m.action * 16 + m.low) ∷ length f ∷ []

  -- the same bytes, seen from the first name, the second, and the message
  at_first : stands d m left rest ≡ head ++ (f ++ (s ++ (x ++ (left ++ rest))))
  unfolding head f s x
  at_first =
      ap (λ (l : List ℕ). head ++ l)
      (append_assoc ((f ++ s) ++ x) left rest ∙ append_assoc (f ++ s) x (left ++ rest) ∙ append_assoc f s (x ++ (left ++ rest)))

  at_second : stands d m left rest ≡ (head ++ f) ++ (s ++ (x ++ (left ++ rest)))
  at_second = at_first ∙ sym (append_assoc head f (s ++ (x ++ (left ++ rest))))

  at_message : stands d m left rest ≡ (head ++ f ++ s) ++ (x ++ (left ++ rest))
  at_message = at_second ∙ sym (append_assoc (head ++ f) s (x ++ (left ++ rest)))

  length_second : length (head ++ f) ≡ 4 + length m.first
  unfolding head f
  length_second = omega (arith, length-append head f)

  length_message : length (head ++ f ++ s) ≡ 4 + length m.first + length (lv_if m.second)
  unfolding s
  length_message = omega (arith, length-append (head ++ f) s, length_second)

  -- the spans select what is meant
  pub means_back : FiledOk d m → meaning (placed m) (stands d m left rest) ≡ m
  unfolding f s x head
  means_back ok = λ i.
      filed (code_back m.action ok.named.known i) m.low
      ((ap (part_of (span 4 (length f))) at_first ∙ selects head f (s ++ (x ++ (left ++ rest))) 4 refl) i)
      ((ap (part_if (second_at (4 + length f) m.second)) at_second ∙ part_if_lem (head ++ f) m.second (x ++ (left ++ rest)) (4 + length f) length_second) i)
      ((ap (part_if (second_at (4 + length f + length s) m.message)) at_message ∙ part_if_lem (head ++ f ++ s) m.message (left ++ rest) (4 + length f + length s) length_message) i)

  -- and lie in the buffer
  pub spans_inside : Spans (placed m) (stands d m left rest)
  unfolding f s x
  spans_inside = record {
    first = omega (arith, ap length at_second, length-append (head ++ f) (s ++ (x ++ (left ++ rest))), length_second);
    second = subst (λ (l : List ℕ). gives tt ≡ span_if (second_at (4 + length f) m.second) l) (sym at_second) (span_if_lem (head ++ f) m.second (x ++ (left ++ rest)) (4 + length f) length_second);
    message = subst (λ (l : List ℕ). gives tt ≡ span_if (second_at (4 + length f + length s) m.message) l) (sym at_message) (span_if_lem (head ++ f ++ s) m.message (left ++ rest) (4 + length f + length s) length_message);
  }

-- ---- STRICT READING takes exactly the layouts with nothing left, a request's low bits 0, and a response's status listed

-- what strict reading leaves of the slack
abbrev pub NoSlack : Bool → Filed → List ℕ → Type 0
NoSlack false m left = (m.low ≡ 0) × (left ≡ [])
NoSlack true m left = (left ≡ []) × (status_listed m.action m.low ≡ true)

none_left : (l : List ℕ) → gives tt ≡ left_test (length l) → l ≡ []
none_left [] e = refl
none_left (y ∷ l) e = absurd (omega (arith, limit_passed 12 0 (length (y ∷ l)) e))

zero_only : (n : ℕ) → n ≤ 0 → n ≡ 0
zero_only n h = omega arith

pub no_slack : (d : Bool) (m : Filed) (left : List ℕ) → gives tt ≡ strict_test d m.action m.low (length left) → NoSlack d m left
unfolding listed_test
no_slack false m left e =
    let p = also_both (low_bits_test m.low) (left_test (length left)) tt e in
    (zero_only m.low (limit_passed 11 0 m.low p.0), none_left left p.1)
no_slack true m left e =
    let p = also_both (left_test (length left)) (listed_test m.action m.low) tt e in
    (none_left left p.0, pick_passed (status_listed m.action m.low) 13 (m.low ∷ []) p.1)

pub slack_none : (d : Bool) (m : Filed) (left : List ℕ) → NoSlack d m left → gives tt ≡ strict_test d m.action m.low (length left)
unfolding limit_test listed_test
slack_none false m left h = sym (rw (h.0, h.1))
slack_none true m left h = sym (rw (h.0, h.1))

pub exactly_strict : (d : Bool) → Exactly (take_strict d) (λ t. FiledOk d t.got × (gives tt ≡ strict_test d t.got.action t.got.low (length t.rest))) (λ t. tlv (kind_of d) (value_of t.got ++ t.rest))
exactly_strict d = exactly_tested (exactly_filed d) (λ t. strict_test d t.got.action t.got.low (length t.rest))

-- ---- what was found in a buffer can be built, and written from that buffer

pub record Selected (d : Bool) (bs : List ℕ) (f : Found) : Type 0 where
  pub meant : Filed
  pub fine : FiledOk d meant
  pub left : List ℕ
  pub rest : List ℕ
  pub split : bs ≡ stands d meant left rest
  pub is : f ≡ found_of (placed meant) (length left)
  pub selects : meaning f.base bs ≡ meant
  pub inside : Spans f.base bs

pub selected : (d : Bool) (bs : List ℕ) (f : Found) → read_base d bs ≡ gives f → Selected d bs f
unfolding read_base
selected d bs f e =
    let t = mapped_by (λ (t : Took (Took Filed)). found t.got) (take_filed d bs) f e in
    let m = t.0.got.got in
    let o = (exactly_filed d).only bs t.0 t.1 in
    let b : f.base ≡ placed m = ap (λ (g : Found). g.base) (sym t.2) in
    record {
      meant = m;
      fine = o.0;
      left = t.0.got.rest;
      rest = t.0.rest;
      split = o.1;
      is = sym t.2;
      selects = (λ i. meaning (b i) (o.1 i)) ∙ means_back d m t.0.got.rest t.0.rest o.0;
      inside = subst (λ (c : FilestoreTlvBase). Spans c bs) (sym b) (subst (λ (l : List ℕ). Spans (placed m) l) (sym o.1) (spans_inside d m t.0.got.rest t.0.rest));
    }

-- a value of octets has at most 255 of them
pub read_writable : (d : Bool) (bs : List ℕ) (f : Found) → Octets bs → read_base d bs ≡ gives f → gives tt ≡ write_test f.base bs
read_writable d bs f o e =
    let w = selected d bs f e in
    let m = w.meant in
    let n : length (value_of m ++ w.left) < 256 = subst Octets w.split o 1 in
    let v : len_of f.base ≡ length (value_of m) = sym (length-value f.base bs w.inside) ∙ ap (λ (x : Filed). length (value_of x)) w.selects in
    let low : f.base.low_bits ≡ m.low = ap (λ (x : Filed). x.low) w.selects in
    let k : code_of f.base.action_code ≡ m.action = ap (λ (x : Filed). x.action) w.selects in
    write_passed f.base bs ((builds f.base).1 (record {
      due = sym (there_if f.base.second_name bs) ∙ ap (λ (x : Filed). there x.second) w.selects ∙ w.fine.named.due ∙ sym (due_of_lem f.base.action_code m.action k);
      low = omega (arith, w.fine.low);
      size = omega (arith, length-append (value_of m) w.left);
    })) w.inside
  where
    due_of_lem : (a : FilestoreActionCode) (n : ℕ) → code_of a ≡ n → due_of a ≡ second_present n
    due_of_lem a n e = ap second_present e

-- ---- what was written is found again, with the same meaning and nothing left

pub record Back (b : FilestoreTlvBase) (src old new : List ℕ) : Type 0 where
  pub bytes : new ≡ filed_tlv (meaning b src) ++ drop (len_of b + 2) old
  pub read : read_base (is_there b.message) new ≡ gives (found_of (placed (meaning b src)) 0)
  pub means : meaning (placed (meaning b src)) new ≡ meaning b src
  pub same : same_base b src (placed (meaning b src)) new ≡ gives true

-- what may be written has a layout that the reader takes
pub filed_ok : (b : FilestoreTlvBase) (src : List ℕ) → Buildable b → FiledOk (is_there b.message) (meaning b src)
filed_ok b src h = record {
  named = record { known = code_known b.action_code; due = there_if b.second_name src ∙ h.due };
  low = omega (arith, h.low);
  message = there_if b.message src;
}

pub read_back : (b : FilestoreTlvBase) (src old new : List ℕ) (k : ℕ) → Wrote 0 (write_base b src (length old)) (gives k) old new → Back b src old new
unfolding write_base read_base
read_back b src old new k w =
    let m = meaning b src in
    let d = is_there b.message in
    let l = left_by (write_test b src) (filed_tlv m) old new k w in
    let g = writable b src l.passed in
    let ok = filed_ok b src ((builds b).0 g.built) in
    let n : length (filed_tlv m) ≡ len_of b + 2 = omega (arith, length-value b src g.spans) in
    let bytes : new ≡ filed_tlv m ++ drop (len_of b + 2) old = l.bytes ∙ ap (λ (j : ℕ). filed_tlv m ++ drop j old) n in
    let s : new ≡ stands d m [] (drop (len_of b + 2) old) =
    bytes ∙ (λ i. tlv (kind_of (there_if b.message src i)) (sym (append-nil (value_of m)) i) ++ drop (len_of b + 2) old) in
    let e : meaning (placed m) new ≡ m = ap (meaning (placed m)) s ∙ means_back d m [] (drop (len_of b + 2) old) ok in
    record {
      bytes = bytes;
      read = ap (λ (l : List ℕ). map_answer (λ t. found t.got) (take_filed d l)) s ∙ ap (map_answer (λ t. found t.got)) ((exactly_filed d).accepts (took m []) (drop (len_of b + 2) old) ok);
      means = e;
      same = (same_means b src (placed m) new).1 (g.spans, subst (λ (l : List ℕ). Spans (placed m) l) (sym s) (spans_inside d m [] (drop (len_of b + 2) old)), sym e);
    }

-- what was written could be built
pub back_ok : (b : FilestoreTlvBase) (src old new : List ℕ) (k : ℕ) → Wrote 0 (write_base b src (length old)) (gives k) old new → FiledOk (is_there b.message) (meaning b src)
unfolding write_base
back_ok b src old new k w =
    filed_ok b src ((builds b).0 (writable b src (left_by (write_test b src) (filed_tlv (meaning b src)) old new k w).passed).built)

-- ---- A WHOLE TLV is read by its value alone, refusals included, whatever stands behind it

pub read_alone : (response : Bool) (v rest : List ℕ) → read_base response (tlv (kind_of response) v ++ rest) ≡ map_answer found (take_value response v)
unfolding read_base
read_alone response v rest =
    ap (λ (a : Answer (Took (List ℕ))). map_answer (λ t. found t.got) (and_then a (λ f. map_answer (λ t. took t f.rest) (take_value response f.got))))
    ((exactly_of (kind_of response)).accepts v rest tt)
    ∙ map_answer_map_answer (λ (t : Took (Took Filed)). found t.got) (λ t. took t rest) (take_value response v)

-- ---- THE REFUSALS OF A VALUE are 1, 6 and 7

module _ (P : ℕ → Type 0) (one : P 1) where
  if_refusals : (wanted : Bool) (at : ℕ) (bs : List ℕ) → RefusedBy P (take_if wanted at bs)
  unfolding take_if
  if_refusals false at bs = tt
  if_refusals true at bs = refused_map P _ (take_lv at bs) (take_lv_refusals at P one bs)

  second_refusals : P 6 → (due : Bool) (at : ℕ) (bs : List ℕ) → RefusedBy P (take_second due at bs)
  unfolding take_second
  second_refusals six false at bs = if_refusals false at bs
  second_refusals six true at [] = six
  second_refusals six true at (x ∷ bs) = if_refusals true at (x ∷ bs)

  octet_refusals : P 7 → (bs : List ℕ) → RefusedBy P (take_octet bs)
  unfolding take_octet
  octet_refusals seven [] = one
  octet_refusals seven (o ∷ bs) = refused_pick P (ltb (o / 16) (length actions)) _ _ tt seven

  pub value_refusals : P 6 → P 7 → (response : Bool) (v : List ℕ) → RefusedBy P (take_value response v)
  unfolding take_value
  value_refusals six seven response v =
      refused_then P (take_octet v) _ (octet_refusals seven v) (λ o.
      refused_then P (take_lv 3 o.rest) _ (take_lv_refusals 3 P one o.rest) (λ f.
      refused_then P (take_second (second_present o.got.action) (4 + length f.got) f.rest) _ (second_refusals six (second_present o.got.action) (4 + length f.got) f.rest) (λ s.
      refused_map P _ (take_if response (4 + length f.got + length (lv_if s.got)) s.rest) (if_refusals response (4 + length f.got + length (lv_if s.got)) s.rest))))

-- ---- WHERE IT RAN SHORT: at 0 where the TLV is not whole; else at the part of the value that ran short, and what was found of it reaches to
-- the value's end

if_runs_short : (wanted : Bool) (at : ℕ) (bs : List ℕ) → ShortBy (ShortLv at (at + length bs)) (take_if wanted at bs)
unfolding take_if
if_runs_short false at bs = short_given _
if_runs_short true at bs = short_map _ (take_lv at bs) (lv_runs_short at bs)

second_runs_short : (due : Bool) (at : ℕ) (bs : List ℕ) → ShortBy (ShortLv at (at + length bs)) (take_second due at bs)
unfolding take_second
second_runs_short false at bs = if_runs_short false at bs
second_runs_short true at [] = short_other 6 [] (λ e. omega arith)
second_runs_short true at (x ∷ bs) = if_runs_short true at (x ∷ bs)

octet_runs_short : (bs : List ℕ) → ShortBy (ShortPart (length bs)) (take_octet bs)
unfolding take_octet
octet_runs_short [] = short_here 2 0 1 (record { behind = omega arith; reaches = refl; more = omega arith })
octet_runs_short (o ∷ bs) = short_pick (ltb (o / 16) (length actions)) _ _ (λ _. short_given _) (λ _. short_other 7 _ (λ e. omega arith))

-- an LV behind the first byte, up to the value's end
part_of_lem : {A : Type 0} (n at k : ℕ) (a : Answer A) → 2 ≤ at → at + k ≡ 2 + n → ShortBy (ShortLv at (at + k)) a → ShortBy (ShortPart n) a
part_of_lem n at k a b e h = short_so a (λ p f x l. record { behind = omega (arith, l.starts); reaches = l.reaches ∙ e; more = l.more }) h

pub value_runs_short : (response : Bool) (v : List ℕ) → ShortBy (ShortPart (length v)) (take_value response v)
unfolding take_value
value_runs_short response v =
    short_then (take_octet v) _ (octet_runs_short v) (λ o p.
    let i = ap length (exactly_octet.only v o p).1 in
    short_then (take_lv 3 o.rest) _ (part_of_lem n 3 (length o.rest) (take_lv 3 o.rest) (omega arith) (omega arith) (lv_runs_short 3 o.rest)) (λ f q.
    let j = ap length ((exactly_lv 3).only o.rest f q).1 ∙ length-append (lv f.got) f.rest in
    let at : ℕ = 4 + length f.got in
    let due = second_present o.got.action in
    short_then (take_second due (4 + length f.got) f.rest) _ (part_of_lem n at (length f.rest) (take_second due at f.rest) (omega arith) (omega arith) (second_runs_short due at f.rest)) (λ s r.
    let k = ap length ((exactly_second due at).only f.rest s r).1 ∙ length-append (lv_if s.got) s.rest in
    let m : ℕ = 4 + length f.got + length (lv_if s.got) in
    short_map _ (take_if response m s.rest) (part_of_lem n m (length s.rest) (take_if response m s.rest) (omega arith) (omega arith) (if_runs_short response m s.rest)))))
  where
    n : ℕ
    n = length v

-- of the value of a whole TLV
part_whole : {A : Type 0} (bs : List ℕ) (t : ℕ) (v rest : List ℕ) (a : Answer A) → bs ≡ tlv t v ++ rest → ShortBy (ShortPart (length v)) a → ShortBy (ShortTlv bs) a
part_whole bs t v rest a e h =
    let len : get_or bs 1 0 ≡ length v = ap (λ (l : List ℕ). get_or l 1 0) e in
    let size : length bs ≡ 2 + (length v + length rest) = omega (arith, ap length e, length-append v rest) in
    short_so a (λ p f x l. record { itself = λ w. absurd (w (omega arith)); within = λ _. subst (λ (n : ℕ). ShortPart n p f x) (sym len) l }) h

pub filed_runs_short : (response : Bool) (bs : List ℕ) → ShortBy (ShortTlv bs) (take_filed response bs)
filed_runs_short response bs =
    short_then (take_of (kind_of response) bs) _ (of_type_runs_short (kind_of response) bs) (λ f e.
    short_map _ (take_value response f.got)
    (part_whole bs (kind_of response) f.got f.rest (take_value response f.got) ((exactly_of (kind_of response)).only bs f e).1 (value_runs_short response f.got)))

pub base_runs_short : (response : Bool) (bs : List ℕ) → ShortBy (ShortTlv bs) (read_base response bs)
unfolding read_base
base_runs_short response bs = short_map _ (take_filed response bs) (filed_runs_short response bs)

-- an empty value is short at 2
pub empty_value : (response : Bool) (rest : List ℕ) → read_base response (tlv (kind_of response) [] ++ rest) ≡ short_at 2 0 1
unfolding take_value take_octet
empty_value response rest = read_alone response [] rest

-- the tests of strict reading refuse with 11, 12 or 13, and never with 1
test_not_short : {P : ℕ → ℕ → ℕ → Type 0} (response : Bool) (a l k : ℕ) → ShortBy P (strict_test response a l k)
unfolding listed_test
test_not_short false a l k = short_then (low_bits_test l) _ (short_limit 11 0 l (λ e. omega arith)) (λ _ _. short_limit 12 0 k (λ e. omega arith))
test_not_short true a l k = short_then (left_test k) _ (short_limit 12 0 k (λ e. omega arith)) (λ _ _. short_test (status_listed a l) 13 _ (λ e. omega arith))

pub strict_runs_short : (response : Bool) (bs : List ℕ) → ShortBy (ShortTlv bs) (strict_base response bs)
unfolding strict_base
strict_runs_short response bs =
    short_map _ (take_strict response bs)
    (short_then (take_filed response bs) _ (filed_runs_short response bs) (λ t _.
    short_then (strict_test response t.got.got.action t.got.got.low (length t.got.rest)) _ (test_not_short response _ _ _) (λ _ _. short_given _)))
