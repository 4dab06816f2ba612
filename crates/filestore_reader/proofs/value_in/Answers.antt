-- `value_in` meets its contract: what each step refuses, or what it tells of where the next one starts. Assumes nothing.
use Rattle.std.specs.Prelude.{None}
use mathlib.Core.Path.{◌≡◌, sym, ap, ◌∙◌}
use Prim.Native.Nat.{ℕ, ◌-◌, ◌/◌, ◌≤◌, ◌%◌}
use native.Mathlib.Omega.{arith}
use lib.ListN.{length, get_or}
use Rattle.refusal.specs.Answer.{Answer, gives, and_then}
use Rattle.refusal.proofs.Laws.{passed_on}
use Rattle.lv.specs.Rules.{read_lv_at}
use Rattle.lv.specs.declared.Lv.{Lv}
use Rattle.lv.proofs.Theorems.{read_at}
use Rattle.action.specs.Rules.{action_of, due_of}
use Rattle.action.specs.declared.FilestoreActionCode.{FilestoreActionCode}
use Rattle.filestore_base.specs.Meaning.{base_of, end_of}
use Rattle.filestore_reader.specs.Rules.{take_second, take_if, found_of}
use Rattle.filestore_reader.specs.Inner.{with_message, read_message_at, read_behind, read_names, read_value}
use Rattle.filestore_reader.proofs.Laws.{Behind, behind_if, behind_second, read_message_at_refused, read_message_at_found, read_behind_refused, read_behind_second, read_names_is, read_value_octet}
use Rattle.filestore_reader.proofs.value_in.Goals as goal
use Rattle.filestore_reader.proofs.value_in.Goals.{Else-end-eq2, In_ok-action_code, In_ok-first_name, In_ok-second_name, After-place_behind-message_place, In_ok-message}

-- the value is that of the action, and then the names
value : (c : Else-end-eq2) → (let bs = c.args.tlv.now in (x : Answer FilestoreActionCode) → x ≡ action_of (get_or bs 2 0 / 16)
    → and_then x (λ a. read_names bs (length bs) a (get_or bs 2 0 % 16) c.args.response) ≡ read_value bs (length bs) c.args.response)
value c x e =
    let bs = c.args.tlv.now in
    ap (λ (y : Answer FilestoreActionCode). and_then y (λ a. read_names bs (length bs) a (get_or bs 2 0 % 16) c.args.response)) e
    ∙ sym (read_value_octet bs (length bs) c.args.response (omega arith) (omega arith))

-- behind the action, the first name
names : (c : In_ok-action_code) → (let bs = c.args.tlv.now in let a = c.in_ok-action_code.action_code in let low = get_or bs 2 0 % 16 in
    (x : Answer Lv) → x ≡ read_lv_at bs 3 (length bs) → and_then x (λ f. read_behind bs (length bs) a low f c.args.response) ≡ read_value bs (length bs) c.args.response)
names c x e =
    let bs = c.args.tlv.now in
    let a = c.in_ok-action_code.action_code in
    let low = get_or bs 2 0 % 16 in
    ap (λ (y : Answer Lv). and_then y (λ f. read_behind bs (length bs) a low f c.args.response)) e
    ∙ read_names_is bs (length bs) a low c.args.response
    ∙ value (goal.at.In_ok-action_code c).Else-end-eq2 (gives a) c.in_ok-action_code.ensures

-- the first name ends before the value does
first : (c : In_ok-first_name) → end_of c.in_ok-first_name.first_name ≤ length c.args.tlv.now
first c = (read_at _ _ _ _ (sym c.in_ok-first_name.ensures)).inside

-- behind the first name
behind : (c : In_ok-first_name) → (let bs = c.args.tlv.now in
    read_behind bs (length bs) c.in_ok-action_code.action_code (get_or bs 2 0 % 16) c.in_ok-first_name.first_name c.args.response ≡ read_value bs (length bs) c.args.response)
behind c = names (goal.at.In_ok-first_name c).In_ok-action_code (gives c.in_ok-first_name.first_name) c.in_ok-first_name.ensures

-- what is known where the second name was found, or is not due
second : (c : In_ok-second_name) → (let bs = c.args.tlv.now in let at = end_of c.in_ok-first_name.first_name in
    Behind (take_second (due_of c.in_ok-action_code.action_code) at) bs at (length bs) c.in_ok-second_name.second_name)
second c = behind_second _ _ _ (first (goal.at.In_ok-second_name c).In_ok-first_name) (omega arith) _ _ c.in_ok-second_name.ensures

pub returns-in_err-action_code : goal.returns-in_err-action_code
returns-in_err-action_code c = passed_on _ _ c.from_residual.ensures.1 ∙ value (goal.at.returns-in_err-action_code c).Else-end-eq2 _ c.in_err-action_code.ensures

pub returns-in_err-first_name : goal.returns-in_err-first_name
returns-in_err-first_name c = passed_on _ _ c.from_residual-in_err-first_name.ensures.1 ∙ names (goal.at.returns-in_err-first_name c).In_ok-action_code _ c.in_err-first_name.ensures

pub overflow_add-second_place : goal.overflow_add-second_place
overflow_add-second_place c = omega (arith, first (goal.at.overflow_add-second_place c).In_ok-first_name)

pub returns-in_err-second_name : goal.returns-in_err-second_name
returns-in_err-second_name c =
    let f = (goal.at.returns-in_err-second_name c).In_ok-first_name in
    passed_on _ _ c.from_residual-in_err-second_name.ensures.1
    ∙ read_behind_refused _ _ _ _ _ _ (first f) (omega arith) _ _ c.in_err-second_name.ensures
    ∙ behind f

pub place_behind-message_place-requires : goal.place_behind-message_place-requires
place_behind-message_place-requires c = omega (arith, (second (goal.at.place_behind-message_place-requires c).In_ok-second_name).inside)

-- the place behind the second name lies in the value
message : (c : After-place_behind-message_place) → c.place_behind-message_place.result ≤ length c.args.tlv.now
message c = omega (arith, c.place_behind-message_place.ensures, (second (goal.at.After-place_behind-message_place c).In_ok-second_name).inside)

-- behind the second name
rest : (c : After-place_behind-message_place) → (let bs = c.args.tlv.now in
    read_message_at bs c.place_behind-message_place.result (length bs)
    (base_of c.in_ok-action_code.action_code (get_or bs 2 0 % 16) c.in_ok-first_name.first_name c.in_ok-second_name.second_name None) c.args.response
    ≡ read_value bs (length bs) c.args.response)
rest c =
    let bs = c.args.tlv.now in
    let f = (goal.at.After-place_behind-message_place c).In_ok-first_name in
    ap (λ (at : ℕ). read_message_at bs at (length bs) (base_of c.in_ok-action_code.action_code (get_or bs 2 0 % 16) c.in_ok-first_name.first_name c.in_ok-second_name.second_name None) c.args.response)
    c.place_behind-message_place.ensures
    ∙ read_behind_second _ _ _ _ _ _ (first f) (omega arith) _ c.in_ok-second_name.ensures
    ∙ behind f

-- what is known where the message was found, or is not wanted
found : (c : In_ok-message) → (let bs = c.args.tlv.now in let at = c.place_behind-message_place.result in Behind (take_if c.args.response at) bs at (length bs) c.in_ok-message.message)
found c = behind_if _ _ _ (message (goal.at.In_ok-message c).After-place_behind-message_place) (omega arith) _ _ c.in_ok-message.ensures

pub returns-in_err-message : goal.returns-in_err-message
returns-in_err-message c =
    let m = (goal.at.returns-in_err-message c).After-place_behind-message_place in
    passed_on _ _ c.from_residual-in_err-message.ensures.1
    ∙ read_message_at_refused _ _ _ (message m) (omega arith) _ _ _ _ c.in_err-message.ensures
    ∙ rest m

pub place_behind-requires : goal.place_behind-requires
place_behind-requires c = omega (arith, (found (goal.at.place_behind-requires c).In_ok-message).inside)

pub overflow_sub-left : goal.overflow_sub-left
overflow_sub-left c = omega (arith, c.place_behind.ensures, (found (goal.at.overflow_sub-left c).In_ok-message).inside)

pub returns : goal.returns
returns c =
    let bs = c.args.tlv.now in
    let m = (goal.at.returns c).After-place_behind-message_place in
    let names = base_of c.in_ok-action_code.action_code (get_or bs 2 0 % 16) c.in_ok-first_name.first_name c.in_ok-second_name.second_name None in
    ap (λ (n : ℕ). gives (found_of (with_message names c.in_ok-message.message) (length bs - n))) c.place_behind.ensures
    ∙ read_message_at_found _ _ _ (message m) (omega arith) names _ _ c.in_ok-message.ensures
    ∙ rest m
