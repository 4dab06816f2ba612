-- `from_bytes` meets its contract: a TLV of the type, and then its value. Assumes nothing.
use mathlib.Core.Path.{◌≡◌, sym, ap, ◌∙◌}
use native.Mathlib.Omega.{arith}
use lib.Seq.{length-take-le}
use Rattle.refusal.specs.Answer.{gives}
use Rattle.refusal.proofs.Laws.{passed_on}
use Rattle.tlv.specs.Kinds.{code_of}
use Rattle.tlv.specs.Rules.{len_of_type}
use Rattle.tlv.specs.declared.TlvType.{TlvType}
use Rattle.tlv.proofs.Theorems as tlvs
use Rattle.filestore_base.specs.Meaning.{kind_of}
use Rattle.filestore_reader.proofs.Laws.{read_base_refused, read_base_value}
use Rattle.filestore_reader.proofs.from_bytes.Goals as goal
use Rattle.filestore_reader.proofs.from_bytes.Goals.{In_ok-end}

-- the length of the TLV
len : (c : In_ok-end) → (let a = c.args in gives c.in_ok-end.end ≡ len_of_type (kind_of a.response) a.buf.now)
len c = c.in_ok-end.ensures ∙ ap (λ (t : TlvType). len_of_type (code_of t) c.args.buf.now) c.tlv_type.ensures

-- it lies in the buffer
inside : (c : In_ok-end) → tlvs.Found (kind_of c.args.response) c.args.buf.now c.in_ok-end.end
inside c = tlvs.found _ _ _ (sym (len c))

pub returns-in_err-end : goal.returns-in_err-end
returns-in_err-end c =
    passed_on _ _ c.from_residual.ensures.1
    ∙ read_base_refused _ _ _ _ (c.in_err-end.ensures ∙ ap (λ (t : TlvType). len_of_type (code_of t) c.args.buf.now) c.tlv_type.ensures)

pub slice_bounds-value_in-end : goal.slice_bounds-value_in-end
slice_bounds-value_in-end c = sym (length-take-le _ _ (inside (goal.at.slice_bounds-value_in-end c).In_ok-end).inside)

pub value_in-requires : goal.value_in-requires
value_in-requires c =
    let f = inside (goal.at.value_in-requires c).In_ok-end in
    omega (arith, f.behind, length-take-le _ _ f.inside)

pub returns : goal.returns
returns c = c.value_in.ensures ∙ read_base_value _ _ _ (len (goal.at.returns c).In_ok-end)
