use Rattle.std.proofs.Common.{◌≡◌, ◌+◌, length, take, length-append, length-take, ap, ◌∙◌, arith, rules}
use Rattle.jsonb_spec.specs.Text.BinaryText.{binary_text}
use Rattle.jsonb_value.proofs.Appending.BinaryTexts.{length-binary_text}
use Rattle.jsonb_value.proofs.extension.text.append_binary.Goals as goal

pub returns-in_err-reserve : goal.returns-in_err-reserve
returns-in_err-reserve c = record { appends = record { ok = search rules; err = search rules; full = grind (arith, length-binary_text c.args.bytes.now); capacity = search rules } }

-- there is space for the pair, so this exit is never taken
rejected : (c : goal.After-from_residual-in_err-extend_from_slice) → ⊥
rejected c =
    let done = take c.bytes.byte-index c.args.bytes.now in
    let count : length c.bytes.buf.items ≡ length c.args.buf.now.items + length (binary_text done) =
    ap length c.bytes.invariant.written ∙ length-append c.args.buf.now.items (binary_text done) in
    omega (arith, count, length-binary_text done, length-take c.bytes.byte-index c.args.bytes.now, c.bytes.invariant.space, c.in_err-extend_from_slice.ensures.full, ap length c.hexadecimal_pair.ensures)

pub returns-in_err-extend_from_slice : goal.returns-in_err-extend_from_slice
returns-in_err-extend_from_slice c = record { appends = absurd (rejected c) }
