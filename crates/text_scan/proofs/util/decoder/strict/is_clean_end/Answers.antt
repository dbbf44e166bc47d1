use Rattle.std.proofs.Common.{◌≡◌, ◌+◌, ◌-◌, ℕ, length, drop, get_or, ap, ◌∙◌, arith, length-drop}
use Rattle.std.proofs.lemmas.List.{get_or-drop, take_rest}
use Rattle.text_scan.proofs.Strings.Strict.{clean_end}
use Rattle.text_scan.proofs.util.decoder.strict.is_clean_end.Goals as goal

pub returns : goal.returns
returns c =
    let bytes = c.args.bytes.now in
    let from : ℕ = length bytes - 17 in
    let long : length (drop from bytes) ≡ 17 = omega (arith, c.requires, length-drop from bytes) in
    let last : get_or (drop from bytes) 16 0 ≡ get_or bytes (length bytes - 1) 0 =
    get_or-drop from bytes 16 0 ∙ ap (λ (i : ℕ). get_or bytes i 0) (let same : from + 16 ≡ length bytes - 1 = omega (arith, c.requires) in same) in
    clean_end (drop from bytes) c.is_clean_row.result long (omega (arith, last, c.if-bytes-lt32.false)) (rw (take_rest bytes from) at c.is_clean_row.ensures)
