use Rattle.std.proofs.Common.{◌∙◌, ◌≡◌, ◌⊎◌, ap, inl, inr, true, false, None, not}
use Rattle.text_scan.proofs.Numbers.HexadecimalAnswers.{fraction_without_digits, fraction_rejected, fraction_without_number, no_value, some_value}
use Rattle.text_scan.proofs.parser.extended_number.hexadecimal.scan_fraction.Goals as goal
use Rattle.text_scan.proofs.parser.extended_number.hexadecimal.scan_fraction.Goals.{then-not-whole_fits-via-then-not-whole_fits, then-not-whole_fits-via-else-not-whole_fits+then-is_none}

pub returns-then-len-eq0-clause-scan : goal.returns-then-len-eq0-clause-scan
returns-then-len-eq0-clause-scan c = c.invalid.ensures.scan ∙ fraction_without_digits c.args.offset c.hexadecimal_length-len.result c.args.whole_fits c.args.bytes.now c.hexadecimal_length-len.ensures.value c.if-len-eq0.true

pub returns-then-not-whole_fits-clause-scan : goal.returns-then-not-whole_fits-clause-scan
returns-then-not-whole_fits-clause-scan c =
    let why : (c.args.whole_fits ≡ false) ⊎ ((c.args.whole_fits ≡ true) × (c.number_after-fraction.result ≡ None)) = elim c.then-not-whole_fits.branch [
      | then-not-whole_fits-via-then-not-whole_fits w ↦ inl w.if-not-whole_fits.true
      | then-not-whole_fits-via-else-not-whole_fits+then-is_none w ↦ inr (w.if-not-whole_fits.false, no_value c.number_after-fraction.result (w.is_none.ensures ∙ ap not w.if-is_none.true))
    ] in
    c.invalid-then-not-whole_fits.ensures.scan ∙ fraction_rejected c.args.offset c.hexadecimal_length-len.result c.args.whole_fits c.number_after-fraction.result c.args.bytes.now c.hexadecimal_length-len.ensures.value c.if-len-eq0.false c.number_after-fraction.ensures why

pub returns-clause-scan : goal.returns-clause-scan
returns-clause-scan c =
    fraction_without_number c.args.offset c.hexadecimal_length-len.result c.args.whole_fits c.number_after-fraction.result c.args.bytes.now c.hexadecimal_length-len.ensures.value c.if-len-eq0.false c.number_after-fraction.ensures c.if-not-whole_fits.false (some_value c.number_after-fraction.result c.if-is_none.ensures)
