use Rattle.std.proofs.Common.{sym, ap, ◌∙◌, take, ◌+◌}
use Rattle.std.proofs.lemmas.List.{take_rest}
use Rattle.jsonb_spec.specs.Parsing.ExtendedNumber.{fraction_scan}
use Rattle.text_scan.specs.ScannedNumber.{number_views}
use Rattle.text_scan.proofs.Numbers.HexadecimalAnswers.{fits_is, hexadecimal_without_digits, hexadecimal_with_point, hexadecimal_past, hexadecimal_whole_at}
use Rattle.text_scan.proofs.parser.extended_number.hexadecimal.scan_hexadecimal.Goals as goal

pub returns-then-len-eq0-clause-scan : goal.returns-then-len-eq0-clause-scan
returns-then-len-eq0-clause-scan c = c.invalid.ensures.scan ∙ hexadecimal_without_digits c.args.offset c.hexadecimal_length-len.result c.args.negative c.args.bytes.now c.hexadecimal_length-len.ensures.value c.if-len-eq0.true

pub returns-then-byte_at-eq46-clause-scan : goal.returns-then-byte_at-eq46-clause-scan
returns-then-byte_at-eq46-clause-scan c =
    c.scan_fraction.ensures.scan ∙ (ap (fraction_scan (c.args.offset + c.hexadecimal_length-len.result + 1) c.is_some-fits.result) (take_rest c.args.bytes.now (c.hexadecimal_length-len.result + 1))
    ∙ hexadecimal_with_point c.args.offset c.hexadecimal_length-len.result c.args.negative c.is_some-fits.result c.args.bytes.now c.hexadecimal_length-len.ensures.value c.if-len-eq0.false (sym c.byte_at.ensures ∙ c.if-byte_at-eq46.true) (c.is_some-fits.ensures ∙ fits_is c.number_after-whole.result (take c.hexadecimal_length-len.result c.args.bytes.now) c.number_after-whole.ensures))

pub returns-in-None-clause-scan : goal.returns-in-None-clause-scan
returns-in-None-clause-scan c =
    c.invalid-in-None.ensures.scan ∙ hexadecimal_past c.args.offset c.hexadecimal_length-len.result c.args.negative c.args.bytes.now c.hexadecimal_length-len.ensures.value c.if-len-eq0.false (λ e. c.if-byte_at-eq46.false (c.byte_at.ensures ∙ e)) c.in-None.ensures

pub returns-in-Some-clause-scan : goal.returns-in-Some-clause-scan
returns-in-Some-clause-scan c =
    hexadecimal_whole_at c.args.offset c.hexadecimal_length-len.result c.in-Some.magnitude c.args.negative (number_views c.hexadecimal.result) c.args.bytes.now c.hexadecimal_length-len.ensures.value c.if-len-eq0.false (λ e. c.if-byte_at-eq46.false (c.byte_at.ensures ∙ e)) c.in-Some.ensures.0 c.in-Some.ensures.1 c.hexadecimal.ensures
