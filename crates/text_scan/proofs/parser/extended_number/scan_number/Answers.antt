use Rattle.std.proofs.Common.{sym, ◌∙◌}
use Rattle.jsonb_spec.specs.Parsing.ExtendedNumber.{decimal_scan, extended_scan}
use Rattle.text_scan.proofs.parser.extended_number.scan_number.Goals as goal

pub returns-in-Some-clause-scan : goal.returns-in-Some-clause-scan
unfolding extended_scan
returns-in-Some-clause-scan c = sym (c.in-Some.ensures.scan (decimal_scan c.args.bytes.now))

pub returns-clause-scan : goal.returns-clause-scan
unfolding extended_scan
returns-clause-scan c = c.scan_decimal.ensures.scan ∙ sym (c.in_default.ensures.scan (decimal_scan c.args.bytes.now))
