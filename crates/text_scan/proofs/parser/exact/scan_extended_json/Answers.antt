use Rattle.std.proofs.Common.{sym, ap, ◌∙◌, Ok}
use Rattle.jsonb_spec.specs.Parsing.ExtendedNumber.{decimal_end}
use Rattle.jsonb_spec.specs.Parsing.ExactNumber.{exact_to, extended_json_scan}
use Rattle.text_scan.proofs.Numbers.ExactRead.{extended_exponent}
use Rattle.text_scan.proofs.parser.exact.scan_extended_json.Goals as goal

pub returns-in-Some-clause-scan : goal.returns-in-Some-clause-scan
unfolding extended_json_scan
returns-in-Some-clause-scan c = sym (c.in-Some.ensures.scan (exact_to c.args.bytes.now (decimal_end c.args.bytes.now)))

pub exact_value-requires-clause-exponent : goal.exact_value-requires-clause-exponent
exact_value-requires-clause-exponent c = extended_exponent c.args.bytes.now c.in-Ok.end c.decimal_ends-ends.result.behind_end (sym c.in-Ok.ensures.end) c.decimal_ends-ends.ensures.behind

pub returns-in-Ok-clause-scan : goal.returns-in-Ok-clause-scan
unfolding extended_json_scan
returns-in-Ok-clause-scan c =
    ap (λ o. Ok (o, c.in-Ok.end)) c.exact_value.ensures ∙ (ap (exact_to c.args.bytes.now) c.in-Ok.ensures.end ∙ sym (c.in_default.ensures.scan (exact_to c.args.bytes.now (decimal_end c.args.bytes.now))))

pub returns-in-Err-clause-scan : goal.returns-in-Err-clause-scan
unfolding extended_json_scan
returns-in-Err-clause-scan c =
    c.invalid.ensures.scan ∙ (ap (exact_to c.args.bytes.now) c.in-Err.ensures.end ∙ sym (c.in_default.ensures.scan (exact_to c.args.bytes.now (decimal_end c.args.bytes.now))))
