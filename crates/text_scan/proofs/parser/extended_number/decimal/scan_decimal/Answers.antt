use Rattle.std.proofs.Common.{ap, ◌∙◌, Ok}
use Rattle.jsonb_spec.specs.Parsing.ExtendedNumber.{decimal_to, decimal_scan}
use Rattle.text_scan.proofs.parser.extended_number.decimal.scan_decimal.Goals as goal

pub returns-in-Ok-clause-scan : goal.returns-in-Ok-clause-scan
unfolding decimal_scan
returns-in-Ok-clause-scan c = ap (λ o. Ok (o, c.in-Ok.end)) c.decimal_number.ensures ∙ ap (decimal_to c.args.bytes.now) c.in-Ok.ensures.end

pub returns-in-Err-clause-scan : goal.returns-in-Err-clause-scan
unfolding decimal_scan
returns-in-Err-clause-scan c = ap (decimal_to c.args.bytes.now) c.in-Err.ensures.end
