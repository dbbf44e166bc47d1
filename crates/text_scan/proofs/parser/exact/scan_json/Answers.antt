use Rattle.std.proofs.Common.{sym, ap, ◌∙◌, Ok, Err}
use Rattle.jsonb_spec.specs.Parsing.ExactNumber.{exact_to}
use Rattle.text_scan.proofs.Numbers.ExactRead.{whole_fault, standard_is, json_exponent}
use Rattle.text_scan.proofs.parser.exact.scan_json.Goals as goal

pub returns-in-Some-clause-scan : goal.returns-in-Some-clause-scan
returns-in-Some-clause-scan c = whole_fault c.args.bytes.now c.in-Some.offset _ c.in-Some.ensures.fault c.invalid.ensures.scan

pub exact_value-requires-clause-exponent : goal.exact_value-requires-clause-exponent
exact_value-requires-clause-exponent c =
    let at = standard_is c.args.bytes.now c.byte_at.result c.from-start.result c.digits_end.result (Ok c.in-Ok.end) c.byte_at.ensures c.from-start.ensures c.digits_end.ensures.end c.in_default.ensures.fault c.in-Ok.ensures.end in
    json_exponent c.args.bytes.now c.in-Ok.end c.decimal_ends.result.behind_end at c.decimal_ends.ensures.behind

pub returns-in-Ok-clause-scan : goal.returns-in-Ok-clause-scan
returns-in-Ok-clause-scan c =
    let at = standard_is c.args.bytes.now c.byte_at.result c.from-start.result c.digits_end.result (Ok c.in-Ok.end) c.byte_at.ensures c.from-start.ensures c.digits_end.ensures.end c.in_default.ensures.fault c.in-Ok.ensures.end in
    ap (λ o. Ok (o, c.in-Ok.end)) c.exact_value.ensures ∙ ap (exact_to c.args.bytes.now) (sym at)

pub returns-in-Err-clause-scan : goal.returns-in-Err-clause-scan
returns-in-Err-clause-scan c =
    let at = standard_is c.args.bytes.now c.byte_at.result c.from-start.result c.digits_end.result (Err c.in-Err.offset) c.byte_at.ensures c.from-start.ensures c.digits_end.ensures.end c.in_default.ensures.fault c.in-Err.ensures.end in
    c.invalid-in-Err.ensures.scan ∙ ap (exact_to c.args.bytes.now) (sym at)
