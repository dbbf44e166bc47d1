use Rattle.std.proofs.Common.{arith}
use Rattle.std.specs.Str.Parse.{digits_value}
use Rattle.std.proofs.lemmas.Str.Parse.{digits_value-take-le}
use Rattle.text_scan.proofs.Numbers.VerbatimDecimals.{some_sign}
use Rattle.text_scan.proofs.parser.verbatim.may_have_sign.Goals as goal

pub returns : goal.returns
returns c =
    let ds = c.args.behind.now in
    let digits = c.digits_by_bytes-len in
    some_sign _ _ digits.result.1 (digits_value 10 ds) (omega (arith, digits.ensures.value, digits_value-take-le 10 ds digits.result.0 (omega arith)))
