use Rattle.text_scan.proofs.Strings.Decoding.{stops_at_digit}
use Rattle.text_scan.proofs.util.decoder.unit.read_unit.Goals as goal

pub returns-in_default-value_of-clause-err : goal.returns-in_default-value_of-clause-err
returns-in_default-value_of-clause-err c mode beyond =
    stops_at_digit mode c.args.bytes.now c.in-Some.digits.now c.in-Some.rest.now c.first_non_digit.result beyond c.in-Some.ensures.some c.first_non_digit.ensures
