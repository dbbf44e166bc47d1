use Rattle.std.proofs.Common.{ap}
use Rattle.jsonb_spec.specs.Mode.{strictness}
use Rattle.text_scan.specs.Answer.{mode_of}
use Rattle.text_parse.proofs.Scalars.ExactNumbers.{strict_whole}
use Rattle.text_parse.proofs.parser.exact_number.lacks_digits.Goals as goal

pub returns-in-Standard-clause-fault : goal.returns-in-Standard-clause-fault
returns-in-Standard-clause-fault c =
    strict_whole c.lacks_whole.result (strictness (mode_of c.args.mode)) c.args.bytes.now (ap (λ m. strictness (mode_of m)) c.in-Standard.is) c.lacks_whole.ensures.fault
