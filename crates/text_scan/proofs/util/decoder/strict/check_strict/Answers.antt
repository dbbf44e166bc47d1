use Rattle.text_scan.proofs.Strings.Strict.{body-clean}
use Rattle.text_scan.proofs.util.decoder.strict.check_strict.Goals as goal

pub returns-then-is_clean-clause-passed : goal.returns-then-is_clean-clause-passed
returns-then-is_clean-clause-passed c = body-clean c.args.body.now c.if-is_clean.ensures
