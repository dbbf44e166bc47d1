use Rattle.text_scan.proofs.Numbers.Moving.{is_great}
use Rattle.text_scan.proofs.parser.exact.scaled.Goals as goal

pub returns-then-zeros-gt-MOST_DIGITS-clause-value : goal.returns-then-zeros-gt-MOST_DIGITS-clause-value
returns-then-zeros-gt-MOST_DIGITS-clause-value c = is_great c.args.magnitude c.args.zeros c.if-magnitude-eq0.false c.if-zeros-gt-MOST_DIGITS.true
