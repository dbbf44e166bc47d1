use Rattle.std.proofs.Common.{sym, arith}
use Rattle.text_scan.proofs.Text.Comments.{line_at, line_nowhere}
use Rattle.text_scan.proofs.parser.whitespace.line_len.Goals as goal

pub returns-in-Some-clause-value : goal.returns-in-Some-clause-value
returns-in-Some-clause-value c = sym (line_at c.args.bytes.now c.in-Some.count c.in-Some.ensures.0.high c.in-Some.ensures.1 (λ k low. c.in-Some.ensures.0.before k (omega arith) low))

pub returns-in-None-clause-value : goal.returns-in-None-clause-value
returns-in-None-clause-value c = sym (line_nowhere c.args.bytes.now (λ k low. c.in-None.ensures k (omega arith) low))
