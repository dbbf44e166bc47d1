use Rattle.std.proofs.Common.{rules}
use Rattle.text_scan.specs.Answer.{grammar_of}
use Rattle.jsonb_c.proofs.Reasons.{reason_says}
use Rattle.jsonb_c.proofs.value_of.Goals as goal

pub returns-in-Err-clause-fails : goal.returns-in-Err-clause-fails
returns-in-Err-clause-fails c = record {
  reason = reason_says c.args.mode (grammar_of c.in-Some.grammar) c.args.text.now c.args.which c.in-Err.error c.reason_of.result c.in-Some.ensures c.in-Err.ensures.parses.rejected c.in-Err.ensures.follows.exact c.in-Err.ensures.follows.explained
      c.reason_of.ensures;
  memory = search rules;
}
