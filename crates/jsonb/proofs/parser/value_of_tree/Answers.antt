use Rattle.std.proofs.Common.{rules, true, Err, subst}
use Rattle.jsonb_value.specs.View.{view}
use Rattle.text_parse.specs.Handler.{Misses}
use Rattle.text_scan.specs.Answer.{Fails, grammar_of}
use Rattle.jsonb_spec.specs.Parsing.Document.{source_of}
use Rattle.jsonb.proofs.Documents.Agreement.{gives_all, gives_as_specified, gives_tree}
use Rattle.jsonb.proofs.Documents.Markers.{document_opened}
use Rattle.text_parse.proofs.Steps.Outcomes.{rejected_container}
use Rattle.jsonb.proofs.parser.value_of_tree.Goals as goal

fault_reported : (c : goal.In-Some) → Fails c.in-Some.error (source_of (grammar_of c.args.grammar) c.args.buf.now)
fault_reported c = subst (λ reported. Misses true reported (source_of (grammar_of c.args.grammar) c.args.buf.now)) c.in-Some.is c.requires.misses

pub returns-in_ok-parse_in-in-None : goal.returns-in_ok-parse_in-in-None
returns-in_ok-parse_in-in-None c = record {
  parses = gives_all (grammar_of c.args.grammar) view c.args.buf.now c.into_value.result (search rules) (λ is. document_opened (grammar_of c.args.grammar) c.args.buf.now _ c.in_ok-parse_in-in-None.ensures.parses.document (rejected_container _ c.into_value.result c.into_value.ensures.memory is));
  follows = gives_as_specified (grammar_of c.args.grammar) view c.args.buf.now c.into_value.result (search rules);
}

pub returns-in-Some : goal.returns-in-Some
returns-in-Some c = record {
  parses = gives_all (grammar_of c.args.grammar) view c.args.buf.now (Err c.in-Some.error) (gives_tree (grammar_of c.args.grammar) c.args.buf.now (Err c.in-Some.error) (fault_reported c)) (search rules);
  follows = gives_as_specified (grammar_of c.args.grammar) view c.args.buf.now (Err c.in-Some.error) (gives_tree (grammar_of c.args.grammar) c.args.buf.now (Err c.in-Some.error) (fault_reported c));
}
