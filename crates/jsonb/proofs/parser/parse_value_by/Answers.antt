use Rattle.std.proofs.Common.{rules, Ok}
use Rattle.jsonb_spec.specs.Grammar.{IsDocument}
use Rattle.jsonb_spec.specs.Proper.{IsProper}
use Rattle.jsonb_spec.specs.Text.Range.{IsInRangeOf}
use Rattle.jsonb_value.specs.View.{view}
use Rattle.jsonb_core.proofs.Trees.RangeTexts.{document_in_range}
use Rattle.text_scan.specs.Answer.{grammar_of}
use Rattle.jsonb.proofs.Documents.Agreement.{document_built, gives_all, gives_as_specified}
use Rattle.text_parse.proofs.Steps.Outcomes.{value_has}
use Rattle.jsonb.proofs.parser.parse_value_by.Goals as goal

pub returns-in-Err-clause-in_range : goal.returns-in-Err-clause-in_range
returns-in-Err-clause-in_range g c =
    let mode = grammar_of c.args.grammar in
    value_has (λ v. IsDocument mode c.args.buf.now (view v)) (λ v. IsInRangeOf mode (view v)) c.value_of_tree.result (λ v d. (document_in_range mode c.args.buf.now (view v) d).0) c.value_of_tree.ensures.parses.document

pub returns-in-Err-clause-proper : goal.returns-in-Err-clause-proper
returns-in-Err-clause-proper g c =
    let mode = grammar_of c.args.grammar in
    value_has (λ v. IsDocument mode c.args.buf.now (view v)) (λ v. IsProper (view v)) c.value_of_tree.result (λ v d. (document_in_range mode c.args.buf.now (view v) d).1) c.value_of_tree.ensures.parses.document

pub returns-in-Ok-clause-parses : goal.returns-in-Ok-clause-parses
returns-in-Ok-clause-parses g c =
    let mode = grammar_of c.args.grammar in
    let parses = c.in-Ok.ensures.parses tt in
    gives_all mode view c.args.buf.now (Ok c.in-Ok.made.value) (document_built mode c.args.buf.now (view c.in-Ok.made.value) parses.0 parses.1.0 parses.2) (search rules)

pub returns-in-Ok-clause-follows : goal.returns-in-Ok-clause-follows
returns-in-Ok-clause-follows g c =
    let mode = grammar_of c.args.grammar in
    let parses = c.in-Ok.ensures.parses tt in
    gives_as_specified mode view c.args.buf.now (Ok c.in-Ok.made.value) (document_built mode c.args.buf.now (view c.in-Ok.made.value) parses.0 parses.1.0 parses.2)

pub returns-in-Ok-clause-in_range : goal.returns-in-Ok-clause-in_range
returns-in-Ok-clause-in_range g c = (document_in_range (grammar_of c.args.grammar) c.args.buf.now (view c.in-Ok.made.value) (returns-in-Ok-clause-parses g c).document).0

pub returns-in-Ok-clause-proper : goal.returns-in-Ok-clause-proper
returns-in-Ok-clause-proper g c = (document_in_range (grammar_of c.args.grammar) c.args.buf.now (view c.in-Ok.made.value) (returns-in-Ok-clause-parses g c).document).1
