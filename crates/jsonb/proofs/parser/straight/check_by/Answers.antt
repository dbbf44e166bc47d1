use Rattle.std.proofs.Common.{false, subst}
use Rattle.text_scan.specs.Answer.{grammar_of}
use Rattle.jsonb_spec.specs.Parsing.Document.{source_of}
use Rattle.jsonb_spec.specs.Source.{tree_of_source}
use Rattle.text_parse.specs.Handler.{Misses}
use Rattle.jsonb.proofs.Documents.Agreement.{fault_fails, fault_rejects}
use Rattle.jsonb.proofs.Documents.Straight.{source_parsed}
use Rattle.jsonb.proofs.parser.straight.check_by.Goals as goal

pub returns-in-Ok-clause-document : goal.returns-in-Ok-clause-document
returns-in-Ok-clause-document g c =
    let read = c.in-Ok.ensures.parses c.new-sink.ensures.holds in
    (tree_of_source read.0, source_parsed (grammar_of c.args.grammar) c.args.text.now read.0 read.2)

pub returns-in-Some-clause-rejects : goal.returns-in-Some-clause-rejects
returns-in-Some-clause-rejects g c =
    let reported = subst (λ reported. Misses false reported (source_of (grammar_of c.args.grammar) c.args.text.now)) c.in-Some.is (c.in-Err.ensures.parses c.new-sink.ensures.holds) in
    fault_rejects (grammar_of c.args.grammar) c.args.text.now c.in-Some.error reported

pub returns-in-Some-clause-follows : goal.returns-in-Some-clause-follows
returns-in-Some-clause-follows g c =
    let reported = subst (λ reported. Misses false reported (source_of (grammar_of c.args.grammar) c.args.text.now)) c.in-Some.is (c.in-Err.ensures.parses c.new-sink.ensures.holds) in
    fault_fails (grammar_of c.args.grammar) c.args.text.now c.in-Some.error reported
