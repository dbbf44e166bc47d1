use Rattle.std.proofs.Common.{◌++◌, true, ap, subst, sym, ◌∙◌}
use Rattle.jsonb_spec.specs.Text.{tree_text}
use Rattle.text_scan.specs.Answer.{Fails, grammar_of}
use Rattle.jsonb_spec.specs.Parsing.Document.{source_of}
use Rattle.jsonb_spec.specs.Source.{tree_of_source}
use Rattle.jsonb_spec.specs.Text.SourceText.{source_text}
use Rattle.text_parse.specs.Handler.{Misses}
use Rattle.jsonb.proofs.Documents.Agreement.{fault_fails, fault_rejects}
use Rattle.jsonb.proofs.Documents.Straight.{returned, same_only, source_parsed, text_there}
use Rattle.jsonb.proofs.parser.straight.write_form.Goals as goal

pub returns-in-Ok-clause-appends : goal.returns-in-Ok-clause-appends
returns-in-Ok-clause-appends c =
    let mode = grammar_of c.args.grammar in
    let text = c.args.text.now in
    let read = c.in-Ok.ensures.parses c.requires.holds in
    let parsed = source_parsed mode text read.0 read.2 in
    let bytes = returned c.finish.result (sym c.is_err.ensures.value ∙ c.if-is_err.false) c.finish.ensures.ok text read.0 read.1 ∙ ap (λ front. front ++ source_text read.0) (same_only c.in-Ok.ensures.base) in
    record {
      tree = tree_of_source read.0;
      parsed = parsed;
      appended = record { bytes = tree_text (tree_of_source read.0); is_text = text_there mode text (tree_of_source read.0) parsed.document; appended = bytes };
    }

fault_reported : (c : goal.In-Some) → Fails c.in-Some.error (source_of (grammar_of c.args.grammar) c.args.text.now)
fault_reported c = subst (λ reported. Misses true reported (source_of (grammar_of c.args.grammar) c.args.text.now)) c.in-Some.is (c.in-Err.ensures.parses c.requires.holds)

pub returns-in-Some-clause-rejects : goal.returns-in-Some-clause-rejects
returns-in-Some-clause-rejects c = fault_rejects (grammar_of c.args.grammar) c.args.text.now c.in-Some.error (fault_reported c)

pub returns-in-Some-clause-follows : goal.returns-in-Some-clause-follows
returns-in-Some-clause-follows c = fault_fails (grammar_of c.args.grammar) c.args.text.now c.in-Some.error (fault_reported c)
