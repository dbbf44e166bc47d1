use Rattle.std.proofs.Common.{◌∙◌, ◌++◌, [], true, drop, get_or, inl, ap, map, rules, string_bytes, subst}
use Rattle.std.specs.Option.{option_map, unwrap_or}
use Rattle.jsonb_spec.specs.Text.{tree_text}
use Rattle.jsonb_spec.specs.Parsing.Memory.{MayAllocate}
use Rattle.text_scan.specs.Answer.{grammar_of}
use Rattle.jsonb_spec.specs.Parsing.Document.{source_of}
use Rattle.jsonb_spec.specs.Source.{tree_of_source}
use Rattle.jsonb_spec.specs.PartAt.{part_at}
use Rattle.text_write.specs.PartSink.{part_of}
use Rattle.text_write.proofs.PartSinks.{filled_root}
use Rattle.text_parse.specs.Handler.{Misses}
use Rattle.jsonb.proofs.Documents.Agreement.{fault_fails, fault_rejects}
use Rattle.jsonb.proofs.Documents.Parts.{part_ended}
use Rattle.jsonb.proofs.Documents.Straight.{source_parsed, text_there}
use Rattle.jsonb.proofs.parser.part.append_part.Goals as goal

pub returns-in-Ok-clause-ok : goal.returns-in-Ok-clause-ok
returns-in-Ok-clause-ok c =
    let mode = grammar_of c.args.grammar in
    let text = c.args.text.now in
    let sink = c.parse_text.new.sink in
    let read = c.in-Ok.ensures.parses c.new-sink.ensures.holds in
    let tree = tree_of_source read.0 in
    let parsed = source_parsed mode text read.0 read.2 in
    let base = c.in-Ok.ensures.base ∙ c.new-sink.ensures.base in
    let before = ap (λ l. get_or l 0 []) base ∙ ap (λ v. v.items) c.replace-out.ensures.value in
    part_ended mode text (map string_bytes c.args.path.now) tree c.args.buf.now.items c.into_buffer.result.items (drop sink.text.base sink.text.written.out.items) sink.found parsed (text_there mode text tree parsed.document)
    (filled_root read.1 ∙ ap (λ keys. option_map tree_text (part_at keys tree)) (ap (drop 1) base)) (c.into_buffer.ensures ∙ ap (λ front. front ++ unwrap_or (part_of sink) []) before)

-- what goes past the test of the text may take memory
pub returns-in-Some-clause-memory : goal.returns-in-Some-clause-memory
returns-in-Some-clause-memory c = let may : MayAllocate c.args.text.now = search rules in λ _. inl may

pub returns-in-Some-clause-rejects : goal.returns-in-Some-clause-rejects
returns-in-Some-clause-rejects c = fault_rejects (grammar_of c.args.grammar) c.args.text.now c.in-Some.error (subst (λ reported. Misses true reported (source_of (grammar_of c.args.grammar) c.args.text.now)) c.in-Some.is (c.in-Err.ensures.parses c.new-sink.ensures.holds))

pub returns-in-Some-clause-follows : goal.returns-in-Some-clause-follows
returns-in-Some-clause-follows c = fault_fails (grammar_of c.args.grammar) c.args.text.now c.in-Some.error (subst (λ reported. Misses true reported (source_of (grammar_of c.args.grammar) c.args.text.now)) c.in-Some.is (c.in-Err.ensures.parses c.new-sink.ensures.holds))
