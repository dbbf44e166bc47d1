use Rattle.std.proofs.Common.{rules, true, ◌++◌, inl, ap, subst, sym, ◌∙◌}
use Rattle.text_scan.specs.Answer.{Fails, grammar_of}
use Rattle.jsonb_spec.specs.Parsing.Memory.{MayAllocate}
use Rattle.jsonb_spec.specs.Parsing.Document.{source_of}
use Rattle.jsonb_spec.specs.Source.{tree_of_source}
use Rattle.jsonb_spec.specs.SortKey.Joined.{source_key}
use Rattle.text_parse.specs.Handler.{Misses}
use Rattle.jsonb.proofs.Documents.Agreement.{fault_fails, fault_rejects}
use Rattle.jsonb.proofs.Documents.Straight.{returned, source_parsed, same_only}
use Rattle.jsonb.proofs.parser.straight.append_sort_key.Goals as goal

pub returns-in-Ok-clause-appends : goal.returns-in-Ok-clause-appends
returns-in-Ok-clause-appends c =
    let mode = grammar_of c.args.grammar in
    let text = c.args.text.now in
    let read = c.in-Ok.ensures.parses c.new-sink.ensures.holds in
    let parsed = source_parsed mode text read.0 read.2 in
    let before = same_only c.in-Ok.ensures.base ∙ c.new-sink.ensures.base ∙ ap (λ v. v.items) c.replace-out.ensures.value in
    let bytes = c.into_buffer.ensures ∙ returned c.finish.result (sym c.is_err.ensures.value ∙ c.if-is_err.false) c.finish.ensures.ok text read.0 read.1 ∙ ap (λ front. front ++ source_key read.0) before in
    -- what goes past the test of the text may take memory
    let may : MayAllocate text = search rules in
    record {
      ok = record { tree = tree_of_source read.0; parsed = parsed; appended = bytes };
      err = tt;
      memory = λ _. inl may;
      capacity = inl may;
    }

fault_reported : (c : goal.In-Some) → Fails c.in-Some.error (source_of (grammar_of c.args.grammar) c.args.text.now)
fault_reported c = subst (λ reported. Misses true reported (source_of (grammar_of c.args.grammar) c.args.text.now)) c.in-Some.is (c.in-Err.ensures.parses c.new-sink.ensures.holds)

pub returns-in-Some-clause-rejects : goal.returns-in-Some-clause-rejects
returns-in-Some-clause-rejects c = fault_rejects (grammar_of c.args.grammar) c.args.text.now c.in-Some.error (fault_reported c)

pub returns-in-Some-clause-appends : goal.returns-in-Some-clause-appends
returns-in-Some-clause-appends c = let may : MayAllocate c.args.text.now = search rules in record { ok = tt; err = search rules; memory = λ _. inl may; capacity = inl may }

pub returns-then-is_err-clause-appends : goal.returns-then-is_err-clause-appends
returns-then-is_err-clause-appends c = let may : MayAllocate c.args.text.now = search rules in record { ok = tt; err = search rules; memory = λ _. inl may; capacity = inl may }

pub returns-clause-appends : goal.returns-clause-appends
returns-clause-appends c = let may : MayAllocate c.args.text.now = search rules in record { ok = search rules; err = search rules; memory = λ _. inl may; capacity = inl may }

-- what goes another way is as it is there
pub returns-then-not-may_allocate : goal.returns-then-not-may_allocate
returns-then-not-may_allocate c = c.append_sort_key_of_value.ensures

pub returns-in-Some-clause-follows : goal.returns-in-Some-clause-follows
returns-in-Some-clause-follows c = fault_fails (grammar_of c.args.grammar) c.args.text.now c.in-Some.error (fault_reported c)
