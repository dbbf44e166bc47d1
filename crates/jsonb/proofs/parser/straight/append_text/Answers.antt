use Rattle.std.proofs.Common.{rules, ◌≡◌, inl, ap, subst, sym, ◌∙◌, OnErr, OnOk}
use Rattle.jsonb_spec.specs.Parsing.Memory.{MayAllocate}
use Rattle.text_scan.specs.Answer.{grammar_of}
use Rattle.text_write.specs.TextSink.{base_of}
use Rattle.jsonb_spec.specs.Parsing.Appends.{AppendsTextOf}
use Rattle.jsonb.proofs.parser.straight.append_text.Goals as goal

pub returns-clause-appends : goal.returns-clause-appends
returns-clause-appends c =
    let text = c.args.text.now in
    let result = c.write_form-written.result in
    let out = c.into_buffer.result.items in
    let sink = c.new-sink.result in
    let before : base_of sink ≡ c.args.buf.now.items = c.new-sink.ensures.base ∙ ap (λ v. v.items) c.replace-out.ensures.value in
    -- what goes past the test of the text may take memory
    let may : MayAllocate text = search rules in
    record {
      ok = subst (λ old. OnOk result (AppendsTextOf (grammar_of c.args.grammar) text old out)) before
          (subst (λ new. OnOk result (AppendsTextOf (grammar_of c.args.grammar) text (base_of sink) new)) (sym (ap (λ v. v.items) c.into_buffer.ensures)) c.write_form-written.ensures.appends);
      err = subst (λ old. OnErr result (out ≡ old)) before (subst (λ new. OnErr result (new ≡ base_of sink)) (sym (ap (λ v. v.items) c.into_buffer.ensures)) c.write_form-written.ensures.preserves);
      memory = λ _. inl may;
      capacity = inl may;
    }

-- what goes another way is as it is there
pub returns-then-not-may_allocate : goal.returns-then-not-may_allocate
returns-then-not-may_allocate c = c.append_text_of_value.ensures
