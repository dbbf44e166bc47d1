use Rattle.std.proofs.Common.{rules, inr, sym, ◌∙◌}
use Rattle.std.specs.Vec.{vec_capacity, vec_len}
use Rattle.jsonb_value.specs.View.{view}
use Rattle.text_scan.specs.Answer.{grammar_of}
use Rattle.jsonb.proofs.Documents.Straight.{text_lacks}
use Rattle.jsonb.proofs.parser.straight.append_text_of_value.Goals as goal
use Rattle.jsonb.proofs.parser.straight.append_text_of_value.Goals.{in-Ok, in-Err}

pub returns-clause-appends : goal.returns-clause-appends
returns-clause-appends c = record {
  ok = search rules;
  err = search rules;
  memory = λ is. elim c.match-written.branch [
    | in-Ok w ↦ absurd (let both = sym w.result-is ∙ is in cc)
    | in-Err w ↦
        inr (text_lacks (grammar_of c.args.grammar) c.args.text.now (view c.in_ok-value.value) c.write_text-written.result w.in-Err.field-0 (vec_capacity c.args.buf.now) (vec_len c.args.buf.now) c.in_ok-value.ensures.parses.document w.in-Err.is c.write_text-written.ensures.errors c.write_text-written.ensures.rejected
        c.write_text-written.ensures.full)
  ];
  capacity = search rules;
}
