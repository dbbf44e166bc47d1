use Rattle.std.proofs.Common.{inr, map, string_bytes, sym, ◌∙◌}
use Rattle.std.specs.Vec.{vec_capacity, vec_len}
use Rattle.jsonb_value.specs.View.{view}
use Rattle.text_scan.specs.Answer.{grammar_of}
use Rattle.jsonb.proofs.Documents.Parts.{part_lacks}
use Rattle.jsonb.proofs.parser.part.append_part_of_value.Goals as goal
use Rattle.jsonb.proofs.parser.part.append_part_of_value.Goals.{in-Ok, in-Err}

pub returns-clause-memory : goal.returns-clause-memory
returns-clause-memory c = λ is. elim c.match-written.branch [
  | in-Ok w ↦ absurd (let both = sym w.result-is ∙ is in cc)
  | in-Err w ↦
      inr (part_lacks (grammar_of c.args.grammar) c.args.text.now (view c.in_ok-value.value) (map string_bytes c.args.path.now) (view c.in-Some.part.now) c.write_text-written.result w.in-Err.field-0 (vec_capacity c.args.buf.now) (vec_len c.args.buf.now) c.in_ok-value.ensures.parses.document (sym c.in-Some.ensures.computed) w.in-Err.is c.write_text-written.ensures.errors c.write_text-written.ensures.rejected
      c.write_text-written.ensures.full)
]
