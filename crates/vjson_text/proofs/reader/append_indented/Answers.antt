use Rattle.std.proofs.Common.{Err, ap, inr}
use Rattle.std.specs.Vec.{vec_capacity, vec_len}
use Rattle.jsonb_spec.specs.Indented.{indented_text}
use Rattle.jsonb_value.specs.View.{view}
use Rattle.vjson_text.proofs.Memory.{lines_lack}
use Rattle.vjson_text.proofs.reader.append_indented.Goals as goal

pub returns-clause-memory : goal.returns-clause-memory
returns-clause-memory c = λ is. inr (lines_lack c.args.grammar (indented_text c.args.width 0) c.args.text.now (view c.in-Ok.value) (vec_capacity c.args.out.now) (vec_len c.args.out.now) c.in-Err-write_text_indented.field-0
    c.in-Ok.ensures.parses.document c.in-Err-write_text_indented.ensures.errors
    (λ e. c.in-Err-write_text_indented.ensures.unexpected.0 (ap (λ x. Err x) e)) (λ e. c.in-Err-write_text_indented.ensures.full (ap (λ x. Err x) e)))
