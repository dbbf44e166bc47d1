use Rattle.std.proofs.Common.{map, subst}
use Rattle.std.specs.Prelude.{string_bytes}
use Rattle.vjson_text.specs.Texts.{AppendsPartOf}
use Rattle.vjson_run.proofs.Parts.{counted_cell}
use Rattle.vjson_run.proofs.answers.append_counted.Goals as goal

pub returns-clause-ok : goal.returns-clause-ok
returns-clause-ok c = counted_cell c.args.grammar c.args.part.now c.args.text.now c.new-cell.result.items c.append_part.new.out.items c.deref-2.result.now c.args.row.now.items c.push.new.self.items c.extend_from_slice.new.self.items
    c.in_ok-append_part.field-0 c.new-cell.ensures.items
    (subst (λ p. AppendsPartOf c.args.grammar (map string_bytes p) c.args.text.now c.new-cell.result.items c.append_part.new.out.items c.in_ok-append_part.field-0) c.deref.ensures.value c.in_ok-append_part.ensures.ok)
    c.in_ok-push.ensures.items c.deref-2.ensures.value c.in_ok-extend_from_slice.ensures.items
