use Rattle.std.proofs.Common.{◌∷◌, ◌++◌, [], ◌∙◌, ap, map}
use Rattle.std.specs.Prelude.{string_bytes}
use Rattle.vjson_run.proofs.Parts.{given_cell, shown_cell}
use Rattle.vjson_run.proofs.answers.append_cell.Goals as goal

pub returns-then-found-clause-ok : goal.returns-then-found-clause-ok
returns-then-found-clause-ok c = shown_cell c.args.options.now (map string_bytes c.args.path.now) c.args.text.now c.find_part.new.buffers.part.items c.deref.result.now c.args.buffers.now.row.items c.push.new.self.items c.append_shown.new.row.items
    c.separator.result c.in_ok-found.found c.if-found.true c.in_ok-found.ensures.ok c.deref.ensures.value c.separator.ensures
    (c.in_ok-push.ensures.items ∙ ap (λ b. b.row.items ++ c.separator.result ∷ []) c.find_part.ensures.others) c.in_ok-append_shown.ensures.ok

pub returns-clause-ok : goal.returns-clause-ok
returns-clause-ok c = given_cell c.args.options.now (map string_bytes c.args.path.now) c.args.text.now c.find_part.new.buffers.part.items c.in-Some.default c.as_bytes.result.now c.args.buffers.now.row.items c.push-2.new.self.items
    c.extend_from_slice.new.self.items c.separator-2.result c.in_ok-found.found c.if-found.false c.in_ok-found.ensures.ok c.in-Some.is c.as_bytes.ensures.value c.separator-2.ensures
    (c.in_ok-push-2.ensures.items ∙ ap (λ b. b.row.items ++ c.separator-2.result ∷ []) c.find_part.ensures.others) c.in_ok-extend_from_slice.ensures.items
