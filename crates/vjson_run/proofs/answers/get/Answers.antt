use Rattle.std.proofs.Common.{inr, map, refl, subst}
use Rattle.std.specs.Prelude.{string_bytes}
use Rattle.vjson_run.proofs.Lists.{where_false, where_true}
use Rattle.vjson_run.proofs.Parts.{cells_one, first_cells, found_row, lacks_first, lacks_other, next_cells}
use Rattle.vjson_run.specs.Answers.{AppendsCell}
use Rattle.jsonb_spec.specs.Program.Printed.{first_keys}
use Rattle.vjson_run.specs.Keys.{LacksPart}
use Rattle.vjson_run.proofs.answers.get.Goals as goal

pub paths-init : goal.paths-init
paths-init c = first_cells c.args.options.now c.args.text.now (map string_bytes c.first_path.result.now) (first_keys c.args.options.now.paths.items) c.clear.new.self.items c.append_cell.new.buffers.row.items c.clear.ensures.items c.first_path.ensures
    (where_true _ _ c.in_ok-found.found c.if-not-found.false c.in_ok-found.ensures.ok)

pub paths-preserved : goal.paths-preserved
paths-preserved c = next_cells c.args.options.now c.args.text.now (first_keys c.args.options.now.paths.items) c.other_paths-path-items.result.now c.paths.path-index c.path-item.result c.paths.buffers.row.items c.append_cell-in-paths.new.buffers.row.items
    c.paths-test.true c.path-item.is c.paths.invariant
    (subst (λ p. AppendsCell c.args.options.now (map string_bytes p) c.args.text.now c.paths.buffers.row.items c.append_cell-in-paths.new.buffers.row.items) c.deref.ensures.value
    (where_true _ _ c.in_ok-found-2.found c.if-not-found-2.false c.in_ok-found-2.ensures.ok))

pub returns-then-not-found-clause-ok : goal.returns-then-not-found-clause-ok
returns-then-not-found-clause-ok c =
    let p = where_false _ _ c.in_ok-found.found c.if-not-found.true c.in_ok-found.ensures.ok in
    (lacks_first c.args.options.now c.args.text.now (map string_bytes c.first_path.result.now) c.first_path.ensures p.0, p.1, refl)

pub returns-then-not-found-2-clause-ok : goal.returns-then-not-found-2-clause-ok
returns-then-not-found-2-clause-ok c =
    let p = where_false _ _ c.in_ok-found-2.found c.if-not-found-2.true c.in_ok-found-2.ensures.ok in (
      lacks_other c.args.options.now c.args.text.now c.other_paths-path-items.result.now c.paths.path-index c.path-item.result c.other_paths-path-items.ensures c.paths-test.true c.path-item.is
          (subst (λ p. LacksPart c.args.options.now.grammar (map string_bytes p) c.args.text.now) c.deref.ensures.value p.0),
      p.1,
      refl,
    )

pub returns-clause-ok : goal.returns-clause-ok
returns-clause-ok c = found_row c.args.options.now c.args.text.now c.other_paths-path-items.result.now c.paths.path-index c.paths.buffers.row.items c.deref-2.result.now c.args.out.now.items c.print_row.new.out.items
    c.other_paths-path-items.ensures c.paths-test.false c.paths.invariant c.deref-2.ensures.value c.in_ok-print_row.ensures.ok

pub returns-in_err-print_row-clause-memory : goal.returns-in_err-print_row-clause-memory
returns-in_err-print_row-clause-memory c = λ _. inr (cells_one c.args.options.now c.args.text.now (first_keys c.args.options.now.paths.items) _ c.paths.buffers.row.items c.paths.invariant)
