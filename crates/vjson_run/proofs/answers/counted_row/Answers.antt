use Rattle.std.proofs.Common.{◌<◌, ◌≤◌, ◌∙◌, [], ap, get_or, length, refl, subst}
use Rattle.vjson_run.proofs.Parts.{all_counted, next_counted}
use Rattle.vjson_run.proofs.answers.counted_row.Goals as goal

pub parts-init : goal.parts-init
parts-init c = ([], tt, c.new-row.ensures.items)

pub parts-preserved : goal.parts-preserved
parts-preserved c =
    let same = c.deref-part-items.ensures.value in
    next_counted c.args.options.now.grammar c.args.text.now c.args.options.now.by.items c.parts.part-index c.part-item.result c.parts.row.items c.append_counted.new.row.items
    (subst (λ l. c.parts.part-index < length l) same c.parts-test.true) (c.part-item.is ∙ ap (λ l. get_or l c.parts.part-index c.part-item.result) same)
    c.parts.invariant c.in_ok-append_counted.ensures.ok

pub returns-clause-ok : goal.returns-clause-ok
returns-clause-ok c = all_counted c.args.options.now c.args.text.now c.args.options.now.by.items c.parts.part-index c.parts.row.items refl
    (subst (λ l. length l ≤ c.parts.part-index) c.deref-part-items.ensures.value c.parts-test.false) c.parts.invariant
