use Rattle.std.proofs.Common.{◌≡◌, subst, sym, refl, arith}
use Rattle.jsonb_spec.specs.Accessors.{trees_len}
use Rattle.jsonb_spec.specs.SortKey.Found.{item_back}
use Rattle.key_walk.specs.Found.{Finds}
use Rattle.jsonb_spec.specs.SortKey.Open.{items}
use Rattle.key_walk.proofs.Occurrence.{found_none, no_count, same_count, some_back, none_back}
use Rattle.key_walk.proofs.find.item_from_end.Goals as goal

pub returns-in_err-count-clause-found : goal.returns-in_err-count-clause-found
returns-in_err-count-clause-found c = λ ts p w more e. absurd (no_count _ _ (c.in_err-count.ensures.counted (items ts) refl (p, w) more e))

pub returns-in-Some-clause-found : goal.returns-in-Some-clause-found
returns-in-Some-clause-found c = λ ts p w more e.
    let same : c.in_ok-count.count ≡ trees_len ts = same_count _ _ (c.in_ok-count.ensures.counted (items ts) refl (p, w) more e) in
    subst (λ part. Finds c.args.items.now part c.item_at.result) (sym (some_back ts c.args.back c.in-Some.index (omega (arith, same, c.in-Some.ensures)))) (c.item_at.ensures.found ts p w more e)

pub returns-in-None-clause-found : goal.returns-in-None-clause-found
returns-in-None-clause-found c = λ ts p w more e.
    let same : c.in_ok-count.count ≡ trees_len ts = same_count _ _ (c.in_ok-count.ensures.counted (items ts) refl (p, w) more e) in
    found_none c.args.items.now (item_back ts c.args.back) (none_back ts c.args.back (omega (arith, same, c.in-None.ensures)))
