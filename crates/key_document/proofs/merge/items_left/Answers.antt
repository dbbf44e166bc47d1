use Rattle.std.proofs.Common.{◌<◌, ◌^◌, length, ap, subst, arith, length-append}
use Rattle.jsonb_spec.specs.Document.Numbers.{Pends}
use Rattle.jsonb_spec.specs.Edit.{as_items}
use Rattle.jsonb_spec.specs.Document.Counts.{counts_of_items, counts_at}
use Rattle.key_text.proofs.Counts.{one_each}
use Rattle.key_document.proofs.ItemsJoined.{items_long, items_passed, items_within}
use Rattle.key_document.proofs.merge.items_left.Goals as goal

pub returns-in_err-all : goal.returns-in_err-all
returns-in_err-all c = record { found = λ t r e z. absurd (c.in_err-all.ensures.found (counts_at t) (omega (arith, ap length e, one_each t r.proper)) z) }

pub returns-in_err-left : goal.returns-in_err-left
returns-in_err-left c = record {
  found = λ t r e z.
      let small : length (counts_at t) < 2 ^ 63 = omega (arith, ap length e, one_each t r.proper) in
      absurd (c.in_err-left.ensures.found (counts_at t) small (c.in_ok-all.ensures.found (counts_at t) small z) (omega (arith, items_long t, c.edge_of-edge.ensures.edge t r e)));
}

pub returns : goal.returns
returns c = record {
  found = λ t r e z.
      let small : length (counts_at t) < 2 ^ 63 = omega (arith, ap length e, one_each t r.proper) in
      let edge = c.edge_of-edge.ensures.edge t r e in
      let passed = items_passed t c.edge_of-edge.result edge in
      let pends = c.in_ok-left.ensures.found (counts_at t) small (c.in_ok-all.ensures.found (counts_at t) small z) (omega (arith, items_long t, edge)) in
      record {
        behind = (items_within t).behind;
        size_is = omega (arith, c.saturating_sub-size.ensures, c.saturating_sub.ensures, edge, items_long t, ap length e, one_each t r.proper);
        pends = subst (λ l. Pends l c.in_ok-left.left) passed pends;
        short = omega (arith, small, items_long t, length-append (counts_of_items (as_items t)) (items_within t).behind, (items_within t).behind_is);
      };
}
