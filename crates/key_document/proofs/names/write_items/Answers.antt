use Rattle.std.proofs.Common.{◌≡◌, [], ◌∷◌, None, Some, length, refl, sym, ap}
use Rattle.jsonb_spec.specs.SortKey.{items_key, key_of}
use Rattle.jsonb_spec.specs.Tree.{array}
use Rattle.jsonb_spec.specs.Document.Counts.{counts_at, counts_at_items}
use Rattle.key_text.proofs.Appending.{preserves_on, retained}
use Rattle.jsonb_spec.specs.Edit.LeftOut.{items_beside}
use Rattle.key_text.proofs.Counts.{one_each}
use Rattle.key_document.proofs.NamesLeft.{item_first, item_goes_wrong, item_here, item_ready, items_begun, next_items, no_items}
use Rattle.key_document.proofs.Retained.{answer_finished}
use Rattle.key_document.proofs.names.write_items.Goals as goal
use Rattle.key_document.proofs.Reaching.{some_none}

pub items-init : goal.items-init
items-init c = record { left = λ ts h ns i e f b. items_begun ts ns c.args.begun.now c.args.key.now c.args.out.now.items h e b; preserves = retained c.args.out.now }

pub returns-in_err-retaining-clause-written : goal.returns-in_err-retaining-clause-written
returns-in_err-retaining-clause-written c = λ ts h ns i e f b.
    let first = c.args.begun.now.output in
    let old = c.args.out.now.items in
    let v = array (items_beside ns ts) in
    let n = item_first first ts ns c.items.retaining c.items.items.now old c.items.out.items (c.items.invariant.left ts h ns i e f b) (λ more g. some_none (c.in-Some.ensures.over more g)) in
    let x = c.in-Some.ensures.next n.item n.readable n.others [] n.occurs in
    let gone = c.is_name.ensures ns (c.gather-others.ensures ns i f) n.item n.readable x.0 in
    let y = c.in_err-retaining.ensures.passed first (key_of v) (counts_at v) (key_of n.item) (counts_at n.item) (counts_at_items n.others) (items_key (items_beside ns n.others)) (counts_at_items (items_beside ns n.others)) old
    (item_here first ts ns c.items.retaining c.items.items.now old c.items.out.items n c.in-Some.rest.now x.1) (one_each n.item n.readable.proper)
    (item_ready first ts ns c.items.retaining c.items.items.now old c.items.out.items n c.is_name.result gone) in
    item_goes_wrong first ts ns c.items.retaining c.items.items.now old c.items.out.items n c.is_name.result c.from_residual.result c.in_err-retaining.field-0.0 c.args.out.now c.items.out c.pass_bytes.new.out gone refl c.from_residual.ensures.1 c.items.invariant.preserves.capacity y

pub items-preserved : goal.items-preserved
items-preserved c = record {
  left = λ ts h ns i e f b.
      let first = c.args.begun.now.output in
      let old = c.args.out.now.items in
      let v = array (items_beside ns ts) in
      let n = item_first first ts ns c.items.retaining c.items.items.now old c.items.out.items (c.items.invariant.left ts h ns i e f b) (λ more g. some_none (c.in-Some.ensures.over more g)) in
      let x = c.in-Some.ensures.next n.item n.readable n.others [] n.occurs in
      let gone = c.is_name.ensures ns (c.gather-others.ensures ns i f) n.item n.readable x.0 in
      let y = c.in_ok-retaining.ensures.passed first (key_of v) (counts_at v) (key_of n.item) (counts_at n.item) (counts_at_items n.others) (items_key (items_beside ns n.others)) (counts_at_items (items_beside ns n.others)) old
      (item_here first ts ns c.items.retaining c.items.items.now old c.items.out.items n c.in-Some.rest.now x.1) (one_each n.item n.readable.proper)
      (item_ready first ts ns c.items.retaining c.items.items.now old c.items.out.items n c.is_name.result gone) in
      next_items first ts ns c.items.retaining c.items.items.now old c.items.out.items n c.in-Some.rest.now c.in_ok-retaining.retaining c.is_name.result c.pass_bytes.new.out.items gone x.1 y;
  preserves = preserves_on c.args.out.now c.items.out c.pass_bytes.new.out c.items.invariant.preserves c.in_ok-retaining.ensures.preserves;
}

pub returns-clause-written : goal.returns-clause-written
returns-clause-written c = λ ts h ns i e f b.
    let first = c.args.begun.now.output in
    let old = c.args.out.now.items in
    let v = array (items_beside ns ts) in
    let n = no_items first ts ns c.items.retaining c.items.items.now old c.items.out.items (c.items.invariant.left ts h ns i e f b) (λ t r us more g. c.in_default.ensures.next t r us more g) in
    answer_finished first v _ c.items.retaining.found c.finish.result c.args.out.now c.items.out c.finish.new.out n.any_is c.items.invariant.preserves.capacity
    (c.finish.ensures.finished first v c.items.items.now (0 ∷ []) old (sym (ap length n.left_is)) n.retains)
