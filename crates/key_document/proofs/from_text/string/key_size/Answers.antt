use Rattle.std.proofs.Common.{◌+◌, ◌∷◌, length, sym, subst, ap, ◌∙◌, arith, length-append}
use Rattle.std.specs.List.{flat_map}
use Rattle.jsonb_spec.specs.SortKey.{byte_key}
use Rattle.jsonb_spec.specs.Text.StringText.{ArePlain}
use Rattle.key_document.proofs.Items.{item_counted, run_counted, some_byte, some_item, split_is, string_over}
use Rattle.key_document.proofs.from_text.string.key_size.Goals as goal

pub returns-in_default-clause-found : goal.returns-in_default-clause-found
returns-in_default-clause-found c = λ text more e.
    let s = run_counted c.args.bytes.now c.items.rest.now c.split_at.result.0.now c.split_at.result.1.now c.items.size (split_is c.plain_len.result c.items.rest.now c.split_at.result.0.now c.split_at.result.1.now c.split_at.ensures.front c.split_at.ensures.back) (subst ArePlain (sym c.split_at.ensures.front) c.plain_len.ensures.plain) c.items.invariant.counts text more e in
    some_byte c.split_at.result.1.now s.left more s.occurs c.in_default.ensures.cases

pub returns-then-byte-eq34-clause-found : goal.returns-then-byte-eq34-clause-found
returns-then-byte-eq34-clause-found c = λ text more e.
    let s = run_counted c.args.bytes.now c.items.rest.now c.split_at.result.0.now c.split_at.result.1.now c.items.size (split_is c.plain_len.result c.items.rest.now c.split_at.result.0.now c.split_at.result.1.now c.split_at.ensures.front c.split_at.ensures.back) (subst ArePlain (sym c.split_at.ensures.front) c.plain_len.ensures.plain) c.items.invariant.counts text more e in
    let over = string_over c.split_at.result.1.now c.in-Some.behind.now s.left more (c.in-Some.ensures.cases.0 ∙ ap (λ b. b ∷ c.in-Some.behind.now) c.if-byte-eq34.true) s.occurs in
    (omega (arith, s.counted, ap (λ l. length (flat_map byte_key l)) over.0), over.1)

pub returns-in_default-read_item-clause-found : goal.returns-in_default-read_item-clause-found
returns-in_default-read_item-clause-found c = λ text more e.
    let s = run_counted c.args.bytes.now c.items.rest.now c.split_at.result.0.now c.split_at.result.1.now c.items.size (split_is c.plain_len.result c.items.rest.now c.split_at.result.0.now c.split_at.result.1.now c.split_at.ensures.front c.split_at.ensures.back) (subst ArePlain (sym c.split_at.ensures.front) c.plain_len.ensures.plain) c.items.invariant.counts text more e in
    some_item c.split_at.result.1.now s.left more c.in-Some.byte.now c.in-Some.behind.now s.occurs c.in-Some.ensures.cases.0 c.if-byte-eq34.false c.in_default-read_item.ensures.exact

pub items-preserved : goal.items-preserved
items-preserved c =
    let is = split_is c.plain_len.result c.items.rest.now c.split_at.result.0.now c.split_at.result.1.now c.split_at.ensures.front c.split_at.ensures.back in
    record {
      counts = item_counted c.args.bytes.now c.split_at.result.1.now (c.items.size + length c.split_at.result.0.now) c.in-Some.byte.now c.in-Some.behind.now c.in-Some-read_item.byte c.in-Some-read_item.behind.now
          (c.items.size + length c.split_at.result.0.now + c.byte_size-size.result) c.in-Some.ensures.cases.0 c.if-byte-eq34.false c.in-Some-read_item.ensures.exact (omega (arith, c.byte_size-size.ensures.exact))
          (run_counted c.args.bytes.now c.items.rest.now c.split_at.result.0.now c.split_at.result.1.now c.items.size is (subst ArePlain (sym c.split_at.ensures.front) c.plain_len.ensures.plain) c.items.invariant.counts);
      size_within = omega (arith, c.items.invariant.size_within, c.byte_size-size.ensures.few, c.in-Some-read_item.ensures.shorter, ap length is, length-append c.split_at.result.0.now c.split_at.result.1.now);
      within = omega (arith, c.items.invariant.within, c.in-Some-read_item.ensures.shorter, ap length is, length-append c.split_at.result.0.now c.split_at.result.1.now);
    }
