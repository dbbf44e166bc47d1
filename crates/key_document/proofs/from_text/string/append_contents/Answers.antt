use Rattle.std.proofs.Common.{◌∷◌, sym, subst, ap, ◌∙◌, arith}
use Rattle.jsonb_spec.specs.Text.StringText.{ArePlain}
use Rattle.key_text.proofs.Appending.{preserves_on, retained_by}
use Rattle.key_document.proofs.Items.{end_fits, end_written, item_fits, item_written, part_lacks, run_fits, run_written, some_byte, some_item, split_is}
use Rattle.key_document.proofs.from_text.string.append_contents.Goals as goal

pub returns-in_err-extend_from_slice-clause-found : goal.returns-in_err-extend_from_slice-clause-found
returns-in_err-extend_from_slice-clause-found c = λ text more e.
    let space = run_fits c.args.bytes.now c.items.rest.now c.split_at.result.0.now c.split_at.result.1.now c.args.out.now.items c.items.out.items (split_is c.plain_len.result c.items.rest.now c.split_at.result.0.now c.split_at.result.1.now c.split_at.ensures.front c.split_at.ensures.back) (subst ArePlain (sym c.split_at.ensures.front) c.plain_len.ensures.plain) c.items.invariant.writes text more e in
    part_lacks (λ x. Unit {0}) c.from_residual.result c.args.out.now c.extend_from_slice.new.self _ c.from_residual.ensures.1 (omega (arith, space, c.items.invariant.preserves.capacity, c.in_err-extend_from_slice.ensures.full))

pub returns-in_default-clause-found : goal.returns-in_default-clause-found
returns-in_default-clause-found c = λ text more e.
    let s = run_written c.args.bytes.now c.items.rest.now c.split_at.result.0.now c.split_at.result.1.now c.args.out.now.items c.items.out.items (split_is c.plain_len.result c.items.rest.now c.split_at.result.0.now c.split_at.result.1.now c.split_at.ensures.front c.split_at.ensures.back) (subst ArePlain (sym c.split_at.ensures.front) c.plain_len.ensures.plain) c.items.invariant.writes text more e c.extend_from_slice.new.self.items c.in_ok-extend_from_slice.ensures.items in
    absurd (some_byte c.split_at.result.1.now s.left more s.occurs c.in_default.ensures.cases)

pub returns-in_err-extend_from_slice-2-clause-found : goal.returns-in_err-extend_from_slice-2-clause-found
returns-in_err-extend_from_slice-2-clause-found c = λ text more e.
    let space = end_fits c.args.bytes.now c.split_at.result.1.now c.in-Some.field-0-1.now c.args.out.now.items c.extend_from_slice.new.self.items (c.in-Some.ensures.cases.0 ∙ ap (λ b. b ∷ c.in-Some.field-0-1.now) c.if-byte-eq34.true) (λ text more e. run_written c.args.bytes.now c.items.rest.now c.split_at.result.0.now c.split_at.result.1.now c.args.out.now.items c.items.out.items (split_is c.plain_len.result c.items.rest.now c.split_at.result.0.now c.split_at.result.1.now c.split_at.ensures.front c.split_at.ensures.back) (subst ArePlain (sym c.split_at.ensures.front) c.plain_len.ensures.plain) c.items.invariant.writes text more e c.extend_from_slice.new.self.items c.in_ok-extend_from_slice.ensures.items) text more e in
    part_lacks (λ x. Unit {0}) c.from_residual-in_err-extend_from_slice-2.result c.args.out.now c.extend_from_slice-then-byte-eq34.new.self _ c.from_residual-in_err-extend_from_slice-2.ensures.1
    (omega (arith, space, c.items.invariant.preserves.capacity, c.in_ok-extend_from_slice.ensures.capacity, c.in_err-extend_from_slice-2.ensures.full))

pub returns-then-byte-eq34-clause-found : goal.returns-then-byte-eq34-clause-found
returns-then-byte-eq34-clause-found c = λ text more e.
    (tt, end_written c.args.bytes.now c.split_at.result.1.now c.in-Some.field-0-1.now c.args.out.now.items c.extend_from_slice.new.self.items (c.in-Some.ensures.cases.0 ∙ ap (λ b. b ∷ c.in-Some.field-0-1.now) c.if-byte-eq34.true) (λ text more e. run_written c.args.bytes.now c.items.rest.now c.split_at.result.0.now c.split_at.result.1.now c.args.out.now.items c.items.out.items (split_is c.plain_len.result c.items.rest.now c.split_at.result.0.now c.split_at.result.1.now c.split_at.ensures.front c.split_at.ensures.back) (subst ArePlain (sym c.split_at.ensures.front) c.plain_len.ensures.plain) c.items.invariant.writes text more e c.extend_from_slice.new.self.items c.in_ok-extend_from_slice.ensures.items) text more e c.extend_from_slice-then-byte-eq34.new.self.items c.in_ok-extend_from_slice-2.ensures.items)

pub returns-in_default-read_item-clause-found : goal.returns-in_default-read_item-clause-found
returns-in_default-read_item-clause-found c = λ text more e.
    let s = run_written c.args.bytes.now c.items.rest.now c.split_at.result.0.now c.split_at.result.1.now c.args.out.now.items c.items.out.items (split_is c.plain_len.result c.items.rest.now c.split_at.result.0.now c.split_at.result.1.now c.split_at.ensures.front c.split_at.ensures.back) (subst ArePlain (sym c.split_at.ensures.front) c.plain_len.ensures.plain) c.items.invariant.writes text more e c.extend_from_slice.new.self.items c.in_ok-extend_from_slice.ensures.items in
    absurd (some_item c.split_at.result.1.now s.left more c.in-Some.byte.now c.in-Some.field-0-1.now s.occurs c.in-Some.ensures.cases.0 c.if-byte-eq34.false c.in_default-read_item.ensures.exact)

pub returns-in_err-append_byte-clause-found : goal.returns-in_err-append_byte-clause-found
returns-in_err-append_byte-clause-found c = λ text more e.
    let space = item_fits c.args.bytes.now c.split_at.result.1.now c.in-Some.byte.now c.in-Some.field-0-1.now c.in-Some-read_item.byte c.in-Some-read_item.behind.now c.args.out.now.items c.extend_from_slice.new.self.items c.in-Some.ensures.cases.0 c.if-byte-eq34.false c.in-Some-read_item.ensures.exact (λ text more e. run_written c.args.bytes.now c.items.rest.now c.split_at.result.0.now c.split_at.result.1.now c.args.out.now.items c.items.out.items (split_is c.plain_len.result c.items.rest.now c.split_at.result.0.now c.split_at.result.1.now c.split_at.ensures.front c.split_at.ensures.back) (subst ArePlain (sym c.split_at.ensures.front) c.plain_len.ensures.plain) c.items.invariant.writes text more e c.extend_from_slice.new.self.items c.in_ok-extend_from_slice.ensures.items) text more e in
    part_lacks (λ x. Unit {0}) c.from_residual-in_err-append_byte.result c.args.out.now c.append_byte.new.out _ c.from_residual-in_err-append_byte.ensures.1
    (omega (arith, space, c.items.invariant.preserves.capacity, c.in_ok-extend_from_slice.ensures.capacity, c.in_err-append_byte.ensures.full))

pub items-preserved : goal.items-preserved
items-preserved c = record {
  writes = λ text more e. item_written c.args.bytes.now c.split_at.result.1.now c.in-Some.byte.now c.in-Some.field-0-1.now c.in-Some-read_item.byte c.in-Some-read_item.behind.now c.args.out.now.items c.extend_from_slice.new.self.items c.in-Some.ensures.cases.0 c.if-byte-eq34.false c.in-Some-read_item.ensures.exact (λ text more e. run_written c.args.bytes.now c.items.rest.now c.split_at.result.0.now c.split_at.result.1.now c.args.out.now.items c.items.out.items (split_is c.plain_len.result c.items.rest.now c.split_at.result.0.now c.split_at.result.1.now c.split_at.ensures.front c.split_at.ensures.back) (subst ArePlain (sym c.split_at.ensures.front) c.plain_len.ensures.plain) c.items.invariant.writes text more e c.extend_from_slice.new.self.items c.in_ok-extend_from_slice.ensures.items) text more e c.append_byte.new.out.items c.in_ok-append_byte.ensures.ok;
  preserves = preserves_on c.args.out.now c.items.out c.append_byte.new.out c.items.invariant.preserves (preserves_on c.items.out c.extend_from_slice.new.self c.append_byte.new.out (record { retained = record { more = c.split_at.result.0.now; extended = c.in_ok-extend_from_slice.ensures.items }; capacity = c.in_ok-extend_from_slice.ensures.capacity }) (retained_by c.extend_from_slice.new.self c.append_byte.new.out c.in_ok-append_byte.ensures));
}
