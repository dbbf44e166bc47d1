use Rattle.std.proofs.Common.{Some, true, ap, arith, refl}
use Rattle.jsonb_spec.specs.SortKey.{invert_if}
use Rattle.key_walk.proofs.AfterDigits.{digits_begun, last_skipped, pair_skipped, not_over}
use Rattle.key_walk.proofs.Fronts.{byte_fits}
use Rattle.key_walk.proofs.skip.after_odd.Goals as goal

pub pairs-init : goal.pairs-init
pairs-init c = record { skips = digits_begun true c.args.bytes.now; within = omega arith; are_bytes = λ k. (c.type_inv.bytes k).fits }

pub returns-then-byte-ne0-clause-found : goal.returns-then-byte-ne0-clause-found
returns-then-byte-ne0-clause-found c = λ C M below some more e.
    ap Some (last_skipped true c.pairs.rest.now c.in-Some.others.now more c.in-Some.byte.now (invert_if true c.in-Some.byte.now) (c.pairs.invariant.skips C M below some more e) c.in-Some.ensures.cases.0 refl (omega (arith, c.if-byte-ne0.true)))

pub pairs-preserved : goal.pairs-preserved
pairs-preserved c = record {
  skips = λ C M below some more e.
      pair_skipped true c.pairs.rest.now c.in-Some.others.now more c.in-Some.byte.now (invert_if true c.in-Some.byte.now) (c.pairs.invariant.skips C M below some more e) c.in-Some.ensures.cases.0 refl (λ even. omega (arith, even, c.if-byte-ne0.false, (byte_fits c.pairs.rest.now c.in-Some.others.now c.in-Some.byte.now c.pairs.invariant.are_bytes c.in-Some.ensures.cases.0).0));
  within = omega (arith, c.in-Some.ensures.cases.1, c.pairs.invariant.within);
  are_bytes = (byte_fits c.pairs.rest.now c.in-Some.others.now c.in-Some.byte.now c.pairs.invariant.are_bytes c.in-Some.ensures.cases.0).1;
}

pub returns-clause-found : goal.returns-clause-found
returns-clause-found c = λ C M below some more e. absurd (not_over true c.pairs.rest.now more (c.pairs.invariant.skips C M below some more e) c.in_default.ensures.cases)
