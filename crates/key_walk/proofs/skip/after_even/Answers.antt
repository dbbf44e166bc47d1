use Rattle.std.proofs.Common.{Some, false, ap, arith, refl}
use Rattle.jsonb_spec.specs.SortKey.{invert_if}
use Rattle.key_walk.proofs.AfterDigits.{last_skipped, pair_skipped, not_over}
use Rattle.key_walk.proofs.skip.after_even.Goals as goal

pub returns-then-byte-eq0-clause-found : goal.returns-then-byte-eq0-clause-found
returns-then-byte-eq0-clause-found c = λ C M below some more e.
    ap Some (last_skipped false c.pairs.rest.now c.in-Some.others.now more c.in-Some.byte.now (invert_if false c.in-Some.byte.now) (c.pairs.invariant.skips C M below some more e) c.in-Some.ensures.cases.0 refl c.if-byte-eq0.true)

pub pairs-preserved : goal.pairs-preserved
pairs-preserved c = record {
  skips = λ C M below some more e.
      pair_skipped false c.pairs.rest.now c.in-Some.others.now more c.in-Some.byte.now (invert_if false c.in-Some.byte.now) (c.pairs.invariant.skips C M below some more e) c.in-Some.ensures.cases.0 refl c.if-byte-eq0.false;
  within = omega (arith, c.in-Some.ensures.cases.1, c.pairs.invariant.within);
}

pub returns-clause-found : goal.returns-clause-found
returns-clause-found c = λ C M below some more e. absurd (not_over false c.pairs.rest.now more (c.pairs.invariant.skips C M below some more e) c.in_default.ensures.cases)
