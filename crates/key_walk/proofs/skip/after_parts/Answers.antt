use Rattle.std.proofs.Common.{◌+◌, Some, ap, arith, refl}
use Rattle.key_value.proofs.FirstBytes.{no_key}
use Rattle.key_value.proofs.Texts.{none_some, some_same}
use Rattle.key_walk.proofs.Scalars.{scalar_there}
use Rattle.key_walk.proofs.Occurrence.{end_here, part_here, part_counted}
use Rattle.key_walk.proofs.skip.after_parts.Goals as goal

pub returns-in-Some-clause-found : goal.returns-in-Some-clause-found
returns-in-Some-clause-found c = λ o is h more e.
    ap Some (end_here o c.args.object c.scalars.invariant.passed.0 c.scalars.rest.now more c.in-Some.others.now (c.scalars.invariant.passed.1 o is h more e) c.in-Some.ensures.some c.in-Some.ensures.found)

pub returns-in_err-value-clause-found : goal.returns-in_err-value-clause-found
returns-in_err-value-clause-found c = λ o is h more e.
    let n = part_here o c.args.object c.scalars.invariant.passed.0 c.scalars.rest.now more (c.scalars.invariant.passed.1 o is h more e) (λ tail over. none_some tail (c.in_default.ensures.found tail over)) in
    absurd (none_some _ (c.in_err-value.ensures.found n.name _ n.occurs))

pub returns-in_err-first-clause-found : goal.returns-in_err-first-clause-found
returns-in_err-first-clause-found c = λ o is h more e.
    let n = part_here o c.args.object c.scalars.invariant.passed.0 c.scalars.rest.now more (c.scalars.invariant.passed.1 o is h more e) (λ tail over. none_some tail (c.in_default.ensures.found tail over)) in
    let value = some_same c.in_ok-value.value.now _ (c.in_ok-value.ensures.found n.name _ n.occurs) in
    absurd (no_key 512 n.value n.readable c.in_ok-value.value.now _ value c.in_err-first.ensures.cases)

pub returns-in_err-rest-in-None-clause-found : goal.returns-in_err-rest-in-None-clause-found
returns-in_err-rest-in-None-clause-found c = λ o is h more e.
    let n = part_here o c.args.object c.scalars.invariant.passed.0 c.scalars.rest.now more (c.scalars.invariant.passed.1 o is h more e) (λ tail over. none_some tail (c.in_default.ensures.found tail over)) in
    let value = some_same c.in_ok-value.value.now _ (c.in_ok-value.ensures.found n.name _ n.occurs) in
    let scalar = scalar_there 512 n.value n.readable c.in_ok-first.first.now c.in_ok-first.field-0-1.now c.in_ok-value.value.now _ c.in_ok-first.ensures.cases.0 value c.in-None.ensures.0 c.in-None.ensures.1 in
    absurd (none_some _ (c.in_err-rest-in-None.ensures.found 512 n.value n.readable scalar _ value))

pub scalars-preserved : goal.scalars-preserved
scalars-preserved c = record {
  passed = (
    c.scalars.invariant.passed.0 + 1,
    λ o is h more e.
        let n = part_here o c.args.object c.scalars.invariant.passed.0 c.scalars.rest.now more (c.scalars.invariant.passed.1 o is h more e) (λ tail over. none_some tail (c.in_default.ensures.found tail over)) in
        let value = some_same c.in_ok-value.value.now _ (c.in_ok-value.ensures.found n.name _ n.occurs) in
        let scalar = scalar_there 512 n.value n.readable c.in_ok-first.first.now c.in_ok-first.field-0-1.now c.in_ok-value.value.now _ c.in_ok-first.ensures.cases.0 value c.in-None.ensures.0 c.in-None.ensures.1 in
        let others = some_same c.in_ok-rest-in-None.rest.now _ (c.in_ok-rest-in-None.ensures.found 512 n.value n.readable scalar _ value) in
        part_counted o c.args.object c.scalars.invariant.passed.0 (c.scalars.invariant.passed.0 + 1) c.scalars.rest.now more c.in_ok-rest-in-None.rest.now n refl others,
  );
  within = omega (arith, c.in_ok-rest-in-None.ensures.shorter, c.in_ok-value.ensures.within, c.scalars.invariant.within);
}
