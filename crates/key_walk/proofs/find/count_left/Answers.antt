use Rattle.std.proofs.Common.{◌+◌, Ok, ap, arith, refl}
use Rattle.key_value.proofs.Texts.{none_some, some_same}
use Rattle.key_walk.proofs.Occurrence.{all_counted, part_here, part_counted}
use Rattle.key_walk.proofs.find.count_left.Goals as goal

pub returns-then-is_over-clause-counted : goal.returns-then-is_over-clause-counted
returns-then-is_over-clause-counted c = λ o is h more e.
    let over = c.is_over.ensures.yes c.if-is_over.true in
    ap Ok (all_counted o c.args.object c.parts.count c.parts.rest.now more over.0 (c.parts.invariant.counts o is h more e) over.1)

pub returns-in_default-clause-counted : goal.returns-in_default-clause-counted
returns-in_default-clause-counted c = λ o is h more e.
    let n = part_here o c.args.object c.parts.count c.parts.rest.now more (c.parts.invariant.counts o is h more e) (c.is_over.ensures.no c.if-is_over.false) in
    absurd (none_some _ (c.in_default.ensures.found n.name _ n.occurs))

pub returns-in_default-after_key-clause-counted : goal.returns-in_default-after_key-clause-counted
returns-in_default-after_key-clause-counted c = λ o is h more e.
    let n = part_here o c.args.object c.parts.count c.parts.rest.now more (c.parts.invariant.counts o is h more e) (c.is_over.ensures.no c.if-is_over.false) in
    let value = some_same c.in-Some.value.now _ (c.in-Some.ensures.found n.name _ n.occurs) in
    absurd (none_some _ (c.in_default-after_key.ensures.found n.value n.readable _ value))

pub parts-preserved : goal.parts-preserved
parts-preserved c = record {
  counts = λ o is h more e.
      let n = part_here o c.args.object c.parts.count c.parts.rest.now more (c.parts.invariant.counts o is h more e) (c.is_over.ensures.no c.if-is_over.false) in
      let value = some_same c.in-Some.value.now _ (c.in-Some.ensures.found n.name _ n.occurs) in
      let others = some_same c.in-Some-after_key.others.now _ (c.in-Some-after_key.ensures.found n.value n.readable _ value) in
      part_counted o c.args.object c.parts.count (c.parts.count + 1) c.parts.rest.now more c.in-Some-after_key.others.now n refl others;
  within = omega (arith, c.in-Some-after_key.ensures.shorter, c.in-Some.ensures.within, c.parts.invariant.within);
}
