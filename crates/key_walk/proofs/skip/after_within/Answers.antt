use Rattle.std.proofs.Common.{Some, ap, arith, false, inl, inr, set}
use Rattle.std.proofs.lemmas.List.{get_or-set_same, length-set}
use Rattle.key_walk.proofs.Opens.{parts_begun, end_read, part_there, part_skipped, part_opened, too_deep, all_skipped}
use Rattle.key_walk.proofs.Scalars.{opened, scalar_there}
use Rattle.key_value.proofs.FirstBytes.{no_key}
use Rattle.key_value.proofs.Texts.{none_some, some_same}
use Rattle.key_walk.proofs.skip.after_within.Goals as goal

pub returns-in_default-clause-found : goal.returns-in_default-clause-found
returns-in_default-clause-found c = λ o is h more e.
    ap Some (all_skipped c.parts.objects c.parts.rest.now more c.parts.depth (omega (arith, c.in_default.ensures)) (c.parts.invariant.skips o is h more e))

pub parts-preserved-in-Some-after_end : goal.parts-preserved-in-Some-after_end
parts-preserved-in-Some-after_end c = record {
  skips = λ o is h more e.
      end_read c.parts.objects c.parts.depth c.in-Some.top c.parts.rest.now more c.in-Some-after_end.others.now c.is_object_at-inside.result (omega (arith, c.in-Some.ensures)) c.is_object_at-inside.ensures (c.parts.invariant.skips o is h more e) c.in-Some-after_end.ensures.some c.in-Some-after_end.ensures.found;
  within = omega (arith, c.in-Some-after_end.ensures.shorter, c.parts.invariant.within);
  shorter = inr (omega (arith, c.in-Some-after_end.ensures.shorter, c.parts.invariant.within));
  deep = omega (arith, c.parts.invariant.deep, c.in-Some.ensures);
  few = c.parts.invariant.few;
  size = c.parts.invariant.size;
}

pub returns-in_default-after_name-clause-found : goal.returns-in_default-after_name-clause-found
returns-in_default-after_name-clause-found c = λ o is h more e.
    let n = part_there c.parts.objects c.parts.depth c.in-Some.top c.parts.rest.now more c.is_object_at-inside.result (omega (arith, c.in-Some.ensures)) c.is_object_at-inside.ensures (c.parts.invariant.skips o is h more e) c.in_default-after_end.ensures.found in
    absurd (none_some _ (c.in_default-after_name.ensures.found n.name _ n.occurs))

pub returns-in_default-split_first-clause-found : goal.returns-in_default-split_first-clause-found
returns-in_default-split_first-clause-found c = λ o is h more e.
    let n = part_there c.parts.objects c.parts.depth c.in-Some.top c.parts.rest.now more c.is_object_at-inside.result (omega (arith, c.in-Some.ensures)) c.is_object_at-inside.ensures (c.parts.invariant.skips o is h more e) c.in_default-after_end.ensures.found in
    let value = some_same c.in-Some-after_name.value.now _ (c.in-Some-after_name.ensures.found n.name _ n.occurs) in
    absurd (no_key n.left n.value n.readable c.in-Some-after_name.value.now _ value c.in_default-split_first.ensures.cases)

pub returns-then-depth-eq-MAX_DEPTH-clause-found : goal.returns-then-depth-eq-MAX_DEPTH-clause-found
returns-then-depth-eq-MAX_DEPTH-clause-found c = λ o is h more e.
    let n = part_there c.parts.objects c.parts.depth c.in-Some.top c.parts.rest.now more c.is_object_at-inside.result (omega (arith, c.in-Some.ensures)) c.is_object_at-inside.ensures (c.parts.invariant.skips o is h more e) c.in_default-after_end.ensures.found in
    let value = some_same c.in-Some-after_name.value.now _ (c.in-Some-after_name.ensures.found n.name _ n.occurs) in
    let x = opened n.left n.value n.readable c.in-Some-split_first.first.now c.in-Some-split_first.others.now c.in-Some-after_name.value.now _ c.in-Some-split_first.ensures.cases.0 value c.in-Some-opening.inner c.in-Some-opening.ensures in
    absurd (too_deep c.parts.objects c.parts.depth c.parts.rest.now more c.is_object_at-inside.result n x.inner x.deeper c.if-depth-eq-MAX_DEPTH.true)

pub parts-preserved-in-Some-opening : goal.parts-preserved-in-Some-opening
parts-preserved-in-Some-opening c = record {
  skips = λ o is h more e.
      let n = part_there c.parts.objects c.parts.depth c.in-Some.top c.parts.rest.now more c.is_object_at-inside.result (omega (arith, c.in-Some.ensures)) c.is_object_at-inside.ensures (c.parts.invariant.skips o is h more e) c.in_default-after_end.ensures.found in
      let value = some_same c.in-Some-after_name.value.now _ (c.in-Some-after_name.ensures.found n.name _ n.occurs) in
      let x = opened n.left n.value n.readable c.in-Some-split_first.first.now c.in-Some-split_first.others.now c.in-Some-after_name.value.now _ c.in-Some-split_first.ensures.cases.0 value c.in-Some-opening.inner c.in-Some-opening.ensures in
      part_opened c.parts.objects c.parts.depth c.parts.rest.now more c.is_object_at-inside.result n x.open_there x.inner x.deeper x.fits c.in-Some-opening.inner x.is (omega (arith, c.parts.invariant.deep, c.if-depth-objects.false)) c.in-Some-split_first.others.now x.occurs;
  within = omega (arith, c.in-Some-split_first.ensures.cases.1, c.in-Some-after_name.ensures.within, c.parts.invariant.within);
  shorter = inl (omega arith);
  deep = simp length-set (omega (arith, c.parts.invariant.deep, c.if-depth-objects.false));
  few = simp length-set c.parts.invariant.few;
  size = simp length-set c.parts.invariant.size;
}

pub returns-in_default-after_scalar-clause-found : goal.returns-in_default-after_scalar-clause-found
returns-in_default-after_scalar-clause-found c = λ o is h more e.
    let n = part_there c.parts.objects c.parts.depth c.in-Some.top c.parts.rest.now more c.is_object_at-inside.result (omega (arith, c.in-Some.ensures)) c.is_object_at-inside.ensures (c.parts.invariant.skips o is h more e) c.in_default-after_end.ensures.found in
    let value = some_same c.in-Some-after_name.value.now _ (c.in-Some-after_name.ensures.found n.name _ n.occurs) in
    let scalar = scalar_there n.left n.value n.readable c.in-Some-split_first.first.now c.in-Some-split_first.others.now c.in-Some-after_name.value.now _ c.in-Some-split_first.ensures.cases.0 value c.in-None.ensures.0 c.in-None.ensures.1 in
    absurd (none_some _ (c.in_default-after_scalar.ensures.found n.left n.value n.readable scalar _ value))

pub parts-preserved : goal.parts-preserved
parts-preserved c = record {
  skips = λ o is h more e.
      let n = part_there c.parts.objects c.parts.depth c.in-Some.top c.parts.rest.now more c.is_object_at-inside.result (omega (arith, c.in-Some.ensures)) c.is_object_at-inside.ensures (c.parts.invariant.skips o is h more e) c.in_default-after_end.ensures.found in
      let value = some_same c.in-Some-after_name.value.now _ (c.in-Some-after_name.ensures.found n.name _ n.occurs) in
      let scalar = scalar_there n.left n.value n.readable c.in-Some-split_first.first.now c.in-Some-split_first.others.now c.in-Some-after_name.value.now _ c.in-Some-split_first.ensures.cases.0 value c.in-None.ensures.0 c.in-None.ensures.1 in
      part_skipped c.parts.objects c.parts.depth c.parts.rest.now more c.is_object_at-inside.result n c.in-Some-after_scalar.others.now (some_same c.in-Some-after_scalar.others.now _ (c.in-Some-after_scalar.ensures.found n.left n.value n.readable scalar _ value));
  within = omega (arith, c.in-Some-after_scalar.ensures.shorter, c.in-Some-after_name.ensures.within, c.parts.invariant.within);
  shorter = inr (omega (arith, c.in-Some-after_scalar.ensures.shorter, c.in-Some-after_name.ensures.within, c.parts.invariant.within));
  deep = c.parts.invariant.deep;
  few = c.parts.invariant.few;
  size = c.parts.invariant.size;
}

pub parts-init : goal.parts-init
parts-init c = record {
  skips = parts_begun (set c.args.objects.now 0 c.args.object) c.args.object c.args.bytes.now (get_or-set_same c.args.objects.now 0 c.args.object false c.requires.some);
  within = omega arith;
  shorter = inl (omega arith);
  deep = simp length-set c.requires.some;
  few = simp length-set c.requires.few;
  size = length-set c.args.objects.now 0 c.args.object;
}
