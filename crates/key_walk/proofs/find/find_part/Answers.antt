use Rattle.std.proofs.Common.{◌∷◌, ◌≤◌, IfSome, Ok, ap, arith, length, map, string_bytes, subst, sym, ◌∙◌}
use Rattle.key_walk.specs.Found.{Finds}
use Rattle.jsonb_spec.specs.PartAt.{child_at}
use Rattle.key_walk.proofs.Occurrence.{path_begun, path_walked, says_some}
use Rattle.key_walk.proofs.find.find_part.Goals as goal

pub names-init : goal.names-init
names-init c = record { walks = path_begun c.args.key.now (map string_bytes c.args.names.now); within = omega arith }

pub names-preserved : goal.names-preserved
names-preserved c = record {
  walks = λ t r more e.
      let p = c.names.invariant.walks t r more e in
      let name = c.as_str.result.now in
      let first = ap (map string_bytes) c.in-Some.ensures.cases.0 ∙ ap (λ n. n ∷ map string_bytes c.in-Some.others.now) (sym c.as_str.ensures.value) in
      let found = subst (λ answer. Finds c.names.part.now (child_at name p.inner) (Ok answer)) c.in-Some-2.is (c.in_ok-inner.ensures.finds.found p.inner p.there.readable p.there.behind p.there.occurs) in
      path_walked t (map string_bytes c.args.names.now) (map string_bytes c.names.left.now) (map string_bytes c.in-Some.others.now) name c.args.key.now c.names.part.now c.in-Some-2.inner.now p first
      (says_some c.names.part.now c.in-Some-2.inner (child_at name p.inner) found);
  within =
      let inside = subst (λ answer. IfSome answer (λ rest. length rest.now ≤ length c.names.part.now)) c.in-Some-2.is c.in_ok-inner.ensures.finds.within in
      omega (arith, c.names.invariant.within, inside);
}
