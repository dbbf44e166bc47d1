use Rattle.std.proofs.Common.{◌≡◌, ◌+◌, ◌∷◌, Global, IfSome, ap, arith, map, string_bytes, subst, sym, ◌∙◌}
use Rattle.key_edit.proofs.Located.{ReportsSpot, within_begun, within_lost, within_missed, within_taken}
use Rattle.key_edit.proofs.slot.part_from.Goals as goal

pub names-init : goal.names-init
names-init c = record { walks = within_begun c.args.key.now (map (string_bytes {Z = Global}) c.args.names.now); depth_left = omega arith }

pub returns-in_err-spot-clause-found : goal.returns-in_err-spot-clause-found
returns-in_err-spot-clause-found c = λ t r e.
    let p = c.names.invariant.walks t r e in
    absurd (c.in_err-spot.ensures.spot p.inner p.readable p.behind p.occurs p.fits)

pub returns-in_default-2-clause-found : goal.returns-in_default-2-clause-found
returns-in_default-2-clause-found c = λ t r e.
    let p = c.names.invariant.walks t r e in
    let first = ap (map (string_bytes {Z = Global})) c.in-Some.ensures.cases.0 ∙ ap (λ n. n ∷ map (string_bytes {Z = Global}) c.in-Some.others.now) (sym c.as_str.ensures.value) in
    let none = subst (ReportsSpot p.inner p.behind c.as_str.result.now c.names.part.now c.names.depth_left) c.in_default-2.is (c.in_ok-spot.ensures.spot p.inner p.readable p.behind p.occurs p.fits) in
    within_missed t (map string_bytes c.args.names.now) (map string_bytes c.names.left.now) (map string_bytes c.in-Some.others.now) c.as_str.result.now c.args.key.now c.names.part.now c.names.depth_left p first none

pub returns-then-not-spot-clause-found : goal.returns-then-not-spot-clause-found
returns-then-not-spot-clause-found c = λ t r e.
    let p = c.names.invariant.walks t r e in
    let first = ap (map (string_bytes {Z = Global})) c.in-Some.ensures.cases.0 ∙ ap (λ n. n ∷ map (string_bytes {Z = Global}) c.in-Some.others.now) (sym c.as_str.ensures.value) in
    let s = subst (ReportsSpot p.inner p.behind c.as_str.result.now c.names.part.now c.names.depth_left) c.in-Some-2.is (c.in_ok-spot.ensures.spot p.inner p.readable p.behind p.occurs p.fits) in
    within_lost t (map string_bytes c.args.names.now) (map string_bytes c.names.left.now) (map string_bytes c.in-Some.others.now) c.as_str.result.now c.args.key.now c.names.part.now c.names.depth_left p first _ c.in-Some-2.inner c.in-Some-2.spot s c.if-not-spot.true

pub names-preserved : goal.names-preserved
names-preserved c = record {
  walks = λ t r e.
      let p = c.names.invariant.walks t r e in
      let first = ap (map (string_bytes {Z = Global})) c.in-Some.ensures.cases.0 ∙ ap (λ n. n ∷ map (string_bytes {Z = Global}) c.in-Some.others.now) (sym c.as_str.ensures.value) in
      let s = subst (ReportsSpot p.inner p.behind c.as_str.result.now c.names.part.now c.names.depth_left) c.in-Some-2.is (c.in_ok-spot.ensures.spot p.inner p.readable p.behind p.occurs p.fits) in
      within_taken t (map string_bytes c.args.names.now) (map string_bytes c.names.left.now) (map string_bytes c.in-Some.others.now) c.as_str.result.now c.args.key.now c.names.part.now c.names.depth_left p first _ c.in-Some-2.inner c.in-Some-2.spot s c.if-not-spot.false;
  depth_left = omega (arith, subst (λ answer. IfSome answer (λ r. r.2 + 1 ≡ c.names.depth_left)) c.in-Some-2.is c.in_ok-spot.ensures.space, c.names.invariant.depth_left);
}
