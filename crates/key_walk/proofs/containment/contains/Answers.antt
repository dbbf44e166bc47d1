use Rattle.std.proofs.Common.{◌≡◌, ◌++◌, Ok, refl, sym, ap, subst, ◌∙◌, arith}
use Rattle.jsonb_spec.specs.SortKey.Readable.{IsReadable}
use Rattle.key_value.proofs.FirstBytes.{no_key}
use Rattle.jsonb_spec.specs.Containment.{contains}
use Rattle.jsonb_spec.specs.SortKey.Parts.{opened_tree}
use Rattle.key_walk.specs.SideBySide.{AreReadableAt}
use Rattle.key_walk.proofs.Scalars.{scalar_there}
use Rattle.key_walk.proofs.Turns.{array_in, container_there, inside, reported_is, whole_left, contains_held, contains_item}
use Rattle.jsonb_spec.specs.SortKey.{key_of, items_key}
use Rattle.key_walk.proofs.containment.contains.Goals as goal

pub returns-in_default : goal.returns-in_default
returns-in_default c = λ t u p q more behind e f. absurd (no_key 512 u q c.args.other.now behind f c.in_default.ensures.cases)

pub returns-in-Some-opening : goal.returns-in-Some-opening
returns-in-Some-opening c = λ t u p q more behind e f.
    let o = container_there 512 u q c.in-Some.first.now _ c.args.other.now behind c.in-Some.ensures.cases.0 f c.in-Some-opening.object c.in-Some-opening.ensures in
    reported_is _ _ c.has_parts.result (c.has_parts.ensures.held 512 refl (omega arith) t o.all o.is p (subst IsReadable (sym o.whole) q) more behind
    (whole_left c.args.key.now (key_of t ++ more) e, whole_left c.args.other.now (key_of (opened_tree o.all) ++ behind) (f ∙ ap (λ v. key_of v ++ behind) (sym o.whole))))
    ∙ ap Ok (sym (contains_held t o.all) ∙ ap (contains t) o.whole)

pub returns-in-Some-items_of : goal.returns-in-Some-items_of
returns-in-Some-items_of c = λ t u p q more behind e f.
    let x = array_in 512 t p 0xD2 c.in-Some-items_of.items.now c.args.key.now more c.in-Some-items_of.ensures.some e refl in
    let inner : x.inner ≡ 511 = omega (arith, x.deeper) in
    let s = scalar_there 512 u q c.in-Some.first.now _ c.args.other.now behind c.in-Some.ensures.cases.0 f c.in_default-opening.ensures.0 c.in_default-opening.ensures.1 in
    reported_is _ _ c.has_scalar_item.result (c.has_scalar_item.ensures.held 511 512 (omega arith) x.ts u (subst (λ d. AreReadableAt d x.ts) inner x.are_readable) q s more behind
    (inside c.args.key.now c.args.key.now (key_of t ++ more) c.in-Some-items_of.items.now (items_key x.ts ++ more) 0xD2 (whole_left c.args.key.now (key_of t ++ more) e) c.in-Some-items_of.ensures.some x.occurs, whole_left c.args.other.now (key_of u ++ behind) f))
    ∙ ap Ok (sym (contains_item x.ts u s) ∙ ap (λ v. contains v u) (sym x.is))
