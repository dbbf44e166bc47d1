use Rattle.std.proofs.Common.{rules, ◌≡◌, ◌∷◌, IfSome, Ok, subst}
use Rattle.std.specs.Option.{option_and_then}
use Rattle.std.specs.Str.{bytes_eq}
use Rattle.key_walk.specs.Found.{Finds, Opens}
use Rattle.jsonb_spec.specs.SortKey.Open.{opening_byte}
use Rattle.jsonb_spec.specs.Accessors.{find_member, item_at}
use Rattle.jsonb_spec.specs.PartAt.{child_at}
use Rattle.key_walk.proofs.Occurrence.{array_left, found_behind, object_left}
use Rattle.key_walk.proofs.find.find_any_child.Goals as goal

pub returns-then-object : goal.returns-then-object
returns-then-object c = record {
  finds = record {
    found = λ t r more e.
        let l = subst (λ answer. Opens t more (Ok answer)) c.in-Some.is (c.in_ok-object.ensures.opens t r more e) in
        let first = subst (λ answer. IfSome answer (λ parts. c.args.key.now ≡ opening_byte parts.0 ∷ parts.1.now)) c.in-Some.is c.in_ok-object.ensures.some in
        let o = object_left t r c.in-Some.object c.in-Some.parts.now more l c.if-object.true in
        let asked = subst (λ name. Finds c.in-Some.parts.now (find_member (bytes_eq name) o.ms) c.find_name.result) c.as_bytes.ensures.value (c.find_name.ensures.found o.ms o.ascend o.proper o.within more o.occurs) in
        subst (λ u. Finds c.args.key.now (child_at c.args.name.now u) c.find_name.result) o.is
        (found_behind c.args.key.now c.in-Some.parts.now (opening_byte c.in-Some.object) _ c.find_name.result first asked);
    within = search rules;
  };
}

pub returns-in-Some-index_of : goal.returns-in-Some-index_of
returns-in-Some-index_of c = record {
  finds = record {
    found = λ t r more e.
        let l = subst (λ answer. Opens t more (Ok answer)) c.in-Some.is (c.in_ok-object.ensures.opens t r more e) in
        let first = subst (λ answer. IfSome answer (λ parts. c.args.key.now ≡ opening_byte parts.0 ∷ parts.1.now)) c.in-Some.is c.in_ok-object.ensures.some in
        let a = array_left t c.in-Some.object c.in-Some.parts.now more l c.if-object.false in
        subst (λ u. Finds c.args.key.now (child_at c.args.name.now u) c.item_at.result) a.is
        (subst (λ index. Finds c.args.key.now (option_and_then (item_at a.ts) index) c.item_at.result) c.in-Some-index_of.ensures.named
        (found_behind c.args.key.now c.in-Some.parts.now (opening_byte c.in-Some.object) _ c.item_at.result first (c.item_at.ensures.found a.ts a.proper a.within more a.occurs)));
    within = search rules;
  };
}
