use Rattle.std.proofs.Common.{rules, true, refl, subst}
use Rattle.std.specs.Str.{bytes_eq}
use Rattle.key_walk.specs.Found.{Finds}
use Rattle.jsonb_spec.specs.SortKey.Open.{opening_byte}
use Rattle.jsonb_spec.specs.Accessors.{find_member}
use Rattle.jsonb_spec.specs.PartAt.{child_at}
use Rattle.key_walk.proofs.Finds.{parent_of}
use Rattle.key_walk.proofs.Occurrence.{found_behind, left_of, object_left}
use Rattle.key_walk.proofs.find.find_child.Goals as goal

pub returns-in-Some : goal.returns-in-Some
returns-in-Some c = record {
  finds = record {
    found = λ t r more e.
        let parent = parent_of t r (opening_byte true) c.in-Some.members.now c.args.key.now more c.in-Some.ensures.some e true refl in
        let o = object_left t r true c.in-Some.members.now more (left_of t true c.in-Some.members.now more parent) refl in
        let asked = subst (λ name. Finds c.in-Some.members.now (find_member (bytes_eq name) o.ms) c.member_from.result) c.as_bytes.ensures.value (c.member_from.ensures.found o.ms o.ascend o.proper o.within more o.occurs) in
        subst (λ u. Finds c.args.key.now (child_at c.args.name.now u) c.member_from.result) o.is
        (found_behind c.args.key.now c.in-Some.members.now (opening_byte true) _ c.member_from.result c.in-Some.ensures.some asked);
    within = search rules;
  };
}
