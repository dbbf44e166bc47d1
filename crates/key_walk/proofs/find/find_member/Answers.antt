use Rattle.std.proofs.Common.{rules, ◌≡◌, ◌∷◌, IfSome, Ok, subst}
use Rattle.key_walk.specs.Found.{Finds, Opens}
use Rattle.jsonb_spec.specs.SortKey.Open.{opening_byte}
use Rattle.jsonb_spec.specs.Accessors.{get_by_name}
use Rattle.key_walk.proofs.Occurrence.{found_behind, object_left}
use Rattle.key_walk.proofs.find.find_member.Goals as goal

pub returns-then-object : goal.returns-then-object
returns-then-object c = record {
  finds = record {
    found = λ t r more e.
        let l = subst (λ answer. Opens t more (Ok answer)) c.in-Some.is (c.in_ok-object.ensures.opens t r more e) in
        let first = subst (λ answer. IfSome answer (λ parts. c.args.key.now ≡ opening_byte parts.0 ∷ parts.1.now)) c.in-Some.is c.in_ok-object.ensures.some in
        let o = object_left t r c.in-Some.object c.in-Some.parts.now more l c.if-object.true in
        subst (λ u. Finds c.args.key.now (get_by_name c.args.name.now u) c.find_name.result) o.is
        (found_behind c.args.key.now c.in-Some.parts.now (opening_byte c.in-Some.object) _ c.find_name.result first (c.find_name.ensures.found o.ms o.ascend o.proper o.within more o.occurs));
    within = search rules;
  };
}
