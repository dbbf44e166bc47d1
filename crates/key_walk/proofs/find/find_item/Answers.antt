use Rattle.std.proofs.Common.{rules, ◌≡◌, ◌∷◌, IfSome, Ok, pos, ◌<ℤ◌, unsigned_abs, arith, subst, sym}
use Rattle.std.proofs.lemmas.Int.{ints}
use Rattle.jsonb_spec.specs.SortKey.Found.{item_from}
use Rattle.key_walk.specs.Found.{Finds, Opens}
use Rattle.jsonb_spec.specs.SortKey.Open.{opening_byte}
use Rattle.key_walk.proofs.Occurrence.{array_left, by_back, by_index, found_behind}
use Rattle.key_walk.proofs.find.find_item.Goals as goal

pub returns-then-index-lt0 : goal.returns-then-index-lt0
returns-then-index-lt0 c = record {
  finds = record {
    found = λ t r more e.
        let l = subst (λ answer. Opens t more (Ok answer)) c.in-Some.is (c.in_ok-object.ensures.opens t r more e) in
        let first = subst (λ answer. IfSome answer (λ parts. c.args.key.now ≡ opening_byte parts.0 ∷ parts.1.now)) c.in-Some.is c.in_ok-object.ensures.some in
        let a = array_left t c.in-Some.object c.in-Some.parts.now more l c.if-object.false in
        let steps : c.unsigned_abs-steps.result ≡ unsigned_abs c.args.index = omega (arith, ints) in
        let below : c.args.index <ℤ pos 0 = omega (arith, ints) in
        let is = by_back c.args.index c.unsigned_abs-steps.result a.ts steps below in
        subst (λ u. Finds c.args.key.now (item_from c.args.index u) c.item_from_end.result) a.is
        (subst (λ part. Finds c.args.key.now part c.item_from_end.result) (sym is)
        (found_behind c.args.key.now c.in-Some.parts.now (opening_byte c.in-Some.object) _ c.item_from_end.result first (c.item_from_end.ensures.found a.ts a.proper a.within more a.occurs)));
    within = search rules;
  };
}

pub returns-else-index-lt0 : goal.returns-else-index-lt0
returns-else-index-lt0 c = record {
  finds = record {
    found = λ t r more e.
        let l = subst (λ answer. Opens t more (Ok answer)) c.in-Some.is (c.in_ok-object.ensures.opens t r more e) in
        let first = subst (λ answer. IfSome answer (λ parts. c.args.key.now ≡ opening_byte parts.0 ∷ parts.1.now)) c.in-Some.is c.in_ok-object.ensures.some in
        let a = array_left t c.in-Some.object c.in-Some.parts.now more l c.if-object.false in
        let steps : c.unsigned_abs-steps.result ≡ unsigned_abs c.args.index = omega (arith, ints) in
        let is = by_index c.args.index c.unsigned_abs-steps.result a.ts steps (λ below. omega (arith, ints, below)) in
        subst (λ u. Finds c.args.key.now (item_from c.args.index u) c.item_at.result) a.is
        (subst (λ part. Finds c.args.key.now part c.item_at.result) (sym is)
        (found_behind c.args.key.now c.in-Some.parts.now (opening_byte c.in-Some.object) _ c.item_at.result first (c.item_at.ensures.found a.ts a.proper a.within more a.occurs)));
    within = search rules;
  };
}

pub returns-then-object : goal.returns-then-object
returns-then-object c = record { finds = record { found = search rules; within = search rules } }
