use Rattle.std.proofs.Common.{◌≡◌, ◌+◌, ◌-◌, ◌∷◌, ◌++◌, length, append_assoc, Ok, Err, Some, None, ap, arith, refl, subst, sym, false, ◌∙◌}
use Rattle.jsonb_spec.specs.Document.{behind_key, zeros_at}
use Rattle.jsonb_spec.specs.SortKey.{members_key}
use Rattle.jsonb_spec.specs.SortKey.Open.{is_object, members}
use Rattle.jsonb_spec.specs.SortKey.Steps.{opens_key}
use Rattle.key_document.specs.Walk.{IsWalkAt, MovesToMember}
use Rattle.key_walk.specs.Passing.{first_named, members_from}
use Rattle.key_document.specs.declared.error.DocumentError.TheVariants.{NoDocument}
use Rattle.key_document.specs.declared.walk.Walk.{Walk}
use Rattle.key_document.proofs.Walks.{bytes_left, found_there, moved_to, open_up, over_members, over_opens, stays_in_array, stays_over, top_marked, within_document}
use Rattle.key_document.proofs.walk.move_to_member.Goals as goal
use Rattle.key_document.proofs.walk.move_to_member.Goals.{then-top-ge-MAX_DEPTH-via-then-top-ge-MAX_DEPTH, then-top-ge-MAX_DEPTH-via-else-top-ge-MAX_DEPTH+then-walk-document}

pub returns-in_default-clause-moved : goal.returns-in_default-clause-moved
returns-in_default-clause-moved c = λ t r e opens w. stays_over t c.args.name.now opens c.args.walk.now (omega (arith, c.in_default.ensures)) w

pub returns-then-top-ge-MAX_DEPTH-clause-moved : goal.returns-then-top-ge-MAX_DEPTH-clause-moved
returns-then-top-ge-MAX_DEPTH-clause-moved c = λ t r e opens w0.
    let walk = c.args.walk.now in
    let at : c.in-Some.top + 1 ≡ walk.depth = omega (arith, c.in-Some.ensures) in
    over_opens t opens walk c.in-Some.top at w0 (λ os. MovesToMember t c.args.name.now os (Err NoDocument) walk walk) (λ o under w.
    absurd (elim c.then-top-ge-MAX_DEPTH.branch [
      | then-top-ge-MAX_DEPTH-via-then-top-ge-MAX_DEPTH v ↦ omega (arith, v.if-top-ge-MAX_DEPTH.true, w.deep, at)
      | then-top-ge-MAX_DEPTH-via-else-top-ge-MAX_DEPTH+then-walk-document v ↦ omega (arith, v.if-walk-document.true, within_document t (o ∷ under) walk.offset (behind_key (zeros_at t)) c.args.document.now w.place e)
    ]))

pub returns-then-not-is_object_at-clause-moved : goal.returns-then-not-is_object_at-clause-moved
returns-then-not-is_object_at-clause-moved c = λ t r e opens w0.
    let walk = c.args.walk.now in
    let at : c.in-Some.top + 1 ≡ walk.depth = omega (arith, c.in-Some.ensures) in
    over_opens t opens walk c.in-Some.top at w0 (λ os. MovesToMember t c.args.name.now os (Ok false) walk walk) (λ o under w.
    let kind = sym (c.is_object_at.ensures (is_object o) (top_marked o under walk.objects walk.depth c.in-Some.top at w.marked).0) in
    stays_in_array t c.args.name.now o under walk (kind ∙ c.if-not-is_object_at.true))

pub returns-in_default-members_from-clause-moved : goal.returns-in_default-members_from-clause-moved
returns-in_default-members_from-clause-moved c = λ t r e opens w0.
    let walk = c.args.walk.now in
    let name = c.args.name.now in
    let at : c.in-Some.top + 1 ≡ walk.depth = omega (arith, c.in-Some.ensures) in
    over_opens t opens walk c.in-Some.top at w0 (λ os. MovesToMember t name os (Err NoDocument) walk walk) (λ o under w1.
    let kind = sym (c.is_object_at.ensures (is_object o) (top_marked o under walk.objects walk.depth c.in-Some.top at w1.marked).0) in
    over_members o (λ p. IsWalkAt t (p ∷ under) walk → MovesToMember t name (p ∷ under) (Err NoDocument) walk walk) (kind ∙ c.if-not-is_object_at.false) (λ ms w.
    let behind = behind_key (zeros_at t) in
    let is = bytes_left t (members ms ∷ under) walk.offset behind c.args.document.now c.split_at.result.1.now w.place e c.split_at.ensures.back in
    let fits = open_up (members ms) c.in-Some.top w.levels 511 (omega (arith, w.deep, at)) w.are_open.0 in
    absurd (c.in_default-members_from.ensures.passed ms fits.0 fits.1 (opens_key under ++ behind) (is ∙ append_assoc (members_key ms) (opens_key under) behind))) w1)

pub returns-clause-moved : goal.returns-clause-moved
returns-clause-moved c = λ t r e opens w0.
    let walk = c.args.walk.now in
    let name = c.args.name.now in
    let at : c.in-Some.top + 1 ≡ walk.depth = omega (arith, c.in-Some.ensures) in
    let size = length c.split_at.result.1.now - length c.in-Ok.passed.rest.now in
    let new : Walk = record { offset = walk.offset + size; depth = walk.depth; left = walk.left; objects = walk.objects } in
    over_opens t opens walk c.in-Some.top at w0 (λ os. MovesToMember t name os (Ok c.is_some.result) walk new) (λ o under w1.
    let kind = sym (c.is_object_at.ensures (is_object o) (top_marked o under walk.objects walk.depth c.in-Some.top at w1.marked).0) in
    over_members o (λ p. IsWalkAt t (p ∷ under) walk → MovesToMember t name (p ∷ under) (Ok c.is_some.result) walk new) (kind ∙ c.if-not-is_object_at.false) (λ ms w.
    let behind = behind_key (zeros_at t) in
    let is = bytes_left t (members ms ∷ under) walk.offset behind c.args.document.now c.split_at.result.1.now w.place e c.split_at.ensures.back in
    let more = opens_key under ++ behind in
    let is_more = is ∙ append_assoc (members_key ms) (opens_key under) behind in
    let fits = open_up (members ms) c.in-Some.top w.levels 511 (omega (arith, w.deep, at)) w.are_open.0 in
    let passed = c.in-Ok.ensures.passed ms fits.0 fits.1 more is_more in (
      c.is_some.ensures ∙ found_there c.split_at.result.1.now (first_named name (members_from name ms)) c.in-Ok.passed.same passed.same,
      moved_to t ms under walk new name c.split_at.result.1.now c.in-Ok.passed.rest.now more w is_more passed.rest_is refl refl refl refl,
    )) w1)
