use Rattle.std.proofs.Common.{◌≡◌, ◌+◌, ◌-◌, ◌∷◌, length, Ok, Err, arith, refl, sym, true}
use Rattle.jsonb_spec.specs.SortKey.{key_of}
use Rattle.key_document.specs.Walk.{SkipsFirst}
use Rattle.key_document.specs.declared.error.DocumentError.TheVariants.{NoDocument}
use Rattle.key_document.specs.declared.walk.Walk.{Walk}
use Rattle.key_document.proofs.Walks.{bytes_there, open_up, over_opens, skipped, top_marked}
use Rattle.key_document.proofs.walk.skip_open.Goals as goal
use Rattle.key_value.proofs.Texts.{none_some, some_same}
use Rattle.jsonb_spec.specs.SortKey.Open.{is_object}
use Rattle.jsonb_spec.specs.SortKey.Steps.{opens_key}

pub returns-in_default-after_parts-clause-skipped : goal.returns-in_default-after_parts-clause-skipped
returns-in_default-after_parts-clause-skipped c = λ t r e opens w0.
    let walk = c.args.walk.now in
    let is_key : c.split_document.result.0.now ≡ key_of t = c.split_document.ensures.key t r e in
    let at : c.in-Some.top + 1 ≡ walk.depth = omega (arith, c.in-Some.ensures) in
    over_opens t opens walk c.in-Some.top at w0 (λ os. SkipsFirst t os (Err NoDocument) walk) (λ o under w.
    let is = bytes_there t (o ∷ under) walk.offset c.split_document.result.0.now c.split_at.result.1.now w.place is_key c.split_at.ensures.back in
    let kind = sym (c.is_object_at.ensures (is_object o) (top_marked o under walk.objects walk.depth c.in-Some.top at w.marked).0) in
    let fits = open_up o c.in-Some.top w.levels 511 (omega (arith, w.deep, at)) w.are_open.0 in
    absurd (none_some (opens_key under) (c.in_default-after_parts.ensures.found o kind fits (opens_key under) is)))

pub returns-clause-skipped : goal.returns-clause-skipped
returns-clause-skipped c = λ t r e opens w0.
    let walk = c.args.walk.now in
    let is_key : c.split_document.result.0.now ≡ key_of t = c.split_document.ensures.key t r e in
    let at : c.in-Some.top + 1 ≡ walk.depth = omega (arith, c.in-Some.ensures) in
    let size = length c.split_at.result.1.now - length c.in-Some-after_parts.after.now in
    let new : Walk = record { offset = walk.offset + size; depth = c.in-Some.top; left = walk.left; objects = walk.objects } in
    over_opens t opens walk c.in-Some.top at w0 (λ os. SkipsFirst t os (Ok true) new) (λ o under w.
    let is = bytes_there t (o ∷ under) walk.offset c.split_document.result.0.now c.split_at.result.1.now w.place is_key c.split_at.ensures.back in
    let kind = sym (c.is_object_at.ensures (is_object o) (top_marked o under walk.objects walk.depth c.in-Some.top at w.marked).0) in
    let fits = open_up o c.in-Some.top w.levels 511 (omega (arith, w.deep, at)) w.are_open.0 in
    let behind = some_same c.in-Some-after_parts.after.now (opens_key under) (c.in-Some-after_parts.ensures.found o kind fits (opens_key under) is) in
    (refl, skipped t o under walk new c.in-Some.top c.split_at.result.1.now c.in-Some-after_parts.after.now w at is behind refl refl refl refl))
