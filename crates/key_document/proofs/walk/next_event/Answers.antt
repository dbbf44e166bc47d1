use Rattle.std.proofs.Common.{◌≡◌, ◌+◌, ◌-◌, ◌∷◌, ◌++◌, length, append_assoc, Ok, Err, Some, ap, arith, refl, subst, sym, ◌∙◌}
use Rattle.jsonb_spec.specs.Document.{behind_key, zeros_at}
use Rattle.jsonb_spec.specs.Document.Walk.{events_left}
use Rattle.key_document.specs.Walk.{MeetsNext}
use Rattle.key_document.specs.declared.error.DocumentError.TheVariants.{NoDocument}
use Rattle.key_document.proofs.Walks.{all_met, bytes_left, left_behind, next_met, no_error, over_opens, top_marked, within_document}
use Rattle.key_document.proofs.walk.next_event.Goals as goal
use Rattle.key_document.proofs.walk.next_event.Goals.{then-top-ge-MAX_DEPTH-via-then-top-ge-MAX_DEPTH, then-top-ge-MAX_DEPTH-via-else-top-ge-MAX_DEPTH+then-walk-document}
use Rattle.key_walk.specs.NextPart.{BeginsWithPart}
use Rattle.jsonb_spec.specs.SortKey.Open.{is_object, open_key}
use Rattle.jsonb_spec.specs.SortKey.Steps.{opens_key}

pub returns-in_default-clause-met : goal.returns-in_default-clause-met
returns-in_default-clause-met c = λ t r e opens w. all_met t opens c.args.walk.now (omega (arith, c.in_default.ensures)) w

pub returns-then-top-ge-MAX_DEPTH-clause-met : goal.returns-then-top-ge-MAX_DEPTH-clause-met
returns-then-top-ge-MAX_DEPTH-clause-met c = λ t r e opens w0.
    let walk = c.args.walk.now in
    let at : c.in-Some.top + 1 ≡ walk.depth = omega (arith, c.in-Some.ensures) in
    over_opens t opens walk c.in-Some.top at w0 (λ os. MeetsNext t (events_left os) (Err NoDocument) walk) (λ o under w.
    absurd (elim c.then-top-ge-MAX_DEPTH.branch [
      | then-top-ge-MAX_DEPTH-via-then-top-ge-MAX_DEPTH v ↦ omega (arith, v.if-top-ge-MAX_DEPTH.true, w.deep, at)
      | then-top-ge-MAX_DEPTH-via-else-top-ge-MAX_DEPTH+then-walk-document v ↦ omega (arith, v.if-walk-document.true, within_document t (o ∷ under) walk.offset (behind_key (zeros_at t)) c.args.document.now w.place e)
    ]))

pub returns-in_err-enter-in-Ok-Opening-clause-met : goal.returns-in_err-enter-in-Ok-Opening-clause-met
returns-in_err-enter-in-Ok-Opening-clause-met c = λ t r e opens w0.
    let walk = c.args.walk.now in
    let at : c.in-Some.top + 1 ≡ walk.depth = omega (arith, c.in-Some.ensures) in
    over_opens t opens walk c.in-Some.top at w0 (λ os. MeetsNext t (events_left os) c.from_residual.result c.enter.new.walk) (λ o under w.
    let behind = behind_key (zeros_at t) in
    let is = bytes_left t (o ∷ under) walk.offset behind c.args.document.now c.split_at.result.1.now w.place e c.split_at.ensures.back in
    let more = opens_key under ++ behind in
    let is_more = is ∙ append_assoc (open_key o) (opens_key under) behind in
    let kind = sym (c.is_object_at.ensures (is_object o) (top_marked o under walk.objects walk.depth c.in-Some.top at w.marked).0) in
    let x = subst (λ p. BeginsWithPart o w.levels more c.split_at.result.1.now (Ok p)) c.in-Ok-Opening.field-0-is (c.in-Ok-Opening.ensures.next o kind w.levels w.are_open.0 more is_more) in
    absurd (no_error t (events_left (o ∷ under)) _ _ (c.in_err-enter-in-Ok-Opening.ensures.entered t o under w more x)))

pub returns-in_err-pass_scalar-in-Ok-Scalar-clause-met : goal.returns-in_err-pass_scalar-in-Ok-Scalar-clause-met
returns-in_err-pass_scalar-in-Ok-Scalar-clause-met c = λ t r e opens w0.
    let walk = c.args.walk.now in
    let at : c.in-Some.top + 1 ≡ walk.depth = omega (arith, c.in-Some.ensures) in
    over_opens t opens walk c.in-Some.top at w0 (λ os. MeetsNext t (events_left os) c.from_residual-in_err-pass_scalar-in-Ok-Scalar.result c.pass_scalar.new.walk) (λ o under w.
    let behind = behind_key (zeros_at t) in
    let is = bytes_left t (o ∷ under) walk.offset behind c.args.document.now c.split_at.result.1.now w.place e c.split_at.ensures.back in
    let more = opens_key under ++ behind in
    let is_more = is ∙ append_assoc (open_key o) (opens_key under) behind in
    let kind = sym (c.is_object_at.ensures (is_object o) (top_marked o under walk.objects walk.depth c.in-Some.top at w.marked).0) in
    let x = subst (λ p. BeginsWithPart o w.levels more c.split_at.result.1.now (Ok p)) c.in-Ok-Scalar.field-0-is (c.in-Ok-Scalar.ensures.next o kind w.levels w.are_open.0 more is_more) in
    absurd (no_error t (events_left (o ∷ under)) _ _ (c.in_err-pass_scalar-in-Ok-Scalar.ensures.passed t r e o under w more x)))

pub returns-in-Ok-End-clause-met : goal.returns-in-Ok-End-clause-met
returns-in-Ok-End-clause-met c = λ t r e opens w0.
    let walk = c.args.walk.now in
    let at : c.in-Some.top + 1 ≡ walk.depth = omega (arith, c.in-Some.ensures) in
    over_opens t opens walk c.in-Some.top at w0 (λ os. MeetsNext t (events_left os) (Ok (Some c.leave.result)) c.leave.new.walk) (λ o under w.
    let behind = behind_key (zeros_at t) in
    let is = bytes_left t (o ∷ under) walk.offset behind c.args.document.now c.split_at.result.1.now w.place e c.split_at.ensures.back in
    let more = opens_key under ++ behind in
    let is_more = is ∙ append_assoc (open_key o) (opens_key under) behind in
    let kind = sym (c.is_object_at.ensures (is_object o) (top_marked o under walk.objects walk.depth c.in-Some.top at w.marked).0) in
    let x = subst (λ p. BeginsWithPart o w.levels more c.split_at.result.1.now (Ok p)) c.in-Ok-End.field-0-is (c.in-Ok-End.ensures.next o kind w.levels w.are_open.0 more is_more) in
    let size = length c.split_at.result.1.now - length c.in-Ok-End.after.now in
    next_met t (events_left (o ∷ under)) c.leave.result c.leave.new.walk
    (left_behind t o under walk c.leave.new.walk c.in-Some.top c.split_at.result.1.now c.in-Ok-End.after.now w at more x size refl
    (ap (λ n. n.offset) c.leave.ensures.left) (ap (λ n. n.depth) c.leave.ensures.left) (ap (λ n. n.left) c.leave.ensures.left) (ap (λ n. n.objects) c.leave.ensures.left) c.leave.result c.leave.ensures.met))

pub returns-in_ok-enter-in-Ok-Opening-clause-met : goal.returns-in_ok-enter-in-Ok-Opening-clause-met
returns-in_ok-enter-in-Ok-Opening-clause-met c = λ t r e opens w0.
    let walk = c.args.walk.now in
    let at : c.in-Some.top + 1 ≡ walk.depth = omega (arith, c.in-Some.ensures) in
    over_opens t opens walk c.in-Some.top at w0 (λ os. MeetsNext t (events_left os) (Ok (Some c.in_ok-enter-in-Ok-Opening.field-0)) c.enter.new.walk) (λ o under w.
    let behind = behind_key (zeros_at t) in
    let is = bytes_left t (o ∷ under) walk.offset behind c.args.document.now c.split_at.result.1.now w.place e c.split_at.ensures.back in
    let more = opens_key under ++ behind in
    let is_more = is ∙ append_assoc (open_key o) (opens_key under) behind in
    let kind = sym (c.is_object_at.ensures (is_object o) (top_marked o under walk.objects walk.depth c.in-Some.top at w.marked).0) in
    let x = subst (λ p. BeginsWithPart o w.levels more c.split_at.result.1.now (Ok p)) c.in-Ok-Opening.field-0-is (c.in-Ok-Opening.ensures.next o kind w.levels w.are_open.0 more is_more) in
    next_met t (events_left (o ∷ under)) c.in_ok-enter-in-Ok-Opening.field-0 c.enter.new.walk (c.in_ok-enter-in-Ok-Opening.ensures.entered t o under w more x))

pub returns-in_ok-pass_scalar-in-Ok-Scalar-clause-met : goal.returns-in_ok-pass_scalar-in-Ok-Scalar-clause-met
returns-in_ok-pass_scalar-in-Ok-Scalar-clause-met c = λ t r e opens w0.
    let walk = c.args.walk.now in
    let at : c.in-Some.top + 1 ≡ walk.depth = omega (arith, c.in-Some.ensures) in
    over_opens t opens walk c.in-Some.top at w0 (λ os. MeetsNext t (events_left os) (Ok (Some c.in_ok-pass_scalar-in-Ok-Scalar.field-0)) c.pass_scalar.new.walk) (λ o under w.
    let behind = behind_key (zeros_at t) in
    let is = bytes_left t (o ∷ under) walk.offset behind c.args.document.now c.split_at.result.1.now w.place e c.split_at.ensures.back in
    let more = opens_key under ++ behind in
    let is_more = is ∙ append_assoc (open_key o) (opens_key under) behind in
    let kind = sym (c.is_object_at.ensures (is_object o) (top_marked o under walk.objects walk.depth c.in-Some.top at w.marked).0) in
    let x = subst (λ p. BeginsWithPart o w.levels more c.split_at.result.1.now (Ok p)) c.in-Ok-Scalar.field-0-is (c.in-Ok-Scalar.ensures.next o kind w.levels w.are_open.0 more is_more) in
    next_met t (events_left (o ∷ under)) c.in_ok-pass_scalar-in-Ok-Scalar.field-0 c.pass_scalar.new.walk (c.in_ok-pass_scalar-in-Ok-Scalar.ensures.passed t r e o under w more x))

pub returns-in-Err-clause-met : goal.returns-in-Err-clause-met
returns-in-Err-clause-met c = λ t r e opens w0.
    let walk = c.args.walk.now in
    let at : c.in-Some.top + 1 ≡ walk.depth = omega (arith, c.in-Some.ensures) in
    over_opens t opens walk c.in-Some.top at w0 (λ os. MeetsNext t (events_left os) (Err NoDocument) walk) (λ o under w.
    let behind = behind_key (zeros_at t) in
    let is = bytes_left t (o ∷ under) walk.offset behind c.args.document.now c.split_at.result.1.now w.place e c.split_at.ensures.back in
    let more = opens_key under ++ behind in
    let is_more = is ∙ append_assoc (open_key o) (opens_key under) behind in
    let kind = sym (c.is_object_at.ensures (is_object o) (top_marked o under walk.objects walk.depth c.in-Some.top at w.marked).0) in
    absurd (c.in-Err.ensures.next o kind w.levels w.are_open.0 more is_more))
