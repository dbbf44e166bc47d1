use Rattle.std.proofs.Common.{◌≡◌, ◌+◌, ◌<◌, ◌++◌, [], Ok, Err, length, vec_len, ap, append-nil, subst, sym, ◌∙◌}
use Rattle.std.specs.Vec.{vec_capacity}
use Rattle.jsonb_spec.specs.SortKey.Open.{name_key}
use Rattle.jsonb_spec.specs.SortKey.{key_of}
use Rattle.key_edit.specs.Edit.{AppendsKey}
use Rattle.key_edit.specs.Spots.{Occurs}
use Rattle.key_edit.specs.declared.error.EditError.TheVariants as errors
use Rattle.key_edit.proofs.Putting.{appended, it_fits, lacking, not_fits, put_answered}
use Rattle.key_edit.proofs.edit.put_part.Goals as goal

pub returns-then-not-branch-clause-put : goal.returns-then-not-branch-clause-put
returns-then-not-branch-clause-put c = λ changed s u r e change is.
    put_answered (λ v. AppendsKey {X = Unit {0}} v (Err errors.TooDeep) c.args.out.now c.args.out.now) changed c.args.slot.now.object c.args.slot.now.name.now c.args.key.now c.args.slot.now.depth_left c.args.slot.now.spot c.args.slot.now.behind.now s.0 s.1 u change is
    (λ v key_is fits. record { ok = tt; fits = tt; errors = λ w. not_fits _ _ c.if-not-branch.true (c.in_ok-fits.ensures u r [] (e ∙ sym (append-nil (key_of u)))) (fits.0 w) })

pub returns-in_err-fits-clause-put : goal.returns-in_err-fits-clause-put
returns-in_err-fits-clause-put c = λ changed s u r e change is. absurd (c.in_err-fits.ensures u r [] (e ∙ sym (append-nil (key_of u))))

pub returns-then-is_err-clause-put : goal.returns-then-is_err-clause-put
returns-then-is_err-clause-put c = λ changed s u r e change is.
    put_answered (λ v. AppendsKey {X = Unit {0}} v (Err errors.OutOfMemory) c.args.out.now c.write_part.new.out) changed c.args.slot.now.object c.args.slot.now.name.now c.args.key.now c.args.slot.now.depth_left c.args.slot.now.spot c.args.slot.now.behind.now s.0 s.1 u change is
    (λ v key_is fits.
    let bytes = s.0.front ++ (name_key c.args.slot.now.object s.0.name ++ (c.args.part.now ++ c.args.slot.now.behind.now)) in
    let same : bytes ≡ key_of v = ap (λ part. s.0.front ++ (name_key c.args.slot.now.object s.0.name ++ (part ++ c.args.slot.now.behind.now))) e ∙ sym key_is in
    let full = lacking c.write_part.result c.args.out.now c.write_part.new.out bytes (sym c.is_err.ensures.value ∙ c.if-is_err.true) (c.write_part.ensures.written s.0.there s.0.name s.0.front s.0.inside (subst (λ behind. Occurs c.args.slot.now.object s.0.name c.args.slot.now.spot behind s.0.there) s.1 s.0.occurs) s.0.named) in
    record { ok = tt; fits = tt; errors = subst (λ key. vec_capacity c.args.out.now < vec_len c.args.out.now + length key) same full })

pub returns-clause-put : goal.returns-clause-put
returns-clause-put c = λ changed s u r e change is.
    put_answered (λ v. AppendsKey {X = Unit {0}} v (Ok tt) c.args.out.now c.write_part.new.out) changed c.args.slot.now.object c.args.slot.now.name.now c.args.key.now c.args.slot.now.depth_left c.args.slot.now.spot c.args.slot.now.behind.now s.0 s.1 u change is
    (λ v key_is fits.
    let bytes = s.0.front ++ (name_key c.args.slot.now.object s.0.name ++ (c.args.part.now ++ c.args.slot.now.behind.now)) in
    let same : bytes ≡ key_of v = ap (λ part. s.0.front ++ (name_key c.args.slot.now.object s.0.name ++ (part ++ c.args.slot.now.behind.now))) e ∙ sym key_is in
    let done = appended c.write_part.result c.args.out.now c.write_part.new.out bytes (sym c.is_err.ensures.value ∙ c.if-is_err.false) (c.write_part.ensures.written s.0.there s.0.name s.0.front s.0.inside (subst (λ behind. Occurs c.args.slot.now.object s.0.name c.args.slot.now.spot behind s.0.there) s.1 s.0.occurs) s.0.named) in
    record { ok = done ∙ ap (λ key. c.args.out.now.items ++ key) same; fits = fits.1 (it_fits _ _ c.if-not-branch.false (c.in_ok-fits.ensures u r [] (e ∙ sym (append-nil (key_of u))))); errors = tt })
