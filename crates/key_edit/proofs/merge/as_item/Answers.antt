use Rattle.std.proofs.Common.{[], append-nil, refl, sym, ◌∙◌}
use Rattle.jsonb_spec.specs.SortKey.{key_of}
use Rattle.key_edit.proofs.Putting.{it_fits, not_fits}
use Rattle.key_edit.proofs.merge.as_item.Goals as goal

pub returns-in_err-fits : goal.returns-in_err-fits
returns-in_err-fits c = λ t r e. absurd (c.in_err-fits.ensures t r [] (e ∙ sym (append-nil (key_of t))))

pub returns-then-not-branch : goal.returns-then-not-branch
returns-then-not-branch c = λ t r e. (refl, not_fits _ _ c.if-not-branch.true (c.in_ok-fits.ensures t r [] (e ∙ sym (append-nil (key_of t)))))

pub returns : goal.returns
returns c = λ t r e. (refl, it_fits _ _ c.if-not-branch.false (c.in_ok-fits.ensures t r [] (e ∙ sym (append-nil (key_of t)))))
