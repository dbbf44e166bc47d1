use Rattle.std.proofs.Common.{[], append-nil, sym, ◌∙◌}
use Rattle.key_value.proofs.Texts.{none_some}
use Rattle.jsonb_spec.specs.SortKey.{key_of}
use Rattle.jsonb_spec.specs.Tree.{object}
use Rattle.key_edit.proofs.merge.both_members.Goals as goal

pub returns-in_default : goal.returns-in_default
returns-in_default c = λ ms ns l r. absurd (none_some _ (c.in_default.ensures.object ms [] (l ∙ sym (append-nil (key_of (object ms))))))

pub returns-in_default-members_of : goal.returns-in_default-members_of
returns-in_default-members_of c = λ ms ns l r. absurd (none_some _ (c.in_default-members_of.ensures.object ns [] (r ∙ sym (append-nil (key_of (object ns))))))
