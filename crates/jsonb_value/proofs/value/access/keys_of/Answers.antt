use Rattle.std.proofs.Common.{◌≡◌, [], sym, ap, ◌∙◌, append-nil, rules}
use Rattle.jsonb_spec.specs.Tree.{trees_of}
use Rattle.jsonb_value.proofs.Outcomes.{no_ok}
use Rattle.jsonb_value.proofs.Values.Accessors.{key_trees-members_view}
use Rattle.jsonb_value.proofs.value.access.keys_of.Goals as goal

pub returns-clause-ok : goal.returns-clause-ok
returns-clause-ok c =
    let none : c.members.key-iterator ≡ [] = search rules in
    ap trees_of (sym (append-nil _) ∙ (rw none at c.members.invariant)) ∙ key_trees-members_view c.args.members.now.entries

pub returns-in_err-keys-clause-ok : goal.returns-in_err-keys-clause-ok
returns-in_err-keys-clause-ok c = no_ok _ _ c.from_residual.ensures.0

pub returns-in_err-clone-clause-ok : goal.returns-in_err-clone-clause-ok
returns-in_err-clone-clause-ok c = no_ok _ _ c.from_residual-in_err-clone.ensures.0

pub returns-in_err-push-clause-ok : goal.returns-in_err-push-clause-ok
returns-in_err-push-clause-ok c = no_ok _ _ c.from_residual-in_err-push.ensures.0
