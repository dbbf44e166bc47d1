use Rattle.std.proofs.Common.{◌≡◌, [], map, ◌∙◌, sym, ap, subst, append-nil, rules}
use Rattle.std.proofs.lemmas.List.{take_all}
use Rattle.jsonb_spec.specs.Keys.{KeysAscend}
use Rattle.jsonb_spec.specs.Owned.{owned_tree}
use Rattle.jsonb_spec.specs.Tree.{trees_of}
use Rattle.jsonb_value.specs.View.{view, members_view}
use Rattle.jsonb_value.proofs.Outcomes.{no_ok}
use Rattle.jsonb_value.proofs.Values.Keys.{KeysAscend-members_view}
use Rattle.jsonb_value.proofs.Values.OwnedCopies.{owned_items-trees_view, members_view-owned, KeysAscend-owned}
use Rattle.jsonb_value.proofs.value.owned.+own.Goals as goal

pub own_items-returns-clause-ok : goal.own_items-returns-clause-ok
own_items-returns-clause-ok t c =
    let items = c.args.items.now.items in
    let all = take_all c.items.item-index c.deref-item-items.result.now c.items-test.false ∙ c.deref-item-items.ensures.value in
    let whole : map view c.items.copies.items ≡ map (λ v. owned_tree (view v)) items = c.items.invariant.0 ∙ ap (map (λ v. owned_tree (view v))) all in
    ap trees_of whole ∙ owned_items-trees_view items

-- the pairs are the members with owned strings, and the object that is built of them has them
pub own_members-returns-clause-ok : goal.own_members-returns-clause-ok
own_members-returns-clause-ok t c =
    let entries = c.args.members.now.entries in
    let none : c.members.key-iterator ≡ [] = search rules in
    let same = members_view-owned c.members.pairs.items entries (sym (append-nil _) ∙ (rw none at c.members.invariant.0)) in
    let ascend = subst KeysAscend (sym same) (KeysAscend-owned (members_view entries) (KeysAscend-members_view entries c.iter-key-items.ensures.ordered)) in
    c.in_ok-build.ensures ascend ∙ same

pub own-returns-in_err-own_text-in-String-clause-ok : goal.own-returns-in_err-own_text-in-String-clause-ok
own-returns-in_err-own_text-in-String-clause-ok t c = no_ok _ _ c.from_residual.ensures.0

pub own-returns-in_err-own_text-in-String-clause-binary : goal.own-returns-in_err-own_text-in-String-clause-binary
own-returns-in_err-own_text-in-String-clause-binary t c = no_ok _ _ c.from_residual.ensures.0

pub own-returns-in_err-own_items-in-Array-clause-ok : goal.own-returns-in_err-own_items-in-Array-clause-ok
own-returns-in_err-own_items-in-Array-clause-ok t c = no_ok _ _ c.from_residual-in_err-own_items-in-Array.ensures.0

pub own-returns-in_err-own_items-in-Array-clause-binary : goal.own-returns-in_err-own_items-in-Array-clause-binary
own-returns-in_err-own_items-in-Array-clause-binary t c = no_ok _ _ c.from_residual-in_err-own_items-in-Array.ensures.0

pub own-returns-in_err-own_members-in-Object-clause-ok : goal.own-returns-in_err-own_members-in-Object-clause-ok
own-returns-in_err-own_members-in-Object-clause-ok t c = no_ok _ _ c.from_residual-in_err-own_members-in-Object.ensures.0

pub own-returns-in_err-own_members-in-Object-clause-binary : goal.own-returns-in_err-own_members-in-Object-clause-binary
own-returns-in_err-own_members-in-Object-clause-binary t c = no_ok _ _ c.from_residual-in_err-own_members-in-Object.ensures.0

pub own_items-returns-in_err-copies-clause-ok : goal.own_items-returns-in_err-copies-clause-ok
own_items-returns-in_err-copies-clause-ok t c = no_ok _ _ c.from_residual.ensures.0

pub own_items-returns-in_err-copies-clause-binary : goal.own_items-returns-in_err-copies-clause-binary
own_items-returns-in_err-copies-clause-binary t c = no_ok _ _ c.from_residual.ensures.0

pub own_items-returns-in_err-own-clause-ok : goal.own_items-returns-in_err-own-clause-ok
own_items-returns-in_err-own-clause-ok t c = no_ok _ _ c.from_residual-in_err-own.ensures.0

pub own_items-returns-in_err-own-clause-binary : goal.own_items-returns-in_err-own-clause-binary
own_items-returns-in_err-own-clause-binary t c = no_ok _ _ c.from_residual-in_err-own.ensures.0

pub own_items-returns-in_err-push-clause-ok : goal.own_items-returns-in_err-push-clause-ok
own_items-returns-in_err-push-clause-ok t c = no_ok _ _ c.from_residual-in_err-push.ensures.0

pub own_items-returns-in_err-push-clause-binary : goal.own_items-returns-in_err-push-clause-binary
own_items-returns-in_err-push-clause-binary t c = no_ok _ _ c.from_residual-in_err-push.ensures.0

pub own_members-returns-in_err-pairs-clause-ok : goal.own_members-returns-in_err-pairs-clause-ok
own_members-returns-in_err-pairs-clause-ok t c = no_ok _ _ c.from_residual.ensures.0

pub own_members-returns-in_err-pairs-clause-binary : goal.own_members-returns-in_err-pairs-clause-binary
own_members-returns-in_err-pairs-clause-binary t c = no_ok _ _ c.from_residual.ensures.0

pub own_members-returns-in_err-name-clause-ok : goal.own_members-returns-in_err-name-clause-ok
own_members-returns-in_err-name-clause-ok t c = no_ok _ _ c.from_residual-in_err-name.ensures.0

pub own_members-returns-in_err-name-clause-binary : goal.own_members-returns-in_err-name-clause-binary
own_members-returns-in_err-name-clause-binary t c = no_ok _ _ c.from_residual-in_err-name.ensures.0

pub own_members-returns-in_err-own-clause-ok : goal.own_members-returns-in_err-own-clause-ok
own_members-returns-in_err-own-clause-ok t c = no_ok _ _ c.from_residual-in_err-own.ensures.0

pub own_members-returns-in_err-own-clause-binary : goal.own_members-returns-in_err-own-clause-binary
own_members-returns-in_err-own-clause-binary t c = no_ok _ _ c.from_residual-in_err-own.ensures.0

pub own_members-returns-in_err-push-clause-ok : goal.own_members-returns-in_err-push-clause-ok
own_members-returns-in_err-push-clause-ok t c = no_ok _ _ c.from_residual-in_err-push.ensures.0

pub own_members-returns-in_err-push-clause-binary : goal.own_members-returns-in_err-push-clause-binary
own_members-returns-in_err-push-clause-binary t c = no_ok _ _ c.from_residual-in_err-push.ensures.0

pub own_members-returns-in_err-build-clause-ok : goal.own_members-returns-in_err-build-clause-ok
own_members-returns-in_err-build-clause-ok t c = no_ok _ _ c.from_residual-in_err-build.ensures.0

pub own_members-returns-in_err-build-clause-binary : goal.own_members-returns-in_err-build-clause-binary
own_members-returns-in_err-build-clause-binary t c = no_ok _ _ c.from_residual-in_err-build.ensures.0
