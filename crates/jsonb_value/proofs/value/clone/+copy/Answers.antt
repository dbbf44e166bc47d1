use Rattle.std.proofs.Common.{◌≡◌, [], ◌∙◌, sym, subst, append-nil, rules}
use Rattle.std.proofs.lemmas.Result.{IfOk-weaker}
use Rattle.jsonb_spec.specs.Keys.{KeysAscend}
use Rattle.jsonb_value.specs.View.{members_view}
use Rattle.jsonb_value.proofs.Outcomes.{no_ok}
use Rattle.jsonb_value.proofs.Values.Built.{members_view-alike}
use Rattle.jsonb_value.proofs.Values.Keys.{KeysAscend-members_view}
use Rattle.jsonb_value.proofs.Values.Members.{put_all-more, put_all-sorted}
use Rattle.jsonb_value.proofs.value.clone.+copy.Goals as goal

pub insert_copies-members-init : goal.insert_copies-members-init
insert_copies-members-init t c =
    let empty : c.in_ok-copies.copies.entries ≡ [] = c.in_ok-copies.ensures.0 in
    let whole : c.into_iter-key-iterator.result ≡ c.args.members.now.entries = c.into_iter-key-iterator.ensures.into_iter_gives ∙ c.iter-key-items.ensures.rest in
    rw (empty, whole) (put_all-sorted c.args.members.now.entries c.iter-key-items.ensures.ordered)

pub insert_copies-members-preserved : goal.insert_copies-members-preserved
insert_copies-members-preserved t c =
    put_all-more _ _ (c.in-Some.key.now, c.in-Some.value.now) c.next.new.self _ _ c.in_ok-name.name c.in_ok-copy.field-0
    c.in-Some.ensures.steps c.in_ok-insert.ensures.entries c.in_ok-name.ensures.cases c.in_ok-copy.ensures.same c.members.invariant

-- the pairs are the members
pub copy_pairs-returns-clause-same : goal.copy_pairs-returns-clause-same
copy_pairs-returns-clause-same t c =
    let none : c.pairs.key-iterator ≡ [] = search rules in
    members_view-alike c.pairs.pairs.items c.args.members.now.entries (sym (append-nil _) ∙ (rw none at c.pairs.invariant))

pub copy_pairs-returns-clause-ascend : goal.copy_pairs-returns-clause-ascend
copy_pairs-returns-clause-ascend t c =
    subst KeysAscend (sym (copy_pairs-returns-clause-same t c)) (KeysAscend-members_view c.args.members.now.entries c.iter-key-items.ensures.ordered)

-- the object that is built of the pairs has the members
pub copy_members-returns-in-Some : goal.copy_members-returns-in-Some
copy_members-returns-in-Some t c =
    IfOk-weaker c.build.result (λ m. members_view m.entries ≡ members_view c.in_ok-copy_pairs.field-0.items) _ (λ m e. e ∙ c.in_ok-copy_pairs.ensures.same) (c.build.ensures c.in_ok-copy_pairs.ensures.ascend)

pub copy-returns-in_err-copy_text-in-String-clause-same : goal.copy-returns-in_err-copy_text-in-String-clause-same
copy-returns-in_err-copy_text-in-String-clause-same t c = no_ok _ _ c.from_residual.ensures.0

pub copy-returns-in_err-copy_items-in-Array-clause-same : goal.copy-returns-in_err-copy_items-in-Array-clause-same
copy-returns-in_err-copy_items-in-Array-clause-same t c = no_ok _ _ c.from_residual-in_err-copy_items-in-Array.ensures.0

pub copy-returns-in_err-copy_members-in-Object-clause-same : goal.copy-returns-in_err-copy_members-in-Object-clause-same
copy-returns-in_err-copy_members-in-Object-clause-same t c = no_ok _ _ c.from_residual-in_err-copy_members-in-Object.ensures.0

pub copy_items-returns-in_err-copies : goal.copy_items-returns-in_err-copies
copy_items-returns-in_err-copies t c = no_ok _ _ c.from_residual.ensures.0

pub copy_items-returns-in_err-clone-in-String-Owned : goal.copy_items-returns-in_err-clone-in-String-Owned
copy_items-returns-in_err-clone-in-String-Owned t c = no_ok _ _ c.from_residual-in_err-clone-in-String-Owned.ensures.0

pub copy_items-returns-in_err-copy-in_default : goal.copy_items-returns-in_err-copy-in_default
copy_items-returns-in_err-copy-in_default t c = no_ok _ _ c.from_residual-in_err-copy-in_default.ensures.0

pub copy_members-returns-in_err-copy_pairs : goal.copy_members-returns-in_err-copy_pairs
copy_members-returns-in_err-copy_pairs t c = no_ok _ _ c.from_residual.ensures.0

pub copy_pairs-returns-in_err-pairs-clause-same : goal.copy_pairs-returns-in_err-pairs-clause-same
copy_pairs-returns-in_err-pairs-clause-same t c = no_ok _ _ c.from_residual.ensures.0

pub copy_pairs-returns-in_err-pairs-clause-ascend : goal.copy_pairs-returns-in_err-pairs-clause-ascend
copy_pairs-returns-in_err-pairs-clause-ascend t c = no_ok _ _ c.from_residual.ensures.0

pub copy_pairs-returns-in_err-name-clause-same : goal.copy_pairs-returns-in_err-name-clause-same
copy_pairs-returns-in_err-name-clause-same t c = no_ok _ _ c.from_residual-in_err-name.ensures.0

pub copy_pairs-returns-in_err-name-clause-ascend : goal.copy_pairs-returns-in_err-name-clause-ascend
copy_pairs-returns-in_err-name-clause-ascend t c = no_ok _ _ c.from_residual-in_err-name.ensures.0

pub copy_pairs-returns-in_err-copy-clause-same : goal.copy_pairs-returns-in_err-copy-clause-same
copy_pairs-returns-in_err-copy-clause-same t c = no_ok _ _ c.from_residual-in_err-copy.ensures.0

pub copy_pairs-returns-in_err-copy-clause-ascend : goal.copy_pairs-returns-in_err-copy-clause-ascend
copy_pairs-returns-in_err-copy-clause-ascend t c = no_ok _ _ c.from_residual-in_err-copy.ensures.0

pub copy_pairs-returns-in_err-push-clause-same : goal.copy_pairs-returns-in_err-push-clause-same
copy_pairs-returns-in_err-push-clause-same t c = no_ok _ _ c.from_residual-in_err-push.ensures.0

pub copy_pairs-returns-in_err-push-clause-ascend : goal.copy_pairs-returns-in_err-push-clause-ascend
copy_pairs-returns-in_err-push-clause-ascend t c = no_ok _ _ c.from_residual-in_err-push.ensures.0

pub insert_copies-returns-in_err-copies : goal.insert_copies-returns-in_err-copies
insert_copies-returns-in_err-copies t c = no_ok _ _ c.from_residual.ensures.0

pub insert_copies-returns-in_err-name : goal.insert_copies-returns-in_err-name
insert_copies-returns-in_err-name t c = no_ok _ _ c.from_residual-in_err-name.ensures.0

pub insert_copies-returns-in_err-copy : goal.insert_copies-returns-in_err-copy
insert_copies-returns-in_err-copy t c = no_ok _ _ c.from_residual-in_err-copy.ensures.0

pub insert_copies-returns-in_err-insert : goal.insert_copies-returns-in_err-insert
insert_copies-returns-in_err-insert t c = no_ok _ _ c.from_residual-in_err-insert.ensures.0
