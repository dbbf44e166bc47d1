use Rattle.std.proofs.Common.{[], ◌∷◌, ◌++◌, sym, ap, ◌∙◌, append_assoc}
use Rattle.jsonb_spec.specs.Tree.{put, put_all}
use Rattle.jsonb_value.specs.View.{members_view}
use Rattle.jsonb_value.proofs.Values.Members.{members_view-insert_entry}
use Rattle.jsonb.specs.AstView.{Written, written_pairs}
use Rattle.std.specs.Vec.Iter.{into_iter_items}
use Rattle.jsonb.proofs.parser.ast.into_value.+build.Goals as goal

pub build_members-members-preserved : goal.build_members-members-preserved
build_members-members-preserved t c =
    let ((taken, whole), made) = c.members.invariant in
    let so_far = members_view c.members.object.entries in
    let left = into_iter_items c.next.new.self in
    let e : Written = (c.in-Some.key, c.in-Some.ast, c.in-Some.field-0-2) in (
      (taken ++ e ∷ [], whole ∙ ap (λ ms. taken ++ ms) c.in-Some.ensures.steps.0 ∙ sym (append_assoc taken (e ∷ []) left)),
      ap (put_all (written_pairs left))
          (ap members_view c.in_ok-put_member.ensures.entries ∙ members_view-insert_entry c.members.object.entries c.in_ok-name.name c.in_ok-build.field-0
          ∙ (λ i. put (c.in_ok-name.ensures.ok i) (c.in_ok-build.ensures.ok i) so_far))
          ∙ ap (λ ms. put_all (written_pairs ms) so_far) (sym c.in-Some.ensures.steps.0)
          ∙ made,
    )
