use Rattle.std.proofs.Common.{◌<◌, length, refl, arith}
use Rattle.std.proofs.lemmas.Grind.{common_steps}
use Rattle.jsonb.specs.AstView.{Written}
use Rattle.jsonb.proofs.Rows.{source_members_view-more}
use Rattle.jsonb.proofs.parser.ast.clone.+copy.Goals as goal

pub copy_members-members-preserved : goal.copy_members-members-preserved
copy_members-members-preserved t c =
    let text = c.in_ok-copy_text in
    let m = c.member-item.result in
    let copied : Written = (text.field-0, c.in_ok-copy.field-0, m.2) in
    let within : c.members.member-index < length c.deref-member-items.result.now = grind (arith, common_steps) in
    source_members_view-more c.members.copies.items c.push.new.self.items c.deref-member-items.result.now c.members.member-index copied m
    c.in_ok-push.ensures.items within c.member-item.is text.ensures.mark text.ensures.bytes c.in_ok-copy.ensures.same refl c.members.invariant
