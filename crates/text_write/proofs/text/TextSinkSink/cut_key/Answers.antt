use Rattle.std.proofs.Common.{◌-◌, ◌<◌, ◌≤◌, ap, length, length-append, refl, rules, slice_range, subst, sym, ◌∙◌}
use Rattle.jsonb_spec.specs.Tree.{plain}
use Rattle.text_members.proofs.OpenMembers.{begun_there}
use Rattle.text_members.proofs.Outcomes.{on_ok}
use Rattle.text_write.proofs.SinkMembers.{begins, begins_wrote, comma_led, counted, key_holds, quoted_verbatim, wrote_begins}
use Rattle.text_write.proofs.text.TextSinkSink.cut_key.Goals as goal

pub returns-then-from-eq0-clause-holds : goal.returns-then-from-eq0-clause-holds
returns-then-from-eq0-clause-holds c = on_ok c.key.result c.key.ensures.holds (λ holds text held fs k offset cs sink encoded plainly. holds text held fs k offset cs plain sink)

pub preserve-requires-clause-inside : goal.preserve-requires-clause-inside
preserve-requires-clause-inside c = subst (λ t. c.args.after ≤ length t) (sym c.in_ok-next_member.ensures.text) c.if-not-is_range.ensures.1

pub returns-then-is_plain-clause-holds : goal.returns-then-is_plain-clause-holds
returns-then-is_plain-clause-holds c =
    on_ok c.put.result c.put.ensures.bytes (λ colon text held fs k offset cs sink encoded plainly.
    let key = c.args.key.now in
    let some : 0 < c.args.from = search rules in
    let there = encoded some in
    let inside : c.args.after ≤ length text = subst (λ t. c.args.after ≤ length t) sink.text_is c.if-not-is_range.ensures.1 in
    let comma = comma_led fs (counted sink) c.in_ok-next_member.ensures.more c.in_ok-next_member.ensures.none in
    let begun = begun_there key c.args.from c.args.after c.len-start.result (comma.members.text ∙ sink.members.text_is) some c.if-not-is_range.ensures.0 inside there c.in_ok-begin_within.ensures in
    let quoted = quoted_verbatim key c.args.from c.args.after (comma.text ∙ sink.text_is) there (plainly c.if-is_plain.true) c.in_ok-preserve.ensures.bytes in
    key_holds plain key c.args.after _ sink (c.len-start.ensures ∙ ap length comma.written ∙ length-append _ _) (wrote_begins comma (begins_wrote (begins_wrote (begins refl refl begun) quoted) colon)) c.utf8.key)

pub returns-clause-holds : goal.returns-clause-holds
returns-clause-holds c =
    on_ok c.put-2.result c.put-2.ensures.bytes (λ colon text held fs k offset cs sink encoded plainly.
    let key = c.args.key.now in
    let some : 0 < c.args.from = search rules in
    let there = encoded some in
    let inside : c.args.after ≤ length text = subst (λ t. c.args.after ≤ length t) sink.text_is c.if-not-is_range.ensures.1 in
    let comma = comma_led fs (counted sink) c.in_ok-next_member.ensures.more c.in_ok-next_member.ensures.none in
    let begun = begun_there key c.args.from c.args.after c.len-start.result (comma.members.text ∙ sink.members.text_is) some c.if-not-is_range.ensures.0 inside there c.in_ok-begin_within.ensures in
    let quoted = c.in_ok-string.ensures.bytes (λ h. ap (λ t. slice_range t (c.args.from - 1) c.args.after) (comma.text ∙ sink.text_is) ∙ there) in
    key_holds plain key c.args.after _ sink (c.len-start.ensures ∙ ap length comma.written ∙ length-append _ _) (wrote_begins comma (begins_wrote (begins_wrote (begins refl refl begun) quoted) colon)) c.utf8.key)
