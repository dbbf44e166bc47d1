use Rattle.std.proofs.Common.{ap, arith, length, length-append, refl, ◌∙◌}
use Rattle.text_members.proofs.Outcomes.{on_ok}
use Rattle.text_write.proofs.SinkMembers.{begins, begins_wrote, comma_led, counted, key_holds, wrote_begins}
use Rattle.text_write.proofs.text.TextSinkSink.key.Goals as goal

pub returns-clause-holds : goal.returns-clause-holds
returns-clause-holds c =
    on_ok c.put.result c.put.ensures.bytes (λ colon text held fs k offset cs mark sink.
    let comma = comma_led fs (counted sink) c.in_ok-next_member.ensures.more c.in_ok-next_member.ensures.none in
    let quoted = c.in_ok-string.ensures.bytes (λ h. absurd (omega arith)) in
    key_holds mark c.args.key.now c.args.after _ sink (c.len-start.ensures ∙ ap length comma.written ∙ length-append _ _) (wrote_begins comma (begins_wrote (begins_wrote (begins refl refl c.in_ok-begin_decoded.ensures) quoted) colon)) c.utf8.key)
