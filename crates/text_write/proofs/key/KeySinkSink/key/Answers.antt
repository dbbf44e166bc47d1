use Rattle.std.proofs.Common.{arith, refl}
use Rattle.text_write.proofs.Keys.KeyMembers.{begins, begins_wrote, key_holds}
use Rattle.text_members.proofs.Outcomes.{on_ok}
use Rattle.text_write.proofs.key.KeySinkSink.key.Goals as goal

pub returns-clause-holds : goal.returns-clause-holds
returns-clause-holds c =
    on_ok c.append_text.result c.append_text.ensures.bytes (λ wrote text held fs k offset cs mark sink.
    key_holds mark c.args.key.now c.args.after c.len-start.result sink (omega arith) (begins_wrote (begins refl refl c.in_ok-begin_decoded.ensures) wrote) c.utf8.key)
