use Rattle.text_write.proofs.Checks.{key_begun}
use Rattle.text_members.proofs.Outcomes.{on_ok}
use Rattle.text_write.proofs.check.CheckSink.key.Goals as goal

pub returns : goal.returns
returns c = record {
  holds =
      on_ok c.begin_decoded.result c.begin_decoded.ensures (λ begun text held fs k offset cs mark sink. key_begun mark c.args.key.now c.args.after sink begun c.utf8.key);
}
