use Rattle.std.proofs.Common.{sym, subst}
use Rattle.std.specs.Result.{OnOk}
use Rattle.text_write.specs.TextSink.{IsEncoded, Writes, part_text}
use Rattle.text_members.proofs.Outcomes.{on_ok}
use Rattle.text_write.proofs.text.TextSink.part.Goals as goal

pub returns-in-Number-clause-bytes : goal.returns-in-Number-clause-bytes
returns-in-Number-clause-bytes c =
    subst (λ p. OnOk c.number.result (IsEncoded c.args.self.now.written.text.now c.args.from c.args.to p → Writes (part_text p) c.args.self.now c.number.new.self)) (sym c.in-Number.is)
    (on_ok c.number.result c.number.ensures.bytes (λ wrote encoded. wrote encoded))
