use Rattle.std.proofs.Common.{subst}
use Rattle.text_write.specs.TextSink.{Writes}
use Rattle.text_members.proofs.Outcomes.{on_ok}
use Rattle.text_common.proofs.EncodedNumbers.{encoded_number}
use Rattle.text_write.proofs.text.TextSink.number.Goals as goal

pub returns-then-is_verbatim-clause-bytes : goal.returns-then-is_verbatim-clause-bytes
returns-then-is_verbatim-clause-bytes c =
    on_ok c.preserve.result c.preserve.ensures.bytes (λ w encoded. subst (λ bytes. Writes bytes c.args.self.now c.preserve.new.self) (encoded_number c.args.number.now _ c.if-is_verbatim.ensures (encoded c.if-is_range.ensures.0)) w)
