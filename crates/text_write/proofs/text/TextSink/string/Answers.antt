use Rattle.std.proofs.Common.{◌+◌, length, subst, take}
use Rattle.std.proofs.lemmas.List.{take_rest}
use Rattle.jsonb_spec.specs.Text.StringText.{ArePlain}
use Rattle.text_members.proofs.Outcomes.{on_ok}
use Rattle.text_write.proofs.Encoded.{string_verbatim}
use Rattle.text_write.proofs.text.TextSink.string.Goals as goal

pub returns-then-is_plain-clause-bytes : goal.returns-then-is_plain-clause-bytes
returns-then-is_plain-clause-bytes c =
    on_ok c.preserve.result c.preserve.ensures.bytes (λ w encoded.
    string_verbatim c.args.string.now c.args.from c.args.to
    (subst (λ rest. ArePlain (take (length c.args.string.now) rest)) (take_rest c.args.self.now.written.text.now (c.args.from + 1)) c.if-is_plain.ensures)
    w (encoded c.if-is_range.ensures.0))
