use Rattle.std.proofs.Common.{take, ap, subst, ◌∙◌, arith}
use Rattle.std.proofs.lemmas.List.{take-take}
use Rattle.jsonb_spec.specs.Text.Appending.{Appends}
use Rattle.key_text.proofs.append.append_first.Goals as goal

pub returns-in-Some : goal.returns-in-Some
returns-in-Some c =
    subst (Appends c.append_chunk.result c.args.buf.now c.append_chunk.new.buf)
    (ap (take c.args.count) c.in-Some.ensures.cases.same ∙ take-take c.args.count 32 c.args.bytes.now (omega arith)) c.append_chunk.ensures
