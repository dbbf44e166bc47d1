use Rattle.std.proofs.Common.{subst, sym}
use Rattle.std.specs.Result.{OnOk}
use Rattle.jsonb_spec.specs.Source.{Source}
use Rattle.text_write.specs.TextSink.{Writes}
use Rattle.text_common.specs.VerbatimScalar.{IsVerbatimAt}
use Rattle.jsonb_spec.specs.Text.SourceText.{source_text}
use Rattle.text_members.proofs.Outcomes.{on_ok}
use Rattle.text_write.proofs.text.TextSink.verbatim.Goals as goal

pub returns-in-Integer-clause-bytes : goal.returns-in-Integer-clause-bytes
returns-in-Integer-clause-bytes c =
    let r = c.args.self.now in
    subst (λ k. OnOk c.preserve_range.result ((s : Source) → IsVerbatimAt k r.written.text.now c.args.from c.args.to s → Writes (source_text s) r c.preserve_range.new.self)) (sym c.in-Integer.is)
    (on_ok c.preserve_range.result c.preserve_range.ensures.bytes (λ w s at. subst (λ bytes. Writes bytes r c.preserve_range.new.self) at.same w))

pub returns-in-Decimal-clause-bytes : goal.returns-in-Decimal-clause-bytes
returns-in-Decimal-clause-bytes c =
    let r = c.args.self.now in
    let sink = c.preserve_range-in-Decimal.new.self in
    subst (λ k. OnOk c.preserve_range-in-Decimal.result ((s : Source) → IsVerbatimAt k r.written.text.now c.args.from c.args.to s → Writes (source_text s) r sink)) (sym c.in-Decimal.is)
    (on_ok c.preserve_range-in-Decimal.result c.preserve_range-in-Decimal.ensures.bytes (λ w s at. subst (λ bytes. Writes bytes r sink) at.same w))

pub returns-in-Same-clause-bytes : goal.returns-in-Same-clause-bytes
returns-in-Same-clause-bytes c =
    let r = c.args.self.now in
    let sink = c.preserve_range-in-Same.new.self in
    subst (λ k. OnOk c.preserve_range-in-Same.result ((s : Source) → IsVerbatimAt k r.written.text.now c.args.from c.args.to s → Writes (source_text s) r sink)) (sym c.in-Same.is)
    (on_ok c.preserve_range-in-Same.result c.preserve_range-in-Same.ensures.bytes (λ w s at. subst (λ bytes. Writes bytes r sink) at.1 w))

pub returns-in-Escaped-clause-bytes : goal.returns-in-Escaped-clause-bytes
returns-in-Escaped-clause-bytes c =
    let r = c.args.self.now in
    subst (λ k. OnOk c.json_string.result ((s : Source) → IsVerbatimAt k r.written.text.now c.args.from c.args.to s → Writes (source_text s) r c.json_string.new.self)) (sym c.in-Escaped.is) c.json_string.ensures.bytes
