use Rattle.std.proofs.Common.{subst, sym}
use Rattle.std.specs.Result.{OnOk}
use Rattle.jsonb_spec.specs.Source.{Source}
use Rattle.text_write.specs.KeySink.{Writes}
use Rattle.jsonb_spec.specs.SortKey.Joined.{source_key}
use Rattle.text_common.specs.VerbatimScalar.{IsVerbatimAt}
use Rattle.text_write.proofs.DecimalKeys.{decimal_written}
use Rattle.text_write.proofs.IntegerKeys.{integer_written}
use Rattle.text_members.proofs.Outcomes.{on_ok}
use Rattle.text_write.proofs.key.KeySink.verbatim.Goals as goal

pub returns-in-Integer-clause-bytes : goal.returns-in-Integer-clause-bytes
returns-in-Integer-clause-bytes c =
    let r = c.args.self.now in
    subst (λ k. OnOk c.integer.result ((s : Source) → IsVerbatimAt k r.members.text.now c.args.from c.args.to s → Writes (source_key s) r c.integer.new.self)) (sym c.in-Integer.is)
    (on_ok c.integer.result c.integer.ensures.bytes (λ wrote s at. integer_written s c.args.from c.args.to at wrote))

pub returns-in-Decimal-clause-bytes : goal.returns-in-Decimal-clause-bytes
returns-in-Decimal-clause-bytes c =
    let r = c.args.self.now in
    subst (λ k. OnOk c.decimal.result ((s : Source) → IsVerbatimAt k r.members.text.now c.args.from c.args.to s → Writes (source_key s) r c.decimal.new.self)) (sym c.in-Decimal.is)
    (on_ok c.decimal.result c.decimal.ensures.bytes (λ wrote s at. decimal_written s c.args.from c.args.to at wrote))

pub returns-in-Same-clause-bytes : goal.returns-in-Same-clause-bytes
returns-in-Same-clause-bytes c =
    let r = c.args.self.now in
    let sink = c.json_string.new.self in
    subst (λ k. OnOk c.json_string.result ((s : Source) → IsVerbatimAt k r.members.text.now c.args.from c.args.to s → Writes (source_key s) r sink)) (sym c.in-Same.is)
    (on_ok c.json_string.result c.json_string.ensures.bytes (λ w s at. w s at.0))

pub returns-in-Escaped-clause-bytes : goal.returns-in-Escaped-clause-bytes
returns-in-Escaped-clause-bytes c =
    let r = c.args.self.now in
    let sink = c.json_string-in-Escaped.new.self in
    subst (λ k. OnOk c.json_string-in-Escaped.result ((s : Source) → IsVerbatimAt k r.members.text.now c.args.from c.args.to s → Writes (source_key s) r sink)) (sym c.in-Escaped.is) c.json_string-in-Escaped.ensures.bytes
