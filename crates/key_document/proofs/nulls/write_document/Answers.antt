use Rattle.jsonb_spec.specs.Edit.LeftOut.{without_nulls}
use Rattle.key_document.proofs.Answered.{all_appended, all_unwritten}
use Rattle.key_document.proofs.Stripped.{bare_within}
use Rattle.key_document.proofs.nulls.write_document.Goals as goal

pub returns-in_err-write_value-clause-appends : goal.returns-in_err-write_value-clause-appends
returns-in_err-write_value-clause-appends c = λ t r e z.
    all_unwritten (without_nulls c.args.in_arrays t) c.from_residual.result c.in_err-write_value.field-0.0 c.args.out.now c.write_value.new.out c.from_residual.ensures.1 (c.in_err-write_value.ensures.written t r e tt)

pub returns-clause-appends : goal.returns-clause-appends
returns-clause-appends c = λ t r e z.
    all_appended (without_nulls c.args.in_arrays t) c.write_tail.result c.args.out.now c.write_value.new.out c.write_tail.new.out (bare_within c.args.in_arrays t 512 r.within) (c.in_ok-write_value.ensures.written t r e tt) c.in_ok-write_value.ensures.preserves.capacity (c.write_tail.ensures.written t r e z)
