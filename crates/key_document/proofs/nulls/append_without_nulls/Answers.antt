use Rattle.jsonb_spec.specs.Edit.LeftOut.{without_nulls}
use Rattle.key_document.proofs.Answered.{all_stays}
use Rattle.key_document.proofs.nulls.append_without_nulls.Goals as goal

pub returns-in-Ok-clause-appends : goal.returns-in-Ok-clause-appends
returns-in-Ok-clause-appends c = λ t r e. c.in-Ok.ensures.appends t r (c.split_document.ensures.key t r e) (c.split_document.ensures.zeros t r e)

pub returns-in-Err-clause-appends : goal.returns-in-Err-clause-appends
returns-in-Err-clause-appends c = λ t r e.
    all_stays (without_nulls c.args.in_arrays t) c.in-Err.error c.args.out.now c.write_document.new.out c.truncate.new.self (c.in-Err.ensures.appends t r (c.split_document.ensures.key t r e) (c.split_document.ensures.zeros t r e))
