use Rattle.jsonb_spec.specs.Edit.LeftOut.{beside_names}
use Rattle.key_document.proofs.Answered.{key_unwritten, key_written, tail_unwritten, tail_written}
use Rattle.key_document.proofs.Beside.{beside_within}
use Rattle.key_document.proofs.names.write_document.Goals as goal

pub returns-in_err-write_answer-clause-answers : goal.returns-in_err-write_answer-clause-answers
returns-in_err-write_answer-clause-answers c = λ ns h f t r e z.
    key_unwritten (beside_names ns t) c.from_residual.result c.in_err-write_answer.field-0.0 c.args.out.now c.write_answer.new.out c.write_answer.new.out c.from_residual.ensures.1 (c.in_err-write_answer.ensures.written ns h f t r e tt)

pub returns-in_err-write_tail-clause-answers : goal.returns-in_err-write_tail-clause-answers
returns-in_err-write_tail-clause-answers c = λ ns h f t r e z.
    let x = key_written (beside_names ns t) c.in_ok-write_answer.field-0 c.args.out.now c.write_answer.new.out c.if-not-branch.false (c.in_ok-write_answer.ensures.written ns h f t r e tt) in
    tail_unwritten (beside_names ns t) c.from_residual-in_err-write_tail.result c.in_err-write_tail.field-0.0 c.args.out.now c.write_answer.new.out c.write_tail.new.out x c.from_residual-in_err-write_tail.ensures.1 (beside_within ns t x.value x.is r.within) c.in_ok-write_answer.ensures.preserves.capacity
    (c.in_err-write_tail.ensures.written ns h f t r e z x.value x.is)

pub returns-clause-answers : goal.returns-clause-answers
returns-clause-answers c = λ ns h f t r e z.
    let x = key_written (beside_names ns t) c.in_ok-write_answer.field-0 c.args.out.now c.write_answer.new.out c.if-not-branch.false (c.in_ok-write_answer.ensures.written ns h f t r e tt) in
    tail_written (beside_names ns t) c.args.out.now c.write_answer.new.out c.write_tail.new.out x (beside_within ns t x.value x.is r.within) c.in_ok-write_answer.ensures.preserves.capacity
    (c.in_ok-write_tail.ensures.written ns h f t r e z x.value x.is)
