use Rattle.std.proofs.Common.{◌⊎◌, inl, inr}
use Rattle.std.specs.Vec.{vec_capacity, vec_len}
use Rattle.jsonb_spec.specs.Parsing.Memory.{MayAllocate}
use Rattle.text_scan.specs.Answer.{grammar_of}
use Rattle.jsonb_spec.specs.Parsing.Lines.{LacksCapacityForLines, lines_of}
use Rattle.jsonb_spec.specs.Interface.Lines.{LinesMayAllocate}
use Rattle.jsonb_c.proofs.Reasons.{ran_out}
use Rattle.jsonb_c.proofs.RejectedLines.{first_accepted, line_error, line_reason, reason_at}
use Rattle.jsonb_c.proofs.lines.texts_of_lines.Goals as goal

pub reason_of-reason-requires : goal.reason_of-reason-requires
reason_of-reason-requires c = line_error (grammar_of c.in-Some.grammar) c.in-Err.rejected.error (lines_of c.args.text.now) c.in-Err.rejected.start c.in-Err.ensures.rejects

pub returns-in-Err-clause-fails : goal.returns-in-Err-clause-fails
returns-in-Err-clause-fails c = record {
  reason = reason_at c.args.mode c.args.text.now c.in-Err.rejected.start c.start_of.result c.reason_of-reason.result c.start_of.ensures.rejected
      (line_reason c.args.mode c.args.text.now c.in-Err.rejected.start c.in-Err.rejected.error c.reason_of-reason.result c.in-Some.ensures c.in-Err.ensures.rejects c.reason_of-reason.ensures);
  memory = λ is. by_memory (c.in-Err.ensures.memory (ran_out 1 c.in-Err.rejected.error c.reason_of-reason.result c.reason_of-reason.ensures is));
}
  where
    by_memory : MayAllocate c.args.text.now ⊎ LacksCapacityForLines (grammar_of c.in-Some.grammar) (lines_of c.args.text.now) (vec_capacity c.buffer_of-bytes.result) (vec_len c.buffer_of-bytes.result) → LinesMayAllocate c.args.mode c.args.text.now
    by_memory (inl may) = inl may
    by_memory (inr lacks) = inr (first_accepted c.args.mode (lines_of c.args.text.now) (vec_capacity c.buffer_of-bytes.result) (vec_len c.buffer_of-bytes.result) c.in-Some.ensures lacks)
