use Rattle.std.proofs.Common.{◌⊎◌, inl, inr}
use Rattle.std.specs.Vec.{vec_capacity, vec_len}
use Rattle.jsonb_spec.specs.Parsing.Appends.{LacksCapacityForText}
use Rattle.jsonb_spec.specs.Parsing.Memory.{MayAllocate}
use Rattle.text_scan.specs.Answer.{grammar_of}
use Rattle.jsonb_c.proofs.Reasons.{memory_said, reason_says}
use Rattle.jsonb_c.proofs.Texts.{document_accepted, parsed_accepted, text_is}
use Rattle.jsonb_spec.specs.Interface.{IsAccepted}
use Rattle.jsonb_c.proofs.text_of.Goals as goal

pub returns-in-Ok-clause-text : goal.returns-in-Ok-clause-text
returns-in-Ok-clause-text c =
    let appended = c.in-Ok.ensures.appends.ok in
    text_is c.args.mode c.args.text.now appended.tree c.buffer_of-bytes.result.items _ (parsed_accepted c.args.mode c.args.text.now appended.tree c.in-Some.ensures appended.parsed) c.buffer_of-bytes.ensures appended.appended

pub returns-in-Err-clause-fails : goal.returns-in-Err-clause-fails
returns-in-Err-clause-fails c = record {
  reason = reason_says c.args.mode (grammar_of c.in-Some.grammar) c.args.text.now 1 c.in-Err.error c.reason_of.result c.in-Some.ensures c.in-Err.ensures.rejects.rejected c.in-Err.ensures.follows.exact c.in-Err.ensures.follows.explained
      c.reason_of.ensures;
  memory = λ is.
      by_memory (c.in-Err.ensures.appends.memory (memory_said 1 c.in-Err.error c.reason_of.result c.reason_of.ensures is));
}
  where
    by_memory : MayAllocate c.args.text.now ⊎ LacksCapacityForText (grammar_of c.in-Some.grammar) c.args.text.now (vec_capacity c.buffer_of-bytes.result) (vec_len c.buffer_of-bytes.result) → MayAllocate c.args.text.now ⊎ IsAccepted c.args.mode c.args.text.now
    by_memory (inl may) = inl may
    by_memory (inr lacks) = inr (document_accepted c.args.mode c.args.text.now lacks.tree c.in-Some.ensures lacks.document)
