use Rattle.std.proofs.Common.{length, ap, sym, ◌∙◌, arith, length-append}
use Rattle.std.proofs.Math.Seq.{take-length, drop-length}
use Rattle.jsonb_spec.specs.Grammar.{max_depth}
use Rattle.jsonb_spec.specs.SortKey.{key_of}
use Rattle.jsonb_spec.specs.Document.{behind_key, end_of, zeros_at}
use Rattle.key_document.proofs.Endings.{key_ends}
use Rattle.key_document.proofs.Tails.{are_marked, are_unmarked, undivided}
use Rattle.key_document.proofs.document.split_document.Goals as goal

pub returns-in-Some-clause-key : goal.returns-in-Some-clause-key
returns-in-Some-clause-key c = λ t r e.
    (are_marked (key_of t) (zeros_at t) c.args.document.now c.in-Some.parts.0.now c.in-Some.parts.1.now (key_ends t max_depth r.proper r.within) e c.in-Some.ensures.whole.0 c.in-Some.ensures.whole.1 (λ some. c.in-Some.ensures.found (key_of t) (zeros_at t) some e)).0

pub returns-in-Some-clause-zeros : goal.returns-in-Some-clause-zeros
returns-in-Some-clause-zeros c = λ t r e.
    (are_marked (key_of t) (zeros_at t) c.args.document.now c.in-Some.parts.0.now c.in-Some.parts.1.now (key_ends t max_depth r.proper r.within) e c.in-Some.ensures.whole.0 c.in-Some.ensures.whole.1 (λ some. c.in-Some.ensures.found (key_of t) (zeros_at t) some e)).1

pub returns-in-Some-clause-within : goal.returns-in-Some-clause-within
returns-in-Some-clause-within c =
    omega (arith, ap length c.in-Some.ensures.whole.1, length-append c.in-Some.parts.0.now (behind_key c.in-Some.parts.1.now), length-append c.in-Some.parts.1.now (end_of (length c.in-Some.parts.1.now)))

pub returns-in-None-clause-key : goal.returns-in-None-clause-key
returns-in-None-clause-key c = λ t r e. c.split_at.ensures.front ∙ take-length c.args.document.now ∙ (are_unmarked (key_of t) (zeros_at t) c.args.document.now e (λ some. c.in-None.ensures.found (key_of t) (zeros_at t) some e)).0

pub returns-in-None-clause-zeros : goal.returns-in-None-clause-zeros
returns-in-None-clause-zeros c = λ t r e. c.split_at.ensures.back ∙ drop-length c.args.document.now ∙ sym (are_unmarked (key_of t) (zeros_at t) c.args.document.now e (λ some. c.in-None.ensures.found (key_of t) (zeros_at t) some e)).1

pub returns-in-None-clause-whole : goal.returns-in-None-clause-whole
returns-in-None-clause-whole c = undivided c.args.document.now c.split_at.result.0.now c.split_at.result.1.now (c.split_at.ensures.front ∙ take-length c.args.document.now) (c.split_at.ensures.back ∙ drop-length c.args.document.now)
