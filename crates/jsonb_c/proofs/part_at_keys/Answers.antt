use Rattle.std.proofs.Common.{◌<◌, ◌^◌, ◌⊎◌, true, false, inl, inr, length, map, rules, string_bytes, subst}
use Rattle.jsonb_spec.specs.Grammar.{IsDocument}
use Rattle.jsonb_spec.specs.Tree.{Tree}
use Rattle.jsonb_spec.specs.Parsing.Appends.{AppendsPartOf}
use Rattle.jsonb_spec.specs.Parsing.Memory.{MayAllocate}
use Rattle.text_scan.specs.Answer.{grammar_of}
use Rattle.jsonb_c.proofs.DocumentParts.{IsNothingThere, IsTextThere, document_needs, nothing_there, text_there}
use Rattle.jsonb_spec.specs.Interface.{IsAccepted}
use Rattle.jsonb_c.proofs.Reasons.{memory_said, reason_says}
use Rattle.jsonb_c.proofs.Texts.{document_accepted}
use Rattle.jsonb_c.proofs.part_at_keys.Goals as goal

pub returns-in-Ok-true-clause-part : goal.returns-in-Ok-true-clause-part
returns-in-Ok-true-clause-part c = λ path is_path.
    let mode = grammar_of c.in-Some.grammar in
    let text = c.args.text.now in
    let keys = map string_bytes c.args.keys.now in
    let old = c.new-bytes.result.items in
    let bytes = c.append_part.new.buf.items in
    let appends : AppendsPartOf mode text keys old bytes true = subst (λ b. AppendsPartOf mode text keys old bytes b) c.in-Ok-true.field-0-test c.in-Ok-true.ensures.ok in
    let there : IsTextThere mode text keys bytes = text_there mode text keys old bytes c.new-bytes.ensures.items appends in
    record {
      found = record {
        tree = there.tree;
        read = record { mode = mode; chosen = c.in-Some.ensures; document = there.parsed.document; only = there.parsed.only; exact = there.parsed.exact };
        keys = keys;
        is_path = is_path;
        part = there.part;
        at = there.at;
      };
      is_text = there.is_text;
      reads_back = there.reads_back;
    }

pub returns-in-Ok-false-clause-part : goal.returns-in-Ok-false-clause-part
returns-in-Ok-false-clause-part c = λ path is_path.
    let mode = grammar_of c.in-Some.grammar in
    let text = c.args.text.now in
    let keys = map string_bytes c.args.keys.now in
    let old = c.new-bytes.result.items in
    let bytes = c.append_part.new.buf.items in
    let appends : AppendsPartOf mode text keys old bytes false = subst (λ b. AppendsPartOf mode text keys old bytes b) c.in-Ok-false.field-0-test c.in-Ok-false.ensures.ok in
    let small : length text < 2 ^ 64 = search rules in
    let nothing : IsNothingThere mode text keys = nothing_there mode text keys old bytes small appends in
    record {
      tree = nothing.tree;
      read = record { mode = mode; chosen = c.in-Some.ensures; document = nothing.parsed.document; only = nothing.parsed.only; exact = nothing.parsed.exact };
      keys = keys;
      is_path = is_path;
      none = nothing.none;
    }

pub returns-in-Err-clause-fails : goal.returns-in-Err-clause-fails
returns-in-Err-clause-fails c = record {
  reason = reason_says c.args.mode (grammar_of c.in-Some.grammar) c.args.text.now 1 c.in-Err.error c.reason_of.result c.in-Some.ensures c.in-Err.ensures.rejects.rejected c.in-Err.ensures.follows.exact c.in-Err.ensures.follows.explained
      c.reason_of.ensures;
  memory = λ is.
      by_memory (document_needs (c.in-Err.ensures.memory (memory_said 1 c.in-Err.error c.reason_of.result c.reason_of.ensures is)));
}
  where
    by_memory : MayAllocate c.args.text.now ⊎ ((t : Tree) × IsDocument (grammar_of c.in-Some.grammar) c.args.text.now t) → MayAllocate c.args.text.now ⊎ IsAccepted c.args.mode c.args.text.now
    by_memory (inl may) = inl may
    by_memory (inr read) = inr (document_accepted c.args.mode c.args.text.now read.0 c.in-Some.ensures read.1)
