-- What is laid out of a text is laid out of it again.
use Rattle.std.proofs.Common.{ℕ, List, [], sym, subst, ◌∙◌}
use Rattle.jsonb_core.proofs.Trees.RangeTexts.{document_in_range, document_text_reads_back}
use Rattle.text_pretty.proofs.ReadsBack.{range_lines_again}
use Rattle.text_scan.specs.Answer.{grammar_of}
use Rattle.text_scan.specs.declared.parser.Grammar.{Grammar}
use Rattle.vjson_text.specs.Texts.{AppendsTextOf, IsTextOf}
use Rattle.vjson_text.specs.declared.reader.Layout.{Layout}
use Rattle.vjson_text.specs.declared.reader.Layout.TheVariants.{Compact, Indent}

pub again : (g : Grammar) (layout : Layout) (text out : List ℕ) → AppendsTextOf g layout text [] out → AppendsTextOf g layout out [] out
again g Compact text out h =
    let a = h.appended in
    let r = document_text_reads_back (grammar_of g) text h.tree h.is_text a.bytes a.is_text in
    record {
      tree = r.tree;
      is_text = subst (λ bytes. IsTextOf g bytes r.tree) (sym a.appended) r.document;
      appended = record { bytes = a.bytes; is_text = r.text; appended = a.appended };
    }
again g (Indent width) text out h =
    let p = document_in_range (grammar_of g) text h.tree h.is_text in
    let r = range_lines_again (grammar_of g) width h.tree p.1 p.0 in
    record { tree = r.tree; is_text = subst (λ bytes. IsTextOf g bytes r.tree) (sym h.appended) r.document; appended = h.appended ∙ sym r.again }
