-- What is appended to an empty buffer is the text of a tree.
use Rattle.std.proofs.Common.{◌≡◌, ℕ, List, [], ◌++◌, Some, ap, sym, ◌∙◌}
use Rattle.jsonb_spec.specs.Text.{text_of, AppendsText}
use Rattle.jsonb_spec.specs.Grammar.{IsDocument}
use Rattle.jsonb_spec.specs.Mode.{Mode}
use Rattle.jsonb_spec.specs.Tree.{Tree}
use Rattle.jsonb_core.proofs.Trees.RangeTexts.{document_text_reads_back}
use Rattle.jsonb_spec.specs.Parsing.Appends.{IsParsed}
use Rattle.jsonb.proofs.Documents.Encodings.{document_complete, document_unique}
use Rattle.jsonb_c.specs.declared.Failure.{Failure}
use Rattle.jsonb_c.specs.declared.Failure.TheVariants.{Text, OutOfMemory, UnknownMode}
use Rattle.jsonb_spec.specs.Interface.{IsAccepted, IsDocumentOf, IsTextOf, NumberChooses}
use Rattle.jsonb_c.specs.Interface.{IsReason, IsRejected}
use Rattle.jsonb_c.proofs.Reasons.{denied}

-- what is appended to nothing is the text
pub text_is : (number : ℕ) (text : List ℕ) (t : Tree) (old new : List ℕ) → IsDocumentOf number text t → old ≡ [] → AppendsText t old new → IsTextOf number text new
text_is number text t old new read none written =
    let all : new ≡ written.bytes = written.appended ∙ ap (λ bytes. bytes ++ written.bytes) none in
    let is_text : text_of t ≡ Some new = written.is_text ∙ ap Some (sym all) in
    record { tree = t; read = read; is_text = is_text; reads_back = document_text_reads_back read.mode text t read.document new is_text }

-- a text that was parsed
pub parsed_accepted : {mode : Mode} (number : ℕ) (text : List ℕ) (t : Tree) → NumberChooses number mode → IsParsed mode text t → IsDocumentOf number text t
parsed_accepted {mode = mode} number text t chosen parsed = record { mode = mode; chosen = chosen; document = parsed.document; only = parsed.only; exact = parsed.exact }

-- a text that is a document
pub document_accepted : {mode : Mode} (number : ℕ) (text : List ℕ) (t : Tree) → NumberChooses number mode → IsDocument mode text t → IsAccepted number text
document_accepted {mode = mode} number text t chosen document = record {
  tree = t;
  read = record {
    mode = mode;
    chosen = chosen;
    document = document;
    only = λ u d. document_unique mode text u t d document;
    exact = document_complete mode text t document;
  };
}

-- what is written of a text is a document, so it isn't rejected
pub form_reason : (number : ℕ) (text form : List ℕ) (reason : Failure) → IsTextOf number text form → IsReason number (IsRejected number form 1) reason → IsReason number (IsRejected number text 1) reason
form_reason number text form (Text rejection) t w =
    absurd (denied number form 1 rejection w.1 (document_accepted number form t.reads_back.tree t.read.chosen t.reads_back.document))
form_reason number text form OutOfMemory t w = w
form_reason number text form UnknownMode t w = w
