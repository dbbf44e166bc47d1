-- What is appended of a document that is parsed for its text or its sort key.
use Rattle.std.proofs.Common.{◌≡◌, ◌≢◌, ◌⊎◌, inl, inr, ℕ, ◌+◌, ◌<◌, false, List, length, Some, None, Result, Ok, Err, OnOk, IfErr, IfSome, refl, sym, ap, subst, ◌∙◌, [], ◌∷◌}
use Rattle.std.specs.Prelude.{IsErrOf}
use Rattle.std.specs.Result.{is_err}
use Rattle.jsonb_core.specs.declared.error.Error.{Error}
use Rattle.jsonb_core.specs.declared.error.Error.TheVariants.{OutOfMemory, UnexpectedType}
use Rattle.jsonb_spec.specs.Grammar.{IsDocument}
use Rattle.jsonb_spec.specs.Mode.{Mode}
use Rattle.jsonb_spec.specs.Text.{text_of, tree_text}
use Rattle.jsonb_spec.specs.Tree.{Tree}
use Rattle.jsonb_core.proofs.Trees.DocumentTexts.{document_has_text, some_text}
use Rattle.jsonb_spec.specs.Parsing.Document.{source_of}
use Rattle.jsonb_spec.specs.Source.{Source, tree_of_source}
use Rattle.jsonb_spec.specs.Parsing.Appends.{IsParsed, LacksCapacityForText}
use Rattle.text_parse.proofs.Containers.Values.{document_sound}
use Rattle.jsonb.proofs.Documents.Agreement.{document_built}
use Rattle.jsonb.proofs.Documents.Encodings.{document_unique}

-- the only one of a list
pub same_only : {xs ys : List ℕ} → (xs ∷ []) ≡ (ys ∷ []) → xs ≡ ys
same_only e = ap first e
  where
    first : List (List ℕ) → List ℕ
    first [] = []
    first (x ∷ xs) = x

-- a call that returned no error
pub returned : {X E P : Type 0} (r : Result X E) → is_err r ≡ false → OnOk r P → P
returned (Ok x) e p = p
returned (Err x) e p = cc

-- the document of a source
pub source_parsed : (mode : Mode) (text : List ℕ) (s : Source) → source_of mode text ≡ Ok s → IsParsed mode text (tree_of_source s)
source_parsed mode text s e =
    let exact = document_built mode text (tree_of_source s) s refl e in
    let document = document_sound mode text (tree_of_source s) exact in
    record { document = document; only = λ t d. document_unique mode text t (tree_of_source s) d document; exact = exact }

-- a document's tree has a text
pub text_there : (mode : Mode) (text : List ℕ) (t : Tree) → IsDocument mode text t → text_of t ≡ Some (tree_text t)
text_there mode text t d = some_text t (document_has_text mode text t d)

-- memory ran out for the text of a document's tree
pub text_lacks : (mode : Mode) (text : List ℕ) (t : Tree) (r : Result (Unit {0}) Error) (e : Error) (capacity len : ℕ) → IsDocument mode text t → r ≡ Err e → IfErr r (λ e. (e ≡ UnexpectedType) ⊎ (e ≡ OutOfMemory)) → IfErr r (λ e. e ≢ OutOfMemory → text_of t ≡ None)
    → (IsErrOf r OutOfMemory → IfSome (text_of t) (λ bytes. capacity < len + length bytes)) → LacksCapacityForText mode text capacity len
text_lacks mode text t r e capacity len document is errors rejected full = by_error (subst (λ q. IfErr q (λ e. (e ≡ UnexpectedType) ⊎ (e ≡ OutOfMemory))) is errors)
  where
    by_error : (e ≡ UnexpectedType) ⊎ (e ≡ OutOfMemory) → LacksCapacityForText mode text capacity len
    by_error (inl other) =
        let none : text_of t ≡ None = subst (λ q. IfErr q (λ e. e ≢ OutOfMemory → text_of t ≡ None)) is rejected (λ same. let f : UnexpectedType ≡ OutOfMemory = sym other ∙ same in cc) in
        let some : text_of t ≡ Some (tree_text t) = text_there mode text t document in
        absurd cc
    by_error (inr same) =
        let short : IfSome (text_of t) (λ bytes. capacity < len + length bytes) = full (is ∙ ap (λ e. Err e) same) in
        record {
          tree = t;
          document = document;
          too_short = subst (λ o. IfSome o (λ bytes. capacity < len + length bytes)) (text_there mode text t document) short;
        }
