-- The clauses of the parsers from the executable specification.
use Rattle.std.proofs.Common.{◌≡◌, ◌≢◌, List, ℕ, Result, Ok, Err, IfOk, IfErr, refl, sym, ap, ◌∙◌}
use Rattle.jsonb_core.specs.declared.error.Error.{Error}
use Rattle.jsonb_core.specs.declared.error.Error.TheVariants.{Syntax, OutOfMemory}
use Rattle.jsonb.specs.declared.parser.ast.JsonAst.{JsonAst}
use Rattle.jsonb_core.specs.Error.CodeView.{code_of}
use Rattle.jsonb_spec.specs.Grammar.{IsDocument, IsNoDocument}
use Rattle.jsonb_spec.specs.Mode.{Mode}
use Rattle.jsonb_spec.specs.Tree.{Tree}
use Rattle.jsonb.specs.AstView.{ast_view}
use Rattle.text_scan.specs.Answer.{Fails, Gives, IsTextError}
use Rattle.jsonb_spec.specs.Parsing.Memory.{MayAllocate}
use Rattle.jsonb.specs.Follows.{FailsAsSpecified, FollowsSpecification}
use Rattle.jsonb.specs.Parses.{Parses, Rejects}
use Rattle.jsonb_spec.specs.Source.{Source, tree_of_source}
use Rattle.jsonb_spec.specs.Parsing.{Fault, ◌>>=◌}
use Rattle.jsonb_spec.specs.Parsing.Document.{document_of, source_of}
use Rattle.jsonb.specs.Explained.{IsExplained}
use Rattle.jsonb_spec.specs.Located.{IsLocated}
use Rattle.jsonb.specs.Source.{source_view}
use Rattle.jsonb.proofs.Offsets.Located.{source_located}
use Rattle.jsonb.proofs.Offsets.Views.{tree_of_view}
use Rattle.jsonb.proofs.Documents.Encodings.{document_unique, rejected_is_none}
use Rattle.jsonb.proofs.Errors.OfTexts.{document_holds}
use Rattle.text_parse.proofs.Containers.Values.{document_sound}

-- ---- what an answer says

-- the tree of the value that is built
pub document_built : (mode : Mode) (bytes : List ℕ) (t : Tree) (s : Source) → t ≡ tree_of_source s → source_of mode bytes ≡ Ok s → document_of mode bytes ≡ Ok t
unfolding document_of
document_built mode bytes t s same e = ap (λ q. q >>= λ s. Ok (tree_of_source s)) e ∙ ap (λ u. Ok u) (sym same)

-- the tree of the source that is given
pub gives_tree : (mode : Mode) (bytes : List ℕ) (r : Result JsonAst Error) → Gives source_view r (source_of mode bytes) → Gives ast_view r (document_of mode bytes)
unfolding document_of
gives_tree mode bytes (Ok v) g = ap (λ q. q >>= λ s. Ok (tree_of_source s)) g ∙ ap (λ t. Ok t) (tree_of_view v)
gives_tree mode bytes (Err (Syntax code offset)) g = ap (λ q. q >>= λ s. Ok (tree_of_source s)) g
gives_tree mode bytes (Err OutOfMemory) g = tt
gives_tree mode bytes (Err other) g = absurd g

-- each value is where it was parsed
pub gives_source : (mode : Mode) (bytes : List ℕ) (r : Result JsonAst Error) → Gives source_view r (source_of mode bytes) → IfOk r (λ v. IsLocated mode bytes (source_view v))
gives_source mode bytes (Ok v) g = source_located mode bytes (source_view v) g
gives_source mode bytes (Err e) g = tt

-- a text is rejected by a fault or for want of memory
pub gives_errors : {X Y : Type 0} (view : X → Y) (r : Result X Error) (read : Result Y Fault) → Gives view r read → IfErr r IsTextError
gives_errors view (Ok x) read g = tt
gives_errors view (Err (Syntax code offset)) read g = tt
gives_errors view (Err OutOfMemory) read g = tt
gives_errors view (Err other) read g = absurd g

module _ {V : Type 0} (mode : Mode) (view : V → Tree) (bytes : List ℕ) where
  gives_document : (r : Result V Error) → Gives view r (document_of mode bytes) → IfOk r (λ v. IsDocument mode bytes (view v))
  gives_document (Ok v) g = document_sound mode bytes (view v) g
  gives_document (Err e) g = tt

  gives_only : (r : Result V Error) → Gives view r (document_of mode bytes) → IfOk r (λ v. (t : Tree) → IsDocument mode bytes t → t ≡ view v)
  gives_only (Ok v) g = λ t d. document_unique mode bytes t (view v) d (document_sound mode bytes (view v) g)
  gives_only (Err e) g = tt

  gives_rejected : (r : Result V Error) → Gives view r (document_of mode bytes) → IfErr r (λ e. e ≢ OutOfMemory → IsNoDocument mode bytes)
  gives_rejected (Ok v) g = tt
  gives_rejected (Err (Syntax code offset)) g = λ n t d. rejected_is_none mode bytes (record { code = code_of code; offset = offset }) g t d
  gives_rejected (Err OutOfMemory) g = λ n. absurd (n refl)
  gives_rejected (Err other) g = absurd g

  gives_explained : (r : Result V Error) → Gives view r (document_of mode bytes) → IfErr r (IsExplained mode bytes)
  gives_explained (Ok v) g = tt
  gives_explained (Err (Syntax code offset)) g = document_holds mode bytes (record { code = code_of code; offset = offset }) g
  gives_explained (Err OutOfMemory) g = tt
  gives_explained (Err other) g = absurd g

  -- the contract of a call that returns what the executable specification gives
  pub gives_all : (r : Result V Error) → Gives view r (document_of mode bytes) → (r ≡ Err OutOfMemory → MayAllocate bytes) → Parses mode view bytes r
  gives_all r g memory = record {
    document = gives_document r g;
    only = gives_only r g;
    rejected = gives_rejected r g;
    memory = memory;
    errors = gives_errors view r (document_of mode bytes) g;
  }

  pub gives_as_specified : (r : Result V Error) → Gives view r (document_of mode bytes) → FollowsSpecification mode view bytes r
  gives_as_specified r g = record { exact = g; explained = gives_explained r g }

-- what an error says of the text that is the fault that is parsed
pub fault_rejects : {X : Type 0} (mode : Mode) (bytes : List ℕ) (e : Error) → Fails e (source_of mode bytes) → Rejects {X = X} mode bytes (Err e)
fault_rejects mode bytes e fails =
    let exact = gives_tree mode bytes (Err e) fails in
    record {
      rejected = gives_rejected mode ast_view bytes (Err e) exact;
      errors = gives_errors ast_view (Err e) (document_of mode bytes) exact;
    }

pub fault_fails : {X : Type 0} (mode : Mode) (bytes : List ℕ) (e : Error) → Fails e (source_of mode bytes) → FailsAsSpecified {X = X} mode bytes (Err e)
fault_fails mode bytes e fails =
    let exact = gives_tree mode bytes (Err e) fails in
    record { exact = exact; explained = gives_explained mode ast_view bytes (Err e) exact }
