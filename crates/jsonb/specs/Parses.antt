-- What a call returns that parses a whole text.
use Rattle.std.specs.Prelude.{◌≡◌, ◌≢◌, ◌⊎◌, ℕ, ◌≤◌, List, Result, Err, IfOk, IfErr, OnOk, OnErr, Vec, vec_len, vec_capacity}
use Rattle.std.specs.declared.alloc.Global.{Global}
use Rattle.jsonb_spec.specs.Grammar.{IsDocument, IsNoDocument}
use Rattle.jsonb_spec.specs.Mode.{Mode}
use Rattle.jsonb_spec.specs.Tree.{Tree}
use Rattle.jsonb_core.specs.declared.error.Error.{Error}
use Rattle.jsonb_core.specs.declared.error.Error.TheVariants.{OutOfMemory}
use Rattle.text_scan.specs.Answer.{IsTextError}
use Rattle.jsonb_spec.specs.Parsing.Memory.{MayAllocate}

-- What is returned, seen by view, is the one tree of the document. What is rejected is no document, unless memory ran
-- out, which takes a text that may allocate. The error is a fault of the text or want of memory.
pub record Parses {V : Type 0} (mode : Mode) (view : V → Tree) (text : List ℕ) (result : Result V Error) : Type 0 where
  pub document : IfOk result (λ v. IsDocument mode text (view v))
  pub only : IfOk result (λ v. (t : Tree) → IsDocument mode text t → t ≡ view v)
  pub rejected : IfErr result (λ e. e ≢ OutOfMemory → IsNoDocument mode text)
  pub memory : result ≡ Err OutOfMemory → MayAllocate text
  pub errors : IfErr result IsTextError

-- What is rejected is no document, unless memory ran out, and the error is one of the parsers.
pub record Rejects {X : Type 0} (mode : Mode) (text : List ℕ) (result : Result X Error) : Type 0 where
  pub rejected : IfErr result (λ e. e ≢ OutOfMemory → IsNoDocument mode text)
  pub errors : IfErr result IsTextError

-- What is made of the text is appended. Else the buffer has its old bytes; memory runs out only where the text may
-- allocate, or where the space for all that is appended is missing. A buffer that has space holds it, where the text
-- doesn't allocate.
pub record AppendsParsed {X : Type 0} (IsAppended : List ℕ → List ℕ → Type 0) (LacksCapacity : ℕ → ℕ → Type 0)
    (text : List ℕ) (result : Result X Error) (old new : Vec ℕ Global) : Type 0 where
  pub ok : OnOk result (IsAppended old.items new.items)
  pub err : OnErr result (new.items ≡ old.items)
  pub memory : result ≡ Err OutOfMemory → MayAllocate text ⊎ LacksCapacity (vec_capacity old) (vec_len old)
  pub capacity : MayAllocate text ⊎ (vec_capacity old ≤ vec_capacity new)
