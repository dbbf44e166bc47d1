-- What each status and each out parameter says of the texts.
use Rattle.std.specs.Prelude.{◌≡◌, ◌≢◌, ℕ, ◌<◌, ◌≤◌, List, Result, Err, IfOk, IfErr}
use Rattle.std.specs.declared.cmp.Ordering.{Ordering}
use Rattle.jsonb_core.specs.declared.error.Error.{Error}
use Rattle.jsonb_core.specs.declared.error.Error.TheVariants as errors
use Rattle.jsonb_core.specs.declared.error.ParseErrorCode.{ParseErrorCode}
use Rattle.jsonb_spec.specs.Code.{Code}
use Rattle.jsonb_core.specs.Error.CodeView.{code_of}
use Rattle.jsonb_core.specs.Error.ErrorText.{error_text}
use Rattle.jsonb_spec.specs.Grammar.{IsNoDocument}
use Rattle.jsonb_spec.specs.Mode.{Mode}
use Rattle.jsonb_spec.specs.Parsing.Document.{document_of}
use Rattle.text_scan.specs.Answer.{Fails}
use Rattle.jsonb_spec.specs.Errors.{Applies}
use Rattle.jsonb_c.specs.declared.Part.{Part}
use Rattle.jsonb_c.specs.declared.Part.TheVariants as parts
use Rattle.jsonb_c.specs.declared.Rejection.{Rejection}
use Rattle.jsonb_c.specs.declared.Failure.{Failure}
use Rattle.jsonb_c.specs.declared.Failure.TheVariants.{Text, OutOfMemory, UnknownMode}
use Rattle.jsonb_spec.specs.Interface.{NumberChooses, code_number, sign, IsAccepted, EitherMayAllocate, IsOrdered, IsPartOf, HasNoPartAt, IsNoPath}

-- what is reported where no text is rejected
abbrev pub nothing : Rejection
nothing = record { code = 0; which = 0; position = 0 }

-- The number chooses a mode in which the text is no document. What is reported is the fault that reading meets, and
-- which of the texts it is.
pub record IsRejected (number : ℕ) (text : List ℕ) (count : ℕ) (rejection : Rejection) : Type 0 where
  pub mode : Mode
  pub chosen : NumberChooses number mode
  pub no_document : IsNoDocument mode text
  pub counted : rejection.which ≡ count
  pub code : Code
  pub numbered : rejection.code ≡ code_number code
  pub exact : document_of mode text ≡ Err (record { code = code; offset = rejection.position })
  pub explained : Applies mode text code rejection.position

-- One of two texts is rejected, the first that is no document.
pub data IsOneRejected (number : ℕ) (left right : List ℕ) (rejection : Rejection) : Type 0 where
  first_rejected : IsRejected number left 1 rejection → IsOneRejected number left right rejection
  second_rejected : IsAccepted number left → IsRejected number right 2 rejection → IsOneRejected number left right rejection

-- Of what is rejected it is reported what and where it is, and else nothing.
pub record Reports (IsReported : Rejection → Type 0) (status : ℕ) (rejection : Rejection) : Type 0 where
  pub rejected : status ≡ 1 → IsReported rejection
  pub nothing : status ≢ 1 → rejection ≡ nothing

-- The number chooses a mode in which the text is no document, and the bytes say in words which fault reading meets.
pub record IsMessageOf (number : ℕ) (text bytes : List ℕ) : Type 0 where
  pub mode : Mode
  pub chosen : NumberChooses number mode
  pub no_document : IsNoDocument mode text
  pub error : Error
  pub is_fault : error ≢ errors.OutOfMemory
  pub exact : Fails error (document_of mode text)
  pub is_text : bytes ≡ error_text error

-- What is at the path in a document: a part with this text, or nothing; or the path is none.
abbrev pub IsPartAnswer : ℕ → List ℕ → List ℕ → Part → Type 0
IsPartAnswer number path text (parts.Text bytes) = IsPartOf number path text bytes.items
IsPartAnswer number path text parts.Nothing = HasNoPartAt number path text
IsPartAnswer number path text parts.NoPath = IsAccepted number text × IsNoPath path

-- Why there is no answer: a text is rejected, of which this is reported; memory ran out; or the number chooses no mode.
abbrev pub IsReason : ℕ → (Rejection → Type 0) → Failure → Type 0
IsReason number IsReported (Text rejection) = (number ≤ 3) × IsReported rejection
IsReason number IsReported OutOfMemory = number ≤ 3
IsReason number IsReported UnknownMode = 3 < number

-- Why a call has no answer: for such a reason, and memory runs out only where it may be needed.
pub record FailsFor {X : Type 0} (number : ℕ) (IsReported : Rejection → Type 0) (MayNeedMemory : Type 0)
    (result : Result X Failure) : Type 0 where
  pub reason : IfErr result (IsReason number IsReported)
  pub memory : result ≡ Err OutOfMemory → MayNeedMemory

-- The order of the trees of two documents. Else one of the texts is rejected, or memory ran out, which takes a text
-- that may allocate, or the number chooses no mode.
pub record OrdersTexts (number : ℕ) (left right : List ℕ) (result : Result Ordering Failure) : Type 0 where
  pub ordered : IfOk result (λ order. IsOrdered number left right (sign order))
  pub reason : IfErr result (IsReason number (IsOneRejected number left right))
  pub memory : result ≡ Err OutOfMemory → EitherMayAllocate number left right

-- The reason says what the error of a reader does: the fault is reported, of this one of the texts, or memory ran out.
abbrev pub SaysError : ℕ → Error → Failure → Type 0
SaysError count error (Text rejection) = (code : ParseErrorCode) × (error ≡ errors.Syntax code rejection.position)
    × (rejection.code ≡ code_number (code_of code)) × (rejection.which ≡ count)
SaysError count error OutOfMemory = error ≡ errors.OutOfMemory
SaysError count error UnknownMode = ⊥

-- the status of a reason
abbrev pub status_of : Failure → ℕ
status_of (Text rejection) = 1
status_of OutOfMemory = 2
status_of UnknownMode = 3

-- what is reported of a reason
abbrev pub rejection_of : Failure → Rejection
rejection_of (Text rejection) = rejection
rejection_of OutOfMemory = nothing
rejection_of UnknownMode = nothing
