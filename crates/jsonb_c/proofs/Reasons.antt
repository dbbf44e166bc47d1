-- What a status says, by its reason.
use Rattle.std.proofs.Common.{◌≡◌, ◌≢◌, ℕ, ◌≤◌, List, Result, Err, refl, ap, subst, sym, ◌∙◌, arith}
use Rattle.jsonb_core.specs.Error.CodeView.{code_of}
use Rattle.jsonb_spec.specs.Grammar.{IsDocument, IsNoDocument}
use Rattle.jsonb_spec.specs.Mode.{Mode}
use Rattle.jsonb_core.specs.declared.error.Error.{Error}
use Rattle.jsonb_core.specs.declared.error.Error.TheVariants as errors
use Rattle.text_scan.specs.Answer.{Fails}
use Rattle.jsonb_spec.specs.Parsing.Document.{document_of}
use Rattle.jsonb.specs.Explained.{IsExplained}
use Rattle.jsonb_c.specs.declared.Rejection.{Rejection}
use Rattle.jsonb_c.specs.declared.Failure.{Failure}
use Rattle.jsonb_c.specs.declared.Failure.TheVariants.{Text, OutOfMemory, UnknownMode}
use Rattle.jsonb_spec.specs.Interface.{NumberChooses, standard_mode, extended_mode, json_mode, extended_json_mode, IsAccepted}
use Rattle.jsonb_c.specs.Interface.{status_of, IsOneRejected, first_rejected, second_rejected, IsReason, IsRejected, SaysError}

-- ---- modes

pub within : {number : ℕ} {mode : Mode} → NumberChooses number mode → number ≤ 3
within (standard_mode e) = omega (arith, e)
within (extended_mode e) = omega (arith, e)
within (json_mode e) = omega (arith, e)
within (extended_json_mode e) = omega (arith, e)

-- a number chooses one mode
pub one_mode : {number : ℕ} {mode other : Mode} → NumberChooses number mode → NumberChooses number other → mode ≡ other
one_mode (standard_mode e) (standard_mode f) = refl
one_mode (standard_mode e) (extended_mode f) = absurd (omega (arith, e, f))
one_mode (standard_mode e) (json_mode f) = absurd (omega (arith, e, f))
one_mode (standard_mode e) (extended_json_mode f) = absurd (omega (arith, e, f))
one_mode (extended_mode e) (standard_mode f) = absurd (omega (arith, e, f))
one_mode (extended_mode e) (extended_mode f) = refl
one_mode (extended_mode e) (json_mode f) = absurd (omega (arith, e, f))
one_mode (extended_mode e) (extended_json_mode f) = absurd (omega (arith, e, f))
one_mode (json_mode e) (standard_mode f) = absurd (omega (arith, e, f))
one_mode (json_mode e) (extended_mode f) = absurd (omega (arith, e, f))
one_mode (json_mode e) (json_mode f) = refl
one_mode (json_mode e) (extended_json_mode f) = absurd (omega (arith, e, f))
one_mode (extended_json_mode e) (standard_mode f) = absurd (omega (arith, e, f))
one_mode (extended_json_mode e) (extended_mode f) = absurd (omega (arith, e, f))
one_mode (extended_json_mode e) (json_mode f) = absurd (omega (arith, e, f))
one_mode (extended_json_mode e) (extended_json_mode f) = refl

-- ---- from errors to reasons

-- a fault of the text that a reader reported, in other words
pub rejected_text : (number : ℕ) (mode : Mode) (text : List ℕ) (count : ℕ) (e : Error) (rejection : Rejection) → NumberChooses number mode
    → (e ≢ errors.OutOfMemory → IsNoDocument mode text) → Fails e (document_of mode text) → IsExplained mode text e → SaysError count e (Text rejection) → IsRejected number text count rejection
rejected_text number mode text count e rejection chosen none fails explained says =
    let code = says.0 in
    let is : e ≡ errors.Syntax code rejection.position = says.1 in
    record {
      mode = mode;
      chosen = chosen;
      no_document = none (λ same. let f : errors.Syntax code rejection.position ≡ errors.OutOfMemory = sym is ∙ same in cc);
      counted = says.3;
      code = code_of code;
      numbered = says.2;
      exact = subst (λ x. Fails x (document_of mode text)) is fails;
      explained = subst (IsExplained mode text) is explained;
    }

pub reason_says : (number : ℕ) (mode : Mode) (text : List ℕ) (count : ℕ) (e : Error) (reason : Failure) → NumberChooses number mode
    → (e ≢ errors.OutOfMemory → IsNoDocument mode text) → Fails e (document_of mode text) → IsExplained mode text e → SaysError count e reason
    → IsReason number (IsRejected number text count) reason
reason_says number mode text count e (Text rejection) chosen none fails explained says = (within chosen, rejected_text number mode text count e rejection chosen none fails explained says)
reason_says number mode text count e OutOfMemory chosen none fails explained says = within chosen
reason_says number mode text count e UnknownMode chosen none fails explained says = absurd says

-- ---- what is accepted

-- a text that is rejected isn't accepted
pub denied : (number : ℕ) (text : List ℕ) (count : ℕ) (rejection : Rejection) → IsRejected number text count rejection → IsAccepted number text → ⊥
denied number text count rejection w a = w.no_document a.tree (subst (λ mode. IsDocument mode text a.tree) (one_mode a.read.chosen w.chosen) a.read.document)

-- nor are both of two texts of which one is rejected
pub one_denied : (number : ℕ) (left right : List ℕ) (rejection : Rejection) → IsOneRejected number left right rejection → IsAccepted number left → IsAccepted number right → ⊥
one_denied number left right rejection (first_rejected w) a b = denied number left 1 rejection w a
one_denied number left right rejection (second_rejected first w) a b = denied number right 2 rejection w b

-- where a text is accepted, memory ran out
pub memory_wanting : (number : ℕ) (text : List ℕ) (reason : Failure) → IsReason number (IsRejected number text 1) reason → IsAccepted number text → status_of reason ≡ 2
memory_wanting number text (Text rejection) w a = absurd (denied number text 1 rejection w.1 a)
memory_wanting number text OutOfMemory w a = refl
memory_wanting number text UnknownMode w a = absurd (omega (arith, w, within a.read.chosen))

-- the same of two texts
pub memory_wanting_of_two : (number : ℕ) (left right : List ℕ) (reason : Failure) → IsReason number (IsOneRejected number left right) reason → IsAccepted number left → IsAccepted number right → status_of reason ≡ 2
memory_wanting_of_two number left right (Text rejection) w a b = absurd (one_denied number left right rejection w.1 a b)
memory_wanting_of_two number left right OutOfMemory w a b = refl
memory_wanting_of_two number left right UnknownMode w a b = absurd (omega (arith, w, within a.read.chosen))

-- memory ran out where the reason says so
pub ran_out : {X : Type 0} (count : ℕ) (e : Error) (reason : Failure) → SaysError count e reason → ◌≡◌ {A = Result X Failure} (Err reason) (Err OutOfMemory) → e ≡ errors.OutOfMemory
ran_out {X = X} count e reason says is =
    let same : reason ≡ OutOfMemory = one_error is in
    subst (SaysError count e) same says
  where
    one_error : {a b : Failure} → ◌≡◌ {A = Result X Failure} (Err a) (Err b) → a ≡ b
    one_error e = cc

pub memory_said : {X Y : Type 0} (count : ℕ) (e : Error) (reason : Failure) → SaysError count e reason → ◌≡◌ {A = Result X Failure} (Err reason) (Err OutOfMemory) → ◌≡◌ {A = Result Y Error} (Err e) (Err errors.OutOfMemory)
memory_said count e reason says is = ap Err (ran_out count e reason says is)
