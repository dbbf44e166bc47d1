-- Documents of values of which parts are left out, from what is written of their keys and their zeros.
use Rattle.std.proofs.Common.{◌≡◌, ℕ, ◌+◌, ◌<◌, ◌≤◌, Bool, true, false, List, ◌++◌, Option, Some, None, Result, Ok, Err, length, refl, sym, ap, subst, ◌∙◌, arith, append_assoc, length-append}
use Rattle.std.specs.Prelude.{IfOk, IsErrAnd, Vec, vec_len, vec_capacity}
use Rattle.std.specs.declared.alloc.Global.{Global}
use Rattle.jsonb_spec.specs.SortKey.Readable.{IsAnyNumber}
use Rattle.jsonb_spec.specs.SortKey.{key_of}
use Rattle.jsonb_spec.specs.Text.Range.{IsWithin}
use Rattle.jsonb_spec.specs.Tree.{Tree, object, Members}
use Rattle.key_document.specs.Changes.{Answers, AppendsDocument, IsLacking}
use Rattle.jsonb_spec.specs.Document.{behind_key, document_of, zeros_at}
use Rattle.jsonb_spec.specs.Edit.LeftOut.{without_names}
use Rattle.key_document.specs.Retaining.{WritesAnswer}
use Rattle.key_document.specs.Splices.{AppendsZeros}
use Rattle.key_document.specs.declared.error.DocumentError.{DocumentError}
use Rattle.key_document.specs.declared.error.DocumentError.TheVariants.{OutOfMemory}
use Rattle.key_document.specs.declared.retain.Output.TheVariants.{Bytes}
use Rattle.key_document.proofs.Changing.{answer_lacking, finished}
use Rattle.key_document.proofs.Joining.{lacks_zeros}

no_error : (e : DocumentError) (b : Bool) → ◌≡◌ {A = Result Bool DocumentError} (Err e) (Ok b) → ⊥
no_error e b x = cc

not_false : (b : Bool) → b ≡ true → ◌≡◌ {A = Result Bool DocumentError} (Ok b) (Ok false) → ⊥
not_false b e x = cc

error_is : (r : Result Bool DocumentError) (error : DocumentError) → IsErrAnd r (λ e. e ≡ error) → error ≡ OutOfMemory → IsErrAnd r (λ e. e ≡ OutOfMemory)
error_is (Ok b) error h is = absurd h
error_is (Err e) error h is = h ∙ is

-- the key isn't written
pub key_unwritten : (answer : Option Tree) (r : Result Bool DocumentError) (error : DocumentError) (old mid new : Vec ℕ Global) → IsErrAnd r (λ e. e ≡ error) → WritesAnswer Bytes answer (Err error) old mid → Answers answer r old new
key_unwritten None r error old mid new h w = absurd (no_error error false w.0)
key_unwritten (Some v) r error old mid new h w = answer_lacking (Some v) v r old new refl (error_is r error h w.0) w.1

-- the answer whose key is written
pub record Written (answer : Option Tree) (old mid : List ℕ) : Type 0 where
  pub value : Tree
  pub is : answer ≡ Some value
  pub appended : mid ≡ old ++ key_of value

pub key_written : (answer : Option Tree) (changed : Bool) (old mid : Vec ℕ Global) → changed ≡ true → WritesAnswer Bytes answer (Ok changed) old mid → Written answer old.items mid.items
key_written None changed old mid e w = absurd (not_false changed e w.0)
key_written (Some v) changed old mid e w = record { value = v; is = refl; appended = w.1 }

no_ok : (r : Result Bool DocumentError) (error : DocumentError) → IsErrAnd r (λ e. e ≡ error) → IfOk r (λ reported. reported ≡ true)
no_ok (Ok b) error h = absurd h
no_ok (Err e) error h = tt

pub tail_unwritten : (answer : Option Tree) (r : Result Bool DocumentError) (error : DocumentError) (old mid new : Vec ℕ Global) (x : Written answer old.items mid.items) → IsErrAnd r (λ e. e ≡ error) → IsWithin IsAnyNumber x.value 512 → vec_capacity old ≤ vec_capacity mid
    → (error ≡ OutOfMemory) × (vec_capacity mid < vec_len mid + length (behind_key (zeros_at x.value))) → Answers answer r old new
tail_unwritten answer r error old mid new x h fits most full =
    finished answer x.value r old mid new (behind_key (zeros_at x.value)) x.is fits x.appended most refl
    (lacks_zeros r error mid new (behind_key (zeros_at x.value)) (behind_key (zeros_at x.value)) h full.0 full.1 (omega arith)) (no_ok r error h)

pub tail_written : (answer : Option Tree) (old mid new : Vec ℕ Global) (x : Written answer old.items mid.items) → IsWithin IsAnyNumber x.value 512 → vec_capacity old ≤ vec_capacity mid → new.items ≡ mid.items ++ behind_key (zeros_at x.value) → Answers answer (Ok true) old new
tail_written answer old mid new x fits most e = finished answer x.value (Ok true) old mid new (behind_key (zeros_at x.value)) x.is fits x.appended most refl e refl

-- after an error the buffer may have any bytes
pub error_stays : (answer : Option Tree) (error : DocumentError) (old mid new : Vec ℕ Global) → Answers answer (Err error) old mid → Answers answer (Err error) old new
error_stays None error old mid new a = absurd (no_error error false a.0)
error_stays (Some v) error old mid new a = (record { ok = tt; fits = tt; errors = a.0.errors }, tt)

-- what names isn't an object
pub no_names : (u t : Tree) → ((ms : Members) → u ≡ object ms → ⊥) → without_names u t ≡ None
no_names (object ms) t none = absurd (none ms refl)
no_names u t none = refl

-- ---- a value that is appended in any case

pub all_unwritten : {X : Type 0} (v : Tree) (r : Result X DocumentError) (error : DocumentError) (old new : Vec ℕ Global) → IsErrAnd r (λ e. e ≡ error) → (error ≡ OutOfMemory) × (vec_capacity old < vec_len old + length (key_of v)) → AppendsDocument v r old new
all_unwritten v (Ok x) error old new h full = absurd h
all_unwritten v (Err e) error old new h full = record { ok = tt; fits = tt; errors = subst (IsLacking v old) (sym (h ∙ full.0)) (omega (arith, full.1, length-append (key_of v) (behind_key (zeros_at v)))) }

-- the zeros follow the key that was appended, or the capacity for them is missing
pub all_appended : {X : Type 0} (v : Tree) (r : Result X DocumentError) (old mid new : Vec ℕ Global) → IsWithin IsAnyNumber v 512 → mid.items ≡ old.items ++ key_of v → vec_capacity old ≤ vec_capacity mid → AppendsZeros r mid new (behind_key (zeros_at v)) → AppendsDocument v r old new
all_appended v (Ok x) old mid new fits appended most tail = record { ok = tail ∙ ap (λ m. m ++ behind_key (zeros_at v)) appended ∙ append_assoc old.items (key_of v) (behind_key (zeros_at v)); fits = fits; errors = tt }
all_appended v (Err e) old mid new fits appended most tail =
    let short : vec_capacity old < vec_len old + length (document_of v) = omega (arith, tail.1, most, old.ok.0, mid.ok.0, ap length appended, length-append old.items (key_of v), length-append (key_of v) (behind_key (zeros_at v))) in
    record { ok = tt; fits = tt; errors = subst (λ error. IsLacking v old error) (sym tail.0) short }

pub all_stays : {X : Type 0} (v : Tree) (error : DocumentError) (old mid new : Vec ℕ Global) → AppendsDocument {X = X} v (Err error) old mid → AppendsDocument {X = X} v (Err error) old new
all_stays v error old mid new a = record { ok = tt; fits = tt; errors = a.errors }
