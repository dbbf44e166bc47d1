-- A failure that says its fault, or says nothing.
use Rattle.std.proofs.Common.{◌≡◌, Bool, MatchBool, true, false, List, ℕ, Option, None, Some, Result, Ok, Err, IfOk, OnOk, sym, subst, ◌∙◌, true≢false}
use Rattle.jsonb_core.specs.declared.error.Error.{Error}
use Rattle.jsonb_core.specs.declared.error.Error.TheVariants.{OutOfMemory}
use Rattle.text_scan.specs.Answer.{Fails}
use Rattle.jsonb_spec.specs.Parsing.{Fault, Parse, ◌>>=◌}
use Rattle.jsonb_spec.specs.Source.{Source}
use Rattle.text_parse.specs.Handler.{Builds, ElseFails, Ends, IsUnreported, Misses}
use Rattle.text_parse.proofs.Steps.Outcomes.{fails_through}

-- what is reported of an error that is the fault of parsing
pub reports_fault : {Y : Type 0} (silent : Bool) (t : Option Error) (e : Error) (read : Result Y Fault) → t ≡ Some e → Fails e read → Misses silent t read
reports_fault silent t e read is h = subst (λ u. Misses silent u read) (sym is) h

-- a fault of the first step is one of the whole
pub misses_through : {A B : Type 0} (silent : Bool) (t : Option Error) (r : Result A Fault) (f : A → Result B Fault) → Misses silent t r → Misses silent t (r >>= f)
misses_through silent None r f h = h
misses_through silent (Some e) r f h = fails_through e r f h

pub misses_same : {Y : Type 0} (silent : Bool) (t : Option Error) (read other : Result Y Fault) → other ≡ read → Misses silent t read → Misses silent t other
misses_same silent t read other same h = subst (λ q. Misses silent t q) (sym same) h

-- want of memory may befall any parsing
pub memory_misses : {Y : Type 0} (silent : Bool) (t : Option Error) (read : Result Y Fault) → t ≡ Some OutOfMemory → Misses silent t read
memory_misses silent t read is = reports_fault silent t OutOfMemory read is tt

-- a call that always says its fault
pub reports_always : {Y : Type 0} (silent : Bool) (t : Option Error) (read : Result Y Fault) → Misses false t read → Misses silent t read
reports_always silent None read h = absurd (true≢false (sym h))
reports_always silent (Some e) read h = h

pub unreported_misses : {Y : Type 0} (silent : Bool) (t : Option Error) (read : Result Y Fault) → IsUnreported silent t → Misses silent t read
unreported_misses silent None read h = h
unreported_misses silent (Some e) read h = subst (λ u. Fails u read) (sym h) tt

-- what follows for what was returned
pub if_ok : {X F : Type 0} {P Q : X → Type 0} (r : Result X F) → ((x : X) → P x → Q x) → IfOk r P → IfOk r Q
if_ok (Ok x) f h = f x h
if_ok (Err e) f h = tt

pub ok_if : {X F P : Type 0} {Q : X → Type 0} (r : Result X F) → ((x : X) → P → Q x) → OnOk r P → IfOk r Q
ok_if (Ok x) f h = f x h
ok_if (Err e) f h = tt

-- the end of a text is that of the whole
pub ends_as : {X F : Type 0} (Holds : Source → Type 0) (silent : Bool) (reported : Option Error) (result : Result X F) (s : Source) (read whole : Result Source Fault) → whole ≡ read → Holds s → Ends s reported result read → ElseFails silent reported result whole (λ _. (s : Source) × Holds s × (whole ≡ Ok s))
ends_as Holds silent reported (Ok x) s read whole same holds ends = (s, holds, same ∙ ends)
ends_as Holds silent reported (Err f) s read whole same holds ends = misses_same silent reported read whole same (reports_always silent reported read ends)

-- what is so of a call that was asked whether it stops
pub stops_if : (P Q : Type 0) (b : Bool) → b ≡ true → MatchBool b P Q → P
stops_if P Q b is h = subst (λ c. MatchBool c P Q) is h

pub puts_if : (P Q : Type 0) (b : Bool) → b ≡ false → MatchBool b P Q → Q
puts_if P Q b is h = subst (λ c. MatchBool c P Q) is h

-- what is built of one parsing is built of one that is the same
pub builds_same : {X F Y : Type 0} (silent : Bool) (reported : Option Error) (Sees : X → Y → Type 0) (result : Result X F) (read other : Parse Y) (rest : List ℕ) → other ≡ read
    → Builds silent reported Sees result read rest → Builds silent reported Sees result other rest
builds_same silent reported Sees result read other rest same h = subst (λ q. Builds silent reported Sees result q rest) (sym same) h

-- a call that always says its fault, where another may be silent
pub builds_always : {X F Y : Type 0} (silent : Bool) (reported : Option Error) (Sees : X → Y → Type 0) (result : Result X F) (read : Parse Y) (rest : List ℕ) → Builds false reported Sees result read rest → Builds silent reported Sees result read rest
builds_always silent reported Sees (Ok x) read rest h = h
builds_always silent reported Sees (Err f) read rest h = reports_always silent reported read h
