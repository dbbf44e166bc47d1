-- How parsing fails, and what a handler is asked to do.
use Rattle.std.specs.Prelude.{◌≡◌, ℕ, ◌+◌, ◌-◌, Bool, true, false, List, [], ◌∷◌, ◌++◌, length, Option, Some, None, Result, Ok, Err}
use Rattle.jsonb_core.specs.declared.error.Error.{Error}
use Rattle.jsonb_core.specs.declared.error.Error.TheVariants.{Syntax, OutOfMemory}
use Rattle.jsonb_spec.specs.Tree.{Mark, Tree}
use Rattle.jsonb_spec.specs.Tree.Mark.{plain}
use Rattle.jsonb_core.specs.Error.CodeView.{code_of}
use Rattle.text_parse.specs.declared.parser.frame.Frame.{Frame}
use Rattle.text_parse.specs.declared.parser.frame.Frame.TheVariants as variants
use Rattle.text_parse.specs.declared.parser.frame.OpenObject.{OpenObject}
use Rattle.text_scan.specs.Answer.{Fails}
use Rattle.jsonb_spec.specs.Source.Open.{Open, elements_so_far, members_so_far}
use Rattle.jsonb_spec.specs.Parsing.{Fault, Parse}
use Rattle.jsonb_spec.specs.Parsing.String.{Body}
use Rattle.jsonb_spec.specs.Source.{Source, Found, array_source_of, found_member, string_source, source_alone}

-- ---- how a call fails

-- What was reported is the fault that parsing gives, or want of memory. A handler that is silent may have reported
-- nothing.
abbrev pub Misses : {Y : Type 0} → Bool → Option Error → Result Y Fault → Type 0
Misses silent None read = silent ≡ true
Misses silent (Some e) read = Fails e read

-- What was returned is so, or what was reported is the fault that parsing gives.
abbrev pub ElseFails : {X F Y : Type 0} → Bool → Option Error → Result X F → Result Y Fault → (X → Type 0) → Type 0
ElseFails silent reported (Ok x) read IsSo = IsSo x
ElseFails silent reported (Err f) read IsSo = Misses silent reported read

-- What was returned is what parsing gives, and these bytes are left.
abbrev pub Builds : {X F Y : Type 0} → Bool → Option Error → (X → Y → Type 0) → Result X F → Parse Y → List ℕ → Type 0
Builds {X} {F} {Y} silent reported Sees result read rest =
    ElseFails silent reported result read (λ x. (y : Y) × Sees x y × (read ≡ Ok (y, rest)))

-- What was returned is what parsing the whole text gives, or the error is its fault.
abbrev pub BuildsAll : {X Y : Type 0} → Bool → (X → Y → Type 0) → Result X (Option Error) → Result Y Fault → Type 0
BuildsAll {X} {Y} silent Sees (Ok x) read = (y : Y) × Sees x y × (read ≡ Ok y)
BuildsAll silent Sees (Err reported) read = Misses silent reported read

-- The text ends after a value of this source, or what was reported is the fault.
abbrev pub Ends : {X F : Type 0} → Source → Option Error → Result X F → Result Source Fault → Type 0
Ends s reported result read = ElseFails false reported result read (λ _. read ≡ Ok s)

-- Memory ran out, or nothing was reported.
abbrev pub IsUnreported : Bool → Option Error → Type 0
IsUnreported silent None = silent ≡ true
IsUnreported silent (Some e) = e ≡ OutOfMemory

-- The text is a document, whose value is written by a handler that takes memory for scalars.
abbrev pub IsWritten : Bool → Result Source Fault → Type 0
IsWritten writes read = (writes ≡ true) × ((s : Source) × (read ≡ Ok s))

-- ---- scalars and keys

-- of a value that holds no others
abbrev pub AsScalar : {V : Type 0} → (V → Source → Type 0) → V → Tree → Type 0
AsScalar Sees v t = Sees v (source_alone t)

-- What was made is of the text that is parsed of the contents of a string, or the error is their fault, which counts
-- from this index.
abbrev pub SeesContents : {V : Type 0} → (V → Source → Type 0) → ℕ → Result V Error → Body (Mark × List ℕ) → Type 0
SeesContents Sees offset (Ok v) read = (x : Mark × List ℕ) × Sees v (string_source x.0 x.1) × (read ≡ Ok x)
SeesContents Sees offset (Err (Syntax code index)) read = (count : ℕ) × (read ≡ Err (code_of code, count))
    × (index ≡ offset + count)
SeesContents Sees offset (Err OutOfMemory) read = Unit {0}
SeesContents Sees offset (Err other) read = ⊥

-- of a key, before these bytes
abbrev pub AsKey : {K : Type 0} → (K → Mark × List ℕ → ℕ → Type 0) → ℕ → List ℕ → K → Mark × List ℕ → Type 0
AsKey Names size rest key k = Names key k (size - length rest)

-- of a key and the offset after it
abbrev pub AsNamed : {K : Type 0} → (K → Mark × List ℕ → ℕ → Type 0) → K → (Mark × List ℕ) × ℕ → Type 0
AsNamed Names key k = Names key k.0 k.1

-- With this key, a member of the object began, and its value is due.
abbrev pub Begins : {R I M K : Type 0} → (R → Bool → List (Frame I M K) → List Open → Type 0) → R → OpenObject M K → R
    → OpenObject M K → K → Mark × List ℕ → ℕ → Type 0
Begins {R} {I} {M} {K} Holds old object new begun key k offset =
    (front : List Found) → (other : Mark × List ℕ) → (other_offset : ℕ) → (fs : List (Frame I M K)) → (cs : List Open)
    → Holds old false (variants.Object object ∷ fs) (members_so_far front other other_offset ∷ cs)
    → Holds new true (variants.Object (record { members = begun.members; key = key }) ∷ fs)
    (members_so_far front k offset ∷ cs)

-- ---- what a handler is asked to do

module _ {R I M K : Type 0} (Holds : List ℕ → R → Bool → List (Frame I M K) → List Open → Type 0) where
  -- An array is opened where a value was due.
  abbrev pub OpensArray : R → R → I → Type 0
  OpensArray old new items =
      (text : List ℕ) → (fs : List (Frame I M K)) → (cs : List Open) → Holds text old true fs cs
      → Holds text new false (variants.Array items ∷ fs) (elements_so_far [] ∷ cs)

  -- An element is due that is a container.
  abbrev pub AwaitsElement : R → I → R → I → Type 0
  AwaitsElement old before new after =
      (text : List ℕ) → (ss : List Source) → (fs : List (Frame I M K)) → (cs : List Open)
      → Holds text old false (variants.Array before ∷ fs) (elements_so_far ss ∷ cs)
      → Holds text new true (variants.Array after ∷ fs) (elements_so_far ss ∷ cs)

  -- A source of which this holds becomes the last element of the innermost array.
  abbrev pub TakesElement : (List ℕ → Source → Type 0) → R → I → R → I → Type 0
  TakesElement Is old before new after =
      (text : List ℕ) → (s : Source) → (ss : List Source) → (fs : List (Frame I M K)) → (cs : List Open)
      → Holds text old false (variants.Array before ∷ fs) (elements_so_far ss ∷ cs) → Is text s
      → Holds text new false (variants.Array after ∷ fs) (elements_so_far (ss ++ s ∷ []) ∷ cs)

  -- An object is opened where a value was due.
  abbrev pub OpensObject : R → R → OpenObject M K → Type 0
  OpensObject old new object =
      (text : List ℕ) → (fs : List (Frame I M K)) → (cs : List Open) → Holds text old true fs cs
      → Holds text new false (variants.Object object ∷ fs) (members_so_far [] (plain, []) 0 ∷ cs)

  -- A source of which this holds becomes the value of the innermost object's member that this key waits for.
  abbrev pub TakesMember : (List ℕ → Source → Type 0) → R → OpenObject M K → K → R → OpenObject M K → Type 0
  TakesMember Is old before key new after =
      (text : List ℕ) → (s : Source) → (front : List Found) → (k : Mark × List ℕ) → (offset : ℕ)
      → (fs : List (Frame I M K)) → (cs : List Open)
      → Holds text old true (variants.Object (record { members = before.members; key = key }) ∷ fs)
      (members_so_far front k offset ∷ cs) → Is text s → Holds text new false (variants.Object after ∷ fs)
      (members_so_far (front ++ found_member k s offset ∷ []) (plain, []) 0 ∷ cs)

  -- A container that is made becomes the last element of the array around it.
  abbrev pub TakesInner : (Source → List (Frame I M K) → List Open → List ℕ → Type 0) → I → R → I → Type 0
  TakesInner Filled before new after =
      (text : List ℕ) → (s : Source) → (ss : List Source) → (fs : List (Frame I M K)) → (cs : List Open)
      → Filled s (variants.Array before ∷ fs) (elements_so_far ss ∷ cs) text
      → Holds text new false (variants.Array after ∷ fs) (elements_so_far (ss ++ s ∷ []) ∷ cs)

  -- A container that is made becomes the value of the member that waits for it in the object around it.
  abbrev pub TakesInnerMember : (Source → List (Frame I M K) → List Open → List ℕ → Type 0) → OpenObject M K → R
      → OpenObject M K → Type 0
  TakesInnerMember Filled before new after =
      (text : List ℕ) → (s : Source) → (front : List Found) → (k : Mark × List ℕ) → (offset : ℕ)
      → (fs : List (Frame I M K)) → (cs : List Open)
      → Filled s (variants.Object before ∷ fs) (members_so_far front k offset ∷ cs) text
      → Holds text new false (variants.Object after ∷ fs)
      (members_so_far (front ++ found_member k s offset ∷ []) (plain, []) 0 ∷ cs)

  -- The innermost array ends.
  abbrev pub EndsArray : (List ℕ → Frame I M K → Source → List (Frame I M K) → List Open → Type 0) → R → I → I → Type 0
  EndsArray Completes old before after =
      (text : List ℕ) → (ss : List Source) → (fs : List (Frame I M K)) → (cs : List Open)
      → Holds text old false (variants.Array before ∷ fs) (elements_so_far ss ∷ cs)
      → Completes text (variants.Array after) (array_source_of ss) fs cs
