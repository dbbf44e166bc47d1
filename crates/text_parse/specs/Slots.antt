-- What becomes of an open container when a value is put into it.
use Rattle.std.specs.Prelude.{ℕ, Bool, true, false, List, ◌∷◌}
use Rattle.text_parse.specs.declared.parser.frame.Frame.{Frame}
use Rattle.text_parse.specs.declared.parser.frame.Frame.TheVariants as variants
use Rattle.jsonb_spec.specs.Source.Open.{Open, add_part, elements_so_far, members_so_far}
use Rattle.jsonb_spec.specs.Source.{Source}

-- the container is an array
abbrev pub IsArray : Open → Type 0
IsArray (elements_so_far ss) = Unit {0}
IsArray (members_so_far fs key offset) = ⊥

-- the container is an object
abbrev pub IsObject : Open → Type 0
IsObject (elements_so_far ss) = ⊥
IsObject (members_so_far fs key offset) = Unit {0}

-- The frame is an array's or an object's, as the container is.
abbrev pub Fits : {I M K : Type 0} → Frame I M K → Open → Type 0
Fits (variants.Array items) c = IsArray c
Fits (variants.Object o) c = IsObject c

-- whether a scalar is due after its key, as in an object
abbrev pub is_due : {I M K : Type 0} → Frame I M K → Bool
is_due (variants.Array items) = false
is_due (variants.Object o) = true

-- A source becomes the next part of the innermost container.
abbrev pub TakesPart : {R I M K : Type 0} → (List ℕ → R → Bool → List (Frame I M K) → List Open → Type 0)
    → R → Frame I M K → R → Frame I M K → List ℕ → Source → Type 0
TakesPart {R} {I} {M} {K} Holds old before new after text s =
    (c : Open) → (fs : List (Frame I M K)) → (cs : List Open) → Fits before c
    → Holds text old (is_due before) (before ∷ fs) (c ∷ cs) → Holds text new false (after ∷ fs) (add_part c s ∷ cs)

-- A source of which the first holds is put in.
abbrev pub Takes : (List ℕ → Source → Type 0) → (List ℕ → Source → Type 0) → Type 0
Takes Is IsIn = (text : List ℕ) → (s : Source) → Is text s → IsIn text s
