-- What a call finds in bytes that begin with the key of a value, or with parts of an array or an object.
use Rattle.std.specs.Prelude.{◌≡◌, ℕ, Bool, true, List, ◌++◌, Option, Some, MatchOption, option_map}
use Rattle.std.specs.Borrow.{Bor}
use Rattle.std.specs.declared.cmp.Ordering.{Ordering}
use Rattle.std.specs.declared.cmp.Ordering.TheVariants.{Equal}
use Rattle.jsonb_spec.specs.SortKey.Readable.{IsReadable}
use Rattle.jsonb_spec.specs.Order.{bytes_cmp}
use Rattle.jsonb_spec.specs.SortKey.{key_of, text_key}
use Rattle.jsonb_spec.specs.Tree.{Tree}
use Rattle.jsonb_spec.specs.SortKey.Open.{Open, end_key, is_object, open_key, IsOpen}
use Rattle.jsonb_spec.specs.Text.{tree_text}

-- Whichever value's key the bytes begin with, this is so of the value, and of the bytes behind its key.
abbrev pub AtKey : List ℕ → (Tree → List ℕ → Type 0) → Type 0
AtKey bytes Is = (t : Tree) → IsReadable t → (more : List ℕ) → bytes ≡ key_of t ++ more → Is t more

-- Whichever value's key the bytes are, this is so of the value.
abbrev pub OfKey : List ℕ → (Tree → Type 0) → Type 0
OfKey bytes Is = (t : Tree) → IsReadable t → bytes ≡ key_of t → Is t

-- Whatever is left of an array or an object where the bytes begin, this is so of it, and of the bytes behind its end.
abbrev pub AtParts : Bool → List ℕ → (Open → List ℕ → Type 0) → Type 0
AtParts object bytes Is =
    (o : Open) → is_object o ≡ object → IsOpen o 511 → (more : List ℕ) → bytes ≡ open_key o ++ more → Is o more

-- These bytes are left.
abbrev pub Leaves : Option (Bor (List ℕ)) → List ℕ → Type 0
Leaves result more = option_map (λ rest. rest.now) result ≡ Some more

-- The first part is this, and these bytes are left.
abbrev pub Splits : Option (Bor (List ℕ) × Bor (List ℕ)) → List ℕ → List ℕ → Type 0
Splits result part more = MatchOption result ⊥ (λ r. (r.0.now ≡ part) × (r.1.now ≡ more))

-- The first name and part are these, and these bytes are left.
abbrev pub SplitsNamed : Option (Bor (List ℕ) × Bor (List ℕ) × Bor (List ℕ)) → List ℕ → List ℕ → List ℕ → Type 0
SplitsNamed result name part more =
    MatchOption result ⊥ (λ r. (r.0.now ≡ name) × (r.1.now ≡ part) × (r.2.now ≡ more))

-- This is the order that is reported, and where it is that of equal names, these bytes are left.
pub record ReportsOrder (order : Ordering) (more : List ℕ) (result : Ordering × Bor (List ℕ)) : Type 0 where
  pub reported : result.0 ≡ order
  pub behind : result.0 ≡ Equal → result.1.now ≡ more

-- The bytes don't begin with the end of an object.
abbrev pub NoMembersEnd : List ℕ → Type 0
NoMembersEnd bytes = (tail : List ℕ) → bytes ≡ end_key true ++ tail → ⊥

-- This is how the name compares with the one whose key the bytes begin with.
abbrev pub ComparesName : List ℕ → List ℕ → Ordering → Type 0
ComparesName name bytes order = (text more : List ℕ) → bytes ≡ text_key text ++ more → order ≡ bytes_cmp name text

-- Whichever value the text is the serialized form of, this is so of it.
abbrev pub OfText : List ℕ → (Tree → Type 0) → Type 0
OfText text Is = (t : Tree) → IsReadable t → text ≡ tree_text t → Is t
