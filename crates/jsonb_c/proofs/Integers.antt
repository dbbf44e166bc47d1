-- What is said of the integers of keys.
use Rattle.std.proofs.Common.{◌≡◌, ℕ, ℤ, pos, List, [], ◌++◌, Bool, true, false, Option, Some, None, FitsSigned, refl, sym, ap, ◌∙◌, arith}
use Rattle.std.specs.Int.{w64}
use Rattle.jsonb_spec.specs.SortKey.Readable.{IsReadable}
use Rattle.key_walk.specs.declared.walk.Kind.{Kind}
use Rattle.key_walk.specs.declared.walk.Kind.TheVariants as kinds
use Rattle.key_walk.specs.Parts.{kind_of_tree}
use Rattle.jsonb_spec.specs.Number.Cast.{HasValue}
use Rattle.jsonb_spec.specs.Proper.{IsProperNumber}
use Rattle.jsonb_spec.specs.SortKey.{key_of, number_key}
use Rattle.jsonb_spec.specs.Tree.{Num, Tree, null, boolean, string, number, array, object}
use Rattle.jsonb_c.specs.Scalars.{is_number}
use Rattle.jsonb_spec.specs.Interface.Scalars.{IsInteger}

-- what is found of a number's key
abbrev pub FindsInteger : List ℕ → Option ℤ → Type 0
FindsInteger key found = (n : Num) → IsProperNumber n → (more : List ℕ) → key ≡ number_key n ++ more
    → (v : ℤ) → (found ≡ Some v → HasValue n v × FitsSigned w64 v) × (HasValue n v × FitsSigned w64 v → found ≡ Some v)

pub clash : (kind other : Kind) (b : Bool) → ◌≡◌ {A = Option Kind} (Some kind) (Some other) → is_number kind ≡ b → is_number other ≡ b
clash kind other b e f = let same : kind ≡ other = cc in sym (ap is_number same) ∙ f

pub no_number : (t : Tree) → IsReadable t → (kind : Kind) → Some kind ≡ kind_of_tree t → is_number kind ≡ false → IsInteger t 5 (pos 0)
no_number null r kind e f = record { found = λ h. absurd (omega (arith, h)); other = λ h. (refl, λ v whole fits. whole) }
no_number (boolean b) r kind e f = record { found = λ h. absurd (omega (arith, h)); other = λ h. (refl, λ v whole fits. whole) }
no_number (number n) r kind e f = let other : true ≡ false = clash kind kinds.Number false e f in absurd cc
no_number (string mark text) r kind e f = record { found = λ h. absurd (omega (arith, h)); other = λ h. (refl, λ v whole fits. whole) }
no_number (array ts) r kind e f = record { found = λ h. absurd (omega (arith, h)); other = λ h. (refl, λ v whole fits. whole) }
no_number (object ms) r kind e f = record { found = λ h. absurd (omega (arith, h)); other = λ h. (refl, λ v whole fits. whole) }
no_number t r kind e f = absurd r.within

pub is_found : (t : Tree) → IsReadable t → (kind : Kind) → Some kind ≡ kind_of_tree t → is_number kind ≡ true → (key : List ℕ) → key ≡ key_of t ++ []
    → (found : Option ℤ) → FindsInteger key found → (v : ℤ) → found ≡ Some v → IsInteger t 0 v
is_found null r kind e f key k found finds v is = let other : false ≡ true = clash kind kinds.Null true e f in absurd cc
is_found (boolean b) r kind e f key k found finds v is = let other : false ≡ true = clash kind kinds.Bool true e f in absurd cc
is_found (number n) r kind e f key k found finds v is = record { found = λ h. (finds n r.proper [] k v).0 is; other = λ h. absurd (h refl) }
is_found (string mark text) r kind e f key k found finds v is = let other : false ≡ true = clash kind kinds.String true e f in absurd cc
is_found (array ts) r kind e f key k found finds v is = let other : false ≡ true = clash kind kinds.Array true e f in absurd cc
is_found (object ms) r kind e f key k found finds v is = let other : false ≡ true = clash kind kinds.Object true e f in absurd cc
is_found t r kind e f key k found finds v is = absurd r.within

pub is_none : (t : Tree) → IsReadable t → (kind : Kind) → Some kind ≡ kind_of_tree t → is_number kind ≡ true → (key : List ℕ) → key ≡ key_of t ++ []
    → (found : Option ℤ) → FindsInteger key found → found ≡ None → IsInteger t 5 (pos 0)
is_none null r kind e f key k found finds is = let other : false ≡ true = clash kind kinds.Null true e f in absurd cc
is_none (boolean b) r kind e f key k found finds is = let other : false ≡ true = clash kind kinds.Bool true e f in absurd cc
is_none (number n) r kind e f key k found finds is = record {
  found = λ h. absurd (omega (arith, h));
  other = λ h. (refl, λ v whole fits. let there : found ≡ Some v = (finds n r.proper [] k v).1 (whole, fits) in absurd cc);
}
is_none (string mark text) r kind e f key k found finds is = let other : false ≡ true = clash kind kinds.String true e f in absurd cc
is_none (array ts) r kind e f key k found finds is = let other : false ≡ true = clash kind kinds.Array true e f in absurd cc
is_none (object ms) r kind e f key k found finds is = let other : false ≡ true = clash kind kinds.Object true e f in absurd cc
is_none t r kind e f key k found finds is = absurd r.within
