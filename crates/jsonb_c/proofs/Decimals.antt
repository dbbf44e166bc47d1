-- What is said of the decimals of keys.
use Rattle.std.proofs.Common.{◌≡◌, ℕ, ℤ, pos, List, [], ◌++◌, true, false, Option, Some, None, IfSome, MatchOption, refl, sym, ap, subst, ◌∙◌, arith}
use Rattle.jsonb_spec.specs.SortKey.Decimals.{HasFewDigits, HasManyDigits, IsShortDecimal}
use Rattle.jsonb_spec.specs.SortKey.Readable.{IsReadable}
use Rattle.key_value.specs.declared.number.Decimal.{Decimal}
use Rattle.key_walk.specs.declared.walk.Kind.{Kind}
use Rattle.key_walk.specs.declared.walk.Kind.TheVariants as kinds
use Rattle.key_walk.specs.Parts.{kind_of_tree}
use Rattle.jsonb_spec.specs.Proper.{IsProperNumber}
use Rattle.jsonb_spec.specs.SortKey.{key_of, number_key}
use Rattle.jsonb_spec.specs.Tree.{Num, Tree, null, boolean, string, number, array, object}
use Rattle.jsonb_c.specs.Scalars.{is_number}
use Rattle.jsonb_spec.specs.Interface.Scalars.{IsDecimal}
use Rattle.jsonb_c.proofs.Integers.{clash}

-- what is found of a number's key
abbrev pub FindsDecimal : List ℕ → Option Decimal → Type 0
FindsDecimal key found = (n : Num) → IsProperNumber n → (more : List ℕ) → key ≡ number_key n ++ more
    → MatchOption found (HasManyDigits n) (λ d. HasFewDigits n d.digits d.scale)

none_there : (t : Tree) → ((d : ℤ) → (s : ℕ) → IsShortDecimal t d s → ⊥) → IsDecimal t 5 (pos 0) 0
none_there t none = record { found = λ h. absurd (omega (arith, h)); other = λ h. (refl, none) }

pub no_number : (t : Tree) → IsReadable t → (kind : Kind) → Some kind ≡ kind_of_tree t → is_number kind ≡ false → IsDecimal t 5 (pos 0) 0
no_number null r kind e f = none_there null (λ d s h. h)
no_number (boolean b) r kind e f = none_there (boolean b) (λ d s h. h)
no_number (number n) r kind e f = let other : true ≡ false = clash kind kinds.Number false e f in absurd cc
no_number (string mark text) r kind e f = none_there (string mark text) (λ d s h. h)
no_number (array ts) r kind e f = none_there (array ts) (λ d s h. h)
no_number (object ms) r kind e f = none_there (object ms) (λ d s h. h)
no_number t r kind e f = absurd r.within

-- the number that a value of that kind is
number_there : (t : Tree) → IsReadable t → (kind : Kind) → Some kind ≡ kind_of_tree t → is_number kind ≡ true → (n : Num) × (t ≡ number n) × IsProperNumber n
number_there null r kind e f = let other : false ≡ true = clash kind kinds.Null true e f in absurd cc
number_there (boolean b) r kind e f = let other : false ≡ true = clash kind kinds.Bool true e f in absurd cc
number_there (number n) r kind e f = (n, refl, r.proper)
number_there (string mark text) r kind e f = let other : false ≡ true = clash kind kinds.String true e f in absurd cc
number_there (array ts) r kind e f = let other : false ≡ true = clash kind kinds.Array true e f in absurd cc
number_there (object ms) r kind e f = let other : false ≡ true = clash kind kinds.Object true e f in absurd cc
number_there t r kind e f = absurd r.within

module _ (t : Tree) (r : IsReadable t) (kind : Kind) (e : Some kind ≡ kind_of_tree t) (f : is_number kind ≡ true) (key : List ℕ) (k : key ≡ key_of t ++ []) (found : Option Decimal) (finds : FindsDecimal key found) where
  pub is_found : (d : Decimal) → found ≡ Some d → IsDecimal t 0 d.digits d.scale
  is_found d is =
      let x = number_there t r kind e f in
      let few = subst (λ o. MatchOption o (HasManyDigits x.0) (λ d. HasFewDigits x.0 d.digits d.scale)) is (finds x.0 x.2 [] (k ∙ ap (λ u. key_of u ++ []) x.1)) in
      subst (λ u. IsDecimal u 0 d.digits d.scale) (sym x.1) (record { found = λ h. few; other = λ h. absurd (h refl) })

  pub is_none : found ≡ None → IsDecimal t 5 (pos 0) 0
  is_none is =
      let x = number_there t r kind e f in
      let many = subst (λ o. MatchOption o (HasManyDigits x.0) (λ d. HasFewDigits x.0 d.digits d.scale)) is (finds x.0 x.2 [] (k ∙ ap (λ u. key_of u ++ []) x.1)) in
      subst (λ u. IsDecimal u 5 (pos 0) 0) (sym x.1) (none_there (number x.0) (λ d s h. omega (arith, many d s h.0, h.1)))

-- what is found in few bits
pub is_short : (t : Tree) → IsReadable t → (kind : Kind) → Some kind ≡ kind_of_tree t → is_number kind ≡ true → (key : List ℕ) → key ≡ key_of t ++ [] → (found : Option Decimal)
    → ((n : Num) → IsProperNumber n → (more : List ℕ) → key ≡ number_key n ++ more → IfSome found (λ d. HasFewDigits n d.digits d.scale)) → IfSome found (λ d. IsDecimal t 0 d.digits d.scale)
is_short t r kind e f key k None finds = tt
is_short t r kind e f key k (Some d) finds =
    let x = number_there t r kind e f in
    let few = finds x.0 x.2 [] (k ∙ ap (λ u. key_of u ++ []) x.1) in
    subst (λ u. IsDecimal u 0 d.digits d.scale) (sym x.1) (record { found = λ h. few; other = λ h. absurd (h refl) })
