-- The kind of a value, determined by the first byte of its key.
use Rattle.std.proofs.Common.{◌↔◌, subst, length, ◌≡◌, ◌≢◌, inl, inr, Bool, true, false, if◌then◌else◌, ℕ, ◌+◌, ◌-◌, ◌<◌, ◌≤◌, ◌∷◌, ◌++◌, List, map, unsigned_abs, Option, Some, None, MatchOption, refl, sym, ap, ◌∙◌, arith}
use Rattle.std.proofs.lemmas.Bool.{cases_lt, cases_eq}
use Rattle.std.specs.Bool.{nat_lt}
use Rattle.jsonb_spec.specs.SortKey.Readable.{IsReadable}
use Rattle.key_value.proofs.Numbers.{far_exponent, near_exponent}
use Rattle.key_value.proofs.Signs.{signed_read}
use Rattle.key_walk.specs.declared.walk.Kind.{Kind}
use Rattle.key_walk.specs.declared.walk.Kind.TheVariants as kind
use Rattle.key_walk.specs.Parts.{BeginsNoKey, IsFirstByte, kind_of_tree}
use Rattle.jsonb_spec.specs.SortKey.Parts.{IsNumberByte}
use Rattle.jsonb_spec.specs.Accessors.{as_boolean}
use Rattle.jsonb_spec.specs.Proper.{IsProperNumber}
use Rattle.jsonb_spec.specs.SortKey.{key_of, number_key, digits_key, invert_if, items_key, members_key, text_key}
use Rattle.jsonb_spec.specs.Tree.{Num, Tree, null, boolean, string, number, array, object}
use Rattle.jsonb_core.proofs.SortKeys.Kinds.{is_small, number_begins}
use Rattle.jsonb_core.proofs.Trees.Runs.{heads}

-- a byte of an exponent, inverted or not
exponent_byte : (negative : Bool) (byte first : ℕ) → 0x81 ≤ byte → byte ≤ 0xC7 → first ≡ invert_if negative byte → IsNumberByte first
exponent_byte true byte first low high is = (omega (arith, high, is), omega (arith, low, is), λ e. absurd (omega (arith, low, is, e)))
exponent_byte false byte first low high is = (omega (arith, low, is), omega (arith, high, is), λ e. absurd (omega (arith, low, is, e)))

-- the first byte of a number
number_byte : (n : Num) → IsProperNumber n → (first : ℕ) (rest bytes more : List ℕ) → bytes ≡ first ∷ rest → bytes ≡ number_key n ++ more → IsNumberByte first
number_byte n proper first rest bytes more e occurs = elim (cases_eq first 0x80) [
  | inl zero ↦ (omega (arith, zero), omega (arith, zero), λ is. absurd (omega (arith, zero, is)))
  | inr other ↦
      let sign = nat_lt first 0x80 in
      let s = signed_read n proper first rest bytes more e other occurs in
      let behind : List ℕ = map (invert_if sign) (digits_key s.count (unsigned_abs n.whole)) ++ more in
      elim (cases_lt s.exponent 225) [
        | inl low ↦ exponent_byte sign 0x81 first (omega arith) (omega arith) (heads first (invert_if sign 0x81) rest (invert_if sign s.exponent ∷ behind) (sym e ∙ s.occurs ∙ ap (λ key. map (invert_if sign) key ++ behind) (far_exponent s.exponent low)))
        | inr high ↦ exponent_byte sign (s.exponent - 95) first (omega (arith, high)) (omega (arith, s.is_exponent_key, s.few)) (heads first (invert_if sign (s.exponent - 95)) rest behind (sym e ∙ s.occurs ∙ ap (λ key. map (invert_if sign) key ++ behind) (near_exponent s.exponent high)))
      ]
]

-- the kind of a tree of JSON's kinds, with a key that begins so
pub record KindOf (t : Tree) (first : ℕ) : Type 0 where
  pub which : Kind
  pub is : Some which ≡ kind_of_tree t
  pub begins : IsFirstByte which first

pub kind_begins : (t : Tree) → IsReadable t → (first : ℕ) (rest bytes more : List ℕ) → bytes ≡ first ∷ rest → bytes ≡ key_of t ++ more → KindOf t first
kind_begins null r first rest bytes more e occurs = record { which = kind.Null; is = refl; begins = heads first 0xD3 rest more (sym e ∙ occurs) }
kind_begins (boolean true) r first rest bytes more e occurs = record { which = kind.Bool; is = refl; begins = inr (heads first 0x16 rest more (sym e ∙ occurs)) }
kind_begins (boolean false) r first rest bytes more e occurs = record { which = kind.Bool; is = refl; begins = inl (heads first 0x15 rest more (sym e ∙ occurs)) }
kind_begins (string mark text) r first rest bytes more e occurs = record { which = kind.String; is = refl; begins = heads first 0xD0 rest (text_key text ++ more) (sym e ∙ occurs) }
kind_begins (number n) r first rest bytes more e occurs = record { which = kind.Number; is = refl; begins = number_byte n r.proper first rest bytes more e occurs }
kind_begins (array ts) r first rest bytes more e occurs = record { which = kind.Array; is = refl; begins = heads first 0xD2 rest (items_key ts ++ more) (sym e ∙ occurs) }
kind_begins (object ms) r first rest bytes more e occurs = record { which = kind.Object; is = refl; begins = heads first 0xD1 rest (members_key ms ++ more) (sym e ∙ occurs) }
kind_begins t r first rest bytes more e occurs = absurd r.within

-- where the keys of a kind begin: the least and the greatest first byte
abbrev least : Kind → ℕ
least kind.Null = 0xD3
least kind.Bool = 0x15
least kind.Number = 0x17
least kind.String = 0xD0
least kind.Array = 0xD2
least kind.Object = 0xD1

abbrev greatest : Kind → ℕ
greatest kind.Null = 0xD3
greatest kind.Bool = 0x16
greatest kind.Number = 0xCF
greatest kind.String = 0xD0
greatest kind.Array = 0xD2
greatest kind.Object = 0xD1

between : (k : Kind) (first : ℕ) → IsFirstByte k first → (least k < first + 1) × (first < greatest k + 1)
between kind.Null first b = (omega (arith, b), omega (arith, b))
between kind.Bool first (inl b) = (omega (arith, b), omega (arith, b))
between kind.Bool first (inr b) = (omega (arith, b), omega (arith, b))
between kind.Number first b = (omega (arith, b.0), omega (arith, b.1))
between kind.String first b = (omega (arith, b), omega (arith, b))
between kind.Array first b = (omega (arith, b), omega (arith, b))
between kind.Object first b = (omega (arith, b), omega (arith, b))

-- the first byte is of one kind alone
within : (j k : Kind) (first : ℕ) → (least j < first + 1) × (first < greatest j + 1) → (least k < first + 1) × (first < greatest k + 1) → j ≡ k
within kind.Null kind.Null first a b = refl
within kind.Null kind.Bool first a b = absurd (omega (arith, a.0, a.1, b.0, b.1))
within kind.Null kind.Number first a b = absurd (omega (arith, a.0, a.1, b.0, b.1))
within kind.Null kind.String first a b = absurd (omega (arith, a.0, a.1, b.0, b.1))
within kind.Null kind.Array first a b = absurd (omega (arith, a.0, a.1, b.0, b.1))
within kind.Null kind.Object first a b = absurd (omega (arith, a.0, a.1, b.0, b.1))
within kind.Bool kind.Null first a b = absurd (omega (arith, a.0, a.1, b.0, b.1))
within kind.Bool kind.Bool first a b = refl
within kind.Bool kind.Number first a b = absurd (omega (arith, a.0, a.1, b.0, b.1))
within kind.Bool kind.String first a b = absurd (omega (arith, a.0, a.1, b.0, b.1))
within kind.Bool kind.Array first a b = absurd (omega (arith, a.0, a.1, b.0, b.1))
within kind.Bool kind.Object first a b = absurd (omega (arith, a.0, a.1, b.0, b.1))
within kind.Number kind.Null first a b = absurd (omega (arith, a.0, a.1, b.0, b.1))
within kind.Number kind.Bool first a b = absurd (omega (arith, a.0, a.1, b.0, b.1))
within kind.Number kind.Number first a b = refl
within kind.Number kind.String first a b = absurd (omega (arith, a.0, a.1, b.0, b.1))
within kind.Number kind.Array first a b = absurd (omega (arith, a.0, a.1, b.0, b.1))
within kind.Number kind.Object first a b = absurd (omega (arith, a.0, a.1, b.0, b.1))
within kind.String kind.Null first a b = absurd (omega (arith, a.0, a.1, b.0, b.1))
within kind.String kind.Bool first a b = absurd (omega (arith, a.0, a.1, b.0, b.1))
within kind.String kind.Number first a b = absurd (omega (arith, a.0, a.1, b.0, b.1))
within kind.String kind.String first a b = refl
within kind.String kind.Array first a b = absurd (omega (arith, a.0, a.1, b.0, b.1))
within kind.String kind.Object first a b = absurd (omega (arith, a.0, a.1, b.0, b.1))
within kind.Array kind.Null first a b = absurd (omega (arith, a.0, a.1, b.0, b.1))
within kind.Array kind.Bool first a b = absurd (omega (arith, a.0, a.1, b.0, b.1))
within kind.Array kind.Number first a b = absurd (omega (arith, a.0, a.1, b.0, b.1))
within kind.Array kind.String first a b = absurd (omega (arith, a.0, a.1, b.0, b.1))
within kind.Array kind.Array first a b = refl
within kind.Array kind.Object first a b = absurd (omega (arith, a.0, a.1, b.0, b.1))
within kind.Object kind.Null first a b = absurd (omega (arith, a.0, a.1, b.0, b.1))
within kind.Object kind.Bool first a b = absurd (omega (arith, a.0, a.1, b.0, b.1))
within kind.Object kind.Number first a b = absurd (omega (arith, a.0, a.1, b.0, b.1))
within kind.Object kind.String first a b = absurd (omega (arith, a.0, a.1, b.0, b.1))
within kind.Object kind.Array first a b = absurd (omega (arith, a.0, a.1, b.0, b.1))
within kind.Object kind.Object first a b = refl

one_kind : (k : Kind) (t : Tree) (first : ℕ) → IsFirstByte k first → KindOf t first → Some k ≡ kind_of_tree t
one_kind k t first is of = ap (λ j. Some j) (within k of.which first (between k first is) (between of.which first of.begins)) ∙ of.is

-- what is found by the byte is the kind
pub same_as_found : (t : Tree) (first : ℕ) → KindOf t first → (result : Option Kind) → MatchOption result ((k : Kind) → IsFirstByte k first → ⊥) (λ k. IsFirstByte k first) → result ≡ kind_of_tree t
same_as_found t first of (Some k) is = one_kind k t first is of
same_as_found t first of None none = absurd (none of.which of.begins)

-- no kind is found exactly where no key begins so
pub no_kind_found : (bytes rest : List ℕ) (first : ℕ) (result : Option Kind) → bytes ≡ first ∷ rest → MatchOption result ((k : Kind) → IsFirstByte k first → ⊥) (λ k. IsFirstByte k first) → (result ≡ None) ↔ BeginsNoKey bytes
no_kind_found bytes rest first (Some k) e is = (λ same. absurd (let never : Some k ≡ None = same in cc), λ none. absurd (none first rest e k is))
no_kind_found bytes rest first None e none = (λ same. λ byte others there k is. none k (subst (IsFirstByte k) (heads byte first others rest (sym there ∙ e)) is), λ begins. refl)

pub no_bytes_begin : (bytes : List ℕ) → length bytes ≡ 0 → BeginsNoKey bytes
no_bytes_begin bytes none first rest e = absurd (omega (arith, none, ap length e))

-- the byte of a boolean is one of two
of_boolean : (b : Bool) (first : ℕ) → first ≡ (if b then 0x16 else 0x15) → (0x14 < first) × (first < 0x17)
of_boolean true first is = (omega (arith, is), omega (arith, is))
of_boolean false first is = (omega (arith, is), omega (arith, is))

-- what is found by the byte is the boolean
pub boolean_as_found : (t : Tree) → IsReadable t → (first : ℕ) (rest bytes more : List ℕ) → bytes ≡ first ∷ rest → bytes ≡ key_of t ++ more → (result : Option Bool)
    → MatchOption result ((first ≢ 0x15) × (first ≢ 0x16)) (λ b. first ≡ (if b then 0x16 else 0x15)) → result ≡ as_boolean t
boolean_as_found (boolean true) r first rest bytes more e occurs (Some true) found = refl
boolean_as_found (boolean true) r first rest bytes more e occurs (Some false) found = absurd (omega (arith, found, heads first 0x16 rest more (sym e ∙ occurs)))
boolean_as_found (boolean true) r first rest bytes more e occurs None found = absurd (found.1 (heads first 0x16 rest more (sym e ∙ occurs)))
boolean_as_found (boolean false) r first rest bytes more e occurs (Some false) found = refl
boolean_as_found (boolean false) r first rest bytes more e occurs (Some true) found = absurd (omega (arith, found, heads first 0x15 rest more (sym e ∙ occurs)))
boolean_as_found (boolean false) r first rest bytes more e occurs None found = absurd (found.0 (heads first 0x15 rest more (sym e ∙ occurs)))
boolean_as_found null r first rest bytes more e occurs None found = refl
boolean_as_found null r first rest bytes more e occurs (Some b) found = absurd (omega (arith, (of_boolean b first found).1, heads first 0xD3 rest more (sym e ∙ occurs)))
boolean_as_found (string mark text) r first rest bytes more e occurs None found = refl
boolean_as_found (string mark text) r first rest bytes more e occurs (Some b) found = absurd (omega (arith, (of_boolean b first found).1, heads first 0xD0 rest (text_key text ++ more) (sym e ∙ occurs)))
boolean_as_found (number n) r first rest bytes more e occurs None found = refl
boolean_as_found (number n) r first rest bytes more e occurs (Some b) found =
    let begun = number_begins n (is_small n r.proper) in
    let is = heads first begun.head rest (begun.tail ++ more) (sym e ∙ occurs ∙ ap (λ key. key ++ more) begun.is) in
    absurd (omega (arith, (of_boolean b first found).1, is, begun.low))
boolean_as_found (array ts) r first rest bytes more e occurs None found = refl
boolean_as_found (array ts) r first rest bytes more e occurs (Some b) found = absurd (omega (arith, (of_boolean b first found).1, heads first 0xD2 rest (items_key ts ++ more) (sym e ∙ occurs)))
boolean_as_found (object ms) r first rest bytes more e occurs None found = refl
boolean_as_found (object ms) r first rest bytes more e occurs (Some b) found = absurd (omega (arith, (of_boolean b first found).1, heads first 0xD1 rest (members_key ms ++ more) (sym e ∙ occurs)))
boolean_as_found t r first rest bytes more e occurs result found = absurd r.within
