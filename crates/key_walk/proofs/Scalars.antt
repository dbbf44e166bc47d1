-- Keys of values that are no arrays and no objects, by their first byte.
use Rattle.std.proofs.Common.{◌≡◌, ◌≢◌, ◌⊎◌, inl, inr, Bool, true, false, ℕ, zero, suc, ◌∷◌, ◌++◌, List, refl, sym, ap, subst, ◌∙◌, arith}
use Rattle.jsonb_spec.specs.SortKey.Readable.{IsReadableAt}
use Rattle.jsonb_spec.specs.SortKey.Open.{IsScalar, Open, items, members, IsOpen, is_object, open_key, opening_byte}
use Rattle.jsonb_spec.specs.SortKey.{key_of, items_key, members_key, text_key}
use Rattle.jsonb_spec.specs.Tree.{Tree, null, boolean, string, number, array, object, Trees, Members}
use Rattle.key_value.proofs.FirstBytes.{one_byte, number_there, array_there, object_there}
use Rattle.key_value.proofs.Signs.{zero_read}
use Rattle.jsonb_core.proofs.SortKeys.Kinds.{is_small, number_begins}
use Rattle.jsonb_core.proofs.Trees.Runs.{heads}

-- what begins with another byte than those of arrays and objects is neither
pub scalar_there : (depth : ℕ) (t : Tree) → IsReadableAt depth t → (first : ℕ) (rest bytes more : List ℕ) → bytes ≡ first ∷ rest → bytes ≡ key_of t ++ more → first ≢ 209 → first ≢ 210 → IsScalar t
scalar_there depth null r first rest bytes more e occurs a b = tt
scalar_there depth (boolean x) r first rest bytes more e occurs a b = tt
scalar_there depth (string mark text) r first rest bytes more e occurs a b = tt
scalar_there depth (number n) r first rest bytes more e occurs a b = tt
scalar_there depth (array ts) r first rest bytes more e occurs a b = absurd (b (heads first 210 rest (items_key ts ++ more) (sym e ∙ occurs)))
scalar_there depth (object ms) r first rest bytes more e occurs a b = absurd (a (heads first 209 rest (members_key ms ++ more) (sym e ∙ occurs)))
scalar_there depth t r first rest bytes more e occurs a b = absurd r.within

-- it begins with another byte than those of arrays and objects
pub scalar_begins : (depth : ℕ) (t : Tree) → IsReadableAt depth t → IsScalar t → (first : ℕ) (rest bytes more : List ℕ) → bytes ≡ first ∷ rest → bytes ≡ key_of t ++ more → (first ≢ 209) × (first ≢ 210)
scalar_begins depth null r s first rest bytes more e occurs = let is = heads first 211 rest more (sym e ∙ occurs) in ((λ h. absurd (omega (arith, is, h))), (λ h. absurd (omega (arith, is, h))))
scalar_begins depth (boolean true) r s first rest bytes more e occurs = let is = heads first 22 rest more (sym e ∙ occurs) in ((λ h. absurd (omega (arith, is, h))), (λ h. absurd (omega (arith, is, h))))
scalar_begins depth (boolean false) r s first rest bytes more e occurs = let is = heads first 21 rest more (sym e ∙ occurs) in ((λ h. absurd (omega (arith, is, h))), (λ h. absurd (omega (arith, is, h))))
scalar_begins depth (string mark text) r s first rest bytes more e occurs = let is = heads first 208 rest (text_key text ++ more) (sym e ∙ occurs) in ((λ h. absurd (omega (arith, is, h))), (λ h. absurd (omega (arith, is, h))))
scalar_begins depth (number n) r s first rest bytes more e occurs =
    let b = number_begins n (is_small n r.proper) in
    let is = heads first b.head rest (b.tail ++ more) (sym e ∙ occurs ∙ ap (λ key. key ++ more) b.is) in
    ((λ h. absurd (omega (arith, is, b.high, h))), (λ h. absurd (omega (arith, is, b.high, h))))
scalar_begins depth (array ts) r s first rest bytes more e occurs = absurd s
scalar_begins depth (object ms) r s first rest bytes more e occurs = absurd s
scalar_begins depth t r s first rest bytes more e occurs = absurd r.within

-- where a key of one byte is
pub word_skipped : (depth : ℕ) (t : Tree) → IsReadableAt depth t → IsScalar t → (first : ℕ) (rest bytes more : List ℕ) → bytes ≡ first ∷ rest → bytes ≡ key_of t ++ more → (first ≡ 21) ⊎ ((first ≡ 22) ⊎ ((first ≡ 128) ⊎ (first ≡ 211))) → rest ≡ more
word_skipped depth t r s first rest bytes more e occurs (inl is) = (one_byte depth t r first rest bytes more e occurs 21 is (λ head low high h. omega (arith, low, h))).1
word_skipped depth t r s first rest bytes more e occurs (inr (inl is)) = (one_byte depth t r first rest bytes more e occurs 22 is (λ head low high h. omega (arith, low, h))).1
word_skipped depth t r s first rest bytes more e occurs (inr (inr (inl is))) =
    let n = number_there depth t r first rest bytes more e occurs (λ h. absurd (omega (arith, is, h))) (λ h. absurd (omega (arith, is, h))) (λ h. absurd (omega (arith, is, h))) (λ h. absurd (omega (arith, is, h))) (λ h. absurd (omega (arith, is, h))) (λ h. absurd (omega (arith, is, h))) in
    zero_read n.0 n.1 first rest bytes more e is n.2
word_skipped depth t r s first rest bytes more e occurs (inr (inr (inr is))) = (one_byte depth t r first rest bytes more e occurs 211 is (λ head low high h. omega (arith, high, h))).1

-- what is left of an array or an object that begins is well-formed one level further in
pub array_open : (ts : Trees) (left : ℕ) → IsReadableAt left (array ts) → (inner : ℕ) × (left ≡ suc inner) × IsOpen (items ts) inner
array_open ts zero r = absurd r.within
array_open ts (suc inner) r = (inner, refl, (r.proper, r.within))

pub object_open : (ms : Members) (left : ℕ) → IsReadableAt left (object ms) → (inner : ℕ) × (left ≡ suc inner) × IsOpen (members ms) inner
object_open ms zero r = absurd r.within
object_open ms (suc inner) r = (inner, refl, (r.proper.1, r.within))

-- what is open behind the first byte of an array or an object
pub record Opened (left : ℕ) (b : Bool) (rest more : List ℕ) : Type 0 where
  pub open_there : Open
  pub is : is_object open_there ≡ b
  pub inner : ℕ
  pub deeper : left ≡ suc inner
  pub fits : IsOpen open_there inner
  pub occurs : rest ≡ open_key open_there ++ more

pub opened : (left : ℕ) (t : Tree) → IsReadableAt left t → (first : ℕ) (rest bytes more : List ℕ) → bytes ≡ first ∷ rest → bytes ≡ key_of t ++ more → (b : Bool) → first ≡ opening_byte b → Opened left b rest more
opened left t r first rest bytes more e occurs true is =
    let x = object_there left t r first rest bytes more e occurs is in
    let o = object_open x.0 left x.1 in
    record { open_there = members x.0; is = refl; inner = o.0; deeper = o.1; fits = o.2; occurs = x.2 }
opened left t r first rest bytes more e occurs false is =
    let x = array_there left t r first rest bytes more e occurs is in
    let o = array_open x.0 left x.1 in
    record { open_there = items x.0; is = refl; inner = o.0; deeper = o.1; fits = o.2; occurs = x.2 }

pub opened_at_top : (o : Open) (inner : ℕ) → 512 ≡ suc inner → IsOpen o inner → IsOpen o 511
opened_at_top o inner deeper h = let same : inner ≡ 511 = omega (arith, deeper) in subst (IsOpen o) same h
