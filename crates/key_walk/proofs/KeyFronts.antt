-- The fronts of keys of names, and how such keys compare with bytes.
use Rattle.std.proofs.Common.{◌≡◌, ℕ, zero, suc, ◌<◌, ◌≤◌, List, [], ◌∷◌, ◌++◌, get_or, take, drop, length, Ordering, Less, Equal, Greater, refl, sym, ap, subst, ◌∙◌, arith, append-nil, length-append}
use Rattle.std.proofs.lemmas.List.{length-take-le, take-append-drop}
use Rattle.std.proofs.Math.Seq.{drop-append_seam}
use Rattle.std.specs.Cmp.{tied_itself}
use Rattle.std.specs.Cmp.Lexicographic.{nat_list_cmp_total}
use Rattle.std.specs.FinMap.{nat_cmp-IsAntisymmetric, slice_cmp-IsAntisymmetric}
use Rattle.std.specs.Ordering.{nat_cmp, ordering_then}
use Rattle.jsonb_spec.specs.Order.{bytes_cmp}
use Rattle.jsonb_spec.specs.SortKey.{text_key}
use Rattle.jsonb_core.proofs.SortKeys.Texts.{text_compares, text_key-other}
use Rattle.key_value.proofs.FirstBytes.{no_pair}
use Rattle.key_walk.proofs.Fronts.{AreBytes}
use Rattle.jsonb_spec.specs.SortKey.Front.{number_of}

-- a name is bytes where its key is
pub name_bytes : (name : List ℕ) → AreBytes (text_key name) → AreBytes name
name_bytes [] h k = omega arith
name_bytes (zero ∷ name) h zero = omega arith
name_bytes (zero ∷ name) h (suc k) = name_bytes name (λ j. h (suc (suc j))) k
name_bytes (suc b ∷ name) h k =
    let all : AreBytes (suc b ∷ text_key name) = subst AreBytes (text_key-other b name) h in
    both (all 0) (name_bytes name (λ i. all (suc i))) k
  where
    both : suc b < 256 → AreBytes name → AreBytes (suc b ∷ name)
    both first others zero = first
    both first others (suc j) = others j

-- the first byte as a number
pub first_number : (bytes : List ℕ) (size : ℕ) → 0 < size → number_of 1 (take size bytes) ≡ get_or bytes 0 0
unfolding number_of
first_number [] zero h = absurd (omega (arith, h))
first_number [] (suc size) h = refl
first_number (b ∷ bytes) zero h = absurd (omega (arith, h))
first_number (b ∷ bytes) (suc size) h = omega arith

pub some_taken : (bytes : List ℕ) (size : ℕ) → 0 < size → 0 < length bytes → 1 ≤ length (take size bytes)
some_taken bytes zero h some = absurd (omega (arith, h))
some_taken [] (suc size) h some = absurd (omega (arith, some))
some_taken (b ∷ bytes) (suc size) h some = omega arith

-- ---- how keys compare

then_assoc : (p q r : Ordering) → ordering_then p (ordering_then q r) ≡ ordering_then (ordering_then p q) r
then_assoc Less q r = refl
then_assoc Equal q r = refl
then_assoc Greater q r = refl

-- of lists that begin with as many, the first ones decide
as_long : (a b x y : List ℕ) → length a ≡ length b → bytes_cmp (a ++ x) (b ++ y) ≡ ordering_then (bytes_cmp a b) (bytes_cmp x y)
as_long [] [] x y e = refl
as_long [] (d ∷ b) x y e = absurd (omega (arith, e))
as_long (c ∷ a) [] x y e = absurd (omega (arith, e))
as_long (c ∷ a) (d ∷ b) x y e = ap (ordering_then (nat_cmp c d)) (as_long a b x y (omega (arith, e))) ∙ then_assoc (nat_cmp c d) (bytes_cmp a b) (bytes_cmp x y)

then_equal : (q : Ordering) → ordering_then q Equal ≡ q
then_equal Less = refl
then_equal Equal = refl
then_equal Greater = refl

-- the second one decides nothing
first_decides : (q r : Ordering) → (q ≡ Equal → r ≡ Equal) → ordering_then q r ≡ q
first_decides Less r h = refl
first_decides Equal r h = h refl
first_decides Greater r h = refl

pub same_names : (k l : List ℕ) → bytes_cmp k l ≡ Equal → k ≡ l
same_names k l e = slice_cmp-IsAntisymmetric nat_cmp-IsAntisymmetric k l e

module _ (key bytes name : List ℕ) (is : key ≡ text_key name) where
  -- the bytes are fewer than the key
  pub few_compare : length bytes < length key → (text more : List ℕ) → bytes ≡ text_key text ++ more → bytes_cmp key bytes ≡ bytes_cmp name text
  few_compare few text more e =
      (λ i. bytes_cmp ((is ∙ sym (append-nil (text_key name))) i) (e i)) ∙ (text_compares name text).compared [] more
      ∙ first_decides (bytes_cmp name text) (bytes_cmp [] more) (λ same. absurd (omega (arith, few, ap length is, ap length e, length-append (text_key text) more, ap (λ n. length (text_key n)) (same_names name text same))))

  pub few_not_over : length bytes < length key → bytes_cmp key bytes ≡ Equal → (tail : List ℕ) → bytes ≡ 0 ∷ 0 ∷ tail → ⊥
  few_not_over few same tail over = omega (arith, few, ap length (same_names key bytes same))

  -- of more bytes the first ones are compared with it
  module _ (first : List ℕ) (front : first ≡ take (length key) bytes) (long : length key ≤ length bytes) where
    abbrev behind : List ℕ
    behind = drop (length key) bytes

    whole : bytes ≡ first ++ behind
    whole = sym (take-append-drop (length key) bytes) ∙ ap (λ f. f ++ behind) (sym front)

    size : length key ≡ length first
    size = sym (ap length front ∙ length-take-le (length key) bytes long)

    pub first_compare : (text more : List ℕ) → bytes ≡ text_key text ++ more → bytes_cmp key first ≡ bytes_cmp name text
    first_compare text more e =
        sym (as_long key first behind behind size ∙ ap (ordering_then (bytes_cmp key first)) (tied_itself nat_list_cmp_total behind) ∙ then_equal (bytes_cmp key first))
        ∙ (λ i. bytes_cmp (is i ++ behind) ((sym whole ∙ e) i)) ∙ (text_compares name text).compared behind more
        ∙ first_decides (bytes_cmp name text) (bytes_cmp behind more) (λ same. ap (λ b. bytes_cmp b more) (rest_is text more e same) ∙ tied_itself nat_list_cmp_total more)
      where
        rest_is : (text more : List ℕ) → bytes ≡ text_key text ++ more → bytes_cmp name text ≡ Equal → behind ≡ more
        rest_is text more e same =
            let one : key ≡ text_key text = is ∙ ap text_key (same_names name text same) in
            ap (λ n. drop n bytes) (ap length one) ∙ ap (drop (length (text_key text))) e ∙ drop-append_seam (text_key text) more

    pub first_not_over : bytes_cmp key first ≡ Equal → (tail : List ℕ) → bytes ≡ 0 ∷ 0 ∷ tail → ⊥
    first_not_over same tail over =
        no_pair name behind bytes tail over (whole ∙ ap (λ f. f ++ behind) (sym (same_names key first same) ∙ is))
