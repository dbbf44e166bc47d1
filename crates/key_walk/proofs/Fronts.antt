-- The first bytes of the keys of names as numbers: how they are made, and that names compare as they do.
use Rattle.std.proofs.Common.{◌≡◌, ◌≢◌, inl, inr, ℕ, zero, suc, ◌+◌, ◌-◌, ◌*◌, ◌/◌, ◌^◌, ◌<◌, ◌≤◌, List, [], ◌∷◌, ◌++◌, get_or, take, drop, length, Ordering, Less, Equal, Greater, nat_cmp, refl, sym, ap, subst, ◌∙◌, arith, append-nil}
use Rattle.std.proofs.Math.Nat.{pow-suc, one-le-pow, mul_assoc, pow-le-pow_right}
use Rattle.std.proofs.Math.Seq.{get_or-append_seam, take-length}
use Rattle.std.proofs.lemmas.Bool.{cases_lt}
use Rattle.std.proofs.lemmas.List.{get_or-append-add, get_or-take, length-append, take-append-drop}
use Rattle.std.proofs.lemmas.Nat.{pow-add, mul-add-lt, div-mul-add}
use Rattle.std.specs.Cmp.{ranks, tied_itself}
use Rattle.std.specs.Cmp.Lexicographic.{slice_cmp, nat_list_cmp_total}
use Rattle.std.specs.Int.{w32, w64, from_be_bytes}
use Rattle.std.specs.Ordering.{ordering_then, MatchOrdering}
use Rattle.jsonb_spec.specs.Order.{bytes_cmp}
use Rattle.jsonb_spec.specs.SortKey.{text_key}
use Rattle.jsonb_core.proofs.SortKeys.Texts.{text_compares, text_key-other}
use Rattle.jsonb_core.proofs.Trees.MembersInOrder.{turned}
use Rattle.jsonb_spec.specs.SortKey.Front.{AreNoZeros, number_of}

abbrev pub AreBytes : List ℕ → Type 0
AreBytes bytes = (k : ℕ) → get_or bytes k 0 < 256

drop_bytes : (n : ℕ) (bytes : List ℕ) → AreBytes bytes → AreBytes (drop n bytes)
drop_bytes zero bytes h k = h k
drop_bytes (suc n) [] h k = omega arith
drop_bytes (suc n) (byte ∷ bytes) h k = drop_bytes n bytes (λ j. h (suc j)) k

-- the key of a name is bytes
pub key_bytes : (name : List ℕ) → AreBytes name → AreBytes (text_key name)
key_bytes [] h zero = omega arith
key_bytes [] h (suc zero) = omega arith
key_bytes [] h (suc (suc k)) = omega arith
key_bytes (zero ∷ name) h zero = omega arith
key_bytes (zero ∷ name) h (suc zero) = omega arith
key_bytes (zero ∷ name) h (suc (suc k)) = key_bytes name (λ j. h (suc j)) k
key_bytes (suc b ∷ name) h k = subst AreBytes (sym (text_key-other b name)) (others (h 0) (key_bytes name (λ j. h (suc j)))) k
  where
    others : suc b < 256 → AreBytes (text_key name) → AreBytes (suc b ∷ text_key name)
    others first rest zero = first
    others first rest (suc j) = rest j

-- ---- numbers of bytes

below_power : (n : ℕ) (bytes : List ℕ) → AreBytes bytes → number_of n bytes < 256 ^ n
unfolding number_of
below_power zero bytes h = omega (arith, one-le-pow 0 256 (omega arith))
below_power (suc n) [] h = omega (arith, one-le-pow (suc n) 256 (omega arith))
below_power (suc n) (byte ∷ bytes) h =
    omega (arith, pow-suc 256 n, mul-add-lt byte (256 ^ n) (number_of n bytes) 256 (h 0) (below_power n bytes (λ k. h (suc k))))

in_order : (n : ℕ) (xs ys : List ℕ) → AreBytes ys → number_of n xs < number_of n ys → bytes_cmp xs ys ≡ Less
unfolding number_of
in_order zero xs ys h l = absurd (omega arith)
in_order (suc n) [] [] h l = absurd (omega arith)
in_order (suc n) [] (y ∷ ys) h l = refl
in_order (suc n) (x ∷ xs) [] h l = absurd (omega arith)
in_order (suc n) (x ∷ xs) (y ∷ ys) h l =
    by_first (nat_cmp x y) refl (ranks x y) (λ m. in_order n xs ys (λ k. h (suc k)) m)
  where
    by_first : (o : Ordering) → nat_cmp x y ≡ o → MatchOrdering o (x < y) (x ≡ y) (y < x) → (number_of n xs < number_of n ys → slice_cmp nat_cmp xs ys ≡ Less) → slice_cmp nat_cmp (x ∷ xs) (y ∷ ys) ≡ Less
    by_first Less e m again = ap (λ o. ordering_then o (slice_cmp nat_cmp xs ys)) e
    by_first Equal e m again =
        ap (λ o. ordering_then o (slice_cmp nat_cmp xs ys)) e ∙ again (omega (arith, ap (λ z. z * 256 ^ n) m))
    by_first Greater e m again = absurd (omega (arith, mul-add-lt y (256 ^ n) (number_of n ys) x m (below_power n ys (λ k. h (suc k)))))

-- bytes whose numbers are the same are the same
same_first : (n : ℕ) (xs ys : List ℕ) → AreBytes xs → AreBytes ys → n ≤ length xs → n ≤ length ys → number_of n xs ≡ number_of n ys → take n xs ≡ take n ys
unfolding number_of
same_first zero xs ys g h a b e = refl
same_first (suc n) [] ys g h a b e = absurd (omega arith)
same_first (suc n) (x ∷ xs) [] g h a b e = absurd (omega arith)
same_first (suc n) (x ∷ xs) (y ∷ ys) g h a b e =
    let first : x ≡ y =
    sym (div-mul-add x (256 ^ n) (number_of n xs) (below_power n xs (λ k. g (suc k))))
    ∙ ap (λ z. z / 256 ^ n) e
    ∙ div-mul-add y (256 ^ n) (number_of n ys) (below_power n ys (λ k. h (suc k))) in
    let rest : number_of n xs ≡ number_of n ys = omega (arith, e, ap (λ z. z * 256 ^ n) first) in
    (λ i. first i ∷ same_first n xs ys (λ k. g (suc k)) (λ k. h (suc k)) (omega arith) (omega arith) rest i)

-- what is behind so many bytes counts for nothing
front_alone : (n : ℕ) (xs ys : List ℕ) → n ≤ length xs → number_of n (xs ++ ys) ≡ number_of n xs
unfolding number_of
front_alone zero xs ys h = refl
front_alone (suc n) [] ys h = absurd (omega arith)
front_alone (suc n) (x ∷ xs) ys h = ap (λ m. x * 256 ^ n + m) (front_alone n xs ys (omega arith))

horner : (k : ℕ) (bytes : List ℕ) → number_of (suc k) bytes ≡ number_of k bytes * 256 + get_or bytes k 0
unfolding number_of
horner zero [] = omega arith
horner zero (byte ∷ bytes) = omega arith
horner (suc k) [] = omega arith
horner (suc k) (byte ∷ bytes) =
    omega (arith, horner k bytes, ap (λ p. byte * p) (pow-suc 256 k), mul_assoc byte (256 ^ k) 256)

none_taken : (bytes : List ℕ) → number_of 0 bytes ≡ 0
unfolding number_of
none_taken bytes = refl

from_bytes : (bytes : List ℕ) → from_be_bytes w64 bytes ≡ number_of 8 bytes
from_bytes bytes =
    omega (arith, none_taken bytes, horner 0 bytes, horner 1 bytes, horner 2 bytes, horner 3 bytes, horner 4 bytes, horner 5 bytes, horner 6 bytes, horner 7 bytes)

no_bytes : (n : ℕ) → number_of n [] ≡ 0
unfolding number_of
no_bytes zero = refl
no_bytes (suc n) = refl

-- those behind the first c count for less
split : (c d n : ℕ) → n ≡ c + d → (bytes : List ℕ) → number_of n bytes ≡ number_of c bytes * 256 ^ d + number_of d (drop c bytes)
unfolding number_of
split zero d n e bytes =
    let same : n ≡ d = omega arith in
    omega (arith, ap (λ k. number_of k bytes) same)
split (suc c) d zero e bytes = absurd (omega arith)
split (suc c) d (suc n) e [] = omega (arith, no_bytes d)
split (suc c) d (suc n) e (byte ∷ bytes) =
    let sum : n ≡ c + d = omega arith in
    let power : 256 ^ n ≡ 256 ^ c * 256 ^ d = ap (λ k. 256 ^ k) sum ∙ pow-add 256 c d in
    omega (arith, split c d n sum bytes, ap (λ p. byte * p) power, mul_assoc byte (256 ^ c) (256 ^ d))

-- only the first n are looked at
pub only_first : (n c : ℕ) (bytes : List ℕ) → n ≤ c → number_of n (take c bytes) ≡ number_of n bytes
unfolding number_of
only_first zero c bytes h = refl
only_first (suc n) zero bytes h = absurd (omega arith)
only_first (suc n) (suc c) [] h = refl
only_first (suc n) (suc c) (byte ∷ bytes) h = ap (λ m. byte * 256 ^ n + m) (only_first n c bytes (omega arith))

power : (d : ℕ) → d < 8 → 2 ^ (8 * d) ≡ 256 ^ d
power zero p = refl
power (suc zero) p = refl
power (suc (suc zero)) p = refl
power (suc (suc (suc zero))) p = refl
power (suc (suc (suc (suc zero)))) p = refl
power (suc (suc (suc (suc (suc zero))))) p = refl
power (suc (suc (suc (suc (suc (suc zero)))))) p = refl
power (suc (suc (suc (suc (suc (suc (suc zero))))))) p = refl
power (suc (suc (suc (suc (suc (suc (suc (suc d)))))))) p = absurd (omega arith)

-- a word of 8 bytes without its low bits has the others
pub word_front : (bytes chunk : List ℕ) (word low count : ℕ) → AreBytes bytes → chunk ≡ take 8 bytes → word ≡ from_be_bytes w64 chunk → low + 8 * count ≡ 64 → 0 < count → word / 2 ^ low ≡ number_of count bytes
word_front bytes chunk word low count h first is bits some =
    let d : ℕ = 8 - count in
    let at : low ≡ 8 * d = omega (arith, bits, some) in
    let all : word ≡ number_of count bytes * 256 ^ d + number_of d (drop count bytes)
    = is ∙ from_bytes chunk ∙ ap (number_of 8) first ∙ only_first 8 8 bytes (omega arith) ∙ split count d 8 (omega (arith, bits)) bytes in
    ap (λ n. word / 2 ^ n) at ∙ ap (λ p. word / p) (power d (omega (arith, some, bits))) ∙ ap (λ w. w / 256 ^ d) all
    ∙ div-mul-add (number_of count bytes) (256 ^ d) (number_of d (drop count bytes)) (below_power d (drop count bytes) (drop_bytes count bytes h))

-- ---- how names compare

then_equal : (q : Ordering) → ordering_then q Equal ≡ q
then_equal Less = refl
then_equal Equal = refl
then_equal Greater = refl

equal_first : (q d : Ordering) → ordering_then q d ≡ Equal → q ≡ Equal
equal_first Less d e = e
equal_first Equal d e = refl
equal_first Greater d e = e

nothing_past : (more : List ℕ) → bytes_cmp [] more ≡ Greater → ⊥
nothing_past [] e = cc
nothing_past (m ∷ more) e = cc

greater_first : (q d : Ordering) → ordering_then q d ≡ Greater → (d ≡ Greater → ⊥) → q ≡ Greater
greater_first Less d e n = e
greater_first Equal d e n = absurd (n e)
greater_first Greater d e n = refl

tied : (x : List ℕ) → bytes_cmp x x ≡ Equal
tied x = tied_itself nat_list_cmp_total x

module _ (name bytes : List ℕ) (count : ℕ) (are_bytes : AreBytes bytes) (within_key : count ≤ length (text_key name)) where
  pub name_below : number_of count (text_key name) < number_of count bytes → (text more : List ℕ) → bytes ≡ text_key text ++ more → Less ≡ bytes_cmp name text
  name_below less text more e =
      let first : bytes_cmp (text_key name ++ more) bytes ≡ Less = in_order count (text_key name ++ more) bytes are_bytes (omega (arith, less, front_alone count (text_key name) more within_key)) in
      sym (sym (then_equal (bytes_cmp name text)) ∙ ap (ordering_then (bytes_cmp name text)) (sym (tied more)) ∙ sym ((text_compares name text).compared more more) ∙ ap (bytes_cmp (text_key name ++ more)) (sym e) ∙ first)

  pub name_above : AreBytes name → number_of count bytes < number_of count (text_key name) → (text more : List ℕ) → bytes ≡ text_key text ++ more → Greater ≡ bytes_cmp name text
  name_above h less text more e =
      let first : bytes_cmp (text_key name) bytes ≡ Greater = turned bytes (text_key name) (in_order count bytes (text_key name) (key_bytes name h) less) in
      sym (greater_first (bytes_cmp name text) (bytes_cmp [] more)
      (sym ((text_compares name text).compared [] more) ∙ ap (λ k. bytes_cmp k (text_key text ++ more)) (append-nil (text_key name)) ∙ ap (bytes_cmp (text_key name)) (sym e) ∙ first)
      (nothing_past more))

  -- the whole key of the name is there
  pub name_there : AreBytes name → count ≤ length bytes → count ≡ length (text_key name) → number_of count bytes ≡ number_of count (text_key name) → bytes ≡ text_key name ++ drop count bytes
  name_there h long whole same =
      let first : take count bytes ≡ text_key name
      = same_first count bytes (text_key name) are_bytes (key_bytes name h) long within_key same ∙ ap (λ n. take n (text_key name)) whole ∙ take-length (text_key name) in
      sym (take-append-drop count bytes) ∙ ap (λ front. front ++ drop count bytes) first

pub name_same : (name bytes rest : List ℕ) → bytes ≡ text_key name ++ rest → (text more : List ℕ) → bytes ≡ text_key text ++ more → Equal ≡ bytes_cmp name text
name_same name bytes rest there text more e =
    sym (equal_first (bytes_cmp name text) (bytes_cmp rest more)
    (sym ((text_compares name text).compared rest more) ∙ ap (λ b. bytes_cmp b (text_key text ++ more)) (sym there) ∙ ap (bytes_cmp bytes) (sym e) ∙ tied bytes))

-- ---- how the number of a name is made

-- so many bytes of the key of the name are a number, and what is left of the name gives the others
pub record FrontSoFar (name left : List ℕ) (number count : ℕ) : Type 0 where
  pub taken : List ℕ
  pub whole : text_key name ≡ taken ++ text_key left
  pub counted : count ≡ length taken
  pub most : count ≤ 8
  pub is : number ≡ number_of count (text_key name)
  pub low : number < 256 ^ count
  pub bytes : AreBytes left
  pub named : name ≡ taken ++ left
  pub plain : AreNoZeros name count

pub front_begun : (name : List ℕ) → AreBytes name → FrontSoFar name name 0 0
front_begun name h = record { taken = []; whole = refl; counted = refl; most = omega arith; is = sym (none_taken (text_key name)); low = omega arith; bytes = h; named = refl; plain = λ k l. absurd (omega (arith, l)) }

first_of : (byte : ℕ) (others : List ℕ) → (rest : List ℕ) × (text_key (byte ∷ others) ≡ byte ∷ rest)
first_of zero others = (255 ∷ text_key others, refl)
first_of (suc b) others = (text_key others, text_key-other b others)

-- the number of one byte more
pub next_number : (name left others : List ℕ) (number count byte : ℕ) → FrontSoFar name left number count → left ≡ byte ∷ others → number * 256 + byte ≡ number_of (count + 1) (text_key name)
next_number name left others number count byte p first =
    let f = first_of byte others in
    let is : text_key name ≡ p.taken ++ byte ∷ f.0 = p.whole ∙ ap (λ l. p.taken ++ text_key l) first ∙ ap (λ l. p.taken ++ l) f.1 in
    let at : get_or (text_key name) count 0 ≡ byte = ap (λ k. get_or k count 0) is ∙ ap (λ n. get_or (p.taken ++ byte ∷ f.0) n 0) p.counted ∙ get_or-append_seam p.taken byte f.0 0 in
    let one : suc count ≡ count + 1 = omega arith in
    omega (arith, horner count (text_key name), at, p.is) ∙ ap (λ n. number_of n (text_key name)) one

pub next_within : (name left others : List ℕ) (number count byte : ℕ) → FrontSoFar name left number count → left ≡ byte ∷ others → count + 1 ≤ length (text_key name)
next_within name left others number count byte p first =
    let f = first_of byte others in
    let is : text_key name ≡ p.taken ++ byte ∷ f.0 = p.whole ∙ ap (λ l. p.taken ++ text_key l) first ∙ ap (λ l. p.taken ++ l) f.1 in
    omega (arith, ap length is, length-append p.taken (byte ∷ f.0), p.counted)

-- what is left begins with a byte
pub byte_fits : (left others : List ℕ) (byte : ℕ) → AreBytes left → left ≡ byte ∷ others → (byte < 256) × AreBytes others
byte_fits left others byte h first =
    let both = subst AreBytes first h in
    (both 0, λ k. both (suc k))

pub next_low : (number count byte : ℕ) → number < 256 ^ count → byte < 256 → number * 256 + byte < 256 ^ (count + 1)
next_low number count byte low small = omega (arith, low, small, pow-suc 256 count, ap (λ n. 256 ^ n) (one count))
  where
    one : (n : ℕ) → suc n ≡ n + 1
    one n = omega arith

-- fewer than 8 bytes and one more fit a word
pub next_fits : (number count byte : ℕ) → number < 256 ^ count → count < 8 → byte < 256 → number * 256 + byte < 2 ^ 64
next_fits number count byte low few small =
    let seven : count ≤ 7 = omega (arith, few) in
    let most : 256 ^ count ≤ 256 ^ 7 = pow-le-pow_right {n = 256} (omega arith) seven in
    omega (arith, low, most, small)

pub front_byte : (name left others : List ℕ) (number count byte : ℕ) → FrontSoFar name left number count → left ≡ byte ∷ others → count < 8 → byte ≢ 0 → FrontSoFar name others (number * 256 + byte) (count + 1)
front_byte name left others number count zero p first few some = absurd (some refl)
front_byte name left others number count (suc b) p first few some = record {
  taken = p.taken ++ suc b ∷ [];
  whole = p.whole ∙ ap (λ l. p.taken ++ text_key l) first ∙ ap (λ l. p.taken ++ l) (text_key-other b others) ∙ moved p.taken;
  counted = omega (arith, p.counted, length-append p.taken (suc b ∷ []));
  most = omega (arith, few);
  is = next_number name left others number count (suc b) p first;
  low = next_low number count (suc b) p.low (byte_fits left others (suc b) p.bytes first).0;
  bytes = (byte_fits left others (suc b) p.bytes first).1;
  named = p.named ∙ ap (λ l. p.taken ++ l) first ∙ moved_name p.taken;
  plain = λ k l. elim (cases_lt k count) [
    | inl low ↦ p.plain k low
    | inr high ↦ λ none. omega (arith, none, ap (λ xs. get_or xs k 0) (p.named ∙ ap (λ l. p.taken ++ l) first), ap (λ n. get_or (p.taken ++ suc b ∷ others) n 0) (at k l high), get_or-append_seam p.taken (suc b) others 0)
  ];
}
  where
    at : (k : ℕ) → k < count + 1 → count ≤ k → k ≡ length p.taken
    at k l high = omega (arith, p.counted, l, high)

    moved_name : (xs : List ℕ) → xs ++ suc b ∷ others ≡ (xs ++ suc b ∷ []) ++ others
    moved_name [] = refl
    moved_name (x ∷ xs) = ap (λ l. x ∷ l) (moved_name xs)

    moved : (xs : List ℕ) → xs ++ suc b ∷ text_key others ≡ (xs ++ suc b ∷ []) ++ text_key others
    moved [] = refl
    moved (x ∷ xs) = ap (λ l. x ∷ l) (moved xs)

-- the name is over, and its key ends with two bytes more
module _ (name left : List ℕ) (number count : ℕ) (p : FrontSoFar name left number count) (over : length left ≡ 0) where
  ended : text_key name ≡ p.taken ++ 0 ∷ 1 ∷ []
  ended = p.whole ∙ ap (λ l. p.taken ++ l) (empty left over)
    where
      empty : (l : List ℕ) → length l ≡ 0 → text_key l ≡ 0 ∷ 1 ∷ []
      empty [] e = refl
      empty (x ∷ xs) e = absurd (omega (arith, e))

  pub whole_size : count + 2 ≡ length (text_key name)
  whole_size = omega (arith, ap length ended, length-append p.taken (0 ∷ 1 ∷ []), p.counted)

  pub whole_number : number * 65536 + 1 ≡ number_of (count + 2) (text_key name)
  whole_number =
      let zero_at : get_or (text_key name) count 0 ≡ 0 = ap (λ k. get_or k count 0) ended ∙ ap (λ n. get_or (p.taken ++ 0 ∷ 1 ∷ []) n 0) p.counted ∙ get_or-append_seam p.taken 0 (1 ∷ []) 0 in
      let next : suc count ≡ length p.taken + 1 = omega (arith, p.counted) in
      let one_at : get_or (text_key name) (suc count) 0 ≡ 1 = ap (λ k. get_or k (suc count) 0) ended ∙ ap (λ n. get_or (p.taken ++ 0 ∷ 1 ∷ []) n 0) next ∙ get_or-append-add p.taken (0 ∷ 1 ∷ []) 1 0 in
      let two : suc (suc count) ≡ count + 2 = omega arith in
      omega (arith, horner count (text_key name), horner (suc count) (text_key name), zero_at, one_at, p.is) ∙ ap (λ n. number_of n (text_key name)) two

  pub whole_fits : count ≤ 6 → number * 65536 + 1 < 2 ^ 64
  whole_fits few =
      let most : 256 ^ count ≤ 256 ^ 6 = pow-le-pow_right {n = 256} (omega arith) few in
      omega (arith, p.low, most)

-- ---- names that begin alike

-- the key of a name has more bytes
key_longer : (name : List ℕ) → length name ≤ length (text_key name)
key_longer [] = omega arith
key_longer (zero ∷ name) = omega (arith, key_longer name)
key_longer (suc b ∷ name) = omega (arith, key_longer name, ap length (text_key-other b name))

-- so many first bytes that aren't zeros are in a key as they are
plain_front : (n : ℕ) (name : List ℕ) → AreNoZeros name n → n ≤ length name → take n (text_key name) ≡ take n name
plain_front zero name h long = refl
plain_front (suc n) [] h long = absurd (omega arith)
plain_front (suc n) (zero ∷ name) h long = absurd (h 0 (omega arith) refl)
plain_front (suc n) (suc b ∷ name) h long =
    ap (take (suc n)) (text_key-other b name) ∙ ap (λ l. suc b ∷ l) (plain_front n name (λ k l. h (suc k) (omega (arith, l))) (omega arith))

four_bytes : (bytes : List ℕ) → 4 ≤ length bytes → from_be_bytes w32 (take 4 bytes) ≡ number_of 4 bytes
unfolding number_of
four_bytes [] long = absurd (omega (arith, long))
four_bytes (a ∷ []) long = absurd (omega (arith, long))
four_bytes (a ∷ b ∷ []) long = absurd (omega (arith, long))
four_bytes (a ∷ b ∷ c ∷ []) long = absurd (omega (arith, long))
four_bytes (a ∷ b ∷ c ∷ d ∷ bytes) long = omega arith

-- the number of 4 bytes of a name, of which none is a zero
pub four_front : (name chunk : List ℕ) (n : ℕ) → AreNoZeros name 4 → 4 ≤ length name → chunk ≡ take 4 name → n ≡ from_be_bytes w32 chunk → (4 ≤ length (text_key name)) × (n ≡ number_of 4 (text_key name))
four_front name chunk n plain long is same =
    let enough : 4 ≤ length (text_key name) = omega (arith, long, key_longer name) in
    (enough, same ∙ ap (from_be_bytes w32) (is ∙ sym (plain_front 4 name plain long)) ∙ four_bytes (text_key name) enough)

pub four_plain : (name chunk : List ℕ) → 4 ≤ length name → chunk ≡ take 4 name → get_or chunk 0 0 ≢ 0 → get_or chunk 1 0 ≢ 0 → get_or chunk 2 0 ≢ 0 → get_or chunk 3 0 ≢ 0 → AreNoZeros name 4
four_plain name chunk long is p q r s = λ k l. subst (λ n. n ≢ 0) (ap (λ bytes. get_or bytes k 0) is ∙ get_or-take 4 name k 0 l) (each k l)
  where
    each : (k : ℕ) → k < 4 → get_or chunk k 0 ≢ 0
    each zero l = p
    each (suc zero) l = q
    each (suc (suc zero)) l = r
    each (suc (suc (suc zero))) l = s
    each (suc (suc (suc (suc k)))) l = absurd (omega (arith, l))

-- what is left of a text and of its key behind bytes that a name begins with too
pub record Alike (n : ℕ) (name bytes text more : List ℕ) : Type 0 where
  pub left : List ℕ
  pub same : bytes_cmp name text ≡ bytes_cmp (drop n name) left
  pub occurs : drop n bytes ≡ text_key left ++ more

itself : (b : ℕ) → nat_cmp b b ≡ Equal
itself b = sym (then_equal (nat_cmp b b)) ∙ tied (b ∷ [])

alike : (n : ℕ) (name bytes text more : List ℕ) → AreNoZeros name n → n ≤ length name → take n bytes ≡ take n name → bytes ≡ text_key text ++ more → Alike n name bytes text more
alike zero name bytes text more h long first e = record { left = text; same = refl; occurs = e }
alike (suc n) [] bytes text more h long first e = absurd (omega arith)
alike (suc n) (zero ∷ name) bytes text more h long first e = absurd (h 0 (omega arith) refl)
alike (suc n) (suc b ∷ name) [] text more h long first e = absurd (omega (arith, ap length first))
alike (suc n) (suc b ∷ name) (x ∷ bytes) [] more h long first e =
    absurd (omega (arith, ap (λ l. get_or l 0 0) first, ap (λ l. get_or l 0 0) e))
alike (suc n) (suc b ∷ name) (x ∷ bytes) (zero ∷ text) more h long first e =
    absurd (omega (arith, ap (λ l. get_or l 0 0) first, ap (λ l. get_or l 0 0) e))
alike (suc n) (suc b ∷ name) (x ∷ bytes) (suc d ∷ text) more h long first e =
    let is : x ∷ bytes ≡ suc d ∷ (text_key text ++ more) = e ∙ ap (λ l. l ++ more) (text_key-other d text) in
    let x_is : x ≡ suc b = ap (λ l. get_or l 0 0) first in
    let d_is : suc b ≡ suc d = omega (arith, x_is, ap (λ l. get_or l 0 0) is) in
    let rest = alike n name bytes text more (λ k l. h (suc k) (omega (arith, l))) (omega arith) (ap (drop 1) first) (ap (drop 1) is) in
    record {
      left = rest.left;
      same = ap (λ y. bytes_cmp (suc b ∷ name) (y ∷ text)) (sym d_is) ∙ ap (λ o. ordering_then o (bytes_cmp name text)) (itself (suc b)) ∙ rest.same;
      occurs = rest.occurs;
    }

-- a name and bytes whose first 8 bytes are the same number
module _ (name bytes : List ℕ) (plain : AreNoZeros name 8) (long : 8 ≤ length name) (are_bytes : AreBytes bytes) (name_bytes : AreBytes name) (enough : 8 ≤ length bytes) (same : number_of 8 bytes ≡ number_of 8 (text_key name)) where
  first_same : take 8 bytes ≡ take 8 name
  first_same =
      let longer : 8 ≤ length (text_key name) = omega (arith, long, key_longer name) in
      same_first 8 bytes (text_key name) are_bytes (key_bytes name name_bytes) enough longer same ∙ plain_front 8 name plain long

  pub alike_behind : (order : Ordering) → ((text more : List ℕ) → drop 8 bytes ≡ text_key text ++ more → order ≡ bytes_cmp (drop 8 name) text) → (text more : List ℕ) → bytes ≡ text_key text ++ more → order ≡ bytes_cmp name text
  alike_behind order compares text more e =
      let a = alike 8 name bytes text more plain long first_same e in
      compares a.left more a.occurs ∙ sym a.same

  pub no_end_first : (tail : List ℕ) → bytes ≡ 0 ∷ 0 ∷ tail → ⊥
  no_end_first tail e = plain 0 (omega arith) (sym (begins name long (sym first_same ∙ ap (take 8) e)))
    where
      begins : (l : List ℕ) → 8 ≤ length l → take 8 l ≡ take 8 (0 ∷ 0 ∷ tail) → 0 ≡ get_or l 0 0
      begins [] h s = absurd (omega arith)
      begins (y ∷ l) h s = sym (ap (λ k. get_or k 0 0) s)

-- one byte more that is no zero
pub one_more : (name : List ℕ) (n : ℕ) → AreNoZeros name n → get_or name n 0 ≢ 0 → AreNoZeros name (suc n)
one_more name n plain last = λ k l. elim (cases_lt k n) [
  | inl low ↦ plain k low
  | inr high ↦ subst (λ i. get_or name i 0 ≢ 0) (omega (arith, l, high)) last
]
