-- The keys of numbers in range, checked with no number made.
use Rattle.std.proofs.Common.{◌≡◌, ◌≢◌, ℕ, zero, suc, ◌+◌, ◌-◌, ◌*◌, ◌/◌, ◌%◌, ◌^◌, ◌<◌, ◌≤◌, ◌⊎◌, ◌↔◌, inl, inr, Bool, true, false, List, ◌∷◌, ◌++◌, length, map, Option, Some, None, MatchOption, refl, sym, ap, subst, ◌∙◌, arith, append_assoc}
use Rattle.std.proofs.Math.Nat.{mul-lt-mul_of_pos_right, pow-zero}
use Rattle.std.proofs.lemmas.Bool.{cases_lt, cases_eq}
use Rattle.std.proofs.lemmas.List.{map-append}
use Rattle.std.proofs.lemmas.Nat.{pow-add}
use Rattle.std.proofs.lemmas.Cmp.{nat_list_cmp_total, tied_itself}
use Rattle.std.proofs.lemmas.Map.Lookups.{exact_bytes}
use Rattle.std.specs.Int.{w128}
use Rattle.std.specs.Bool.{nat_lt}
use Rattle.std.specs.Borrow.{Bor}
use Rattle.std.specs.Prelude.{FitsSigned}
use Rattle.std.specs.Ordering.{ordering_then}
use Rattle.std.specs.declared.cmp.Ordering.{Ordering}
use Rattle.std.specs.declared.cmp.Ordering.TheVariants.{Less, Equal, Greater}
use Rattle.jsonb_spec.specs.SortKey.Reading.{IsLastPair, ReadsDigits}
use Rattle.key_value.proofs.Exact.{DigitsRead, none_read, one_pair_read, last_pair_read, first_digit, digit_there, up_key, down_key}
use Rattle.key_value.proofs.Numbers.{digits_begun, last_none, last_some, pair_read, pair_small, not_over}
use Rattle.key_value.proofs.Signs.{IsSigned, signed_read}
use Rattle.key_walk.specs.Frames.{NumberFirst, DigitsFirst}
use Rattle.jsonb_spec.specs.Number.Signed.{signed_by}
use Rattle.jsonb_spec.specs.Order.{bytes_cmp, num_cmp}
use Rattle.jsonb_spec.specs.SortKey.{number_key, exponent_key, digits_key, invert_if}
use Rattle.jsonb_spec.specs.Text.Range.{HasFewDigits}
use Rattle.jsonb_spec.specs.Tree.{Num, decimal128}
use Rattle.jsonb_core.proofs.Numbers.Nearest.{unsigned_abs-signed}
use Rattle.jsonb_core.proofs.SortKeys.Counts.{power_le}
use Rattle.jsonb_core.proofs.SortKeys.Digits.{ten}
use Rattle.jsonb_core.proofs.SortKeys.Kinds.{is_small}
use Rattle.jsonb_core.proofs.SortKeys.Numbers.{numbers_compare}
use Rattle.jsonb_core.proofs.Trees.Runs.{heads}

-- ---- digits

-- some digits were read
pub record SomeRead (negative : Bool) (bytes : List ℕ) (count : ℕ) (rest : List ℕ) : Type 0 where
  pub digits : ℕ
  pub read : DigitsRead negative bytes digits count rest
  pub reads : ReadsDigits negative bytes digits count rest

pub begun : (negative : Bool) (bytes : List ℕ) → SomeRead negative bytes 0 bytes
begun negative bytes = record { digits = 0; read = none_read negative bytes; reads = digits_begun negative bytes }

pub pair_passed : (negative : Bool) (bytes : List ℕ) (count : ℕ) (rest others : List ℕ) (byte b : ℕ) → SomeRead negative bytes count rest → rest ≡ byte ∷ others → byte < 256 → b ≡ invert_if negative byte → b % 2 ≢ 0 → b ≤ 199 → SomeRead negative bytes (count + 2) others
pair_passed negative bytes count rest others byte b so_far first fits is odd small =
    let now = so_far.digits * 100 + b / 2 in record {
      digits = now;
      read = one_pair_read negative bytes so_far.digits count rest others byte b (b / 2) now so_far.read first fits is refl odd (omega (arith, small)) refl;
      reads = λ C M below some high few more e.
          pair_read negative bytes so_far.digits count rest byte others b so_far.reads first is C M below some high few more e odd (b / 2) now (count + 2) refl refl refl;
    }

-- the digits with the last pair
last_is : (digits pair last : ℕ) → pair < 100 → ((last ≡ 1) × (pair % 10 ≡ 0) × (0 < pair)) ⊎ ((last ≡ 2) × (0 < pair % 10)) → (all : ℕ) × IsLastPair digits pair all last
last_is digits pair last small (inl t) = (
  digits * 10 + pair / 10,
  record {
    below = small;
    taken = inr (t.0, t.1, refl);
    whole = omega (arith, ap (λ k. (digits * 100 + pair) * 10 ^ k) t.0, t.1);
    few = omega (arith, t.0);
    one = λ e. t.0;
    not_zero = λ e. absurd (omega (arith, e, t.1, t.2, small));
  },
)
last_is digits pair last small (inr t) = (
  digits * 100 + pair,
  record {
    below = small;
    taken = inl (t.0, refl);
    whole = omega (arith, ap (λ k. (digits * 100 + pair) * 10 ^ k) t.0);
    few = omega (arith, t.0);
    one = λ e. absurd (omega (arith, e, t.1));
    not_zero = λ e. absurd (omega (arith, e, t.1));
  },
)

pub digits_end : (negative : Bool) (bytes : List ℕ) (count : ℕ) (rest others : List ℕ) (byte b last first : ℕ) (tail : List ℕ) → SomeRead negative bytes count rest → rest ≡ byte ∷ others → byte < 256 → b ≡ invert_if negative byte → b % 2 ≡ 0 → b ≤ 199 → ((last ≡ 1) × (b / 2 % 10 ≡ 0) × (0 < b / 2)) ⊎ ((last ≡ 2) × (0 < b / 2 % 10))
    → bytes ≡ first ∷ tail → 20 ≤ invert_if negative first → DigitsFirst negative bytes (count + last) others
digits_end negative bytes count rest others byte b last first tail so_far e fits is even small pair head high =
    let p = last_is so_far.digits (b / 2) last (omega (arith, small)) pair in
    let read = last_pair_read negative bytes so_far.digits count rest others byte b (b / 2) p.0 last so_far.read e fits is refl even p.1 in
    record { digits = p.0; below = read.1; least = first_digit negative (count + last) p.0 first bytes tail others (some p.0 p.1.not_zero) read.1 read.0 head high; occurs = read.0 }
  where
    some : (all : ℕ) → all % 10 ≢ 0 → 0 < all
    some zero h = absurd (h refl)
    some (suc all) h = omega arith

-- ---- digits of a number in range

fits_all : (C M : ℕ) → C ≤ 38 → M < 10 ^ C → 10 ^ C ≤ M * 10 → (0 < M) × (M ≤ 2 ^ 127)
fits_all C M few below least = (omega (arith, least, ten C), omega (arith, below, power_le C 38 few))

-- What is reported of any number's digits holds: the count and the rest are those of the number whose digits are first.
abbrev pub ReportsAll : Bool → List ℕ → Option (ℕ × Bor (List ℕ)) → Type 0
ReportsAll negative bytes result = (C M : ℕ) → C ≤ 38 → M < 10 ^ C → 10 ^ C ≤ M * 10 → (more : List ℕ) → bytes ≡ map (invert_if negative) (digits_key C M) ++ more → MatchOption result ⊥ (λ r. (r.0 ≤ C) × (r.1.now ≡ more))

pub all_over : (negative : Bool) (bytes : List ℕ) (count : ℕ) (rest : List ℕ) → SomeRead negative bytes count rest → length rest ≡ 0 → ReportsAll negative bytes None
all_over negative bytes count rest so_far none C M few below least more e =
    let f = fits_all C M few below least in
    not_over negative bytes so_far.digits count rest so_far.reads none C M below f.0 f.1 (omega (arith, few)) more e

pub all_low : (negative : Bool) (bytes : List ℕ) (first : ℕ) (rest : List ℕ) → bytes ≡ first ∷ rest → invert_if negative first < 20 → ReportsAll negative bytes None
all_low negative bytes first rest at low C M few below least more e =
    digit_there negative C M bytes more (fits_all C M few below least).0 below least e (λ byte others is. subst (λ b. invert_if negative b < 20) (heads first byte rest others (sym at ∙ is)) low)

pub all_large : (negative : Bool) (bytes : List ℕ) (count : ℕ) (rest others : List ℕ) (byte b : ℕ) → SomeRead negative bytes count rest → rest ≡ byte ∷ others → b ≡ invert_if negative byte → 199 < b → ReportsAll negative bytes None
all_large negative bytes count rest others byte b so_far at is large C M few below least more e =
    let f = fits_all C M few below least in
    elim (cases_eq (b % 2) 0) [
      | inl even ↦ last_none negative bytes so_far.digits count rest byte others b so_far.reads at is C M below f.0 f.1 (omega (arith, few)) more e even (b / 2) refl (inr (inl (omega (arith, large))))
      | inr odd ↦ omega (arith, large, pair_small negative bytes so_far.digits count rest byte others b so_far.reads at is C M below f.0 f.1 (omega (arith, few)) more e odd (b / 2) refl)
    ]

pub all_zeros : (negative : Bool) (bytes : List ℕ) (count : ℕ) (rest others : List ℕ) (byte b : ℕ) → SomeRead negative bytes count rest → rest ≡ byte ∷ others → b ≡ invert_if negative byte → b % 2 ≡ 0 → b / 2 ≡ 0 → ReportsAll negative bytes None
all_zeros negative bytes count rest others byte b so_far at is even none C M few below least more e =
    let f = fits_all C M few below least in
    last_none negative bytes so_far.digits count rest byte others b so_far.reads at is C M below f.0 f.1 (omega (arith, few)) more e even (b / 2) refl (inl none)

pub all_many : (negative : Bool) (bytes : List ℕ) (count : ℕ) (rest others : List ℕ) (byte b : ℕ) → SomeRead negative bytes count rest → rest ≡ byte ∷ others → b ≡ invert_if negative byte → b % 2 ≢ 0 → count % 2 ≡ 0 → 34 < count → ReportsAll negative bytes None
all_many negative bytes count rest others byte b so_far at is odd even many C M few below least more e =
    let f = fits_all C M few below least in
    let d = pair_read negative bytes so_far.digits count rest byte others b so_far.reads at is C M below f.0 f.1 (omega (arith, few)) more e odd (b / 2) (so_far.digits * 100 + b / 2) (count + 2) refl refl refl in
    left d.left d.tail d.counted d.below d.some
  where
    left : (l tail : ℕ) → count + 2 + l ≡ C → tail < 10 ^ l → 0 < tail → ⊥
    left zero tail counted below some = omega (arith, below, some, pow-zero 10)
    left (suc l) tail counted below some = omega (arith, counted, few, many, even)

pub all_reported : (negative : Bool) (bytes : List ℕ) (count : ℕ) (rest : List ℕ) (others : Bor (List ℕ)) (byte b last : ℕ) → SomeRead negative bytes count rest → rest ≡ byte ∷ others.now → b ≡ invert_if negative byte → b % 2 ≡ 0 → b ≤ 199 → ((last ≡ 1) × (b / 2 % 10 ≡ 0) × (0 < b / 2)) ⊎ ((last ≡ 2) × (0 < b / 2 % 10)) → ReportsAll negative bytes (Some (count + last, others))
all_reported negative bytes count rest others byte b last so_far at is even small pair C M few below least more e =
    let f = fits_all C M few below least in
    let p = last_is so_far.digits (b / 2) last (omega (arith, small)) pair in
    let reported = last_some negative bytes so_far.digits count rest byte others.now b so_far.reads at is C M below f.0 f.1 (omega (arith, few)) more e even (b / 2) p.0 last refl p.1 in
    (reported.0.fewer, reported.1)

-- ---- the number

wide : (b : Bool) (m : ℕ) → m < 10 ^ 38 → FitsSigned w128 (signed_by b m)
wide false m h = record { sfits = omega arith }
wide true zero h = record { sfits = omega arith }
wide true (suc m) h = record { sfits = omega arith }

joined : (sign : Bool) (exponent digits more bytes key rest : List ℕ) → bytes ≡ map (invert_if sign) exponent ++ rest → rest ≡ map (invert_if sign) digits ++ more → key ≡ map (invert_if sign) (exponent ++ digits) → bytes ≡ key ++ more
joined sign exponent digits more bytes key rest e f is =
    e ∙ ap (λ bs. map (invert_if sign) exponent ++ bs) f ∙ sym (append_assoc (map (invert_if sign) exponent) (map (invert_if sign) digits) more)
    ∙ ap (λ bs. bs ++ more) (sym (map-append (invert_if sign) exponent digits) ∙ sym is)

pub number_there : (sign : Bool) (exponent count : ℕ) (bytes rest more : List ℕ) → bytes ≡ map (invert_if sign) (exponent_key exponent) ++ rest → (d : DigitsFirst sign rest count more) → count ≤ 38 → exponent ≤ 293 → 255 + count ≤ exponent + 38 → NumberFirst bytes more
number_there sign exponent count bytes rest more e d few near far = elim (cases_lt exponent (255 + count)) [
  | inl low ↦
      let small : d.digits < 10 ^ 38 = omega (arith, d.below, power_le count 38 few) in
      let n : Num = record { form = decimal128; scale = (255 + count) - exponent; whole = signed_by sign d.digits } in
      record {
        value = n;
        proper = (omega (arith, far), wide sign d.digits small);
        in_range = (omega (arith, far), omega (arith, small, unsigned_abs-signed sign d.digits));
        occurs = joined sign (exponent_key exponent) (digits_key count d.digits) more bytes (number_key n) rest e d.occurs
            (down_key n sign ((255 + count) - exponent) d.digits count exponent refl refl refl (omega (arith, low)) some d.below d.least (omega (arith, small)));
      }
  | inr high ↦
      let k = exponent - (255 + count) in
      let up = d.digits * 10 ^ k in
      let power : 10 ^ (count + k) ≡ 10 ^ count * 10 ^ k = pow-add 10 count k in
      let less : up < 10 ^ (count + k) = omega (arith, power, mul-lt-mul_of_pos_right d.below (ten k)) in
      let small : up < 10 ^ 38 = omega (arith, less, power_le (count + k) 38 (omega (arith, near, high))) in
      let n : Num = record { form = decimal128; scale = 0; whole = signed_by sign up } in
      record {
        value = n;
        proper = (omega arith, wide sign up small);
        in_range = (omega arith, omega (arith, small, unsigned_abs-signed sign up));
        occurs = joined sign (exponent_key exponent) (digits_key count d.digits) more bytes (number_key n) rest e d.occurs
            (up_key n sign d.digits count exponent (10 ^ k) up refl refl refl refl high some d.below d.least (omega (arith, small)));
      }
]
  where
    some : 0 < d.digits
    some = omega (arith, d.least, ten count)

-- ---- where it ends

first_ties : (r s : Ordering) → ordering_then r s ≡ Equal → (r ≡ Equal) × (s ≡ Equal)
first_ties Less s e = cc e
first_ties Equal s e = (refl, e)
first_ties Greater s e = cc e

one_end : (bytes rest more : List ℕ) → NumberFirst bytes rest → NumberFirst bytes more → rest ≡ more
one_end bytes rest more m n =
    let compared = (numbers_compare m.value n.value (is_small m.value m.proper) (is_small n.value n.proper)).compared rest more in
    let same : number_key m.value ++ rest ≡ number_key n.value ++ more = sym m.occurs ∙ n.occurs in
    exact_bytes rest more (first_ties (num_cmp m.value n.value) (bytes_cmp rest more)
    (sym compared ∙ ap (bytes_cmp (number_key m.value ++ rest)) (sym same) ∙ tied_itself nat_list_cmp_total (number_key m.value ++ rest))).1

pub number_ends : (bytes rest : List ℕ) → NumberFirst bytes rest → (more : List ℕ) → (rest ≡ more) ↔ NumberFirst bytes more
number_ends bytes rest m more = (λ e. subst (NumberFirst bytes) e m, λ n. one_end bytes rest more m n)

-- ---- whether one is there

-- what is first where the key of a number in range is
pub number_read : (first : ℕ) (rest bytes more : List ℕ) → bytes ≡ first ∷ rest → ((tail : List ℕ) → bytes ≢ 128 ∷ tail) → (n : NumberFirst bytes more) → IsSigned n.value (nat_lt first 128) bytes more
number_read first rest bytes more at not_zero n = signed_read n.value n.proper first rest bytes more at (λ is. not_zero rest (at ∙ ap (λ b. b ∷ rest) is)) n.occurs

pub few_digits : (n : Num) (sign : Bool) (bytes more : List ℕ) (s : IsSigned n sign bytes more) → HasFewDigits n → s.count ≤ 38
few_digits n sign bytes more s few = elim (cases_lt s.count 39) [
  | inl less ↦ omega (arith, less)
  | inr many ↦ absurd (omega (arith, s.least, few.1, power_le 39 s.count many))
]
