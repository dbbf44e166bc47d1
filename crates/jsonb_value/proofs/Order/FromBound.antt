-- The members of a map from a bound on: after the first of them come the others.
use Rattle.std.proofs.Common.{◌≡◌, List, [], ◌∷◌, ◌++◌, Bool, ◌&&◌, Option, Some, None, MatchOption, true, false, Less, Equal, Greater, Ordering, String, Global, string_cmp, ⊎_elim, refl, ap, sym, ◌∙◌, rules}
use Rattle.std.proofs.lemmas.Cmp.{tied_itself}
use Rattle.std.proofs.lemmas.Bool.{cases_Bool, cond-true, cond-false}
use Rattle.std.specs.List.{AllByRecursion}
use Rattle.std.specs.List.Sorted.{IsStrictlySortedBy}
use Rattle.std.specs.Map.{keys_of}
use Rattle.std.specs.BTreeMap.Range.{range_contains}
use Rattle.std.specs.Ordering.{is_lt, is_le, ordering_reverse}
use Rattle.std.specs.String.{string_cmp_total}
use Rattle.std.specs.declared.ops.Bound.{Bound}
use Rattle.std.specs.declared.ops.Bound.TheVariants.{Included, Excluded, Unbounded}
use Rattle.jsonb_value.specs.Order.Bounds.{from_bound}
use Rattle.jsonb_value.proofs.Values.Members.{Entry}

-- whether a bound lets a key in
abbrev lets_in : Bound (String Global) → String Global → Bool
lets_in start k = range_contains string_cmp start Unbounded k

-- each key is past this one
abbrev ArePast : String Global → List Entry → Type 0
ArePast k es = AllByRecursion (λ q. string_cmp k q ≡ Less) (keys_of es)

is_less : (r : Ordering) → (is_lt r && true) ≡ true → r ≡ Less
is_less Less h = refl
is_less Equal h = absurd (search rules)
is_less Greater h = absurd (search rules)

-- what stays in past a key that is let in
stays : (start : Bound (String Global)) (k q : String Global) → lets_in start k ≡ true → string_cmp k q ≡ Less → lets_in start q ≡ true
stays Unbounded k q h p = refl
stays (Excluded a) k q h p = ap (λ r. is_lt r && true) (string_cmp_total.trans a k q (is_less (string_cmp a k) h) p)
stays (Included a) k q h p = by_order (string_cmp a k) refl
  where
    by_order : (r : Ordering) → string_cmp a k ≡ r → lets_in (Included a) q ≡ true
    by_order Less e = ap (λ r. is_le r && true) (string_cmp_total.trans a k q e p)
    by_order Equal e = ap (λ r. is_le r && true) (string_cmp_total.congr a k q e ∙ p)
    by_order Greater e = absurd (search rules)

let_in : (start : Bound (String Global)) (e : Entry) (es : List Entry) → lets_in start e.0 ≡ true → from_bound start (e ∷ es) ≡ e ∷ from_bound start es
let_in start e es h = cond-true _ _ _ h

left_out : (start : Bound (String Global)) (e : Entry) (es : List Entry) → lets_in start e.0 ≡ false → from_bound start (e ∷ es) ≡ from_bound start es
left_out start e es h = cond-false _ _ _ h

all_within : (start : Bound (String Global)) (k : String Global) → lets_in start k ≡ true → (es : List Entry) → ArePast k es → from_bound start es ≡ es
all_within start k h [] p = refl
all_within start k h (e ∷ es) p = let_in start e es (stays start k e.0 h p.0) ∙ ap (λ more. e ∷ more) (all_within start k h es p.1)

-- past a key are all whose keys are past it
past_key : (k : String Global) (es : List Entry) → ArePast k es → from_bound (Excluded k) es ≡ es
past_key k [] p = refl
past_key k (e ∷ es) p = let_in (Excluded k) e es (ap (λ r. is_lt r && true) p.0) ∙ ap (λ more. e ∷ more) (past_key k es p.1)

pub from_unbounded : (es : List Entry) → from_bound Unbounded es ≡ es
from_unbounded [] = refl
from_unbounded (e ∷ es) = ap (λ more. e ∷ more) (from_unbounded es)

abbrev head_of : Entry → List Entry → Entry
head_of d [] = d
head_of d (e ∷ es) = e

abbrev tail_of : List Entry → List Entry
tail_of [] = []
tail_of (e ∷ es) = es

-- the key of what a bound leaves is past each key before
first_is_past : (start : Bound (String Global)) (k : String Global) (es : List Entry) (e : Entry) (more : List Entry) → ArePast k es → from_bound start es ≡ e ∷ more → string_cmp k e.0 ≡ Less
first_is_past start k [] e more p h = absurd (search rules)
first_is_past start k (x ∷ es) e more p h = ⊎_elim
    (λ b. ap (λ l. string_cmp k (head_of e l).0) (sym h ∙ let_in start x es b) ∙ p.0)
    (λ b. first_is_past start k es e more p.1 (sym (left_out start x es b) ∙ h))
    (cases_Bool (lets_in start x.0))

not_past : (k q : String Global) → string_cmp k q ≡ Less → lets_in (Excluded q) k ≡ false
not_past k q p = ap (λ r. is_lt r && true) (string_cmp_total.antisymm q k ∙ ap ordering_reverse p)

not_past_itself : (k : String Global) → lets_in (Excluded k) k ≡ false
not_past_itself k = ap (λ r. is_lt r && true) (tied_itself string_cmp_total k)

pub past_first : (start : Bound (String Global)) (es : List Entry) (e : Entry) (more : List Entry) → IsStrictlySortedBy string_cmp (keys_of es) → from_bound start es ≡ e ∷ more → from_bound (Excluded e.0) es ≡ more
unfolding IsStrictlySortedBy
past_first start [] e more s h = absurd (search rules)
past_first start (x ∷ es) e more s h = ⊎_elim
    (λ b.
    let is : x ∷ from_bound start es ≡ e ∷ more = sym (let_in start x es b) ∙ h in
    ap (λ l. from_bound (Excluded (head_of x l).0) (x ∷ es)) (sym is)
    ∙ left_out (Excluded x.0) x es (not_past_itself x.0) ∙ past_key x.0 es s.0
    ∙ sym (all_within start x.0 b es s.0) ∙ ap tail_of is)
    (λ b.
    let is : from_bound start es ≡ e ∷ more = sym (left_out start x es b) ∙ h in
    left_out (Excluded e.0) x es (not_past x.0 e.0 (first_is_past start x.0 es e more s.0 is))
    ∙ past_first start es e more s.1 is)
    (cases_Bool (lets_in start x.0))

pub ends_whole : (start : Bound (String Global)) (es : List Entry) → IsStrictlySortedBy string_cmp (keys_of es) → (taken : List Entry) × (es ≡ taken ++ from_bound start es)
unfolding IsStrictlySortedBy
ends_whole start [] s = ([], refl)
ends_whole start (x ∷ es) s = ⊎_elim
    (λ b. ([], sym (let_in start x es b ∙ ap (λ more. x ∷ more) (all_within start x.0 b es s.0))))
    (λ b. let (taken, is) = ends_whole start es s.1 in
    (x ∷ taken, ap (λ l. x ∷ l) is ∙ ap (λ more. x ∷ taken ++ more) (sym (left_out start x es b))))
    (cases_Bool (lets_in start x.0))

-- what an iterator over what is within a bound gives first
pub next_of : {A : Type 0} (f : A → Entry) (r : Option A) (start : Bound (String Global)) (es shown after : List Entry) → IsStrictlySortedBy string_cmp (keys_of es) → shown ≡ from_bound start es
    → MatchOption r ((shown ≡ []) × (after ≡ [])) (λ a. shown ≡ f a ∷ after)
    → MatchOption r (from_bound start es ≡ []) (λ a. from_bound start es ≡ f a ∷ from_bound (Excluded (f a).0) es)
next_of f None start es shown after s is h = sym is ∙ h.0
next_of f (Some a) start es shown after s is h =
    let begins = sym is ∙ h in
    begins ∙ ap (λ more. f a ∷ more) (sym (past_first start es (f a) after s begins))
