-- Members whose keys ascend, inserted one after the other, stay as they are.
use Rattle.std.proofs.Common.{List, ◌≡◌, ℕ, Less, Equal, Greater, refl, sym, ap, ◌∙◌, map, ◌≢◌}
use Rattle.std.specs.Cmp.{tied_itself}
use Rattle.std.specs.Cmp.Lexicographic.{slice_cmp, nat_list_cmp_total}
use Rattle.std.specs.Ordering.{nat_cmp, match_ordering, ordering_reverse}
use Rattle.jsonb_spec.specs.Keys.{IsBelowKeys, KeysAscend}
use Rattle.jsonb_spec.specs.Order.ByContent.{pairs_of}
use Rattle.jsonb_spec.specs.Tree.{Tree, Members, no_members, more_members, put, put_all, Member}
use Rattle.jsonb_spec.specs.Grammar.{AreDistinct}
use Rattle.std.specs.List.{AllByRecursion}

-- what is below another is above it the other way round
pub turned : (xs ys : List ℕ) → slice_cmp nat_cmp xs ys ≡ Less → slice_cmp nat_cmp ys xs ≡ Greater
turned xs ys e = nat_list_cmp_total.antisymm ys xs ∙ ap ordering_reverse e

-- the key is none of these
abbrev pub IsNew : List ℕ → List (List ℕ) → Type 0
IsNew k ls = AllByRecursion (λ l. k ≢ l) ls

-- no two members have one key
abbrev pub HaveDistinctKeys : List Member → Type 0
HaveDistinctKeys ms = AreDistinct (map (λ m. m.0) ms)

is_new : (k : List ℕ) (ms : Members) → IsBelowKeys k ms → IsNew k (map (λ m. m.0) (pairs_of ms))
is_new k no_members h = tt
is_new k (more_members l t ms) h = (λ e. (let clash : Equal ≡ Less = sym (tied_itself nat_list_cmp_total k) ∙ ap (slice_cmp nat_cmp k) e ∙ h.0 in cc), is_new k ms h.1)

pub distinct_keys : (ms : Members) → KeysAscend ms → HaveDistinctKeys (pairs_of ms)
distinct_keys no_members h = tt
distinct_keys (more_members k t ms) h = (is_new k ms h.0, distinct_keys ms h.1)

-- ---- putting in

put_after : (k l : List ℕ) (t u : Tree) (ms : Members) → slice_cmp nat_cmp k l ≡ Less → put l u (more_members k t ms) ≡ more_members k t (put l u ms)
put_after k l t u ms h = ap (λ o. match_ordering o (more_members l u (more_members k t ms)) (more_members k u ms) (more_members k t (put l u ms))) (turned k l h)

-- a key that is below the others stays first
put_all-after : (k : List ℕ) (t : Tree) (ns ms : Members) → IsBelowKeys k ns → put_all (pairs_of ns) (more_members k t ms) ≡ more_members k t (put_all (pairs_of ns) ms)
put_all-after k t no_members ms h = refl
put_all-after k t (more_members l u ns) ms h = ap (put_all (pairs_of ns)) (put_after k l t u ms h.0) ∙ put_all-after k t ns (put l u ms) h.1

pub put_all-ascending : (ms : Members) → KeysAscend ms → put_all (pairs_of ms) no_members ≡ ms
put_all-ascending no_members h = refl
put_all-ascending (more_members k t ms) h = put_all-after k t ms no_members h.0 ∙ ap (more_members k t) (put_all-ascending ms h.1)
