-- Members in another order make the same object.
use Rattle.std.proofs.Common.{◌≡◌, ◌≢◌, ℕ, false, List, Ordering, Less, Equal, Greater, is_gt, nat_cmp, refl, sym, ap, ◌∙◌}
use Rattle.std.specs.Ordering.{ordering_reverse, match_ordering}
use Rattle.std.specs.Cmp.Lexicographic.{slice_cmp}
use Rattle.std.proofs.lemmas.Cmp.{nat_list_cmp_total}
use Rattle.jsonb_spec.specs.Tree.{Member, Members, Tree, put, put_all}
use Rattle.jsonb_spec.specs.Tree.Members.{more_members, no_members}
use Rattle.text_common.proofs.Repeats.{chained, same_key}
use Rattle.text_common.proofs.Shuffles.{IsShuffle, distinct-shuffle, shuffle-map}
use Rattle.text_common.proofs.Shuffles.IsShuffle.{same, preserve, exchange, follow}
use Rattle.jsonb_core.proofs.Trees.MembersInOrder.{HaveDistinctKeys}

-- the members with t at k, where k compares with the first key so
unfoldable put_by : Ordering → List ℕ → Tree → List ℕ → Tree → Members → Members → Members
put_by o k t l u ms later = match_ordering o (more_members k t (more_members l u ms)) (more_members l t ms) (more_members l u later)

module _ (k l : List ℕ) (t u : Tree) (less : slice_cmp nat_cmp k l ≡ Less) where
  more_cmp : slice_cmp nat_cmp l k ≡ Greater
  more_cmp = nat_list_cmp_total.antisymm l k ∙ ap ordering_reverse less

  -- behind the member of k
  behind : (ms : Members) → put l u (more_members k t ms) ≡ more_members k t (put l u ms)
  unfolding put_by
  behind ms = ap (λ o. put_by o l u k t ms (put l u ms)) more_cmp

  before_l : (ms : Members) → put k t (more_members l u ms) ≡ more_members k t (more_members l u ms)
  unfolding put_by
  before_l ms = ap (λ o. put_by o k t l u ms (put k t ms)) less

  -- below l, and l not above another
  low : (m : List ℕ) → is_gt (slice_cmp nat_cmp l m) ≡ false → slice_cmp nat_cmp k m ≡ Less
  low m e = chained k l m less e

  member_offset : (m : List ℕ) (v : Tree) (ms : Members) → put k t (put l u ms) ≡ put l u (put k t ms) → (o p : Ordering) → slice_cmp nat_cmp k m ≡ o → slice_cmp nat_cmp l m ≡ p
      → put k t (put l u (more_members m v ms)) ≡ put l u (put k t (more_members m v ms))
  unfolding put_by
  member_offset m v ms again o Less e f =
      ap (λ x. put k t (put_by x l u m v ms (put l u ms))) f ∙ before_l (more_members m v ms)
      ∙ sym (ap (λ x. put l u (put_by x k t m v ms (put k t ms))) (low m (ap is_gt f)) ∙ behind (more_members m v ms) ∙ ap (λ x. more_members k t (put_by x l u m v ms (put l u ms))) f)
  member_offset m v ms again o Equal e f =
      ap (λ x. put k t (put_by x l u m v ms (put l u ms))) f ∙ ap (λ x. put_by x k t m u ms (put k t ms)) (low m (ap is_gt f))
      ∙ sym (ap (λ x. put l u (put_by x k t m v ms (put k t ms))) (low m (ap is_gt f)) ∙ behind (more_members m v ms) ∙ ap (λ x. more_members k t (put_by x l u m v ms (put l u ms))) f)
  member_offset m v ms again Less Greater e f =
      ap (λ x. put k t (put_by x l u m v ms (put l u ms))) f ∙ ap (λ x. put_by x k t m v (put l u ms) (put k t (put l u ms))) e
      ∙ sym (ap (λ x. put l u (put_by x k t m v ms (put k t ms))) e ∙ behind (more_members m v ms) ∙ ap (λ x. more_members k t (put_by x l u m v ms (put l u ms))) f)
  member_offset m v ms again Equal Greater e f =
      ap (λ x. put k t (put_by x l u m v ms (put l u ms))) f ∙ ap (λ x. put_by x k t m v (put l u ms) (put k t (put l u ms))) e
      ∙ sym (ap (λ x. put l u (put_by x k t m v ms (put k t ms))) e ∙ ap (λ x. put_by x l u m t ms (put l u ms)) f)
  member_offset m v ms again Greater Greater e f =
      ap (λ x. put k t (put_by x l u m v ms (put l u ms))) f ∙ ap (λ x. put_by x k t m v (put l u ms) (put k t (put l u ms))) e
      ∙ ap (λ rest. more_members m v rest) again
      ∙ sym (ap (λ x. put l u (put_by x k t m v ms (put k t ms))) e ∙ ap (λ x. put_by x l u m v (put k t ms) (put l u (put k t ms))) f)

  put_both : (ms : Members) → put k t (put l u ms) ≡ put l u (put k t ms)
  put_both no_members = before_l no_members ∙ sym (behind no_members)
  put_both (more_members m v ms) = member_offset m v ms (put_both ms) (slice_cmp nat_cmp k m) (slice_cmp nat_cmp l m) refl refl

put_commute : (k l : List ℕ) (t u : Tree) (ms : Members) → k ≢ l → put k t (put l u ms) ≡ put l u (put k t ms)
put_commute k l t u ms n =
    elim (slice_cmp nat_cmp k l) as (λ o. slice_cmp nat_cmp k l ≡ o → put k t (put l u ms) ≡ put l u (put k t ms)) [
      | Less ↦ λ e. put_both k l t u e ms
      | Equal ↦ λ e. absurd (n (same_key k l e))
      | Greater ↦ λ e. sym (put_both l k u t (nat_list_cmp_total.antisymm l k ∙ ap ordering_reverse e) ms)
    ] refl

-- members with distinct keys make one object, in whatever order
pub put_all-shuffle : {es fs : List Member} (s : IsShuffle es fs) (ms : Members) → HaveDistinctKeys es → put_all es ms ≡ put_all fs ms
put_all-shuffle same ms h = refl
put_all-shuffle (preserve {x = e} s) ms h = put_all-shuffle s (put e.0 e.1 ms) h.1
put_all-shuffle (exchange {x = e} {y = f} {xs = es}) ms h = ap (λ ns. put_all es ns) (put_commute f.0 e.0 f.1 e.1 ms (λ same_keys. h.0.0 (sym same_keys)))
put_all-shuffle (follow s t) ms h = put_all-shuffle s ms h ∙ put_all-shuffle t ms (distinct-shuffle (shuffle-map (λ (m : Member). m.0) s) h)
