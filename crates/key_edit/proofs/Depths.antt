-- How deep the parts of an array or an object are, while its key is walked.
use Rattle.std.proofs.Common.{◌≡◌, ℕ, zero, suc, ◌+◌, ◌<◌, ◌≤◌, ◌↔◌, ◌⊎◌, inl, inr, Bool, true, false, List, [], ◌∷◌, Result, Ok, Err, MatchResult, MatchBool, length, refl, sym, subst, arith}
use Rattle.std.specs.Bool.{⊤}
use Rattle.jsonb_spec.specs.SortKey.Readable.{IsAnyNumber, IsReadableAt}
use Rattle.key_walk.specs.declared.find.NoKey.{NoKey}
use Rattle.jsonb_spec.specs.SortKey.Open.{Open, items, members, IsScalar}
use Rattle.jsonb_spec.specs.SortKey.Parts.{opened_tree}
use Rattle.jsonb_spec.specs.SortKey.Steps.{IsOver, IsPart}
use Rattle.jsonb_spec.specs.Text.Range.{IsWithin}
use Rattle.jsonb_spec.specs.Tree.{Tree, null, boolean, string, number, array, object, no_trees, more_trees, no_members, more_members}
use Rattle.key_edit.specs.Spots.{OpenWithin}

-- each has at most as many arrays and objects in one another as there is space, the innermost first
abbrev pub AllWithin : List Open → ℕ → Type 0
AllWithin [] depth_left = ⊤
AllWithin (o ∷ os) depth_left = OpenWithin o depth_left × AllWithin os (suc depth_left)

-- what is left fits, exactly where all does
pub record FitsLeft (o : Open) (inner : ℕ) (opens : List Open) : Type 0 where
  pub depth_left : ℕ
  pub levels : depth_left + length opens ≡ inner + 1
  pub same : AllWithin opens depth_left ↔ OpenWithin o inner

-- what is left does, or more are open than may be
abbrev pub FitsOrNot : Open → ℕ → List Open → Type 0
FitsOrNot o inner opens = ((inner + 1 < length opens) × (OpenWithin o inner → ⊥)) ⊎ FitsLeft o inner opens

pub fits_begun : (o : Open) (inner : ℕ) → FitsLeft o inner (o ∷ [])
fits_begun o inner = record { depth_left = inner; levels = refl; same = (λ h. h.0, λ h. (h, tt)) }

pub all_fit : (o : Open) (inner : ℕ) → FitsLeft o inner [] → OpenWithin o inner
all_fit o inner f = f.same.0 tt

pub scalar_fits : (t : Tree) (level depth_left : ℕ) → IsReadableAt level t → IsScalar t → IsWithin IsAnyNumber t depth_left
scalar_fits null level depth_left r s = tt
scalar_fits (boolean b) level depth_left r s = tt
scalar_fits (string mark bytes) level depth_left r s = tt
scalar_fits (number n) level depth_left r s = tt
scalar_fits (array ts) level depth_left r s = absurd s
scalar_fits (object ms) level depth_left r s = absurd s
scalar_fits t level depth_left r s = absurd r.within

within_open : (t : Tree) (p : Open) (depth_left : ℕ) → opened_tree p ≡ t → IsWithin IsAnyNumber t (suc depth_left) ↔ OpenWithin p depth_left
within_open t (items ts) depth_left e = (λ h. subst (λ u. IsWithin IsAnyNumber u (suc depth_left)) (sym e) h, λ h. subst (λ u. IsWithin IsAnyNumber u (suc depth_left)) e h)
within_open t (members ms) depth_left e = (λ h. subst (λ u. IsWithin IsAnyNumber u (suc depth_left)) (sym e) h, λ h. subst (λ u. IsWithin IsAnyNumber u (suc depth_left)) e h)

no_capacity : (t : Tree) (p : Open) → opened_tree p ≡ t → IsWithin IsAnyNumber t 0 → ⊥
no_capacity t (items ts) e h = subst (λ u. IsWithin IsAnyNumber u 0) (sym e) h
no_capacity t (members ms) e h = subst (λ u. IsWithin IsAnyNumber u 0) (sym e) h

over_fits : (o : Open) (depth_left : ℕ) → IsOver o → OpenWithin o depth_left
over_fits (items no_trees) depth_left h = tt
over_fits (items (more_trees t ts)) depth_left h = absurd h
over_fits (members no_members) depth_left h = tt
over_fits (members (more_members k t ms)) depth_left h = absurd h

part_fits : (o : Open) (name : List ℕ) (value : Tree) (others : Open) (depth_left : ℕ) → IsPart o name value others → (IsWithin IsAnyNumber value depth_left × OpenWithin others depth_left) ↔ OpenWithin o depth_left
part_fits (items no_trees) name value others depth_left p = absurd p
part_fits (items (more_trees t ts)) name value others depth_left p = (
  λ h. (subst (λ v. IsWithin IsAnyNumber v depth_left) p.1 h.0, subst (λ x. OpenWithin x depth_left) p.2 h.1),
  λ h. (subst (λ v. IsWithin IsAnyNumber v depth_left) (sym p.1) h.0, subst (λ x. OpenWithin x depth_left) (sym p.2) h.1),
)
part_fits (members no_members) name value others depth_left p = absurd p
part_fits (members (more_members k t ms)) name value others depth_left p = (
  λ h. (subst (λ v. IsWithin IsAnyNumber v depth_left) p.1 h.0, subst (λ x. OpenWithin x depth_left) p.2 h.1),
  λ h. (subst (λ v. IsWithin IsAnyNumber v depth_left) (sym p.1) h.0, subst (λ x. OpenWithin x depth_left) (sym p.2) h.1),
)

module _ (whole : Open) (inner : ℕ) (o : Open) (under : List Open) (f : FitsLeft whole inner (o ∷ under)) where
  -- behind an end
  pub end_fits : IsOver o → FitsLeft whole inner under
  end_fits h = record {
    depth_left = suc f.depth_left;
    levels = omega (arith, f.levels);
    same = (λ w. f.same.0 (over_fits o f.depth_left h, w), λ w. (f.same.1 w).1);
  }

  module _ (name : List ℕ) (value : Tree) (others : Open) (p : IsPart o name value others) where
    -- behind a value
    pub value_fits : (level : ℕ) → IsReadableAt level value → IsScalar value → FitsLeft whole inner (others ∷ under)
    value_fits level r s =
        let both = part_fits o name value others f.depth_left p in
        record {
          depth_left = f.depth_left;
          levels = f.levels;
          same = (λ w. f.same.0 (both.0 (scalar_fits value level f.depth_left r s, w.0), w.1), λ w. let v = f.same.1 w in ((both.1 v.0).1, v.1));
        }

    -- within an array or an object
    pub opening_fits : (inside : Open) → value ≡ opened_tree inside → FitsOrNot whole inner (inside ∷ others ∷ under)
    opening_fits inside is = go f.depth_left f.levels f.same
      where
        go : (depth_left : ℕ) → depth_left + suc (length under) ≡ inner + 1 → (AllWithin (o ∷ under) depth_left ↔ OpenWithin whole inner) → FitsOrNot whole inner (inside ∷ others ∷ under)
        go zero levels same = inl (omega (arith, levels), λ w. no_capacity value inside (sym is) ((part_fits o name value others 0 p).1 (same.1 w).0).0)
        go (suc depth_left) levels same =
            let both = part_fits o name value others (suc depth_left) p in
            let deep = within_open value inside depth_left (sym is) in
            inr (record {
              depth_left = depth_left;
              levels = omega (arith, levels);
              same = (λ w. same.0 (both.0 (deep.1 w.0, w.1.0), w.1.1), λ w. let v = same.1 w in let b = both.1 v.0 in (deep.0 b.0, (b.1, v.1)));
            })

-- where not too many are open
pub not_too_many : (o : Open) (inner : ℕ) (opens : List Open) → length opens ≤ inner + 1 → FitsOrNot o inner opens → FitsLeft o inner opens
not_too_many o inner opens few (inl x) = absurd (omega (arith, few, x.0))
not_too_many o inner opens few (inr f) = f

pub too_many : (o : Open) (inner : ℕ) (opens : List Open) → inner + 1 < length opens → FitsOrNot o inner opens → OpenWithin o inner → ⊥
too_many o inner opens many (inl x) = x.1
too_many o inner opens many (inr f) = absurd (omega (arith, many, f.levels))

-- ---- a value by its parts

pub no_capacity_at : (t : Tree) (p : Open) (depth_left : ℕ) → opened_tree p ≡ t → depth_left ≡ 0 → IsWithin IsAnyNumber t depth_left → ⊥
no_capacity_at t p depth_left e none h = no_capacity t p e (subst (IsWithin IsAnyNumber t) none h)

pub reported_of_parts : (t : Tree) (p : Open) (inner depth_left : ℕ) (reported : Result Bool NoKey) → opened_tree p ≡ t → inner + 1 ≡ depth_left → MatchResult reported (λ fits. MatchBool fits (OpenWithin p inner) (OpenWithin p inner → ⊥)) (λ e. ⊥)
    → MatchResult reported (λ fits. MatchBool fits (IsWithin IsAnyNumber t depth_left) (IsWithin IsAnyNumber t depth_left → ⊥)) (λ e. ⊥)
reported_of_parts t p inner depth_left reported whole one h = go reported h
  where
    deeper : suc inner ≡ depth_left
    deeper = omega (arith, one)

    both : IsWithin IsAnyNumber t depth_left ↔ OpenWithin p inner
    both = subst (λ d. IsWithin IsAnyNumber t d ↔ OpenWithin p inner) deeper (within_open t p inner whole)

    go : (reported : Result Bool NoKey) → MatchResult reported (λ fits. MatchBool fits (OpenWithin p inner) (OpenWithin p inner → ⊥)) (λ e. ⊥) → MatchResult reported (λ fits. MatchBool fits (IsWithin IsAnyNumber t depth_left) (IsWithin IsAnyNumber t depth_left → ⊥)) (λ e. ⊥)
    go (Ok true) h = both.1 h
    go (Ok false) h = λ w. h (both.0 w)
    go (Err e) h = h
