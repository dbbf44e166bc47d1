-- Keys that are all different: their prefixes are, or each fingerprint is new where it is put into a row.
use Rattle.std.proofs.Common.{◌≡◌, ◌≢◌, ℕ, zero, suc, ◌+◌, ◌-◌, ◌<◌, ◌≤◌, All, List, [], ◌∷◌, get_or, length, map, set, None, sym, ap, ap₂, subst, ◌∙◌, arith, ⊎_elim}
use Rattle.std.proofs.Math.Nat.{eq-or-lt_of_le}
use Rattle.std.proofs.lemmas.Bool.{cases_lt}
use Rattle.std.proofs.lemmas.List.{get_or-set_other, get_or-set_same}
use Rattle.std.specs.List.{AllByRecursion}
use Rattle.jsonb_spec.specs.Grammar.{AreDistinct}
use Rattle.text_common.proofs.Repeats.{no_repeat}
use Rattle.text_members.specs.Fingerprints.{IsIn, fingerprint_of, home_of, tag_of}
use Rattle.text_members.specs.Members.{AreKeyed, IsKeyed, PrefixesDiffer, ReportsRepeat, first_bytes, key_in, spot_in}
use Rattle.text_members.specs.declared.members.Member.{Member}

-- ---- a number that is put into a free slot of a row

module _ (row : List ℕ) (slot number : ℕ) (inside : slot < length row) (some : number ≢ 0) (free : get_or row slot 0 ≡ 0) where
  as_before : (k : ℕ) → get_or row k 0 ≢ 0 → get_or (set row slot number) k 0 ≡ get_or row k 0
  as_before k taken = get_or-set_other row slot k number 0 (λ same. taken (ap (λ i. get_or row i 0) same ∙ free))

  pub retained : (home other : ℕ) → IsIn row home other → IsIn (set row slot number) home other
  retained home other is =
      record {
        some = is.some;
        steps = is.steps;
        there = as_before (home + is.steps) (λ e. is.some (sym is.there ∙ e)) ∙ is.there;
        taken = λ k l e. is.taken k l (sym (as_before (home + k) (is.taken k l)) ∙ e);
      }

  module _ (home : ℕ) (up : home ≤ slot) (passed : (k : ℕ) → home + k < slot → (get_or row (home + k) 0 ≢ 0) × (get_or row (home + k) 0 ≢ number)) where
    here : home + (slot - home) ≡ slot
    here = omega (arith, up)

    pub there : IsIn (set row slot number) home number
    there =
        record {
          some = some;
          steps = slot - home;
          there = ap (λ i. get_or (set row slot number) i 0) here ∙ get_or-set_same row slot number 0 inside;
          taken = λ k l e. let before = (passed k (omega (arith, l, up))).0 in before (sym (as_before (home + k) before) ∙ e);
        }

    pub new : IsIn row home number → ⊥
    new is =
        ⊎_elim (λ before. (passed is.steps (omega (arith, before, up))).1 is.there)
        (λ least. ⊎_elim (λ same. is.some (sym is.there ∙ at (home + is.steps) (omega (arith, same, up)))) (λ more. is.taken (slot - home) more (at (home + (slot - home)) here)) (eq-or-lt_of_le least))
        (cases_lt is.steps (slot - home))
      where
        at : (i : ℕ) → i ≡ slot → get_or row i 0 ≡ 0
        at i e = ap (λ j. get_or row j 0) e ∙ free

-- ---- keys

module _ (text decoded : List ℕ) where
  each_other : (m : Member) (ns : List Member) → All (λ n. key_in text decoded m ≢ key_in text decoded n) ns → AllByRecursion (λ key. key_in text decoded m ≢ key) (map (λ s. s.key) (map (spot_in text decoded) ns))
  each_other m [] apart = tt
  each_other m (n ∷ ns) apart = (apart 0 n (omega arith), each_other m ns (λ k d l. apart (suc k) d (omega arith)))

  others_keyed : (m : Member) (ns : List Member) → AreKeyed text decoded (m ∷ ns) → AreKeyed text decoded ns
  others_keyed m ns keyed k d l = keyed (suc k) d (omega arith)

  -- prefixes that are all different
  by_prefixes : (ms : List Member) → AreKeyed text decoded ms → PrefixesDiffer ms → AreDistinct (map (λ s. s.key) (map (spot_in text decoded) ms))
  by_prefixes [] keyed apart = tt
  by_prefixes (m ∷ ms) keyed apart =
      (each_other m ms (λ k d l same. apart.0 k d l (keyed 0 m (omega arith) ∙ ap (λ key. first_bytes 8 key) same ∙ sym (keyed (suc k) d (omega arith)))), by_prefixes ms (others_keyed m ms keyed) apart.1)

  pub none_repeats : (ms : List Member) → PrefixesDiffer ms → AreKeyed text decoded ms → ReportsRepeat text decoded ms None
  none_repeats ms apart keyed = no_repeat (map (spot_in text decoded) ms) (by_prefixes ms keyed apart)

-- ---- a loop that puts the fingerprint of each member into a row

-- a member's fingerprint is in a row
abbrev pub IsThere : ℕ → List ℕ → List ℕ → List ℕ → Member → Type 0
IsThere bits row text decoded m =
    let number = fingerprint_of m.prefix (key_in text decoded m) in IsIn row (home_of bits number) (tag_of number)

-- Where the keys that are left are different, and none of their fingerprints is in the row, all keys are different.
pub record DifferFrom (bits : ℕ) (row text decoded : List ℕ) (whole rest : List Member) : Type 0 where
  pub keyed : AreKeyed text decoded whole → AreKeyed text decoded rest
  pub onward : AreKeyed text decoded whole → AreDistinct (map (λ s. s.key) (map (spot_in text decoded) rest)) → All (λ m. IsThere bits row text decoded m → ⊥) rest
      → AreDistinct (map (λ s. s.key) (map (spot_in text decoded) whole))

module _ (bits : ℕ) (text decoded : List ℕ) (whole : List Member) where
  pub step : (row next : List ℕ) (m : Member) (rest others : List Member) → rest ≡ m ∷ others → ((home number : ℕ) → IsIn row home number → IsIn next home number) → IsThere bits next text decoded m → (IsThere bits row text decoded m → ⊥)
      → DifferFrom bits row text decoded whole rest → DifferFrom bits next text decoded whole others
  step row next m rest others e stays there new a = record { keyed = λ keyed. others_keyed text decoded m others (now keyed); onward = onward }
    where
      now : AreKeyed text decoded whole → AreKeyed text decoded (m ∷ others)
      now keyed = subst (AreKeyed text decoded) e (a.keyed keyed)

      -- the same key has the same fingerprint
      same_print : (n : Member) → IsKeyed text decoded m → IsKeyed text decoded n → key_in text decoded m ≡ key_in text decoded n → fingerprint_of m.prefix (key_in text decoded m) ≡ fingerprint_of n.prefix (key_in text decoded n)
      same_print n g h same = ap₂ fingerprint_of (g ∙ ap (λ key. first_bytes 8 key) same ∙ sym h) same

      onward : AreKeyed text decoded whole → AreDistinct (map (λ s. s.key) (map (spot_in text decoded) others)) → All (λ n. IsThere bits next text decoded n → ⊥) others → AreDistinct (map (λ s. s.key) (map (spot_in text decoded) whole))
      onward keyed distinct none =
          let here = now keyed in
          let apart = each_other text decoded m others (λ k d l same. none k d l (subst (λ number. IsIn next (home_of bits number) (tag_of number)) (same_print (get_or others k d) (here 0 m (omega arith)) (here (suc k) d (omega arith)) same) there)) in
          a.onward keyed (subst (λ ms. AreDistinct (map (λ s. s.key) (map (spot_in text decoded) ms))) (sym e) (apart, distinct)) (subst (All (λ n. IsThere bits row text decoded n → ⊥)) (sym e) each_new)
        where
          each_new : All (λ n. IsThere bits row text decoded n → ⊥) (m ∷ others)
          each_new zero d l = new
          each_new (suc k) d l = λ is. none k d (omega arith) (stays _ _ is)

  pub finish : (row : List ℕ) (rest : List Member) → length rest ≡ 0 → DifferFrom bits row text decoded whole rest → AreKeyed text decoded whole → ReportsRepeat text decoded whole None
  finish row [] e a keyed = no_repeat (map (spot_in text decoded) whole) (a.onward keyed tt (λ k d l. absurd (omega arith)))
  finish row (m ∷ ms) e a keyed = absurd (omega arith)
