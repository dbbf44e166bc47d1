-- What is held of members that are begun.
use Rattle.std.proofs.Common.{◌≡◌, ℕ, zero, suc, ◌-◌, ◌≤◌, Bool, true, false, List, [], ◌∷◌, ◌++◌, map, length, take, drop, cond, inl, inr, length-drop, slice_range, refl, sym, ap, subst, ◌∙◌, arith, length-append}
use Rattle.std.specs.Prelude.{All}
use Rattle.std.proofs.lemmas.Bool.{cases_lt}
use Rattle.std.proofs.lemmas.List.{drop-append-le, take-append-le}
use Rattle.std.specs.Str.{IsUtf8}
use Rattle.jsonb_spec.specs.Source.{Spot}
use Rattle.text_members.specs.MemberStarts.{AreEntries, MemberStart, IsVerbatim}
use Rattle.text_members.specs.Members.{AreKeyed, IsKeyed, key_in, prefix_of, spot_at, spot_in}
use Rattle.text_members.specs.declared.members.Member.{Member}

pub verbatim_count : (text decoded : List ℕ) (ms : List Member) (bs : List MemberStart) → AreEntries text decoded ms bs → length ms ≡ length bs
verbatim_count text decoded [] [] k = refl
verbatim_count text decoded (m ∷ ms) (b ∷ bs) k = omega (arith, verbatim_count text decoded ms bs k.1.1)
verbatim_count text decoded [] (b ∷ bs) k = absurd k
verbatim_count text decoded (m ∷ ms) [] k = absurd k

-- one more
pub one_more : (text decoded : List ℕ) (ms : List Member) (bs : List MemberStart) (m : Member) (b : MemberStart) → AreEntries text decoded ms bs → IsVerbatim text decoded m b → IsUtf8 b.spot.key → AreEntries text decoded (ms ++ m ∷ []) (bs ++ b ∷ [])
one_more text decoded [] [] m b k here utf8 = (here, (utf8, tt))
one_more text decoded (n ∷ ms) (c ∷ bs) m b k here utf8 = (k.0, (k.1.0, one_more text decoded ms bs m b k.1.1 here utf8))
one_more text decoded [] (c ∷ bs) m b k here utf8 = absurd k
one_more text decoded (n ∷ ms) [] m b k here utf8 = absurd k

-- The first ones and the last ones are held, where all are.
pub verbatim_apart : (text decoded : List ℕ) (ms : List Member) (bs cs : List MemberStart) → AreEntries text decoded ms (bs ++ cs) → AreEntries text decoded (take (length bs) ms) bs × AreEntries text decoded (drop (length bs) ms) cs
verbatim_apart text decoded ms [] cs k = (tt, k)
verbatim_apart text decoded [] (b ∷ bs) cs k = absurd k
verbatim_apart text decoded (m ∷ ms) (b ∷ bs) cs k =
    let others = verbatim_apart text decoded ms bs cs k.1.1 in
    ((k.0, (k.1.0, others.0)), others.1)

pub entry_spots : (text decoded : List ℕ) (ms : List Member) (bs : List MemberStart) → AreEntries text decoded ms bs → map (spot_in text decoded) ms ≡ map (λ (b : MemberStart). b.spot) bs
entry_spots text decoded [] [] k = refl
entry_spots text decoded (m ∷ ms) (b ∷ bs) k = λ i. k.0.spot i ∷ entry_spots text decoded ms bs k.1.1 i
entry_spots text decoded [] (b ∷ bs) k = absurd k
entry_spots text decoded (m ∷ ms) [] k = absurd k

all_of : {X : Type 0} (P : X → Type 0) (x : X) (xs : List X) → P x → All P xs → All P (x ∷ xs)
all_of P x xs p ps zero d h = p
all_of P x xs p ps (suc k) d h = ps k d (omega arith)

pub entry_keys : (text decoded : List ℕ) (ms : List Member) (bs : List MemberStart) → AreEntries text decoded ms bs → AreKeyed text decoded ms
entry_keys text decoded [] [] k = λ i d h. absurd (omega arith)
entry_keys text decoded (m ∷ ms) (b ∷ bs) k = all_of (IsKeyed text decoded) m ms k.0.keyed (entry_keys text decoded ms bs k.1.1)
entry_keys text decoded [] (b ∷ bs) k = absurd k
entry_keys text decoded (m ∷ ms) [] k = absurd k

-- ---- more keys are decoded

range_stays : (xs ys : List ℕ) (from to : ℕ) → to ≤ length xs → slice_range (xs ++ ys) from to ≡ slice_range xs from to
range_stays xs ys from to h =
    elim (cases_lt to from) [
      | inl behind ↦ let none : to - from ≡ 0 = omega arith in rw none refl
      | inr before ↦
          let here : from ≤ length xs = omega arith in
          ap (take (to - from)) (drop-append-le from xs ys here) ∙ take-append-le (to - from) (drop from xs) ys (omega (arith, length-drop from xs))
    ]

chosen_stays : (b : Bool) (text decoded more : List ℕ) (from to : ℕ) → (b ≡ true → to ≤ length decoded) → slice_range (cond b (decoded ++ more) text) from to ≡ slice_range (cond b decoded text) from to
chosen_stays true text decoded more from to h = range_stays decoded more from to (h refl)
chosen_stays false text decoded more from to h = refl

key_stays : (text decoded more : List ℕ) (m : Member) → (m.decoded ≡ true → m.to ≤ length decoded) → key_in text (decoded ++ more) m ≡ key_in text decoded m
key_stays text decoded more m within = chosen_stays m.decoded text decoded more m.from m.to within

retained_on : (text decoded more : List ℕ) (m : Member) (b : MemberStart) → IsVerbatim text decoded m b → IsVerbatim text (decoded ++ more) m b
retained_on text decoded more m b k =
    let same = key_stays text decoded more m k.within in
    record {
      spot = ap (λ key. record { key = key; offset = m.after }) same ∙ k.spot;
      starts = k.starts;
      keyed = subst (λ key. m.prefix ≡ prefix_of key) (sym same) k.keyed;
      within = λ is. omega (arith, k.within is, length-append decoded more);
    }

pub verbatim_all : (text decoded more : List ℕ) (ms : List Member) (bs : List MemberStart) → AreEntries text decoded ms bs → AreEntries text (decoded ++ more) ms bs
verbatim_all text decoded more [] [] k = tt
verbatim_all text decoded more (m ∷ ms) (b ∷ bs) k = (retained_on text decoded more m b k.0, (k.1.0, verbatim_all text decoded more ms bs k.1.1))
verbatim_all text decoded more [] (b ∷ bs) k = absurd k
verbatim_all text decoded more (m ∷ ms) [] k = absurd k

-- ---- keys that are UTF-8

-- The key at an index is, and no bytes are where there is no member.
pub utf8_at : (text decoded : List ℕ) (ms : List Member) (bs : List MemberStart) (i : ℕ) → AreEntries text decoded ms bs → IsUtf8 (spot_at text decoded ms i).key
utf8_at text decoded [] [] i k = ([], (refl, refl))
utf8_at text decoded (m ∷ ms) (b ∷ bs) zero k = subst (λ (s : Spot). IsUtf8 s.key) (sym k.0.spot) k.1.0
utf8_at text decoded (m ∷ ms) (b ∷ bs) (suc i) k = utf8_at text decoded ms bs i k.1.1
utf8_at text decoded [] (b ∷ bs) i k = absurd k
utf8_at text decoded (m ∷ ms) [] i k = absurd k
