-- The zeros of some of the numbers, from those of all.
use Rattle.std.proofs.Common.{◌≡◌, ℕ, zero, suc, ◌+◌, ◌-◌, ◌^◌, ◌<◌, ◌≤◌, ◌⊎◌, inl, inr, ◌==◌, List, [], ◌∷◌, ◌++◌, length, take, drop, replicate, refl, sym, ap, ap₂, subst, ◌∙◌, arith, append-nil, length-append}
use Rattle.std.proofs.lemmas.Bool.{cases_eq, cond-false, ne_eqb}
use Rattle.std.proofs.lemmas.List.{take-append-le, take-replicate, length-replicate}
use Rattle.jsonb_core.proofs.Appending.Appended.{IsUnderway, begun, goes_on, fits}
use Rattle.jsonb_spec.specs.Document.Numbers.{PendsAt}
use Rattle.jsonb_spec.specs.Document.Zeros.{in_sevens, entry_of, plain_behind, zeros_of, plain_at_end}
use Rattle.key_zeros.proofs.Sevens.{some_sevens}
use Rattle.key_zeros.proofs.Splitting.{plain_first, entry_first}

-- ---- the first count above 0

pub record NonePending (plain : ℕ) (counts : List ℕ) : Type 0 where
  pub none : zeros_of plain counts ≡ []
  pub is : counts ≡ replicate (length counts) 0

pub record Pending (plain : ℕ) (counts : List ℕ) : Type 0 where
  pub before : ℕ
  pub count : ℕ
  pub later : List ℕ
  pub is : counts ≡ replicate before 0 ++ count ∷ later
  pub some : 0 < count
  pub zeros : zeros_of plain counts ≡ in_sevens 8 (plain + before) ++ count ∷ zeros_of 0 later

pub pend : (plain : ℕ) (counts : List ℕ) → NonePending plain counts ⊎ Pending plain counts
pend plain [] = inl (record { none = refl; is = refl })
pend plain (c ∷ cs) = elim (cases_eq c 0) [
  | inl none ↦ elim (pend (suc plain) cs) [
    | inl x ↦ inl (record { none = plain_first plain c cs none ∙ x.none; is = ap₂ (λ a more. a ∷ more) none x.is })
    | inr x ↦ inr (record {
      before = suc x.before;
      count = x.count;
      later = x.later;
      is = ap₂ (λ a more. a ∷ more) none x.is;
      some = x.some;
      zeros = plain_first plain c cs none ∙ x.zeros ∙ ap (λ b. in_sevens 8 b ++ x.count ∷ zeros_of 0 x.later) {x = suc plain + x.before} {y = plain + suc x.before} (omega arith);
    })
  ]
  | inr some ↦ inr (record {
    before = 0;
    count = c;
    later = cs;
    is = refl;
    some = omega (arith, some);
    zeros = entry_first plain c cs (omega (arith, some)) ∙ ap (λ b. in_sevens 8 b ++ c ∷ zeros_of 0 cs) {x = plain} {y = plain + 0} (omega arith);
  })
]

module _ (counts zeros : List ℕ) (are : zeros ≡ zeros_of 0 counts) where
  pub none_pending : length zeros ≡ 0 → counts ≡ replicate (length counts) 0
  none_pending none = elim (pend 0 counts) [
    | inl x ↦ x.is
    | inr x ↦ absurd (omega (arith, none, ap length (are ∙ x.zeros), length-append (in_sevens 8 (0 + x.before)) (x.count ∷ zeros_of 0 x.later), some_sevens 8 (0 + x.before)))
  ]

  pub one_pending : 0 < length zeros → Pending 0 counts
  one_pending some = elim (pend 0 counts) [
    | inl x ↦ absurd (omega (arith, some, ap length (are ∙ x.none)))
    | inr x ↦ x
  ]

  pub pending_occurs : (x : Pending 0 counts) → zeros ≡ in_sevens 8 x.before ++ x.count ∷ zeros_of 0 x.later
  pending_occurs x = are ∙ x.zeros ∙ ap (λ b. in_sevens 8 b ++ x.count ∷ zeros_of 0 x.later) {x = 0 + x.before} {y = x.before} (omega arith)

pub counts_long : (counts : List ℕ) (before count : ℕ) (later : List ℕ) → counts ≡ replicate before 0 ++ count ∷ later → length counts ≡ before + suc (length later)
counts_long counts before count later is = omega (arith, ap length is, length-append (replicate before 0) (count ∷ later), length-replicate {A = ℕ} before 0)

pub pends_there : (counts : List ℕ) (x : Pending 0 counts) (before count : ℕ) (rest : List ℕ) → before ≡ x.before → count ≡ x.count → rest ≡ zeros_of 0 x.later → PendsAt counts before count rest
pends_there counts x before count rest p q r = record {
  later = x.later;
  is = x.is ∙ ap₂ (λ n c. replicate n 0 ++ c ∷ x.later) (sym p) (sym q);
  some = omega (arith, x.some, q);
  zeros = r;
}

-- ---- numbers left out

drop_zeros : (left before : ℕ) (xs : List ℕ) → left ≤ before → drop left (replicate before 0 ++ xs) ≡ replicate (before - left) 0 ++ xs
drop_zeros zero before xs h = ap (λ n. replicate n 0 ++ xs) {x = before} {y = before - 0} (omega arith)
drop_zeros (suc left) zero xs h = absurd (omega (arith, h))
drop_zeros (suc left) (suc before) xs h = drop_zeros left before xs (omega (arith, h)) ∙ ap (λ n. replicate n 0 ++ xs) {x = before - left} {y = suc before - suc left} (omega arith)

pub drop_entry : (left before count : ℕ) (xs : List ℕ) → before < left → drop left (replicate before 0 ++ count ∷ xs) ≡ drop (left - (before + 1)) xs
drop_entry zero before count xs h = absurd (omega (arith, h))
drop_entry (suc left) zero count xs h = ap (λ n. drop n xs) {x = left} {y = suc left - (0 + 1)} (omega arith)
drop_entry (suc left) (suc before) count xs h = drop_entry left before count xs (omega (arith, h)) ∙ ap (λ n. drop n xs) {x = left - (before + 1)} {y = suc left - (suc before + 1)} (omega arith)

drop_none : (left n : ℕ) → left ≤ n → drop {A = ℕ} left (replicate n 0) ≡ replicate (n - left) 0
drop_none left n h = ap (drop left) (sym (append-nil (replicate n 0))) ∙ drop_zeros left n [] h ∙ append-nil (replicate (n - left) 0)

-- What is left of the counts of all numbers, of which so many are still to be left out.
pub record SkipLeft (counts : List ℕ) (numbers left : ℕ) (rest : List ℕ) : Type 0 where
  pub others : List ℕ
  pub occurs : rest ≡ zeros_of 0 others
  pub same : drop left others ≡ drop numbers counts
  pub enough : left ≤ length others
  pub fewer : length others ≤ length counts

-- all that are left are 0
pub none_skipped : (counts : List ℕ) (numbers left : ℕ) (rest : List ℕ) (s : SkipLeft counts numbers left rest) → s.others ≡ replicate (length s.others) 0 → drop numbers counts ≡ replicate (length (drop numbers counts)) 0
none_skipped counts numbers left rest s all =
    let there : drop numbers counts ≡ replicate (length s.others - left) 0 = sym s.same ∙ ap (drop left) all ∙ drop_none left (length s.others) s.enough in
    there ∙ ap (λ n. replicate n 0) (sym (ap length there ∙ length-replicate {A = ℕ} (length s.others - left) 0))

-- the first count above 0 comes behind them
pub entry_reached : (counts : List ℕ) (numbers left : ℕ) (rest : List ℕ) (s : SkipLeft counts numbers left rest) (before count : ℕ) (behind : List ℕ) (p : PendsAt s.others before count behind) → (more : ℕ) → before ≡ more + left → PendsAt (drop numbers counts) more count behind
entry_reached counts numbers left rest s before count behind p more e =
    let less : before - left ≡ more = omega (arith, e) in
    record {
      later = p.later;
      is = sym s.same ∙ ap (drop left) p.is ∙ drop_zeros left before (count ∷ p.later) (omega (arith, e)) ∙ ap (λ n. replicate n 0 ++ count ∷ p.later) less;
      some = p.some;
      zeros = p.zeros;
    }

-- it is one of them
pub entry_skipped : (counts : List ℕ) (numbers left : ℕ) (rest : List ℕ) (s : SkipLeft counts numbers left rest) (before count : ℕ) (behind : List ℕ) (p : PendsAt s.others before count behind) → before < left → SkipLeft counts numbers (left - (before + 1)) behind
entry_skipped counts numbers left rest s before count behind p less =
    let long = counts_long s.others before count p.later p.is in
    record {
      others = p.later;
      occurs = p.zeros;
      same = sym (drop_entry left before count p.later less) ∙ ap (drop left) (sym p.is) ∙ s.same;
      enough = omega (arith, s.enough, long, less);
      fewer = omega (arith, s.fewer, long);
    }

-- ---- numbers taken

take_entry : (left before count : ℕ) (xs : List ℕ) → before < left → take left (replicate before 0 ++ count ∷ xs) ≡ replicate before 0 ++ count ∷ take (left - (before + 1)) xs
take_entry zero before count xs h = absurd (omega (arith, h))
take_entry (suc left) zero count xs h = ap (λ n. count ∷ take n xs) {x = left} {y = suc left - (0 + 1)} (omega arith)
take_entry (suc left) (suc before) count xs h = ap (λ t. 0 ∷ t) (take_entry left before count xs (omega (arith, h)) ∙ ap (λ n. replicate before 0 ++ count ∷ take n xs) {x = left - (before + 1)} {y = suc left - (suc before + 1)} (omega arith))

pub zeros_behind_plain : (n plain : ℕ) (xs : List ℕ) → zeros_of plain (replicate n 0 ++ xs) ≡ zeros_of (plain + n) xs
zeros_behind_plain zero plain xs = ap (λ p. zeros_of p xs) {x = plain} {y = plain + 0} (omega arith)
zeros_behind_plain (suc n) plain xs = zeros_behind_plain n (suc plain) xs ∙ ap (λ p. zeros_of p xs) {x = suc plain + n} {y = plain + suc n} (omega arith)

end_behind_plain : (n plain : ℕ) (xs : List ℕ) → plain_at_end plain (replicate n 0 ++ xs) ≡ plain_at_end (plain + n) xs
end_behind_plain zero plain xs = ap (λ p. plain_at_end p xs) {x = plain} {y = plain + 0} (omega arith)
end_behind_plain (suc n) plain xs = end_behind_plain n (suc plain) xs ∙ ap (λ p. plain_at_end p xs) {x = suc plain + n} {y = plain + suc n} (omega arith)

-- What is left to append of the zeros of these numbers.
pub record CopyLeft (plain : ℕ) (taken old now : List ℕ) (others : List ℕ) (left more : ℕ) : Type 0 where
  pub underway : IsUnderway old now (zeros_of plain taken) (zeros_of more (take left others))
  pub at_end : plain_at_end plain taken ≡ plain_at_end more (take left others)
  pub enough : left ≤ length others
  pub fit : more + left < 2 ^ 63
  pub short : length others < 2 ^ 63

pub copies_some : (plain numbers : ℕ) (counts old : List ℕ) → numbers ≤ length counts → length counts < 2 ^ 63 → plain + numbers < 2 ^ 63 → CopyLeft plain (take numbers counts) old old counts numbers plain
copies_some plain numbers counts old enough short fit = record { underway = begun old (zeros_of plain (take numbers counts)); at_end = refl; enough = enough; fit = fit; short = short }

-- all that are left to append are 0
pub plain_copied : (plain : ℕ) (taken old now others : List ℕ) (left more sum : ℕ) → CopyLeft plain taken old now others left more → take left others ≡ replicate left 0 → more + left ≡ sum → (now ≡ old ++ zeros_of plain taken) × (sum ≡ plain_at_end plain taken)
plain_copied plain taken old now others left more sum c all e =
    let padded : take left others ≡ replicate left 0 ++ [] = all ∙ sym (append-nil (replicate left 0)) in
    let none : zeros_of more (take left others) ≡ [] = ap (zeros_of more) padded ∙ zeros_behind_plain left more [] in (
      c.underway.appended ∙ ap (λ zs. old ++ zs) (sym (c.underway.whole ∙ ap (λ t. c.underway.front ++ t) none ∙ append-nil c.underway.front)),
      sym e ∙ sym (c.at_end ∙ ap (plain_at_end more) padded ∙ end_behind_plain left more []),
    )

pub taken_plain : (others : List ℕ) (left before count : ℕ) (behind : List ℕ) → PendsAt others before count behind → left ≤ before → take left others ≡ replicate left 0
taken_plain others left before count behind p h = ap (take left) p.is ∙ take-append-le left (replicate before 0) (count ∷ p.later) (omega (arith, h, length-replicate {A = ℕ} before 0)) ∙ take-replicate left before 0 h

pub taken_none : (others : List ℕ) (left : ℕ) → others ≡ replicate (length others) 0 → left ≤ length others → take left others ≡ replicate left 0
taken_none others left all h = ap (take left) all ∙ take-replicate left (length others) 0 h

-- one more of them
module _ (plain : ℕ) (taken old now others : List ℕ) (left more before count : ℕ) (behind : List ℕ) (c : CopyLeft plain taken old now others left more) (p : PendsAt others before count behind) (less : before < left) (gap : ℕ) (is_gap : more + before ≡ gap) where
  split : take left others ≡ replicate before 0 ++ count ∷ take (left - (before + 1)) p.later
  split = ap (take left) p.is ∙ take_entry left before count p.later less

  later_zeros : zeros_of more (take left others) ≡ entry_of gap count ++ zeros_of (plain_behind gap count) (take (left - (before + 1)) p.later)
  later_zeros = ap (zeros_of more) split ∙ zeros_behind_plain before more (count ∷ take (left - (before + 1)) p.later) ∙ ap (λ g. zeros_of g (count ∷ take (left - (before + 1)) p.later)) is_gap

  pub entry_sink : length now + length (entry_of gap count) ≤ length old + length (zeros_of plain taken)
  entry_sink = fits (entry_of gap count) (zeros_of (plain_behind gap count) (take (left - (before + 1)) p.later)) c.underway later_zeros

  pub entry_copied : (new : List ℕ) (then : ℕ) → new ≡ now ++ entry_of gap count → then ≡ plain_behind gap count → CopyLeft plain taken old new p.later (left - (before + 1)) then
  entry_copied new then appended is =
      let long = counts_long others before count p.later p.is in
      record {
        underway = subst (λ n. IsUnderway old new (zeros_of plain taken) (zeros_of n (take (left - (before + 1)) p.later))) (sym is)
            (goes_on new (entry_of gap count) (zeros_of (plain_behind gap count) (take (left - (before + 1)) p.later)) c.underway later_zeros appended);
        at_end = c.at_end ∙ ap (plain_at_end more) split ∙ end_behind_plain before more (count ∷ take (left - (before + 1)) p.later) ∙ ap (λ g. plain_at_end g (count ∷ take (left - (before + 1)) p.later)) is_gap
            ∙ ap (λ n. plain_at_end n (take (left - (before + 1)) p.later)) (sym is);
        enough = omega (arith, c.enough, long, less);
        fit = omega (arith, c.fit, less, is_gap, is, cond-false (count == 0) (suc gap) 0 (ne_eqb count 0 (λ e. omega (arith, e, p.some))));
        short = omega (arith, c.short, long);
      }
