-- What is left of the zeros behind the first bytes of a key.
use Rattle.std.proofs.Common.{◌≡◌, ℕ, zero, suc, ◌+◌, ◌-◌, ◌<◌, ◌≤◌, ◌==◌, ◌⊎◌, inl, inr, List, ◌∷◌, ◌++◌, length, take, drop, get_or, replicate, refl, sym, ap, subst, ◌∙◌, arith, append_assoc, length-append}
use Rattle.std.proofs.lemmas.Bool.{cond-false, ne_eqb}
use Rattle.std.proofs.lemmas.List.{drop-append-le, drop-drop, drop_at, length-drop, take-append-drop, take_at}
use Rattle.jsonb_spec.specs.Proper.{IsProper}
use Rattle.jsonb_spec.specs.SortKey.{key_of}
use Rattle.jsonb_spec.specs.Tree.{Tree}
use Rattle.jsonb_spec.specs.Document.PartAt.{IsPartAt}
use Rattle.key_document.specs.Cursor.{IsLeftAt, IsLeftBehind, IsLeftOf}
use Rattle.jsonb_spec.specs.Document.{zeros_at}
use Rattle.key_document.specs.declared.cursor.ZerosLeft.{ZerosLeft}
use Rattle.key_text.proofs.Counts.{one_each}
use Rattle.jsonb_spec.specs.Document.Numbers.{PendsAt}
use Rattle.jsonb_spec.specs.Document.Zeros.{entry_of, plain_at_end, plain_behind, zeros_of}
use Rattle.key_zeros.proofs.Joining.{zeros_joined}
use Rattle.jsonb_spec.specs.Document.Counts.{counts_at}
use Rattle.key_zeros.proofs.Taking.{zeros_behind_plain}

-- what is left at the end is found by its length
dropped : (all front others : List ℕ) → all ≡ front ++ others → drop (length all - length others) all ≡ others
dropped all front others e = ap (drop (length all - length others)) e ∙ drop_at front others (length all - length others) (omega (arith, ap length e, length-append front others))

-- the entries behind the first one that pends are at the end of all
pub entries_behind : (zeros front rest : List ℕ) (before count : ℕ) (others : List ℕ) → zeros ≡ zeros_of 0 (front ++ rest) → PendsAt rest before count others → drop (length zeros - length others) zeros ≡ others
entries_behind zeros front rest before count others z p =
    let plain = plain_at_end 0 front in
    let entry = entry_of (plain + before) count in
    let none : plain_behind (plain + before) count ≡ 0 = cond-false (count == 0) (suc (plain + before)) 0 (ne_eqb count 0 (λ e. omega (arith, e, p.some))) in
    let behind : zeros_of plain rest ≡ entry ++ others =
    ap (zeros_of plain) p.is ∙ zeros_behind_plain before plain (count ∷ p.later) ∙ ap (λ n. entry ++ zeros_of n p.later) none ∙ ap (λ zs. entry ++ zs) (sym p.zeros) in
    dropped zeros (zeros_of 0 front ++ entry) others (z ∙ zeros_joined 0 front rest ∙ ap (λ zs. zeros_of 0 front ++ zs) behind ∙ sym (append_assoc (zeros_of 0 front) entry others))

-- the first bytes of a key, and those behind them
pub halves : (n : ℕ) (counts : List ℕ) → counts ≡ take n counts ++ drop n counts
halves n counts = sym (take-append-drop n counts)

-- the counts behind bytes before a part are some, those of the part, and those behind it
pub behind_some : (passed : ℕ) (counts before others : List ℕ) → counts ≡ before ++ others → passed ≤ length before → drop passed counts ≡ drop passed before ++ others
behind_some passed counts before others e h = ap (drop passed) e ∙ drop-append-le passed before others h

-- the counts behind a part
pub behind_part : (end : ℕ) (counts before part behind : List ℕ) → counts ≡ before ++ (part ++ behind) → end ≡ length before + length part → drop end counts ≡ behind
behind_part end counts before part behind e h =
    ap (drop end) (e ∙ sym (append_assoc before part behind)) ∙ drop_at (before ++ part) behind end (omega (arith, h, length-append before part))

-- ---- what is reported

pub left_at : (t : Tree) (offset : ℕ) (zeros : List ℕ) (left : ZerosLeft) → offset ≤ length (key_of t) → zeros ≡ zeros_at t → left.passed ≡ offset → IsLeftOf (drop offset (counts_at t)) zeros left → IsLeftAt t offset left
left_at t offset zeros left h z p x = (p, record { within = omega (arith, h, p); rest = subst (λ n. IsLeftOf (drop n (counts_at t)) (zeros_at t) left) (sym p) (subst (λ zs. IsLeftOf (drop offset (counts_at t)) zs left) z x) })

-- the bytes of a part, by its range
pub part_there : (key before part behind : List ℕ) (offset size : ℕ) → key ≡ before ++ (part ++ behind) → length before ≡ offset → size ≡ length part → take size (drop offset key) ≡ part
part_there key before part behind offset size e at long = ap (λ k. take size (drop offset k)) e ∙ ap (take size) (drop_at before (part ++ behind) offset at) ∙ take_at part behind size (sym long)

-- The counts of a part, and those before it behind what is passed.
pub record NextCounts (t part : Tree) (left : ZerosLeft) (offset size : ℕ) : Type 0 where
  pub before : List ℕ
  pub behind : List ℕ
  pub same : drop left.passed (counts_at t) ≡ before ++ (counts_at part ++ behind)
  pub gap : length before ≡ offset - left.passed
  pub size_is : length (counts_at part) ≡ size
  pub fit : length (before ++ (counts_at part ++ behind)) ≤ length (key_of t)
  pub front : List ℕ
  pub all : counts_at t ≡ front ++ behind
  pub rest : drop (offset + size) (counts_at t) ≡ behind
  pub within : offset + size ≤ length (key_of t)

pub next_counts : (t part : Tree) (left : ZerosLeft) (offset size : ℕ) → IsProper t → IsProper part → left.passed ≤ offset → IsPartAt t offset part → size ≡ length (key_of part) → NextCounts t part left offset size
next_counts t part left offset size p q h at s =
    let b = at.2 in
    let long : length b.counts_before ≡ offset = b.one_each ∙ at.1 in
    let each : length (counts_at part) ≡ size = one_each part q ∙ sym s in
    let one = one_each t p in
    let enough = length-append b.counts_before (counts_at part ++ b.counts_behind) in
    let more = length-append (counts_at part) b.counts_behind in
    let sum = ap length b.counts_are in
    let gap : length (drop left.passed b.counts_before) ≡ offset - left.passed = omega (arith, length-drop left.passed b.counts_before, long) in
    record {
      before = drop left.passed b.counts_before;
      behind = b.counts_behind;
      same = behind_some left.passed (counts_at t) b.counts_before (counts_at part ++ b.counts_behind) b.counts_are (omega (arith, h, long));
      gap = gap;
      size_is = each;
      fit = omega (arith, one, enough, sum, length-append (drop left.passed b.counts_before) (counts_at part ++ b.counts_behind), gap, long);
      front = b.counts_before ++ counts_at part;
      all = b.counts_are ∙ sym (append_assoc b.counts_before (counts_at part) b.counts_behind);
      rest = behind_part (offset + size) (counts_at t) b.counts_before (counts_at part) b.counts_behind b.counts_are (omega (arith, long, each));
      within = omega (arith, one, enough, more, sum, long, each);
    }

-- ---- the count of one byte

-- before the first count above 0 each is 0
pub zero_before : (gap before : ℕ) (rest : List ℕ) → gap < before → get_or (drop gap (replicate before 0 ++ rest)) 0 0 ≡ 0
zero_before gap zero rest h = absurd (omega (arith, h))
zero_before zero (suc before) rest h = refl
zero_before (suc gap) (suc before) rest h = zero_before gap before rest (omega (arith, h))

same_zero : ◌≡◌ {A = ℕ} 0 0
same_zero = refl

pub zero_among : (gap size : ℕ) → get_or (drop gap (replicate {A = ℕ} size 0)) 0 0 ≡ 0
zero_among zero zero = same_zero
zero_among (suc gap) zero = same_zero
zero_among zero (suc size) = same_zero
zero_among (suc gap) (suc size) = zero_among gap size

-- where nothing is left or more bytes come before it, this byte has none
pub no_zeros : (t : Tree) (left : ZerosLeft) (offset : ℕ) → IsLeftBehind t left → left.passed ≤ offset → (left.count ≡ 0) ⊎ (offset - left.passed < left.before) → get_or (drop offset (counts_at t)) 0 0 ≡ 0
no_zeros t left offset l h none =
    let gap = offset - left.passed in
    let counts = drop left.passed (counts_at t) in
    let sum : left.passed + gap ≡ offset = omega (arith, h) in
    let here : drop gap counts ≡ drop offset (counts_at t) = drop-drop gap left.passed (counts_at t) ∙ ap (λ n. drop n (counts_at t)) sum in
    ap (λ cs. get_or cs 0 0) (sym here) ∙ elim l.rest [
      | inl x ↦ ap (λ cs. get_or (drop gap cs) 0 0) x.1 ∙ zero_among gap (length counts)
      | inr p ↦ elim none [
        | inl z ↦ absurd (omega (arith, z, p.some))
        | inr few ↦ ap (λ cs. get_or (drop gap cs) 0 0) p.is ∙ zero_before gap left.before (left.count ∷ p.later) few
      ]
    ]
