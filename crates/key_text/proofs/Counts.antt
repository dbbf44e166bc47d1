-- There is a count for each byte of a key, and what is left of them while the key is walked.
use Rattle.std.proofs.Common.{◌≡◌, ℕ, zero, suc, ◌+◌, ◌-◌, List, [], ◌∷◌, ◌++◌, length, replicate, refl, sym, ap, subst, ◌∙◌, arith, append-nil, length-append}
use Rattle.std.proofs.lemmas.List.{length-replicate}
use Rattle.jsonb_spec.specs.Proper.{IsProper, IsProperNumber, AreProper, HaveProperParts}
use Rattle.jsonb_spec.specs.SortKey.{key_of, items_key, members_key, number_key, text_key}
use Rattle.jsonb_spec.specs.Tree.{Num, Tree, null, boolean, string, number, array, object, binary, date, timestamp, timestamp_tz, interval, Trees, no_trees, more_trees, Members, no_members, more_members}
use Rattle.jsonb_core.proofs.SortKeys.Kinds.{is_small, number_begins}
use Rattle.jsonb_core.proofs.Trees.Runs.{heads, tails}
use Rattle.jsonb_spec.specs.Document.Counts.{counts_at, counts_at_items, counts_at_members, counts_open, opens_counts, AreZeros}
use Rattle.key_text.specs.Counts.{IsDue}
use Rattle.jsonb_spec.specs.SortKey.Open.{Open, items, members, open_key, IsOpen}
use Rattle.jsonb_spec.specs.SortKey.Steps.{opens_key, AreOpen}

mutual
  pub one_each : (t : Tree) → IsProper t → length (counts_at t) ≡ length (key_of t)
  one_each (number n) p =
      let x = number_begins n (is_small n p) in
      omega (arith, length-replicate {A = ℕ} (length (number_key n) - 1) 0, ap length x.is)
  one_each (array ts) p = ap suc (items_each ts p)
  one_each (object ms) p = ap suc (members_each ms p.1)
  one_each null p = length-replicate {A = ℕ} (length (key_of null)) 0
  one_each (boolean b) p = length-replicate {A = ℕ} (length (key_of (boolean b))) 0
  one_each (string mark bytes) p = length-replicate {A = ℕ} (length (key_of (string mark bytes))) 0
  one_each (binary bytes) p = length-replicate {A = ℕ} (length (key_of (binary bytes))) 0
  one_each (date days) p = length-replicate {A = ℕ} (length (key_of (date days))) 0
  one_each (timestamp micros) p = length-replicate {A = ℕ} (length (key_of (timestamp micros))) 0
  one_each (timestamp_tz offset micros) p = length-replicate {A = ℕ} (length (key_of (timestamp_tz offset micros))) 0
  one_each (interval months days micros) p = length-replicate {A = ℕ} (length (key_of (interval months days micros))) 0

  pub items_each : (ts : Trees) → AreProper ts → length (counts_at_items ts) ≡ length (items_key ts)
  items_each no_trees p = refl
  items_each (more_trees t ts) p =
      omega (arith, length-append (counts_at t) (counts_at_items ts), length-append (key_of t) (items_key ts), one_each t p.0, items_each ts p.1)

  pub members_each : (ms : Members) → HaveProperParts ms → length (counts_at_members ms) ≡ length (members_key ms)
  members_each no_members p = refl
  members_each (more_members k t ms) p =
      omega (
        arith,
        length-append (replicate (length (text_key k)) 0) (counts_at t ++ counts_at_members ms),
        length-replicate {A = ℕ} (length (text_key k)) 0,
        length-append (counts_at t) (counts_at_members ms),
        length-append (text_key k) (key_of t ++ members_key ms),
        length-append (key_of t) (members_key ms),
        one_each t p.1,
        members_each ms p.2,
      )

-- ---- what is left of them

open_each : (o : Open) (left : ℕ) → IsOpen o left → length (counts_open o) ≡ length (open_key o)
open_each (items ts) left h = items_each ts h.0
open_each (members ms) left h = members_each ms h.0

pub opens_each : (opens : List Open) (left : ℕ) → AreOpen opens left → length (opens_counts opens) ≡ length (opens_key opens)
opens_each [] left a = refl
opens_each (o ∷ os) left a =
    omega (arith, length-append (counts_open o) (opens_counts os), length-append (open_key o) (opens_key os), open_each o left a.0, opens_each os (suc left) a.1)

-- ---- bytes that are passed

pub replicate_more : (m n : ℕ) (xs : List ℕ) → replicate m 0 ++ (replicate n 0 ++ xs) ≡ replicate (m + n) 0 ++ xs
replicate_more zero n xs = ap (λ k. replicate k 0 ++ xs) {x = n} {y = 0 + n} (omega arith)
replicate_more (suc m) n xs = ap (λ t. 0 ∷ t) (replicate_more m n xs) ∙ ap (λ k. replicate k 0 ++ xs) {x = suc (m + n)} {y = suc m + n} (omega arith)

module _ (Due : List ℕ → Type 0) where
  pub due_as : (counts others : List ℕ) → counts ≡ others → IsDue Due counts → IsDue Due others
  due_as counts others e d = record { passed = d.passed; due = subst (λ cs. Due (replicate d.passed 0 ++ cs)) e d.due }

  -- of a whole key
  pub all_due : (counts : List ℕ) → Due counts → IsDue Due (counts ++ [])
  all_due counts d = record { passed = 0; due = subst Due (sym (append-nil counts)) d }

  -- behind bytes with which no number begins
  pub due_behind : (n : ℕ) (counts : List ℕ) → IsDue Due (replicate n 0 ++ counts) → IsDue Due counts
  due_behind n counts d = record { passed = d.passed + n; due = subst Due (replicate_more d.passed n counts) d.due }

  -- behind a value that is no number, and no array or object
  pub due_behind_plain : (t : Tree) (counts : List ℕ) → AreZeros (counts_at t) → IsDue Due (counts_at t ++ counts) → IsDue Due counts
  due_behind_plain t counts zeros d = due_behind zeros.size counts (due_as (counts_at t ++ counts) (replicate zeros.size 0 ++ counts) (ap (λ cs. cs ++ counts) zeros.all) d)

-- where no number ends in zeros, the next one doesn't
pub none_next : (passed size count : ℕ) (counts : List ℕ) → replicate passed 0 ++ count ∷ counts ≡ replicate size 0 → (count ≡ 0) × AreZeros counts
none_next zero zero count counts e = absurd (omega (arith, ap length e))
none_next zero (suc size) count counts e = (heads count 0 counts (replicate size 0) e, record { size = size; all = tails count 0 counts (replicate size 0) e })
none_next (suc passed) zero count counts e = absurd (omega (arith, ap length e))
none_next (suc passed) (suc size) count counts e = none_next passed size count counts (tails 0 0 (replicate passed 0 ++ count ∷ counts) (replicate size 0) e)

-- ---- a number

-- the counts of the bytes behind the first one of a number's key
abbrev pub behind_first : Num → List ℕ → List ℕ
behind_first n counts = replicate (length (number_key n) - 1) 0 ++ counts

pub number_left : (n : Num) → IsProperNumber n → (bytes more counts : List ℕ) → bytes ≡ number_key n ++ more → length counts ≡ length more → length bytes ≡ suc (length (behind_first n counts))
number_left n p bytes more counts e each =
    let x = number_begins n (is_small n p) in
    omega (
      arith,
      ap length e,
      length-append (number_key n) more,
      length-append (replicate (length (number_key n) - 1) 0) counts,
      length-replicate {A = ℕ} (length (number_key n) - 1) 0,
      ap length x.is,
      each,
    )
