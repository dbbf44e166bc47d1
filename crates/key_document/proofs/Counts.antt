-- The counts of the bytes of a key, and of a part's key in it.
use Rattle.std.proofs.Common.{◌≡◌, ℕ, inl, inr, List, [], ◌∷◌, ◌++◌, length, take, drop, replicate, refl, sym, ap, subst, ◌∙◌, arith, append_assoc, append-nil, length-append}
use Rattle.std.proofs.lemmas.List.{length-replicate}
use Rattle.std.proofs.Math.Seq.{drop-append_seam, take-append_seam}
use Rattle.jsonb_spec.specs.Proper.{IsProper, AreProper, HaveProperParts}
use Rattle.jsonb_spec.specs.SortKey.{key_of, items_key, members_key, text_key}
use Rattle.jsonb_spec.specs.Tree.{Tree, null, boolean, string, number, array, object, binary, date, timestamp, timestamp_tz, interval, Trees, no_trees, more_trees, Members, no_members, more_members}
use Rattle.key_text.proofs.Counts.{one_each}
use Rattle.jsonb_spec.specs.Document.PartAt.{IsBehind, IsPartBehind}
use Rattle.jsonb_spec.specs.Document.Numbers.{counts_taken}
use Rattle.jsonb_spec.specs.Document.PartsOf.{IsWhole, OccursIn, OccursInItems, OccursInMembers}
use Rattle.jsonb_spec.specs.Document.Counts.{counts_at, counts_at_items, counts_at_members}
use Rattle.key_walk.proofs.Occurrence.{regroup}

-- ---- a part

whole_behind : (t : Tree) (before : List ℕ) (numbers : ℕ) (part : Tree) → IsWhole t before numbers part → IsPartBehind t before part
whole_behind t before numbers part w =
    subst (λ p. IsPartBehind t before p) (sym w.2)
    (subst (λ b. IsPartBehind t b t) (sym w.0)
    (record { counts_before = []; one_each = refl; behind = []; counts_behind = []; key_is = sym (append-nil (key_of t)); counts_are = sym (append-nil (counts_at t)) }))

more_behind : (key counts before more others : List ℕ) (part : Tree) → IsBehind key counts before part → IsBehind (key ++ more) (counts ++ others) before part
more_behind key counts before more others part x = record {
  counts_before = x.counts_before;
  one_each = x.one_each;
  behind = x.behind ++ more;
  counts_behind = x.counts_behind ++ others;
  key_is = ap (λ l. l ++ more) x.key_is ∙ regroup before (key_of part) x.behind more;
  counts_are = ap (λ l. l ++ others) x.counts_are ∙ regroup x.counts_before (counts_at part) x.counts_behind others;
}

more_before : (key counts before first inner firsts : List ℕ) (part : Tree) → length firsts ≡ length first → before ≡ first ++ inner → IsBehind key counts inner part → IsBehind (first ++ key) (firsts ++ counts) before part
more_before key counts before first inner firsts part each is x = record {
  counts_before = firsts ++ x.counts_before;
  one_each = omega (arith, length-append firsts x.counts_before, length-append first inner, ap length is, each, x.one_each);
  behind = x.behind;
  counts_behind = x.counts_behind;
  key_is = ap (λ l. first ++ l) x.key_is ∙ sym (append_assoc first inner (key_of part ++ x.behind)) ∙ ap (λ l. l ++ (key_of part ++ x.behind)) (sym is);
  counts_are = ap (λ l. firsts ++ l) x.counts_are ∙ sym (append_assoc firsts x.counts_before (counts_at part ++ x.counts_behind));
}

mutual
  pub part_behind : (t : Tree) → IsProper t → (before : List ℕ) (numbers : ℕ) (part : Tree) → OccursIn t before numbers part → IsPartBehind t before part
  part_behind (array ts) p before numbers part (inl w) = whole_behind (array ts) before numbers part w
  part_behind (array ts) p before numbers part (inr x) =
      more_before (items_key ts) (counts_at_items ts) before (210 ∷ []) x.0 (0 ∷ []) part refl x.1 (items_behind ts p x.0 numbers part x.2)
  part_behind (object ms) p before numbers part (inl w) = whole_behind (object ms) before numbers part w
  part_behind (object ms) p before numbers part (inr x) =
      more_before (members_key ms) (counts_at_members ms) before (209 ∷ []) x.0 (0 ∷ []) part refl x.1 (members_behind ms p.1 x.0 numbers part x.2)
  part_behind null p before numbers part w = whole_behind null before numbers part w
  part_behind (boolean b) p before numbers part w = whole_behind (boolean b) before numbers part w
  part_behind (string mark bytes) p before numbers part w = whole_behind (string mark bytes) before numbers part w
  part_behind (number n) p before numbers part w = whole_behind (number n) before numbers part w
  part_behind (binary bytes) p before numbers part w = whole_behind (binary bytes) before numbers part w
  part_behind (date days) p before numbers part w = whole_behind (date days) before numbers part w
  part_behind (timestamp micros) p before numbers part w = whole_behind (timestamp micros) before numbers part w
  part_behind (timestamp_tz offset micros) p before numbers part w = whole_behind (timestamp_tz offset micros) before numbers part w
  part_behind (interval months days micros) p before numbers part w = whole_behind (interval months days micros) before numbers part w

  items_behind : (ts : Trees) → AreProper ts → (before : List ℕ) (numbers : ℕ) (part : Tree) → OccursInItems ts before numbers part → IsBehind (items_key ts) (counts_at_items ts) before part
  items_behind no_trees p before numbers part s = absurd s
  items_behind (more_trees t ts) p before numbers part (inl s) =
      more_behind (key_of t) (counts_at t) before (items_key ts) (counts_at_items ts) part (part_behind t p.0 before numbers part s)
  items_behind (more_trees t ts) p before numbers part (inr x) =
      more_before (items_key ts) (counts_at_items ts) before (key_of t) x.0 (counts_at t) part (one_each t p.0) x.2 (items_behind ts p.1 x.0 x.1 part x.4)

  members_behind : (ms : Members) → HaveProperParts ms → (before : List ℕ) (numbers : ℕ) (part : Tree) → OccursInMembers ms before numbers part → IsBehind (members_key ms) (counts_at_members ms) before part
  members_behind no_members p before numbers part s = absurd s
  members_behind (more_members k t ms) p before numbers part (inl x) =
      more_before (key_of t ++ members_key ms) (counts_at t ++ counts_at_members ms) before (text_key k) x.0 (replicate (length (text_key k)) 0) part
      (length-replicate {A = ℕ} (length (text_key k)) 0) x.1
      (more_behind (key_of t) (counts_at t) x.0 (members_key ms) (counts_at_members ms) part (part_behind t p.1 x.0 numbers part x.2))
  members_behind (more_members k t ms) p before numbers part (inr x) =
      more_before (key_of t ++ members_key ms) (counts_at t ++ counts_at_members ms) before (text_key k) (key_of t ++ x.0) (replicate (length (text_key k)) 0) part
      (length-replicate {A = ℕ} (length (text_key k)) 0) x.2
      (more_before (members_key ms) (counts_at_members ms) (key_of t ++ x.0) (key_of t) x.0 (counts_at t) part (one_each t p.1) refl (members_behind ms p.2 x.0 x.1 part x.4))

pub zeros_of_part : (t part : Tree) (before : List ℕ) → IsProper part → IsPartBehind t before part → counts_taken (length before) (length (key_of part)) (counts_at t) ≡ counts_at part
zeros_of_part t part before p x =
    ap (λ n. take n (drop (length before) (counts_at t))) (sym (one_each part p))
    ∙ ap (λ n. take (length (counts_at part)) (drop n (counts_at t))) (sym x.one_each)
    ∙ ap (λ cs. take (length (counts_at part)) (drop (length x.counts_before) cs)) x.counts_are
    ∙ ap (take (length (counts_at part))) (drop-append_seam x.counts_before (counts_at part ++ x.counts_behind))
    ∙ take-append_seam (counts_at part) x.counts_behind
