-- Documents and texts tell the same values apart.
use Rattle.std.proofs.Common.{◌≡◌, ℕ, suc, ◌+◌, inl, inr, List, [], ◌∷◌, ◌++◌, length, reverse, refl, sym, ap, ap₂, subst, ◌∙◌, arith, append-nil, length-append}
use Rattle.std.proofs.lemmas.Bool.{cases_eq}
use Rattle.key_value.proofs.Texts.{some_same}
use Rattle.jsonb_spec.specs.SortKey.Readable.{IsAnyNumber, IsReadable}
use Rattle.jsonb_spec.specs.Grammar.{max_depth}
use Rattle.jsonb_spec.specs.Proper.{IsProper}
use Rattle.jsonb_spec.specs.SortKey.{key_of}
use Rattle.jsonb_spec.specs.Text.{tree_text}
use Rattle.jsonb_spec.specs.Text.Range.{HasFewDigits, IsInRange}
use Rattle.jsonb_spec.specs.Tree.{Tree}
use Rattle.jsonb_core.proofs.SortKeys.Trees.{keys_same}
use Rattle.jsonb_core.proofs.Trees.OneText.{one_tree, IsShort}
use Rattle.jsonb_core.proofs.Trees.Ranges.{widened}
use Rattle.jsonb_core.proofs.Trees.Runs.{heads, tails}
use Rattle.jsonb_spec.specs.Document.{behind_key, document_of, zeros_at, EndsUnlike}
use Rattle.key_document.proofs.Agreeing.{same_back}
use Rattle.key_document.proofs.Backwards.{turned_back, turned_number}
use Rattle.key_document.proofs.Endings.{key_ends}
use Rattle.key_document.proofs.Tails.{but_last, same_last, tail_cases}
use Rattle.key_document.proofs.Twins.{split_same, twins}
use Rattle.jsonb_spec.specs.Document.Scan.{ending_of}
use Rattle.key_zeros.specs.Scan.{ZerosAhead}
use Rattle.jsonb_spec.specs.Document.Zeros.{counts_in, in_sevens, zeros_of}
use Rattle.key_zeros.proofs.Ahead.{ends_so, zeros_ahead}
use Rattle.key_zeros.proofs.Sevens.{some_sevens}
use Rattle.key_zeros.proofs.Splitting.{entry_first, plain_first}
use Rattle.key_zeros.proofs.Taking.{pend}
use Rattle.key_zeros.proofs.Telling.{sevens_same, text_reported}
use Rattle.jsonb_spec.specs.Document.Counts.{counts_at}

-- ---- the key and the zeros of a document

module _ (key zeros other others : List ℕ) (ends : EndsUnlike 255 key) (also : EndsUnlike 255 other) (e : key ++ behind_key zeros ≡ other ++ behind_key others) where
  both_some : but_last key zeros ≡ but_last other others → (key ≡ other) × (zeros ≡ others)
  both_some same =
      let r = sym (turned_number (but_last key zeros) (key ++ zeros) (length zeros) refl) ∙ ap reverse same ∙ turned_number (but_last other others) (other ++ others) (length others) refl in
      let s = sevens_same 8 (length zeros) (length others) (reverse (key ++ zeros)) (reverse (other ++ others)) r in
      let all = turned_back (key ++ zeros) (other ++ others) s.1 in
      split_same key other zeros others (omega (arith, s.0, ap length all, length-append key zeros, length-append other others)) all

  pub same_parts : (key ≡ other) × (zeros ≡ others)
  same_parts = elim (tail_cases key zeros (key ++ behind_key zeros) refl) [
    | inl x ↦ elim (tail_cases other others (key ++ behind_key zeros) e) [
      | inl y ↦ (sym x.1 ∙ y.1, x.0 ∙ sym y.0)
      | inr y ↦ absurd (ends.other ((same_last ends.front (but_last other others) ends.last 255 (sym ends.is ∙ sym x.1 ∙ y)).1))
    ]
    | inr x ↦ elim (tail_cases other others (key ++ behind_key zeros) e) [
      | inl y ↦ absurd (also.other ((same_last also.front (but_last key zeros) also.last 255 (sym also.is ∙ sym y.1 ∙ x)).1))
      | inr y ↦ both_some ((same_last (but_last key zeros) (but_last other others) 255 255 (sym x ∙ y)).0)
    ]
  ]

-- ---- zeros tell their counts

-- a count above 0 isn't where there is none
not_later : (plain y : ℕ) (xs ys : List ℕ) → zeros_of (suc plain) xs ≡ in_sevens 8 plain ++ y ∷ zeros_of 0 ys → ⊥
not_later plain y xs ys e = elim (pend (suc plain) xs) [
  | inl x ↦ omega (arith, ap length (sym x.none ∙ e), length-append (in_sevens 8 plain) (y ∷ zeros_of 0 ys), some_sevens 8 plain)
  | inr x ↦ omega (arith, (sevens_same 8 (suc plain + x.before) plain (x.count ∷ zeros_of 0 x.later) (y ∷ zeros_of 0 ys) (sym x.zeros ∙ e)).0)
]

counts_same : (plain : ℕ) (xs ys : List ℕ) → length xs ≡ length ys → zeros_of plain xs ≡ zeros_of plain ys → xs ≡ ys
counts_same plain [] [] l e = refl
counts_same plain [] (y ∷ ys) l e = absurd (omega (arith, l))
counts_same plain (x ∷ xs) [] l e = absurd (omega (arith, l))
counts_same plain (x ∷ xs) (y ∷ ys) l e = elim (cases_eq x 0) [
  | inl p ↦ elim (cases_eq y 0) [
    | inl q ↦
        let rest = counts_same (suc plain) xs ys (omega (arith, l)) (sym (plain_first plain x xs p) ∙ e ∙ plain_first plain y ys q) in
        ap₂ (λ a b. a ∷ b) (p ∙ sym q) rest
    | inr q ↦ absurd (not_later plain y xs ys (sym (plain_first plain x xs p) ∙ e ∙ entry_first plain y ys (omega (arith, q))))
  ]
  | inr p ↦ elim (cases_eq y 0) [
    | inl q ↦ absurd (not_later plain x ys xs (sym (plain_first plain y ys q) ∙ sym e ∙ entry_first plain x xs (omega (arith, p))))
    | inr q ↦
        let both = same_back (in_sevens 8 plain) (x ∷ zeros_of 0 xs) (y ∷ zeros_of 0 ys) (sym (entry_first plain x xs (omega (arith, p))) ∙ e ∙ entry_first plain y ys (omega (arith, q))) in
        let rest = counts_same 0 xs ys (omega (arith, l)) (tails x y (zeros_of 0 xs) (zeros_of 0 ys) both) in
        ap₂ (λ a b. a ∷ b) (heads x y (zeros_of 0 xs) (zeros_of 0 ys) both) rest
  ]
]

-- ---- one document, one text

pub one_text : (t u : Tree) → IsReadable t → IsReadable u → document_of t ≡ document_of u → tree_text t ≡ tree_text u
one_text t u r s e =
    let x = same_parts (key_of t) (zeros_at t) (key_of u) (zeros_at u) (key_ends t max_depth r.proper r.within) (key_ends u max_depth s.proper s.within) e in
    let y = twins t u max_depth r.proper s.proper r.within s.within x.0 in
    let counts = y.counts.to_numbers (counts_same 0 (counts_at t) (counts_at u) y.counts.long x.1) in
    text_reported t u r s y.text (ap (zeros_of 0) counts)

-- ---- one text, one document

ahead_same : (xs ys text : List ℕ) → ZerosAhead xs text → ZerosAhead ys text → xs ≡ ys
ahead_same [] [] text a b = refl
ahead_same [] (y ∷ ys) text a b = absurd (omega (arith, b.3, ap length (some_same b.0 [] (sym b.4 ∙ a))))
ahead_same (x ∷ xs) [] text a b = absurd (omega (arith, a.3, ap length (some_same a.0 [] (sym a.4 ∙ b))))
ahead_same (x ∷ xs) (y ∷ ys) text a b =
    let number = some_same a.0 b.0 (sym a.4 ∙ b.4) in
    let e = ends_so a.1 b.1 x y a.2 b.2 (sym a.5 ∙ ap (ending_of _ 0) number ∙ b.5) in
    ap₂ (λ c cs. c ∷ cs) e.0 (ahead_same xs ys b.2 (subst (ZerosAhead xs) e.1 a.7) b.7)

readable : (t : Tree) → IsProper t → IsInRange t → IsReadable t
readable t p i = record { proper = p; within = widened HasFewDigits IsAnyNumber (λ n q few. tt) t max_depth p i }

pub one_document : (t u : Tree) → IsProper t → IsProper u → IsInRange t → IsInRange u → tree_text t ≡ tree_text u → document_of t ≡ document_of u
one_document t u p q i j e =
    let r = readable t p i in
    let s = readable u q j in
    let w = widened HasFewDigits IsShort (λ n p few. few.1) t max_depth r.proper i in
    let v = widened HasFewDigits IsShort (λ n p few. few.1) u max_depth s.proper j in
    let same = one_tree t u max_depth max_depth [] [] w v tt tt (append-nil (tree_text t) ∙ e ∙ sym (append-nil (tree_text u))) in
    let key = (keys_same t u r.proper s.proper).1 same.0 in
    let y = twins t u max_depth r.proper s.proper r.within s.within key in
    let counts = ahead_same (counts_in t) (counts_in u) (tree_text t) (zeros_ahead t r) (subst (ZerosAhead (counts_in u)) (sym e) (zeros_ahead u s)) in
    ap₂ (λ k cs. k ++ behind_key (zeros_of 0 cs)) key (y.counts.to_bytes counts)
