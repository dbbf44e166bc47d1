-- The shortest text and the zeros determine the text.
use Rattle.std.proofs.Common.{◌≡◌, ℕ, zero, suc, ◌+◌, ◌/◌, ◌%◌, ◌<◌, inl, inr, List, ◌∷◌, ◌++◌, length, sym, ap, ◌∙◌, arith, length-append}
use Rattle.std.proofs.lemmas.Bool.{cases_lt}
use Rattle.std.proofs.lemmas.List.{append_cancel_right}
use Rattle.jsonb_spec.specs.SortKey.Readable.{IsReadable}
use Rattle.jsonb_spec.specs.Text.{tree_text}
use Rattle.jsonb_spec.specs.Text.NumberText.{number_text}
use Rattle.jsonb_spec.specs.Tree.{Tree}
use Rattle.jsonb_core.proofs.Trees.Runs.{heads, tails}
use Rattle.jsonb_spec.specs.SortKey.FewestDigits.{with_fewest_digits}
use Rattle.jsonb_spec.specs.Document.Counts.{ending_text}
use Rattle.key_zeros.specs.Scan.{after_numbers}
use Rattle.jsonb_spec.specs.Document.Zeros.{in_sevens, zeros_of, zeros_in}
use Rattle.key_zeros.proofs.NumberedTexts.{NumberedText, bytes_with, counts_of, shortest_text, IsNumbered, numbers_of}
use Rattle.key_zeros.proofs.Sevens.{few, many, last, some_sevens}
use Rattle.key_zeros.proofs.Splitting.{NextEntry, split}
use Rattle.key_zeros.proofs.Restoring.{same_number}

-- a number in groups of seven bits is separated from what follows
pub sevens_same : (more n m : ℕ) (xs ys : List ℕ) → in_sevens more n ++ xs ≡ in_sevens more m ++ ys → (n ≡ m) × (xs ≡ ys)
sevens_same zero n m xs ys e =
    let there : n ∷ xs ≡ m ∷ ys = sym (ap (λ t. t ++ xs) (last n)) ∙ e ∙ ap (λ t. t ++ ys) (last m) in
    (heads n m xs ys there, tails n m xs ys there)
sevens_same (suc more) n m xs ys e = elim (cases_lt n 128) [
  | inl low ↦ elim (cases_lt m 128) [
    | inl also ↦
        let there : n ∷ xs ≡ m ∷ ys = sym (ap (λ t. t ++ xs) (few (suc more) n low)) ∙ e ∙ ap (λ t. t ++ ys) (few (suc more) m also) in
        (heads n m xs ys there, tails n m xs ys there)
    | inr high ↦
        let there : n ∷ xs ≡ (128 + m % 128) ∷ (in_sevens more (m / 128) ++ ys) = sym (ap (λ t. t ++ xs) (few (suc more) n low)) ∙ e ∙ ap (λ t. t ++ ys) (many more m high) in
        absurd (omega (arith, low, heads n (128 + m % 128) xs (in_sevens more (m / 128) ++ ys) there))
  ]
  | inr high ↦ elim (cases_lt m 128) [
    | inl low ↦
        let there : (128 + n % 128) ∷ (in_sevens more (n / 128) ++ xs) ≡ m ∷ ys = sym (ap (λ t. t ++ xs) (many more n high)) ∙ e ∙ ap (λ t. t ++ ys) (few (suc more) m low) in
        absurd (omega (arith, low, heads (128 + n % 128) m (in_sevens more (n / 128) ++ xs) ys there))
    | inr also ↦
        let there : (128 + n % 128) ∷ (in_sevens more (n / 128) ++ xs) ≡ (128 + m % 128) ∷ (in_sevens more (m / 128) ++ ys) = sym (ap (λ t. t ++ xs) (many more n high)) ∙ e ∙ ap (λ t. t ++ ys) (many more m also) in
        let low = heads (128 + n % 128) (128 + m % 128) (in_sevens more (n / 128) ++ xs) (in_sevens more (m / 128) ++ ys) there in
        let others = sevens_same more (n / 128) (m / 128) xs ys (tails (128 + n % 128) (128 + m % 128) (in_sevens more (n / 128) ++ xs) (in_sevens more (m / 128) ++ ys) there) in
        (omega (arith, low, others.0), others.1)
  ]
]

-- some bytes are stored of a number that zeros end
entry_some : (plain : ℕ) (k : NumberedText) → NextEntry plain k → 0 < length (zeros_of plain (counts_of k))
entry_some plain k x = omega (arith, ap length x.zeros, length-append (in_sevens 8 (plain + x.before)) (x.zeros_there ∷ zeros_of 0 (counts_of x.later)))

same_text : (bound : ℕ) (k l : NumberedText) → IsNumbered k → IsNumbered l → length (zeros_of 0 (counts_of k)) < bound → bytes_with shortest_text k ≡ bytes_with shortest_text l → zeros_of 0 (counts_of k) ≡ zeros_of 0 (counts_of l) → bytes_with number_text k ≡ bytes_with number_text l
same_text zero k l p q small short zeros = absurd (omega (arith, small))
same_text (suc bound) k l p q small short zeros = elim (split 0 k p) [
  | inl x ↦ elim (split 0 l q) [
    | inl y ↦ x.same ∙ short ∙ sym y.same
    | inr y ↦ absurd (omega (arith, ap length (sym x.none ∙ zeros), entry_some 0 l y))
  ]
  | inr x ↦ elim (split 0 l q) [
    | inl y ↦ absurd (omega (arith, ap length (zeros ∙ y.none), entry_some 0 k x))
    | inr y ↦
        let laterx = zeros_of 0 (counts_of x.later) in
        let latery = zeros_of 0 (counts_of y.later) in
        let entry = sevens_same 8 (0 + x.before) (0 + y.before) (x.zeros_there ∷ laterx) (y.zeros_there ∷ latery) (sym x.zeros ∙ zeros ∙ y.zeros) in
        let before : x.before ≡ y.before = omega (arith, entry.0) in
        let count = heads x.zeros_there y.zeros_there laterx latery entry.1 in
        let behind = tails x.zeros_there y.zeros_there laterx latery entry.1 in
        let number = same_number x.has_point y.has_point (bytes_with shortest_text x.later) (bytes_with shortest_text y.later)
        (sym x.found ∙ (λ i. after_numbers (before i) (short i)) ∙ y.found) in
        let front : x.front ≡ y.front = append_cancel_right x.front y.front (bytes_with shortest_text y.later) (ap (λ t. x.front ++ t) (sym number.1) ∙ sym x.short ∙ short ∙ y.short) in
        let fewer : length (zeros_of 0 (counts_of x.later)) < bound = omega (arith, small, ap length x.zeros, length-append (in_sevens 8 (0 + x.before)) (x.zeros_there ∷ laterx), some_sevens 8 (0 + x.before)) in
        let rest = same_text bound x.later y.later x.is_numbered y.is_numbered fewer number.1 behind in
        x.full ∙ (λ i. (front i ++ ending_text (number.0 i) (count i)) ++ rest i) ∙ sym y.full
  ]
]

pub text_reported : (t u : Tree) → IsReadable t → IsReadable u → tree_text (with_fewest_digits t) ≡ tree_text (with_fewest_digits u) → zeros_in t ≡ zeros_in u → tree_text t ≡ tree_text u
text_reported t u r s short zeros =
    let x = numbers_of t r in
    let y = numbers_of u s in
    x.full
    ∙ same_text (suc (length (zeros_of 0 (counts_of x.text)))) x.text y.text x.is_numbered y.is_numbered (omega arith) (sym x.shortest ∙ short ∙ y.shortest) (sym (ap (zeros_of 0) x.counts) ∙ zeros ∙ ap (zeros_of 0) y.counts)
    ∙ sym y.full
