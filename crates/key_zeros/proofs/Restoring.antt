-- What is appended while zeros are put into a text.
use Rattle.std.proofs.Common.{◌≡◌, ℕ, ◌+◌, ◌<◌, ◌≤◌, inl, inr, Bool, true, false, if◌then◌else◌, replicate, List, [], ◌∷◌, ◌++◌, Option, Some, None, length, refl, sym, ap, ◌∙◌, arith, append-nil, length-append}
use Rattle.jsonb_spec.specs.SortKey.Readable.{IsReadable}
use Rattle.jsonb_spec.specs.Text.{tree_text}
use Rattle.jsonb_spec.specs.Text.NumberText.{number_text}
use Rattle.jsonb_spec.specs.Tree.{Tree}
use Rattle.jsonb_core.proofs.Appending.Appended.{IsUnderway, goes_on, fits}
use Rattle.jsonb_spec.specs.SortKey.FewestDigits.{with_fewest_digits}
use Rattle.jsonb_spec.specs.Document.Counts.{ending_text}
use Rattle.key_zeros.specs.Scan.{after_numbers}
use Rattle.jsonb_spec.specs.Document.Zeros.{in_sevens, zeros_of, zeros_in}
use Rattle.key_zeros.proofs.NumberedTexts.{NumberedText, bytes_with, counts_of, shortest_text, IsNumbered, numbers_of}
use Rattle.key_zeros.proofs.Splitting.{NextEntry, split}
use Rattle.key_zeros.proofs.Sevens.{some_sevens}

-- What is left of the shortest text, of the zeros and of the whole text.
pub record TextLeft (t : Tree) (text left old now : List ℕ) : Type 0 where
  pub numbers : NumberedText
  pub is_numbered : IsNumbered numbers
  pub occurs : text ≡ bytes_with shortest_text numbers
  pub within : length text ≤ length (tree_text (with_fewest_digits t))
  pub zeros_left : left ≡ zeros_of 0 (counts_of numbers)
  pub underway : IsUnderway old now (tree_text t) (bytes_with number_text numbers)

-- Whatever value has the shortest text and the zeros, its text is appended.
abbrev pub Restores : List ℕ → List ℕ → List ℕ → List ℕ → List ℕ → List ℕ → Type 0
Restores shortest zeros text left old now = (t : Tree) → IsReadable t → shortest ≡ tree_text (with_fewest_digits t) → zeros ≡ zeros_in t → TextLeft t text left old now

pub restores : (shortest zeros old : List ℕ) → Restores shortest zeros shortest zeros old old
restores shortest zeros old = λ t r e z.
    let x = numbers_of t r in
    record {
      numbers = x.text;
      is_numbered = x.is_numbered;
      occurs = e ∙ x.shortest;
      within = omega (arith, ap length e);
      zeros_left = z ∙ ap (zeros_of 0) x.counts;
      underway = record { front = []; appended = sym (append-nil old); whole = x.full };
    }

module _ (t : Tree) (text left old now : List ℕ) (x : TextLeft t text left old now) where
  -- with no zeros left all of the text is
  module _ (none : length left ≡ 0) where
    rest_same : bytes_with number_text x.numbers ≡ text
    rest_same = elim (split 0 x.numbers x.is_numbered) [
      | inl plain ↦ plain.same ∙ sym x.occurs
      | inr next ↦ absurd (omega (arith, none, ap length (x.zeros_left ∙ next.zeros), length-append (in_sevens 8 (0 + next.before)) (next.zeros_there ∷ zeros_of 0 (counts_of next.later)), some_sevens 8 (0 + next.before)))
    ]

    pub rest_fits : length now + length text ≤ length old + length (tree_text t)
    rest_fits = fits text [] x.underway (rest_same ∙ sym (append-nil text))

    pub rest_appended : (new : List ℕ) → new ≡ now ++ text → new ≡ old ++ tree_text t
    rest_appended new is =
        let u = goes_on new text [] x.underway (rest_same ∙ sym (append-nil text)) is in
        u.appended ∙ ap (λ ts. old ++ ts) (sym (u.whole ∙ append-nil u.front))

  -- else a number that zeros end is
  pub next_there : 0 < length left → NextEntry 0 x.numbers
  next_there some = elim (split 0 x.numbers x.is_numbered) [
    | inl plain ↦ absurd (omega (arith, some, ap length (x.zeros_left ∙ plain.none)))
    | inr next ↦ next
  ]

  module _ (some : 0 < length left) where
    abbrev pub next : NextEntry 0 x.numbers
    next = next_there some

    pub entry_occurs : left ≡ in_sevens 8 next.before ++ next.zeros_there ∷ zeros_of 0 (counts_of next.later)
    entry_occurs = x.zeros_left ∙ next.zeros ∙ ap (λ b. in_sevens 8 b ++ next.zeros_there ∷ zeros_of 0 (counts_of next.later)) {x = 0 + next.before} {y = next.before} (omega arith)

    pub few_before : next.before < length (tree_text (with_fewest_digits t))
    few_before = omega (arith, next.fewer, ap length x.occurs, x.within)

    pub number_there : after_numbers next.before text ≡ Some (next.has_point, bytes_with shortest_text next.later)
    number_there = ap (after_numbers next.before) x.occurs ∙ next.found

    -- what is before what is left then
    pub text_split : text ≡ next.front ++ bytes_with shortest_text next.later
    text_split = x.occurs ∙ next.short

    pub number_fits : length now + length (next.front ++ ending_text next.has_point next.zeros_there) ≤ length old + length (tree_text t)
    number_fits = fits (next.front ++ ending_text next.has_point next.zeros_there) (bytes_with number_text next.later) x.underway next.full

    pub number_appended : (new others behind : List ℕ) → behind ≡ bytes_with shortest_text next.later → others ≡ zeros_of 0 (counts_of next.later) → new ≡ now ++ (next.front ++ ending_text next.has_point next.zeros_there) → TextLeft t behind others old new
    number_appended new others behind is zeros appended = record {
      numbers = next.later;
      is_numbered = next.is_numbered;
      occurs = is;
      within = omega (arith, x.within, ap length text_split, length-append next.front (bytes_with shortest_text next.later), ap length is);
      zeros_left = zeros;
      underway = goes_on new (next.front ++ ending_text next.has_point next.zeros_there) (bytes_with number_text next.later) x.underway next.full appended;
    }

-- the point, where there is none, and the zeros
pub ending_split : (pointed : Bool) (count : ℕ) → ending_text pointed count ≡ (if pointed then [] else 46 ∷ []) ++ replicate count 48
ending_split true count = refl
ending_split false count = refl

-- a number that is found
pub no_number : (p : Bool) (rest : List ℕ) → ◌≡◌ {A = Option (Bool × List ℕ)} None (Some (p, rest)) → ⊥
no_number p rest e = cc

pub same_number : (p q : Bool) (xs ys : List ℕ) → ◌≡◌ {A = Option (Bool × List ℕ)} (Some (p, xs)) (Some (q, ys)) → (p ≡ q) × (xs ≡ ys)
same_number p q xs ys e = let pair : ◌≡◌ {A = Bool × List ℕ} (p, xs) (q, ys) = cc in (ap (λ x. x.0) pair, ap (λ x. x.1) pair)
