-- A value in range round-trips, and its text determines it.
use Rattle.std.proofs.Common.{List, [], ◌≡◌, ◌≢◌, ◌↔◌, ℕ, Some, None, sym, subst, ap, ◌∙◌, append-nil}
use Rattle.jsonb_spec.specs.Grammar.{max_depth, IsDocument}
use Rattle.jsonb_spec.specs.Mode.{Mode, standard, extended, json, extended_json}
use Rattle.jsonb_spec.specs.Order.{Same}
use Rattle.jsonb_spec.specs.Proper.{IsProper}
use Rattle.jsonb_spec.specs.Text.Range.{IsWithin, IsIntegral, IsInRange, IsIntegerRange, IsInRangeOf, HasFewDigits}
use Rattle.jsonb_spec.specs.Text.ReadsBack.{ReadsBackAs}
use Rattle.jsonb_spec.specs.Text.{tree_text, text_of}
use Rattle.jsonb_spec.specs.Tree.{Num, Tree}
use Rattle.jsonb_core.proofs.Trees.DocumentTexts.{text_of-has_text}
use Rattle.jsonb_core.proofs.Trees.DocumentsInRange.{standard_in_range, extended_in_range, json_in_range, extended_json_in_range}
use Rattle.jsonb_core.proofs.Trees.IntegerTexts.{IsUnscaled, same_tree_text}
use Rattle.jsonb_core.proofs.Numbers.InRange.{in_texts_short, integral_in_texts, integral_short, integral_unscaled, integer_reads_back, extended_reads_back, json_reads_back, extended_json_reads_back}
use Rattle.jsonb_core.proofs.Trees.OneText.{IsShort, one_tree}
use Rattle.jsonb_core.proofs.Trees.Ranges.{widened, within_text}
use Rattle.jsonb_core.proofs.Trees.TextsReadBack.{text_reads_back}

-- one text, in either of two ways to say so
some_same : (xs ys : List ℕ) → Some xs ≡ Some ys → xs ≡ ys
some_same xs ys e = cc

-- a tree in range has a text
pub text_in_range : (IsIn : Num → Type 0) (t : Tree) → IsWithin IsIn t max_depth → text_of t ≡ Some (tree_text t)
text_in_range IsIn t w = text_of-has_text t (within_text IsIn t max_depth w)

some_is_there : (xs : List ℕ) → Some xs ≡ None → ⊥
some_is_there xs e = cc

-- so has a tree in a mode's range
pub range_has_text : (mode : Mode) (t : Tree) → IsInRangeOf mode t → text_of t ≢ None
range_has_text standard t w none = some_is_there (tree_text t) (sym (text_in_range IsIntegral t w) ∙ none)
range_has_text extended t w none = some_is_there (tree_text t) (sym (text_in_range HasFewDigits t w) ∙ none)
range_has_text json t w none = some_is_there (tree_text t) (sym (text_in_range HasFewDigits t w) ∙ none)
range_has_text extended_json t w none = some_is_there (tree_text t) (sym (text_in_range HasFewDigits t w) ∙ none)

same_short : (t u : Tree) → IsWithin IsShort t max_depth → IsWithin IsShort u max_depth → tree_text t ≡ tree_text u → Same t u
same_short t u w v e = (one_tree t u max_depth max_depth [] [] w v tt tt (append-nil (tree_text t) ∙ e ∙ sym (append-nil (tree_text u)))).0

-- trees in range with one text are the same
pub one_text_in_range : (t u : Tree) → IsProper t → IsProper u → IsInRange t → IsInRange u → text_of t ≡ text_of u → Same t u
one_text_in_range t u p q w v e =
    same_short t u (widened HasFewDigits IsShort in_texts_short t max_depth p w) (widened HasFewDigits IsShort in_texts_short u max_depth q v)
    (some_same (tree_text t) (tree_text u) (sym (text_in_range HasFewDigits t w) ∙ e ∙ text_in_range HasFewDigits u v))

-- integers in range are in range
pub integer_range : (t : Tree) → IsProper t → IsIntegerRange t → IsInRange t
integer_range t p w = widened IsIntegral HasFewDigits integral_in_texts t max_depth p w

pub one_text_of_integers : (t u : Tree) → IsProper t → IsProper u → IsIntegerRange t → IsIntegerRange u → (text_of t ≡ text_of u) ↔ Same t u
one_text_of_integers t u p q w v = (
  one_text_in_range t u p q (integer_range t p w) (integer_range u q v),
  λ same. text_in_range IsIntegral t w
      ∙ ap Some (same_tree_text t u max_depth max_depth (widened IsIntegral IsUnscaled integral_unscaled t max_depth p w) (widened IsIntegral IsUnscaled integral_unscaled u max_depth q v) same)
      ∙ sym (text_in_range IsIntegral u v),
)

-- the same of bytes that are the text of the second
pub text_of_integers : (t u : Tree) (bytes : List ℕ) → IsProper t → IsProper u → IsIntegerRange t → IsIntegerRange u → text_of t ≡ Some bytes → (text_of u ≡ Some bytes) ↔ Same u t
text_of_integers t u bytes p q w v e =
    let one = one_text_of_integers u t q p v w in
    (λ is. one.0 (is ∙ sym e), λ same. one.1 same ∙ e)

-- what is written of a tree in a mode's range is a document of the mode
pub range_reads_back : (mode : Mode) (t : Tree) → IsProper t → IsInRangeOf mode t → (bytes : List ℕ) → text_of t ≡ Some bytes → ReadsBackAs mode bytes t
range_reads_back standard t p w bytes e =
    subst (λ text. ReadsBackAs standard text t) (some_same (tree_text t) bytes (sym (text_in_range IsIntegral t w) ∙ e)) (text_reads_back standard IsIntegral integral_short integer_reads_back t p w)
range_reads_back extended t p w bytes e =
    subst (λ text. ReadsBackAs extended text t) (some_same (tree_text t) bytes (sym (text_in_range HasFewDigits t w) ∙ e)) (text_reads_back extended HasFewDigits in_texts_short extended_reads_back t p w)
range_reads_back json t p w bytes e =
    subst (λ text. ReadsBackAs json text t) (some_same (tree_text t) bytes (sym (text_in_range HasFewDigits t w) ∙ e)) (text_reads_back json HasFewDigits in_texts_short json_reads_back t p w)
range_reads_back extended_json t p w bytes e =
    subst (λ text. ReadsBackAs extended_json text t) (some_same (tree_text t) bytes (sym (text_in_range HasFewDigits t w) ∙ e)) (text_reads_back extended_json HasFewDigits in_texts_short extended_json_reads_back t p w)

-- what is read in a mode is in the mode's range
pub document_in_range : (mode : Mode) (bytes : List ℕ) (t : Tree) → IsDocument mode bytes t → IsInRangeOf mode t × IsProper t
document_in_range standard bytes t d = standard_in_range bytes t d
document_in_range extended bytes t d = extended_in_range bytes t d
document_in_range json bytes t d = json_in_range bytes t d
document_in_range extended_json bytes t d = extended_json_in_range bytes t d

-- the text of each tree that is read is a document of the same tree with the same text
pub document_text_reads_back : (mode : Mode) (bytes : List ℕ) (t : Tree) → IsDocument mode bytes t → (text : List ℕ) → text_of t ≡ Some text → ReadsBackAs mode text t
document_text_reads_back mode bytes t d text e = let r = document_in_range mode bytes t d in range_reads_back mode t r.1 r.0 text e

-- the text of a mode's range, where it is known that there is one
pub mode_range_text : (mode : Mode) (t : Tree) → IsInRangeOf mode t → text_of t ≡ Some (tree_text t)
mode_range_text standard t w = text_in_range IsIntegral t w
mode_range_text extended t w = text_in_range HasFewDigits t w
mode_range_text json t w = text_in_range HasFewDigits t w
mode_range_text extended_json t w = text_in_range HasFewDigits t w
