-- The zeros of the numbers that are left in a text.
use Rattle.std.proofs.Common.{◌≡◌, ℕ, ◌<◌, Bool, List, ◌++◌, length, sym, subst, ap, arith, length-append}
use Rattle.jsonb_spec.specs.SortKey.Readable.{IsReadable}
use Rattle.jsonb_spec.specs.Text.{tree_text}
use Rattle.jsonb_spec.specs.Text.NumberText.{number_text}
use Rattle.jsonb_spec.specs.Tree.{Tree}
use Rattle.key_zeros.specs.Scan.{ZerosAhead}
use Rattle.jsonb_spec.specs.Document.Zeros.{counts_in}
use Rattle.key_text.proofs.Decimals.{few}
use Rattle.key_zeros.proofs.Decimals.{text_begins, text_passed}
use Rattle.key_zeros.proofs.Finding.{none_found, number_found}
use Rattle.key_zeros.proofs.NumberedTexts.{NumberedText, last_gap, gap_then, bytes_with, counts_of, ends_number, IsNumbered, numbers_of}

ahead : (k : NumberedText) → IsNumbered k → ZerosAhead (counts_of k) (bytes_with number_text k)
ahead (last_gap gap) h = none_found gap h
ahead (gap_then gap n k) h =
    let rest = bytes_with number_text k in
    let y = text_passed n h.1 rest (ends_number number_text k h.2) in
    let some : 0 < length (number_text n ++ rest) = omega (arith, length-append (number_text n) rest, ap length (text_begins n h.1).is) in
    (number_text n ++ rest, y.0, rest, some, number_found gap n k h, y.1, few n h.1, ahead k h.3)

pub zeros_ahead : (t : Tree) → IsReadable t → ZerosAhead (counts_in t) (tree_text t)
zeros_ahead t r =
    let x = numbers_of t r in
    subst (λ cs. ZerosAhead cs (tree_text t)) (sym x.counts) (subst (ZerosAhead (counts_of x.text)) (sym x.full) (ahead x.text x.is_numbered))

-- how a number ends, determined
pub ends_so : (p q : Bool) (a b : ℕ) (xs ys : List ℕ) → ◌≡◌ {A = Bool × (ℕ × List ℕ)} (p, (a, xs)) (q, (b, ys)) → (a ≡ b) × (xs ≡ ys)
ends_so p q a b xs ys e = (ap (λ x. x.1.0) e, ap (λ x. x.1.1) e)
