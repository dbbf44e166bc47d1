-- Values in range: they are of JSON's kinds, and what the first byte of a key says of them.
use Rattle.std.proofs.Common.{◌≡◌, ◌≢◌, ℕ, true, false, List, ◌∷◌, ◌++◌, sym, ap, ◌∙◌, arith}
use Rattle.jsonb_spec.specs.SortKey.Readable.{IsAnyNumber, IsReadable, IsReadableAt}
use Rattle.jsonb_spec.specs.SortKey.Checked.{IsSortKey}
use Rattle.key_walk.specs.Frames.{IsInRangeAt}
use Rattle.jsonb_spec.specs.Proper.{IsProperNumber}
use Rattle.jsonb_spec.specs.SortKey.{key_of, number_key, items_key, members_key, text_key}
use Rattle.jsonb_spec.specs.Text.Range.{HasFewDigits}
use Rattle.jsonb_spec.specs.Tree.{Num, Tree, null, boolean, string, number, array, object, Trees, Members}
use Rattle.jsonb_core.proofs.SortKeys.Kinds.{is_small, number_begins}
use Rattle.jsonb_core.proofs.Trees.Ranges.{widened}
use Rattle.jsonb_core.proofs.Trees.Runs.{heads, tails}

pub readable_at : (depth : ℕ) (t : Tree) → IsInRangeAt depth t → IsReadableAt depth t
readable_at depth t r = record { proper = r.proper; within = widened HasFewDigits IsAnyNumber (λ n proper few. tt) t depth r.proper r.within }

-- a key that was checked is that of a value of JSON's kinds
pub key_readable : (bytes : List ℕ) (k : IsSortKey bytes) → IsReadable k.value
key_readable bytes k = readable_at 512 k.value (record { proper = k.proper; within = k.in_range })

pub array_in_range : (depth : ℕ) (t : Tree) → IsInRangeAt depth t → (first : ℕ) (rest bytes more : List ℕ) → bytes ≡ first ∷ rest → bytes ≡ key_of t ++ more → first ≡ 210 → (ts : Trees) × IsInRangeAt depth (array ts) × (rest ≡ items_key ts ++ more)
array_in_range depth null r first rest bytes more e occurs is = absurd (omega (arith, is, heads first 211 rest more (sym e ∙ occurs)))
array_in_range depth (boolean true) r first rest bytes more e occurs is = absurd (omega (arith, is, heads first 22 rest more (sym e ∙ occurs)))
array_in_range depth (boolean false) r first rest bytes more e occurs is = absurd (omega (arith, is, heads first 21 rest more (sym e ∙ occurs)))
array_in_range depth (string mark text) r first rest bytes more e occurs is = absurd (omega (arith, is, heads first 208 rest (text_key text ++ more) (sym e ∙ occurs)))
array_in_range depth (number n) r first rest bytes more e occurs is =
    let b = number_begins n (is_small n r.proper) in
    absurd (omega (arith, is, b.high, heads first b.head rest (b.tail ++ more) (sym e ∙ occurs ∙ ap (λ key. key ++ more) b.is)))
array_in_range depth (array ts) r first rest bytes more e occurs is = (ts, r, tails first 210 rest (items_key ts ++ more) (sym e ∙ occurs))
array_in_range depth (object ms) r first rest bytes more e occurs is = absurd (omega (arith, is, heads first 209 rest (members_key ms ++ more) (sym e ∙ occurs)))
array_in_range depth t r first rest bytes more e occurs is = absurd r.within

pub object_in_range : (depth : ℕ) (t : Tree) → IsInRangeAt depth t → (first : ℕ) (rest bytes more : List ℕ) → bytes ≡ first ∷ rest → bytes ≡ key_of t ++ more → first ≡ 209 → (ms : Members) × IsInRangeAt depth (object ms) × (rest ≡ members_key ms ++ more)
object_in_range depth null r first rest bytes more e occurs is = absurd (omega (arith, is, heads first 211 rest more (sym e ∙ occurs)))
object_in_range depth (boolean true) r first rest bytes more e occurs is = absurd (omega (arith, is, heads first 22 rest more (sym e ∙ occurs)))
object_in_range depth (boolean false) r first rest bytes more e occurs is = absurd (omega (arith, is, heads first 21 rest more (sym e ∙ occurs)))
object_in_range depth (string mark text) r first rest bytes more e occurs is = absurd (omega (arith, is, heads first 208 rest (text_key text ++ more) (sym e ∙ occurs)))
object_in_range depth (number n) r first rest bytes more e occurs is =
    let b = number_begins n (is_small n r.proper) in
    absurd (omega (arith, is, b.high, heads first b.head rest (b.tail ++ more) (sym e ∙ occurs ∙ ap (λ key. key ++ more) b.is)))
object_in_range depth (array ts) r first rest bytes more e occurs is = absurd (omega (arith, is, heads first 210 rest (items_key ts ++ more) (sym e ∙ occurs)))
object_in_range depth (object ms) r first rest bytes more e occurs is = (ms, r, tails first 209 rest (members_key ms ++ more) (sym e ∙ occurs))
object_in_range depth t r first rest bytes more e occurs is = absurd r.within

-- a key that begins with none of the other bytes is a number's
pub number_in_range : (depth : ℕ) (t : Tree) → IsInRangeAt depth t → (first : ℕ) (rest bytes more : List ℕ) → bytes ≡ first ∷ rest → bytes ≡ key_of t ++ more → first ≢ 21 → first ≢ 22 → first ≢ 208 → first ≢ 209 → first ≢ 210 → first ≢ 211
    → (n : Num) × IsProperNumber n × HasFewDigits n × (bytes ≡ number_key n ++ more)
number_in_range depth null r first rest bytes more e occurs a b c d f g = absurd (g (heads first 211 rest more (sym e ∙ occurs)))
number_in_range depth (boolean true) r first rest bytes more e occurs a b c d f g = absurd (b (heads first 22 rest more (sym e ∙ occurs)))
number_in_range depth (boolean false) r first rest bytes more e occurs a b c d f g = absurd (a (heads first 21 rest more (sym e ∙ occurs)))
number_in_range depth (string mark text) r first rest bytes more e occurs a b c d f g = absurd (c (heads first 208 rest (text_key text ++ more) (sym e ∙ occurs)))
number_in_range depth (number n) r first rest bytes more e occurs a b c d f g = (n, r.proper, r.within, occurs)
number_in_range depth (array ts) r first rest bytes more e occurs a b c d f g = absurd (f (heads first 210 rest (items_key ts ++ more) (sym e ∙ occurs)))
number_in_range depth (object ms) r first rest bytes more e occurs a b c d f g = absurd (d (heads first 209 rest (members_key ms ++ more) (sym e ∙ occurs)))
number_in_range depth t r first rest bytes more e occurs a b c d f g = absurd r.within
