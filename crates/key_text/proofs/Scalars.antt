-- The texts of words, strings and numbers, by the first byte of their keys, and of what is opened.
use Rattle.std.proofs.Common.{◌≡◌, ◌≢◌, ℕ, suc, Bool, true, false, List, ◌∷◌, ◌++◌, length, refl, sym, ap, ◌∙◌, arith}
use Rattle.std.specs.Prelude.{codes}
use Rattle.jsonb_spec.specs.SortKey.Readable.{IsReadableAt}
use Rattle.jsonb_spec.specs.Text.{tree_text}
use Rattle.jsonb_spec.specs.Text.StringText.{quoted_text}
use Rattle.jsonb_spec.specs.SortKey.Open.{IsScalar, Open, items, members, is_object, open_key, IsOpen, opening_byte}
use Rattle.jsonb_spec.specs.SortKey.Parts.{opened_tree}
use Rattle.key_walk.proofs.Stepping.{opening_there}
use Rattle.jsonb_spec.specs.Proper.{IsProperNumber}
use Rattle.jsonb_spec.specs.SortKey.{key_of, items_key, members_key, text_key}
use Rattle.jsonb_spec.specs.Tree.{Num, Tree, null, boolean, string, number, array, object}
use Rattle.jsonb_core.proofs.SortKeys.Kinds.{is_small, number_begins}
use Rattle.jsonb_core.proofs.Trees.Runs.{heads, tails}
use Rattle.jsonb_spec.specs.Document.Counts.{counts_at, counts_open, AreZeros}
use Rattle.key_text.specs.Writes.{open_text, opening_text}
use Rattle.key_text.proofs.Whole.{array_text, object_text}

-- what each of the words says of the value
pub record Word (t : Tree) (first : ℕ) (rest more : List ℕ) : Type 0 where
  pub is_null : first ≡ 211 → (rest ≡ more) × (tree_text t ≡ codes "null") × AreZeros (counts_at t)
  pub is_false : first ≡ 21 → (rest ≡ more) × (tree_text t ≡ codes "false") × AreZeros (counts_at t)
  pub is_true : first ≡ 22 → (rest ≡ more) × (tree_text t ≡ codes "true") × AreZeros (counts_at t)

pub word_of : (depth : ℕ) (t : Tree) → IsReadableAt depth t → IsScalar t → (first : ℕ) (rest bytes more : List ℕ) → bytes ≡ first ∷ rest → bytes ≡ key_of t ++ more → Word t first rest more
word_of depth null r s first rest bytes more e occurs =
    let is = heads first 211 rest more (sym e ∙ occurs) in
    record { is_null = λ h. (tails first 211 rest more (sym e ∙ occurs), refl, record { size = 1; all = refl }); is_false = λ h. absurd (omega (arith, is, h)); is_true = λ h. absurd (omega (arith, is, h)) }
word_of depth (boolean true) r s first rest bytes more e occurs =
    let is = heads first 22 rest more (sym e ∙ occurs) in
    record { is_null = λ h. absurd (omega (arith, is, h)); is_false = λ h. absurd (omega (arith, is, h)); is_true = λ h. (tails first 22 rest more (sym e ∙ occurs), refl, record { size = 1; all = refl }) }
word_of depth (boolean false) r s first rest bytes more e occurs =
    let is = heads first 21 rest more (sym e ∙ occurs) in
    record { is_null = λ h. absurd (omega (arith, is, h)); is_false = λ h. (tails first 21 rest more (sym e ∙ occurs), refl, record { size = 1; all = refl }); is_true = λ h. absurd (omega (arith, is, h)) }
word_of depth (string mark text) r s first rest bytes more e occurs =
    let is = heads first 208 rest (text_key text ++ more) (sym e ∙ occurs) in
    record { is_null = λ h. absurd (omega (arith, is, h)); is_false = λ h. absurd (omega (arith, is, h)); is_true = λ h. absurd (omega (arith, is, h)) }
word_of depth (number n) r s first rest bytes more e occurs =
    let b = number_begins n (is_small n r.proper) in
    let is = heads first b.head rest (b.tail ++ more) (sym e ∙ occurs ∙ ap (λ key. key ++ more) b.is) in
    record { is_null = λ h. absurd (omega (arith, is, b.high, h)); is_false = λ h. absurd (omega (arith, is, b.low, h)); is_true = λ h. absurd (omega (arith, is, b.low, h)) }
word_of depth (array ts) r s first rest bytes more e occurs = absurd s
word_of depth (object ms) r s first rest bytes more e occurs = absurd s
word_of depth t r s first rest bytes more e occurs = absurd r.within

-- the string that begins here, and its text
pub string_text : (depth : ℕ) (t : Tree) → IsReadableAt depth t → (first : ℕ) (rest bytes more : List ℕ) → bytes ≡ first ∷ rest → bytes ≡ key_of t ++ more → first ≡ 208 → (text : List ℕ) × (rest ≡ text_key text ++ more) × (tree_text t ≡ quoted_text text) × AreZeros (counts_at t)
string_text depth null r first rest bytes more e occurs is = absurd (omega (arith, is, heads first 211 rest more (sym e ∙ occurs)))
string_text depth (boolean true) r first rest bytes more e occurs is = absurd (omega (arith, is, heads first 22 rest more (sym e ∙ occurs)))
string_text depth (boolean false) r first rest bytes more e occurs is = absurd (omega (arith, is, heads first 21 rest more (sym e ∙ occurs)))
string_text depth (string mark text) r first rest bytes more e occurs is = (text, tails first 208 rest (text_key text ++ more) (sym e ∙ occurs), refl, record { size = length (key_of (string mark text)); all = refl })
string_text depth (number n) r first rest bytes more e occurs is =
    let b = number_begins n (is_small n r.proper) in
    absurd (omega (arith, is, b.high, heads first b.head rest (b.tail ++ more) (sym e ∙ occurs ∙ ap (λ key. key ++ more) b.is)))
string_text depth (array ts) r first rest bytes more e occurs is = absurd (omega (arith, is, heads first 210 rest (items_key ts ++ more) (sym e ∙ occurs)))
string_text depth (object ms) r first rest bytes more e occurs is = absurd (omega (arith, is, heads first 209 rest (members_key ms ++ more) (sym e ∙ occurs)))
string_text depth t r first rest bytes more e occurs is = absurd r.within

-- the number that begins here
pub number_there : (depth : ℕ) (t : Tree) → IsReadableAt depth t → IsScalar t → (first : ℕ) (rest bytes more : List ℕ) → bytes ≡ first ∷ rest → bytes ≡ key_of t ++ more → first ≢ 208 → first ≢ 211 → first ≢ 21 → first ≢ 22
    → (n : Num) × IsProperNumber n × (t ≡ number n)
number_there depth null r s first rest bytes more e occurs a b c d = absurd (b (heads first 211 rest more (sym e ∙ occurs)))
number_there depth (boolean true) r s first rest bytes more e occurs a b c d = absurd (d (heads first 22 rest more (sym e ∙ occurs)))
number_there depth (boolean false) r s first rest bytes more e occurs a b c d = absurd (c (heads first 21 rest more (sym e ∙ occurs)))
number_there depth (string mark text) r s first rest bytes more e occurs a b c d = absurd (a (heads first 208 rest (text_key text ++ more) (sym e ∙ occurs)))
number_there depth (number n) r s first rest bytes more e occurs a b c d = (n, r.proper, refl)
number_there depth (array ts) r s first rest bytes more e occurs a b c d = absurd s
number_there depth (object ms) r s first rest bytes more e occurs a b c d = absurd s
number_there depth t r s first rest bytes more e occurs a b c d = absurd r.within

-- what is open behind the first byte of an array or an object, and the text that its end makes
pub record OpenedText (t : Tree) (left : ℕ) (b : Bool) (rest more : List ℕ) : Type 0 where
  pub open_there : Open
  pub is : is_object open_there ≡ b
  pub inner : ℕ
  pub deeper : left ≡ suc inner
  pub fits : IsOpen open_there inner
  pub occurs : rest ≡ open_key open_there ++ more
  pub text : tree_text t ≡ opening_text b ∷ open_text true open_there
  pub counts : counts_at t ≡ 0 ∷ counts_open open_there

text_of_opened : (o : Open) → (tree_text (opened_tree o) ≡ opening_text (is_object o) ∷ open_text true o) × (counts_at (opened_tree o) ≡ 0 ∷ counts_open o)
text_of_opened (items ts) = (array_text ts, refl)
text_of_opened (members ms) = (object_text ms, refl)

pub opened_text : (left : ℕ) (t : Tree) → IsReadableAt left t → (first : ℕ) (rest bytes more : List ℕ) → bytes ≡ first ∷ rest → bytes ≡ key_of t ++ more → (b : Bool) → first ≡ opening_byte b → OpenedText t left b rest more
opened_text left t r first rest bytes more e occurs b is =
    let o = opening_there left t r first rest bytes more e occurs b is in
    record {
      open_there = o.inside;
      is = o.is;
      inner = o.inner;
      deeper = o.deeper;
      fits = o.fits;
      occurs = o.occurs;
      text = ap tree_text o.whole ∙ (text_of_opened o.inside).0 ∙ ap (λ b. opening_text b ∷ open_text true o.inside) o.is;
      counts = ap counts_at o.whole ∙ (text_of_opened o.inside).1;
    }
