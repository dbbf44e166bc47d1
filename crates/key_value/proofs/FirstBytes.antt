-- The kind of a value by the first byte of its key, and that none begins as an array or an object ends.
use Rattle.std.proofs.Common.{◌≡◌, ◌≢◌, ℕ, zero, suc, ◌<◌, true, false, List, [], ◌∷◌, ◌++◌, length, IsUtf8, refl, sym, ap, ◌∙◌, arith}
use Rattle.jsonb_spec.specs.Proper.{IsProper, IsProperNumber}
use Rattle.jsonb_spec.specs.Text.Range.{IsWithin}
use Rattle.jsonb_spec.specs.SortKey.{number_key, text_key, key_of, items_key, members_key}
use Rattle.jsonb_spec.specs.Tree.{Num, Tree, null, boolean, string, number, array, object, Trees, Members}
use Rattle.jsonb_core.proofs.SortKeys.Kinds.{begins, is_small, number_begins}
use Rattle.jsonb_core.proofs.SortKeys.Texts.{text_key-other}
use Rattle.jsonb_core.proofs.Trees.Runs.{heads, tails}
use Rattle.jsonb_spec.specs.SortKey.Readable.{IsAnyNumber, IsReadableAt}

-- what the first byte and the bytes after it are, by the kind
abbrev Begun : ℕ → Tree → ℕ → List ℕ → List ℕ → Type 0
Begun depth null first rest more = (first ≡ 211) × (rest ≡ more)
Begun depth (boolean true) first rest more = (first ≡ 22) × (rest ≡ more)
Begun depth (boolean false) first rest more = (first ≡ 21) × (rest ≡ more)
Begun depth (string mark bytes) first rest more = (first ≡ 208) × (rest ≡ text_key bytes ++ more)
Begun depth (number n) first rest more = (22 < first) × (first < 208)
Begun depth (array ts) first rest more = (first ≡ 210) × (rest ≡ items_key ts ++ more)
Begun depth (object ms) first rest more = (first ≡ 209) × (rest ≡ members_key ms ++ more)
Begun depth t first rest more = ⊥

begun : (depth : ℕ) (t : Tree) → IsReadableAt depth t → (first : ℕ) (rest more : List ℕ) → first ∷ rest ≡ key_of t ++ more → Begun depth t first rest more
begun depth null r first rest more e = (heads first 211 rest more e, tails first 211 rest more e)
begun depth (boolean true) r first rest more e = (heads first 22 rest more e, tails first 22 rest more e)
begun depth (boolean false) r first rest more e = (heads first 21 rest more e, tails first 21 rest more e)
begun depth (string mark bytes) r first rest more e = (heads first 208 rest (text_key bytes ++ more) e, tails first 208 rest (text_key bytes ++ more) e)
begun depth (number n) r first rest more e =
    let b = number_begins n (is_small n r.proper) in
    let head = heads first b.head rest (b.tail ++ more) (e ∙ ap (λ key. key ++ more) b.is) in
    (omega (arith, b.low, head), omega (arith, b.high, head))
begun depth (array ts) r first rest more e = (heads first 210 rest (items_key ts ++ more) e, tails first 210 rest (items_key ts ++ more) e)
begun depth (object ms) r first rest more e = (heads first 209 rest (members_key ms ++ more) e, tails first 209 rest (members_key ms ++ more) e)
begun depth t r first rest more e = absurd r.within

-- the key of null and of a truth value is one byte
pub one_byte : (depth : ℕ) (t : Tree) → IsReadableAt depth t → (first : ℕ) (rest bytes more : List ℕ) → bytes ≡ first ∷ rest → bytes ≡ key_of t ++ more → (word : ℕ) → first ≡ word → ((head : ℕ) → 22 < head → head < 211 → word ≡ head → ⊥)
    → (key_of t ≡ word ∷ []) × (rest ≡ more)
one_byte depth t r first rest bytes more e occurs word is clash = by_kind t (begun depth t r first rest more (sym e ∙ occurs))
  where
    by_kind : (u : Tree) → Begun depth u first rest more → (key_of u ≡ word ∷ []) × (rest ≡ more)
    by_kind null b = (ap (λ x. x ∷ []) (sym b.0 ∙ is), b.1)
    by_kind (boolean true) b = (ap (λ x. x ∷ []) (sym b.0 ∙ is), b.1)
    by_kind (boolean false) b = (ap (λ x. x ∷ []) (sym b.0 ∙ is), b.1)
    by_kind (string mark text) b = absurd (clash 208 (omega arith) (omega arith) (sym is ∙ b.0))
    by_kind (number n) b = absurd (clash first b.0 (omega (arith, b.1)) (sym is))
    by_kind (array ts) b = absurd (clash 210 (omega arith) (omega arith) (sym is ∙ b.0))
    by_kind (object ms) b = absurd (clash 209 (omega arith) (omega arith) (sym is ∙ b.0))
    by_kind u b = absurd b

pub string_there : (depth : ℕ) (t : Tree) → IsReadableAt depth t → (first : ℕ) (rest bytes more : List ℕ) → bytes ≡ first ∷ rest → bytes ≡ key_of t ++ more → first ≡ 208 → (text : List ℕ) × IsUtf8 text × (rest ≡ text_key text ++ more) × (key_of t ≡ 208 ∷ text_key text)
string_there depth null r first rest bytes more e occurs is = absurd (omega (arith, is, (begun depth null r first rest more (sym e ∙ occurs)).0))
string_there depth (boolean true) r first rest bytes more e occurs is = absurd (omega (arith, is, (begun depth (boolean true) r first rest more (sym e ∙ occurs)).0))
string_there depth (boolean false) r first rest bytes more e occurs is = absurd (omega (arith, is, (begun depth (boolean false) r first rest more (sym e ∙ occurs)).0))
string_there depth (string mark text) r first rest bytes more e occurs is = (text, r.proper, (begun depth (string mark text) r first rest more (sym e ∙ occurs)).1, refl)
string_there depth (number n) r first rest bytes more e occurs is = absurd (omega (arith, is, (begun depth (number n) r first rest more (sym e ∙ occurs)).1))
string_there depth (array ts) r first rest bytes more e occurs is = absurd (omega (arith, is, (begun depth (array ts) r first rest more (sym e ∙ occurs)).0))
string_there depth (object ms) r first rest bytes more e occurs is = absurd (omega (arith, is, (begun depth (object ms) r first rest more (sym e ∙ occurs)).0))
string_there depth t r first rest bytes more e occurs is = absurd r.within

pub array_there : (depth : ℕ) (t : Tree) → IsReadableAt depth t → (first : ℕ) (rest bytes more : List ℕ) → bytes ≡ first ∷ rest → bytes ≡ key_of t ++ more → first ≡ 210 → (ts : Trees) × IsReadableAt depth (array ts) × (rest ≡ items_key ts ++ more) × (key_of t ≡ 210 ∷ items_key ts)
array_there depth null r first rest bytes more e occurs is = absurd (omega (arith, is, (begun depth null r first rest more (sym e ∙ occurs)).0))
array_there depth (boolean true) r first rest bytes more e occurs is = absurd (omega (arith, is, (begun depth (boolean true) r first rest more (sym e ∙ occurs)).0))
array_there depth (boolean false) r first rest bytes more e occurs is = absurd (omega (arith, is, (begun depth (boolean false) r first rest more (sym e ∙ occurs)).0))
array_there depth (string mark text) r first rest bytes more e occurs is = absurd (omega (arith, is, (begun depth (string mark text) r first rest more (sym e ∙ occurs)).0))
array_there depth (number n) r first rest bytes more e occurs is = absurd (omega (arith, is, (begun depth (number n) r first rest more (sym e ∙ occurs)).1))
array_there depth (array ts) r first rest bytes more e occurs is = (ts, r, (begun depth (array ts) r first rest more (sym e ∙ occurs)).1, refl)
array_there depth (object ms) r first rest bytes more e occurs is = absurd (omega (arith, is, (begun depth (object ms) r first rest more (sym e ∙ occurs)).0))
array_there depth t r first rest bytes more e occurs is = absurd r.within

pub object_there : (depth : ℕ) (t : Tree) → IsReadableAt depth t → (first : ℕ) (rest bytes more : List ℕ) → bytes ≡ first ∷ rest → bytes ≡ key_of t ++ more → first ≡ 209 → (ms : Members) × IsReadableAt depth (object ms) × (rest ≡ members_key ms ++ more) × (key_of t ≡ 209 ∷ members_key ms)
object_there depth null r first rest bytes more e occurs is = absurd (omega (arith, is, (begun depth null r first rest more (sym e ∙ occurs)).0))
object_there depth (boolean true) r first rest bytes more e occurs is = absurd (omega (arith, is, (begun depth (boolean true) r first rest more (sym e ∙ occurs)).0))
object_there depth (boolean false) r first rest bytes more e occurs is = absurd (omega (arith, is, (begun depth (boolean false) r first rest more (sym e ∙ occurs)).0))
object_there depth (string mark text) r first rest bytes more e occurs is = absurd (omega (arith, is, (begun depth (string mark text) r first rest more (sym e ∙ occurs)).0))
object_there depth (number n) r first rest bytes more e occurs is = absurd (omega (arith, is, (begun depth (number n) r first rest more (sym e ∙ occurs)).1))
object_there depth (array ts) r first rest bytes more e occurs is = absurd (omega (arith, is, (begun depth (array ts) r first rest more (sym e ∙ occurs)).0))
object_there depth (object ms) r first rest bytes more e occurs is = (ms, r, (begun depth (object ms) r first rest more (sym e ∙ occurs)).1, refl)
object_there depth t r first rest bytes more e occurs is = absurd r.within

-- a key that begins with none of the other bytes is a number's
pub number_there : (depth : ℕ) (t : Tree) → IsReadableAt depth t → (first : ℕ) (rest bytes more : List ℕ) → bytes ≡ first ∷ rest → bytes ≡ key_of t ++ more → first ≢ 21 → first ≢ 22 → first ≢ 208 → first ≢ 209 → first ≢ 210 → first ≢ 211
    → (n : Num) × IsProperNumber n × (bytes ≡ number_key n ++ more) × (key_of t ≡ number_key n)
number_there depth null r first rest bytes more e occurs a b c d f g = absurd (g (begun depth null r first rest more (sym e ∙ occurs)).0)
number_there depth (boolean true) r first rest bytes more e occurs a b c d f g = absurd (b (begun depth (boolean true) r first rest more (sym e ∙ occurs)).0)
number_there depth (boolean false) r first rest bytes more e occurs a b c d f g = absurd (a (begun depth (boolean false) r first rest more (sym e ∙ occurs)).0)
number_there depth (string mark text) r first rest bytes more e occurs a b c d f g = absurd (c (begun depth (string mark text) r first rest more (sym e ∙ occurs)).0)
number_there depth (number n) r first rest bytes more e occurs a b c d f g = (n, r.proper, occurs, refl)
number_there depth (array ts) r first rest bytes more e occurs a b c d f g = absurd (f (begun depth (array ts) r first rest more (sym e ∙ occurs)).0)
number_there depth (object ms) r first rest bytes more e occurs a b c d f g = absurd (d (begun depth (object ms) r first rest more (sym e ∙ occurs)).0)
number_there depth t r first rest bytes more e occurs a b c d f g = absurd r.within

-- each key has a byte
pub no_key : (depth : ℕ) (t : Tree) → IsReadableAt depth t → (bytes more : List ℕ) → bytes ≡ key_of t ++ more → length bytes ≡ 0 → ⊥
no_key depth t r bytes more occurs none =
    let b = begins t r.proper in
    absurd (omega (arith, none, ap length (occurs ∙ ap (λ key. key ++ more) b.is)))

-- no key begins with the byte that closes an array
pub no_zero : (t : Tree) (depth : ℕ) (others rest : List ℕ) (first : ℕ) (tail : List ℕ) → IsProper t → IsWithin IsAnyNumber t depth → rest ≡ first ∷ tail → first ≡ 0 → rest ≡ key_of t ++ others → ⊥
no_zero t depth others rest first tail p w e zero_there occurs =
    let b = begins t p in
    absurd (omega (arith, b.above, zero_there, heads first b.head tail (b.tail ++ others) (sym e ∙ occurs ∙ ap (λ key. key ++ others) b.is)))

-- no text's key begins as the end of an object does
pub no_pair : (key others rest more : List ℕ) → rest ≡ 0 ∷ 0 ∷ more → rest ≡ text_key key ++ others → ⊥
no_pair [] others rest more e occurs = absurd (omega (arith, heads 0 1 more others (tails 0 0 (0 ∷ more) (1 ∷ others) (sym e ∙ occurs))))
no_pair (zero ∷ key) others rest more e occurs = absurd (omega (arith, heads 0 255 more (text_key key ++ others) (tails 0 0 (0 ∷ more) (255 ∷ (text_key key ++ others)) (sym e ∙ occurs))))
no_pair (suc b ∷ key) others rest more e occurs = absurd (omega (arith, heads 0 (suc b) (0 ∷ more) (text_key key ++ others) (sym e ∙ occurs ∙ ap (λ bytes. bytes ++ others) (text_key-other b key))))
