-- The text of a tree, piece by piece, and the tree with the fewest digits.
use Rattle.std.proofs.Common.{◌≡◌, ℕ, zero, suc, Bool, true, false, ◌&&◌, ◌+◌, ◌-◌, List, [], ◌∷◌, ◌++◌, Some, None, if◌then◌else◌, length, replicate, refl, ap, ap₂, ◌∙◌, append_assoc, arith}
use Rattle.jsonb_spec.specs.SortKey.Readable.{HasFewestDigits, IsAnyNumber, IsReadable}
use Rattle.jsonb_spec.specs.Grammar.{max_depth}
use Rattle.jsonb_spec.specs.Proper.{IsProper, AreProper, HaveProperParts}
use Rattle.jsonb_spec.specs.SortKey.{key_of, number_key, items_key, members_key, text_key}
use Rattle.jsonb_spec.specs.Keys.{IsBelowKeys, KeysAscend}
use Rattle.jsonb_spec.specs.Text.{tree_text, has_text, items_have_texts, members_have_texts, item_texts, member_texts}
use Rattle.jsonb_spec.specs.Text.Appending.{comma_before}
use Rattle.jsonb_spec.specs.Text.Range.{IsWithin, AreWithin, HaveWithin}
use Rattle.jsonb_spec.specs.Text.StringText.{quoted_text}
use Rattle.jsonb_spec.specs.Tree.{Num, Tree, null, boolean, string, number, array, object, binary, date, timestamp, timestamp_tz, interval, Trees, no_trees, more_trees, Members, no_members, more_members}
use Rattle.jsonb_core.proofs.Appending.Pieces.{texts_left, texts_left-comma, key_split}
use Rattle.jsonb_spec.specs.Document.Counts.{counts_at, counts_at_items, counts_at_members, AreZeros}
use Rattle.jsonb_spec.specs.SortKey.FewestDigits.{fewest_digits, with_fewest_digits, items_with_fewest_digits, members_with_fewest_digits, AppendsTextOf}
use Rattle.jsonb_spec.specs.SortKey.Text.{value_text}
use Rattle.key_text.specs.Writes.{items_left, members_left, name_text}
use Rattle.key_text.proofs.Spares.{fewest_key, fewest_has, fewest_proper, none_to_spare}

-- ---- the text

none_left : (first : Bool) (close : List ℕ) → texts_left first [] ++ close ≡ close
none_left true close = refl
none_left false close = refl

one_more : (first : Bool) (a : List ℕ) (texts : List (List ℕ)) (close : List ℕ) → texts_left first (a ∷ texts) ++ close ≡ comma_before first ++ (a ++ (texts_left false texts ++ close))
one_more first a texts close =
    ap (λ t. t ++ close) (texts_left-comma first a texts) ∙ append_assoc (comma_before first) (a ++ texts_left false texts) close ∙ ap (λ t. comma_before first ++ t) (append_assoc a (texts_left false texts) close)

items_text : (first : Bool) (ts : Trees) → texts_left first (item_texts ts) ++ 93 ∷ [] ≡ items_left first ts
items_text first no_trees = none_left first (93 ∷ [])
items_text first (more_trees t ts) =
    one_more first (tree_text t) (item_texts ts) (93 ∷ [])
    ∙ ap (λ left. comma_before first ++ (tree_text t ++ left)) (items_text false ts)

members_text : (first : Bool) (ms : Members) → texts_left first (member_texts ms) ++ 125 ∷ [] ≡ members_left first ms
members_text first no_members = none_left first (125 ∷ [])
members_text first (more_members k t ms) =
    one_more first (quoted_text k ++ 58 ∷ tree_text t) (member_texts ms) (125 ∷ [])
    ∙ ap (λ t. comma_before first ++ t) (key_split (quoted_text k) (tree_text t) (texts_left false (member_texts ms) ++ 125 ∷ []))
    ∙ ap (λ left. comma_before first ++ (name_text true k ++ (tree_text t ++ left))) (members_text false ms)

pub array_text : (ts : Trees) → tree_text (array ts) ≡ 91 ∷ items_left true ts
array_text ts = ap (λ t. 91 ∷ t) (items_text true ts)

pub object_text : (ms : Members) → tree_text (object ms) ≡ 123 ∷ members_left true ms
object_text ms = ap (λ t. 123 ∷ t) (members_text true ms)

-- ---- the key, and what the tree is

mutual
  pub key_retained : (t : Tree) → IsProper t → key_of (with_fewest_digits t) ≡ key_of t
  key_retained null p = refl
  key_retained (boolean b) p = refl
  key_retained (string mark bytes) p = refl
  key_retained (number n) p = fewest_key n p
  key_retained (array ts) p = ap (λ key. 210 ∷ key) (items_retained ts p)
  key_retained (object ms) p = ap (λ key. 209 ∷ key) (members_retained ms p.1)
  key_retained (binary bytes) p = refl
  key_retained (date days) p = refl
  key_retained (timestamp micros) p = refl
  key_retained (timestamp_tz offset micros) p = refl
  key_retained (interval months days micros) p = refl

  items_retained : (ts : Trees) → AreProper ts → items_key (items_with_fewest_digits ts) ≡ items_key ts
  items_retained no_trees p = refl
  items_retained (more_trees t ts) p = ap₂ (λ key keys. key ++ keys) (key_retained t p.0) (items_retained ts p.1)

  members_retained : (ms : Members) → HaveProperParts ms → members_key (members_with_fewest_digits ms) ≡ members_key ms
  members_retained no_members p = refl
  members_retained (more_members k t ms) p = ap₂ (λ key keys. text_key k ++ (key ++ keys)) (key_retained t p.1) (members_retained ms p.2)

mutual
  has_one : (t : Tree) (depth : ℕ) → IsWithin IsAnyNumber t depth → has_text (with_fewest_digits t) ≡ true
  has_one null depth h = refl
  has_one (boolean b) depth h = refl
  has_one (string mark bytes) depth h = refl
  has_one (number n) depth h = refl
  has_one (array ts) zero h = absurd h
  has_one (array ts) (suc depth) h = items_have ts depth h
  has_one (object ms) zero h = absurd h
  has_one (object ms) (suc depth) h = members_have ms depth h
  has_one t depth h = absurd h

  items_have : (ts : Trees) (depth : ℕ) → AreWithin IsAnyNumber ts depth → items_have_texts (items_with_fewest_digits ts) ≡ true
  items_have no_trees depth h = refl
  items_have (more_trees t ts) depth h = ap₂ (λ a b. a && b) (has_one t depth h.0) (items_have ts depth h.1)

  members_have : (ms : Members) (depth : ℕ) → HaveWithin IsAnyNumber ms depth → members_have_texts (members_with_fewest_digits ms) ≡ true
  members_have no_members depth h = refl
  members_have (more_members k t ms) depth h = ap₂ (λ a b. a && b) (has_one t depth h.0) (members_have ms depth h.1)

-- the numbers in it are what is so of each without zeros at its end
module _ (IsIn IsLeft : Num → Type 0) (each : (n : Num) → IsIn n → IsLeft (fewest_digits n)) where
  mutual
    pub within_retained : (t : Tree) (depth : ℕ) → IsWithin IsIn t depth → IsWithin IsLeft (with_fewest_digits t) depth
    within_retained null depth h = tt
    within_retained (boolean b) depth h = tt
    within_retained (string mark bytes) depth h = tt
    within_retained (number n) depth h = each n h
    within_retained (array ts) zero h = absurd h
    within_retained (array ts) (suc depth) h = items_within ts depth h
    within_retained (object ms) zero h = absurd h
    within_retained (object ms) (suc depth) h = members_within ms depth h
    within_retained t depth h = absurd h

    items_within : (ts : Trees) (depth : ℕ) → AreWithin IsIn ts depth → AreWithin IsLeft (items_with_fewest_digits ts) depth
    items_within no_trees depth h = tt
    items_within (more_trees t ts) depth h = (within_retained t depth h.0, items_within ts depth h.1)

    members_within : (ms : Members) (depth : ℕ) → HaveWithin IsIn ms depth → HaveWithin IsLeft (members_with_fewest_digits ms) depth
    members_within no_members depth h = tt
    members_within (more_members k t ms) depth h = (within_retained t depth h.0, members_within ms depth h.1)

below_retained : (k : List ℕ) (ms : Members) → IsBelowKeys k ms → IsBelowKeys k (members_with_fewest_digits ms)
below_retained k no_members b = tt
below_retained k (more_members l t ms) b = (b.0, below_retained k ms b.1)

ascend_retained : (ms : Members) → KeysAscend ms → KeysAscend (members_with_fewest_digits ms)
ascend_retained no_members a = tt
ascend_retained (more_members k t ms) a = (below_retained k ms a.0, ascend_retained ms a.1)

module _ (IsIn : Num → Type 0) where
  mutual
    pub proper_retained : (t : Tree) (depth : ℕ) → IsProper t → IsWithin IsIn t depth → IsProper (with_fewest_digits t)
    proper_retained null depth p w = tt
    proper_retained (boolean b) depth p w = tt
    proper_retained (string mark bytes) depth p w = p
    proper_retained (number n) depth p w = fewest_proper n p
    proper_retained (array ts) zero p w = absurd w
    proper_retained (array ts) (suc depth) p w = items_proper ts depth p w
    proper_retained (object ms) zero p w = absurd w
    proper_retained (object ms) (suc depth) p w = (ascend_retained ms p.0, members_proper ms depth p.1 w)
    proper_retained t depth p w = absurd w

    items_proper : (ts : Trees) (depth : ℕ) → AreProper ts → AreWithin IsIn ts depth → AreProper (items_with_fewest_digits ts)
    items_proper no_trees depth p w = tt
    items_proper (more_trees t ts) depth p w = (proper_retained t depth p.0 w.0, items_proper ts depth p.1 w.1)

    members_proper : (ms : Members) (depth : ℕ) → HaveProperParts ms → HaveWithin IsIn ms depth → HaveProperParts (members_with_fewest_digits ms)
    members_proper no_members depth p w = tt
    members_proper (more_members k t ms) depth p w = (p.0, proper_retained t depth p.1 w.0, members_proper ms depth p.2 w.1)

pub readable_retained : (t : Tree) → IsReadable t → IsReadable (with_fewest_digits t)
readable_retained t r = record {
  proper = proper_retained IsAnyNumber t max_depth r.proper r.within;
  within = within_retained IsAnyNumber IsAnyNumber (λ n any. tt) t max_depth r.within;
}

-- ---- no zeros are to spare

zeros_joined : (m n : ℕ) → ◌++◌ {A = ℕ} (replicate m 0) (replicate n 0) ≡ replicate (m + n) 0
zeros_joined zero n = ap (λ k. replicate k 0) {x = n} {y = 0 + n} (omega arith)
zeros_joined (suc m) n = ap (λ zs. 0 ∷ zs) (zeros_joined m n) ∙ ap (λ k. replicate k 0) {x = suc (m + n)} {y = suc m + n} (omega arith)

joined_zeros : (xs ys : List ℕ) → AreZeros xs → AreZeros ys → AreZeros (xs ++ ys)
joined_zeros xs ys a b = record { size = a.size + b.size; all = ap₂ (λ u v. u ++ v) a.all b.all ∙ zeros_joined a.size b.size }

mutual
  pub no_counts : (t : Tree) (depth : ℕ) → IsWithin IsAnyNumber t depth → AreZeros (counts_at (with_fewest_digits t))
  no_counts null depth h = record { size = length (key_of null); all = refl }
  no_counts (boolean b) depth h = record { size = length (key_of (boolean b)); all = refl }
  no_counts (string mark bytes) depth h = record { size = length (key_of (string mark bytes)); all = refl }
  no_counts (number n) depth h =
      let k = length (number_key (fewest_digits n)) - 1 in
      record { size = suc k; all = ap (λ c. c ∷ replicate k 0) (none_to_spare (fewest_digits n) (fewest_has n)) }
  no_counts (array ts) zero h = absurd h
  no_counts (array ts) (suc depth) h = joined_zeros (0 ∷ []) (counts_at_items (items_with_fewest_digits ts)) (record { size = 1; all = refl }) (no_item_counts ts depth h)
  no_counts (object ms) zero h = absurd h
  no_counts (object ms) (suc depth) h = joined_zeros (0 ∷ []) (counts_at_members (members_with_fewest_digits ms)) (record { size = 1; all = refl }) (no_member_counts ms depth h)
  no_counts t depth h = absurd h

  no_item_counts : (ts : Trees) (depth : ℕ) → AreWithin IsAnyNumber ts depth → AreZeros (counts_at_items (items_with_fewest_digits ts))
  no_item_counts no_trees depth h = record { size = 1; all = refl }
  no_item_counts (more_trees t ts) depth h = joined_zeros (counts_at (with_fewest_digits t)) (counts_at_items (items_with_fewest_digits ts)) (no_counts t depth h.0) (no_item_counts ts depth h.1)

  no_member_counts : (ms : Members) (depth : ℕ) → HaveWithin IsAnyNumber ms depth → AreZeros (counts_at_members (members_with_fewest_digits ms))
  no_member_counts no_members depth h = record { size = 2; all = refl }
  no_member_counts (more_members k t ms) depth h =
      let rest = counts_at (with_fewest_digits t) ++ counts_at_members (members_with_fewest_digits ms) in
      joined_zeros (replicate (length (text_key k)) 0) rest (record { size = length (text_key k); all = refl })
      (joined_zeros (counts_at (with_fewest_digits t)) (counts_at_members (members_with_fewest_digits ms)) (no_counts t depth h.0) (no_member_counts ms depth h.1))

pub appended : (t : Tree) (old new : List ℕ) → IsReadable t → new ≡ old ++ value_text t → AppendsTextOf t old new
appended t old new r e = record {
  text = record { bytes = value_text t; is_text = ap (λ (b : Bool). if b then Some (value_text t) else None) (has_one t max_depth r.within); appended = e };
  is_key = key_retained t r.proper;
  fewest = within_retained IsAnyNumber HasFewestDigits (λ n any. fewest_has n) t max_depth r.within;
}
