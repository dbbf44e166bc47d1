-- The text of a tree as its numbers, and what is before each and behind the last.
use Rattle.std.proofs.Common.{◌≡◌, ℕ, zero, suc, Bool, true, false, List, [], ◌∷◌, ◌++◌, codes, unsigned_abs, refl, sym, ap, ◌∙◌, append_assoc, append-nil}
use Rattle.std.specs.Bool.{⊤}
use Rattle.jsonb_spec.specs.SortKey.Readable.{IsAnyNumber, IsReadable}
use Rattle.jsonb_spec.specs.Proper.{IsProper, AreProper, HaveProperParts, IsProperNumber}
use Rattle.jsonb_spec.specs.Text.{tree_text, item_texts, member_texts}
use Rattle.jsonb_spec.specs.Text.Appending.{comma_before}
use Rattle.jsonb_spec.specs.Text.NumberText.{number_text}
use Rattle.jsonb_spec.specs.Text.Range.{IsWithin, AreWithin, HaveWithin}
use Rattle.jsonb_spec.specs.Text.StringText.{quoted_text}
use Rattle.jsonb_spec.specs.Tree.{Num, Tree, null, boolean, string, number, array, object, binary, date, timestamp, timestamp_tz, interval, Trees, no_trees, more_trees, Members, no_members, more_members}
use Rattle.jsonb_core.proofs.Appending.Pieces.{texts_left, texts_left-comma, key_split}
use Rattle.jsonb_spec.specs.SortKey.FewestDigits.{spare_zeros, fewest_digits, with_fewest_digits, items_with_fewest_digits, members_with_fewest_digits}
use Rattle.jsonb_spec.specs.Document.Scan.{is_number_byte}
use Rattle.jsonb_spec.specs.Document.Zeros.{counts_in, counts_in_items, counts_in_members}
use Rattle.key_zeros.proofs.Scanning.{IsGap, quoted_gap, gaps}
use Rattle.key_text.proofs.Whole.{within_retained}

-- a text: what is before each number, and behind the last
pub data NumberedText : Type 0 where
  last_gap : List ℕ → NumberedText
  gap_then : List ℕ → Num → NumberedText → NumberedText

-- its bytes, with the numbers written so
abbrev pub bytes_with : (Num → List ℕ) → NumberedText → List ℕ
bytes_with write (last_gap gap) = gap
bytes_with write (gap_then gap n k) = gap ++ (write n ++ bytes_with write k)

-- how many zeros end each number
abbrev pub counts_of : NumberedText → List ℕ
counts_of (last_gap gap) = []
counts_of (gap_then gap n k) = spare_zeros n.scale (unsigned_abs n.whole) ∷ counts_of k

-- with more before it
abbrev pub with_gap : List ℕ → NumberedText → NumberedText
with_gap gap (last_gap behind) = last_gap (gap ++ behind)
with_gap gap (gap_then behind n k) = gap_then (gap ++ behind) n k

-- no number goes on with these bytes
abbrev pub EndsNumber : List ℕ → Type 0
EndsNumber [] = ⊤
EndsNumber (b ∷ bytes) = is_number_byte b ≡ false

-- no number goes on with this text
abbrev pub EndsBefore : NumberedText → Type 0
EndsBefore (last_gap gap) = EndsNumber gap
EndsBefore (gap_then [] n k) = ⊥
EndsBefore (gap_then (b ∷ gap) n k) = is_number_byte b ≡ false

-- Between the numbers there are none.
abbrev pub IsNumbered : NumberedText → Type 0
IsNumbered (last_gap gap) = IsGap gap
IsNumbered (gap_then gap n k) = IsGap gap × IsProperNumber n × EndsBefore k × IsNumbered k

pub ends_number : (write : Num → List ℕ) (k : NumberedText) → EndsBefore k → EndsNumber (bytes_with write k)
ends_number write (last_gap gap) h = h
ends_number write (gap_then [] n k) h = absurd h
ends_number write (gap_then (b ∷ gap) n k) h = h

abbrev mutual
  -- the text of a tree, and this behind it
  pub numbered_text : Tree → NumberedText → NumberedText
  numbered_text null k = with_gap (codes "null") k
  numbered_text (boolean true) k = with_gap (codes "true") k
  numbered_text (boolean false) k = with_gap (codes "false") k
  numbered_text (string mark bytes) k = with_gap (quoted_text bytes) k
  numbered_text (number n) k = gap_then [] n k
  numbered_text (array ts) k = with_gap (91 ∷ []) (items_numbered true ts k)
  numbered_text (object ms) k = with_gap (123 ∷ []) (members_numbered true ms k)
  numbered_text t k = k

  pub items_numbered : Bool → Trees → NumberedText → NumberedText
  items_numbered first no_trees k = with_gap (93 ∷ []) k
  items_numbered first (more_trees t ts) k = with_gap (comma_before first) (numbered_text t (items_numbered false ts k))

  pub members_numbered : Bool → Members → NumberedText → NumberedText
  members_numbered first no_members k = with_gap (125 ∷ []) k
  members_numbered first (more_members key t ms) k =
      with_gap (comma_before first) (with_gap (quoted_text key ++ 58 ∷ []) (numbered_text t (members_numbered false ms k)))

-- ---- its bytes are the tree's text

gap_written : (write : Num → List ℕ) (gap : List ℕ) (k : NumberedText) → bytes_with write (with_gap gap k) ≡ gap ++ bytes_with write k
gap_written write gap (last_gap behind) = refl
gap_written write gap (gap_then behind n k) = append_assoc gap behind (write n ++ bytes_with write k)

pub none_left : (first : Bool) (behind : List ℕ) → behind ≡ texts_left first [] ++ behind
none_left true behind = refl
none_left false behind = refl

pub one_more : (first : Bool) (a : List ℕ) (texts : List (List ℕ)) (behind : List ℕ) → comma_before first ++ (a ++ (texts_left false texts ++ behind)) ≡ texts_left first (a ∷ texts) ++ behind
one_more first a texts behind =
    sym (ap (λ t. t ++ behind) (texts_left-comma first a texts) ∙ append_assoc (comma_before first) (a ++ texts_left false texts) behind ∙ ap (λ t. comma_before first ++ t) (append_assoc a (texts_left false texts) behind))

mutual
  pub text_written : (t : Tree) (depth : ℕ) → IsWithin IsAnyNumber t depth → (k : NumberedText) → bytes_with number_text (numbered_text t k) ≡ tree_text t ++ bytes_with number_text k
  text_written null depth h k = gap_written number_text (codes "null") k
  text_written (boolean true) depth h k = gap_written number_text (codes "true") k
  text_written (boolean false) depth h k = gap_written number_text (codes "false") k
  text_written (string mark bytes) depth h k = gap_written number_text (quoted_text bytes) k
  text_written (number n) depth h k = refl
  text_written (array ts) zero h k = absurd h
  text_written (array ts) (suc depth) h k =
      gap_written number_text (91 ∷ []) (items_numbered true ts k)
      ∙ ap (λ t. 91 ∷ t) (items_written true ts depth h k ∙ sym (append_assoc (texts_left true (item_texts ts)) (93 ∷ []) (bytes_with number_text k)))
  text_written (object ms) zero h k = absurd h
  text_written (object ms) (suc depth) h k =
      gap_written number_text (123 ∷ []) (members_numbered true ms k)
      ∙ ap (λ t. 123 ∷ t) (members_written true ms depth h k ∙ sym (append_assoc (texts_left true (member_texts ms)) (125 ∷ []) (bytes_with number_text k)))
  text_written t depth h k = absurd h

  items_written : (first : Bool) (ts : Trees) (depth : ℕ) → AreWithin IsAnyNumber ts depth → (k : NumberedText) → bytes_with number_text (items_numbered first ts k) ≡ texts_left first (item_texts ts) ++ (93 ∷ bytes_with number_text k)
  items_written first no_trees depth h k = gap_written number_text (93 ∷ []) k ∙ none_left first (93 ∷ bytes_with number_text k)
  items_written first (more_trees t ts) depth h k =
      gap_written number_text (comma_before first) (numbered_text t (items_numbered false ts k))
      ∙ ap (λ x. comma_before first ++ x) (text_written t depth h.0 (items_numbered false ts k) ∙ ap (λ x. tree_text t ++ x) (items_written false ts depth h.1 k))
      ∙ one_more first (tree_text t) (item_texts ts) (93 ∷ bytes_with number_text k)

  members_written : (first : Bool) (ms : Members) (depth : ℕ) → HaveWithin IsAnyNumber ms depth → (k : NumberedText) → bytes_with number_text (members_numbered first ms k) ≡ texts_left first (member_texts ms) ++ (125 ∷ bytes_with number_text k)
  members_written first no_members depth h k = gap_written number_text (125 ∷ []) k ∙ none_left first (125 ∷ bytes_with number_text k)
  members_written first (more_members key t ms) depth h k =
      let behind = texts_left false (member_texts ms) ++ (125 ∷ bytes_with number_text k) in
      gap_written number_text (comma_before first) (with_gap (quoted_text key ++ 58 ∷ []) (numbered_text t (members_numbered false ms k)))
      ∙ ap (λ x. comma_before first ++ x)
      (gap_written number_text (quoted_text key ++ 58 ∷ []) (numbered_text t (members_numbered false ms k))
      ∙ ap (λ x. (quoted_text key ++ 58 ∷ []) ++ x) (text_written t depth h.0 (members_numbered false ms k) ∙ ap (λ x. tree_text t ++ x) (members_written false ms depth h.1 k))
      ∙ sym (key_split (quoted_text key) (tree_text t) behind))
      ∙ one_more first (quoted_text key ++ 58 ∷ tree_text t) (member_texts ms) (125 ∷ bytes_with number_text k)

-- ---- with the fewest digits

-- the text whose numbers have the fewest digits
abbrev fewest_in : NumberedText → NumberedText
fewest_in (last_gap gap) = last_gap gap
fewest_in (gap_then gap n k) = gap_then gap (fewest_digits n) (fewest_in k)

-- the shortest text of a number
abbrev pub shortest_text : Num → List ℕ
shortest_text n = number_text (fewest_digits n)

fewest_written : (k : NumberedText) → bytes_with shortest_text k ≡ bytes_with number_text (fewest_in k)
fewest_written (last_gap gap) = refl
fewest_written (gap_then gap n k) = ap (λ x. gap ++ (shortest_text n ++ x)) (fewest_written k)

fewest_gap : (gap : List ℕ) (k : NumberedText) → fewest_in (with_gap gap k) ≡ with_gap gap (fewest_in k)
fewest_gap gap (last_gap behind) = refl
fewest_gap gap (gap_then behind n k) = refl

mutual
  fewest_numbered : (t : Tree) (k : NumberedText) → fewest_in (numbered_text t k) ≡ numbered_text (with_fewest_digits t) (fewest_in k)
  fewest_numbered null k = fewest_gap (codes "null") k
  fewest_numbered (boolean true) k = fewest_gap (codes "true") k
  fewest_numbered (boolean false) k = fewest_gap (codes "false") k
  fewest_numbered (string mark bytes) k = fewest_gap (quoted_text bytes) k
  fewest_numbered (number n) k = refl
  fewest_numbered (array ts) k = fewest_gap (91 ∷ []) (items_numbered true ts k) ∙ ap (with_gap (91 ∷ [])) (fewest_items true ts k)
  fewest_numbered (object ms) k = fewest_gap (123 ∷ []) (members_numbered true ms k) ∙ ap (with_gap (123 ∷ [])) (fewest_members true ms k)
  fewest_numbered (binary bytes) k = refl
  fewest_numbered (date days) k = refl
  fewest_numbered (timestamp micros) k = refl
  fewest_numbered (timestamp_tz offset micros) k = refl
  fewest_numbered (interval months days micros) k = refl

  fewest_items : (first : Bool) (ts : Trees) (k : NumberedText) → fewest_in (items_numbered first ts k) ≡ items_numbered first (items_with_fewest_digits ts) (fewest_in k)
  fewest_items first no_trees k = fewest_gap (93 ∷ []) k
  fewest_items first (more_trees t ts) k =
      fewest_gap (comma_before first) (numbered_text t (items_numbered false ts k))
      ∙ ap (with_gap (comma_before first)) (fewest_numbered t (items_numbered false ts k) ∙ ap (numbered_text (with_fewest_digits t)) (fewest_items false ts k))

  fewest_members : (first : Bool) (ms : Members) (k : NumberedText) → fewest_in (members_numbered first ms k) ≡ members_numbered first (members_with_fewest_digits ms) (fewest_in k)
  fewest_members first no_members k = fewest_gap (125 ∷ []) k
  fewest_members first (more_members key t ms) k =
      let inner = numbered_text t (members_numbered false ms k) in
      fewest_gap (comma_before first) (with_gap (quoted_text key ++ 58 ∷ []) inner)
      ∙ ap (with_gap (comma_before first)) (fewest_gap (quoted_text key ++ 58 ∷ []) inner
      ∙ ap (with_gap (quoted_text key ++ 58 ∷ [])) (fewest_numbered t (members_numbered false ms k) ∙ ap (numbered_text (with_fewest_digits t)) (fewest_members false ms k)))

-- ---- its counts are the tree's

counts_behind : (gap : List ℕ) (k : NumberedText) → counts_of (with_gap gap k) ≡ counts_of k
counts_behind gap (last_gap behind) = refl
counts_behind gap (gap_then behind n k) = refl

mutual
  counts_numbered : (t : Tree) (k : NumberedText) → counts_of (numbered_text t k) ≡ counts_in t ++ counts_of k
  counts_numbered null k = counts_behind (codes "null") k
  counts_numbered (boolean true) k = counts_behind (codes "true") k
  counts_numbered (boolean false) k = counts_behind (codes "false") k
  counts_numbered (string mark bytes) k = counts_behind (quoted_text bytes) k
  counts_numbered (number n) k = refl
  counts_numbered (array ts) k = counts_behind (91 ∷ []) (items_numbered true ts k) ∙ counts_items true ts k
  counts_numbered (object ms) k = counts_behind (123 ∷ []) (members_numbered true ms k) ∙ counts_members true ms k
  counts_numbered (binary bytes) k = refl
  counts_numbered (date days) k = refl
  counts_numbered (timestamp micros) k = refl
  counts_numbered (timestamp_tz offset micros) k = refl
  counts_numbered (interval months days micros) k = refl

  counts_items : (first : Bool) (ts : Trees) (k : NumberedText) → counts_of (items_numbered first ts k) ≡ counts_in_items ts ++ counts_of k
  counts_items first no_trees k = counts_behind (93 ∷ []) k
  counts_items first (more_trees t ts) k =
      counts_behind (comma_before first) (numbered_text t (items_numbered false ts k))
      ∙ counts_numbered t (items_numbered false ts k) ∙ ap (λ x. counts_in t ++ x) (counts_items false ts k) ∙ sym (append_assoc (counts_in t) (counts_in_items ts) (counts_of k))

  counts_members : (first : Bool) (ms : Members) (k : NumberedText) → counts_of (members_numbered first ms k) ≡ counts_in_members ms ++ counts_of k
  counts_members first no_members k = counts_behind (125 ∷ []) k
  counts_members first (more_members key t ms) k =
      let inner = numbered_text t (members_numbered false ms k) in
      counts_behind (comma_before first) (with_gap (quoted_text key ++ 58 ∷ []) inner) ∙ counts_behind (quoted_text key ++ 58 ∷ []) inner
      ∙ counts_numbered t (members_numbered false ms k) ∙ ap (λ x. counts_in t ++ x) (counts_members false ms k) ∙ sym (append_assoc (counts_in t) (counts_in_members ms) (counts_of k))

-- ---- between its numbers there are none

gap_numbered : (gap : List ℕ) (k : NumberedText) → IsGap gap → IsNumbered k → IsNumbered (with_gap gap k)
gap_numbered gap (last_gap behind) p h = gaps gap behind p h
gap_numbered gap (gap_then behind n k) p h = (gaps gap behind p h.0, h.1, h.2, h.3)

gap_ends : (b : ℕ) (gap : List ℕ) (k : NumberedText) → is_number_byte b ≡ false → EndsBefore (with_gap (b ∷ gap) k)
gap_ends b gap (last_gap behind) e = e
gap_ends b gap (gap_then behind n k) e = e

items_end : (ts : Trees) (k : NumberedText) → EndsBefore (items_numbered false ts k)
items_end no_trees k = gap_ends 93 [] k refl
items_end (more_trees t ts) k = gap_ends 44 [] (numbered_text t (items_numbered false ts k)) refl

members_end : (ms : Members) (k : NumberedText) → EndsBefore (members_numbered false ms k)
members_end no_members k = gap_ends 125 [] k refl
members_end (more_members key t ms) k = gap_ends 44 [] (with_gap (quoted_text key ++ 58 ∷ []) (numbered_text t (members_numbered false ms k))) refl

comma_gap : (first : Bool) → IsGap (comma_before first)
comma_gap true = λ more. refl
comma_gap false = λ more. refl

colon_gap : IsGap (58 ∷ [])
colon_gap = λ more. refl

mutual
  is_numbered : (t : Tree) (depth : ℕ) → IsProper t → IsWithin IsAnyNumber t depth → (k : NumberedText) → EndsBefore k → IsNumbered k → IsNumbered (numbered_text t k)
  is_numbered null depth p h k ends is = gap_numbered (codes "null") k (λ more. refl) is
  is_numbered (boolean true) depth p h k ends is = gap_numbered (codes "true") k (λ more. refl) is
  is_numbered (boolean false) depth p h k ends is = gap_numbered (codes "false") k (λ more. refl) is
  is_numbered (string mark bytes) depth p h k ends is = gap_numbered (quoted_text bytes) k (quoted_gap bytes) is
  is_numbered (number n) depth p h k ends is = (λ more. refl, p, ends, is)
  is_numbered (array ts) zero p h k ends is = absurd h
  is_numbered (array ts) (suc depth) p h k ends is = gap_numbered (91 ∷ []) (items_numbered true ts k) (λ more. refl) (items_are_numbered true ts depth p h k is)
  is_numbered (object ms) zero p h k ends is = absurd h
  is_numbered (object ms) (suc depth) p h k ends is = gap_numbered (123 ∷ []) (members_numbered true ms k) (λ more. refl) (members_are_numbered true ms depth p.1 h k is)
  is_numbered t depth p h k ends is = absurd h

  items_are_numbered : (first : Bool) (ts : Trees) (depth : ℕ) → AreProper ts → AreWithin IsAnyNumber ts depth → (k : NumberedText) → IsNumbered k → IsNumbered (items_numbered first ts k)
  items_are_numbered first no_trees depth p h k is = gap_numbered (93 ∷ []) k (λ more. refl) is
  items_are_numbered first (more_trees t ts) depth p h k is =
      gap_numbered (comma_before first) (numbered_text t (items_numbered false ts k)) (comma_gap first)
      (is_numbered t depth p.0 h.0 (items_numbered false ts k) (items_end ts k) (items_are_numbered false ts depth p.1 h.1 k is))

  members_are_numbered : (first : Bool) (ms : Members) (depth : ℕ) → HaveProperParts ms → HaveWithin IsAnyNumber ms depth → (k : NumberedText) → IsNumbered k → IsNumbered (members_numbered first ms k)
  members_are_numbered first no_members depth p h k is = gap_numbered (125 ∷ []) k (λ more. refl) is
  members_are_numbered first (more_members key t ms) depth p h k is =
      let inner = numbered_text t (members_numbered false ms k) in
      gap_numbered (comma_before first) (with_gap (quoted_text key ++ 58 ∷ []) inner) (comma_gap first)
      (gap_numbered (quoted_text key ++ 58 ∷ []) inner (gaps (quoted_text key) (58 ∷ []) (quoted_gap key) colon_gap)
      (is_numbered t depth p.1 h.0 (members_numbered false ms k) (members_end ms k) (members_are_numbered false ms depth p.2 h.1 k is)))

-- ---- all together

-- A tree's text, the shortest one of its values, and the counts, by its numbers.
pub record HasNumbers (t : Tree) : Type 0 where
  pub text : NumberedText
  pub is_numbered : IsNumbered text
  pub full : tree_text t ≡ bytes_with number_text text
  pub shortest : tree_text (with_fewest_digits t) ≡ bytes_with shortest_text text
  pub counts : counts_in t ≡ counts_of text

pub numbers_of : (t : Tree) → IsReadable t → HasNumbers t
numbers_of t r =
    let text = numbered_text t (last_gap []) in
    record {
      text = text;
      is_numbered = is_numbered t 512 r.proper r.within (last_gap []) tt (λ more. refl);
      full = sym (text_written t 512 r.within (last_gap []) ∙ append-nil (tree_text t));
      shortest = sym (fewest_written text ∙ ap (bytes_with number_text) (fewest_numbered t (last_gap [])) ∙ text_written (with_fewest_digits t) 512 (within_retained IsAnyNumber IsAnyNumber (λ n any. tt) t 512 r.within) (last_gap []) ∙ append-nil (tree_text (with_fewest_digits t)));
      counts = sym (counts_numbered t (last_gap []) ∙ append-nil (counts_in t));
    }
