-- The parts of a value's text, and what they are of it: its text, its key, and the counts of the bytes of its key.
use Rattle.std.proofs.Common.{◌≡◌, ◌≢◌, ℕ, zero, suc, ◌==◌, Bool, true, false, true≢false, List, [], ◌∷◌, ◌++◌, length, replicate, refl, sym, ap, ◌∙◌, arith, append_assoc, length-append}
use Rattle.std.specs.List.{flat_map}
use Rattle.jsonb_spec.specs.SortKey.Readable.{IsAnyNumber}
use Rattle.jsonb_spec.specs.Proper.{IsProper, AreProper, HaveProperParts, IsProperNumber}
use Rattle.jsonb_spec.specs.SortKey.{key_of, items_key, members_key, text_key}
use Rattle.jsonb_spec.specs.Text.{tree_text, item_texts, member_texts}
use Rattle.jsonb_spec.specs.Text.Appending.{comma_before}
use Rattle.jsonb_spec.specs.Text.NumberText.{number_text}
use Rattle.jsonb_spec.specs.Text.Range.{IsWithin, AreWithin, HaveWithin}
use Rattle.jsonb_spec.specs.Text.StringText.{byte_text, quoted_text}
use Rattle.jsonb_spec.specs.Tree.{Num, Tree, null, boolean, string, number, array, object, binary, date, timestamp, timestamp_tz, interval, Trees, no_trees, more_trees, Members, no_members, more_members}
use Rattle.jsonb_core.proofs.Appending.Pieces.{texts_left, texts_left-comma}
use Rattle.jsonb_core.proofs.Trees.Runs.{heads, tails}
use Rattle.jsonb_spec.specs.Document.Scan.{is_number_byte}
use Rattle.key_zeros.proofs.Decimals.{text_begins}
use Rattle.key_document.specs.FromText.{closed, EndsNumber, is_name, mark_behind}
use Rattle.key_document.specs.Tokens.{Token, mark_part, string_part, number_part, tokens_text, tokens_key, tokens_counts, IsMark, AreTokens}
use Rattle.key_document.proofs.Items.{kind_of}
use Rattle.jsonb_spec.specs.Document.Counts.{counts_at, counts_at_items, counts_at_members}
use Rattle.key_zeros.proofs.NumberedTexts.{none_left, one_more}

-- what may follow a value: no byte of a number, and no colon
abbrev pub EndsValue : List ℕ → Type 0
EndsValue [] = Unit {0}
EndsValue (b ∷ bytes) = (is_number_byte b ≡ false) × ((b == 58) ≡ false)

ends_number : (bytes : List ℕ) → EndsValue bytes → EndsNumber bytes
ends_number [] h = tt
ends_number (b ∷ bytes) h = h.0

no_name : (bytes : List ℕ) → EndsValue bytes → is_name bytes ≡ false
no_name [] h = refl
no_name (b ∷ bytes) h = h.1

-- a comma before all parts but the first
abbrev pub comma_token : Bool → List Token → List Token
comma_token true k = k
comma_token false k = mark_part 44 [] ∷ k

abbrev mutual
  -- the parts of a tree's text, and these behind it
  pub tokens_of : Tree → List Token → List Token
  tokens_of null k = mark_part 110 (117 ∷ 108 ∷ 108 ∷ []) ∷ k
  tokens_of (boolean true) k = mark_part 116 (114 ∷ 117 ∷ 101 ∷ []) ∷ k
  tokens_of (boolean false) k = mark_part 102 (97 ∷ 108 ∷ 115 ∷ 101 ∷ []) ∷ k
  tokens_of (string mark bytes) k = string_part bytes ∷ k
  tokens_of (number n) k = number_part n ∷ k
  tokens_of (array ts) k = mark_part 91 [] ∷ item_tokens true ts k
  tokens_of (object ms) k = mark_part 123 [] ∷ member_tokens true ms k
  tokens_of t k = k

  pub item_tokens : Bool → Trees → List Token → List Token
  item_tokens first no_trees k = mark_part 93 [] ∷ k
  item_tokens first (more_trees t ts) k = comma_token first (tokens_of t (item_tokens false ts k))

  pub member_tokens : Bool → Members → List Token → List Token
  member_tokens first no_members k = mark_part 125 [] ∷ k
  member_tokens first (more_members key t ms) k =
      comma_token first (string_part key ∷ mark_part 58 [] ∷ tokens_of t (member_tokens false ms k))

-- ---- their text is the tree's

comma_text : (first : Bool) (k : List Token) → tokens_text (comma_token first k) ≡ comma_before first ++ tokens_text k
comma_text true k = refl
comma_text false k = refl

pub string_text : (bytes behind : List ℕ) → 34 ∷ closed bytes behind ≡ quoted_text bytes ++ behind
string_text bytes behind = ap (λ t. 34 ∷ t) (sym (append_assoc (flat_map byte_text bytes) (34 ∷ []) behind))

mutual
  pub text_written : (t : Tree) (depth : ℕ) → IsWithin IsAnyNumber t depth → (k : List Token) → tokens_text (tokens_of t k) ≡ tree_text t ++ tokens_text k
  text_written null depth h k = refl
  text_written (boolean true) depth h k = refl
  text_written (boolean false) depth h k = refl
  text_written (string mark bytes) depth h k = string_text bytes (tokens_text k)
  text_written (number n) depth h k = refl
  text_written (array ts) zero h k = absurd h
  text_written (array ts) (suc depth) h k =
      ap (λ t. 91 ∷ t) (items_written true ts depth h k ∙ sym (append_assoc (texts_left true (item_texts ts)) (93 ∷ []) (tokens_text k)))
  text_written (object ms) zero h k = absurd h
  text_written (object ms) (suc depth) h k =
      ap (λ t. 123 ∷ t) (members_written true ms depth h k ∙ sym (append_assoc (texts_left true (member_texts ms)) (125 ∷ []) (tokens_text k)))
  text_written t depth h k = absurd h

  items_written : (first : Bool) (ts : Trees) (depth : ℕ) → AreWithin IsAnyNumber ts depth → (k : List Token) → tokens_text (item_tokens first ts k) ≡ texts_left first (item_texts ts) ++ (93 ∷ tokens_text k)
  items_written first no_trees depth h k = none_left first (93 ∷ tokens_text k)
  items_written first (more_trees t ts) depth h k =
      comma_text first (tokens_of t (item_tokens false ts k))
      ∙ ap (λ x. comma_before first ++ x) (text_written t depth h.0 (item_tokens false ts k) ∙ ap (λ x. tree_text t ++ x) (items_written false ts depth h.1 k))
      ∙ one_more first (tree_text t) (item_texts ts) (93 ∷ tokens_text k)

  members_written : (first : Bool) (ms : Members) (depth : ℕ) → HaveWithin IsAnyNumber ms depth → (k : List Token) → tokens_text (member_tokens first ms k) ≡ texts_left first (member_texts ms) ++ (125 ∷ tokens_text k)
  members_written first no_members depth h k = none_left first (125 ∷ tokens_text k)
  members_written first (more_members key t ms) depth h k =
      let behind = texts_left false (member_texts ms) ++ (125 ∷ tokens_text k) in
      comma_text first (string_part key ∷ mark_part 58 [] ∷ tokens_of t (member_tokens false ms k))
      ∙ ap (λ x. comma_before first ++ x)
      (string_text key (58 ∷ tokens_text (tokens_of t (member_tokens false ms k)))
      ∙ ap (λ x. quoted_text key ++ 58 ∷ x) (text_written t depth h.0 (member_tokens false ms k) ∙ ap (λ x. tree_text t ++ x) (members_written false ms depth h.1 k))
      ∙ sym (append_assoc (quoted_text key) (58 ∷ tree_text t) behind))
      ∙ one_more first (quoted_text key ++ 58 ∷ tree_text t) (member_texts ms) (125 ∷ tokens_text k)

-- ---- what follows a value

items_end : (ts : Trees) (k : List Token) → EndsValue (tokens_text (item_tokens false ts k))
items_end no_trees k = (refl, refl)
items_end (more_trees t ts) k = (refl, refl)

members_end : (ms : Members) (k : List Token) → EndsValue (tokens_text (member_tokens false ms k))
members_end no_members k = (refl, refl)
members_end (more_members key t ms) k = (refl, refl)

-- ---- they are parts

mark_there : (b : ℕ) (tail : List ℕ) → (b == 34) ≡ false → is_number_byte b ≡ false → length tail ≡ mark_behind b → IsMark b tail
mark_there b tail other no_digit long = record { no_quote = λ e. true≢false (sym (ap (λ x. x == 34) e) ∙ other); no_number = no_digit; long = long }

comma_is : (first : Bool) (k : List Token) → AreTokens k → AreTokens (comma_token first k)
comma_is true k h = h
comma_is false k h = (mark_there 44 [] refl refl refl, h)

mutual
  pub are_tokens : (t : Tree) → IsProper t → (k : List Token) → EndsValue (tokens_text k) → AreTokens k → AreTokens (tokens_of t k)
  are_tokens null p k ends h = (mark_there 110 (117 ∷ 108 ∷ 108 ∷ []) refl refl refl, h)
  are_tokens (boolean true) p k ends h = (mark_there 116 (114 ∷ 117 ∷ 101 ∷ []) refl refl refl, h)
  are_tokens (boolean false) p k ends h = (mark_there 102 (97 ∷ 108 ∷ 115 ∷ 101 ∷ []) refl refl refl, h)
  are_tokens (string mark bytes) p k ends h = h
  are_tokens (number n) p k ends h = (p, ends_number (tokens_text k) ends, h)
  are_tokens (array ts) p k ends h = (mark_there 91 [] refl refl refl, items_are true ts p k h)
  are_tokens (object ms) p k ends h = (mark_there 123 [] refl refl refl, members_are true ms p.1 k h)
  are_tokens (binary bytes) p k ends h = h
  are_tokens (date days) p k ends h = h
  are_tokens (timestamp micros) p k ends h = h
  are_tokens (timestamp_tz offset micros) p k ends h = h
  are_tokens (interval months days micros) p k ends h = h

  items_are : (first : Bool) (ts : Trees) → AreProper ts → (k : List Token) → AreTokens k → AreTokens (item_tokens first ts k)
  items_are first no_trees p k h = (mark_there 93 [] refl refl refl, h)
  items_are first (more_trees t ts) p k h =
      comma_is first (tokens_of t (item_tokens false ts k)) (are_tokens t p.0 (item_tokens false ts k) (items_end ts k) (items_are false ts p.1 k h))

  members_are : (first : Bool) (ms : Members) → HaveProperParts ms → (k : List Token) → AreTokens k → AreTokens (member_tokens first ms k)
  members_are first no_members p k h = (mark_there 125 [] refl refl refl, h)
  members_are first (more_members key t ms) p k h =
      comma_is first (string_part key ∷ mark_part 58 [] ∷ tokens_of t (member_tokens false ms k))
      (mark_there 58 [] refl refl refl, are_tokens t p.1 (member_tokens false ms k) (members_end ms k) (members_are false ms p.2 k h))

-- ---- their keys are the tree's

comma_key : (first : Bool) (k : List Token) → tokens_key (comma_token first k) ≡ tokens_key k
comma_key true k = refl
comma_key false k = refl

mutual
  pub key_written : (t : Tree) (depth : ℕ) → IsWithin IsAnyNumber t depth → (k : List Token) → EndsValue (tokens_text k) → tokens_key (tokens_of t k) ≡ key_of t ++ tokens_key k
  key_written null depth h k ends = refl
  key_written (boolean true) depth h k ends = refl
  key_written (boolean false) depth h k ends = refl
  key_written (string mark bytes) depth h k ends = ap (λ b. (kind_of b ++ text_key bytes) ++ tokens_key k) (no_name (tokens_text k) ends)
  key_written (number n) depth h k ends = refl
  key_written (array ts) zero h k ends = absurd h
  key_written (array ts) (suc depth) h k ends = ap (λ l. 210 ∷ l) (items_key_written true ts depth h k)
  key_written (object ms) zero h k ends = absurd h
  key_written (object ms) (suc depth) h k ends = ap (λ l. 209 ∷ l) (members_key_written true ms depth h k)
  key_written t depth h k ends = absurd h

  items_key_written : (first : Bool) (ts : Trees) (depth : ℕ) → AreWithin IsAnyNumber ts depth → (k : List Token) → tokens_key (item_tokens first ts k) ≡ items_key ts ++ tokens_key k
  items_key_written first no_trees depth h k = refl
  items_key_written first (more_trees t ts) depth h k =
      comma_key first (tokens_of t (item_tokens false ts k)) ∙ key_written t depth h.0 (item_tokens false ts k) (items_end ts k)
      ∙ ap (λ l. key_of t ++ l) (items_key_written false ts depth h.1 k) ∙ sym (append_assoc (key_of t) (items_key ts) (tokens_key k))

  members_key_written : (first : Bool) (ms : Members) (depth : ℕ) → HaveWithin IsAnyNumber ms depth → (k : List Token) → tokens_key (member_tokens first ms k) ≡ members_key ms ++ tokens_key k
  members_key_written first no_members depth h k = refl
  members_key_written first (more_members key t ms) depth h k =
      comma_key first (string_part key ∷ mark_part 58 [] ∷ tokens_of t (member_tokens false ms k))
      ∙ ap (λ l. text_key key ++ l) (key_written t depth h.0 (member_tokens false ms k) (members_end ms k) ∙ ap (λ l. key_of t ++ l) (members_key_written false ms depth h.1 k) ∙ sym (append_assoc (key_of t) (members_key ms) (tokens_key k)))
      ∙ sym (append_assoc (text_key key) (key_of t ++ members_key ms) (tokens_key k))

-- ---- and so are the counts

comma_counts : (first : Bool) (k : List Token) → tokens_counts (comma_token first k) ≡ tokens_counts k
comma_counts true k = refl
comma_counts false k = refl

mutual
  pub counts_written : (t : Tree) (depth : ℕ) → IsWithin IsAnyNumber t depth → (k : List Token) → EndsValue (tokens_text k) → tokens_counts (tokens_of t k) ≡ counts_at t ++ tokens_counts k
  counts_written null depth h k ends = refl
  counts_written (boolean true) depth h k ends = refl
  counts_written (boolean false) depth h k ends = refl
  counts_written (string mark bytes) depth h k ends = ap (λ b. replicate (length (kind_of b ++ text_key bytes)) 0 ++ tokens_counts k) (no_name (tokens_text k) ends)
  counts_written (number n) depth h k ends = refl
  counts_written (array ts) zero h k ends = absurd h
  counts_written (array ts) (suc depth) h k ends = ap (λ l. 0 ∷ l) (items_counts_written true ts depth h k)
  counts_written (object ms) zero h k ends = absurd h
  counts_written (object ms) (suc depth) h k ends = ap (λ l. 0 ∷ l) (members_counts_written true ms depth h k)
  counts_written t depth h k ends = absurd h

  items_counts_written : (first : Bool) (ts : Trees) (depth : ℕ) → AreWithin IsAnyNumber ts depth → (k : List Token) → tokens_counts (item_tokens first ts k) ≡ counts_at_items ts ++ tokens_counts k
  items_counts_written first no_trees depth h k = refl
  items_counts_written first (more_trees t ts) depth h k =
      comma_counts first (tokens_of t (item_tokens false ts k)) ∙ counts_written t depth h.0 (item_tokens false ts k) (items_end ts k)
      ∙ ap (λ l. counts_at t ++ l) (items_counts_written false ts depth h.1 k) ∙ sym (append_assoc (counts_at t) (counts_at_items ts) (tokens_counts k))

  members_counts_written : (first : Bool) (ms : Members) (depth : ℕ) → HaveWithin IsAnyNumber ms depth → (k : List Token) → tokens_counts (member_tokens first ms k) ≡ counts_at_members ms ++ tokens_counts k
  members_counts_written first no_members depth h k = refl
  members_counts_written first (more_members key t ms) depth h k =
      comma_counts first (string_part key ∷ mark_part 58 [] ∷ tokens_of t (member_tokens false ms k))
      ∙ ap (λ l. replicate (length (text_key key)) 0 ++ l) (counts_written t depth h.0 (member_tokens false ms k) (members_end ms k) ∙ ap (λ l. counts_at t ++ l) (members_counts_written false ms depth h.1 k) ∙ sym (append_assoc (counts_at t) (counts_at_members ms) (tokens_counts k)))
      ∙ sym (append_assoc (replicate (length (text_key key)) 0) (counts_at t ++ counts_at_members ms) (tokens_counts k))

-- ---- the first part

-- A string is first.
pub record StringFirst (tokens : List Token) (others : List ℕ) : Type 0 where
  pub text : List ℕ
  pub later : List Token
  pub is : tokens ≡ string_part text ∷ later
  pub occurs : others ≡ closed text (tokens_text later)
  pub are : AreTokens later

-- A number is first.
pub record NumberFirst (tokens : List Token) (rest : List ℕ) : Type 0 where
  pub value : Num
  pub later : List Token
  pub is : tokens ≡ number_part value ∷ later
  pub proper : IsProperNumber value
  pub ends : EndsNumber (tokens_text later)
  pub occurs : rest ≡ number_text value ++ tokens_text later
  pub are : AreTokens later

-- What is neither is first, with this byte.
pub record MarkFirst (tokens : List Token) (first : ℕ) (others : List ℕ) : Type 0 where
  pub tail : List ℕ
  pub later : List Token
  pub is : tokens ≡ mark_part first tail ∷ later
  pub long : length tail ≡ mark_behind first
  pub occurs : others ≡ tail ++ tokens_text later
  pub are : AreTokens later

pub string_first : (tokens : List Token) → AreTokens tokens → (first : ℕ) (others : List ℕ) → first ∷ others ≡ tokens_text tokens → first ≡ 34 → StringFirst tokens others
string_first [] h first others e quote = absurd (omega (arith, ap length e))
string_first (mark_part b tail ∷ ts) h first others e quote = absurd (h.0.no_quote (sym (heads first b others (tail ++ tokens_text ts) e) ∙ quote))
string_first (string_part text ∷ ts) h first others e quote = record { text = text; later = ts; is = refl; occurs = tails first 34 others (closed text (tokens_text ts)) e; are = h }
string_first (number_part n ∷ ts) h first others e quote =
    let b = text_begins n h.0 in
    let same : first ≡ b.first = heads first b.first others (b.others ++ tokens_text ts) (e ∙ ap (λ t. t ++ tokens_text ts) b.is) in
    absurd (true≢false (sym b.begins ∙ ap is_number_byte (sym same ∙ quote)))

pub number_first : (tokens : List Token) → AreTokens tokens → (first : ℕ) (others : List ℕ) → first ∷ others ≡ tokens_text tokens → is_number_byte first ≡ true → NumberFirst tokens (first ∷ others)
number_first [] h first others e digit = absurd (omega (arith, ap length e))
number_first (mark_part b tail ∷ ts) h first others e digit = absurd (true≢false (sym digit ∙ ap is_number_byte (heads first b others (tail ++ tokens_text ts) e) ∙ h.0.no_number))
number_first (string_part text ∷ ts) h first others e digit = absurd (true≢false (sym digit ∙ ap is_number_byte (heads first 34 others (closed text (tokens_text ts)) e)))
number_first (number_part n ∷ ts) h first others e digit = record { value = n; later = ts; is = refl; proper = h.0; ends = h.1; occurs = e; are = h.2 }

pub mark_first : (tokens : List Token) → AreTokens tokens → (first : ℕ) (others : List ℕ) → first ∷ others ≡ tokens_text tokens → first ≢ 34 → is_number_byte first ≡ false → MarkFirst tokens first others
mark_first [] h first others e other no_digit = absurd (omega (arith, ap length e))
mark_first (mark_part b tail ∷ ts) h first others e other no_digit =
    let same = heads first b others (tail ++ tokens_text ts) e in
    record { tail = tail; later = ts; is = (λ i. mark_part (sym same i) tail ∷ ts); long = h.0.long ∙ ap mark_behind (sym same); occurs = tails first b others (tail ++ tokens_text ts) e; are = h.1 }
mark_first (string_part text ∷ ts) h first others e other no_digit = absurd (other (heads first 34 others (closed text (tokens_text ts)) e))
mark_first (number_part n ∷ ts) h first others e other no_digit =
    let b = text_begins n h.0 in
    let same : first ≡ b.first = heads first b.first others (b.others ++ tokens_text ts) (e ∙ ap (λ t. t ++ tokens_text ts) b.is) in
    absurd (true≢false (sym b.begins ∙ ap is_number_byte (sym same) ∙ no_digit))

-- no part is left where no byte is
pub none_left_of : (tokens : List Token) → AreTokens tokens → length (tokens_text tokens) ≡ 0 → tokens ≡ []
none_left_of [] h e = refl
none_left_of (mark_part b tail ∷ ts) h e = absurd (omega (arith, e))
none_left_of (string_part text ∷ ts) h e = absurd (omega (arith, e))
none_left_of (number_part n ∷ ts) h e =
    let b = text_begins n h.0 in
    absurd (omega (arith, e, ap length b.is, length-append (number_text n) (tokens_text ts)))
