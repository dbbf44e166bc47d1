-- A text as its parts, from left to right: strings, numbers, and what is neither. Each has a key of its own.
use Rattle.std.specs.Prelude.{◌≡◌, ◌≢◌, ℕ, ◌+◌, ◌-◌, ◌<◌, ◌≤◌, false, List, [], ◌∷◌, ◌++◌, length, drop, replicate, unsigned_abs}
use Rattle.jsonb_spec.specs.Ascii as ascii
use Rattle.jsonb_spec.specs.Proper.{IsProperNumber}
use Rattle.jsonb_spec.specs.SortKey.{key_of, number_key}
use Rattle.jsonb_spec.specs.Text.NumberText.{number_text}
use Rattle.jsonb_spec.specs.Tree.{Num, Tree}
use Rattle.jsonb_spec.specs.SortKey.FewestDigits.{spare_zeros}
use Rattle.jsonb_spec.specs.Document.Scan.{is_number_byte}
use Rattle.jsonb_spec.specs.Document.Zeros.{zeros_of}
use Rattle.jsonb_spec.specs.Document.{zeros_at}
use Rattle.key_document.specs.FromText.{closed, EndsNumber, mark_behind, mark_key, string_key}
use Rattle.key_document.specs.declared.from_text.FirstZeros.{FirstZeros}

-- a part of a text: what is neither a string nor a number has a first byte and others
pub data Token : Type 0 where
  mark_part : ℕ → List ℕ → Token
  string_part : List ℕ → Token
  number_part : Num → Token

-- the text of the parts
abbrev pub tokens_text : List Token → List ℕ
tokens_text [] = []
tokens_text (mark_part b tail ∷ ts) = b ∷ (tail ++ tokens_text ts)
tokens_text (string_part text ∷ ts) = ascii.quote ∷ closed text (tokens_text ts)
tokens_text (number_part n ∷ ts) = number_text n ++ tokens_text ts

-- the key of the first part
abbrev pub token_key : Token → List Token → List ℕ
token_key (mark_part b tail) ts = mark_key b
token_key (string_part text) ts = string_key (tokens_text ts) text
token_key (number_part n) ts = number_key n

-- the keys
abbrev pub tokens_key : List Token → List ℕ
tokens_key [] = []
tokens_key (t ∷ ts) = token_key t ts ++ tokens_key ts

-- the counts of the bytes of the first part's key
abbrev pub token_counts : Token → List Token → List ℕ
token_counts (mark_part b tail) ts = replicate (length (mark_key b)) 0
token_counts (string_part text) ts = replicate (length (string_key (tokens_text ts) text)) 0
token_counts (number_part n) ts = spare_zeros n.scale (unsigned_abs n.whole) ∷ replicate (length (number_key n) - 1) 0

-- the counts of the bytes of the keys
abbrev pub tokens_counts : List Token → List ℕ
tokens_counts [] = []
tokens_counts (t ∷ ts) = token_counts t ts ++ tokens_counts ts

-- a part that is neither a string nor a number
pub record IsMark (b : ℕ) (tail : List ℕ) : Type 0 where
  pub no_quote : b ≢ ascii.quote
  pub no_number : is_number_byte b ≡ false
  pub long : length tail ≡ mark_behind b

-- The parts are such, and no number goes on behind its end.
abbrev pub AreTokens : List Token → Type 0
AreTokens [] = Unit {0}
AreTokens (mark_part b tail ∷ ts) = IsMark b tail × AreTokens ts
AreTokens (string_part text ∷ ts) = AreTokens ts
AreTokens (number_part n ∷ ts) = IsProperNumber n × EndsNumber (tokens_text ts) × AreTokens ts

-- The zeros of the value are those of the parts that so many of the last bytes of its text are. Before their keys
-- others are in its key, so that they begin at this offset where the key begins at `start`.
pub record ZerosFrom (t : Tree) (text : List ℕ) (start : ℕ) (first : FirstZeros) : Type 0 where
  pub tokens : List Token
  pub are : AreTokens tokens
  pub within : first.left ≤ length text
  pub occurs : drop (length text - first.left) text ≡ tokens_text tokens
  pub front : List ℕ
  pub key_is : key_of t ≡ front ++ tokens_key tokens
  pub at_is : first.at ≡ start + length front
  pub zeros_are : zeros_at t ≡ zeros_of (length front) (tokens_counts tokens)

-- The value has no zeros, or they are those from there on.
pub record FindsZeros (t : Tree) (text : List ℕ) (start : ℕ) (first : FirstZeros) : Type 0 where
  pub none : first.left ≡ 0 → zeros_at t ≡ []
  pub some : 0 < first.left → ZerosFrom t text start first
