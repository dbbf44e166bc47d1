-- What is appended while a key is walked.
use Rattle.std.specs.Prelude.{◌≡◌, ◌≢◌, ℕ, zero, suc, ◌+◌, ◌-◌, ◌/◌, ◌%◌, ◌<◌, ◌≤◌, Bool, true, false, nat_lt, if◌then◌else◌, List, [], ◌∷◌, ◌++◌, length, take, replicate, slice_range, IfOk, MatchResult, IsTrue, IsFalse, drop, get_or, ◌⊎◌, ◌*◌, codes, ◌^◌, map, Result, Vec, vec_len, vec_capacity}
use Rattle.std.specs.Borrow.{Bor}
use Rattle.std.specs.List.{flat_map}
use Rattle.std.specs.declared.alloc.Global.{Global}
use Rattle.key_value.specs.declared.error.KeyError.{KeyError}
use Rattle.key_value.specs.declared.error.KeyError.TheVariants.{OutOfMemory}
use Rattle.jsonb_spec.specs.SortKey.Reading.{IsDigits}
use Rattle.jsonb_spec.specs.SortKey.Open.{Open, items, members}
use Rattle.jsonb_spec.specs.Ascii as ascii
use Rattle.jsonb_spec.specs.SortKey.{text_key, digits_key, invert_if}
use Rattle.jsonb_spec.specs.SortKey.Kind as kind
use Rattle.jsonb_spec.specs.Text.Appending.{comma_before}
use Rattle.jsonb_spec.specs.Text.StringText.{byte_text, quoted_text}
use Rattle.jsonb_spec.specs.Text.{tree_text}
use Rattle.jsonb_spec.specs.Tree.{Trees, no_trees, more_trees, Members, no_members, more_members}
use Rattle.jsonb_spec.specs.SortKey.Text.{Preserves}

-- The text is appended, and these bytes are left. Else memory ran out, as the capacity for all of the text is missing.
abbrev pub Writes : {X : Type 0} → (X → List ℕ) → Result X KeyError → Vec ℕ Global → Vec ℕ Global → List ℕ → List ℕ
    → Type 0
Writes left result old new more text = MatchResult result
    (λ x. (left x ≡ more) × (new.items ≡ old.items ++ text))
    (λ e. (e ≡ OutOfMemory) × (vec_capacity old < vec_len old + length text))

-- The text is appended, and these bytes of a key are left; or memory ran out so.
abbrev pub AppendsLeaving : Result (Bor (List ℕ)) KeyError → Vec ℕ Global → Vec ℕ Global → List ℕ → List ℕ → Type 0
AppendsLeaving result old new more text = Writes (λ rest. rest.now) result old new more text

-- The text is appended, or nothing is.
pub record AppendsOrNot (done : Bool) (old new : Vec ℕ Global) (text : List ℕ) : Type 0 where
  pub appended : IsTrue done → new.items ≡ old.items ++ text
  pub unchanged : IsFalse done → new.items ≡ old.items
  pub preserves : Preserves old new

-- So many bytes of a key were read, behind which these are left, and the text is appended.
abbrev pub Takes : List ℕ → ℕ → Vec ℕ Global → Vec ℕ Global → List ℕ → List ℕ → Type 0
Takes bytes count old new more text = (drop count bytes ≡ more) × (new.items ≡ old.items ++ text)

-- So many of the bytes were read, and where it is none, nothing is appended.
pub record TakesSome (bytes : List ℕ) (count : ℕ) (old new : Vec ℕ Global) : Type 0 where
  pub none : count ≡ 0 → new.items ≡ old.items
  pub within : count ≤ length bytes
  pub preserves : Preserves old new

-- what is left of an array's text
abbrev pub items_left : Bool → Trees → List ℕ
items_left first no_trees = ascii.close_bracket ∷ []
items_left first (more_trees t ts) = comma_before first ++ (tree_text t ++ items_left false ts)

-- a member's name and a colon, which an item has none of
abbrev pub name_text : Bool → List ℕ → List ℕ
name_text true name = quoted_text name ++ ascii.colon ∷ []
name_text false name = []

-- what is left of an object's text
abbrev pub members_left : Bool → Members → List ℕ
members_left first no_members = ascii.close_brace ∷ []
members_left first (more_members k t ms) =
    comma_before first ++ (name_text true k ++ (tree_text t ++ members_left false ms))

-- what is left of the text of what is open
abbrev pub open_text : Bool → Open → List ℕ
open_text first (items ts) = items_left first ts
open_text first (members ms) = members_left first ms

-- the brackets
abbrev pub opening_text : Bool → ℕ
opening_text true = ascii.open_brace
opening_text false = ascii.open_bracket

abbrev pub closing_text : Bool → ℕ
closing_text true = ascii.close_brace
closing_text false = ascii.close_bracket

-- the end of a string, or of a name
abbrev pub closing_quote : Bool → List ℕ
closing_quote true = ascii.quote ∷ ascii.colon ∷ []
closing_quote false = ascii.quote ∷ []

-- Whichever text's key the bytes begin with, the text is appended with its escapes and its end, and the bytes behind
-- the key are left. Of any bytes fewer are left.
pub record WritesString (colon : Bool) (bytes : List ℕ) (result : Result (Bor (List ℕ)) KeyError)
    (old new : Vec ℕ Global) : Type 0 where
  pub found : (text more : List ℕ) → bytes ≡ text_key text ++ more
      → AppendsLeaving result old new more (flat_map byte_text text ++ closing_quote colon)
  pub shorter : IfOk result (λ rest. length rest.now < length bytes)
  pub preserves : Preserves old new

-- the last digits of a number, as many as are asked for
unfoldable pub last_digits : ℕ → ℕ → List ℕ
last_digits zero n = []
last_digits (suc count) n = last_digits count (n / 10) ++ (ascii.digit_zero + n % 10) ∷ []

-- The row has the first digits of a number that has `count` of them, without zeros at the end: there are `read` of
-- them. All behind them are zeros.
pub record IsEncoded (count magnitude read : ℕ) (row : List ℕ) : Type 0 where
  pub digits : ℕ
  pub is_digits : IsDigits count magnitude digits read
  pub not_zero : digits % 10 ≢ 0
  pub encoded : row ≡ last_digits read digits ++ replicate (48 - read) ascii.digit_zero

-- The row has the first pairs of digits of a number, of which the last may end in a zero. All behind the row are zeros.
pub record HasPairs (count magnitude pairs : ℕ) (row : List ℕ) : Type 0 where
  pub two : get_or row (2 * pairs - 1) 0 ≢ ascii.digit_zero
      → IsEncoded count magnitude (2 * pairs) (row ++ replicate 32 ascii.digit_zero)
  pub one : get_or row (2 * pairs - 1) 0 ≡ ascii.digit_zero
      → IsEncoded count magnitude (2 * pairs - 1) (row ++ replicate 32 ascii.digit_zero)

-- The digits of these pairs are appended, the last of which may end in a zero, with a point behind so many.
pub record AppendsPairs (front pairs : ℕ) (row old new : List ℕ) : Type 0 where
  pub two : get_or row (2 * pairs - 1) 0 ≢ ascii.digit_zero
      → new ≡ old ++ (take front row ++ ascii.point ∷ slice_range row front (2 * pairs))
  pub one : get_or row (2 * pairs - 1) 0 ≡ ascii.digit_zero
      → new ≡ old ++ (take front row ++ ascii.point ∷ slice_range row front (2 * pairs - 1))

-- The digits of a number below 100 are appended, of which as many are before the point: a zero isn't behind it.
pub record AppendsPair (front pair : ℕ) (old new : List ℕ) : Type 0 where
  pub two : front ≡ 2
      → new ≡ old ++ (ascii.digit_zero + pair / 10) ∷ (ascii.digit_zero + pair % 10) ∷ []
  pub one : front ≡ 1 → pair % 10 ≡ 0 → new ≡ old ++ (ascii.digit_zero + pair / 10) ∷ []
  pub pointed : front ≡ 1 → pair % 10 ≢ 0
      → new ≡ old ++ (ascii.digit_zero + pair / 10) ∷ ascii.point ∷ (ascii.digit_zero + pair % 10) ∷ []

-- The word of which this byte is the key is appended.
abbrev pub AppendsWord : ℕ → List ℕ → List ℕ → Type 0
AppendsWord first old new =
    ((first ≡ kind.null) × (new ≡ old ++ codes "null"))
    ⊎ (((first ≡ kind.false) × (new ≡ old ++ codes "false")) ⊎ ((first ≡ kind.true) × (new ≡ old ++ codes "true")))

-- The digits that are first in the row, where the first is at this exponent: with zeros behind them, with a point
-- among them, or behind a point and as many zeros.
unfoldable pub scaled_text : ℕ → ℕ → List ℕ → List ℕ
scaled_text exponent count row =
    if nat_lt 255 exponent then
    (if nat_lt (exponent - 255) count then take (exponent - 255) row ++ ascii.point ∷ slice_range row (exponent - 255) count
    else take (exponent - 255) row)
    else ascii.digit_zero ∷ ascii.point ∷ (replicate (255 - exponent) ascii.digit_zero ++ take count row)

-- All digits of a number above 0 were read, and its text is appended, which has so many digits before the point.
pub record TakesNumberOf (count magnitude front : ℕ) (bytes : List ℕ) (taken : ℕ) (more old new : List ℕ)
    : Type 0 where
  pub read : ℕ
  pub row : List ℕ
  pub encoded : IsEncoded count magnitude read row
  pub left : drop taken bytes ≡ more
  pub appended : new ≡ old ++ scaled_text (255 + front) read row

-- Where some byte was read, this is so of whichever number's digits the bytes begin with.
abbrev pub TakesNumber : ℕ → List ℕ → ℕ → List ℕ → List ℕ → Type 0
TakesNumber front bytes taken old new =
    0 < taken → (count magnitude : ℕ) → magnitude < 10 ^ count → 0 < magnitude → count ≤ 39 → (more : List ℕ)
    → bytes ≡ map (invert_if false) (digits_key count magnitude) ++ more
    → TakesNumberOf count magnitude front bytes taken more old new
