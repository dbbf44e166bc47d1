-- What the steps of parsing strings and unquoted keys guarantee.
use Rattle.std.specs.Prelude.{◌≡◌, ℕ, ◌+◌, ◌<◌, ◌≤◌, List, length, slice_index, Result, Ok, Err}
use Rattle.std.specs.Cow.{cow_str_bytes}
use Rattle.std.specs.Int.{bit_at}
use Rattle.std.specs.declared.alloc.Global.{Global}
use Rattle.std.specs.declared.borrow.CowStr.{CowStr}
use Rattle.jsonb_spec.specs.Tree.{Mark}
use Rattle.jsonb_spec.specs.Tree.Mark.{escaped as escaped_mark}
use Rattle.jsonb_core.specs.Error.CodeView.{code_of}
use Rattle.jsonb_core.specs.View.{mark_view}
use Rattle.jsonb_core.specs.declared.error.Error.{Error}
use Rattle.jsonb_core.specs.declared.error.Error.TheVariants.{Syntax, OutOfMemory}
use Rattle.text_scan.specs.declared.parser.string.StringEnd.{StringEnd}
use Rattle.text_scan.specs.declared.parser.string.StringEnd.TheVariants.{Closed, Unclosed}
use Rattle.text_scan.specs.declared.parser.key.KeyEnd.{KeyEnd}
use Rattle.text_scan.specs.declared.parser.key.KeyEnd.TheVariants as key_ends
use Rattle.jsonb_spec.specs.Parsing.Decoding.{ReportsBackslash}
use Rattle.jsonb_spec.specs.Parsing.BareKey.{key_end}
use Rattle.jsonb_spec.specs.Parsing.String.{Body, quote_end}
use Rattle.jsonb_spec.specs.Parsing.Contents.{IsQuoteOrBackslash}

-- the search ends where parsing does; and whether a backslash was passed
abbrev pub EndsString : ℕ → List ℕ → StringEnd → Type 0
EndsString quote bytes (Closed end escaped) = (quote_end quote bytes ≡ Ok end) × ReportsBackslash bytes end escaped
EndsString quote bytes (Unclosed at) = (quote_end quote bytes ≡ Err at) × (at < length bytes + 8)

-- The text and its mark are those that are parsed of the body, or the fault is, where the decoder counts from `idx`.
abbrev pub DecodesContents : ℕ → Result (CowStr Global) Error → Body (Mark × List ℕ) → Type 0
DecodesContents idx (Ok text) read = read ≡ Ok (mark_view text, cow_str_bytes text)
DecodesContents idx (Err (Syntax code offset)) read = (count : ℕ) × (read ≡ Err (code_of code, count))
    × (offset ≡ idx + count)
DecodesContents idx (Err OutOfMemory) read = Unit {0}
DecodesContents idx (Err other) read = ⊥

-- This text is parsed of a body with a backslash, or the fault is, where the check counts from `idx`.
abbrev pub ChecksContents : ℕ → Result (Unit {0}) Error → List ℕ → Body (Mark × List ℕ) → Type 0
ChecksContents idx (Ok done) text read = read ≡ Ok (escaped_mark, text)
ChecksContents idx (Err (Syntax code offset)) text read = (count : ℕ) × (read ≡ Err (code_of code, count))
    × (offset ≡ idx + count)
ChecksContents idx (Err other) text read = ⊥

-- the search for the end of a bare key ends where parsing does
abbrev pub EndsKey : List ℕ → KeyEnd → Type 0
EndsKey bytes (key_ends.At end) = key_end bytes ≡ Ok end
EndsKey bytes (key_ends.Past at) = (key_end bytes ≡ Err at) × (at < length bytes + 4)

-- bit k says whether the byte at + k is the quote or a backslash, of those before end
pub record ReportsMarks (quote : ℕ) (bytes : List ℕ) (at end bits : ℕ) : Type 0 where
  pub within : end ≤ length bytes
  pub set : (k : ℕ) → at + k < end → IsQuoteOrBackslash quote (slice_index bytes (at + k)) → bit_at bits k ≡ 1
  pub marked : (k : ℕ) → bit_at bits k ≡ 1 → IsQuoteOrBackslash quote (slice_index bytes (at + k))
  pub short : (k : ℕ) → bit_at bits k ≡ 1 → at + k < end

-- the same of those before some offset
abbrev pub KnowsMarks : ℕ → List ℕ → ℕ → ℕ → Type 0
KnowsMarks quote bytes at bits = (end : ℕ) × ReportsMarks quote bytes at end bits
