-- The texts of an input: its lines, or all of it.
use Rattle.std.specs.Prelude.{ℕ, ◌-◌, ◌==◌, ◌&&◌, ◌||◌, Bool, true, false, not, if◌then◌else◌, List, [], ◌∷◌, length, take, drop, slice_index}
use Rattle.std.specs.Io.BufRead.{ends_with_byte}
use Rattle.std.specs.List.{filter, list_all}
use Rattle.std.specs.Str.Lines.{lines, strip_carriage_return}
use Rattle.jsonb_spec.specs.Ascii as ascii

-- the bytes of a byte order mark in UTF-8, EF BB BF
abbrev pub mark_first : ℕ
mark_first = 239

abbrev pub mark_second : ℕ
mark_second = 187

abbrev pub mark_third : ℕ
mark_third = 191

-- the bytes without a byte order mark at their start
abbrev pub without_mark : List ℕ → List ℕ
without_mark bytes =
    if (slice_index bytes 0 == mark_first)
    && ((slice_index bytes 1 == mark_second) && (slice_index bytes 2 == mark_third))
    then drop 3 bytes else bytes

-- a line without its line feed, and without a carriage return before that
abbrev pub without_end : List ℕ → List ℕ
without_end line =
    if ends_with_byte ascii.line_feed line then strip_carriage_return (take (length line - 1) line) else line

-- a space, a tab, a line feed or a carriage return
abbrev pub is_blank : ℕ → Bool
is_blank byte = byte == ascii.space || (byte == ascii.tab || (byte == ascii.line_feed || byte == ascii.carriage_return))

-- whitespace alone
abbrev pub is_blank_line : List ℕ → Bool
is_blank_line line = list_all is_blank line

-- the lines of the bytes that aren't blank, each without its end
abbrev pub text_lines : List ℕ → List (List ℕ)
text_lines bytes = filter (λ line. not (is_blank_line line)) (lines bytes)

-- the texts of an input: its lines that aren't blank, or all of it; a byte order mark at its start is no part of them
abbrev pub texts_of : Bool → List ℕ → List (List ℕ)
texts_of true bytes = text_lines (without_mark bytes)
texts_of false bytes = without_mark bytes ∷ []
