-- Skipping whitespace.
use Rattle.std.specs.Prelude.{ℕ, zero, suc, ◌+◌, ◌-◌, Bool, false, ◌||◌, ◌&&◌, List, [], ◌∷◌, ◌==◌, if◌then◌else◌}
use Rattle.jsonb_spec.specs.Ascii as ascii
use Rattle.jsonb_spec.specs.Mode.{Mode, Strictness, strict, lenient, strictness}
use Rattle.jsonb_spec.specs.Parsing.{on_byte, begins, goes_beyond_json}

-- a byte at which whitespace may begin
abbrev pub is_whitespace_start : ℕ → Bool
is_whitespace_start b =
    (b == ascii.space) || (b == ascii.tab) || (b == ascii.line_feed) || (b == ascii.form_feed)
    || (b == ascii.carriage_return) || (b == ascii.backslash) || (b == ascii.slash)

-- A byte that may follow a value or a bare key, and begins none.
abbrev pub is_break : ℕ → Bool
is_break b =
    is_whitespace_start b || (b == ascii.comma) || (b == ascii.colon) || (b == ascii.close_bracket)
    || (b == ascii.close_brace)

-- how many bytes the piece of whitespace takes whose first bytes are a backslash and x, from the byte after these on,
-- or 0
abbrev pub form_feed_length : List ℕ → ℕ
form_feed_length [] = 0
form_feed_length (c ∷ []) = 0
form_feed_length (c ∷ d ∷ rest) = if (c == ascii.digit_zero) && (d == ascii.upper_c) then 4 else 0

-- how many bytes the piece of whitespace takes whose first byte is a backslash, from the byte after it on, or 0
abbrev pub written_length : List ℕ → ℕ
written_length [] = 0
written_length (b ∷ bytes) = if (b == ascii.lower_n) || (b == ascii.lower_r) || (b == ascii.lower_t) then 2
    else (if b == ascii.lower_x then form_feed_length bytes else 0)

-- so many bytes more, where there are any
abbrev pub longer_by : ℕ → ℕ → ℕ
longer_by more zero = 0
longer_by more (suc n) = more + suc n

-- how many bytes there are up to and with the first star and slash, or 0 where there are none
unfoldable pub block_length : List ℕ → ℕ
block_length [] = 0
block_length (b ∷ bytes) = if (b == ascii.star) && begins ascii.slash bytes then 2 else longer_by 1 (block_length bytes)

-- how many bytes there are up to and with the first end of a line, or 0 where there is none
unfoldable pub line_length : List ℕ → ℕ
line_length [] = 0
line_length (b ∷ bytes) =
    if (b == ascii.line_feed) || (b == ascii.carriage_return) then 1 else longer_by 1 (line_length bytes)

-- how many bytes the comment takes whose first byte is a slash, from the byte after it on, or 0 where none begins or
-- ends
abbrev pub comment_length : List ℕ → ℕ
comment_length [] = 0
comment_length (b ∷ bytes) = if b == ascii.star then longer_by 2 (block_length bytes)
    else (if b == ascii.slash then longer_by 2 (line_length bytes) else 0)

abbrev pub slash_length : Strictness → List ℕ → ℕ
slash_length strict bytes = 0
slash_length lenient bytes = comment_length bytes

-- how many bytes the first piece of whitespace takes, or 0 where none begins
abbrev pub piece_length : Mode → List ℕ → ℕ
piece_length mode [] = 0
piece_length mode (b ∷ bytes) =
    if (b == ascii.space) || (b == ascii.tab) || (b == ascii.line_feed)
    || (goes_beyond_json mode && (b == ascii.form_feed)) || (b == ascii.carriage_return) then 1
    else (if goes_beyond_json mode && (b == ascii.backslash) then written_length bytes
    else (if b == ascii.slash then slash_length (strictness mode) bytes else 0))

abbrev pub pass_chosen : ℕ → List ℕ → List ℕ → List ℕ
pass_chosen zero here later = here
pass_chosen (suc passed) here later = later

-- the bytes after the whitespace, where this many bytes of a piece are still to be passed
unfoldable pub pass_from : Mode → ℕ → List ℕ → List ℕ
pass_from mode passed [] = []
pass_from mode (suc passed) (b ∷ bytes) = pass_from mode passed bytes
pass_from mode zero (b ∷ bytes) =
    pass_chosen (piece_length mode (b ∷ bytes)) (b ∷ bytes) (pass_from mode (piece_length mode (b ∷ bytes) - 1) bytes)

-- the bytes after the whitespace
abbrev pub skip_closed_whitespace : Mode → List ℕ → List ℕ
skip_closed_whitespace mode bytes = pass_from mode 0 bytes

-- whether a comment begins here, closed or not
abbrev pub opens_comment : Strictness → List ℕ → Bool
opens_comment strict bytes = false
opens_comment lenient bytes =
    on_byte ascii.slash bytes (λ rest. begins ascii.star rest || begins ascii.slash rest) false

-- nothing where a comment begins, which is then one without its end
abbrev pub past_comment : Strictness → List ℕ → List ℕ
past_comment strictness bytes = if opens_comment strictness bytes then [] else bytes

-- the bytes after the whitespace, and after a comment that never ends
abbrev pub skip_whitespace : Mode → List ℕ → List ℕ
skip_whitespace mode bytes = past_comment (strictness mode) (skip_closed_whitespace mode bytes)
