-- The remaining input of a parser, and what a call of it leaves; `Answer` of `text_scan` again.
use Rattle.std.specs.Prelude.{◌≡◌, ◌≢◌, ℕ, ◌+◌, ◌-◌, ◌<◌, ◌≤◌, Bool, true, List, ◌∷◌, ◌++◌, length, drop, take, slice_index, Contains, Option, IfNone, IfSome, MatchBool, MatchOption, Result, Err, Ok}
use Rattle.std.specs.Str.{IsUtf8}
use Rattle.jsonb_spec.specs.Ascii as ascii
use Rattle.jsonb_spec.specs.Mode.{Mode}
use Rattle.jsonb_spec.specs.Tree.{Mark, Num, number}
use Rattle.jsonb_spec.specs.Tree.Mark.{plain}
use Rattle.jsonb_spec.specs.Source.{Source, number_source}
use Rattle.text_common.specs.VerbatimScalar.{IsVerbatimAt}
use Rattle.text_common.specs.declared.verbatim.Verbatim.{Verbatim}
use Rattle.text_common.specs.declared.verbatim.Verbatim.TheVariants.{Integer, Decimal}
use Rattle.jsonb_core.specs.declared.error.Error.{Error}
use Rattle.jsonb_core.specs.declared.error.Error.TheVariants.{OutOfMemory}
use Rattle.text_parse.specs.declared.parser.Parser.{Parser}
use Rattle.jsonb_spec.specs.Parsing.Decoding.{ReportsBackslash}
use Rattle.jsonb_spec.specs.Parsing.{Fault, Parse}
use Rattle.jsonb_spec.specs.Parsing.String.{quote_end, string_at}
use Rattle.jsonb_spec.specs.Parsing.Scalar.{scalar_at}
use Rattle.jsonb_spec.specs.Parsing.Document.{source_from}
use Rattle.jsonb_spec.specs.Parsing.Whitespace.{skip_closed_whitespace}
use Rattle.text_scan.specs.Answer.{grammar_of, Gives}
use Rattle.jsonb_spec.specs.Text.VerbatimNumber.{IsBeforePoint}
use Rattle.text_scan.specs.declared.parser.integer.StrictFront.{StrictFront}
use Rattle.text_scan.specs.declared.parser.integer.StrictFront.TheVariants as front

-- the bytes from the index on
abbrev pub rest_of : Parser → List ℕ
rest_of p = drop p.offset p.buf.now

-- the length of the whole input
abbrev pub size_of : Parser → ℕ
size_of p = length p.buf.now

-- The byte before the parser's offset is this one.
abbrev pub IsBehind : ℕ → Parser → Type 0
IsBehind byte p = (0 < p.offset) × (slice_index p.buf.now (p.offset - 1) ≡ byte)

-- The byte before the parser's offset is an opening quote of this kind.
pub record IsAfterQuote (quote : ℕ) (p : Parser) : Type 0 where
  -- a backslash is no quote
  pub no_backslash : quote ≢ ascii.backslash
  -- no character crosses the quote
  pub is_ascii : quote < ascii.end
  -- it is before the offset
  pub opened : IsBehind quote p

-- This is the parser's input as text, or a front of it.
abbrev pub IsTextOf : List ℕ → Parser → Type 0
IsTextOf text p = text ≡ take (length text) p.buf.now

-- The parser has gone on in the same input.
pub record Advances (old new : Parser) : Type 0 where
  pub buf : new.buf ≡ old.buf
  pub mode : new.mode ≡ old.mode
  pub grammar : new.grammar ≡ old.grammar
  pub onward : old.offset ≤ new.offset

-- The parser has gone on in the same input, and what was in the sink before the text stays.
pub record AdvancesOver {R : Type 0} (base_of : R → List (List ℕ)) (old new : Parser) (before after : R) : Type 0 where
  pub parser : Advances old new
  pub base : base_of after ≡ base_of before

-- The parser has gone on, and this is reported.
pub record Reports (error : Option Error) (old new : Parser) : Type 0 where
  -- what is reported
  pub reported : new.reported ≡ error
  -- the parser has gone on in its input
  pub advances : Advances old new

-- This byte was passed, where it is to be taken and comes next; else the parser stays.
pub record TakesByte (byte : ℕ) (is_next result : Bool) (old new : Parser) : Type 0 where
  -- whether the byte comes next
  pub found : result ≡ is_next
  -- the byte was passed, or the parser stays
  pub rest : MatchBool result (rest_of old ≡ byte ∷ rest_of new) (new ≡ old)
  -- it is the byte before the offset
  pub behind : MatchBool result (IsBehind byte new) (Unit {0})
  -- the offset grows where it was passed
  pub onward : MatchBool result (old.offset < new.offset) (new ≡ old)
  -- the parser has gone on in its input
  pub advances : Advances old new

-- ---- whitespace

-- The parser has passed all that this function skips.
pub record Skips (skip : Mode → List ℕ → List ℕ) (old new : Parser) : Type 0 where
  -- what is left is what the function leaves
  pub rest : rest_of new ≡ skip (grammar_of old.grammar) (rest_of old)
  -- the parser has gone on in its input
  pub advances : Advances old new

-- The parser has passed some of what this function skips, or nothing.
pub record SkipsSome (skip : Mode → List ℕ → List ℕ) (old new : Parser) : Type 0 where
  -- the function leaves the same bytes as before
  pub rest : skip (grammar_of old.grammar) (rest_of new) ≡ skip (grammar_of old.grammar) (rest_of old)
  -- the parser has gone on in its input
  pub advances : Advances old new

-- ---- what is parsed

-- What a call returned, seen by view, and the bytes that it left are what this function parses from the parser's offset
-- on.
abbrev pub ParsesAs : {X Y : Type 0} → (X → Y) → (ℕ → Mode → List ℕ → Parse Y) → Result X Error → Parser → Parser
    → Type 0
ParsesAs view read result old new =
    Gives (λ x. (view x, rest_of new)) result (read (size_of old) (grammar_of old.grammar) (rest_of old))

-- What a call returned that returns `None` where it did not parse: where it is `Some`, it is seen so.
abbrev pub FindsAs : {X Y : Type 0} → (X → Y) → (ℕ → Mode → List ℕ → Parse Y) → Option X → Parser → Parser → Type 0
FindsAs view read result old new =
    IfSome result (λ x. read (size_of old) (grammar_of old.grammar) (rest_of old) ≡ Ok (view x, rest_of new))

-- what this function parses from where the parser is
abbrev pub parse_at : {Y : Type 0} → (ℕ → Mode → List ℕ → Parse Y) → Parser → Parse Y
parse_at read p = read (size_of p) (grammar_of p.grammar) (rest_of p)

-- the whole text, with whitespace before its value
abbrev pub source_at : Parser → Result Source Fault
source_at p =
    source_from (size_of p) (grammar_of p.grammar) (skip_closed_whitespace (grammar_of p.grammar) (rest_of p))

-- the whole text, behind that whitespace
abbrev pub source_here : Parser → Result Source Fault
source_here p = source_from (size_of p) (grammar_of p.grammar) (rest_of p)

-- A string or a key is what this function parses; memory runs out only where the text has a backslash.
pub record ParsesString {X : Type 0} (view : X → Mark × List ℕ) (read : ℕ → Mode → List ℕ → Parse (Mark × List ℕ))
    (result : Result X Error) (old new : Parser) : Type 0 where
  -- what was returned is what is parsed, or the error is its fault
  pub parses : ParsesAs view read result old new
  -- memory runs out only where the text has a backslash
  pub memory : result ≡ Err OutOfMemory → Contains old.buf.now ascii.backslash
  -- the parser has gone on in its input
  pub advances : Advances old new

-- What a call returned is what this function parses, and it takes no memory.
pub record ParsesAtOffset {X Y : Type 0} (view : X → Y) (read : ℕ → Mode → List ℕ → Parse Y) (result : Result X Error)
    (old new : Parser) : Type 0 where
  -- what was returned is what is parsed, or the error is its fault
  pub parses : ParsesAs view read result old new
  -- memory never runs out
  pub takes_no_memory : result ≢ Err OutOfMemory
  -- the parser has gone on in its input
  pub advances : Advances old new

-- What a call found is what this function parses; where it found nothing, the parser stays.
pub record Finds {X Y : Type 0} (view : X → Y) (read : ℕ → Mode → List ℕ → Parse Y) (result : Option X)
    (old new : Parser) : Type 0 where
  -- what was found is what is parsed
  pub parses : FindsAs view read result old new
  -- where nothing was found, the parser stays
  pub stays : IfNone result (new ≡ old)
  -- the parser has gone on in its input
  pub advances : Advances old new

-- A string without escapes is found, of which the text has these bytes before its closing quote.
pub record CutsString {X : Type 0} (body_of : X → List ℕ) (quote : ℕ) (result : Option X) (old new : Parser)
    : Type 0 where
  -- what was found is the string that is parsed, without escapes
  pub parses : FindsAs (λ x. (plain, body_of x)) (λ size mode. string_at size mode quote) result old new
  -- its bytes are before the closing quote
  pub encoded : IfSome result (λ x. rest_of old ≡ body_of x ++ quote ∷ rest_of new)
  -- where nothing was found, the parser stays
  pub stays : IfNone result (new ≡ old)
  -- the parser has gone on in its input
  pub advances : Advances old new

-- So many bytes were cut out of the text, and the byte behind them was passed too.
pub record CutsTo (len : ℕ) (old new : Parser) (body : List ℕ) : Type 0 where
  pub is : body ≡ take len (rest_of old)
  pub utf8 : IsUtf8 body
  pub offset : new.offset ≡ old.offset + len + 1
  pub rest : rest_of new ≡ drop (len + 1) (rest_of old)

-- The contents of a string in these quotes were passed, and its closing quote, and a backslash is among them.
pub record PassesContents (quote : ℕ) (old new : Parser) (body : List ℕ) : Type 0 where
  pub found : quote_end quote (rest_of old) ≡ Ok (length body)
  pub is : body ≡ take (length body) (rest_of old)
  pub escaped : ReportsBackslash body (length body) true
  pub within : length body < length (rest_of old)
  pub rest : rest_of new ≡ drop (length body + 1) (rest_of old)

-- A number of this kind is passed that is written by the same bytes again.
pub record PassesNumber (verbatim : Verbatim) (old new : Parser) : Type 0 where
  pub value : Num
  pub parses : parse_at scalar_at old ≡ Ok (number value, rest_of new)
  pub holds : IsVerbatimAt verbatim old.buf.now old.offset new.offset (number_source value)

-- An integer was passed that is written by the same bytes again, or the parser stays before so many digits and a point.
abbrev pub PassesFront : Parser → Parser → StrictFront → Type 0
PassesFront old new (front.Integer end) = PassesNumber Integer old new
PassesFront old new (front.Point len) = (new ≡ old) × IsBeforePoint (rest_of old) len

-- An integer is passed that is written by the same bytes again, or the digits before a point are counted, where that is
-- asked and one of them is found; else the parser stays.
pub record PreservesFront (is_asked : Bool) (result : Option StrictFront) (old new : Parser) : Type 0 where
  -- what was found, or the parser stays
  pub passes : MatchOption result (new ≡ old) (λ found. PassesFront old new found)
  -- it was asked for
  pub asked : IfSome result (λ found. is_asked ≡ true)
  -- the parser has gone on in its input
  pub advances : Advances old new

-- A decimal is passed that is written by the same bytes again, where that is asked and one is found; else the parser
-- stays.
pub record PreservesDecimal (is_asked result : Bool) (old new : Parser) : Type 0 where
  -- a decimal was passed, or the parser stays
  pub passes : MatchBool result (PassesNumber Decimal old new) (new ≡ old)
  -- it was asked for
  pub asked : MatchBool result (is_asked ≡ true) (Unit {0})
  -- the parser has gone on in its input
  pub advances : Advances old new

-- A number is passed that is written by the same bytes again, where that is asked and one is found; else the parser
-- stays.
pub record PreservesNumber (is_asked : Bool) (result : Option Verbatim) (old new : Parser) : Type 0 where
  -- a number of this kind was passed, or the parser stays
  pub passes : MatchOption result (new ≡ old) (λ verbatim. PassesNumber verbatim old new)
  -- it was asked for
  pub asked : IfSome result (λ verbatim. is_asked ≡ true)
  -- the parser has gone on in its input
  pub advances : Advances old new
