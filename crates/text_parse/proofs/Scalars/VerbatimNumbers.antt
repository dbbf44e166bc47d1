-- Numbers that are written as they are.
use Rattle.std.proofs.Common.{◌≡◌, ℕ, zero, suc, ◌+◌, ◌^◌, ◌<◌, ◌≤◌, ℤ, pos, negsuc, subst, true, false, true≢false, List, [], ◌∷◌, ◌++◌, drop, drop-drop, Ok, refl, sym, ap, ap₂, ◌∙◌, arith}
use Rattle.std.specs.Prelude.{slice_index, unsigned_abs, FitsSigned}
use Rattle.std.specs.Int.{w64}
use Rattle.jsonb_spec.specs.Grammar.StandardNumber.{IsStandardNumber}
use Rattle.jsonb_spec.specs.Mode.{Mode, standard, extended, json, extended_json, Strictness, strict, lenient, strictness}
use Rattle.jsonb_spec.specs.Proper.{IsProperNumber}
use Rattle.jsonb_spec.specs.Text.NumberText.{number_text, text_of_parts}
use Rattle.jsonb_spec.specs.Text.Range.{HasFewDigits, IsIntegral}
use Rattle.jsonb_spec.specs.Tree.{decimal64, Num, number}
use Rattle.std.proofs.lemmas.List.{take-append-drop}
use Rattle.jsonb_spec.specs.Text.VerbatimScalar.{IsShortDecimal}
use Rattle.text_common.specs.declared.verbatim.Verbatim.TheVariants.{Integer, Decimal}
use Rattle.jsonb_spec.specs.Text.VerbatimNumber.{IsVerbatimDecimal}
use Rattle.jsonb_core.proofs.Numbers.InRange.{extended_reads_back, extended_json_reads_back, integer_reads_back, integral_in_texts, json_reads_back, small_signed, standard_number}
use Rattle.jsonb_core.proofs.Trees.TextsReadBack.{EncodesSameNumber}
use Rattle.jsonb_spec.specs.Parsing.Whitespace.{is_break}
use Rattle.jsonb_spec.specs.Parsing.Number.{is_number_start}
use Rattle.jsonb_spec.specs.Parsing.Scalar.{number_at, scalar_at}
use Rattle.text_scan.specs.ShortInteger.{IsVerbatimInteger, short_view}
use Rattle.text_scan.proofs.Numbers.Read.{number_complete_of}
use Rattle.text_scan.proofs.Numbers.Reading.{EndsNumber, NumberRead}
use Rattle.text_scan.proofs.Numbers.Standard.{number_sound, number_unique}
use Rattle.text_parse.proofs.VerbatimTexts.{verbatim_text}
use Rattle.text_parse.specs.declared.parser.Parser.{Parser}
use Rattle.text_parse.specs.Grammars.{takes_decimals}
use Rattle.text_parse.specs.Parser.{Advances, PassesNumber, rest_of, size_of}
use Rattle.text_scan.specs.Answer.{grammar_of, mode_of}
use Rattle.text_parse.proofs.Scalars.Built.{between, number_at_once, verbatim_at}
use Rattle.text_parse.proofs.Scalars.Encodings.{break_ends, break_ends_extended}
use Rattle.text_parse.proofs.Scalars.ExactNumbers.{json_integer}

-- The bytes begin with an integer as it is written, and a parser of this mode parses it there.
pub record IsIntegerHere (size : ℕ) (mode : Mode) (bytes rest : List ℕ) : Type 0 where
  pub value : Num
  pub core : List ℕ
  pub joined : bytes ≡ core ++ rest
  pub parses : scalar_at size mode bytes ≡ Ok (number value, rest)
  pub integer : Num
  pub digits : IsStandardNumber core integer
  pub scale : value.scale ≡ integer.scale
  pub whole : value.whole ≡ integer.whole
  pub text : core ≡ number_text value

-- The same of a decimal.
pub record IsDecimalHere (size : ℕ) (mode : Mode) (bytes rest : List ℕ) : Type 0 where
  pub value : Num
  pub joined : bytes ≡ number_text value ++ rest
  pub parses : scalar_at size mode bytes ≡ Ok (number value, rest)
  pub short : IsShortDecimal value

-- a byte after which no number goes on
behind : (s : Strictness) (bytes : List ℕ) (end : ℕ) → is_break (slice_index bytes end) ≡ true → EndsNumber s (drop end bytes)
behind strict [] zero e = tt
behind strict [] (suc end) e = tt
behind strict (b ∷ bytes) zero e = break_ends b e
behind strict (b ∷ bytes) (suc end) e = behind strict bytes end e
behind lenient [] zero e = tt
behind lenient [] (suc end) e = tt
behind lenient (b ∷ bytes) zero e = break_ends_extended b e
behind lenient (b ∷ bytes) (suc end) e = behind lenient bytes end e

-- ---- what is written is read again in each grammar

integer_again : (mode : Mode) (n : Num) → IsProperNumber n → IsIntegral n → EncodesSameNumber mode (number_text n) n
integer_again standard n p is = integer_reads_back n p is
integer_again extended n p is = extended_reads_back n p (integral_in_texts n p is)
integer_again json n p is = json_reads_back n p (integral_in_texts n p is)
integer_again extended_json n p is = extended_json_reads_back n p (integral_in_texts n p is)

decimal_again : (mode : Mode) (n : Num) → takes_decimals mode ≡ true → IsProperNumber n → HasFewDigits n → EncodesSameNumber mode (number_text n) n
decimal_again standard n decimals p few = absurd (true≢false (sym decimals))
decimal_again extended n decimals p few = extended_reads_back n p few
decimal_again json n decimals p few = json_reads_back n p few
decimal_again extended_json n decimals p few = extended_json_reads_back n p few

-- ---- integers

module _ (size : ℕ) (mode : Mode) (bytes : List ℕ) (end : ℕ) (first : is_number_start (slice_index bytes 0) ≡ true) (verbatim : IsVerbatimInteger bytes end) where
  abbrev n : Num
  n = short_view verbatim.read

  sound : NumberRead standard bytes n (drop end bytes)
  sound = number_sound size bytes n (drop end bytes) (verbatim.found size)

  text : sound.core ≡ number_text n
  text = verbatim_text verbatim.read.negative verbatim.read.magnitude verbatim.read.end sound.core verbatim.some sound.number

  same : EncodesSameNumber mode (number_text n) n
  same = let known = standard_number sound.core n sound.number in integer_again mode n known.1 known.0

  integer_here : number_at size mode bytes ≡ Ok (same.read, drop end bytes) → IsIntegerHere size mode bytes (drop end bytes)
  integer_here found = record {
    value = same.read;
    core = sound.core;
    joined = sound.joined;
    parses = number_at_once size mode bytes same.read (drop end bytes) first found;
    integer = n;
    digits = sound.number;
    scale = same.scales;
    whole = same.wholes;
    text = text ∙ sym (ap₂ text_of_parts same.scales same.wholes);
  }

  joined : bytes ≡ number_text n ++ drop end bytes
  joined = sound.joined ∙ ap (λ core. core ++ drop end bytes) text

  -- one with a separator behind it
  pub separated_integer : is_break (slice_index bytes end) ≡ true → IsIntegerHere size mode bytes (drop end bytes)
  separated_integer ends =
      integer_here (ap (number_at size mode) joined ∙ number_complete_of size mode (number_text n) (drop end bytes) same.read same.is_number (behind (strictness mode) bytes end ends))

-- one in standard mode or in JSON
pub strict_integer : (size : ℕ) (mode : Mode) (bytes : List ℕ) (end : ℕ) → strictness mode ≡ strict → is_number_start (slice_index bytes 0) ≡ true → IsVerbatimInteger bytes end → IsIntegerHere size mode bytes (drop end bytes)
strict_integer size standard bytes end is first verbatim =
    let read = same size standard bytes end first verbatim in
    let n = short_view verbatim.read in
    let is_number = subst (λ c. IsStandardNumber c n) (text size standard bytes end first verbatim) (sound size standard bytes end first verbatim).number in
    integer_here size standard bytes end first verbatim
    (verbatim.found size ∙ ap (λ m. Ok (m, drop end bytes)) (number_unique (number_text n) n read.read is_number read.is_number))
strict_integer size extended bytes end is first verbatim = absurd cc
strict_integer size json bytes end is first verbatim =
    integer_here size json bytes end first verbatim
    (json_integer size bytes (number_text (short_view verbatim.read)) (drop end bytes) (short_view verbatim.read) (same size json bytes end first verbatim).read (joined size json bytes end first verbatim) (same size json bytes end first verbatim).is_number (verbatim.found size))
strict_integer size extended_json bytes end is first verbatim = absurd cc

-- ---- decimals

pub separated_decimal : (size : ℕ) (mode : Mode) (bytes : List ℕ) (end : ℕ) → takes_decimals mode ≡ true → is_number_start (slice_index bytes 0) ≡ true → IsVerbatimDecimal bytes end → is_break (slice_index bytes end) ≡ true → IsDecimalHere size mode bytes (drop end bytes)
separated_decimal size mode bytes end decimals first verbatim ends =
    let n : Num = record { form = decimal64; scale = verbatim.value.scale; whole = verbatim.value.whole } in
    let rest = drop end bytes in
    let same = decimal_again mode n decimals (omega (arith, verbatim.few), fits n.whole verbatim.small) (omega (arith, verbatim.few), omega (arith, verbatim.small)) in
    let joined : bytes ≡ number_text n ++ rest = sym (take-append-drop end bytes) ∙ ap (λ core. core ++ rest) verbatim.text in
    let found : number_at size mode bytes ≡ Ok (same.read, rest) = ap (number_at size mode) joined ∙ number_complete_of size mode (number_text n) rest same.read same.is_number (behind (strictness mode) bytes end ends) in
    record {
      value = same.read;
      joined = joined ∙ ap (λ core. core ++ rest) (sym (ap₂ text_of_parts same.scales same.wholes));
      parses = number_at_once size mode bytes same.read rest first found;
      short = record {
        point = subst (λ scale. 0 < scale) (sym same.scales) verbatim.point;
        few = subst (λ scale. scale < 18) (sym same.scales) verbatim.few;
        small = subst (λ whole. unsigned_abs whole < 10 ^ 18) (sym same.wholes) verbatim.small;
      };
    }
  where
    fits : (whole : ℤ) → unsigned_abs whole < 10 ^ 18 → FitsSigned w64 whole
    fits (pos m) small = small_signed false m small
    fits (negsuc m) small = small_signed true (suc m) small

-- what a parser passes that goes on behind it
pub integer_passes : (p : Parser) (end : ℕ) (inside : p.offset + end ≤ size_of p) (agree : strictness (mode_of p.mode) ≡ strictness (grammar_of p.grammar)) → IsIntegerHere (size_of p) (grammar_of p.grammar) (rest_of p) (drop end (rest_of p)) → PassesNumber Integer p (record p { offset = p.offset + end; inside = inside; agree = agree })
integer_passes p end inside agree here = record {
  value = here.value;
  parses = here.parses ∙ ap (λ r. Ok (number here.value, r)) (drop-drop end p.offset p.buf.now);
  holds = verbatim_at p o here.core here.value here.integer on (here.joined ∙ ap (λ r. here.core ++ r) (drop-drop end p.offset p.buf.now)) here.digits here.scale here.whole here.text;
}
  where
    o : Parser
    o = record p { offset = p.offset + end; inside = inside; agree = agree }

    on : Advances p o
    on = record { buf = refl; mode = refl; grammar = refl; onward = omega arith }

pub decimal_passes : (p : Parser) (end : ℕ) (inside : p.offset + end ≤ size_of p) (agree : strictness (mode_of p.mode) ≡ strictness (grammar_of p.grammar)) → IsDecimalHere (size_of p) (grammar_of p.grammar) (rest_of p) (drop end (rest_of p)) → PassesNumber Decimal p (record p { offset = p.offset + end; inside = inside; agree = agree })
decimal_passes p end inside agree here = record {
  value = here.value;
  parses = here.parses ∙ ap (λ r. Ok (number here.value, r)) (drop-drop end p.offset p.buf.now);
  holds = record {
    value = here.value;
    is = refl;
    inside = inside;
    short = here.short;
    same = between p o (number_text here.value) on (here.joined ∙ ap (λ r. number_text here.value ++ r) (drop-drop end p.offset p.buf.now));
  };
}
  where
    o : Parser
    o = record p { offset = p.offset + end; inside = inside; agree = agree }

    on : Advances p o
    on = record { buf = refl; mode = refl; grammar = refl; onward = omega arith }
