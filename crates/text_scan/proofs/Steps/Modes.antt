-- The modes that have more than JSON, and the bytes that mean themselves.
use Rattle.std.proofs.Common.{◌≡◌, ℕ, true, refl, sym, true≢false, le-leb}
use Rattle.std.proofs.lemmas.Bool.{leb-true}
use Rattle.jsonb_spec.specs.Grammar.StringBody.{MayBeRaw}
use Rattle.jsonb_spec.specs.Mode.{Mode, standard, extended, json, extended_json, GoesBeyondJson}
use Rattle.text_scan.specs.Answer.{mode_of}
use Rattle.text_scan.specs.declared.parser.Mode as parser
use Rattle.text_scan.specs.declared.parser.Mode.TheVariants.{Standard, Extended}
use Rattle.jsonb_spec.specs.Parsing.{goes_beyond_json}
use Rattle.jsonb_spec.specs.Parsing.String.{may_be_raw}

-- ---- modes that go beyond JSON

pub beyond-true : (mode : Mode) → GoesBeyondJson mode → goes_beyond_json mode ≡ true
beyond-true standard beyond = refl
beyond-true extended beyond = refl
beyond-true json beyond = absurd beyond
beyond-true extended_json beyond = refl

pub true-beyond : (mode : Mode) → goes_beyond_json mode ≡ true → GoesBeyondJson mode
true-beyond standard e = tt
true-beyond extended e = tt
true-beyond json e = true≢false (sym e)
true-beyond extended_json e = tt

-- the code's modes do
pub code_goes_beyond : (mode : parser.Mode) → GoesBeyondJson (mode_of mode)
code_goes_beyond Standard = tt
code_goes_beyond Extended = tt

-- ---- bytes that mean themselves

pub raw-true : (mode : Mode) (byte : ℕ) → MayBeRaw mode byte → may_be_raw mode byte ≡ true
raw-true standard byte may = refl
raw-true extended byte may = refl
raw-true json byte may = le-leb 32 byte may
raw-true extended_json byte may = refl

pub true-raw : (mode : Mode) (byte : ℕ) → may_be_raw mode byte ≡ true → MayBeRaw mode byte
true-raw standard byte e = tt
true-raw extended byte e = tt
true-raw json byte e = leb-true 32 byte e
true-raw extended_json byte e = tt

-- beyond JSON each byte may
pub beyond-raw : (mode : Mode) (byte : ℕ) → GoesBeyondJson mode → MayBeRaw mode byte
beyond-raw standard byte beyond = tt
beyond-raw extended byte beyond = tt
beyond-raw json byte beyond = absurd beyond
beyond-raw extended_json byte beyond = tt
