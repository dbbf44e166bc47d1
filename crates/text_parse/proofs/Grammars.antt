-- What follows of the grammar from the answers to what the parser asks.
use Rattle.std.proofs.Common.{◌≡◌, ℕ, ◌<◌, true, false, true≢false, List, [], ◌∷◌, length, Result, Ok, Err, refl, sym, ap, ◌∙◌, arith}
use Rattle.std.specs.Prelude.{OnOk}
use Rattle.jsonb_spec.specs.Mode.{Mode, standard, extended, json, extended_json, strict, strictness, GoesBeyondJson}
use Rattle.text_scan.specs.Answer.{mode_of, grammar_of}
use Rattle.text_scan.specs.declared.parser.Mode as parser
use Rattle.text_scan.specs.declared.parser.Mode.TheVariants.{Standard, Extended}
use Rattle.jsonb_spec.specs.Parsing.String.{body_of}
use Rattle.text_scan.proofs.Steps.Modes.{code_goes_beyond}
use Rattle.text_scan.proofs.Strings.Rows.{body-beyond}
use Rattle.text_parse.specs.Grammars.{is_json, may_cut, takes_decimals}
use Rattle.text_parse.specs.declared.parser.Parser.{Parser}

pub json_is : (mode : Mode) → is_json mode ≡ true → mode ≡ json
json_is standard is = absurd (true≢false (sym is))
json_is extended is = absurd (true≢false (sym is))
json_is json is = refl
json_is extended_json is = absurd (true≢false (sym is))

pub beyond_json : (mode : Mode) → is_json mode ≡ false → GoesBeyondJson mode
beyond_json standard is = tt
beyond_json extended is = tt
beyond_json json is = absurd (true≢false is)
beyond_json extended_json is = tt

-- what a mode of the code is, where it is strict
strict_mode : (mode : parser.Mode) → strictness (mode_of mode) ≡ strict → mode_of mode ≡ standard
strict_mode Standard is = refl
strict_mode Extended is = absurd cc

-- ---- text that strings are cut out of

pub cuts_beyond : (text : List ℕ) (mode : Mode) → may_cut false text mode ≡ true → 0 < length text → GoesBeyondJson mode
cuts_beyond [] mode may some = absurd (omega (arith, some))
cuts_beyond (b ∷ text) standard may some = tt
cuts_beyond (b ∷ text) extended may some = tt
cuts_beyond (b ∷ text) json may some = absurd (true≢false (sym may))
cuts_beyond (b ∷ text) extended_json may some = tt

pub beyond_cuts : (reports_plain : _) (text : List ℕ) (mode : Mode) → is_json mode ≡ false → may_cut reports_plain text mode ≡ true
beyond_cuts true text mode is = refl
beyond_cuts false [] mode is = refl
beyond_cuts false (b ∷ text) standard is = refl
beyond_cuts false (b ∷ text) extended is = refl
beyond_cuts false (b ∷ text) json is = absurd (true≢false is)
beyond_cuts false (b ∷ text) extended_json is = refl

-- ---- contents of strings

-- what the mode reads of contents, where the grammar isn't JSON, the grammar reads
pub contents_beyond : (p : Parser) (body : List ℕ) → is_json (grammar_of p.grammar) ≡ false → body_of (grammar_of p.grammar) body ≡ body_of (mode_of p.mode) body
contents_beyond p body is = body-beyond (grammar_of p.grammar) (mode_of p.mode) body (beyond_json (grammar_of p.grammar) is) (code_goes_beyond p.mode) (sym p.agree)

-- and where it is JSON, what standard mode reads
pub contents_json : (p : Parser) (body : List ℕ) → is_json (grammar_of p.grammar) ≡ true → body_of json body ≡ body_of standard body → body_of (grammar_of p.grammar) body ≡ body_of (mode_of p.mode) body
contents_json p body is same =
    let grammar = json_is (grammar_of p.grammar) is in
    ap (λ m. body_of m body) grammar ∙ same ∙ ap (λ m. body_of m body) (sym (strict_mode p.mode (p.agree ∙ ap strictness grammar)))

-- what follows of a call's result where it is no error
pub on_ok : {A E P Q : Type 0} (result : Result A E) → (P → Q) → OnOk result P → OnOk result Q
on_ok (Ok x) follows so = follows so
on_ok (Err e) follows so = tt

-- ---- decimals

pub integers_alone : (mode : Mode) → takes_decimals mode ≡ false → mode ≡ standard
integers_alone standard is = refl
integers_alone extended is = absurd (true≢false is)
integers_alone json is = absurd (true≢false is)
integers_alone extended_json is = absurd (true≢false is)
