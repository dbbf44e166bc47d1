-- An element that is a string in double quotes, with no whitespace before it.
use Rattle.std.proofs.Common.{◌≡◌, false, List, ℕ, ◌∷◌, Ok, refl, ap, sym, ◌∙◌}
use Rattle.std.proofs.lemmas.Bool.{cond-false}
use Rattle.jsonb_spec.specs.Mode.{Strictness, strict, lenient, strictness}
use Rattle.jsonb_spec.specs.Tree.{null}
use Rattle.text_scan.specs.Answer.{grammar_of}
use Rattle.jsonb_spec.specs.Parsing.{begins}
use Rattle.jsonb_spec.specs.Parsing.Container.{is_left_out}
use Rattle.jsonb_spec.specs.Parsing.Scalar.{quoted_at, scalar_at}
use Rattle.jsonb_spec.specs.Parsing.Whitespace.{skip_whitespace}
use Rattle.text_scan.proofs.Text.Whitespace.{skip-stop}
use Rattle.text_parse.specs.declared.parser.Parser.{Parser}
use Rattle.text_parse.specs.Frames.{scalar_or_null}
use Rattle.text_parse.specs.Parser.{Advances, Skips, parse_at, rest_of, size_of}
use Rattle.text_parse.specs.Steps.{NoneOpens}
use Rattle.text_parse.proofs.Steps.Advancing.{stays}
use Rattle.text_parse.proofs.Steps.Outcomes.{scalar_quoted}

quote-there : (strictness : Strictness) (rest : List ℕ) → is_left_out strictness (34 ∷ rest) ≡ false
quote-there strict rest = refl
quote-there lenient rest = refl

module _ (p o : Parser) (e : rest_of p ≡ 34 ∷ rest_of o) where
  -- it is parsed as a string
  pub quoted_element : Advances p o → parse_at scalar_or_null p ≡ parse_at (λ size mode. quoted_at size mode 34) o
  quoted_element on =
      cond-false (is_left_out (strictness (grammar_of p.grammar)) (rest_of p)) (Ok (null, rest_of p)) (scalar_at (size_of p) (grammar_of p.grammar) (rest_of p)) (ap (is_left_out (strictness (grammar_of p.grammar))) e ∙ quote-there (strictness (grammar_of p.grammar)) (rest_of o))
      ∙ scalar_quoted p o on e

  -- nothing is skipped
  pub quote_stays : Skips skip_whitespace p p
  quote_stays = record {
    rest = e ∙ sym (ap (skip_whitespace (grammar_of p.grammar)) e ∙ skip-stop (grammar_of p.grammar) 34 (rest_of o) refl);
    advances = stays p;
  }

  pub quote_no_container : NoneOpens p
  quote_no_container = (ap (begins 91) e, ap (begins 123) e)
