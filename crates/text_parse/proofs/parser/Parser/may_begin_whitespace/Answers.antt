use Rattle.std.proofs.Common.{◌≡◌, ℕ, ◌<◌, Bool, true, false, not, MatchBool, List, ◌∷◌, nat_eq, ne_eqb, refl, sym, ap, ◌∙◌, ◌||◌, arith}
use Rattle.std.proofs.lemmas.Bool.{eqb-true}
use Rattle.jsonb_spec.specs.Mode.{Mode}
use Rattle.jsonb_spec.specs.Parsing.Whitespace.{skip_closed_whitespace, skip_whitespace}
use Rattle.text_scan.specs.Answer.{grammar_of}
use Rattle.text_parse.specs.Parser.{rest_of}
use Rattle.text_scan.proofs.Text.Whitespace.{pass-by_slash, pass-nil, skip-by_slash, skip-nil}
use Rattle.text_parse.proofs.parser.Parser.may_begin_whitespace.Goals as goal

-- no whitespace begins with a quote
skip-quote : (mode : Mode) (b : ℕ) (bytes rest : List ℕ) → rest ≡ b ∷ bytes → (is : Bool) → nat_eq b 34 ≡ is → MatchBool (not is) (Unit {0}) (skip_whitespace mode rest ≡ rest)
skip-quote mode b bytes rest whole true e =
    let quote : b ≡ 34 = eqb-true b 34 e in
    skip-by_slash mode b bytes rest whole (omega (arith, quote)) false (ap (λ (x : ℕ). nat_eq x 92 || nat_eq x 47) quote)
skip-quote mode b bytes rest whole false e = tt

pass-quote : (mode : Mode) (b : ℕ) (bytes rest : List ℕ) → rest ≡ b ∷ bytes → (is : Bool) → nat_eq b 34 ≡ is → MatchBool (not is) (Unit {0}) (skip_closed_whitespace mode rest ≡ rest)
pass-quote mode b bytes rest whole true e =
    let quote : b ≡ 34 = eqb-true b 34 e in
    pass-by_slash mode b bytes rest whole (omega (arith, quote)) false (ap (λ (x : ℕ). nat_eq x 92 || nat_eq x 47) quote)
pass-quote mode b bytes rest whole false e = tt

pub returns-in_default : goal.returns-in_default
returns-in_default c =
    let mode = grammar_of c.args.self.now.grammar in
    record {
      skips = ap (skip_whitespace mode) c.in_default.ensures.next ∙ skip-nil mode ∙ sym c.in_default.ensures.next;
      passes = ap (skip_closed_whitespace mode) c.in_default.ensures.next ∙ pass-nil mode ∙ sym c.in_default.ensures.next;
    }

pub returns-then-byte-le34 : goal.returns-then-byte-le34
returns-then-byte-le34 c =
    let byte = c.in-Some.byte in
    record {
      skips = skip-quote (grammar_of c.args.self.now.grammar) byte _ (rest_of c.args.self.now) c.in-Some.ensures.next (nat_eq byte 34) refl;
      passes = pass-quote (grammar_of c.args.self.now.grammar) byte _ (rest_of c.args.self.now) c.in-Some.ensures.next (nat_eq byte 34) refl;
    }

pub returns-else-byte-eq92 : goal.returns-else-byte-eq92
returns-else-byte-eq92 c =
    let byte = c.in-Some.byte in
    let above : 32 < byte = omega (arith, c.if-byte-le34.false) in
    let slash = ap (λ t. t || nat_eq byte 47) (ne_eqb byte 92 c.if-byte-eq92.false) in
    record {
      skips = skip-by_slash (grammar_of c.args.self.now.grammar) byte _ (rest_of c.args.self.now) c.in-Some.ensures.next above (nat_eq byte 47) slash;
      passes = pass-by_slash (grammar_of c.args.self.now.grammar) byte _ (rest_of c.args.self.now) c.in-Some.ensures.next above (nat_eq byte 47) slash;
    }
