use Rattle.std.proofs.Common.{◌≡◌, ◌≤◌, ◌∷◌, ℕ, List, length, get_or, arith, Ok, true, false, drop, ap, sym, ◌∙◌, drop-drop, rules}
use Rattle.std.proofs.lemmas.List.{drop_more}
use Rattle.jsonb_spec.specs.Tree.{null, boolean}
use Rattle.text_scan.specs.Answer.{grammar_of}
use Rattle.jsonb_spec.specs.Parsing.Scalar.{scalar_at}
use Rattle.text_parse.specs.Parser.{size_of}
use Rattle.text_parse.proofs.Scalars.Built.{null_at_once, true_at_once, false_at_once}
use Rattle.text_parse.proofs.parser.Parser.short_literal.Goals as goal

pub returns-then-begins_with-clause-finds : goal.returns-then-begins_with-clause-finds
returns-then-begins_with-clause-finds c =
    record {
      parses =
          let p = c.args.self.now in
          let rest = c.rest-rest.result.now in
          ap (scalar_at (size_of p) (grammar_of p.grammar)) (sym c.rest-rest.ensures ∙ c.if-begins_with.ensures) ∙ null_at_once (size_of p) (grammar_of p.grammar) (drop 4 rest)
          ∙ ap (λ r. Ok (null, r)) (ap (drop 4) c.rest-rest.ensures ∙ drop-drop 4 p.offset p.buf.now);
      stays = search rules;
      advances = search rules;
    }

pub returns-then-begins_with-2-clause-finds : goal.returns-then-begins_with-2-clause-finds
returns-then-begins_with-2-clause-finds c =
    record {
      parses =
          let p = c.args.self.now in
          let rest = c.rest-rest.result.now in
          ap (scalar_at (size_of p) (grammar_of p.grammar)) (sym c.rest-rest.ensures ∙ c.if-begins_with-2.ensures) ∙ true_at_once (size_of p) (grammar_of p.grammar) (drop 4 rest)
          ∙ ap (λ r. Ok (boolean true, r)) (ap (drop 4) c.rest-rest.ensures ∙ drop-drop 4 p.offset p.buf.now);
      stays = search rules;
      advances = search rules;
    }

-- the letters of `false`, the last of them by its index
with_last : (rest : List ℕ) → 5 ≤ length rest → rest ≡ 102 ∷ 97 ∷ 108 ∷ 115 ∷ drop 4 rest → get_or rest 4 0 ≡ 101 → rest ≡ 102 ∷ 97 ∷ 108 ∷ 115 ∷ 101 ∷ drop 5 rest
with_last rest long front last = front ∙ ap (λ more. 102 ∷ 97 ∷ 108 ∷ 115 ∷ more) (drop_more rest 4 0 (omega (arith, long)) ∙ ap (λ b. b ∷ drop 5 rest) last)

pub returns-then-rest-eq101-clause-finds : goal.returns-then-rest-eq101-clause-finds
returns-then-rest-eq101-clause-finds c =
    record {
      parses =
          let p = c.args.self.now in
          let rest = c.rest-rest.result.now in
          ap (scalar_at (size_of p) (grammar_of p.grammar)) (sym c.rest-rest.ensures ∙ with_last rest (omega arith) c.if-begins_with-3.ensures c.if-rest-eq101.true) ∙ false_at_once (size_of p) (grammar_of p.grammar) (drop 5 rest)
          ∙ ap (λ r. Ok (boolean false, r)) (ap (drop 5) c.rest-rest.ensures ∙ drop-drop 5 p.offset p.buf.now);
      stays = search rules;
      advances = search rules;
    }

pub returns-then-rest-eq101-clause-encoded : goal.returns-then-rest-eq101-clause-encoded
returns-then-rest-eq101-clause-encoded c =
    let p = c.args.self.now in
    let rest = c.rest-rest.result.now in
    sym c.rest-rest.ensures ∙ with_last rest (omega arith) c.if-begins_with-3.ensures c.if-rest-eq101.true ∙ ap (λ more. 102 ∷ 97 ∷ 108 ∷ 115 ∷ 101 ∷ more) (ap (drop 5) c.rest-rest.ensures ∙ drop-drop 5 p.offset p.buf.now)
