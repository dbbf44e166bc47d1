use Rattle.std.proofs.Common.{ℕ, ◌-◌, List, ◌∷◌, Ok, length, ap, sym, ◌∙◌}
use Rattle.jsonb_spec.specs.Code.Code.{expected_colon}
use Rattle.jsonb_spec.specs.Tree.{Mark}
use Rattle.text_scan.specs.Answer.{grammar_of}
use Rattle.text_parse.specs.Parser.{rest_of, size_of}
use Rattle.jsonb_spec.specs.Parsing.{Parse, on_byte, reject, ◌>>=◌}
use Rattle.jsonb_spec.specs.Parsing.Whitespace.{skip_whitespace}
use Rattle.text_scan.proofs.Containers.JoinedParts.{on_byte-found}
use Rattle.text_parse.proofs.Steps.Advancing.{goes_on}
use Rattle.text_parse.proofs.parser.Parser.begin_member.Goals as goal

pub returns-clause-parses : goal.returns-clause-parses
returns-clause-parses g c =
    let p = c.args.self.now in
    let r = c.parse_member_key.new.self in
    let u = c.take_after_whitespace.new.self in
    let n = size_of p in
    let m = grammar_of p.grammar in
    let on_r = c.parse_member_key.ensures.advances.parser in
    let on_u = goes_on p r u on_r c.take_after_whitespace.ensures.advances in
    let read = c.in_ok-key.ensures.parses in
    let key : Mark × List ℕ = read.0 in
    let offset : ℕ = n - length (rest_of r) in (
      (key, offset),
      read.1,
      ap (λ (x : Parse (Mark × List ℕ)). x >>= λ (k : (Mark × List ℕ) × List ℕ). on_byte 58 (skip_whitespace m k.1) (λ rest. Ok ((k.0, n - length k.1), skip_whitespace m rest)) (reject n expected_colon 0 (skip_whitespace m k.1))) read.2
          ∙ ap (λ (v : List ℕ). on_byte 58 v (λ rest. Ok ((key, offset), skip_whitespace m rest)) (reject n expected_colon 0 v)) (ap (λ k. skip_whitespace (grammar_of k) (rest_of r)) (sym on_r.grammar) ∙ c.if-not-take_after_whitespace.ensures.rest)
          ∙ on_byte-found 58 (rest_of u) (λ rest. Ok ((key, offset), skip_whitespace m rest)) (reject n expected_colon 0 (58 ∷ rest_of u))
          ∙ ap (λ (v : List ℕ). Ok ((key, offset), v)) (ap (λ k. skip_whitespace (grammar_of k) (rest_of u)) (sym on_u.grammar) ∙ sym c.skip_space.ensures.rest ∙ ap (λ k. skip_whitespace (grammar_of k) (rest_of c.skip_space.new.self)) (sym c.skip_space.ensures.advances.grammar) ∙ sym c.skip_whitespace.ensures.rest),
    )
