use Rattle.std.proofs.Common.{◌≡◌, ℕ, ◌+◌, ◌<◌, ◌≤◌, List, ap, sym, ◌∙◌, arith, drop, drop-drop, get_or, length, refl}
use Rattle.jsonb_spec.specs.Mode.{Mode}
use Rattle.jsonb_spec.specs.Parsing.Whitespace.{skip_closed_whitespace}
use Rattle.text_scan.specs.Answer.{grammar_of}
use Rattle.text_parse.specs.Parser.{rest_of}
use Rattle.text_parse.specs.declared.parser.Parser.{Parser}
use Rattle.text_scan.proofs.Text.Whitespace.{pass-spaces}
use Rattle.text_parse.proofs.Steps.Advancing.{goes_on}
use Rattle.text_parse.proofs.parser.Parser.skip_spaces.Goals as goal

-- So many spaces are passed, as these bytes from the index on show.
passed : (p : Parser) (rest : List ℕ) (count : ℕ) → rest ≡ rest_of p → count ≤ length rest → ((k : ℕ) → k < count → get_or rest k 0 ≡ 32) → skip_closed_whitespace (grammar_of p.grammar) (drop (p.offset + count) p.buf.now) ≡ skip_closed_whitespace (grammar_of p.grammar) (rest_of p)
passed p rest count same within spaces =
    let mode : Mode = grammar_of p.grammar in
    let fits : count ≤ length (rest_of p) = omega (arith, within, ap length same) in
    let are : (k : ℕ) → k < count → get_or (rest_of p) k 0 ≡ 32 = λ k low. sym (ap (λ u. get_or u k 0) same) ∙ spaces k low in
    sym (ap (skip_closed_whitespace mode) (drop-drop count p.offset p.buf.now)) ∙ pass-spaces mode count (rest_of p) fits are

pub returns-then-count-lt-NEAR : goal.returns-then-count-lt-NEAR
returns-then-count-lt-NEAR c =
    let before = c.rows.invariant in
    let near = c.near_spaces-count in
    let mode = ap grammar_of before.1.grammar in
    record {
      rest =
          ap (λ m. skip_closed_whitespace m (drop (c.rows.self.offset + near.result) c.rows.self.buf.now)) (sym mode) ∙ passed c.rows.self c.rest.result.now near.result c.rest.ensures near.ensures.within near.ensures.spaces
          ∙ ap (λ m. skip_closed_whitespace m (rest_of c.rows.self)) mode ∙ before.0;
      advances = goes_on c.args.self.now c.rows.self _ before.1 (record { buf = refl; mode = refl; grammar = refl; onward = omega arith });
    }

pub rows-preserved : goal.rows-preserved
rows-preserved c =
    let before = c.rows.invariant in
    let near = c.near_spaces-count in
    let mode = ap grammar_of before.1.grammar in (
      ap (λ m. skip_closed_whitespace m (drop (c.rows.self.offset + near.result) c.rows.self.buf.now)) (sym mode) ∙ passed c.rows.self c.rest.result.now near.result c.rest.ensures near.ensures.within near.ensures.spaces
          ∙ ap (λ m. skip_closed_whitespace m (rest_of c.rows.self)) mode ∙ before.0,
      goes_on c.args.self.now c.rows.self _ before.1 (record { buf = refl; mode = refl; grammar = refl; onward = omega arith }),
    )
