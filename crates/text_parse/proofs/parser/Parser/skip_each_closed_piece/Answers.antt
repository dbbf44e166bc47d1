use Rattle.std.proofs.Common.{◌≡◌, ◌+◌, ◌<◌, [], drop, sym, ap, ap₂, ◌∙◌, arith, drop-drop, length, length-drop, rules}
use Rattle.jsonb_spec.specs.Parsing.Whitespace.{piece_length, skip_closed_whitespace}
use Rattle.text_scan.specs.Answer.{grammar_of}
use Rattle.text_parse.specs.Parser.{Advances, rest_of}
use Rattle.text_scan.proofs.Text.Whitespace.{pass-none, pass-step, pass-nil}
use Rattle.text_parse.specs.declared.parser.Parser.{Parser}
use Rattle.text_parse.proofs.Steps.Advancing.{goes_on}
use Rattle.text_parse.proofs.Steps.Cursors.{nothing_left}
use Rattle.text_parse.proofs.parser.Parser.skip_each_closed_piece.Goals as goal

pub returns-then-n-eq0 : goal.returns-then-n-eq0
returns-then-n-eq0 c =
    record {
      rest =
          let mode = grammar_of c.args.self.now.grammar in
          let none : piece_length mode (rest_of c.whitespace.self) ≡ 0 = omega (arith, ap₂ (λ m u. piece_length m u) (ap grammar_of (sym c.whitespace.invariant.1.grammar)) (sym c.rest.ensures), c.piece_len-n.ensures.value) in
          sym (pass-none mode (rest_of c.whitespace.self) none) ∙ c.whitespace.invariant.0;
      advances = search rules;
    }

pub whitespace-preserved : goal.whitespace-preserved
whitespace-preserved c =
    let p = c.whitespace.self in
    let mode = grammar_of c.args.self.now.grammar in
    let n-is : c.piece_len-n.result ≡ piece_length mode (rest_of p) = c.piece_len-n.ensures.value ∙ ap₂ (λ m r. piece_length m r) (ap grammar_of c.whitespace.invariant.1.grammar) c.rest.ensures in
    let some : 0 < piece_length mode (rest_of p) = omega (arith, n-is) in
    let passed : drop (piece_length mode (rest_of p)) (rest_of p) ≡ drop (p.offset + c.piece_len-n.result) p.buf.now =
    ap (λ n. drop n (rest_of p)) (sym n-is) ∙ drop-drop c.piece_len-n.result p.offset p.buf.now in
    let before = c.whitespace.invariant in
    let past : Parser = record p { offset = p.offset + c.piece_len-n.result; inside = omega (arith, p.inside, c.piece_len-n.ensures.within, ap length c.rest.ensures, length-drop p.offset p.buf.now) } in
    let on : Advances c.args.self.now past =
    record { buf = before.1.buf; mode = before.1.mode; grammar = before.1.grammar; onward = omega (arith, before.1.onward) } in
    let more = c.skip_spaces.ensures.advances in (
      ap (λ k. skip_closed_whitespace (grammar_of k) (rest_of c.skip_spaces.new.self)) (sym before.1.grammar)
          ∙ c.skip_spaces.ensures.rest
          ∙ ap (λ k. skip_closed_whitespace (grammar_of k) (rest_of past)) before.1.grammar
          ∙ ap (λ r. skip_closed_whitespace mode r) (sym passed) ∙ sym (pass-step mode (rest_of p) some) ∙ before.0,
      goes_on c.args.self.now past c.skip_spaces.new.self on (record { buf = more.buf; mode = more.mode; grammar = more.grammar; onward = more.onward }),
    )

pub returns : goal.returns
returns c =
    record {
      rest =
          let p = c.whitespace.self in
          let mode = grammar_of c.args.self.now.grammar in
          let none : rest_of p ≡ [] = nothing_left p.buf.now p.offset c.whitespace-test.false in
          none ∙ sym (pass-nil mode) ∙ ap (λ r. skip_closed_whitespace mode r) (sym none) ∙ c.whitespace.invariant.0;
      advances = search rules;
    }
