use Rattle.std.proofs.Common.{◌≡◌, ◌+◌, ◌<◌, ◌∷◌, length, arith, List, ℕ, drop, get_or, sym, ap, ◌∙◌, add-one, drop-cons, drop-drop, true}
use Rattle.text_scan.specs.Answer.{grammar_of}
use Rattle.text_parse.specs.Parser.{rest_of, size_of}
use Rattle.jsonb_spec.specs.Parsing.Scalar.{begins_letter, letters_at}
use Rattle.text_parse.proofs.Steps.Advancing.{letters-step}
use Rattle.text_parse.proofs.parser.Parser.parse_word.Goals as goal
use Rattle.jsonb_spec.specs.Mode.{strictness}

pub letters-preserved : goal.letters-preserved
letters-preserved c =
    let p = c.args.self.now in
    let q = c.letters.self in
    let size = size_of p in
    let mode = grammar_of p.grammar in
    let word = c.args.word.now in
    let i = c.letters.letter-index in
    let before = c.letters.invariant in
    let next = c.if-not-next_is_letter.ensures in
    let lt : i < length word = omega arith in
    let letters : drop i word ≡ get_or word i 0 ∷ drop (i + 1) word = rw (add-one, drop-cons word i 0) in
    let found : begins_letter (strictness mode) (get_or word i 0) (rest_of q) ≡ true = ap (λ m. begins_letter (strictness (grammar_of m)) (get_or word i 0) (rest_of q)) (sym before.1.grammar) ∙ sym next.found in (
      before.0 ∙ ap (λ (u : List ℕ). letters_at size (strictness mode) u (rest_of q)) letters
          ∙ letters-step size (strictness mode) (get_or word i 0) (drop (i + 1) word) (rest_of q) found ∙ ap (λ (u : List ℕ). letters_at size (strictness mode) (drop (i + 1) word) u) (drop-drop 1 q.offset q.buf.now),
      record { buf = before.1.buf; mode = before.1.mode; grammar = before.1.grammar; onward = omega (arith, before.1.onward) },
    )
