use Rattle.std.proofs.Common.{◌≡◌, drop}
use Rattle.text_scan.specs.Answer.{grammar_of}
use Rattle.text_parse.specs.Parser.{Advances, rest_of, size_of}
use Rattle.jsonb_spec.specs.Parsing.Scalar.{letters_at}
use Rattle.text_parse.proofs.parser.Parser.parse_word.Given as goal
use Rattle.jsonb_spec.specs.Mode.{strictness}

abbrev pub invariant-letters : goal.invariant-letters
invariant-letters l =
    (letters_at (size_of l.initial.self) (strictness (grammar_of l.initial.self.grammar)) l.word (rest_of l.initial.self) ≡ letters_at (size_of l.initial.self) (strictness (grammar_of l.initial.self.grammar)) (drop l.letter-index l.word) (rest_of l.self))
    × Advances l.initial.self l.self
