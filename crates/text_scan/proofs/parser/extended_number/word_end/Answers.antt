use Rattle.std.proofs.Common.{arith, sym, ap, ◌≡◌, ◌+◌, ◌∙◌, drop}
use Rattle.jsonb_spec.specs.Parsing.ExtendedNumber.{encoded_from}
use Rattle.text_scan.proofs.Scalars.WordLetters.{word_more, word_other, word_ended, word_done}
use Rattle.text_scan.proofs.parser.extended_number.word_end.Goals as goal

pub returns-then-index-bytes-clause-scan : goal.returns-then-index-bytes-clause-scan
returns-then-index-bytes-clause-scan c =
    sym (c.letters.invariant.2 ∙ word_ended (c.args.offset + c.letters.index) c.letters.letter-index c.letters.index c.args.word.now c.args.bytes.now (omega arith) (omega arith))

pub returns-then-to_ascii_lowercase-letter-clause-scan : goal.returns-then-to_ascii_lowercase-letter-clause-scan
returns-then-to_ascii_lowercase-letter-clause-scan c =
    sym (c.letters.invariant.2 ∙ word_other (c.args.offset + c.letters.index) c.letters.letter-index c.letters.index c.args.word.now c.args.bytes.now (omega arith) (omega arith)
    (λ e. c.if-to_ascii_lowercase-letter.true (c.to_ascii_lowercase.ensures.value ∙ e)))

pub letters-preserved : goal.letters-preserved
letters-preserved c =
    let sum : c.args.offset + c.letters.index + 1 ≡ c.args.offset + (c.letters.index + 1) = omega arith in (
      omega arith,
      omega arith,
      c.letters.invariant.2 ∙ (word_more (c.args.offset + c.letters.index) c.letters.letter-index c.letters.index c.args.word.now c.args.bytes.now (omega arith) (omega arith)
          (sym c.to_ascii_lowercase.ensures.value ∙ c.if-to_ascii_lowercase-letter.false)
          ∙ ap (λ p. encoded_from p (drop (c.letters.letter-index + 1) c.args.word.now) (drop (c.letters.index + 1) c.args.bytes.now)) sum),
    )

pub returns-clause-scan : goal.returns-clause-scan
returns-clause-scan c =
    sym (c.letters.invariant.2 ∙ word_done (c.args.offset + c.letters.index) c.letters.letter-index c.letters.index c.args.word.now c.args.bytes.now (omega arith))
