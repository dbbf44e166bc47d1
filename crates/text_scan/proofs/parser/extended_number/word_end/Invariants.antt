use Rattle.std.proofs.Common.{◌≡◌, ◌+◌, ◌≤◌, length, drop}
use Rattle.jsonb_spec.specs.Parsing.ExtendedNumber.{encoded_from}
use Rattle.text_scan.proofs.parser.extended_number.word_end.Given as goal

abbrev pub invariant-letters : goal.invariant-letters
invariant-letters l =
    (l.index ≡ l.letter-index) × (l.index ≤ length l.bytes) × (encoded_from l.offset l.word l.bytes ≡ encoded_from (l.offset + l.index) (drop l.letter-index l.word) (drop l.index l.bytes))
