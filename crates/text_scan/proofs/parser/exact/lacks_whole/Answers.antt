use Rattle.std.proofs.Common.{sym, ◌∙◌, ap, inl, inr, ◌⊎◌, ◌≡◌, ◌≢◌, ◌+◌, false}
use Rattle.std.specs.Prelude.{slice_index}
use Rattle.std.specs.Char.{is_ascii_digit}
use Rattle.text_scan.proofs.Numbers.ExactRead.{starts_whole, first_missing, first_needless, first_found}
use Rattle.text_scan.proofs.parser.exact.lacks_whole.Goals as goal
use Rattle.text_scan.proofs.parser.exact.lacks_whole.Goals.{else-first-eq48-via-then-first-eq48+else-is_ascii_digit, else-first-eq48-via-else-first-eq48}

pub returns-then-not-is_ascii_digit-clause-fault : goal.returns-then-not-is_ascii_digit-clause-fault
returns-then-not-is_ascii_digit-clause-fault c =
    first_missing c.args.bytes.now c.from-start.result c.byte_at-first.result (starts_whole c.args.bytes.now c.byte_at.result c.from-start.result c.byte_at.ensures c.from-start.ensures) c.byte_at-first.ensures (sym c.is_ascii_digit.ensures.value ∙ c.if-not-is_ascii_digit.true)

pub returns-then-is_ascii_digit-clause-fault : goal.returns-then-is_ascii_digit-clause-fault
returns-then-is_ascii_digit-clause-fault c =
    first_needless c.args.bytes.now c.from-start.result c.byte_at-first.result c.byte_at-then-first-eq48.result (starts_whole c.args.bytes.now c.byte_at.result c.from-start.result c.byte_at.ensures c.from-start.ensures) c.byte_at-first.ensures c.if-first-eq48.true c.byte_at-then-first-eq48.ensures (sym c.is_ascii_digit-then-first-eq48.ensures.value ∙ c.if-is_ascii_digit.true)

pub returns-clause-fault : goal.returns-clause-fault
returns-clause-fault c =
    let needed : (c.byte_at-first.result ≢ 48) ⊎ (is_ascii_digit (slice_index c.args.bytes.now (c.from-start.result + 1)) ≡ false) = elim c.else-first-eq48.branch [
      | else-first-eq48-via-then-first-eq48+else-is_ascii_digit w ↦ inr (ap is_ascii_digit (sym w.byte_at-then-first-eq48.ensures) ∙ (sym w.is_ascii_digit-then-first-eq48.ensures.value ∙ w.if-is_ascii_digit.false))
      | else-first-eq48-via-else-first-eq48 w ↦ inl w.if-first-eq48.false
    ] in
    first_found c.args.bytes.now c.from-start.result c.byte_at-first.result (starts_whole c.args.bytes.now c.byte_at.result c.from-start.result c.byte_at.ensures c.from-start.ensures) c.byte_at-first.ensures (sym c.is_ascii_digit.ensures.value ∙ c.if-not-is_ascii_digit.false) needed
