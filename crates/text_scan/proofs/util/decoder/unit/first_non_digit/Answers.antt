use Rattle.std.proofs.Common.{◌<◌, ap, get_or, inl, inr, subst, arith}
use Rattle.std.specs.Char.{digit_value}
use Rattle.std.proofs.lemmas.Bool.{cases_eq}
use Rattle.std.proofs.lemmas.List.{get_or_default}
use Rattle.jsonb_core.proofs.Strings.Units.{first_non_digit_at}
use Rattle.text_scan.proofs.util.decoder.unit.first_non_digit.Goals as goal

pub returns-then-digit-ge16 : goal.returns-then-digit-ge16
returns-then-digit-ge16 c = first_non_digit_at c.args.bytes.now c.loop-byte.byte-index (omega arith) c.loop-byte.invariant (λ h. omega (arith, h))

pub loop-byte-preserved : goal.loop-byte-preserved
loop-byte-preserved c = λ k low. elim (cases_eq k c.loop-byte.byte-index) [
  | inl same ↦ omega (arith, ap (λ i. digit_value (get_or c.args.bytes.now i 0)) same)
  | inr other ↦ c.loop-byte.invariant k (omega (arith, low, other))
]

pub unreachable-requires : goal.unreachable-requires
unreachable-requires c = c.requires (λ k d low. subst (λ b. digit_value b < 16) (get_or_default c.args.bytes.now k 0 d low) (c.loop-byte.invariant k (omega (arith, low))))
