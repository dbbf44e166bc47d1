use Rattle.std.proofs.Common.{◌≡◌, ◌-◌, ◌+◌, length, subst, refl, ◌∙◌, arith}
use Rattle.std.specs.Prelude.{slice_index, slice_set}
use Rattle.text_write.proofs.DecimalKeys.{Collected, at_digit, at_point, at_zero, collected_as}
use Rattle.text_write.proofs.decimal_key.pointed_digits.Goals as goal
use Rattle.text_write.proofs.decimal_key.pointed_digits.Goals.{then-byte-eq46, else-byte-eq46+then-count-gt0, then-count-gt0-via-then-count-gt0, then-count-gt0-via-else-count-gt0+then-byte-ne48, else-byte-eq46+else-count-gt0+else-byte-ne48}

pub bytes-preserved : goal.bytes-preserved
bytes-preserved c =
    let bytes = c.args.bytes.now in
    let l = c.bytes in
    let byte = slice_index bytes l.index in
    elim c.if-byte-eq46.branch [
      | then-byte-eq46 w ↦ collected_as bytes (l.index + 1) l.count (length bytes - 1 - l.index) l.row _ _ _ w.count-is w.scale-is w.row-is (at_point bytes l.index l.count l.scale l.row c.bytes-test.true w.if-byte-eq46.true l.invariant)
      | else-byte-eq46+then-count-gt0 w ↦
          collected_as bytes (l.index + 1) (l.count + 1) l.scale (slice_set l.row l.count byte) _ _ _ w.count-is w.scale-is w.row-is
          (at_digit bytes l.index l.count l.scale byte l.row c.requires c.bytes-test.true refl w.if-byte-eq46.false
          (λ none. elim w.then-count-gt0.branch [
            | then-count-gt0-via-then-count-gt0 v ↦ absurd (omega (arith, none, v.if-count-gt0.true))
            | then-count-gt0-via-else-count-gt0+then-byte-ne48 v ↦ v.if-byte-ne48.true
          ]) l.invariant)
      | else-byte-eq46+else-count-gt0+else-byte-ne48 w ↦
          let none : l.count ≡ 0 = omega (arith, w.if-count-gt0.false) in
          collected_as bytes (l.index + 1) 0 l.scale l.row _ _ _ (w.count-is ∙ none) w.scale-is w.row-is
          (at_zero bytes l.index l.scale l.row c.bytes-test.true w.if-byte-ne48.false (subst (λ n. Collected bytes l.index n l.scale l.row) none l.invariant))
    ]
