use Rattle.std.proofs.Common.{◌≡◌, ℕ, ◌≤◌, get_or, ⊎_elim, ap, sym, ◌∙◌, arith}
use Rattle.std.proofs.Math.Nat.{eq-or-lt_of_le}
use Rattle.text_scan.proofs.parser.string.short_mark.Goals as goal

pub bytes-preserved : goal.bytes-preserved
bytes-preserved c =
    let i = c.bytes.invariant in
    record {
      from = omega arith;
      within = omega arith;
      clear = λ k low high.
          let upto : k ≤ c.bytes.stop = omega (arith, high) in
          ⊎_elim (λ same. let at : get_or c.args.bytes.now k 0 ≡ get_or c.args.bytes.now c.bytes.stop 0 = ap (λ (n : ℕ). get_or c.args.bytes.now n 0) same in
          (λ e. c.if-bytes-stop.false (sym at ∙ e), λ e. c.if-bytes-stop-eq92.false (sym at ∙ e))) (λ below. i.clear k low below) (eq-or-lt_of_le upto);
    }
