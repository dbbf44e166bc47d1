use Rattle.std.proofs.Common.{◌≡◌, ◌++◌, unsigned_abs, ap, sym, ◌∙◌, codes, FitsSigned, w32, w64, arith, rules}
use Rattle.std.proofs.lemmas.Int.{ints, to_z-of_z}
use Rattle.jsonb_value.proofs.Appending.IntervalTexts.{interval_text-none, interval_text-joined, years_fit, months_fit}
use Rattle.jsonb_value.proofs.extension.Interval.text.Goals as goal
use Rattle.jsonb_value.proofs.extension.Interval.text.Goals.{else-self-eq0-via-then-self-eq0+then-self-eq0-2+else-self-eq0-3, else-self-eq0-via-then-self-eq0+else-self-eq0-2, else-self-eq0-via-else-self-eq0}

pub returns-then-self-eq0-3-clause-text : goal.returns-then-self-eq0-3-clause-text
returns-then-self-eq0-3-clause-text c =
    let self = c.args.self.now in
    let f : FitsSigned w32 self.months = search rules in
    let g : FitsSigned w32 self.days = search rules in
    let h : FitsSigned w64 self.micros = search rules in
    let all = interval_text-none self.months self.days self.micros (omega (arith, ints)) (omega (arith, ints)) (omega (arith, ints)) in
    c.and.ensures ∙ ap (λ t. t ++ codes "00:00:00") c.new.ensures.text ∙ sym all

pub returns-clause-text : goal.returns-clause-text
returns-clause-text c =
    let self = c.args.self.now in
    let f : FitsSigned w32 self.months = search rules in
    let g : FitsSigned w32 self.days = search rules in
    let h : FitsSigned w64 self.micros = search rules in
    let years_fit = years_fit self.months f in
    let months_fit = months_fit self.months f in
    let some : unsigned_abs self.months ≡ 0 → unsigned_abs self.days ≡ 0 → unsigned_abs self.micros ≡ 0 → ⊥ = λ p q r.
    elim c.else-self-eq0.branch [
      | else-self-eq0-via-then-self-eq0+then-self-eq0-2+else-self-eq0-3 w ↦ omega (arith, ints)
      | else-self-eq0-via-then-self-eq0+else-self-eq0-2 w ↦ omega (arith, ints)
      | else-self-eq0-via-else-self-eq0 w ↦ omega (arith, ints)
    ] in
    interval_text-joined self.months self.days self.micros _ _ _ _ _ some c.new-2.ensures.text
    (simp to_z-of_z at c.and_amount-years.ensures.text) (simp to_z-of_z at c.and_amount-months.ensures.text)
    (simp to_z-of_z at c.and_amount-days.ensures.text) (simp to_z-of_z at c.and_time.ensures)
