use Rattle.std.proofs.Common.{◌≡◌, ◌↔◌, ◌<◌, ◌≤◌, ◌++◌, length, subst, sym, ap, ◌∙◌, arith, length-append}
use Rattle.jsonb_spec.specs.Proper.{IsProper}
use Rattle.jsonb_spec.specs.SortKey.{key_of}
use Rattle.jsonb_spec.specs.Tree.{number}
use Rattle.key_document.specs.Check.{Fits, most_at, most_zeros}
use Rattle.key_document.proofs.Fitting.{behind_number, most_each, number_due, number_is, number_passed, scalar_passed}
use Rattle.key_document.proofs.check.pass_scalar.Goals as goal

pub returns-then-bytes-due-clause-passed : goal.returns-then-bytes-due-clause-passed
returns-then-bytes-due-clause-passed c = λ t s p count more e most long counted.
    scalar_passed c.args.due.now.at c.args.due.now.count c.args.due.now.entries.now t s most
    (λ here. c.if-bytes-due.true (omega (arith, here, ap length e, length-append (key_of t) more, most_each t p, length-append (most_at t) most, long)))

pub returns-then-from-most_zeros-clause-passed : goal.returns-then-from-most_zeros-clause-passed
returns-then-from-most_zeros-clause-passed c = λ t s p count more e most long counted h.
    let x = number_is t s (λ none. c.if-number_count-eq0.false (c.number_count.ensures.exact ∙ count ∙ none)) in
    let occurs = e ∙ ap (λ u. key_of u ++ more) x.1 in
    let here : c.args.due.now.at ≡ length (most_at (number x.0) ++ most) =
    omega (arith, c.if-bytes-due.false, ap length e, length-append (key_of t) more, most_each t p, length-append (most_at (number x.0)) most, ap (λ u. length (most_at u)) x.1, long) in
    let proper = subst IsProper x.1 p in
    let low = (number_due c.args.due.now.at c.args.due.now.count c.args.due.now.entries.now x.0 most here (subst (λ u. Fits c.args.due.now (most_at u ++ most)) x.1 h)).0 in
    omega (arith, low, c.most_zeros.ensures x.0 proper more occurs, c.from.ensures, c.if-from-most_zeros.true)

pub returns-in_default-clause-passed : goal.returns-in_default-clause-passed
returns-in_default-clause-passed c = λ t s p count more e most long counted h.
    let x = number_is t s (λ none. c.if-number_count-eq0.false (c.number_count.ensures.exact ∙ count ∙ none)) in
    let here : c.args.due.now.at ≡ length (most_at (number x.0) ++ most) =
    omega (arith, c.if-bytes-due.false, ap length e, length-append (key_of t) more, most_each t p, length-append (most_at (number x.0)) most, ap (λ u. length (most_at u)) x.1, long) in
    let behind : length (behind_number c.args.due.now.at c.args.due.now.count c.args.due.now.entries.now x.0 most here) ≡ c.saturating_sub.result =
    omega (arith, here, c.saturating_sub.ensures, c.if-bytes-due.false) in
    c.in_default.ensures.fits (omega (arith, c.saturating_sub.ensures)) (behind_number c.args.due.now.at c.args.due.now.count c.args.due.now.entries.now x.0 most here) behind
    (number_due c.args.due.now.at c.args.due.now.count c.args.due.now.entries.now x.0 most here (subst (λ u. Fits c.args.due.now (most_at u ++ most)) x.1 h)).1

pub returns-clause-passed : goal.returns-clause-passed
returns-clause-passed c = λ t s p count more e most long counted.
    let x = number_is t s (λ none. c.if-number_count-eq0.false (c.number_count.ensures.exact ∙ count ∙ none)) in
    let occurs = e ∙ ap (λ u. key_of u ++ more) x.1 in
    let here : c.args.due.now.at ≡ length (most_at (number x.0) ++ most) =
    omega (arith, c.if-bytes-due.false, ap length e, length-append (key_of t) more, most_each t p, length-append (most_at (number x.0)) most, ap (λ u. length (most_at u)) x.1, long) in
    let proper = subst IsProper x.1 p in
    let bytes : 0 < c.args.due.now.at = omega (arith, here) in
    let low : c.args.due.now.count ≤ most_zeros x.0 = omega (arith, c.most_zeros.ensures x.0 proper more occurs, c.from.ensures, c.if-from-most_zeros.false) in
    let behind : length (behind_number c.args.due.now.at c.args.due.now.count c.args.due.now.entries.now x.0 most here) ≡ c.saturating_sub.result =
    omega (arith, here, c.saturating_sub.ensures, c.if-bytes-due.false) in
    subst (λ u. Fits c.in-Ok.next most ↔ Fits c.args.due.now (most_at u ++ most)) (sym x.1)
    (number_passed c.args.due.now.at c.args.due.now.count c.args.due.now.entries.now x.0 most here (counted bytes) low c.in-Ok.next
    (c.in-Ok.ensures.fits (omega (arith, c.saturating_sub.ensures)) (behind_number c.args.due.now.at c.args.due.now.count c.args.due.now.entries.now x.0 most here) behind))
