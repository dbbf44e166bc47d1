use Rattle.std.proofs.Common.{◌≡◌, ◌+◌, ◌<◌, ◌^◌, ◌++◌, drop, length, take, refl, sym, ap, subst, ◌∙◌, arith, length-append}
use Rattle.std.specs.Prelude.{vec_len, vec_capacity}
use Rattle.std.proofs.Math.Seq.{take-append_seam, drop-append_seam}
use Rattle.jsonb_spec.specs.Document.Numbers.{Pends}
use Rattle.jsonb_spec.specs.Document.Zeros.{zeros_of}
use Rattle.jsonb_spec.specs.Document.{behind_key, end_of}
use Rattle.key_document.specs.declared.error.DocumentError.TheVariants.{OutOfMemory}
use Rattle.key_document.proofs.Joining.{lacks_zeros}
use Rattle.key_document.proofs.splice.take_zeros.Goals as goal

pub returns-in_err-behind-clause-taken : goal.returns-in_err-behind-clause-taken
returns-in_err-behind-clause-taken c = λ before part behind p o s fit.
    let all = before ++ (part ++ behind) in
    let long = length-append before (part ++ behind) in
    let more = length-append part behind in
    let passed : drop c.args.gap all ≡ part ++ behind = ap (λ n. drop n all) (sym o) ∙ drop-append_seam before (part ++ behind) in
    let taken : take c.args.size (part ++ behind) ≡ part = ap (λ n. take n (part ++ behind)) (sym s) ∙ take-append_seam part behind in
    let rest = subst (λ l. Pends l c.in_ok-rest.rest) passed (c.in_ok-rest.ensures.found all fit p (omega (arith, o, long))) in
    let w = c.in_err-behind.ensures.found (part ++ behind) rest (omega (arith, s, more)) (omega (arith, fit, long)) (omega (arith, s, fit, long, more)) in
    let full = subst (λ l. vec_capacity c.args.out.now < vec_len c.args.out.now + length (zeros_of 0 l)) taken w.1 in
    lacks_zeros c.from_residual-in_err-behind.result c.in_err-behind.field-0.0 c.args.out.now c.copy.new.out (zeros_of 0 part) (behind_key (zeros_of 0 part)) c.from_residual-in_err-behind.ensures.1 w.0 full (omega (arith, length-append (zeros_of 0 part) (end_of (length (zeros_of 0 part)))))

pub returns-in_err-end_zeros-clause-taken : goal.returns-in_err-end_zeros-clause-taken
returns-in_err-end_zeros-clause-taken c = λ before part behind p o s fit.
    let all = before ++ (part ++ behind) in
    let zeros = zeros_of 0 part in
    let mid = c.copy.new.out in
    let long = length-append before (part ++ behind) in
    let more = length-append part behind in
    let passed : drop c.args.gap all ≡ part ++ behind = ap (λ n. drop n all) (sym o) ∙ drop-append_seam before (part ++ behind) in
    let taken : take c.args.size (part ++ behind) ≡ part = ap (λ n. take n (part ++ behind)) (sym s) ∙ take-append_seam part behind in
    let rest = subst (λ l. Pends l c.in_ok-rest.rest) passed (c.in_ok-rest.ensures.found all fit p (omega (arith, o, long))) in
    let w = c.in_ok-behind.ensures.found (part ++ behind) rest (omega (arith, s, more)) (omega (arith, fit, long)) (omega (arith, s, fit, long, more)) in
    let joined : mid.items ≡ c.args.out.now.items ++ zeros = w.0 ∙ ap (λ l. c.args.out.now.items ++ zeros_of 0 l) taken in
    let full = c.in_err-end_zeros.ensures.ended c.args.out.now.items zeros (omega (arith, c.len-start.ensures, c.args.out.now.ok.0)) joined in
    lacks_zeros c.from_residual-in_err-end_zeros.result OutOfMemory c.args.out.now c.end_zeros.new.out (behind_key zeros) (behind_key zeros) c.from_residual-in_err-end_zeros.ensures.1 refl (omega (arith, full, c.in_ok-behind.ensures.preserves.capacity, c.len-start.ensures)) (omega arith)

pub returns-clause-taken : goal.returns-clause-taken
returns-clause-taken c = λ before part behind p o s fit.
    let all = before ++ (part ++ behind) in
    let zeros = zeros_of 0 part in
    let mid = c.copy.new.out in
    let long = length-append before (part ++ behind) in
    let more = length-append part behind in
    let passed : drop c.args.gap all ≡ part ++ behind = ap (λ n. drop n all) (sym o) ∙ drop-append_seam before (part ++ behind) in
    let taken : take c.args.size (part ++ behind) ≡ part = ap (λ n. take n (part ++ behind)) (sym s) ∙ take-append_seam part behind in
    let rest = subst (λ l. Pends l c.in_ok-rest.rest) passed (c.in_ok-rest.ensures.found all fit p (omega (arith, o, long))) in
    let w = c.in_ok-behind.ensures.found (part ++ behind) rest (omega (arith, s, more)) (omega (arith, fit, long)) (omega (arith, s, fit, long, more)) in
    let joined : mid.items ≡ c.args.out.now.items ++ zeros = w.0 ∙ ap (λ l. c.args.out.now.items ++ zeros_of 0 l) taken in
    c.in_ok-end_zeros.ensures.ended c.args.out.now.items zeros (omega (arith, c.len-start.ensures, c.args.out.now.ok.0)) joined

pub returns-clause-rest : goal.returns-clause-rest
returns-clause-rest c = λ before part behind p o s fit.
    let all = before ++ (part ++ behind) in
    let long = length-append before (part ++ behind) in
    let more = length-append part behind in
    let passed : drop c.args.gap all ≡ part ++ behind = ap (λ n. drop n all) (sym o) ∙ drop-append_seam before (part ++ behind) in
    let left : drop c.args.size (part ++ behind) ≡ behind = ap (λ n. drop n (part ++ behind)) (sym s) ∙ drop-append_seam part behind in
    let rest = subst (λ l. Pends l c.in_ok-rest.rest) passed (c.in_ok-rest.ensures.found all fit p (omega (arith, o, long))) in
    let w = c.in_ok-behind.ensures.found (part ++ behind) rest (omega (arith, s, more)) (omega (arith, fit, long)) (omega (arith, s, fit, long, more)) in
    subst (λ l. Pends l c.in_ok-behind.behind) left w.2
