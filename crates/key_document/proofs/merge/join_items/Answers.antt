use Rattle.std.proofs.Common.{◌≡◌, ◌+◌, ◌<◌, ◌++◌, length, take, refl, sym, ap, subst, ◌∙◌, arith, length-append}
use Rattle.std.specs.Prelude.{vec_len, vec_capacity}
use Rattle.std.proofs.Math.Seq.{take-append_seam}
use Rattle.key_text.proofs.Appending.{both, no_capacity_second}
use Rattle.jsonb_spec.specs.Edit.{as_items}
use Rattle.jsonb_spec.specs.Document.Zeros.{plain_at_end, zeros_of}
use Rattle.jsonb_spec.specs.Document.{zeros_at}
use Rattle.jsonb_spec.specs.Document.Counts.{counts_of_items}
use Rattle.key_document.proofs.ItemsJoined.{joined_array, joined_long, joined_zeros}
use Rattle.key_document.proofs.Joining.{lacks_zeros, plain_bound}
use Rattle.key_document.proofs.merge.join_items.Goals as goal

pub returns-in_err-plain-clause-joined : goal.returns-in_err-plain-clause-joined
returns-in_err-plain-clause-joined c = λ t u r i e z f w fit.
    let xs = counts_of_items (as_items t) in
    let ys = counts_of_items (as_items u) in
    let a = c.in_ok-size.ensures.found t r e z in
    let taken : take c.in_ok-size.size (xs ++ a.behind) ≡ xs = ap (λ n. take n (xs ++ a.behind)) a.size_is ∙ take-append_seam xs a.behind in
    let x = c.in_err-plain.ensures.found (xs ++ a.behind) a.pends (omega (arith, a.size_is, length-append xs a.behind)) a.short (omega (arith, a.size_is, joined_long t u, fit)) in
    let full = subst (λ l. vec_capacity c.args.out.now < vec_len c.args.out.now + length (zeros_of 1 l)) taken x.1 in
    lacks_zeros c.from_residual-in_err-plain.result c.in_err-plain.field-0.0 c.args.out.now c.copy.new.out (zeros_of 1 xs) (zeros_at (joined_array t u)) c.from_residual-in_err-plain.ensures.1 x.0 full
    (omega (arith, ap length (joined_zeros t u (plain_at_end 1 xs) refl), length-append (zeros_of 1 xs) (zeros_of (plain_at_end 1 xs) ys)))

pub returns-in_err-copy-clause-joined : goal.returns-in_err-copy-clause-joined
returns-in_err-copy-clause-joined c = λ t u r i e z f w fit.
    let xs = counts_of_items (as_items t) in
    let ys = counts_of_items (as_items u) in
    let a = c.in_ok-size.ensures.found t r e z in
    let b = c.in_ok-other_size.ensures.found u i f w in
    let taken : take c.in_ok-size.size (xs ++ a.behind) ≡ xs = ap (λ n. take n (xs ++ a.behind)) a.size_is ∙ take-append_seam xs a.behind in
    let others : take c.in_ok-other_size.other_size (ys ++ b.behind) ≡ ys = ap (λ n. take n (ys ++ b.behind)) b.size_is ∙ take-append_seam ys b.behind in
    let x = c.in_ok-plain.ensures.found (xs ++ a.behind) a.pends (omega (arith, a.size_is, length-append xs a.behind)) a.short (omega (arith, a.size_is, joined_long t u, fit)) in
    let plain : c.in_ok-plain.plain ≡ plain_at_end 1 xs = x.1 ∙ ap (plain_at_end 1) taken in
    let first = x.0 ∙ ap (λ l. c.args.out.now.items ++ zeros_of 1 l) taken in
    let y = c.in_err-copy.ensures.found (ys ++ b.behind) b.pends (omega (arith, b.size_is, length-append ys b.behind)) b.short (omega (arith, b.size_is, plain, plain_bound 1 xs, joined_long t u, fit)) in
    let full = subst (λ l. vec_capacity c.copy.new.out < vec_len c.copy.new.out + length (zeros_of c.in_ok-plain.plain l)) others y.1 in
    lacks_zeros c.from_residual-in_err-copy.result c.in_err-copy.field-0.0 c.args.out.now c.copy-2.new.out (zeros_of 1 xs ++ zeros_of c.in_ok-plain.plain ys) (zeros_at (joined_array t u)) c.from_residual-in_err-copy.ensures.1 y.0
    (no_capacity_second c.args.out.now c.copy.new.out (zeros_of 1 xs) (zeros_of c.in_ok-plain.plain ys) first c.in_ok-plain.ensures.preserves.capacity full) (omega (arith, ap length (joined_zeros t u c.in_ok-plain.plain plain)))

pub returns-clause-joined : goal.returns-clause-joined
returns-clause-joined c = λ t u r i e z f w fit.
    let xs = counts_of_items (as_items t) in
    let ys = counts_of_items (as_items u) in
    let a = c.in_ok-size.ensures.found t r e z in
    let b = c.in_ok-other_size.ensures.found u i f w in
    let taken : take c.in_ok-size.size (xs ++ a.behind) ≡ xs = ap (λ n. take n (xs ++ a.behind)) a.size_is ∙ take-append_seam xs a.behind in
    let others : take c.in_ok-other_size.other_size (ys ++ b.behind) ≡ ys = ap (λ n. take n (ys ++ b.behind)) b.size_is ∙ take-append_seam ys b.behind in
    let x = c.in_ok-plain.ensures.found (xs ++ a.behind) a.pends (omega (arith, a.size_is, length-append xs a.behind)) a.short (omega (arith, a.size_is, joined_long t u, fit)) in
    let plain : c.in_ok-plain.plain ≡ plain_at_end 1 xs = x.1 ∙ ap (plain_at_end 1) taken in
    let first = x.0 ∙ ap (λ l. c.args.out.now.items ++ zeros_of 1 l) taken in
    let y = c.in_ok-copy.ensures.found (ys ++ b.behind) b.pends (omega (arith, b.size_is, length-append ys b.behind)) b.short (omega (arith, b.size_is, plain, plain_bound 1 xs, joined_long t u, fit)) in
    both c.args.out.now.items c.copy.new.out.items c.copy-2.new.out.items (zeros_of 1 xs) (zeros_of c.in_ok-plain.plain ys) first (y.0 ∙ ap (λ l. c.copy.new.out.items ++ zeros_of c.in_ok-plain.plain l) others)
    ∙ ap (λ l. c.args.out.now.items ++ l) (sym (joined_zeros t u c.in_ok-plain.plain plain))
