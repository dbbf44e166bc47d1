use Rattle.std.proofs.Common.{◌≡◌, ◌+◌, ◌<◌, ◌≤◌, ◌^◌, ◌++◌, length, drop, refl, sym, subst, ap, ◌∙◌, arith, append_assoc, length-append}
use Rattle.std.specs.Prelude.{vec_len, vec_capacity}
use Rattle.jsonb_spec.specs.SortKey.{key_of}
use Rattle.jsonb_spec.specs.Document.Zeros.{zeros_of}
use Rattle.jsonb_spec.specs.Document.{behind_key, end_of, zeros_at}
use Rattle.key_document.specs.Tokens.{tokens_counts, tokens_key, tokens_text}
use Rattle.key_document.specs.declared.error.DocumentError.TheVariants.{OutOfMemory}
use Rattle.key_document.proofs.Joining.{lacks_zeros}
use Rattle.key_document.proofs.from_text.append_tail.Goals as goal

pub returns-in_default-clause-appended : goal.returns-in_default-clause-appended
returns-in_default-clause-appended c = λ t z before k s. absurd (omega (arith, z.within, c.in_default.ensures))

pub returns-in_err-append_zeros-clause-appended : goal.returns-in_err-append_zeros-clause-appended
returns-in_err-append_zeros-clause-appended c = λ t z before k s.
    let at : c.args.first.now.left ≤ length c.args.text.now = z.within in
    let text : c.split_at.result.1.now ≡ tokens_text z.tokens = c.split_at.ensures.back ∙ ap (λ n. drop n c.args.text.now) (omega (arith, c.in-Some.ensures, z.within)) ∙ z.occurs in
    let key : c.args.out.now.items ≡ (before ++ z.front) ++ tokens_key z.tokens = k ∙ ap (λ l. before ++ l) z.key_is ∙ sym (append_assoc before z.front (tokens_key z.tokens)) in
    let offset : c.args.first.now.at ≡ length (before ++ z.front) = omega (arith, z.at_is, s, length-append before z.front) in
    let plain : c.saturating_sub.result ≡ length z.front = omega (arith, c.saturating_sub.ensures, z.at_is) in
    let fit : c.saturating_sub.result + length (tokens_key z.tokens) < 2 ^ 63 = omega (arith, plain, ap length k, length-append before (key_of t), ap length z.key_is, length-append z.front (tokens_key z.tokens), c.args.out.now.ok.0, c.args.out.now.ok.1, c.args.out.now.small) in
    let same : zeros_of c.saturating_sub.result (tokens_counts z.tokens) ≡ zeros_at t = ap (λ n. zeros_of n (tokens_counts z.tokens)) plain ∙ sym z.zeros_are in
    let lacks = c.in_err-append_zeros.ensures.appended z.tokens z.are text (before ++ z.front) key offset fit in
    lacks_zeros c.from_residual.result c.in_err-append_zeros.field-0.0 c.args.out.now c.append_zeros.new.out (zeros_at t) (behind_key (zeros_at t)) c.from_residual.ensures.1 lacks.0 (omega (arith, lacks.1, ap length same))
    (omega (arith, length-append (zeros_at t) (end_of (length (zeros_at t)))))

pub returns-in_err-end_zeros-clause-appended : goal.returns-in_err-end_zeros-clause-appended
returns-in_err-end_zeros-clause-appended c = λ t z before k s.
    let zeros = zeros_at t in
    let mid = c.append_zeros.new.out in
    let at : c.args.first.now.left ≤ length c.args.text.now = z.within in
    let text : c.split_at.result.1.now ≡ tokens_text z.tokens = c.split_at.ensures.back ∙ ap (λ n. drop n c.args.text.now) (omega (arith, c.in-Some.ensures, z.within)) ∙ z.occurs in
    let key : c.args.out.now.items ≡ (before ++ z.front) ++ tokens_key z.tokens = k ∙ ap (λ l. before ++ l) z.key_is ∙ sym (append_assoc before z.front (tokens_key z.tokens)) in
    let offset : c.args.first.now.at ≡ length (before ++ z.front) = omega (arith, z.at_is, s, length-append before z.front) in
    let plain : c.saturating_sub.result ≡ length z.front = omega (arith, c.saturating_sub.ensures, z.at_is) in
    let fit : c.saturating_sub.result + length (tokens_key z.tokens) < 2 ^ 63 = omega (arith, plain, ap length k, length-append before (key_of t), ap length z.key_is, length-append z.front (tokens_key z.tokens), c.args.out.now.ok.0, c.args.out.now.ok.1, c.args.out.now.small) in
    let same : zeros_of c.saturating_sub.result (tokens_counts z.tokens) ≡ zeros_at t = ap (λ n. zeros_of n (tokens_counts z.tokens)) plain ∙ sym z.zeros_are in
    let joined : mid.items ≡ c.args.out.now.items ++ zeros = c.in_ok-append_zeros.ensures.appended z.tokens z.are text (before ++ z.front) key offset fit ∙ ap (λ l. c.args.out.now.items ++ l) same in
    let full = c.in_err-end_zeros.ensures.ended c.args.out.now.items zeros (omega (arith, c.len-end.ensures, c.args.out.now.ok.0)) joined in
    lacks_zeros c.from_residual-in_err-end_zeros.result OutOfMemory c.args.out.now c.end_zeros.new.out (behind_key zeros) (behind_key zeros) c.from_residual-in_err-end_zeros.ensures.1 refl (omega (arith, full, c.in_ok-append_zeros.ensures.preserves.capacity, c.len-end.ensures)) (omega arith)

pub returns-clause-appended : goal.returns-clause-appended
returns-clause-appended c = λ t z before k s.
    let zeros = zeros_at t in
    let mid = c.append_zeros.new.out in
    let at : c.args.first.now.left ≤ length c.args.text.now = z.within in
    let text : c.split_at.result.1.now ≡ tokens_text z.tokens = c.split_at.ensures.back ∙ ap (λ n. drop n c.args.text.now) (omega (arith, c.in-Some.ensures, z.within)) ∙ z.occurs in
    let key : c.args.out.now.items ≡ (before ++ z.front) ++ tokens_key z.tokens = k ∙ ap (λ l. before ++ l) z.key_is ∙ sym (append_assoc before z.front (tokens_key z.tokens)) in
    let offset : c.args.first.now.at ≡ length (before ++ z.front) = omega (arith, z.at_is, s, length-append before z.front) in
    let plain : c.saturating_sub.result ≡ length z.front = omega (arith, c.saturating_sub.ensures, z.at_is) in
    let fit : c.saturating_sub.result + length (tokens_key z.tokens) < 2 ^ 63 = omega (arith, plain, ap length k, length-append before (key_of t), ap length z.key_is, length-append z.front (tokens_key z.tokens), c.args.out.now.ok.0, c.args.out.now.ok.1, c.args.out.now.small) in
    let same : zeros_of c.saturating_sub.result (tokens_counts z.tokens) ≡ zeros_at t = ap (λ n. zeros_of n (tokens_counts z.tokens)) plain ∙ sym z.zeros_are in
    let joined : mid.items ≡ c.args.out.now.items ++ zeros = c.in_ok-append_zeros.ensures.appended z.tokens z.are text (before ++ z.front) key offset fit ∙ ap (λ l. c.args.out.now.items ++ l) same in
    c.in_ok-end_zeros.ensures.ended c.args.out.now.items zeros (omega (arith, c.len-end.ensures, c.args.out.now.ok.0)) joined
