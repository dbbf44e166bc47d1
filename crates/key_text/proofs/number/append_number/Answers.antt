use Rattle.std.proofs.Common.{◌∷◌, refl, ◌++◌, unsigned_abs, sym, ap, subst, ◌∙◌, arith}
use Rattle.std.specs.Bool.{nat_lt}
use Rattle.std.specs.Fmt.{sign_text}
use Rattle.std.specs.Prelude.{vec_capacity, vec_len, length, ◌+◌, ◌<◌}
use Rattle.key_value.proofs.Signs.{zero_read}
use Rattle.key_text.specs.Writes.{scaled_text}
use Rattle.key_text.proofs.Appending.{out_of_memory, no_capacity_first, no_capacity_second, both}
use Rattle.key_text.proofs.KeyNumbers.{zero_there, signed, some_exponent, is_exponent_key, near_exponent}
use Rattle.key_text.proofs.NumberTexts.{number_is, zero_is}
use Rattle.key_text.proofs.number.append_number.Goals as goal

pub returns-in_err-extend_from_slice-clause-found : goal.returns-in_err-extend_from_slice-clause-found
returns-in_err-extend_from_slice-clause-found c = λ n proper more e.
    let zero_text = zero_is n (zero_there n proper c.args.first c.args.others.now (c.args.first ∷ c.args.others.now) more refl c.if-first-eq-ZERO.true e) in
    out_of_memory (λ rest. rest.now) c.from_residual.result c.args.buf.now c.extend_from_slice.new.self more _ c.from_residual.ensures.1 (omega (arith, c.in_err-extend_from_slice.ensures.full, ap length zero_text))

pub returns-then-first-eq-ZERO-clause-found : goal.returns-then-first-eq-ZERO-clause-found
returns-then-first-eq-ZERO-clause-found c = λ n proper more e.
    let zero_text = zero_is n (zero_there n proper c.args.first c.args.others.now (c.args.first ∷ c.args.others.now) more refl c.if-first-eq-ZERO.true e) in
    (zero_read n proper c.args.first c.args.others.now (c.args.first ∷ c.args.others.now) more refl c.if-first-eq-ZERO.true e, c.in_ok-extend_from_slice.ensures.items ∙ ap (λ t. c.args.buf.now.items ++ t) (sym zero_text))

pub returns-in_default-clause-found : goal.returns-in_default-clause-found
returns-in_default-clause-found c = λ n proper more e.
    absurd (some_exponent n proper c.args.first c.args.others.now (c.args.first ∷ c.args.others.now) more refl c.if-first-eq-ZERO.false e c.in_default.ensures.exponent)

pub returns-in_default-encode-clause-found : goal.returns-in_default-encode-clause-found
returns-in_default-encode-clause-found c = λ n proper more e.
    let s = signed n proper c.args.first c.args.others.now (c.args.first ∷ c.args.others.now) more refl c.if-first-eq-ZERO.false e in
    let at = is_exponent_key n proper c.args.first c.args.others.now (c.args.first ∷ c.args.others.now) more refl c.if-first-eq-ZERO.false e c.in-Some.exponent c.in-Some.digits.now c.in-Some.ensures.exponent in
    absurd (c.in_default-encode.ensures.found s.count (unsigned_abs n.whole) s.below s.some s.few more at.1)

pub returns-then-exponent-clause-found : goal.returns-then-exponent-clause-found
returns-then-exponent-clause-found c = λ n proper more e.
    let near = near_exponent n proper c.args.first c.args.others.now (c.args.first ∷ c.args.others.now) more refl c.if-first-eq-ZERO.false e in
    let at = is_exponent_key n proper c.args.first c.args.others.now (c.args.first ∷ c.args.others.now) more refl c.if-first-eq-ZERO.false e c.in-Some.exponent c.in-Some.digits.now c.in-Some.ensures.exponent in
    absurd (omega (arith, near, at.0, c.if-exponent.true))

pub returns-in_err-append_sign-clause-found : goal.returns-in_err-append_sign-clause-found
returns-in_err-append_sign-clause-found c = λ n proper more e.
    let s = signed n proper c.args.first c.args.others.now (c.args.first ∷ c.args.others.now) more refl c.if-first-eq-ZERO.false e in
    let at = is_exponent_key n proper c.args.first c.args.others.now (c.args.first ∷ c.args.others.now) more refl c.if-first-eq-ZERO.false e c.in-Some.exponent c.in-Some.digits.now c.in-Some.ensures.exponent in
    let read = c.in-Some-encode.ensures.found s.count (unsigned_abs n.whole) s.below s.some s.few more at.1 in
    let text = number_is n _ (c.args.first ∷ c.args.others.now) more s c.in-Some-encode.count c.encode.new.row read.0 in
    out_of_memory (λ rest. rest.now) c.from_residual-in_err-append_sign.result c.args.buf.now c.append_sign.new.buf more _ c.from_residual-in_err-append_sign.ensures.1
    (subst (λ t. vec_capacity c.args.buf.now < vec_len c.args.buf.now + length t) (sym text) (no_capacity_first c.args.buf.now (sign_text (nat_lt c.args.first 128)) (scaled_text s.exponent c.in-Some-encode.count c.encode.new.row) c.in_err-append_sign.ensures.full))

pub returns-in_err-append_scaled-clause-found : goal.returns-in_err-append_scaled-clause-found
returns-in_err-append_scaled-clause-found c = λ n proper more e.
    let s = signed n proper c.args.first c.args.others.now (c.args.first ∷ c.args.others.now) more refl c.if-first-eq-ZERO.false e in
    let at = is_exponent_key n proper c.args.first c.args.others.now (c.args.first ∷ c.args.others.now) more refl c.if-first-eq-ZERO.false e c.in-Some.exponent c.in-Some.digits.now c.in-Some.ensures.exponent in
    let read = c.in-Some-encode.ensures.found s.count (unsigned_abs n.whole) s.below s.some s.few more at.1 in
    let text = number_is n _ (c.args.first ∷ c.args.others.now) more s c.in-Some-encode.count c.encode.new.row read.0 ∙ ap (λ p. sign_text (nat_lt c.args.first 128) ++ scaled_text p c.in-Some-encode.count c.encode.new.row) (sym at.0) in
    out_of_memory (λ rest. rest.now) c.from_residual-in_err-append_scaled.result c.args.buf.now c.append_scaled.new.buf more _ c.from_residual-in_err-append_scaled.ensures.1
    (subst (λ t. vec_capacity c.args.buf.now < vec_len c.args.buf.now + length t) (sym text) (no_capacity_second c.args.buf.now c.append_sign.new.buf (sign_text (nat_lt c.args.first 128)) (scaled_text c.in-Some.exponent c.in-Some-encode.count c.encode.new.row) c.in_ok-append_sign.ensures.ok c.in_ok-append_sign.ensures.capacity c.in_err-append_scaled.ensures.full))

pub returns-clause-found : goal.returns-clause-found
returns-clause-found c = λ n proper more e.
    let s = signed n proper c.args.first c.args.others.now (c.args.first ∷ c.args.others.now) more refl c.if-first-eq-ZERO.false e in
    let at = is_exponent_key n proper c.args.first c.args.others.now (c.args.first ∷ c.args.others.now) more refl c.if-first-eq-ZERO.false e c.in-Some.exponent c.in-Some.digits.now c.in-Some.ensures.exponent in
    let read = c.in-Some-encode.ensures.found s.count (unsigned_abs n.whole) s.below s.some s.few more at.1 in
    let text = number_is n _ (c.args.first ∷ c.args.others.now) more s c.in-Some-encode.count c.encode.new.row read.0 ∙ ap (λ p. sign_text (nat_lt c.args.first 128) ++ scaled_text p c.in-Some-encode.count c.encode.new.row) (sym at.0) in
    (read.1, both c.args.buf.now.items c.append_sign.new.buf.items c.append_scaled.new.buf.items (sign_text (nat_lt c.args.first 128)) (scaled_text c.in-Some.exponent c.in-Some-encode.count c.encode.new.row) c.in_ok-append_sign.ensures.ok c.in_ok-append_scaled.ensures.ok ∙ ap (λ t. c.args.buf.now.items ++ t) (sym text))
