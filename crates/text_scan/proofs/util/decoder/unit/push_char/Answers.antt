use Rattle.std.proofs.Common.{◌≡◌, ℕ, ◌+◌, ◌/◌, ◌%◌, ◌<◌, ◌≤◌, ◌++◌, [], ◌∷◌, take, refl, ap, ap₂, sym, ◌∙◌, arith}
use Rattle.std.specs.Char.{encode_utf8}
use Rattle.text_scan.proofs.Numbers.Steps.{is_below, is_not_below}
use Rattle.text_scan.proofs.util.decoder.unit.push_char.Goals as goal

two : (c : ℕ) → 128 ≤ c → c < 2048 → encode_utf8 c ≡ (192 + c / 64) ∷ (128 + c % 64) ∷ []
unfolding encode_utf8
two c low high = rw (is_not_below c 128 low, is_below c 2048 high) refl

three : (c : ℕ) → 2048 ≤ c → c < 65536 → encode_utf8 c ≡ (224 + c / 4096) ∷ (128 + c / 64 % 64) ∷ (128 + c % 64) ∷ []
unfolding encode_utf8
three c low high = rw (is_not_below c 128 (omega (arith, low)), is_not_below c 2048 low, is_below c 65536 high) refl

four : (c : ℕ) → 65536 ≤ c → encode_utf8 c ≡ (240 + c / 262144) ∷ (128 + c / 4096 % 64) ∷ (128 + c / 64 % 64) ∷ (128 + c % 64) ∷ []
unfolding encode_utf8
four c low = rw (is_not_below c 128 (omega (arith, low)), is_not_below c 2048 (omega (arith, low)), is_not_below c 65536 low) refl

pub returns-then-value-lt2048-clause-written : goal.returns-then-value-lt2048-clause-written
returns-then-value-lt2048-clause-written c =
    let value = c.args.value in
    c.write_all.ensures.written ∙ ap (λ added. take c.args.len c.args.text.now ++ added)
    (ap (λ last. (192 + value / 64) ∷ last ∷ []) c.next_byte-last.ensures ∙ sym (two value c.if-value-lt128.false c.if-value-lt2048.true))

pub returns-then-value-lt65536-clause-written : goal.returns-then-value-lt65536-clause-written
returns-then-value-lt65536-clause-written c =
    let value = c.args.value in
    c.write_all-then-value-lt65536.ensures.written ∙ ap (λ added. take c.args.len c.args.text.now ++ added)
    (ap₂ (λ third last. (224 + value / 4096) ∷ third ∷ last ∷ []) c.next_byte-third.ensures c.next_byte-last.ensures ∙ sym (three value c.if-value-lt2048.false c.if-value-lt65536.true))

pub returns-clause-written : goal.returns-clause-written
returns-clause-written c =
    let value = c.args.value in
    c.write_all-2.ensures.written ∙ ap (λ added. take c.args.len c.args.text.now ++ added)
    (ap (λ second. (240 + value / 262144) ∷ second ∷ c.next_byte-third.result ∷ c.next_byte-last.result ∷ []) c.next_byte-second.ensures
    ∙ ap₂ (λ third last. (240 + value / 262144) ∷ (128 + value / 4096 % 64) ∷ third ∷ last ∷ []) c.next_byte-third.ensures c.next_byte-last.ensures
    ∙ sym (four value c.if-value-lt65536.false))
