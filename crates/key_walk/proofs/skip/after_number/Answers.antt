use Rattle.std.proofs.Common.{◌++◌, map, sym, ap, ◌∙◌, unsigned_abs}
use Rattle.std.specs.Bool.{nat_lt}
use Rattle.jsonb_spec.specs.SortKey.{digits_key, invert_if}
use Rattle.jsonb_spec.specs.SortKey.Reading.{exponent_of}
use Rattle.key_value.proofs.Numbers.{exponent_read}
use Rattle.key_value.proofs.Signs.{signed_read}
use Rattle.key_value.proofs.Texts.{none_some, some_same}
use Rattle.key_walk.proofs.skip.after_number.Goals as goal

pub returns-in_err-digits-clause-found : goal.returns-in_err-digits-clause-found
returns-in_err-digits-clause-found c = λ n proper first tail begins other sign more e.
    let bytes = c.args.bytes.now in
    let s = signed_read n proper first tail bytes more begins other e in
    let key = map (invert_if (nat_lt first 128)) (digits_key s.count (unsigned_abs n.whole)) ++ more in
    let scaled = exponent_read (nat_lt first 128) s.exponent key s.low in
    absurd (none_some _ (c.in_err-digits.ensures.found s.exponent key (ap (λ b. exponent_of b bytes) sign ∙ ap (exponent_of (nat_lt first 128)) s.occurs ∙ scaled)))

pub returns-clause-found : goal.returns-clause-found
returns-clause-found c = λ n proper first tail begins other sign more e.
    let bytes = c.args.bytes.now in
    let s = signed_read n proper first tail bytes more begins other e in
    let key = map (invert_if (nat_lt first 128)) (digits_key s.count (unsigned_abs n.whole)) ++ more in
    let scaled = exponent_read (nat_lt first 128) s.exponent key s.low in
    let at = some_same c.in_ok-digits.digits.now key (c.in_ok-digits.ensures.found s.exponent key (ap (λ b. exponent_of b bytes) sign ∙ ap (exponent_of (nat_lt first 128)) s.occurs ∙ scaled)) in
    c.after_digits.ensures.found s.count (unsigned_abs n.whole) s.below s.some more
    (at ∙ ap (λ b. map (invert_if b) (digits_key s.count (unsigned_abs n.whole)) ++ more) (sym sign))
