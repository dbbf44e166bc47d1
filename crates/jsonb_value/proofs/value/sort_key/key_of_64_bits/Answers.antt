use Rattle.std.proofs.Common.{◌≡◌, pos, unsigned_abs, ap, ◌∙◌, arith}
use Rattle.std.proofs.lemmas.Int.{ints}
use Rattle.std.specs.Int.{bytes_high_first}
use Rattle.std.specs.Prelude.{◌+ℤ◌}
use Rattle.jsonb_spec.specs.SortKey.{key_of_64_bits}
use Rattle.jsonb_value.proofs.value.sort_key.key_of_64_bits.Goals as goal

pub returns : goal.returns
unfolding key_of_64_bits
returns c =
    let moved : c.unsigned_abs-moved.result ≡ unsigned_abs (c.args.value +ℤ pos 9223372036854775808) = omega (arith, ints) in
    c.to_be_bytes.ensures ∙ ap (bytes_high_first 8) moved
