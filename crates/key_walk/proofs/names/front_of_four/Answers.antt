use Rattle.std.proofs.Common.{◌∙◌, refl, arith}
use Rattle.key_walk.proofs.Fronts.{four_front, four_plain}
use Rattle.key_walk.proofs.names.front_of_four.Goals as goal

pub returns : goal.returns
returns c =
    let enough = c.in_ok-chunk.ensures.cases.enough in
    let same = c.in_ok-chunk.ensures.cases.same in
    let plain = four_plain c.args.name.now c.in_ok-chunk.chunk.now enough same c.if-chunk-eq0.false c.if-chunk-eq0-2.false c.if-chunk-eq0-3.false c.if-chunk-eq0-4.false in
    let four = four_front c.args.name.now c.in_ok-chunk.chunk.now c.from.result plain enough same (c.from.ensures ∙ c.from_be_bytes.ensures) in
    (record { count = 4; some = omega arith; bits = refl; within = four.0; is = four.1; whole = λ some. absurd (omega (arith, some)) }, refl)
