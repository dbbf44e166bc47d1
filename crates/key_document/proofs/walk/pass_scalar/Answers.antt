use Rattle.std.proofs.Common.{◌≡◌, ◌+◌, ◌-◌, ◌<◌, ◌∷◌, ◌++◌, length, length-append, ap, arith, refl}
use Rattle.jsonb_spec.specs.SortKey.{key_of}
use Rattle.key_document.proofs.Walks.{counts_there, part_key, scalar_met, some_key, value_within}
use Rattle.key_document.proofs.walk.pass_scalar.Goals as goal
use Rattle.jsonb_spec.specs.Document.Counts.{opens_counts}
use Rattle.key_walk.proofs.Holding.{readable_up}
use Rattle.jsonb_spec.specs.SortKey.Open.{is_object, name_key}
use Rattle.jsonb_spec.specs.SortKey.Steps.{opens_key}

pub returns-in_err-zeros-clause-passed : goal.returns-in_err-zeros-clause-passed
returns-in_err-zeros-clause-passed c = λ t r e o under at more x.
    let walk = c.args.walk.now in
    let rest = opens_key (x.others ∷ under) in
    let name = name_key (is_object o) x.name in
    let from = key_of x.value ++ rest in
    let is = part_key o x.name x.value x.others under x.is_part in
    let here = length c.args.bytes.now - length c.args.passed.value.now in
    let size : here ≡ length (name ++ from) - length from = omega (arith, ap length x.named, length-append name c.args.passed.value.now, length-append name from) in
    let at_offset = walk.offset + here in
    let full = readable_up x.value at.levels 512 (omega (arith, at.deep)) x.readable in
    let kind = x.kind_is in
    let there = counts_there t o under walk at x.name x.value x.others x.is_part (name ++ from) from is refl rest refl at_offset (ap (λ n. walk.offset + n) size) in
    let within = value_within t o under walk at x.name x.value x.others x.is_part (name ++ from) from is refl rest refl at_offset (ap (λ n. walk.offset + n) size) in
    let inside : at_offset < length (key_of t) = omega (arith, within, some_key x.value full) in
    absurd (c.in_err-zeros.ensures.zeros t r e at.zeros (omega (arith, at.passed)) inside x.value kind (opens_counts (x.others ∷ under)) there)

pub returns-clause-passed : goal.returns-clause-passed
returns-clause-passed c = λ t r e o under at more x.
    let walk = c.args.walk.now in
    let rest = opens_key (x.others ∷ under) in
    let name = name_key (is_object o) x.name in
    let from = key_of x.value ++ rest in
    let is = part_key o x.name x.value x.others under x.is_part in
    let here = length c.args.bytes.now - length c.args.passed.value.now in
    let size : here ≡ length (name ++ from) - length from = omega (arith, ap length x.named, length-append name c.args.passed.value.now, length-append name from) in
    let at_offset = walk.offset + here in
    let full = readable_up x.value at.levels 512 (omega (arith, at.deep)) x.readable in
    let kind = x.kind_is in
    let there = counts_there t o under walk at x.name x.value x.others x.is_part (name ++ from) from is refl rest refl at_offset (ap (λ n. walk.offset + n) size) in
    let within = value_within t o under walk at x.name x.value x.others x.is_part (name ++ from) from is refl rest refl at_offset (ap (λ n. walk.offset + n) size) in
    let inside : at_offset < length (key_of t) = omega (arith, within, some_key x.value full) in
    let z = c.in_ok-zeros.ensures.zeros t r e at.zeros (omega (arith, at.passed)) inside x.value kind (opens_counts (x.others ∷ under)) there in
    let shorter : length rest < length from = omega (arith, length-append (key_of x.value) rest, some_key x.value full) in
    let long : length c.args.passed.value.now - length c.args.passed.after.now ≡ length from - length rest =
    omega (arith, ap length x.occurs, length-append (key_of x.value) c.args.passed.after.now, length-append (key_of x.value) rest) in
    scalar_met t o under walk at x.name x.value x.others x.is_part (name ++ from) from is refl rest refl
    shorter x.is_scalar x.readable x.others_fit refl _ kind refl size (ap (λ n. walk.offset + n) size) long z.0 _ refl refl refl z.1 z.2
