use Rattle.std.proofs.Common.{◌≡◌, ◌/◌, ◌^◌, ◌++◌, drop, arith}
use Rattle.jsonb_spec.specs.SortKey.{text_key}
use Rattle.key_value.proofs.FirstBytes.{no_pair}
use Rattle.key_walk.proofs.Fronts.{name_above, name_below, name_same, name_there, word_front}
use Rattle.jsonb_spec.specs.SortKey.Front.{number_of}
use Rattle.key_walk.proofs.names.compare_by_front.Goals as goal

pub returns-then-number-front-clause-compares : goal.returns-then-number-front-clause-compares
returns-then-number-front-clause-compares c =
    let bytes = c.args.bytes.now in
    let front : c.from_be_bytes.result / 2 ^ c.args.front.low ≡ number_of c.requires.count bytes
    = word_front bytes c.in-Some.chunk.now c.from_be_bytes.result c.args.front.low c.requires.count (λ k. (c.type_inv.bytes k).fits) c.in-Some.ensures.cases.same c.from_be_bytes.ensures c.requires.bits c.requires.some in
    name_below c.args.name.now bytes c.requires.count (λ k. (c.type_inv.bytes k).fits) c.requires.within (omega (arith, c.if-number-front.true, front, c.requires.is))

pub returns-then-number-front-2-clause-compares : goal.returns-then-number-front-2-clause-compares
returns-then-number-front-2-clause-compares c =
    let bytes = c.args.bytes.now in
    let front : c.from_be_bytes.result / 2 ^ c.args.front.low ≡ number_of c.requires.count bytes
    = word_front bytes c.in-Some.chunk.now c.from_be_bytes.result c.args.front.low c.requires.count (λ k. (c.type_inv.bytes k).fits) c.in-Some.ensures.cases.same c.from_be_bytes.ensures c.requires.bits c.requires.some in
    name_above c.args.name.now bytes c.requires.count (λ k. (c.type_inv.bytes k).fits) c.requires.within (λ k. (c.type_inv.name k).fits) (omega (arith, c.if-number-front-2.true, front, c.requires.is))

there : (c : goal.Then-front-gt0) → c.args.bytes.now ≡ text_key c.args.name.now ++ drop c.requires.count c.args.bytes.now
there c =
    let bytes = c.args.bytes.now in
    let front : c.from_be_bytes.result / 2 ^ c.args.front.low ≡ number_of c.requires.count bytes
    = word_front bytes c.in-Some.chunk.now c.from_be_bytes.result c.args.front.low c.requires.count (λ k. (c.type_inv.bytes k).fits) c.in-Some.ensures.cases.same c.from_be_bytes.ensures c.requires.bits c.requires.some in
    name_there c.args.name.now bytes c.requires.count (λ k. (c.type_inv.bytes k).fits) c.requires.within (λ k. (c.type_inv.name k).fits)
    (omega (arith, c.in-Some.ensures.cases.enough, c.requires.bits)) (c.requires.whole c.if-front-gt0.true).1 (omega (arith, c.if-number-front.false, c.if-number-front-2.false, front, c.requires.is))

pub returns-then-front-gt0-clause-compares : goal.returns-then-front-gt0-clause-compares
returns-then-front-gt0-clause-compares c = name_same c.args.name.now c.args.bytes.now (drop c.requires.count c.args.bytes.now) (there c)

pub returns-then-front-gt0-clause-not_over : goal.returns-then-front-gt0-clause-not_over
returns-then-front-gt0-clause-not_over c = λ same tail over. no_pair c.args.name.now (drop c.requires.count c.args.bytes.now) c.args.bytes.now tail over (there c)
