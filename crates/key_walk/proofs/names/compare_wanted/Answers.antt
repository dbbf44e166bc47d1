use Rattle.std.proofs.Common.{◌≡◌, ◌/◌, ◌^◌, ◌++◌, drop, ap, arith, sym, ◌∙◌}
use Rattle.jsonb_spec.specs.SortKey.{text_key}
use Rattle.key_value.proofs.FirstBytes.{no_pair}
use Rattle.key_walk.proofs.Fronts.{name_above, name_below, name_same, name_there, word_front}
use Rattle.jsonb_spec.specs.SortKey.Front.{number_of}
use Rattle.key_walk.proofs.names.compare_wanted.Goals as goal

pub returns-then-number-front-clause-compares : goal.returns-then-number-front-clause-compares
returns-then-number-front-clause-compares g c =
    let bytes = c.args.bytes.now in
    let front : c.from_be_bytes.result / 2 ^ c.args.front.low ≡ number_of c.requires.front.count bytes
    = word_front bytes c.in-Some.chunk.now c.from_be_bytes.result c.args.front.low c.requires.front.count (λ k. (c.type_inv.bytes k).fits) c.in-Some.ensures.cases.same c.from_be_bytes.ensures c.requires.front.bits c.requires.front.some in
    name_below c.args.name.now bytes c.requires.front.count (λ k. (c.type_inv.bytes k).fits) c.requires.front.within (omega (arith, c.if-number-front.true, front, c.requires.front.is))

pub returns-then-number-front-2-clause-compares : goal.returns-then-number-front-2-clause-compares
returns-then-number-front-2-clause-compares g c =
    let bytes = c.args.bytes.now in
    let front : c.from_be_bytes.result / 2 ^ c.args.front.low ≡ number_of c.requires.front.count bytes
    = word_front bytes c.in-Some.chunk.now c.from_be_bytes.result c.args.front.low c.requires.front.count (λ k. (c.type_inv.bytes k).fits) c.in-Some.ensures.cases.same c.from_be_bytes.ensures c.requires.front.bits c.requires.front.some in
    name_above c.args.name.now bytes c.requires.front.count (λ k. (c.type_inv.bytes k).fits) c.requires.front.within (λ k. (c.type_inv.name k).fits) (omega (arith, c.if-number-front-2.true, front, c.requires.front.is))

there : (g : _) (c : goal.Then-front-gt0 g) → c.args.bytes.now ≡ text_key c.args.name.now ++ drop c.requires.front.count c.args.bytes.now
there g c =
    let bytes = c.args.bytes.now in
    let front : c.from_be_bytes.result / 2 ^ c.args.front.low ≡ number_of c.requires.front.count bytes
    = word_front bytes c.in-Some.chunk.now c.from_be_bytes.result c.args.front.low c.requires.front.count (λ k. (c.type_inv.bytes k).fits) c.in-Some.ensures.cases.same c.from_be_bytes.ensures c.requires.front.bits c.requires.front.some in
    name_there c.args.name.now bytes c.requires.front.count (λ k. (c.type_inv.bytes k).fits) c.requires.front.within (λ k. (c.type_inv.name k).fits)
    (omega (arith, c.in-Some.ensures.cases.enough, c.requires.front.bits)) (c.requires.front.whole c.if-front-gt0.true).1 (omega (arith, c.if-number-front.false, c.if-number-front-2.false, front, c.requires.front.is))

pub returns-then-front-gt0-clause-compares : goal.returns-then-front-gt0-clause-compares
returns-then-front-gt0-clause-compares g c = name_same c.args.name.now c.args.bytes.now (drop c.requires.front.count c.args.bytes.now) (there g c)

pub returns-then-front-gt0-clause-not_over : goal.returns-then-front-gt0-clause-not_over
returns-then-front-gt0-clause-not_over g c = λ same tail over. no_pair c.args.name.now (drop c.requires.front.count c.args.bytes.now) c.args.bytes.now tail over (there g c)

pub compare_behind-requires-clause-same : goal.compare_behind-requires-clause-same
compare_behind-requires-clause-same g c = λ low.
    let bytes = c.args.bytes.now in
    let front : c.from_be_bytes.result / 2 ^ c.args.front.low ≡ number_of c.requires.front.count bytes
    = word_front bytes c.in-Some.chunk.now c.from_be_bytes.result c.args.front.low c.requires.front.count (λ k. (c.type_inv.bytes k).fits) c.in-Some.ensures.cases.same c.from_be_bytes.ensures c.requires.front.bits c.requires.front.some in
    let all : c.requires.front.count ≡ 8 = omega (arith, low, c.requires.front.bits) in
    record {
      enough = c.in-Some.ensures.cases.enough;
      same = ap (λ n. number_of n bytes) (sym all) ∙ sym front ∙ omega (arith, c.if-number-front.false, c.if-number-front-2.false, c.requires.front.is) ∙ ap (λ n. number_of n (text_key c.args.name.now)) all;
      plain = c.requires.plain (omega (arith, c.if-front-gt0.false)) low;
    }
