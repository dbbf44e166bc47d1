use Rattle.std.proofs.Common.{◌≡◌, ◌/◌, ◌^◌, ◌++◌, List, ℕ, drop, arith, subst}
use Rattle.jsonb_spec.specs.SortKey.{text_key}
use Rattle.key_value.proofs.FirstBytes.{no_pair}
use Rattle.key_walk.proofs.Fronts.{AreBytes, name_above, name_below, name_same, name_there, word_front}
use Rattle.key_walk.proofs.KeyFronts.{name_bytes}
use Rattle.key_walk.specs.Fronts.{IsFront, IsKeyFront}
use Rattle.jsonb_spec.specs.SortKey.Front.{number_of}
use Rattle.key_walk.proofs.names.compare_key.Goals as goal

pub returns-then-number-front-clause-compares : goal.returns-then-number-front-clause-compares
returns-then-number-front-clause-compares c = λ name is.
    let bytes = c.args.bytes.now in
    let f : IsFront name c.args.front = subst (λ k. IsKeyFront k c.args.front) is c.requires in
    let front : c.from_be_bytes.result / 2 ^ c.args.front.low ≡ number_of f.count bytes
    = word_front bytes c.in-Some.chunk.now c.from_be_bytes.result c.args.front.low f.count (λ k. (c.type_inv.bytes k).fits) c.in-Some.ensures.cases.same c.from_be_bytes.ensures f.bits f.some in
    name_below name bytes f.count (λ k. (c.type_inv.bytes k).fits) f.within (omega (arith, c.if-number-front.true, front, f.is))

pub returns-then-number-front-2-clause-compares : goal.returns-then-number-front-2-clause-compares
returns-then-number-front-2-clause-compares c = λ name is.
    let bytes = c.args.bytes.now in
    let f : IsFront name c.args.front = subst (λ k. IsKeyFront k c.args.front) is c.requires in
    let front : c.from_be_bytes.result / 2 ^ c.args.front.low ≡ number_of f.count bytes
    = word_front bytes c.in-Some.chunk.now c.from_be_bytes.result c.args.front.low f.count (λ k. (c.type_inv.bytes k).fits) c.in-Some.ensures.cases.same c.from_be_bytes.ensures f.bits f.some in
    name_above name bytes f.count (λ k. (c.type_inv.bytes k).fits) f.within (name_bytes name (subst AreBytes is (λ k. (c.type_inv.key k).fits))) (omega (arith, c.if-number-front-2.true, front, f.is))

-- the bytes begin with the whole key
there : (c : goal.Then-front-gt0) (name : List ℕ) → c.args.key.now ≡ text_key name → (rest : List ℕ) × (c.args.bytes.now ≡ text_key name ++ rest)
there c name is =
    let bytes = c.args.bytes.now in
    let f : IsFront name c.args.front = subst (λ k. IsKeyFront k c.args.front) is c.requires in
    let front : c.from_be_bytes.result / 2 ^ c.args.front.low ≡ number_of f.count bytes
    = word_front bytes c.in-Some.chunk.now c.from_be_bytes.result c.args.front.low f.count (λ k. (c.type_inv.bytes k).fits) c.in-Some.ensures.cases.same c.from_be_bytes.ensures f.bits f.some in (
      drop f.count bytes,
      name_there name bytes f.count (λ k. (c.type_inv.bytes k).fits) f.within (name_bytes name (subst AreBytes is (λ k. (c.type_inv.key k).fits)))
          (omega (arith, c.in-Some.ensures.cases.enough, f.bits)) (f.whole c.if-front-gt0.true).1 (omega (arith, c.if-number-front.false, c.if-number-front-2.false, front, f.is)),
    )

pub returns-then-front-gt0-clause-compares : goal.returns-then-front-gt0-clause-compares
returns-then-front-gt0-clause-compares c = λ name is. name_same name c.args.bytes.now (there c name is).0 (there c name is).1

pub returns-then-front-gt0-clause-not_over : goal.returns-then-front-gt0-clause-not_over
returns-then-front-gt0-clause-not_over c = λ name is same tail over. no_pair name (there c name is).0 c.args.bytes.now tail over (there c name is).1
