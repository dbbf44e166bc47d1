use Rattle.std.proofs.Common.{sym, arith, refl, ◌∙◌}
use Rattle.std.proofs.lemmas.List.{length-take-le}
use Rattle.key_walk.proofs.Fronts.{only_first, word_front}
use Rattle.key_walk.proofs.names.key_front.Goals as goal

pub returns-then-size-gt8 : goal.returns-then-size-gt8
returns-then-size-gt8 c =
    let bytes = c.args.bytes.now in
    let long = length-take-le c.args.size bytes c.requires.1 in
    let word = word_front bytes c.in-Some.chunk.now c.from_be_bytes-number.result 0 8 (λ k. (c.type_inv.bytes k).fits) c.in-Some.ensures.cases.same c.from_be_bytes-number.ensures refl (omega arith) in
    record {
      front = record {
        count = 8;
        some = omega arith;
        bits = c.first_bytes.ensures.1;
        within = omega (arith, long, c.if-size-gt8.true);
        is = c.first_bytes.ensures.0 ∙ omega (arith, word) ∙ sym (only_first 8 c.args.size bytes (omega (arith, c.if-size-gt8.true)));
        whole = λ more. absurd (omega (arith, more, c.first_bytes.ensures.2));
      };
    }

pub returns : goal.returns
returns c =
    let bytes = c.args.bytes.now in
    let long = length-take-le c.args.size bytes c.requires.1 in
    record {
      front = record {
        count = c.args.size;
        some = c.requires.0;
        bits = omega (arith, c.if-size-gt8.false);
        within = omega (arith, long);
        is = word_front bytes c.in-Some.chunk.now c.from_be_bytes-number.result _ c.args.size (λ k. (c.type_inv.bytes k).fits) c.in-Some.ensures.cases.same c.from_be_bytes-number.ensures (omega (arith, c.if-size-gt8.false)) c.requires.0
            ∙ sym (only_first c.args.size c.args.size bytes (omega arith));
        whole = λ more. (refl, sym long);
      };
    }
