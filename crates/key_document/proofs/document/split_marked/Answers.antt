use Rattle.std.proofs.Common.{◌≡◌, ◌<◌, ◌^◌, ◌++◌, length, take, drop, ap, ◌∙◌, arith, length-append}
use Rattle.std.specs.Prelude.{reverse}
use Rattle.std.proofs.Math.Seq.{take-append_seam, drop-append_seam}
use Rattle.jsonb_spec.specs.Document.{behind_key, end_of}
use Rattle.jsonb_spec.specs.Document.Zeros.{in_sevens}
use Rattle.key_document.proofs.Backwards.{turned_back, turned_end, turned_number}
use Rattle.key_document.proofs.Tails.{marked, marked_whole}
use Rattle.key_document.proofs.document.split_marked.Goals as goal

pub returns-in_default-clause-found : goal.returns-in_default-clause-found
returns-in_default-clause-found c = λ key zeros some e. omega (arith, some, ap length e, length-append key (behind_key zeros), length-append zeros (end_of (length zeros)), c.in_default.ensures.cases)

pub returns-then-last-clause-found : goal.returns-then-last-clause-found
returns-then-last-clause-found c = λ key zeros some e. c.if-last.true (marked key zeros c.args.document.now c.in-Some.front.now c.in-Some.last.now some e c.in-Some.ensures.cases.0).1

pub returns-in_default-read_sevens-clause-found : goal.returns-in_default-read_sevens-clause-found
returns-in_default-read_sevens-clause-found c = λ key zeros some e.
    let m = (marked key zeros c.args.document.now c.in-Some.front.now c.in-Some.last.now some e c.in-Some.ensures.cases.0).0 in
    let small : length zeros < 2 ^ 63 = omega (arith, ap length m, length-append (key ++ zeros) (reverse (in_sevens 8 (length zeros))), length-append key zeros, c.in-Some.ensures.cases.1) in
    absurd (c.in_default-read_sevens.ensures.found (length zeros) small (reverse (key ++ zeros)) (turned_number c.in-Some.front.now (key ++ zeros) (length zeros) m))

pub returns-then-size-eq0-clause-found : goal.returns-then-size-eq0-clause-found
returns-then-size-eq0-clause-found c = λ key zeros some e.
    let m = (marked key zeros c.args.document.now c.in-Some.front.now c.in-Some.last.now some e c.in-Some.ensures.cases.0).0 in
    let small : length zeros < 2 ^ 63 = omega (arith, ap length m, length-append (key ++ zeros) (reverse (in_sevens 8 (length zeros))), length-append key zeros, c.in-Some.ensures.cases.1) in
    let x = c.in-Some-read_sevens.ensures.found (length zeros) small (reverse (key ++ zeros)) (turned_number c.in-Some.front.now (key ++ zeros) (length zeros) m) in
    omega (arith, x.0, some, c.if-size-eq0.true)

pub returns-in_default-checked_sub-clause-found : goal.returns-in_default-checked_sub-clause-found
returns-in_default-checked_sub-clause-found c = λ key zeros some e.
    let m = (marked key zeros c.args.document.now c.in-Some.front.now c.in-Some.last.now some e c.in-Some.ensures.cases.0).0 in
    let small : length zeros < 2 ^ 63 = omega (arith, ap length m, length-append (key ++ zeros) (reverse (in_sevens 8 (length zeros))), length-append key zeros, c.in-Some.ensures.cases.1) in
    let x = c.in-Some-read_sevens.ensures.found (length zeros) small (reverse (key ++ zeros)) (turned_number c.in-Some.front.now (key ++ zeros) (length zeros) m) in
    let is = turned_back c.in-Some-read_sevens.rest.now (key ++ zeros) x.1 in
    absurd (omega (arith, c.in_default-checked_sub.ensures, x.0, ap length is, length-append key zeros))

pub returns-clause-found : goal.returns-clause-found
returns-clause-found c = λ key zeros some e.
    let m = (marked key zeros c.args.document.now c.in-Some.front.now c.in-Some.last.now some e c.in-Some.ensures.cases.0).0 in
    let small : length zeros < 2 ^ 63 = omega (arith, ap length m, length-append (key ++ zeros) (reverse (in_sevens 8 (length zeros))), length-append key zeros, c.in-Some.ensures.cases.1) in
    let x = c.in-Some-read_sevens.ensures.found (length zeros) small (reverse (key ++ zeros)) (turned_number c.in-Some.front.now (key ++ zeros) (length zeros) m) in
    let is = turned_back c.in-Some-read_sevens.rest.now (key ++ zeros) x.1 in
    let long : c.in-Some-checked_sub.key_len ≡ length key = omega (arith, c.in-Some-checked_sub.ensures, x.0, ap length is, length-append key zeros) in (
      c.split_at.ensures.front ∙ (λ i. take (long i) (is i)) ∙ take-append_seam key zeros,
      c.split_at.ensures.back ∙ (λ i. drop (long i) (is i)) ∙ drop-append_seam key zeros,
    )

pub returns-clause-whole : goal.returns-clause-whole
returns-clause-whole c =
    marked_whole c.split_at.result.0.now c.split_at.result.1.now c.args.document.now c.in-Some.front.now c.in-Some-read_sevens.rest.now c.in-Some.last.now c.in-Some-read_sevens.size c.in-Some-checked_sub.key_len c.in-Some.ensures.cases.0 c.if-last.false (omega (arith, c.if-size-eq0.false)) (turned_end c.in-Some.front.now c.in-Some-read_sevens.rest.now c.in-Some-read_sevens.size c.in-Some-read_sevens.ensures.first)
    (omega (arith, c.in-Some-checked_sub.ensures)) c.split_at.ensures.front c.split_at.ensures.back
