use Rattle.std.proofs.Common.{◌≡◌, ◌+◌, ◌<◌, drop, get_or, sym, ap, subst, ◌∙◌, arith}
use Rattle.std.specs.Int.{bit_at}
use Rattle.std.proofs.lemmas.Nat.Bits.{bit_at-zero}
use Rattle.jsonb_spec.specs.Parsing.Whitespace.{block_length, longer_by}
use Rattle.text_scan.proofs.Text.Comments.{block_at, block_far, longer-longer}
use Rattle.text_scan.proofs.parser.whitespace.block_len.Goals as goal

pub vectors-preserved : goal.vectors-preserved
vectors-preserved c =
    let bytes = c.args.bytes.now in
    let at = c.vectors.at in
    let none : c.block_ends-ends.result ≡ 0 = omega (arith, c.if-ends-ne0.false) in
    let far = block_far bytes at 32 (λ k low star slash.
    let bit = (c.block_ends-ends.ensures k).1 (low, star, slash) in
    absurd (omega (arith, subst (λ m. bit_at m k ≡ 1) none bit, bit_at-zero k))) in
    (c.vectors.invariant.0 ∙ ap (longer_by at) far ∙ longer-longer at 32 (block_length (drop (at + 32) bytes)), omega arith)

pub returns-then-ends-ne0-clause-value : goal.returns-then-ends-ne0-clause-value
returns-then-ends-ne0-clause-value c =
    let bytes = c.args.bytes.now in
    let at = c.vectors.at in
    let count = c.lowest.result in
    let reported = (c.block_ends-ends.ensures count).0 c.lowest.ensures.set in
    let few : count < 32 = reported.0 in
    let far = block_far bytes at count (λ k low star slash.
    let bit = (c.block_ends-ends.ensures k).1 (omega (arith, few, low), star, slash) in
    absurd (omega (arith, bit, c.lowest.ensures.below k low))) in
    let slash : get_or bytes (at + count + 1) 0 ≡ 47 = ap (λ n. get_or bytes n 0) (let same : at + count + 1 ≡ at + 1 + count = omega arith in same) ∙ reported.2 in
    sym (c.vectors.invariant.0 ∙ ap (longer_by at) (far ∙ ap (longer_by count) (block_at bytes (at + count) (omega (arith, few)) reported.1 slash)) ∙ longer-longer at count 2)
