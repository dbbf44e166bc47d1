use Rattle.std.proofs.Common.{◌≡◌, ◌≢◌, suc, ◌-◌, ◌*◌, ◌/◌, ◌%◌, ◌^◌, map, ap, ◌∙◌, arith, inl, inr}
use Rattle.std.proofs.Math.Nat.{mod-eq_of_lt}
use Rattle.std.proofs.lemmas.Bool.{cases_eq}
use Rattle.std.proofs.lemmas.List.{length-set}
use Rattle.jsonb_spec.specs.SortKey.{digits_key, invert_if}
use Rattle.jsonb_core.proofs.SortKeys.Pairs.{begin_digits, next_pair}
use Rattle.jsonb_core.proofs.number.sort_key.write_digits.Goals.{then-last-ne0, else-last-ne0, then-pair-ne0, else-pair-ne0}
use Rattle.jsonb_core.proofs.number.sort_key.write_digits.Goals as goal

pub pairs-init : goal.pairs-init
pairs-init c =
    let split = c.split_last-last in
    let count : c.args.count - 2 * ((c.args.count - 1) / 2) ≡ 2 - c.args.count % 2 = omega (arith, c.requires.some) in
    let one : split.result.0 ≢ 0 → c.if-last-ne0.more ≡ 1 = λ h. elim c.if-last-ne0.branch [ then-last-ne0 w ↦ w.more-is | else-last-ne0 w ↦ absurd (h w.if-last-ne0.false) ] in
    let none : split.result.0 ≡ 0 → c.if-last-ne0.more ≡ 0 = λ h. elim c.if-last-ne0.branch [ then-last-ne0 w ↦ absurd (w.if-last-ne0.true h) | else-last-ne0 w ↦ w.more-is ] in
    record {
      written = rw count (begin_digits c.args.negative c.args.magnitude (2 - c.args.count % 2) split.result.0 split.result.1 c.if-last-ne0.more c.invert_if.result c.args.row.now c.told-row split.ensures.last split.ensures.zero.0 split.ensures.zero.1 split.ensures.front c.invert_if.ensures one none);
      space = omega (arith, c.requires.few);
      within = omega arith;
      digits = omega (arith, c.requires.some);
      long = length-set c.args.row.now 11 c.invert_if.result ∙ c.told-row;
    }

-- a pair fits a byte, and has space in the row
pub overflow_sub-start : goal.overflow_sub-start
overflow_sub-start c =
    elim (cases_eq c.pairs.more 0) [
      | inl z ↦ omega (arith, z, c.from-start.ensures)
      | inr z ↦ omega (arith, (c.pairs.invariant.written.some z).0, c.from-start.ensures, c.pairs.invariant.space)
    ]

pub overflow_add-pair : goal.overflow_add-pair
overflow_add-pair c =
    elim (cases_eq c.pairs.more 0) [
      | inl z ↦ omega (arith, z)
      | inr z ↦ omega (arith, (c.pairs.invariant.written.some z).0)
    ]

pub bounds-row-start-in-pairs : goal.bounds-row-start-in-pairs
bounds-row-start-in-pairs c = omega (arith, c.pairs.invariant.within)

pub pairs-preserved : goal.pairs-preserved
pairs-preserved c =
    let l = c.pairs in
    let i = c.pairs.invariant in
    let count : c.args.count - 2 * (l.left - 1) ≡ suc (suc (c.args.count - 2 * l.left)) = omega (arith, i.digits, c.pairs-test.true) in
    let one : l.front % 100 ≢ 0 → c.if-pair-ne0.more ≡ 1 = λ h. elim c.if-pair-ne0.branch [ then-pair-ne0 w ↦ w.more-is | else-pair-ne0 w ↦ absurd (h w.if-pair-ne0.false) ] in
    let same : l.front % 100 ≡ 0 → c.if-pair-ne0.more ≡ l.more = λ h. elim c.if-pair-ne0.branch [ then-pair-ne0 w ↦ absurd (w.if-pair-ne0.true h) | else-pair-ne0 w ↦ w.more-is ] in
    record {
      written = rw (count, c.from-start.ensures) (next_pair c.args.negative c.args.magnitude (c.args.count - 2 * l.left) l.start l.front l.more c.invert_if-in-pairs.result c.if-pair-ne0.more l.row i.long (omega (arith, i.space)) i.within i.written c.invert_if-in-pairs.ensures one same);
      space = elim (cases_eq l.more 0) [ inl z ↦ omega (arith, z, c.from-start.ensures, i.space) | inr z ↦ omega (arith, (i.written.some z).0, c.from-start.ensures, i.space, c.pairs-test.true) ];
      within = omega (arith, i.within);
      digits = omega (arith, i.digits);
      long = length-set l.row (l.start - c.from-start.result) c.invert_if-in-pairs.result ∙ i.long;
    }

pub returns-clause-bytes : goal.returns-clause-bytes
returns-clause-bytes c =
    let i = c.pairs.invariant in
    let none : c.args.count - 2 * c.pairs.left ≡ c.args.count = omega (arith, c.pairs-test.false) in
    let all : c.args.magnitude % 10 ^ (c.args.count - 2 * c.pairs.left) ≡ c.args.magnitude = ap (λ n. c.args.magnitude % 10 ^ n) none ∙ mod-eq_of_lt c.requires.below in
    i.written.bytes ∙ (λ k. map (invert_if c.args.negative) (digits_key (none k) (all k)))

pub returns-clause-space : goal.returns-clause-space
returns-clause-space c = (omega (arith, c.pairs.invariant.space), omega (arith, c.pairs.invariant.within))
