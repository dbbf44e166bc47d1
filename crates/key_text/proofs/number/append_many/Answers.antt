use Rattle.std.proofs.Common.{◌++◌, false, map, drop, length, sym, ap, ◌∙◌, arith, length-append}
use Rattle.std.proofs.Math.Seq.{drop-append_seam}
use Rattle.jsonb_spec.specs.SortKey.{digits_key, invert_if}
use Rattle.key_text.proofs.NumberTexts.{whole_scaled}
use Rattle.key_text.proofs.number.append_many.Goals as goal

pub returns-then-append_within-clause-found : goal.returns-then-append_within-clause-found
returns-then-append_within-clause-found c = λ some C M below positive most more e.
    let f = c.in-Some.ensures.found C M below positive most more e in
    let key = map (invert_if false) (digits_key C M) in
    record {
      read = c.in-Some.count;
      row = c.encode.new.row;
      encoded = f.0;
      left = ap (λ k. drop k c.args.bytes.now) {y = length key} (omega (arith, ap length e, ap length f.1, length-append key more)) ∙ ap (drop (length key)) e ∙ drop-append_seam key more;
      appended = c.append_within.ensures.appended c.if-append_within.true ∙ ap (λ t. c.args.buf.now.items ++ t) (sym (whole_scaled c.args.front c.in-Some.count c.encode.new.row c.requires.few.0 (omega (arith, c.if-front-count.false))));
    }

pub returns-then-append_within-clause-takes : goal.returns-then-append_within-clause-takes
returns-then-append_within-clause-takes c = record {
  none = λ z. absurd (omega (arith, z, c.in-Some.ensures.shorter));
  within = omega arith;
  preserves = c.append_within.ensures.preserves;
}
