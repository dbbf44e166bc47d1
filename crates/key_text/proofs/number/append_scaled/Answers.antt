use Rattle.std.proofs.Common.{subst, sym, arith}
use Rattle.jsonb_spec.specs.Text.Appending.{Appends}
use Rattle.key_text.proofs.NumberTexts.{no_point, point_inside, point_before}
use Rattle.key_text.proofs.number.append_scaled.Goals as goal

pub returns-then-front-count : goal.returns-then-front-count
returns-then-front-count c =
    subst (Appends c.append_row.result c.args.buf.now c.append_row.new.buf) (sym (no_point c.args.exponent c.args.count c.args.row.now (omega arith) (omega arith))) c.append_row.ensures

pub returns-then-exponent-gt255 : goal.returns-then-exponent-gt255
returns-then-exponent-gt255 c =
    subst (Appends c.append_with_point.result c.args.buf.now c.append_with_point.new.buf) (sym (point_inside c.args.exponent c.args.count c.args.row.now (omega arith) (omega arith))) c.append_with_point.ensures

pub returns : goal.returns
returns c =
    subst (Appends c.append_fraction.result c.args.buf.now c.append_fraction.new.buf) (sym (point_before c.args.exponent c.args.count c.args.row.now (omega arith))) c.append_fraction.ensures
