use Rattle.text_scan.proofs.Numbers.Scanned.{ends_without_point, ends_with_point}
use Rattle.text_scan.proofs.parser.extended_number.decimal.decimal_ends.Goals as goal

pub returns-then-byte_at-ne46 : goal.returns-then-byte_at-ne46
returns-then-byte_at-ne46 c =
    ends_without_point c.args.bytes.now c.sign_end-start.result c.zeros_end-zeros_end.result c.digits_end-front_end.result c.byte_at.result c.sign_end-start.ensures.end c.zeros_end-zeros_end.ensures.end c.digits_end-front_end.ensures.end c.byte_at.ensures c.if-byte_at-ne46.true

pub returns : goal.returns
returns c =
    ends_with_point c.args.bytes.now c.sign_end-start.result c.zeros_end-zeros_end.result c.digits_end-front_end.result c.byte_at.result c.digits_end.result c.sign_end-start.ensures.end c.zeros_end-zeros_end.ensures.end c.digits_end-front_end.ensures.end c.byte_at.ensures c.if-byte_at-ne46.false c.digits_end.ensures.end
