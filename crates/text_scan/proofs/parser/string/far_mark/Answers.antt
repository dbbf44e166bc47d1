use Rattle.std.proofs.Common.{◌+◌, length, Some, None, subst, arith}
use Rattle.std.proofs.lemmas.List.{length-drop, take_rest}
use Rattle.memchr.specs.Find.{IsFirstByte, is_byte2}
use Rattle.text_scan.proofs.Strings.Bodies.{clear_from}
use Rattle.text_scan.proofs.parser.string.far_mark.Goals as goal

pub returns-in-Some-clause-before : goal.returns-in-Some-clause-before
returns-in-Some-clause-before c =
    let first = subst (λ from. IsFirstByte (is_byte2 c.args.quote 92) from (Some c.in-Some.count)) (take_rest c.args.bytes.now c.args.at) c.in-Some.ensures in
    clear_from c.args.quote c.args.bytes.now c.args.at (c.args.at + c.in-Some.count) (λ k low high. first.0.before k low (omega (arith, high)))

pub returns-in-None-clause-before : goal.returns-in-None-clause-before
returns-in-None-clause-before c =
    let none = subst (λ from. IsFirstByte (is_byte2 c.args.quote 92) from None) (take_rest c.args.bytes.now c.args.at) c.in-None.ensures in
    clear_from c.args.quote c.args.bytes.now c.args.at (length c.args.bytes.now) (λ k low high. none k low (omega (arith, high, length-drop c.args.at c.args.bytes.now)))
