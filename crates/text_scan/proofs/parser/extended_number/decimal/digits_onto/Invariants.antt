use Rattle.std.proofs.Common.{◌≡◌, take}
use Rattle.std.specs.Str.Parse.{digits_value_after}
use Rattle.text_scan.proofs.parser.extended_number.decimal.digits_onto.Given as goal

abbrev pub invariant-loop-digit : goal.invariant-loop-digit
invariant-loop-digit l = l.all ≡ digits_value_after 10 l.number (take l.digit-index l.digits)
