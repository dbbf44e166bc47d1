-- Numbers that are written by their digits in a text.
use Rattle.std.specs.Prelude.{◌≢◌, pos}
use Rattle.jsonb_core.specs.declared.number.Number.{Number}
use Rattle.jsonb_core.specs.declared.number.Number.TheVariants as form

-- It is an integer, but no zero that may have a minus.
abbrev pub StaysEncoded : Number → Type 0
StaysEncoded (form.UInt64 n) = Unit {0}
StaysEncoded (form.Int64 n) = n ≢ pos 0
StaysEncoded n = ⊥
