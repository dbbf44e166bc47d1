-- Which kind is that of numbers.
use Rattle.std.specs.Prelude.{Bool, true, false}
use Rattle.key_walk.specs.declared.walk.Kind.{Kind}
use Rattle.key_walk.specs.declared.walk.Kind.TheVariants as kinds

-- whether a kind is that of numbers
abbrev pub is_number : Kind → Bool
is_number kinds.Number = true
is_number kind = false
