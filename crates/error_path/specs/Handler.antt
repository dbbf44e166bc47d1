-- What is known of the values of a text that is passed.
use Rattle.jsonb_spec.specs.Source.{Source}

-- a value is any value
abbrev pub IsAnyValue : {V : Type 0} → V → Source → Type 0
IsAnyValue v s = Unit {0}
