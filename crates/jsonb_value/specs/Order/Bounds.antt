-- What a map has from a bound on.
use Rattle.std.specs.Prelude.{List, String}
use Rattle.std.specs.BTreeMap.Range.{entries_between}
use Rattle.std.specs.String.{string_cmp}
use Rattle.std.specs.declared.alloc.Global.{Global}
use Rattle.std.specs.declared.ops.Bound.{Bound}
use Rattle.std.specs.declared.ops.Bound.TheVariants.{Unbounded}
use Rattle.jsonb_value.specs.declared.value.Value.{Value}

-- the entries whose keys are within the bound
abbrev pub from_bound : Bound (String Global) → List (String Global × Value) → List (String Global × Value)
from_bound start es = entries_between string_cmp start Unbounded es
