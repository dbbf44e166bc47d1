-- The number that a `Number` means, and the mark of a text.
use Rattle.std.specs.Prelude.{pos}
use Rattle.std.specs.declared.alloc.Global.{Global}
use Rattle.std.specs.declared.borrow.CowStr.{CowStr}
use Rattle.std.specs.declared.borrow.CowStr.TheVariants.{Borrowed, Owned}
use Rattle.jsonb_spec.specs.Tree.{int64, uint64, decimal64, decimal128, Num, Mark, plain, escaped}
use Rattle.jsonb_core.specs.declared.number.Number.{Number}
use Rattle.jsonb_core.specs.declared.number.Number.TheVariants as form

-- the number that a `Number` means
abbrev pub number_view : Number → Num
number_view (form.Int64 n) = record { form = int64; scale = 0; whole = n }
number_view (form.UInt64 n) = record { form = uint64; scale = 0; whole = pos n }
number_view (form.Decimal64 d) = record { form = decimal64; scale = d.scale; whole = d.value }
number_view (form.Decimal128 d) = record { form = decimal128; scale = d.scale; whole = d.value }

-- borrowed text is plain, and owned text is escaped
abbrev pub mark_view : CowStr Global → Mark
mark_view (Borrowed s) = plain
mark_view (Owned s) = escaped
