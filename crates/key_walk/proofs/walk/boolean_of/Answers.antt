use Rattle.key_value.proofs.FirstBytes.{no_key}
use Rattle.key_walk.proofs.ByFirstByte.{boolean_as_found}
use Rattle.key_walk.proofs.walk.boolean_of.Goals as goal

pub returns-in_err-first : goal.returns-in_err-first
returns-in_err-first c = record { boolean = λ t r more e. absurd (no_key 512 t r c.args.key.now more e c.in_err-first.ensures.cases) }

pub returns : goal.returns
returns c = record { boolean = λ t r more e. boolean_as_found t r c.in_ok-first.first.now c.in_ok-first.field-0-1.now c.args.key.now more c.in_ok-first.ensures.cases.0 e c.boolean_by_byte.result c.boolean_by_byte.ensures }
