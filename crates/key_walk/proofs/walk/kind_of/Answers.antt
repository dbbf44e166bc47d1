use Rattle.std.proofs.Common.{refl}
use Rattle.key_value.proofs.FirstBytes.{no_key}
use Rattle.key_walk.proofs.ByFirstByte.{kind_begins, same_as_found, no_bytes_begin, no_kind_found}
use Rattle.key_walk.proofs.walk.kind_of.Goals as goal

pub returns-in_default-clause-kind : goal.returns-in_default-clause-kind
returns-in_default-clause-kind c = λ t r more e. absurd (no_key 512 t r c.args.key.now more e c.in_default.ensures.cases)

pub returns-in_default-clause-none : goal.returns-in_default-clause-none
returns-in_default-clause-none c = (λ same. no_bytes_begin c.args.key.now c.in_default.ensures.cases, λ begins. refl)

pub returns-clause-kind : goal.returns-clause-kind
returns-clause-kind c = λ t r more e. same_as_found t c.in-Some.first.now (kind_begins t r c.in-Some.first.now c.in-Some.field-0-1.now c.args.key.now more c.in-Some.ensures.cases.0 e) c.kind_by_byte.result c.kind_by_byte.ensures

pub returns-clause-none : goal.returns-clause-none
returns-clause-none c = no_kind_found c.args.key.now c.in-Some.field-0-1.now c.in-Some.first.now c.kind_by_byte.result c.in-Some.ensures.cases.0 c.kind_by_byte.ensures
