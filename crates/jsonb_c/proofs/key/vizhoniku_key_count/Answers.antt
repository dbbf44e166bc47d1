use Rattle.std.proofs.Common.{[]}
use Rattle.jsonb_spec.specs.SortKey.Found.{count_of}
use Rattle.jsonb_c.proofs.KeyParts.{all_of_it, no_fault, no_parts, parts_counted}
use Rattle.jsonb_c.proofs.key.vizhoniku_key_count.Goals as goal

pub returns-in-Ok-Some-clause-counted : goal.returns-in-Ok-Some-clause-counted
returns-in-Ok-Some-clause-counted c = λ t k. parts_counted c.in-Ok-Some.field-0 (count_of t) c.in-Ok-Some.parts c.in-Ok-Some.field-0-is (c.in-Ok-Some.ensures.counted t k.readable [] (all_of_it c.args.key.now t k))

pub returns-in-Ok-None-clause-counted : goal.returns-in-Ok-None-clause-counted
returns-in-Ok-None-clause-counted c = λ t k. no_parts c.in-Ok-None.field-0 (count_of t) 0 c.in-Ok-None.field-0-is (c.in-Ok-None.ensures.counted t k.readable [] (all_of_it c.args.key.now t k))

pub returns-in-Err-clause-counted : goal.returns-in-Err-clause-counted
returns-in-Err-clause-counted c = λ t k. absurd (no_fault _ (count_of t) (c.in-Err.ensures.counted t k.readable [] (all_of_it c.args.key.now t k)))
