use Rattle.std.proofs.Common.{[]}
use Rattle.jsonb_c.proofs.Contained.{contained, not_contained, no_answer}
use Rattle.jsonb_c.proofs.KeyParts.{all_of_it}
use Rattle.jsonb_spec.specs.Containment.{contains}
use Rattle.jsonb_c.proofs.key_contains.vizhoniku_key_contains.Goals as goal

pub returns-in-Ok-true-clause-contained : goal.returns-in-Ok-true-clause-contained
returns-in-Ok-true-clause-contained c = λ t u k m. contained c.in-Ok-true.field-0 (contains t u) c.in-Ok-true.field-0-test (c.in-Ok-true.ensures t u k.readable m.readable [] [] (all_of_it c.args.key.now t k) (all_of_it c.args.other.now u m))

pub returns-in-Ok-false-clause-contained : goal.returns-in-Ok-false-clause-contained
returns-in-Ok-false-clause-contained c = λ t u k m. not_contained c.in-Ok-false.field-0 (contains t u) c.in-Ok-false.field-0-test (c.in-Ok-false.ensures t u k.readable m.readable [] [] (all_of_it c.args.key.now t k) (all_of_it c.args.other.now u m))

pub returns-in-Err-clause-contained : goal.returns-in-Err-clause-contained
returns-in-Err-clause-contained c = λ t u k m. absurd (no_answer _ (contains t u) (c.in-Err.ensures t u k.readable m.readable [] [] (all_of_it c.args.key.now t k) (all_of_it c.args.other.now u m)))
