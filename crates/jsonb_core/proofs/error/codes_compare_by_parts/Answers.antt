use Rattle.jsonb_core.specs.contracts.error.ParseErrorCodeHash.TheImpl.Laws as hash_laws
use Rattle.jsonb_core.proofs.ErrorCodes.{codes_equal}
use Rattle.jsonb_core.proofs.error.codes_compare_by_parts.Goals as goal

pub returns-clause-equal : goal.returns-clause-equal
returns-clause-equal c = codes_equal c.args.left.now c.args.right.now

pub returns-clause-hash : goal.returns-clause-hash
returns-clause-hash c = λ same. hash_laws.respects_eq-law c.args.left.now c.args.right.now ((codes_equal c.args.left.now c.args.right.now).1 same)
