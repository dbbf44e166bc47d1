use Rattle.std.proofs.Common.{arith}
use Rattle.jsonb_path.proofs.Encoding.{keys_step}
use Rattle.jsonb_path.proofs.append.append_path.Goals as goal

pub keys-preserved : goal.keys-preserved
keys-preserved c = keys_step c.args.path.now.items c.keys.path.items c.append_step.new.path.items c.args.keys.now c.keys.key-index c.key-item.result c.as_bytes.result.now (omega arith) c.key-item.is c.keys.invariant c.as_bytes.ensures.value c.in_ok-append_step.ensures
