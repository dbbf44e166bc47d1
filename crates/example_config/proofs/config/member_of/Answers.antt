use Rattle.std.proofs.Common.{refl, arith}
use Rattle.example_config.proofs.Settings.{next_passed, next_taken, taken_end}
use Rattle.example_config.proofs.config.member_of.Goals as goal

pub members-init : goal.members-init
members-init c = record { value = refl; ends = tt }

pub members-preserved-then-ne : goal.members-preserved-then-ne
members-preserved-then-ne c =
    let member = c.members-item.result in
    record {
      value = next_passed c.args.setting c.key-key.result.now c.as_str.result.now c.args.members.now c.members.name-index member (omega arith) c.members-item.is c.key-key.ensures.key c.as_str.ensures.value _ _ c.ne.ensures c.if-ne.true c.members.invariant.value;
      ends = c.members.invariant.ends;
    }

pub members-preserved : goal.members-preserved
members-preserved c =
    let member = c.members-item.result in
    record {
      value = next_taken c.args.setting c.key-key.result.now c.as_str.result.now c.args.members.now c.members.name-index member (omega arith) c.members-item.is c.key-key.ensures.key c.as_str.ensures.value _ c.ne.ensures c.if-ne.false;
      ends = taken_end c.args.setting c.key-key.result.now c.as_str.result.now c.args.members.now c.members.name-index member (omega arith) c.members-item.is c.key-key.ensures.key c.as_str.ensures.value _ c.ne.ensures c.if-ne.false;
    }
