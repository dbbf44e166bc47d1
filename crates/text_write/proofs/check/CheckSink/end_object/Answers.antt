use Rattle.text_write.proofs.Checks.{object_ended, repeat_reported}
use Rattle.text_write.proofs.check.CheckSink.end_object.Goals as goal

pub returns-then-is_none : goal.returns-then-is_none
returns-then-is_none c = record {
  holds = λ text held fs key offset cs sink.
      object_ended (record { members = c.find_repeat.new.self }) _ c.in_ok-repeat.repeat sink c.in_ok-repeat.ensures.repeat c.if-is_none.ensures c.in_ok-repeat.ensures.same c.close.ensures;
}

pub returns-else-is_none : goal.returns-else-is_none
returns-else-is_none c = record {
  holds = λ text held fs key offset cs sink.
      repeat_reported _ c.in_ok-repeat.repeat sink c.in_ok-repeat.ensures.repeat c.if-is_none.ensures;
}
