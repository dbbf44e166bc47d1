use Rattle.std.proofs.Common.{◌≡◌, ◌-◌, drop, map}
use Rattle.jsonb.specs.Source.{found_of}
use Rattle.jsonb_spec.specs.Source.{adjacent_repeat, spot_of}
use Rattle.jsonb.proofs.parser.members.settle_members.Given as goal

abbrev pub invariant-loop-i : goal.invariant-loop-i
invariant-loop-i l = adjacent_repeat (map spot_of (map found_of l.members.items)) ≡ adjacent_repeat (drop (l.i - 1) (map spot_of (map found_of l.members.items)))
