use Rattle.std.proofs.Common.{◌≤◌, length, map, string_bytes}
use Rattle.key_edit.proofs.Located.{WalksWithin}
use Rattle.key_edit.proofs.slot.part_from.Given as goal

abbrev pub invariant-names : goal.invariant-names
invariant-names l = record { walks : WalksWithin l.key (map string_bytes l.names) (map string_bytes l.left) l.part l.depth_left; depth_left : l.depth_left ≤ 512 }

abbrev pub decreases-names : goal.decreases-names
decreases-names l = length l.left
