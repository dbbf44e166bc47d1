use Rattle.std.proofs.Common.{◌≤◌, length, map, string_bytes}
use Rattle.key_walk.proofs.Occurrence.{WalksPath}
use Rattle.key_walk.proofs.find.find_part.Given as goal

abbrev pub invariant-names : goal.invariant-names
invariant-names l = record { walks : WalksPath l.key (map string_bytes l.names) (map string_bytes l.left) l.part; within : length l.part ≤ length l.key }

abbrev pub decreases-names : goal.decreases-names
decreases-names l = length l.left
