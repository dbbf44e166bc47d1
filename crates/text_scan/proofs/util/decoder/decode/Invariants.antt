use Rattle.std.proofs.Common.{◌≡◌, ◌+◌, ◌≤◌, length, take}
use Rattle.text_scan.specs.Answer.{mode_of}
use Rattle.jsonb_spec.specs.Parsing.Decoding.{Adds}
use Rattle.text_scan.proofs.util.decoder.decode.Given as goal

abbrev pub invariant-items : goal.invariant-items
invariant-items l =
    Adds (mode_of l.mode) l.bytes l.done.rest.now (take l.len l.initial.text) (take l.done.len l.text) × (l.done.len + length l.done.rest.now ≤ length l.text)
    × (length l.text ≡ length l.initial.text)

abbrev pub decreases-items : goal.decreases-items
decreases-items l = length l.done.rest.now
