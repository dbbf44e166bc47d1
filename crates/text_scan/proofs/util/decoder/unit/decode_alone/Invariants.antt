use Rattle.std.proofs.Common.{◌≡◌, ◌+◌, ◌≤◌, length, take}
use Rattle.jsonb_spec.specs.Mode.{Mode, GoesBeyondJson}
use Rattle.jsonb_spec.specs.Parsing.Decoding.{Adds}
use Rattle.text_scan.proofs.util.decoder.unit.decode_alone.Given as goal

abbrev pub invariant-units : goal.invariant-units
invariant-units l = record {
  adds : (mode : Mode) → GoesBeyondJson mode → Adds mode l.bytes l.done.rest.now (take l.len l.initial.text) (take l.done.len l.text);
  space : l.done.len + length l.done.rest.now ≤ l.len + length l.bytes;
  shorter : length l.done.rest.now ≤ length l.bytes;
  size : length l.text ≡ length l.initial.text;
}

abbrev pub decreases-units : goal.decreases-units
decreases-units l = length l.done.rest.now
