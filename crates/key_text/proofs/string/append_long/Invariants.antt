use Rattle.std.proofs.Common.{◌≤◌, length, take}
use Rattle.jsonb_spec.specs.Text.StringText.{ArePlain}
use Rattle.jsonb_spec.specs.SortKey.Text.{Preserves}
use Rattle.key_text.proofs.Strings.{WritesInside}
use Rattle.key_text.proofs.string.append_long.Given as goal

-- what is left to write is the text of what is left
abbrev pub invariant-runs : goal.invariant-runs
invariant-runs l = record {
  writes : WritesInside l.colon l.bytes l.rest l.fn.buf.items l.buf.items;
  preserves : Preserves l.fn.buf l.buf;
  within : length l.rest ≤ length l.bytes;
  inside : l.run ≤ length l.rest;
  plain : ArePlain (take l.run l.rest);
}

abbrev pub decreases-runs : goal.decreases-runs
decreases-runs l = length l.rest
