use Rattle.std.proofs.Common.{◌≡◌, ◌+◌, ◌*◌, ◌≤◌, ◌++◌, length, take, vec_len}
use Rattle.std.specs.Vec.{vec_capacity}
use Rattle.jsonb_spec.specs.Text.BinaryText.{binary_text}
use Rattle.jsonb_value.proofs.extension.text.append_binary.Given as goal

-- the digits so far are written, and there is space for all of them
abbrev pub invariant-bytes : goal.invariant-bytes
invariant-bytes l = record {
  written : l.buf.items ≡ l.fn.buf.items ++ binary_text (take l.byte-index l.bytes);
  space : vec_len l.fn.buf + length l.bytes * 2 ≤ vec_capacity l.buf;
  capacity : vec_capacity l.fn.buf ≤ vec_capacity l.buf;
}
