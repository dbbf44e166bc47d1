use Rattle.std.proofs.Common.{◌⊎◌, ◌≤◌, ℕ, Contains, length}
use Rattle.std.specs.Vec.{vec_capacity, vec_len}
use Rattle.jsonb_spec.specs.Parsing.Memory.{MayAllocate}
use Rattle.text_scan.specs.Answer.{grammar_of}
use Rattle.jsonb_spec.specs.Text.Appending.{Extends}
use Rattle.jsonb.proofs.Lines.{LacksLeft, RejectsLeft, WritesLeft}
use Rattle.jsonb.proofs.parser.lines.write_lines.Given as goal

abbrev pub invariant-lines : goal.invariant-lines
invariant-lines l = record {
  written : WritesLeft (grammar_of l.grammar) l.text l.rest l.fn.sink.written.out.items l.sink.written.out.items;
  rejected : RejectsLeft (grammar_of l.grammar) l.text l.rest;
  retained : Extends l.fn.sink.written.out.items l.sink.written.out.items;
  within : length l.rest ≤ length l.text;
  parts : (byte : ℕ) → Contains l.rest byte → Contains l.text byte;
  capacity : MayAllocate l.text ⊎ (vec_capacity l.fn.sink.written.out ≤ vec_capacity l.sink.written.out);
  lacks : LacksLeft (grammar_of l.grammar) l.text l.rest (vec_capacity l.fn.sink.written.out) (vec_len l.fn.sink.written.out) (vec_len l.sink.written.out);
}

abbrev pub decreases-lines : goal.decreases-lines
decreases-lines l = length l.rest
