use Rattle.std.proofs.Common.{◌≡◌, ◌+◌, drop, inl, inr, sym, ap, ◌∙◌, arith}
use Rattle.jsonb_spec.specs.Parsing.Whitespace.{block_length, longer_by}
use Rattle.text_scan.proofs.Text.Comments.{block_at, block_none, block_past, longer-longer}
use Rattle.text_scan.proofs.parser.whitespace.short_block_len.Goals as goal
use Rattle.text_scan.proofs.parser.whitespace.short_block_len.Goals.{else-bytes-at-eq42-via-then-bytes-at-eq42+else-bytes-at-eq47, else-bytes-at-eq42-via-else-bytes-at-eq42}

pub returns-then-bytes-at-eq47-clause-value : goal.returns-then-bytes-at-eq47-clause-value
returns-then-bytes-at-eq47-clause-value c =
    sym (c.bytes.invariant.0 ∙ ap (longer_by c.bytes.at) (block_at c.args.bytes.now c.bytes.at (omega arith) c.if-bytes-at-eq42.true c.if-bytes-at-eq47.true))

pub bytes-preserved : goal.bytes-preserved
bytes-preserved c =
    let bytes = c.args.bytes.now in
    let at = c.bytes.at in
    let past : block_length (drop at bytes) ≡ longer_by 1 (block_length (drop (at + 1) bytes)) = elim c.else-bytes-at-eq42.branch [
      | else-bytes-at-eq42-via-then-bytes-at-eq42+else-bytes-at-eq47 w ↦ block_past bytes at (inr w.if-bytes-at-eq47.false)
      | else-bytes-at-eq42-via-else-bytes-at-eq42 w ↦ block_past bytes at (inl w.if-bytes-at-eq42.false)
    ] in
    (c.bytes.invariant.0 ∙ ap (longer_by at) past ∙ longer-longer at 1 (block_length (drop (at + 1) bytes)), omega arith)

pub returns-clause-value : goal.returns-clause-value
returns-clause-value c = sym (c.bytes.invariant.0 ∙ ap (longer_by c.bytes.at) (block_none c.args.bytes.now c.bytes.at (omega arith)))
