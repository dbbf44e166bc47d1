use Rattle.std.proofs.Common.{◌++◌, take, ap, ap₂, ◌∙◌}
use Rattle.std.specs.List.{flat_map}
use Rattle.jsonb_spec.specs.Text.StringText.{byte_text}
use Rattle.text_members.proofs.Outcomes.{on_ok}
use Rattle.text_write.proofs.JsonStrings.{json_decoded, with_escapes}
use Rattle.text_write.proofs.json_string.append_body.Goals as goal

pub returns-then-branch-clause-bytes : goal.returns-then-branch-clause-bytes
returns-then-branch-clause-bytes c = λ text short.
    let done = rw c.if-branch.true at (c.in_ok-append_row.ensures.done text short) in
    done.0 ∙ ap (λ xs. c.args.out.now.items ++ xs) (with_escapes text)

pub returns-clause-bytes : goal.returns-clause-bytes
returns-clause-bytes c =
    on_ok c.append_contents.result c.append_contents.ensures.bytes (λ w text short.
    let back = rw c.if-branch.false at (c.in_ok-append_row.ensures.done text short) in
    let meant = json_decoded (take c.args.count c.args.bytes.now) text short in
    w meant.0 ∙ ap₂ (λ xs ys. xs ++ flat_map byte_text ys) back meant.1)
