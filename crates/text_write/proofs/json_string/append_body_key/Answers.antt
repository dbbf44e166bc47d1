use Rattle.std.proofs.Common.{◌++◌, ◌∷◌, [], List, ℕ, take, ap, ap₂, sym, ◌∙◌, append_assoc}
use Rattle.std.specs.List.{flat_map}
use Rattle.jsonb_spec.specs.SortKey.{byte_key, text_key}
use Rattle.text_members.proofs.Outcomes.{on_ok}
use Rattle.text_write.proofs.JsonStrings.{as_they_are, json_decoded}
use Rattle.text_write.proofs.json_string.append_body_key.Goals as goal

pub returns-then-branch-clause-bytes : goal.returns-then-branch-clause-bytes
returns-then-branch-clause-bytes c =
    on_ok c.append_end.result c.append_end.ensures.bytes (λ w text short.
    let old : List ℕ = c.args.out.now.items in
    let done = rw c.if-branch.true at (c.in_ok-append_row.ensures.done text short) in
    w ∙ ap (λ xs. xs ++ 0 ∷ 1 ∷ []) (done.0 ∙ ap (λ xs. old ++ xs) (as_they_are text ∙ sym done.1)) ∙ append_assoc old (flat_map byte_key text) (0 ∷ 1 ∷ []))

pub returns-clause-bytes : goal.returns-clause-bytes
returns-clause-bytes c =
    on_ok c.append_contents_key.result c.append_contents_key.ensures.bytes (λ w text short.
    let back = rw c.if-branch.false at (c.in_ok-append_row.ensures.done text short) in
    let meant = json_decoded (take c.args.count c.args.bytes.now) text short in
    w meant.0 ∙ ap₂ (λ xs ys. xs ++ text_key ys) back meant.1)
