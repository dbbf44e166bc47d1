use Rattle.std.proofs.Common.{◌≡◌, ◌++◌, List, ℕ, take, drop, length, ap₂, ◌∙◌, arith}
use Rattle.std.proofs.Math.Seq.{drop-append_seam, take-append_seam}
use Rattle.jsonb_spec.specs.SortKey.{text_key}
use Rattle.text_members.proofs.Outcomes.{on_ok}
use Rattle.text_scan.specs.Answer.{mode_of}
use Rattle.jsonb_spec.specs.Parsing.Contents.{decoded_text}
use Rattle.text_write.proofs.escaped_key.append_contents_key.Goals as goal

pub returns-clause-bytes : goal.returns-clause-bytes
returns-clause-bytes c =
    on_ok c.close_text.result c.close_text.ensures.bytes (λ closed contents.
    let old : List ℕ = c.args.out.now.items in
    let text = decoded_text (mode_of c.args.mode) c.args.body.now in
    let is : c.len-from.result ≡ length old = omega (arith, c.len-from.ensures, c.args.out.now.ok.0) in
    let added = c.in_ok-append_decoded.ensures.bytes contents in
    closed ∙ ap₂ (λ n xs. take n xs ++ text_key (drop n xs)) is added ∙ ap₂ (λ xs ys. xs ++ text_key ys) (take-append_seam old text) (drop-append_seam old text))
