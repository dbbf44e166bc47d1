use Rattle.std.proofs.Common.{◌≡◌, ◌++◌, List, ℕ, sym, ap, ◌∙◌}
use Rattle.std.proofs.lemmas.List.{append-nil}
use Rattle.jsonb_spec.specs.Text.NumberText.{number_text}
use Rattle.jsonb_core.specs.View.{number_view}
use Rattle.text_write.specs.Written.{bytes_of}
use Rattle.text_write.proofs.written.Written.append_number.Goals as goal

pub returns-clause-bytes : goal.returns-clause-bytes
returns-clause-bytes c =
    let flushed = c.in_ok-flush.ensures in
    let out : List ℕ = c.append_number.new.buf.items in
    let there : bytes_of c.go_on.new.self ≡ out = c.go_on.ensures.bytes ∙ ap (λ (u : List ℕ). out ++ u) flushed.empty ∙ append-nil out in
    there ∙ c.in_ok-append_number.ensures.appends.ok
    ∙ ap (λ (u : List ℕ). u ++ number_text (number_view c.args.number.now)) (sym flushed.copied ∙ flushed.bytes)
