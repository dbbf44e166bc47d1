use Rattle.std.proofs.Common.{◌≡◌, ◌∙◌, ◌++◌, ◌∷◌, [], ◌+◌, ap, sym, take, refl}
use Rattle.std.proofs.lemmas.List.{flat_map_more, take_more}
use Rattle.std.specs.List.{flat_map}
use Rattle.vjson_run.specs.Lines.{line_text}
use Rattle.vjson_run.proofs.Taken.{prints_more}
use Rattle.vjson_run.proofs.report.print_lines.Goals as goal

pub lines-preserved : goal.lines-preserved
lines-preserved g c =
    let line = c.line-item.result in
    let before = take c.lines.line-index c.args.lines.now in
    let next : take (c.lines.line-index + 1) c.args.lines.now ≡ before ++ line ∷ [] =
    take_more c.args.lines.now c.lines.line-index line c.lines-test.true ∙ ap (λ l. before ++ l ∷ []) (sym c.line-item.is) in
    prints_more g.W.Write.contents c.args.out.now c.lines.out (record { writer = c.lines.out.writer; bytes = c.append_line.new.out; error = c.lines.out.error }) c.flush_much.new.self
    (flat_map line_text before) (line_text line) (flat_map line_text (take (c.lines.line-index + 1) c.args.lines.now))
    c.lines.invariant refl refl
    (c.in_ok-append_line.ensures.ok ∙ ap (λ text. c.lines.out.bytes.items ++ (text ++ 10 ∷ [])) c.deref.ensures.value)
    c.flush_much.ensures.nothing
    (ap (flat_map line_text) next ∙ sym (flat_map_more line_text [] before line))
