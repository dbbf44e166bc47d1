use Rattle.std.proofs.Common.{arith, ap, sym, ◌∙◌, ◌+◌, ◌-◌, ◌∷◌, [], drop, length, take}
use Rattle.std.proofs.lemmas.List.{drop_all, length-drop, take_all}
use Rattle.jsonb_spec.specs.Parsing.Lines.{lines_of}
use Rattle.jsonb.proofs.Lines.{in_parts, in_whole, line_ends, line_is_last}
use Rattle.jsonb.proofs.parser.lines.split_line.Goals as goal

pub returns-in-Some-clause-lines : goal.returns-in-Some-clause-lines
returns-in-Some-clause-lines c =
    let bytes = c.args.bytes.now in
    let end = c.in-Some.end in
    let rest = drop (end + 1) bytes in
    let all = take_all (length bytes - (end + 1)) rest (omega (arith, length-drop (end + 1) bytes)) in
    line_ends bytes end c.in-Some.ensures.0.high c.in-Some.ensures.1 (λ k below feed. c.in-Some.ensures.0.before k (omega arith) below feed) ∙ ap (λ rest. take end bytes ∷ lines_of rest) (sym all)

pub returns-in-None-clause-lines : goal.returns-in-None-clause-lines
returns-in-None-clause-lines c =
    let bytes = c.args.bytes.now in
    let line = c.split_at.result.0.now in
    let whole = c.split_at.ensures.front ∙ take_all (length bytes) bytes (omega arith) in
    let none = c.split_at.ensures.back ∙ drop_all (length bytes) bytes (omega arith) in
    line_is_last bytes (omega (arith, c.requires)) (λ k below feed. c.in-None.ensures k (omega arith) below feed)
    ∙ ap (λ l. l ∷ []) (sym whole) ∙ ap (λ rest. line ∷ lines_of rest) (sym none)

pub returns-in-Some-clause-parts : goal.returns-in-Some-clause-parts
returns-in-Some-clause-parts c =
    let bytes = c.args.bytes.now in
    let end = c.in-Some.end in
    λ byte. in_parts end (end + 1) (length bytes - (end + 1)) bytes byte

pub returns-in-None-clause-parts : goal.returns-in-None-clause-parts
returns-in-None-clause-parts c = λ byte. in_whole (length c.args.bytes.now) c.args.bytes.now c.split_at.result.0.now c.split_at.result.1.now byte c.split_at.ensures.front c.split_at.ensures.back
