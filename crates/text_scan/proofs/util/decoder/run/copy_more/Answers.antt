use Rattle.std.proofs.Common.{◌≡◌, ◌+◌, ◌-◌, ◌<◌, length-drop, length, take, drop, sym, ap, ◌∙◌, arith}
use Rattle.std.proofs.lemmas.List.{take_rest}
use Rattle.text_scan.proofs.Strings.ByteMasks.{clear_more, next_more, copied_more}
use Rattle.text_scan.proofs.util.decoder.run.copy_more.Goals as goal

pub returns-clause-before : goal.returns-clause-before
returns-clause-before c =
    let bytes = c.args.bytes.now in
    clear_more bytes (take (length bytes - 16) (drop 16 bytes)) c.copy_near.result (take_rest bytes 16) c.requires.clear c.copy_near.ensures.before

pub returns-clause-here : goal.returns-clause-here
returns-clause-here c inside =
    let bytes = c.args.bytes.now in
    let others = take (length bytes - 16) (drop 16 bytes) in
    let more : c.copy_near.result < length others = omega (arith, inside, ap length (take_rest bytes 16), length-drop 16 bytes) in
    sym (next_more bytes others c.copy_near.result (take_rest bytes 16)) ∙ c.copy_near.ensures.here more

pub returns-clause-written : goal.returns-clause-written
returns-clause-written c =
    let bytes = c.args.bytes.now in
    let same : c.args.len + (16 + c.copy_near.result) ≡ (c.args.len + 16) + c.copy_near.result = omega arith in
    ap (λ n. take n c.copy_near.new.text) same
    ∙ copied_more bytes (take (length bytes - 16) (drop 16 bytes)) (take c.args.len c.args.text.now) _ _ c.copy_near.result c.requires.long (take_rest bytes 16) c.write_sixteen.ensures.written c.copy_near.ensures.written
