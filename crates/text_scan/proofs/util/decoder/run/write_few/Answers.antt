use Rattle.std.proofs.Common.{◌+◌, ◌≡◌, ◌++◌, take, length, sym, ap, subst, ◌∙◌, arith}
use Rattle.std.proofs.lemmas.List.{length-take-le, take-take}
use Rattle.text_scan.proofs.Strings.ByteMasks.{cut_back}
use Rattle.text_scan.proofs.util.decoder.run.write_few.Goals as goal

pub returns-clause-written : goal.returns-clause-written
returns-clause-written c =
    let old = take c.args.len c.args.text.now in
    let bytes = c.args.bytes.now in
    let count = c.args.count in
    let size : length old ≡ c.args.len = length-take-le c.args.len c.args.text.now (omega (arith, c.requires.space)) in
    let cut : take (c.args.len + count) (old ++ take 16 bytes) ≡ old ++ take count bytes =
    subst (λ n. take (n + count) (old ++ take 16 bytes) ≡ old ++ take count bytes) size (cut_back old bytes count 16 c.requires.few c.requires.enough) in
    sym (take-take (c.args.len + count) (c.args.len + 16) c.write_sixteen.new.text (omega (arith, c.requires.few)))
    ∙ ap (take (c.args.len + count)) c.write_sixteen.ensures.written ∙ cut
