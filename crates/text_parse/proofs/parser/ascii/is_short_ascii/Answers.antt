use Rattle.std.proofs.Common.{◌-◌, arith, length, refl, rules}
use Rattle.std.proofs.lemmas.List.{take_rest}
use Rattle.text_parse.proofs.Ascii.{IsLesser, four_windows, window}
use Rattle.text_parse.proofs.parser.ascii.is_short_ascii.Goals as goal

pub returns : goal.returns
returns c all =
    let bytes = c.args.bytes.now in
    let last = length bytes - 16 in
    let second : IsLesser c.min.result last 16 = search rules in
    let third : IsLesser c.min-2.result last 32 = search rules in
    four_windows bytes c.min.result c.min-2.result last (omega (arith, c.requires.least)) (omega (arith, c.requires.most)) second third
    (window bytes bytes 0 refl (c.begins_ascii.ensures (search rules)))
    (window bytes _ c.min.result (take_rest bytes c.min.result) (c.begins_ascii-2.ensures (search rules)))
    (window bytes _ c.min-2.result (take_rest bytes c.min-2.result) (c.begins_ascii-3.ensures (search rules)))
    (window bytes _ last (take_rest bytes last) (c.begins_ascii-4.ensures all))
