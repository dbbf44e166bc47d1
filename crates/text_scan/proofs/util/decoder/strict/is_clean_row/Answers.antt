use Rattle.std.proofs.lemmas.List.{take_rest}
use Rattle.text_scan.proofs.Strings.Strict.{clean_row}
use Rattle.text_scan.proofs.util.decoder.strict.is_clean_row.Goals as goal

pub returns : goal.returns
returns c =
    let bytes = c.args.bytes.now in
    clean_row c.low_bits-low.result c.near_bits-letters.result c.near_bits-braces.result bytes c.low_bits-low.ensures c.near_bits-letters.ensures (rw (take_rest bytes 1) at c.near_bits-braces.ensures)
