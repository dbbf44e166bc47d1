use Rattle.std.proofs.Common.{arith}
use Rattle.std.proofs.lemmas.List.{take_rest}
use Rattle.text_scan.proofs.Strings.Strict.{clean_on, clean_whole}
use Rattle.text_scan.proofs.util.decoder.strict.is_clean.Goals as goal

pub rows-preserved : goal.rows-preserved
rows-preserved c =
    let bytes = c.args.bytes.now in
    (omega arith, clean_on bytes c.rows.at 16 c.rows.invariant.1 (rw (take_rest bytes c.rows.at) at c.if-not-is_clean_row.ensures))

pub returns : goal.returns
returns c = clean_whole c.args.bytes.now c.rows.at c.is_clean_end.result (omega arith) (omega arith) c.rows.invariant.1 c.is_clean_end.ensures
