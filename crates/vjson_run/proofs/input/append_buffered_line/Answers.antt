use Rattle.std.proofs.Common.{subst}
use Rattle.std.specs.Io.BufRead.{FillKeeps}
use Rattle.vjson_run.proofs.Buffered.{appended, line_taken}
use Rattle.vjson_run.proofs.input.append_buffered_line.Goals as goal

pub returns-clause-bytes : goal.returns-clause-bytes
returns-clause-bytes g c = λ _.
    let rested = c.fill_buf.follows.lender-at-none in
    let filled = subst (FillKeeps _ (g.R.Read.remaining rested) (g.R.BufRead.consumable_len rested)) c.in-Ok.is c.fill_buf.follows.holds-at-none in
    appended _ c.args.buf.now.items _ _ c.in_ok-extend_from_slice.ensures.items
    (line_taken _ _ _ _ c.in-Ok.available.now c.in-Some.index c.in-Ok.ensures.front c.in-Ok.ensures.end filled.0 filled.1 c.consume.ensures.bytes c.in-Some.ensures).0

pub returns-clause-rest : goal.returns-clause-rest
returns-clause-rest g c = λ _.
    let rested = c.fill_buf.follows.lender-at-none in
    let filled = subst (FillKeeps _ (g.R.Read.remaining rested) (g.R.BufRead.consumable_len rested)) c.in-Ok.is c.fill_buf.follows.holds-at-none in
    (line_taken _ _ _ _ c.in-Ok.available.now c.in-Some.index c.in-Ok.ensures.front c.in-Ok.ensures.end filled.0 filled.1 c.consume.ensures.bytes c.in-Some.ensures).1
