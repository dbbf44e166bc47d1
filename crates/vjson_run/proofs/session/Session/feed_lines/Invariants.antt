use Rattle.vjson_run.proofs.Fed.{HasFed}
use Rattle.vjson_run.proofs.session.Session.feed_lines.Given as goal

-- the texts of the lines that are read are taken, and those of what is left are not
abbrev pub invariant-lines : goal.invariant-lines
invariant-lines g l = HasFed g.W.Write.contents (g.R.Read.remaining l.fn.input) l.fn.self (g.R.Read.remaining l.input) l.self
