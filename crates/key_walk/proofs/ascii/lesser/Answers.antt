use Rattle.std.proofs.Common.{ℕ, cond, ltb}
use Rattle.key_walk.proofs.LesserBytes.{none_in_both, top_of}
use Rattle.key_walk.proofs.ascii.lesser.Goals as goal

pub returns : goal.returns
returns c = none_in_both (λ (a b : ℕ). cond (ltb a b) 255 0) (λ a b. top_of (ltb a b)) c.args.first c.args.second 16 c.fits-first.0 c.fits-second.0
