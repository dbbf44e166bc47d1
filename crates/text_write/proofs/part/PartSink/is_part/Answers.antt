use Rattle.std.proofs.Common.{◌≡◌, [], MatchBool, Some, length, subst, sym}
use Rattle.std.proofs.Math.Dec.{leb}
use Rattle.text_write.specs.PartSink.{keys_of, rest_at}
use Rattle.text_write.proofs.PartPaths.{whole_path}
use Rattle.text_write.proofs.part.PartSink.is_part.Goals as goal

pub returns-in-Some : goal.returns-in-Some
returns-in-Some c =
    subst (λ level. MatchBool (leb (length c.args.self.now.path.now) c.in-Some.level) (rest_at (keys_of c.args.self.now) level ≡ Some []) (rest_at (keys_of c.args.self.now) level ≡ Some [] → ⊥)) (sym c.in-Some.is)
    (whole_path c.args.self.now.path.now c.in-Some.level)
