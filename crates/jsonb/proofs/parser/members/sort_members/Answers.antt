use Rattle.std.proofs.Common.{◌≡◌, is_lt, ap, rules}
use Rattle.std.proofs.lemmas.List.Sorted.{ranks_by, answers_always}
use Rattle.jsonb.specs.Source.{found_of}
use Rattle.jsonb_spec.specs.Source.{spot_cmp, spot_of}
use Rattle.text_common.proofs.Repeats.{spot_cmp_total}
use Rattle.text_common.proofs.Shuffles.{ascending_from_sorted}
use Rattle.jsonb.proofs.Offsets.Views.{fuse}
use Rattle.jsonb.proofs.parser.members.sort_members.Goals as goal

pub returns-clause-ascending : goal.returns-clause-ascending
returns-clause-ascending c =
    rw (fuse found_of spot_of c.sort_unstable_by.new.self.items) (ascending_from_sorted (λ x. spot_of (found_of x)) c.sort_unstable_by.new.self.items
    (c.sort_unstable_by.ensures.sorted (λ x y. is_lt (spot_cmp (spot_of (found_of x)) (spot_of (found_of y)))) (ranks_by spot_cmp_total (λ x. spot_of (found_of x)))
    (answers_always _ _ _ (λ f a r g h. let e : r ≡ spot_cmp (spot_of (found_of a.0.now)) (spot_of (found_of a.1.0.now)) = search rules in ap is_lt e))))
