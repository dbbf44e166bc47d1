-- The bytes of one read after another.
use Rattle.std.proofs.Common.{◌≡◌, ℕ, ◌+◌, ◌≤◌, List, ◌++◌, length, take, Option, Some, None, sym, ◌∙◌, ap, arith, append_assoc}
use Rattle.std.proofs.lemmas.Grind.{common_steps}
use Rattle.std.proofs.Math.Seq.{take-append-add}
use Rattle.std.specs.Io.KnownBytes.{Consumes}

-- some bytes and then more
pub Consumes-trans : (old mid new : Option (List ℕ)) (xs ys : List ℕ) → Consumes old mid xs → Consumes mid new ys → Consumes old new (xs ++ ys)
Consumes-trans None mid new xs ys first second = tt
Consumes-trans (Some all) None new xs ys first second = absurd first
Consumes-trans (Some all) (Some rest) None xs ys first second = absurd second
Consumes-trans (Some all) (Some rest) (Some left) xs ys first second =
    first ∙ ap (λ s. xs ++ s) second ∙ sym (append_assoc xs ys left)

-- the front of a buffer after a read into what is behind the first bytes of it
pub filled_front : (f n cap : ℕ) (s b p d : List ℕ) → f ≤ length s → n ≤ length b → f + n ≤ cap
    → take (f + n) (take cap ((take f s ++ (b ++ p)) ++ d)) ≡ take f s ++ take n b
filled_front f n cap s b p d inside count space = grind (arith, common_steps, take-append-add)
