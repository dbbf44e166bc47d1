-- The zeros of a step of a merge, from those of its bytes on both sides.
use Rattle.std.proofs.Common.{◌≡◌, ℕ, ◌+◌, ◌<◌, ◌≤◌, List, ◌++◌, length, take, Result, Ok, Err, sym, ap, ◌∙◌, arith, length-append}
use Rattle.std.specs.Prelude.{IsErrAnd, Vec, vec_len, vec_capacity}
use Rattle.std.specs.declared.alloc.Global.{Global}
use Rattle.std.proofs.lemmas.List.{length-take-le}
use Rattle.key_document.specs.Merging.{CopiesStep, taken_counts}
use Rattle.key_document.specs.declared.error.DocumentError.{DocumentError}
use Rattle.key_document.specs.declared.error.DocumentError.TheVariants.{OutOfMemory}
use Rattle.key_document.specs.declared.merge.Merging.{Merging}
use Rattle.key_document.proofs.Joining.{plain_bound}
use Rattle.jsonb_spec.specs.Document.Zeros.{plain_at_end, zeros_of}
use Rattle.key_zeros.proofs.Joining.{plain_joined, zeros_joined}

-- why a step isn't copied
pub lacks_step : (r : Result Merging DocumentError) (error : DocumentError) (old new : Vec ℕ Global) (run replaced part plain : ℕ) (xs ys : List ℕ) → IsErrAnd r (λ e. e ≡ error) → error ≡ OutOfMemory
    → vec_capacity old < vec_len old + length (zeros_of plain (taken_counts run part xs ys)) → CopiesStep run replaced part plain xs ys r old new
lacks_step (Ok m) error old new run replaced part plain xs ys h is full = absurd h
lacks_step (Err e) error old new run replaced part plain xs ys h is full = (h ∙ is, full)

module _ (run part plain mid : ℕ) (xs ys : List ℕ) (ends : mid ≡ plain_at_end plain (take run xs)) where
  -- the zeros of both are those of the one side, and then those of the other
  pub step_zeros : zeros_of plain (taken_counts run part xs ys) ≡ zeros_of plain (take run xs) ++ zeros_of mid (take part ys)
  step_zeros = zeros_joined plain (take run xs) (take part ys) ∙ ap (λ n. zeros_of plain (take run xs) ++ zeros_of n (take part ys)) (sym ends)

  pub step_plain : plain_at_end mid (take part ys) ≡ plain_at_end plain (taken_counts run part xs ys)
  step_plain = ap (λ n. plain_at_end n (take part ys)) ends ∙ sym (plain_joined plain (take run xs) (take part ys))

  pub mid_within : run ≤ length xs → mid ≤ plain + run
  mid_within long = omega (arith, ends, plain_bound plain (take run xs), length-take-le run xs long)

pub first_zeros : (run part plain : ℕ) (xs ys : List ℕ) → length (zeros_of plain (take run xs)) ≤ length (zeros_of plain (taken_counts run part xs ys))
first_zeros run part plain xs ys = omega (arith, ap length (zeros_joined plain (take run xs) (take part ys)), length-append (zeros_of plain (take run xs)) (zeros_of (plain_at_end plain (take run xs)) (take part ys)))
