-- Errors of calls that append.
use Rattle.std.proofs.Common.{◌≡◌, ℕ, ◌+◌, ◌<◌, List, Result, Ok, Err, length}
use Rattle.std.specs.Prelude.{IsErrAnd, Vec, vec_len, vec_capacity}
use Rattle.std.specs.declared.alloc.Global.{Global}
use Rattle.key_zeros.specs.Appending.{AppendsOr}
use Rattle.key_zeros.specs.declared.error.ZerosError.{ZerosError}

-- there is this error, and there was no space
pub or_error : {X : Type 0} (error : ZerosError) (r : Result X ZerosError) (old new : Vec ℕ Global) (bytes : List ℕ) → IsErrAnd r (λ e. e ≡ error) → vec_capacity old < vec_len old + length bytes → AppendsOr error r old new bytes
or_error error (Ok x) old new bytes h full = absurd h
or_error error (Err e) old new bytes h full = (h, full)
