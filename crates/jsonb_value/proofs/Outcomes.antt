-- What an outcome says where it is an error.
use Rattle.std.proofs.Common.{Result, Ok, Err, IfOk}
use Rattle.std.specs.Prelude.{IsErr}

-- nothing of a value
pub no_ok : {T E : Type 0} (r : Result T E) (P : T → Type 0) → IsErr r → IfOk r P
no_ok (Ok x) P is = cc
no_ok (Err e) P is = tt
