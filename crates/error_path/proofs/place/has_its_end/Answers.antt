use Rattle.std.proofs.Common.{◌≡◌, ℕ, List, ◌∷◌, ◌++◌, sym, ap₂, ◌∙◌, drop, take, length, arith, take-append-drop}
use Rattle.error_path.proofs.place.has_its_end.Goals as goal

pub returns-in-Ok : goal.returns-in-Ok
returns-in-Ok c = λ others is.
    let document = c.in-Ok.ensures.document in
    let split = c.split_at.ensures in
    record { front = c.split_at.result.0.now; rest = c.split_at.result.1.now; tree = document.0; whole = split.by_index.0; some = omega (arith, split.front_len); document = document.1.document }
