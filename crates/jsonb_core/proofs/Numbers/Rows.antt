-- The text of a decimal in a row of 64 bytes, at whose end its digits are.
use Rattle.std.proofs.Common.{◌≡◌, ℕ, Bool, false, ◌+◌, ◌-◌, ◌<◌, ◌≤◌, List, ◌∷◌, ◌++◌, length, take, drop, set, replicate, refl, sym, ap, ◌∙◌, arith, eqb}
use Rattle.std.proofs.lemmas.Bool.Decides.{nat_tests}
use Rattle.std.proofs.lemmas.List.{append-nil, append_assoc, drop_all, drop-append-le, drop-drop, drop-replicate, drop-set, drop-set-add, length-drop, length-replicate, length-take-le, set-append_right, take-append-drop, take-replicate}
use Rattle.std.specs.Fmt.{decimal, sign_text}
use Rattle.std.specs.Int.{is_negative}
use Rattle.std.specs.Prelude.{unsigned_abs}
use lib.Seq.{paste}
use Rattle.jsonb_spec.specs.Text.NumberText.{number_text, text_of_parts, with_point, zero_padded}
use Rattle.jsonb_spec.specs.Tree.{Num}
use Rattle.jsonb_core.proofs.Numbers.Pointed.{zero_padded-enough}

-- the digits alone
pub row_digits : (n : ℕ) (ds old new : List ℕ) → old ≡ replicate 64 48 → drop n new ≡ ds ++ drop 64 old → drop n new ≡ ds
row_digits n ds old new zeros written = written ∙ ap (λ (o : List ℕ). ds ++ drop 64 o) zeros ∙ append-nil ds

-- the digits are enough
pub padded_enough : (scale n : ℕ) (ds new : List ℕ) → n + length ds ≡ 64 → n + scale < 64 → drop n new ≡ ds → drop n new ≡ zero_padded (scale + 1) ds
padded_enough scale n ds new ends some written = written ∙ sym (zero_padded-enough (scale + 1) ds (omega (arith, ends, some)))

-- zeros are before them
pub padded_zeros : (scale n : ℕ) (ds old new : List ℕ) → scale ≤ 38 → old ≡ replicate 64 48 → n + length ds ≡ 64 → 64 ≤ n + scale → drop n new ≡ ds → take n new ≡ take n old → drop (63 - scale) new ≡ zero_padded (scale + 1) ds
unfolding zero_padded
padded_zeros scale n ds old new few zeros ends none written before =
    let front : take n new ≡ replicate n 48 = before ∙ ap (take n) zeros ∙ take-replicate n 64 48 (omega (arith, ends)) in
    let whole : new ≡ replicate n 48 ++ ds = sym (take-append-drop n new) ∙ ap (λ (u : List ℕ). u ++ drop n new) front ∙ ap (λ (u : List ℕ). replicate n 48 ++ u) written in
    let count : n - (63 - scale) ≡ scale + 1 - length ds = omega (arith, few, ends, none) in
    ap (drop (63 - scale)) whole
    ∙ drop-append-le (63 - scale) (replicate n 48) ds (omega (arith, few, none, length-replicate {A = ℕ} n 48))
    ∙ ap (λ (u : List ℕ). u ++ ds) (drop-replicate (63 - scale) n 48 ∙ ap (λ (k : ℕ). replicate k 48) count)

-- the digits with a point put before the last
with_point_is : (scale k : ℕ) (ds : List ℕ) → 0 < scale → k ≡ length ds - scale → take k ds ++ 46 ∷ drop k ds ≡ with_point scale ds
unfolding with_point
with_point_is scale k ds some at =
    let tested : eqb scale 0 ≡ false = grind (arith, nat_tests) in
    rw (at, tested) refl

-- those before the point are moved by one, and the point is put behind them
point_put : (scale start low k : ℕ) (row moved : List ℕ) → length row ≡ 64 → 0 < scale → low + 1 ≡ start → start + (k + scale) ≡ 64 → moved ≡ paste row low (drop start row) k → drop low (set moved (low + k) 46) ≡ with_point scale (drop start row)
point_put scale start low k row moved long some next ends is =
    let many : length (drop start row) ≡ k + scale = omega (arith, length-drop start row, long, ends) in
    let first : length (take low row) ≡ low = length-take-le low row (omega (arith, long, next, ends)) in
    let taken : length (take k (drop start row)) ≡ k = length-take-le k (drop start row) (omega (arith, many)) in
    let cut : drop low moved ≡ take k (drop start row) ++ drop (low + k) row =
    ap (drop low) (is ∙ append_assoc (take low row) (take k (drop start row)) (drop (low + k) row))
    ∙ drop-append-le low (take low row) (take k (drop start row) ++ drop (low + k) row) (omega (arith, first))
    ∙ ap (λ (u : List ℕ). u ++ (take k (drop start row) ++ drop (low + k) row)) (drop_all low (take low row) (omega (arith, first))) in
    let behind : drop 1 (drop (low + k) row) ≡ drop k (drop start row) =
    drop-drop 1 (low + k) row ∙ ap (λ (n : ℕ). drop n row) (omega (arith, next)) ∙ sym (drop-drop k start row) in
    let point : set (drop (low + k) row) 0 46 ≡ 46 ∷ drop k (drop start row) =
    drop-set (drop (low + k) row) 0 46 (omega (arith, length-drop (low + k) row, long, next, ends, some)) ∙ ap (λ (u : List ℕ). 46 ∷ u) behind in
    drop-set-add low moved k 46
    ∙ ap (λ (u : List ℕ). set u k 46) cut
    ∙ set-append_right (take k (drop start row)) (drop (low + k) row) k k 46 taken (omega arith)
    ∙ ap (λ (n : ℕ). take k (drop start row) ++ set (drop (low + k) row) n 46) (same k)
    ∙ ap (λ (u : List ℕ). take k (drop start row) ++ u) point
    ∙ with_point_is scale k (drop start row) some (omega (arith, many))
  where
    same : (n : ℕ) → n - n ≡ 0
    same n = omega arith

pub pointed_row : (scale start : ℕ) (row moved : List ℕ) → length row ≡ 64 → 0 < scale → 2 ≤ start → start + scale < 64 → moved ≡ paste row (start - 1) (drop start row) ((64 - scale) - start)
    → drop (start - 1) (set moved (64 - scale - 1) 46) ≡ with_point scale (drop start row)
pointed_row scale start row moved long some space before is =
    ap (λ (n : ℕ). drop (start - 1) (set moved n 46)) (omega (arith, space, before))
    ∙ point_put scale start (start - 1) ((64 - scale) - start) row moved long some (omega (arith, space)) (omega (arith, space, before)) is

-- the text of a number, by its sign, its magnitude and its scale
pub text_is : (n : Num) (negative : Bool) (scale magnitude : ℕ) → negative ≡ is_negative n.whole → scale ≡ n.scale → magnitude ≡ unsigned_abs n.whole
    → sign_text negative ++ with_point scale (zero_padded (scale + 1) (decimal magnitude)) ≡ number_text n
unfolding text_of_parts
text_is n negative scale magnitude sign places size = rw (sign, places, size) refl
