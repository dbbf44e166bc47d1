-- What is appended behind zeros, turned around in the buffer.
use Rattle.std.proofs.Common.{◌≡◌, true≢false, ℕ, zero, suc, ◌+◌, ◌-◌, ◌<◌, ◌≤◌, List, [], ◌∷◌, ◌++◌, length, take, drop, Result, Ok, Err, MatchResult, OnErr, is_ok, if◌then◌else◌, refl, sym, ap, ap₂, ◌∙◌, arith, append_assoc, length-append}
use Rattle.std.specs.Prelude.{IsErr, reverse, Vec, vec_len, vec_capacity}
use Rattle.std.specs.declared.alloc.Global.{Global}
use Rattle.std.specs.declared.alloc.AllocError.{AllocError}
use Rattle.std.proofs.Math.Seq.{take-length, take-append_seam, drop-append_seam}
use Rattle.std.proofs.lemmas.List.{length-reverse, reverse-append}
use Rattle.jsonb_spec.specs.Text.Appending.{Appends}
use Rattle.jsonb_spec.specs.Document.{behind_key, end_of}
use Rattle.jsonb_spec.specs.Document.Zeros.{in_sevens}

-- the end of some zeros
pub end_some : (size : ℕ) → (size ≡ 0 → ⊥) → end_of size ≡ reverse (in_sevens 8 size) ++ 255 ∷ []
end_some zero some = absurd (some refl)
end_some (suc size) some = reverse-append (255 ∷ []) (in_sevens 8 (suc size))

regroup : (a b c d : List ℕ) → (a ++ (b ++ c)) ++ d ≡ (a ++ b) ++ (c ++ d)
regroup a b c d = simp append_assoc

-- what is in a buffer of which the last bytes were turned around
pub turned_end : (len start : ℕ) (all turned behind more old last : List ℕ) → all ≡ old ++ last → start ≡ length old → len ≡ length all → turned ≡ reverse (take (length all - start) (drop start all))
    → take len ((take start all ++ (turned ++ behind)) ++ more) ≡ old ++ reverse last
turned_end len start all turned behind more old last is slot size after =
    let long = ap length is in
    let joined = length-append old last in
    let rest : length all - start ≡ length last = omega (arith, long, joined, slot) in
    let first : take start all ≡ old = ap (take start) is ∙ ap (λ n. take n (old ++ last)) slot ∙ take-append_seam old last in
    let second : drop start all ≡ last = ap (drop start) is ∙ ap (λ n. drop n (old ++ last)) slot ∙ drop-append_seam old last in
    let back : turned ≡ reverse last = after ∙ ap reverse (ap (take (length all - start)) second ∙ ap (λ n. take n last) rest ∙ take-length last) in
    let whole : len ≡ length (old ++ reverse last) = omega (arith, size, long, joined, length-append old (reverse last), length-reverse last) in
    ap₂ (λ a b. take len ((a ++ (b ++ behind)) ++ more)) first back ∙ ap (take len) (regroup old (reverse last) behind more)
    ∙ ap (λ n. take n ((old ++ reverse last) ++ (behind ++ more))) whole ∙ take-append_seam (old ++ reverse last) (behind ++ more)

-- the mark behind it
pub ends_with : (r : Result (Unit {0}) AllocError) (old new : Vec ℕ Global) (mid bytes text : List ℕ) (cap len : ℕ) → mid ≡ old.items ++ bytes → text ≡ bytes ++ 255 ∷ [] → len ≡ vec_len old + length bytes
    → vec_capacity old ≤ cap → cap ≤ vec_capacity new → new.items ≡ (if is_ok r then mid ++ 255 ∷ [] else mid) → OnErr r (cap < len + 1) → Appends r old new text
ends_with (Ok x) old new mid bytes text cap len e t long a b items full =
    let is = items ∙ ap (λ m. m ++ 255 ∷ []) e ∙ append_assoc old.items bytes (255 ∷ []) ∙ ap (λ l. old.items ++ l) (sym t) in
    record { ok = is; retained = record { more = text; extended = is }; full = tt; capacity = omega (arith, a, b) }
ends_with (Err x) old new mid bytes text cap len e t long a b items full =
    record { ok = tt; retained = record { more = bytes; extended = items ∙ e }; full = omega (arith, full, long, a, ap length t, length-append bytes (255 ∷ [])); capacity = omega (arith, a, b) }

-- ---- behind the zeros

pub none_behind : (zeros : List ℕ) → length zeros ≡ 0 → zeros ≡ behind_key zeros
none_behind [] e = refl
none_behind (z ∷ zs) e = absurd (omega (arith, e))

module _ (old new : Vec ℕ Global) (before zeros : List ℕ) (start size : ℕ) (at : length before ≡ start) (e : old.items ≡ before ++ zeros) (is : size ≡ length zeros) where
  pub ended_whole : (r : Result (Unit {0}) AllocError) → Appends r old new (end_of size) → MatchResult r (λ _. new.items ≡ before ++ behind_key zeros) (λ e. vec_capacity old < start + length (behind_key zeros))
  ended_whole (Ok x) a = a.ok ∙ ap₂ (λ l n. l ++ end_of n) e is ∙ append_assoc before zeros (end_of (length zeros))
  ended_whole (Err x) a = omega (arith, a.full, at, old.ok.0, ap length e, length-append before zeros, length-append zeros (end_of (length zeros)), ap (λ n. length (end_of n)) is)

  pub not_ended : (r : Result (Unit {0}) AllocError) → IsErr r → (size ≡ 0 → ⊥) → vec_capacity old < vec_len old + length (in_sevens 8 size) → MatchResult r (λ _. new.items ≡ before ++ behind_key zeros) (λ e. vec_capacity old < start + length (behind_key zeros))
  not_ended (Ok x) h some full = absurd (true≢false (sym h))
  not_ended (Err x) h some full =
      omega (arith, full, at, old.ok.0, ap length e, length-append before zeros, length-append zeros (end_of (length zeros)), ap (λ n. length (end_of n)) is, ap length (end_some size some), length-append (reverse (in_sevens 8 size)) (255 ∷ []), length-reverse (in_sevens 8 size))
