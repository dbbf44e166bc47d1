-- The zeros of a splice, from those of its parts.
use Rattle.std.proofs.Common.{◌≡◌, ℕ, zero, suc, ◌+◌, ◌<◌, ◌≤◌, ◌==◌, List, [], ◌∷◌, ◌++◌, length, take, drop, replicate, Result, Ok, Err, refl, sym, ap, ◌∙◌, arith, length-append}
use Rattle.std.specs.Prelude.{IsErrAnd, Vec, vec_len, vec_capacity}
use Rattle.std.specs.declared.alloc.Global.{Global}
use Rattle.std.proofs.Math.Seq.{take-length, take-append_seam, drop-append_seam}
use Rattle.std.proofs.lemmas.Bool.{cond-false, ne_eqb}
use Rattle.key_document.specs.Splices.{AppendsZeros, AreSpliced, spliced_counts}
use Rattle.key_document.specs.declared.error.DocumentError.{DocumentError}
use Rattle.key_document.specs.declared.error.DocumentError.TheVariants.{OutOfMemory}
use Rattle.key_document.specs.declared.splice.Lengths.{Lengths}
use Rattle.jsonb_spec.specs.Document.Zeros.{zeros_of, plain_at_end, plain_behind}
use Rattle.key_zeros.proofs.Joining.{zeros_joined}
use Rattle.key_zeros.proofs.Taking.{zeros_behind_plain}

-- no more bytes without zeros are at the end than there are
pub plain_bound : (plain : ℕ) (counts : List ℕ) → plain_at_end plain counts ≤ plain + length counts
plain_bound plain [] = omega arith
plain_bound plain (zero ∷ counts) = omega (arith, plain_bound (suc plain) counts)
plain_bound plain (suc c ∷ counts) =
    let e : plain_behind plain (suc c) ≡ 0 = cond-false (suc c == 0) (suc plain) 0 (ne_eqb (suc c) 0 (λ e. omega (arith, e))) in
    omega (arith, ap (λ p. plain_at_end p counts) {x = plain_behind plain (suc c)} {y = 0} e, plain_bound 0 counts)

-- the zeros of the whole are those of three parts
pub three_parts : (front : List ℕ) (name : ℕ) (part behind : List ℕ) (named more : ℕ) → named ≡ plain_at_end 0 front + name → more ≡ plain_at_end named part
    → zeros_of 0 (spliced_counts front name part behind) ≡ zeros_of 0 front ++ (zeros_of named part ++ zeros_of more behind)
three_parts front name part behind named more e f =
    zeros_joined 0 front (replicate name 0 ++ (part ++ behind))
    ∙ ap (λ zs. zeros_of 0 front ++ zs) (zeros_behind_plain name (plain_at_end 0 front) (part ++ behind) ∙ ap (λ n. zeros_of n (part ++ behind)) (sym e)
    ∙ zeros_joined named part behind ∙ ap (λ n. zeros_of named part ++ zeros_of n behind) (sym f))

pub front_within : (front : List ℕ) (name : ℕ) (part behind : List ℕ) → length (zeros_of 0 front) ≤ length (zeros_of 0 (spliced_counts front name part behind))
front_within front name part behind =
    let e = three_parts front name part behind (plain_at_end 0 front + name) (plain_at_end (plain_at_end 0 front + name) part) refl refl in
    omega (arith, ap length e, length-append (zeros_of 0 front) (zeros_of (plain_at_end 0 front + name) part ++ zeros_of (plain_at_end (plain_at_end 0 front + name) part) behind))

pub part_within : (front : List ℕ) (name : ℕ) (part behind : List ℕ) (named : ℕ) → named ≡ plain_at_end 0 front + name
    → length (zeros_of 0 front ++ zeros_of named part) ≤ length (zeros_of 0 (spliced_counts front name part behind))
part_within front name part behind named is =
    let e = three_parts front name part behind named (plain_at_end named part) is refl in
    omega (arith, ap length e, length-append (zeros_of 0 front) (zeros_of named part ++ zeros_of (plain_at_end named part) behind), length-append (zeros_of named part) (zeros_of (plain_at_end named part) behind), length-append (zeros_of 0 front) (zeros_of named part))

pub take_all : (n : ℕ) (xs : List ℕ) → n ≡ length xs → take n xs ≡ xs
take_all n xs e = ap (λ k. take k xs) e ∙ take-length xs

module _ {key_len : ℕ} {zeros part_zeros : List ℕ} {lengths : Lengths} (front entry part behind : List ℕ) (x : AreSpliced key_len zeros part_zeros lengths front entry part behind) where
  pub counts_long : length (front ++ (entry ++ behind)) ≡ key_len
  counts_long = omega (arith, x.key_is, length-append front (entry ++ behind), length-append entry behind)

  pub front_taken : take lengths.front (front ++ (entry ++ behind)) ≡ front
  front_taken = ap (λ n. take n (front ++ (entry ++ behind))) x.front_is ∙ take-append_seam front (entry ++ behind)

  pub front_passed : drop lengths.front (front ++ (entry ++ behind)) ≡ entry ++ behind
  front_passed = ap (λ n. drop n (front ++ (entry ++ behind))) x.front_is ∙ drop-append_seam front (entry ++ behind)

  pub entry_passed : (passed : ℕ) → passed ≡ length entry → drop passed (entry ++ behind) ≡ behind
  entry_passed passed e = ap (λ n. drop n (entry ++ behind)) e ∙ drop-append_seam entry behind

-- ---- what is reported

pub lacks_zeros : {X : Type 0} (r : Result X DocumentError) (error : DocumentError) (old new : Vec ℕ Global) (bytes all : List ℕ) → IsErrAnd r (λ e. e ≡ error) → error ≡ OutOfMemory
    → vec_capacity old < vec_len old + length bytes → length bytes ≤ length all → AppendsZeros r old new all
lacks_zeros (Ok x) error old new bytes all h is full less = absurd h
lacks_zeros (Err e) error old new bytes all h is full less = (h ∙ is, omega (arith, full, less))
