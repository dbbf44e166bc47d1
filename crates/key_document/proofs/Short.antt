-- What is behind a key is short.
use Rattle.std.proofs.Common.{◌≡◌, ℕ, zero, suc, ◌+◌, ◌*◌, ◌/◌, ◌≤◌, ◌==◌, inl, inr, List, [], ◌∷◌, ◌++◌, length, ap, arith, length-append}
use Rattle.std.proofs.lemmas.Bool.{cases_lt, cond-false, ne_eqb}
use Rattle.std.proofs.lemmas.List.{length-reverse}
use Rattle.jsonb_spec.specs.Proper.{IsProper}
use Rattle.jsonb_spec.specs.SortKey.{key_of}
use Rattle.jsonb_spec.specs.Tree.{Tree}
use Rattle.jsonb_spec.specs.Document.{behind_key, end_of, zeros_at}
use Rattle.key_text.proofs.Counts.{one_each}
use Rattle.jsonb_spec.specs.Document.Zeros.{entry_of, in_sevens, plain_behind, zeros_of}
use Rattle.key_zeros.proofs.Sevens.{few, many, last}
use Rattle.jsonb_spec.specs.Document.Counts.{counts_at}

-- one byte and more for each seven bits, of which there are at most so many groups
sevens_few : (more n : ℕ) → length (in_sevens more n) ≤ more + 1
sevens_few zero n = omega (arith, ap length (last n))
sevens_few (suc more) n = elim (cases_lt n 128) [
  | inl one ↦ omega (arith, ap length (few (suc more) n one))
  | inr other ↦ omega (arith, ap length (many more n other), sevens_few more (n / 128))
]

sevens_short : (more n : ℕ) → length (in_sevens more n) ≤ n + 1
sevens_short zero n = omega (arith, ap length (last n))
sevens_short (suc more) n = elim (cases_lt n 128) [
  | inl one ↦ omega (arith, ap length (few (suc more) n one))
  | inr other ↦
      let less : n / 128 + 1 ≤ n = omega (arith, other) in
      omega (arith, ap length (many more n other), sevens_short more (n / 128), less)
]

-- at most two bytes for each byte of the key, of which so many come before
zeros_short : (plain : ℕ) (counts : List ℕ) → length (zeros_of plain counts) ≤ 2 * (plain + length counts)
zeros_short plain [] = omega arith
zeros_short plain (zero ∷ counts) = omega (arith, zeros_short (suc plain) counts)
zeros_short plain (suc c ∷ counts) =
    let behind : plain_behind plain (suc c) ≡ 0 = cond-false (suc c == 0) (suc plain) 0 (ne_eqb (suc c) 0 (λ e. omega (arith, e))) in
    let entry : entry_of plain (suc c) ≡ in_sevens 8 plain ++ suc c ∷ [] = cond-false (suc c == 0) [] (in_sevens 8 plain ++ suc c ∷ []) (ne_eqb (suc c) 0 (λ e. omega (arith, e))) in
    omega (arith, length-append (entry_of plain (suc c)) (zeros_of (plain_behind plain (suc c)) counts), ap length entry, length-append (in_sevens 8 plain) (suc c ∷ []), sevens_short 8 plain, ap (λ p. length (zeros_of p counts)) {x = plain_behind plain (suc c)} {y = 0} behind, zeros_short 0 counts)

end_short : (size : ℕ) → length (end_of size) ≤ 10
end_short zero = omega arith
end_short (suc size) = omega (arith, length-reverse (255 ∷ in_sevens 8 (suc size)), sevens_few 8 (suc size))

pub tail_short : (t : Tree) → IsProper t → length (behind_key (zeros_at t)) ≤ 2 * length (key_of t) + 10
tail_short t p = omega (arith, length-append (zeros_at t) (end_of (length (zeros_at t))), zeros_short 0 (counts_at t), one_each t p, end_short (length (zeros_at t)))
