-- Bytes that are put into a row.
use Rattle.std.proofs.Common.{◌≡◌, ℕ, List, ◌+◌, ◌≤◌, ◌++◌, take, length, ap, sym, ◌∙◌, arith, length-append, length-take-le, take-take}
use Rattle.std.proofs.Math.Seq.{take-append-add}

-- so many bytes of what was put into a row
pub put_some : (row put chunk : List ℕ) (end all run : ℕ) → run ≤ length chunk → end ≤ length row → all ≤ length put → take all put ≡ take end row ++ chunk
    → (take (end + run) put ≡ take end row ++ take run chunk) × (end + run ≤ length put)
put_some row put chunk end all run few within inside is =
    let long = length-take-le end row within in
    let size : all ≡ end + length chunk = omega (arith, length-take-le all put inside, ap length is, length-append (take end row) chunk, long) in (
      sym (take-take (end + run) all put (omega (arith, size, few))) ∙ ap (take (end + run)) is
          ∙ ap (λ n. take (n + run) (take end row ++ chunk)) (sym long) ∙ take-append-add (take end row) chunk run,
      omega (arith, size, few, inside),
    )
