use Rattle.std.proofs.Common.{ℕ, List, ◌++◌, ◌∷◌, ◌-◌, ◌<◌, [], ap, append_assoc, length, take, drop, ◌∙◌, arith}
use Rattle.std.proofs.lemmas.List.{length-take-le, take-take, take_rest}
use Rattle.text_write.proofs.FirstBytes.{behind_first, replaced}
use Rattle.text_members.proofs.Outcomes.{on_ok}
use Rattle.text_write.proofs.key_text.append_with_kind.Goals as goal

pub returns-in-Some-clause-bytes : goal.returns-in-Some-clause-bytes
returns-in-Some-clause-bytes c =
    on_ok c.append_row.result c.append_row.ensures.bytes (λ e.
    let n = c.args.count in
    let bytes = c.args.bytes.now in
    let some : 0 < length c.in-Some.chunk.now = omega (arith, ap length c.in-Some.ensures.cases.same, length-take-le 32 bytes c.in-Some.ensures.cases.enough) in
    e ∙ ap (λ xs. c.args.out.now.items ++ (xs ++ 0 ∷ 1 ∷ [])) (replaced c.args.first c.in-Some.chunk.now n c.requires.some some)
    ∙ ap (λ xs. c.args.out.now.items ++ c.args.first ∷ (drop 1 xs ++ 0 ∷ 1 ∷ [])) (ap (take n) c.in-Some.ensures.cases.same ∙ take-take n 32 bytes (omega arith)))

pub returns-clause-bytes : goal.returns-clause-bytes
returns-clause-bytes c =
    on_ok c.append_long.result c.append_long.ensures.bytes (λ e.
    let n = c.args.count in
    let bytes = c.args.bytes.now in
    let ends = λ (xs : List ℕ). xs ++ 0 ∷ 1 ∷ [] in
    e ∙ ap (λ old. old ++ ends (take (n - 1) (take (length bytes - 1) (drop 1 bytes)))) c.in_ok-extend_from_slice.ensures.items
    ∙ append_assoc c.args.out.now.items (c.args.first ∷ []) _
    ∙ ap (λ xs. c.args.out.now.items ++ c.args.first ∷ ends xs) (ap (take (n - 1)) (take_rest bytes 1) ∙ behind_first n bytes c.requires.some))
