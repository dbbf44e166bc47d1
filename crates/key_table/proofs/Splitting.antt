-- A table apart from what is before it, and bytes that are compared with a table.
use Rattle.std.proofs.Common.{◌≡◌, ◌↔◌, option_map, ℕ, ◌+◌, ◌*◌, ◌<◌, ◌≤◌, false, List, [], ◌∷◌, ◌++◌, Option, Some, None, Bor, IsTrue, take, drop, length, slice_index_or, nat_eq, refl, sym, ap, ◌∙◌, arith, append_assoc, length-append}
use Rattle.std.proofs.Math.Seq.{take-append_seam, drop-append_seam}
use Rattle.std.proofs.lemmas.List.{append_cancel_left}
use Rattle.std.proofs.lemmas.Bool.{eqb-true}
use Rattle.jsonb_spec.specs.Tree.{Tree, Members}
use Rattle.key_value.proofs.Texts.{none_some, some_same}
use Rattle.jsonb_spec.specs.SortKey.AtKeys.{Leaves}
use Rattle.key_walk.proofs.Occurrence.{true_false}
use Rattle.key_table.specs.Entries.{OfMembers}
use Rattle.jsonb_spec.specs.Table.{in_two, table_mark, table_of, table_of_members}
use Rattle.key_table.proofs.Having.{TableParts}
use Rattle.key_table.proofs.Walking.{Walked}

-- bytes that end with a table
module _ (bytes front : List ℕ) (t : Tree) (p : TableParts t) (e : bytes ≡ front ++ table_of t) where
  pub count_there : bytes ≡ (front ++ p.entries) ++ (in_two p.count ++ table_mark ∷ [])
  count_there = e ∙ ap (λ l. front ++ l) p.is ∙ sym (append_assoc front p.entries (in_two p.count ++ table_mark ∷ []))

  pub whole_size : length bytes ≡ length front + (2 * p.count + 3)
  whole_size = omega (arith, ap length e, length-append front (table_of t), ap length p.is, length-append p.entries (in_two p.count ++ table_mark ∷ []), p.long)

  pub end_at : (end : ℕ) → end + 3 ≡ length bytes → length (front ++ p.entries) ≡ end
  end_at end is = omega (arith, is, whole_size, length-append front p.entries, p.long)

  pub front_there : (start : ℕ) → start + (2 * p.count + 3) ≡ length bytes → take start bytes ≡ front
  front_there start is =
      let same : start ≡ length front = omega (arith, is, whole_size) in
      (λ i. take (same i) (e i)) ∙ take-append_seam front (table_of t)

  pub table_behind : (start : ℕ) → start + (2 * p.count + 3) ≡ length bytes → drop start bytes ≡ table_of t
  table_behind start is =
      let same : start ≡ length front = omega (arith, is, whole_size) in
      (λ i. drop (same i) (e i)) ∙ drop-append_seam front (table_of t)

-- ---- the end of a table

one_byte : (rest : List ℕ) → 1 ≤ length rest → length rest < 2 → rest ≡ slice_index_or rest 0 0 ∷ []
one_byte [] least below = absurd (omega (arith, least))
one_byte (x ∷ []) least below = refl
one_byte (x ∷ y ∷ rest) least below = absurd (omega (arith, below))

-- bytes are the table where the others are what is left of it
abbrev pub Matches : Members → List ℕ → List ℕ → List ℕ → Type 0
Matches ms table entries left = (table ≡ table_of_members ms) ↔ (entries ≡ left)

abbrev pub Matching : List ℕ → List ℕ → List ℕ → List ℕ → ℕ → Type 0
Matching bytes table entries left count = OfMembers bytes (λ ms. Walked (Matches ms table entries) ms bytes left count)

pub matches_on : (ms : Members) (table entries front rest left : List ℕ) → Matches ms table entries (front ++ left) → entries ≡ front ++ rest → Matches ms table rest left
matches_on ms table entries front rest left m is = (λ all. append_cancel_left front rest left (sym is ∙ m.0 all), λ more. m.1 (is ∙ ap (λ l. front ++ l) more))

-- a number that isn't there
pub not_there : (ms : Members) (table entries left : List ℕ) (n m : ℕ) (r : Option (Bor (List ℕ))) → n ≡ m → Matches ms table entries (in_two n ++ left) → ((rest : List ℕ) → Leaves r rest ↔ (entries ≡ in_two m ++ rest)) → r ≡ None → table ≡ table_of_members ms → ⊥
not_there ms table entries left n m r same matches leaves none all =
    none_some left (ap (option_map (λ rest. rest.now)) (sym none) ∙ (leaves left).1 (matches.0 all ∙ ap (λ k. in_two k ++ left) same))

pub false_never : IsTrue false → ⊥
false_never is = true_false (sym is)

-- the end of a table by what is behind the number
module _ (bytes : List ℕ) (n : ℕ) (r : Option (Bor (List ℕ))) (leaves : (rest : List ℕ) → Leaves r rest ↔ (bytes ≡ in_two n ++ rest)) where
  pub ends_with : (x : Bor (List ℕ)) → r ≡ Some x → 1 ≤ length x.now → length x.now < 2 → IsTrue (nat_eq (slice_index_or x.now 0 0) table_mark) ↔ (bytes ≡ in_two n ++ table_mark ∷ [])
  ends_with x is least below = (
    λ yes_there. (leaves (table_mark ∷ [])).0 (ap (option_map (λ rest. rest.now)) is ∙ ap Some (one_byte x.now least below ∙ ap (λ b. b ∷ []) (eqb-true (slice_index_or x.now 0 0) table_mark yes_there))),
    λ e. ap (λ l. nat_eq (slice_index_or l 0 0) table_mark) (some_same x.now (table_mark ∷ []) (ap (option_map (λ rest. rest.now)) (sym is) ∙ (leaves (table_mark ∷ [])).1 e)),
  )

  pub no_end_of_size : (x : Bor (List ℕ)) → r ≡ Some x → (length x.now ≡ 1 → ⊥) → bytes ≡ in_two n ++ table_mark ∷ [] → ⊥
  no_end_of_size x is other e = other (ap length (some_same x.now (table_mark ∷ []) (ap (option_map (λ rest. rest.now)) (sym is) ∙ (leaves (table_mark ∷ [])).1 e)))

  pub no_number : r ≡ None → bytes ≡ in_two n ++ table_mark ∷ [] → ⊥
  no_number is e = none_some (table_mark ∷ []) (ap (option_map (λ rest. rest.now)) (sym is) ∙ (leaves (table_mark ∷ [])).1 e)
