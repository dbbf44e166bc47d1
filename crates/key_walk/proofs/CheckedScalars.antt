-- Keys of values that are no arrays and no objects, checked by their first byte.
use Rattle.std.proofs.Common.{◌≡◌, ◌≢◌, ◌⊎◌, ◌↔◌, inl, inr, true, false, ℕ, List, ◌∷◌, ◌++◌, length, pos, refl, sym, ap, ◌∙◌, arith}
use Rattle.key_value.proofs.FirstBytes.{no_key, string_there}
use Rattle.key_walk.specs.Frames.{ScalarFirst, NumberFirst, TextFirst}
use Rattle.key_walk.proofs.InRange.{number_in_range, readable_at}
use Rattle.key_walk.proofs.Scalars.{scalar_begins, word_skipped}
use Rattle.jsonb_spec.specs.Tree.{null, boolean, string, number, plain, uint64}
use Rattle.jsonb_core.proofs.SortKeys.Numbers.{nothing_there}

pub no_scalar : (bytes more : List ℕ) → length bytes ≡ 0 → ScalarFirst bytes more → ⊥
no_scalar bytes more none s = no_key 0 s.value (readable_at 0 s.value (s.in_range 0)) bytes more s.occurs none

pub text_scalar : (first : ℕ) (rest bytes : List ℕ) → bytes ≡ first ∷ rest → first ≡ 208 → (more : List ℕ) → TextFirst rest more ↔ ScalarFirst bytes more
text_scalar first rest bytes e is more = (to, from)
  where
    to : TextFirst rest more → ScalarFirst bytes more
    to t = record { value = string plain t.text; scalar = tt; in_range = λ depth. record { proper = t.utf8; within = tt }; occurs = e ∙ (λ i. is i ∷ t.occurs i) }

    from : ScalarFirst bytes more → TextFirst rest more
    from s =
        let x = string_there 0 s.value (readable_at 0 s.value (s.in_range 0)) first rest bytes more e s.occurs is in
        record { text = x.0; utf8 = x.1; occurs = x.2 }

pub word_scalar : (first : ℕ) (rest bytes : List ℕ) → bytes ≡ first ∷ rest → (first ≡ 21) ⊎ ((first ≡ 22) ⊎ ((first ≡ 128) ⊎ (first ≡ 211))) → (more : List ℕ) → (rest ≡ more) ↔ ScalarFirst bytes more
word_scalar first rest bytes e word more = (to word, λ s. word_skipped 0 s.value (readable_at 0 s.value (s.in_range 0)) s.scalar first rest bytes more e s.occurs word)
  where
    to : (first ≡ 21) ⊎ ((first ≡ 22) ⊎ ((first ≡ 128) ⊎ (first ≡ 211))) → rest ≡ more → ScalarFirst bytes more
    to (inl is) same = record { value = boolean false; scalar = tt; in_range = λ depth. record { proper = tt; within = tt }; occurs = e ∙ (λ i. is i ∷ same i) }
    to (inr (inl is)) same = record { value = boolean true; scalar = tt; in_range = λ depth. record { proper = tt; within = tt }; occurs = e ∙ (λ i. is i ∷ same i) }
    to (inr (inr (inl is))) same =
        let zero_key = nothing_there (record { form = uint64; scale = 0; whole = pos 0 }) refl in
        record {
          value = number (record { form = uint64; scale = 0; whole = pos 0 });
          scalar = tt;
          in_range = λ depth. record { proper = (refl, omega arith); within = (omega arith, omega arith) };
          occurs = e ∙ (λ i. is i ∷ same i) ∙ ap (λ key. key ++ more) (sym zero_key);
        }
    to (inr (inr (inr is))) same = record { value = null; scalar = tt; in_range = λ depth. record { proper = tt; within = tt }; occurs = e ∙ (λ i. is i ∷ same i) }

pub number_scalar : (first : ℕ) (rest bytes : List ℕ) → bytes ≡ first ∷ rest → first ≢ 208 → (first ≢ 21) × (first ≢ 22) × (first ≢ 128) × (first ≢ 211) → (more : List ℕ) → NumberFirst bytes more ↔ ScalarFirst bytes more
number_scalar first rest bytes e text word more = (to, from)
  where
    to : NumberFirst bytes more → ScalarFirst bytes more
    to n = record { value = number n.value; scalar = tt; in_range = λ depth. record { proper = n.proper; within = n.in_range }; occurs = n.occurs }

    from : ScalarFirst bytes more → NumberFirst bytes more
    from s =
        let other = scalar_begins 0 s.value (readable_at 0 s.value (s.in_range 0)) s.scalar first rest bytes more e s.occurs in
        let n = number_in_range 0 s.value (s.in_range 0) first rest bytes more e s.occurs word.0 word.1 text other.0 other.1 word.3 in
        record { value = n.0; proper = n.1; in_range = n.2; occurs = n.3 }
