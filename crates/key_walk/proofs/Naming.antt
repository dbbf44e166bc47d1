-- Names compared by their keys.
use Rattle.std.proofs.Common.{◌≡◌, ℕ, ◌<◌, List, [], ◌∷◌, ◌++◌, Less, Equal, Greater, length, refl, sym, ap, ◌∙◌, arith, append-nil}
use Rattle.std.proofs.lemmas.List.{length-append, append_cancel_left, take-append-drop}
use Rattle.std.specs.List.{IsSplitAt}
use Rattle.std.proofs.lemmas.Map.Lookups.{exact_bytes}
use Rattle.std.specs.Cmp.{tied_itself}
use Rattle.std.specs.Cmp.Lexicographic.{nat_list_cmp_total}
use Rattle.std.specs.declared.cmp.Ordering.{Ordering}
use Rattle.std.specs.Ordering.{nat_cmp, ordering_then}
use Rattle.jsonb_spec.specs.Order.{bytes_cmp}
use Rattle.jsonb_spec.specs.SortKey.{text_key}
use Rattle.jsonb_core.proofs.SortKeys.Comparing.{then_assoc}
use Rattle.jsonb_core.proofs.SortKeys.Texts.{text_compares}

-- lists of one length compare first, and then what follows
in_step : (a b x y : List ℕ) → length a ≡ length b → bytes_cmp (a ++ x) (b ++ y) ≡ ordering_then (bytes_cmp a b) (bytes_cmp x y)
in_step [] [] x y e = refl
in_step [] (k ∷ b) x y e = absurd (omega (arith, e))
in_step (h ∷ a) [] x y e = absurd (omega (arith, e))
in_step (h ∷ a) (k ∷ b) x y e = ap (ordering_then (nat_cmp h k)) (in_step a b x y (omega (arith, e))) ∙ then_assoc (nat_cmp h k) (bytes_cmp a b) (bytes_cmp x y)

tied : (x : List ℕ) → bytes_cmp x x ≡ Equal
tied x = tied_itself nat_list_cmp_total x

-- an answer that is the same with either that follows
one_answer : (r q c d : Ordering) → ordering_then r Equal ≡ ordering_then q c → ordering_then r d ≡ ordering_then q Equal → r ≡ q
one_answer Less Less c d e f = refl
one_answer Less Equal c d e f = f
one_answer Less Greater c d e f = e
one_answer Equal Less c d e f = e
one_answer Equal Equal c d e f = refl
one_answer Equal Greater c d e f = e
one_answer Greater Less c d e f = e
one_answer Greater Equal c d e f = f
one_answer Greater Greater c d e f = refl

whole_head : (bytes name head rest : List ℕ) → IsSplitAt bytes (length name) head rest → bytes ≡ head ++ rest
whole_head bytes name head rest (within, front, back, long, others) = sym (take-append-drop (length name) bytes) ∙ (λ i. sym front i ++ sym back i)

head_long : (bytes name head rest : List ℕ) → IsSplitAt bytes (length name) head rest → length head ≡ length name
head_long bytes name head rest (within, front, back, long, others) = long

-- as many of the first bytes of one as the other key has compare as the names
pub head_compares : (text wanted more bytes name head rest : List ℕ) → bytes ≡ text_key text ++ more → name ≡ text_key wanted → IsSplitAt bytes (length name) head rest
    → bytes_cmp head name ≡ bytes_cmp text wanted
head_compares text wanted more bytes name head rest e n cut =
    let whole = whole_head bytes name head rest cut in
    let long = head_long bytes name head rest cut in
    let both : (y : List ℕ) → ordering_then (bytes_cmp head name) (bytes_cmp rest y) ≡ ordering_then (bytes_cmp text wanted) (bytes_cmp more y)
    = λ y. sym (in_step head name rest y long) ∙ ap (λ b. bytes_cmp b (name ++ y)) (sym whole ∙ e) ∙ ap (λ k. bytes_cmp (text_key text ++ more) (k ++ y)) n ∙ (text_compares text wanted).compared more y in
    one_answer (bytes_cmp head name) (bytes_cmp text wanted) (bytes_cmp more rest) (bytes_cmp rest more)
    (ap (ordering_then (bytes_cmp head name)) (sym (tied rest)) ∙ both rest)
    (both more ∙ ap (ordering_then (bytes_cmp text wanted)) (tied more))

-- what is behind the name, where the names are equal
pub behind_name : (text wanted more bytes name head rest : List ℕ) → bytes ≡ text_key text ++ more → name ≡ text_key wanted → IsSplitAt bytes (length name) head rest → bytes_cmp head name ≡ Equal → bytes_cmp text wanted ≡ Equal → rest ≡ more
behind_name text wanted more bytes name head rest e n cut same names =
    let heads : head ≡ text_key text = exact_bytes head name same ∙ n ∙ ap text_key (sym (exact_bytes text wanted names)) in
    append_cancel_left head rest more (sym (whole_head bytes name head rest cut) ∙ e ∙ ap (λ h. h ++ more) (sym heads))

-- bytes that are fewer than the other key has
pub short_never : (bytes name : List ℕ) → length bytes < length name → bytes_cmp bytes name ≡ Equal → ⊥
short_never bytes name short same = let e = ap length (exact_bytes bytes name same) in absurd (omega (arith, short, e))

unequal : (r q d : Ordering) → r ≡ ordering_then q d → (q ≡ Equal → ⊥) → r ≡ q
unequal r Less d e n = e
unequal r Equal d e n = absurd (n refl)
unequal r Greater d e n = e

pub short_compares : (text wanted more bytes name : List ℕ) → bytes ≡ text_key text ++ more → name ≡ text_key wanted → length bytes < length name → bytes_cmp bytes name ≡ bytes_cmp text wanted
short_compares text wanted more bytes name e n short =
    unequal (bytes_cmp bytes name) (bytes_cmp text wanted) (bytes_cmp more [])
    (ap (λ b. bytes_cmp b name) e ∙ ap (bytes_cmp (text_key text ++ more)) (n ∙ sym (append-nil (text_key wanted))) ∙ (text_compares text wanted).compared more [])
    (λ same. let is = ap (λ t. length (text_key t)) (exact_bytes text wanted same) in omega (arith, short, is, ap length e, ap length n, length-append (text_key text) more))
