-- The key of a text, checked from zero to zero.
use Rattle.std.proofs.Common.{◌≡◌, ◌≢◌, ℕ, zero, suc, ◌+◌, ◌<◌, ◌⊎◌, ◌↔◌, inl, inr, List, [], ◌∷◌, ◌++◌, get_or, take, drop, length, IsUtf8, refl, sym, subst, ap, ◌∙◌, arith, append_assoc, append-nil, length-append}
use Rattle.std.proofs.lemmas.List.{take-append-drop}
use Rattle.std.proofs.lemmas.Str.{IsUtf8-append, IsUtf8-take, IsUtf8-drop, IsUtf8-from_ascii, IsCharBoundary-before_ascii, IsCharBoundary-after_ascii}
use Rattle.std.proofs.Math.Seq.{drop-append-add}
use Rattle.jsonb_spec.specs.SortKey.{text_key}
use Rattle.jsonb_core.proofs.SortKeys.Texts.{text_key-other}
use Rattle.jsonb_core.proofs.Trees.Runs.{heads, tails}
use Rattle.key_walk.specs.Frames.{TextFirst, Utf8UpTo}

-- ---- bytes before the first zero

abbrev NoneBefore : List ℕ → ℕ → Type 0
NoneBefore rest z = (k : ℕ) → k < z → get_or rest k 0 ≢ 0

-- a text by its bytes before the first zero: they are all of it, or a zero of it follows
abbrev AtZero : List ℕ → List ℕ → List ℕ → List ℕ → Type 0
AtZero run text tail more = ((text ≡ run) × (tail ≡ 1 ∷ more)) ⊎ ((left : List ℕ) × (text ≡ run ++ 0 ∷ left) × (tail ≡ 255 ∷ (text_key left ++ more)))

one_more : (b : ℕ) (run text tail more : List ℕ) → AtZero run text tail more → AtZero (b ∷ run) (b ∷ text) tail more
one_more b run text tail more (inl p) = inl (ap (λ bs. b ∷ bs) p.0, p.1)
one_more b run text tail more (inr p) = inr (p.0, ap (λ bs. b ∷ bs) p.1, p.2)

at_zero : (z : ℕ) (rest text more tail : List ℕ) → rest ≡ text_key text ++ more → NoneBefore rest z → drop z rest ≡ 0 ∷ tail → AtZero (take z rest) text tail more
at_zero zero rest [] more tail e none at = inl (refl, tails 0 0 tail (1 ∷ more) (sym at ∙ e))
at_zero zero rest (zero ∷ text) more tail e none at = inr (text, refl, tails 0 0 tail (255 ∷ (text_key text ++ more)) (sym at ∙ e))
at_zero zero rest (suc b ∷ text) more tail e none at =
    absurd (omega (arith, heads 0 (suc b) tail (text_key text ++ more) (sym at ∙ e ∙ ap (λ bytes. bytes ++ more) (text_key-other b text))))
at_zero (suc z) rest [] more tail e none at = absurd (none 0 (omega arith) (ap (λ xs. get_or xs 0 0) e))
at_zero (suc z) rest (zero ∷ text) more tail e none at = absurd (none 0 (omega arith) (ap (λ xs. get_or xs 0 0) e))
at_zero (suc z) rest (suc b ∷ text) more tail e none at =
    let is : rest ≡ suc b ∷ (text_key text ++ more) = e ∙ ap (λ bytes. bytes ++ more) (text_key-other b text) in
    subst (λ xs. AtZero (take (suc z) xs) (suc b ∷ text) tail more) (sym is)
    (one_more (suc b) (take z (text_key text ++ more)) text tail more
    (at_zero z (text_key text ++ more) text more tail refl (λ k l h. none (suc k) (omega (arith, l)) (ap (λ xs. get_or xs (suc k) 0) is ∙ h)) (sym (ap (drop (suc z)) is) ∙ at)))

-- what has no zero is in the key of a text as it is
run_first : (z : ℕ) (rest left : List ℕ) → NoneBefore rest z → text_key (take z rest ++ left) ≡ take z rest ++ text_key left
run_first zero rest left none = refl
run_first (suc z) [] left none = refl
run_first (suc z) (zero ∷ rest) left none = absurd (none 0 (omega arith) refl)
run_first (suc z) (suc b ∷ rest) left none =
    text_key-other b (take z rest ++ left) ∙ ap (λ bs. suc b ∷ bs) (run_first z rest left (λ k l. none (suc k) (omega (arith, l))))

dropped : (z : ℕ) (rest : List ℕ) → z < length rest → drop z rest ≡ get_or rest z 0 ∷ drop (suc z) rest
dropped zero [] h = absurd (omega (arith, h))
dropped zero (b ∷ rest) h = refl
dropped (suc z) [] h = absurd (omega (arith, h))
dropped (suc z) (b ∷ rest) h = dropped z rest (omega (arith, h))

-- ---- UTF-8 before and behind a zero

seam : (run left : List ℕ) → get_or (run ++ 0 ∷ left) (length run) 0 ≡ 0
seam [] left = refl
seam (b ∷ run) left = seam run left

take_run : (run ys : List ℕ) → take (length run) (run ++ ys) ≡ run
take_run [] ys = refl
take_run (b ∷ run) ys = ap (λ bs. b ∷ bs) (take_run run ys)

before_seam : (run left : List ℕ) → length run < length (run ++ 0 ∷ left)
before_seam run left = omega (arith, length-append run (0 ∷ left))

pub utf8_before : (run left : List ℕ) → IsUtf8 (run ++ 0 ∷ left) → IsUtf8 run
utf8_before run left u =
    subst IsUtf8 (take_run run (0 ∷ left))
    (IsUtf8-take (run ++ 0 ∷ left) (length run) u (IsCharBoundary-before_ascii (run ++ 0 ∷ left) (length run) (before_seam run left) (omega (arith, seam run left))))

pub utf8_behind : (run left : List ℕ) → IsUtf8 (run ++ 0 ∷ left) → IsUtf8 left
utf8_behind run left u =
    subst IsUtf8 (drop-append-add run (0 ∷ left) 1)
    (IsUtf8-drop (run ++ 0 ∷ left) (length run + 1) u (IsCharBoundary-after_ascii (run ++ 0 ∷ left) (length run) u (before_seam run left) (omega (arith, seam run left))))

pub utf8_both : (run left : List ℕ) → IsUtf8 run → IsUtf8 left → IsUtf8 (run ++ 0 ∷ left)
utf8_both run left u v = IsUtf8-append run (0 ∷ left) u (IsUtf8-append (0 ∷ []) left (IsUtf8-from_ascii (0 ∷ []) ascii) v)
  where
    ascii : (i : ℕ) → get_or (0 ∷ []) i 0 < 128
    ascii zero = omega arith
    ascii (suc i) = omega arith

-- ---- one step

-- the first zero is at z, and the bytes before it and behind it
pub record ZeroAt (rest run tail : List ℕ) : Type 0 where
  pub at : ℕ
  pub none : NoneBefore rest at
  pub before : run ≡ take at rest
  pub behind : drop at rest ≡ 0 ∷ tail

pub zero_up_to : (rest : List ℕ) (z : ℕ) → z < length rest → NoneBefore rest z → get_or rest z 0 ≡ 0 → ZeroAt rest (take z rest) (drop (suc z) rest)
zero_up_to rest z within none here = record { at = z; none = none; before = refl; behind = dropped z rest within ∙ ap (λ b. b ∷ drop (suc z) rest) here }

pub zero_at : (rest tail : List ℕ) (z : ℕ) → Utf8UpTo rest z → tail ≡ drop (z + 1) rest → ZeroAt rest (take z rest) tail
zero_at rest tail z u back =
    let one_more : suc z ≡ z + 1 = omega arith in
    subst (ZeroAt rest (take z rest)) (ap (λ k. drop k rest) one_more ∙ sym back) (zero_up_to rest z u.within u.none_before u.here)

cases : (rest run tail more : List ℕ) → ZeroAt rest run tail → (t : TextFirst rest more) → AtZero run t.text tail more
cases rest run tail more z t = subst (λ r. AtZero r t.text tail more) (sym z.before) (at_zero z.at rest t.text more tail t.occurs z.none z.behind)

pub run_is_utf8 : (rest run tail more : List ℕ) → ZeroAt rest run tail → TextFirst rest more → IsUtf8 run
run_is_utf8 rest run tail more z t = by (cases rest run tail more z t)
  where
    by : AtZero run t.text tail more → IsUtf8 run
    by (inl p) = subst IsUtf8 p.0 t.utf8
    by (inr p) = utf8_before run p.0 (subst IsUtf8 p.1 t.utf8)

-- a zero has a byte behind it
pub some_mark : (rest run tail more : List ℕ) → ZeroAt rest run tail → length tail ≡ 0 → TextFirst rest more → ⊥
some_mark rest run tail more z none t = by (cases rest run tail more z t)
  where
    by : AtZero run t.text tail more → ⊥
    by (inl p) = omega (arith, none, ap length p.1)
    by (inr p) = omega (arith, none, ap length p.2)

pub no_other_mark : (rest run tail others more : List ℕ) (mark : ℕ) → ZeroAt rest run tail → tail ≡ mark ∷ others → mark ≢ 1 → mark ≢ 255 → TextFirst rest more → ⊥
no_other_mark rest run tail others more mark z first one last t = by (cases rest run tail more z t)
  where
    by : AtZero run t.text tail more → ⊥
    by (inl p) = one (heads mark 1 others more (sym first ∙ p.1))
    by (inr p) = last (heads mark 255 others (text_key p.0 ++ more) (sym first ∙ p.2))

whole : (rest run tail : List ℕ) → (z : ZeroAt rest run tail) → rest ≡ take z.at rest ++ 0 ∷ tail
whole rest run tail z = sym (take-append-drop z.at rest) ∙ ap (λ bs. take z.at rest ++ bs) z.behind

pub text_ends : (rest run tail others : List ℕ) (mark : ℕ) → ZeroAt rest run tail → tail ≡ mark ∷ others → mark ≡ 1 → IsUtf8 run → (more : List ℕ) → (others ≡ more) ↔ TextFirst rest more
text_ends rest run tail others mark z first one u more = (to, λ t. from t (cases rest run tail more z t))
  where
    to : others ≡ more → TextFirst rest more
    to e = record {
      text = take z.at rest ++ [];
      utf8 = subst IsUtf8 (z.before ∙ sym (append-nil (take z.at rest))) u;
      occurs = whole rest run tail z ∙ ap (λ bs. take z.at rest ++ 0 ∷ bs) (first ∙ (λ i. one i ∷ e i))
          ∙ sym (append_assoc (take z.at rest) (0 ∷ 1 ∷ []) more) ∙ ap (λ key. key ++ more) (sym (run_first z.at rest [] z.none));
    }

    from : (t : TextFirst rest more) → AtZero run t.text tail more → others ≡ more
    from t (inl p) = tails mark 1 others more (sym first ∙ p.1)
    from t (inr p) = absurd (omega (arith, one, heads mark 255 others (text_key p.0 ++ more) (sym first ∙ p.2)))

pub text_goes_on : (rest run tail others : List ℕ) (mark : ℕ) → ZeroAt rest run tail → tail ≡ mark ∷ others → mark ≡ 255 → IsUtf8 run → (more : List ℕ) → TextFirst others more ↔ TextFirst rest more
text_goes_on rest run tail others mark z first last u more = (to, λ t. from t (cases rest run tail more z t))
  where
    to : TextFirst others more → TextFirst rest more
    to t = record {
      text = take z.at rest ++ 0 ∷ t.text;
      utf8 = utf8_both (take z.at rest) t.text (subst IsUtf8 z.before u) t.utf8;
      occurs = whole rest run tail z ∙ ap (λ bs. take z.at rest ++ 0 ∷ bs) (first ∙ (λ i. last i ∷ t.occurs i))
          ∙ sym (append_assoc (take z.at rest) (0 ∷ 255 ∷ text_key t.text) more) ∙ ap (λ key. key ++ more) (sym (run_first z.at rest (0 ∷ t.text) z.none));
    }

    from : (t : TextFirst rest more) → AtZero run t.text tail more → TextFirst others more
    from t (inl p) = absurd (omega (arith, last, heads mark 1 others more (sym first ∙ p.1)))
    from t (inr p) = record { text = p.0; utf8 = utf8_behind run p.0 (subst IsUtf8 p.1 t.utf8); occurs = tails mark 255 others (text_key p.0 ++ more) (sym first ∙ p.2) }
