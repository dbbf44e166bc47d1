-- Texts decoded from keys, byte by byte.
use Rattle.std.proofs.Common.{◌≡◌, ℕ, zero, suc, List, [], ◌∷◌, ◌++◌, Option, Some, None, refl, sym, ap, ◌∙◌, arith, ◌==◌, append_assoc, append-nil}
use Rattle.std.proofs.lemmas.Bool.{ne_eqb, cond-false}
use Rattle.jsonb_spec.specs.SortKey.{text_key}
use Rattle.jsonb_core.proofs.SortKeys.Texts.{text_key-other}
use Rattle.jsonb_spec.specs.SortKey.Reading.{byte_of, read_as}

-- ---- what equations say

abbrev value_or : ℕ × List ℕ → Option (ℕ × List ℕ) → ℕ × List ℕ
value_or p None = p
value_or p (Some q) = q

pub some_pair : (a b : ℕ) (x y : List ℕ) → read_as a x ≡ read_as b y → (a ≡ b) × (x ≡ y)
some_pair a b x y e = (ap (λ (o : Option (ℕ × List ℕ)). (value_or (a, x) o).0) e, ap (λ (o : Option (ℕ × List ℕ)). (value_or (a, x) o).1) e)

pub none_some : {A : Type 0} (p : A) → None ≡ Some p → ⊥
none_some p e = cc

pub some_same : {A : Type 0} (x y : A) → Some x ≡ Some y → x ≡ y
some_same x y e = cc

-- ---- bytes

byte_there : (b : ℕ) (text more : List ℕ) → byte_of (text_key (b ∷ text) ++ more) ≡ read_as b (text_key text ++ more)
byte_there zero text more = refl
byte_there (suc b) text more =
    ap (λ key. byte_of (key ++ more)) (text_key-other b text)
    ∙ cond-false (suc b == 0) _ _ (ne_eqb (suc b) 0 (λ e. absurd (omega arith)))

-- Whatever text's key the bytes begin with, the text begins with what was read, and what is left begins with the key of
-- its rest.
abbrev pub ReadsText : List ℕ → List ℕ → List ℕ → Type 0
ReadsText bytes read rest = (text more : List ℕ) → bytes ≡ text_key text ++ more → (left : List ℕ) × (text ≡ read ++ left) × (rest ≡ text_key left ++ more)

pub text_begun : (bytes : List ℕ) → ReadsText bytes [] bytes
text_begun bytes = λ text more e. (text, refl, e)

pub byte_read : (bytes read rest others : List ℕ) (byte : ℕ) → ReadsText bytes read rest → read_as byte others ≡ byte_of rest → ReadsText bytes (read ++ byte ∷ []) others
byte_read bytes read rest others byte so_far is = λ text more e. let r = so_far text more e in goes_on text more r.0 r.1 r.2
  where
    goes_on : (text more left : List ℕ) → text ≡ read ++ left → rest ≡ text_key left ++ more → (left : List ℕ) × (text ≡ (read ++ byte ∷ []) ++ left) × (others ≡ text_key left ++ more)
    goes_on text more [] begin same = absurd (none_some (byte, others) (sym (is ∙ ap byte_of same)))
    goes_on text more (b ∷ left) begin same =
        let pair = some_pair byte b others (text_key left ++ more) (is ∙ ap byte_of same ∙ byte_there b left more) in
        (left, begin ∙ ap (λ c. read ++ c ∷ left) (sym pair.0) ∙ sym (append_assoc read (byte ∷ []) left), pair.1)

-- all of the text is read where no byte of it is left
pub text_ended : (bytes read rest : List ℕ) → ReadsText bytes read rest → None ≡ byte_of rest → (text more : List ℕ) → bytes ≡ text_key text ++ more → (text ≡ read) × (rest ≡ 0 ∷ 1 ∷ more)
text_ended bytes read rest so_far none text more e = let r = so_far text more e in ends r.0 r.1 r.2
  where
    ends : (left : List ℕ) → text ≡ read ++ left → rest ≡ text_key left ++ more → (text ≡ read) × (rest ≡ 0 ∷ 1 ∷ more)
    ends [] begin same = (begin ∙ append-nil read, same)
    ends (b ∷ left) begin same = absurd (none_some (b, text_key left ++ more) (none ∙ ap byte_of same ∙ byte_there b left more))
