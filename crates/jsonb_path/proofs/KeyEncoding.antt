-- Bytes, keys and paths in RFC 6901: each has one meaning.
use Rattle.std.proofs.Common.{◌≡◌, ◌≢◌, ℕ, List, [], ◌∷◌, ◌++◌, Bool, true, false, cond, eqb, eqb-true, Option, Some, None, map, string_bytes, String, Global, IsUtf8, refl, sym, ap, subst, ◌∙◌, append_assoc, append-nil}
use Rattle.std.proofs.lemmas.Str.{IsUtf8-string_bytes}
use Rattle.std.specs.List.{AllByRecursion}
use Rattle.jsonb_spec.specs.Path.{encoded_byte, encoded_key, encoded_keys, IsPath, StartsKey}
use Rattle.jsonb_spec.specs.Path.KeyEncoding.{escape_of, byte_of, Reads}

abbrev read_as : ℕ → List ℕ → Option (ℕ × List ℕ)
read_as b rest = Some (b, rest)

-- what equations of pairs and of lists say
abbrev value_or : ℕ × List ℕ → Option (ℕ × List ℕ) → ℕ × List ℕ
value_or p None = p
value_or p (Some q) = q

some_pair : (a b : ℕ) (x y : List ℕ) → read_as a x ≡ read_as b y → (a ≡ b) × (x ≡ y)
some_pair a b x y e = (ap (λ (o : Option (ℕ × List ℕ)). (value_or (a, x) o).0) e, ap (λ (o : Option (ℕ × List ℕ)). (value_or (a, x) o).1) e)

none_some : (p : ℕ × List ℕ) → None ≡ Some p → ⊥
none_some p e = cc

pub nil_cons : (x : ℕ) (xs : List ℕ) → [] ≡ x ∷ xs → ⊥
nil_cons x xs e = cc

pub cons_cons : (x y : ℕ) (xs ys : List ℕ) → x ∷ xs ≡ y ∷ ys → (x ≡ y) × (xs ≡ ys)
cons_cons x y xs ys e = (cc, cc)

-- an encoded byte is read
at_byte : (b : ℕ) (rest : List ℕ) → byte_of (encoded_byte b ++ rest) ≡ Some (b, rest)
at_byte b rest = by_tests (eqb b 126) (eqb b 47) refl refl
  where
    by_tests : (tilde slash : Bool) → eqb b 126 ≡ tilde → eqb b 47 ≡ slash → byte_of (cond tilde (126 ∷ 48 ∷ []) (cond slash (126 ∷ 49 ∷ []) (b ∷ [])) ++ rest) ≡ Some (b, rest)
    by_tests true slash e f = ap (λ n. Some (n, rest)) (sym (eqb-true b 126 e))
    by_tests false true e f = ap (λ n. Some (n, rest)) (sym (eqb-true b 47 f))
    by_tests false false e f = λ i. cond (f i) None (cond (e i) (escape_of rest) (read_as b rest))

-- what an escape is read as is encoded so
from_escape : (bytes rest : List ℕ) (b : ℕ) → escape_of bytes ≡ Some (b, rest) → 126 ∷ bytes ≡ encoded_byte b ++ rest
from_escape [] rest b e = absurd (none_some (b, rest) e)
from_escape (letter ∷ left) rest b e = by_tests (eqb letter 48) (eqb letter 49) refl refl e
  where
    by_tests : (zero_digit one : Bool) → eqb letter 48 ≡ zero_digit → eqb letter 49 ≡ one → cond zero_digit (read_as 126 left) (cond one (read_as 47 left) None) ≡ read_as b rest → 126 ∷ letter ∷ left ≡ encoded_byte b ++ rest
    by_tests true one f g same =
        let pair = some_pair 126 b left rest same in
        subst (λ n. 126 ∷ letter ∷ left ≡ encoded_byte n ++ rest) pair.0 (ap (λ n. 126 ∷ n ∷ left) (eqb-true letter 48 f) ∙ ap (λ l. 126 ∷ 48 ∷ l) pair.1)
    by_tests false true f g same =
        let pair = some_pair 47 b left rest same in
        subst (λ n. 126 ∷ letter ∷ left ≡ encoded_byte n ++ rest) pair.0 (ap (λ n. 126 ∷ n ∷ left) (eqb-true letter 49 g) ∙ ap (λ l. 126 ∷ 49 ∷ l) pair.1)
    by_tests false false f g same = absurd (none_some (b, rest) same)

-- what isn't escaped is encoded as it is
pub itself : (b : ℕ) → eqb b 126 ≡ false → eqb b 47 ≡ false → encoded_byte b ≡ b ∷ []
itself b e f = (λ i. cond (e i) (126 ∷ 48 ∷ []) (cond (f i) (126 ∷ 49 ∷ []) (b ∷ [])))

-- what is read as a byte is encoded so
pub from_byte : (bytes rest : List ℕ) (b : ℕ) → byte_of bytes ≡ Some (b, rest) → bytes ≡ encoded_byte b ++ rest
from_byte [] rest b e = absurd (none_some (b, rest) e)
from_byte (first ∷ left) rest b e = by_tests (eqb first 47) (eqb first 126) refl refl e
  where
    by_tests : (slash tilde : Bool) → eqb first 47 ≡ slash → eqb first 126 ≡ tilde → cond slash None (cond tilde (escape_of left) (read_as first left)) ≡ read_as b rest → first ∷ left ≡ encoded_byte b ++ rest
    by_tests true tilde f g same = absurd (none_some (b, rest) same)
    by_tests false true f g same = ap (λ n. n ∷ left) (eqb-true first 126 g) ∙ from_escape left rest b same
    by_tests false false f g same =
        let pair = some_pair first b left rest same in
        subst (λ n. first ∷ left ≡ encoded_byte n ++ rest) pair.0 (ap (λ l. first ∷ l) pair.1 ∙ sym (ap (λ l. l ++ rest) (itself first g f)))

pub encoded_key-append : (xs ys : List ℕ) → encoded_key (xs ++ ys) ≡ encoded_key xs ++ encoded_key ys
encoded_key-append [] ys = refl
encoded_key-append (x ∷ xs) ys = ap (λ l. encoded_byte x ++ l) (encoded_key-append xs ys) ∙ sym (append_assoc (encoded_byte x) (encoded_key xs) (encoded_key ys))

-- one more byte of a key
pub next_byte : (text key rest left : List ℕ) (b : ℕ) → text ≡ encoded_key key ++ rest → byte_of rest ≡ Some (b, left) → text ≡ encoded_key (key ++ b ∷ []) ++ left
next_byte text key rest left b so_far read =
    let last : encoded_key (key ++ b ∷ []) ≡ encoded_key key ++ encoded_byte b = encoded_key-append key (b ∷ []) ∙ ap (λ l. encoded_key key ++ l) (append-nil (encoded_byte b)) in
    so_far ∙ ap (λ l. encoded_key key ++ l) (from_byte rest left b read) ∙ sym (append_assoc (encoded_key key) (encoded_byte b) left) ∙ sym (ap (λ l. l ++ left) last)

-- two keys with one encoding, as far as it goes, are one key
pub one_key : (k l r s : List ℕ) → byte_of r ≡ None → byte_of s ≡ None → encoded_key k ++ r ≡ encoded_key l ++ s → (k ≡ l) × (r ≡ s)
one_key [] [] r s left right same = (refl, same)
one_key [] (b ∷ l) r s left right same =
    let read : byte_of r ≡ Some (b, encoded_key l ++ s) = ap byte_of (same ∙ append_assoc (encoded_byte b) (encoded_key l) s) ∙ at_byte b (encoded_key l ++ s) in
    absurd (none_some (b, encoded_key l ++ s) (sym left ∙ read))
one_key (a ∷ k) [] r s left right same =
    let read : byte_of s ≡ Some (a, encoded_key k ++ r) = ap byte_of (sym same ∙ append_assoc (encoded_byte a) (encoded_key k) r) ∙ at_byte a (encoded_key k ++ r) in
    absurd (none_some (a, encoded_key k ++ r) (sym right ∙ read))
one_key (a ∷ k) (b ∷ l) r s left right same =
    let whole : encoded_byte a ++ (encoded_key k ++ r) ≡ encoded_byte b ++ (encoded_key l ++ s) = sym (append_assoc (encoded_byte a) (encoded_key k) r) ∙ same ∙ append_assoc (encoded_byte b) (encoded_key l) s in
    let read : read_as a (encoded_key k ++ r) ≡ read_as b (encoded_key l ++ s) = sym (at_byte a (encoded_key k ++ r)) ∙ ap byte_of whole ∙ at_byte b (encoded_key l ++ s) in
    let pair = some_pair a b (encoded_key k ++ r) (encoded_key l ++ s) read in
    let rest = one_key k l r s left right pair.1 in
    (λ i. pair.0 i ∷ rest.0 i, rest.1)

encoded_keys-append : (xs ys : List (List ℕ)) → encoded_keys (xs ++ ys) ≡ encoded_keys xs ++ encoded_keys ys
encoded_keys-append [] ys = refl
encoded_keys-append (x ∷ xs) ys = ap (λ l. 47 ∷ (encoded_key x ++ l)) (encoded_keys-append xs ys) ∙ ap (λ l. 47 ∷ l) (sym (append_assoc (encoded_key x) (encoded_keys xs) (encoded_keys ys)))

-- a path is no part of a key
pub ended : (keys : List (List ℕ)) → byte_of (encoded_keys keys) ≡ None
ended [] = refl
ended (key ∷ keys) = refl

-- after one more key
pub after_key : (bytes : List ℕ) (keys : List (List ℕ)) (text key rest : List ℕ) → Reads bytes keys (47 ∷ text) → text ≡ encoded_key key ++ rest → byte_of rest ≡ None → Reads bytes (keys ++ key ∷ []) rest
after_key bytes keys text key rest so_far is whole = record {
  encoded = so_far.encoded ∙ ap (λ l. encoded_keys keys ++ 47 ∷ l) is ∙ sym last;
  only = λ others same. let r = so_far.only others same in goes_on others r.0 r.1 r.2;
}
  where
    last : encoded_keys (keys ++ key ∷ []) ++ rest ≡ encoded_keys keys ++ 47 ∷ (encoded_key key ++ rest)
    last =
        ap (λ l. l ++ rest) (encoded_keys-append keys (key ∷ []) ∙ ap (λ l. encoded_keys keys ++ 47 ∷ l) (append-nil (encoded_key key)))
        ∙ append_assoc (encoded_keys keys) (47 ∷ encoded_key key) rest

    goes_on : (others more : List (List ℕ)) → others ≡ keys ++ more → 47 ∷ text ≡ encoded_keys more → (left : List (List ℕ)) × (others ≡ (keys ++ key ∷ []) ++ left) × (rest ≡ encoded_keys left)
    goes_on others [] begin encodes = absurd (nil_cons 47 text (sym encodes))
    goes_on others (k ∷ left) begin encodes =
        let behind = (cons_cons 47 47 text (encoded_key k ++ encoded_keys left) encodes).1 in
        let one = one_key key k rest (encoded_keys left) whole (ended left) (sym is ∙ behind) in
        (left, begin ∙ ap (λ x. keys ++ x ∷ left) (sym one.0) ∙ sym (append_assoc keys (key ∷ []) left), one.1)

texts_of : (strings : List (String Global)) → AllByRecursion IsUtf8 (map string_bytes strings)
texts_of [] = tt
texts_of (s ∷ strings) = (IsUtf8-string_bytes s, texts_of strings)

-- all of it is read
pub path_read : (bytes : List ℕ) (strings : List (String Global)) → Reads bytes (map string_bytes strings) [] → IsPath bytes (map string_bytes strings)
path_read bytes strings r = record { texts = texts_of strings; encoded = r.encoded ∙ append-nil (encoded_keys (map string_bytes strings)) }

pub path_alone : (bytes : List ℕ) (keys others : List (List ℕ)) → Reads bytes keys [] → IsPath bytes others → others ≡ keys
path_alone bytes keys others r path = let left = r.only others path.encoded in alone left.0 left.1 left.2
  where
    alone : (more : List (List ℕ)) → others ≡ keys ++ more → [] ≡ encoded_keys more → others ≡ keys
    alone [] same nothing = same ∙ append-nil keys
    alone (k ∷ more) same nothing = absurd (nil_cons 47 (encoded_key k ++ encoded_keys more) nothing)

-- what has a key begins with a slash
pub starts : (bytes : List ℕ) (keys : List (List ℕ)) (more : List ℕ) → Reads bytes keys (47 ∷ more) → StartsKey bytes
starts bytes [] more r = (more, r.encoded)
starts bytes (key ∷ keys) more r = ((encoded_key key ++ encoded_keys keys) ++ 47 ∷ more, r.encoded)

-- what is left begins with no slash
pub no_slash : (bytes : List ℕ) (keys others : List (List ℕ)) (first : ℕ) (left : List ℕ) → Reads bytes keys (first ∷ left) → first ≢ 47 → IsPath bytes others → ⊥
no_slash bytes keys others first left r other path = let more = r.only others path.encoded in begins more.0 more.2
  where
    begins : (more : List (List ℕ)) → first ∷ left ≡ encoded_keys more → ⊥
    begins [] same = nil_cons first left (sym same)
    begins (k ∷ more) same = other (cons_cons first 47 left (encoded_key k ++ encoded_keys more) same).0

key_among : (keys more : List (List ℕ)) (key : List ℕ) → AllByRecursion IsUtf8 ((keys ++ key ∷ []) ++ more) → IsUtf8 key
key_among [] more key h = h.0
key_among (k ∷ keys) more key h = key_among keys more key h.1

-- a key that was read is no text
pub no_text : (bytes : List ℕ) (keys others : List (List ℕ)) (key rest : List ℕ) → Reads bytes (keys ++ key ∷ []) rest → (IsUtf8 key → ⊥) → IsPath bytes others → ⊥
no_text bytes keys others key rest r not_text path =
    let more = r.only others path.encoded in
    not_text (key_among keys more.0 key (subst (AllByRecursion IsUtf8) more.1 path.texts))

-- a path is encoded by one list of keys
pub one_path : (keys others : List (List ℕ)) → encoded_keys keys ≡ encoded_keys others → keys ≡ others
one_path [] [] same = refl
one_path [] (l ∷ others) same = absurd (nil_cons 47 (encoded_key l ++ encoded_keys others) same)
one_path (k ∷ keys) [] same = absurd (nil_cons 47 (encoded_key k ++ encoded_keys keys) (sym same))
one_path (k ∷ keys) (l ∷ others) same =
    let behind = (cons_cons 47 47 (encoded_key k ++ encoded_keys keys) (encoded_key l ++ encoded_keys others) same).1 in
    let one = one_key k l (encoded_keys keys) (encoded_keys others) (ended keys) (ended others) behind in
    ap (λ key. key ∷ keys) one.0 ∙ ap (λ left. l ∷ left) (one_path keys others one.1)
