-- Keys that are encoded as they are.
use Rattle.std.proofs.Common.{◌≡◌, ◌≢◌, ◌<◌, ℕ, List, [], ◌+◌, ◌∷◌, ◌++◌, length, take, drop, None, arith, refl, sym, ap, subst, ◌∙◌, append_assoc}
use Rattle.std.proofs.Math.Seq.{take-append_seam}
use Rattle.std.proofs.lemmas.Bool.{ne_eqb}
use Rattle.std.proofs.lemmas.List.{length-append, take-append-drop}
use Rattle.std.proofs.lemmas.Str.{IsAscii-append, IsUtf8-from_ascii}
use Rattle.std.proofs.lemmas.Str.Ascii.{IsAscii-cons, IsAscii-nil}
use Rattle.std.specs.Str.{IsAscii}
use Rattle.jsonb_spec.specs.Path.{encoded_byte, encoded_key, encoded_keys, IsPath, IsPlainKey}
use Rattle.jsonb_spec.specs.Path.KeyEncoding.{byte_of, BeginsAscii, BeginsPlain, BeginsPlainText}
use Rattle.jsonb_path.proofs.KeyEncoding.{cons_cons, ended, itself, nil_cons, one_key, encoded_key-append}

-- the text so far is encoded as it is
pub record PlainSoFar (text rest : List ℕ) (len : ℕ) : Type 0 where
  pub key : List ℕ
  pub whole : text ≡ key ++ rest
  pub encoded : encoded_key key ≡ key
  pub counted : len ≡ length key
  pub plain : IsPlainKey key

last_byte : (key : List ℕ) (byte : ℕ) → IsPlainKey key → encoded_byte byte ≡ byte ∷ [] → IsPlainKey (key ++ byte ∷ [])
last_byte [] byte p one = (one, tt)
last_byte (b ∷ key) byte p one = (p.0, last_byte key byte p.1 one)

pub plain_byte : (text rest others : List ℕ) (len next byte : ℕ) → PlainSoFar text rest len → rest ≡ byte ∷ others → next ≡ len + 1 → byte ≢ 47 → byte ≢ 126 → PlainSoFar text others next
plain_byte text rest others len next byte p first one no_slash no_tilde = record {
  key = p.key ++ byte ∷ [];
  whole = p.whole ∙ ap (λ l. p.key ++ l) first ∙ sym (append_assoc p.key (byte ∷ []) others);
  encoded = encoded_key-append p.key (byte ∷ []) ∙ ap (λ l. l ++ (encoded_byte byte ++ [])) p.encoded ∙ ap (λ l. p.key ++ (l ++ [])) (itself byte (ne_eqb byte 126 no_tilde) (ne_eqb byte 47 no_slash));
  counted = omega (arith, p.counted, one, length-append p.key (byte ∷ []));
  plain = last_byte p.key byte p.plain (itself byte (ne_eqb byte 126 no_tilde) (ne_eqb byte 47 no_slash));
}

-- where no byte is escaped, the key is encoded as it is
pub plain_itself : (key : List ℕ) → IsPlainKey key → encoded_key key ≡ key
plain_itself [] p = refl
plain_itself (b ∷ key) p = ap (λ l. l ++ encoded_key key) p.0 ∙ ap (λ l. b ∷ l) (plain_itself key p.1)

-- no byte of the path of keys that aren't escaped is a tilde
pub tilde_among : (front key others : List ℕ) (keys : List (List ℕ)) → IsPlainKey front → IsPlainKey key → front ++ 126 ∷ others ≡ key ++ encoded_keys keys → ⊥
tilde_among [] [] others [] p q same = nil_cons 126 others (sym same)
tilde_among [] [] others (k ∷ keys) p q same = omega (arith, (cons_cons 126 47 others (encoded_key k ++ encoded_keys keys) same).0)
tilde_among [] (b ∷ key) others keys p q same =
    let tilde : 126 ≡ b = (cons_cons 126 b others (key ++ encoded_keys keys) same).0 in
    let escaped : encoded_byte 126 ≡ 126 ∷ [] = subst (λ n. encoded_byte n ≡ n ∷ []) (sym tilde) q.0 in
    nil_cons 48 [] (sym (cons_cons 126 126 (48 ∷ []) [] escaped).1)
tilde_among (a ∷ front) [] others [] p q same = nil_cons a (front ++ 126 ∷ others) (sym same)
tilde_among (a ∷ front) [] others (k ∷ keys) p q same =
    let slash : a ≡ 47 = (cons_cons a 47 (front ++ 126 ∷ others) (encoded_key k ++ encoded_keys keys) same).0 in
    let escaped : encoded_byte 47 ≡ 47 ∷ [] = subst (λ n. encoded_byte n ≡ n ∷ []) slash p.0 in
    omega (arith, (cons_cons 126 47 (49 ∷ []) [] escaped).0)
tilde_among (a ∷ front) (b ∷ key) others keys p q same =
    tilde_among front key others keys p.1 q.1 (cons_cons a b (front ++ 126 ∷ others) (key ++ encoded_keys keys) same).1

-- where a tilde comes next, a byte is escaped
pub plain_stopped : (text rest others : List ℕ) (len byte : ℕ) → PlainSoFar text rest len → rest ≡ byte ∷ others → byte ≡ 126 → (key : List ℕ) → (keys : List (List ℕ)) → text ≡ key ++ encoded_keys keys → IsPlainKey key → ⊥
plain_stopped text rest others len byte p first tilde = λ key keys same plain.
    tilde_among p.key key others keys p.plain plain (ap (λ n. p.key ++ n ∷ others) (sym tilde) ∙ ap (λ l. p.key ++ l) (sym first) ∙ sym p.whole ∙ same)

-- what is behind the slash of a path
pub behind_slash : (path text key : List ℕ) (keys : List (List ℕ)) → path ≡ 47 ∷ text → IsPath path (key ∷ keys) → text ≡ encoded_key key ++ encoded_keys keys
behind_slash path text key keys first is_path = (cons_cons 47 47 text (encoded_key key ++ encoded_keys keys) (sym first ∙ is_path.encoded)).1

-- ---- ASCII

-- the text so far is ASCII, and is encoded as it is
pub record AsciiSoFar (text rest : List ℕ) (len : ℕ) : Type 0 where
  pub key : List ℕ
  pub whole : text ≡ key ++ rest
  pub encoded : encoded_key key ≡ key
  pub counted : len ≡ length key
  pub ascii : IsAscii key

pub ascii_begun : (text : List ℕ) → AsciiSoFar text text 0
ascii_begun text = record { key = []; whole = refl; encoded = refl; counted = refl; ascii = IsAscii-nil }

pub ascii_byte : (text rest others : List ℕ) (len byte : ℕ) → AsciiSoFar text rest len → rest ≡ byte ∷ others → byte < 126 → byte ≢ 47 → AsciiSoFar text others (len + 1)
ascii_byte text rest others len byte p first low no_slash = record {
  key = p.key ++ byte ∷ [];
  whole = p.whole ∙ ap (λ l. p.key ++ l) first ∙ sym (append_assoc p.key (byte ∷ []) others);
  encoded = encoded_key-append p.key (byte ∷ []) ∙ ap (λ l. l ++ (encoded_byte byte ++ [])) p.encoded ∙ ap (λ l. p.key ++ (l ++ [])) (itself byte (ne_eqb byte 126 (λ e. omega (arith, low, e))) (ne_eqb byte 47 no_slash));
  counted = omega (arith, p.counted, length-append p.key (byte ∷ []));
  ascii = IsAscii-append p.key (byte ∷ []) p.ascii (IsAscii-cons byte [] (omega (arith, low)) IsAscii-nil);
}

pub ascii_ended : (text rest : List ℕ) (len : ℕ) → AsciiSoFar text rest len → BeginsAscii text len
ascii_ended text rest len p =
    let front : take len text ≡ p.key = ap (λ n. take n text) p.counted ∙ ap (take (length p.key)) p.whole ∙ take-append_seam p.key rest in
    record {
      within = omega (arith, p.counted, ap length p.whole, length-append p.key rest);
      encoded = subst (λ key. encoded_key key ≡ key) (sym front) p.encoded;
      ascii = subst IsAscii (sym front) p.ascii;
    }

-- what is ASCII up to the end of a key is that key
pub ascii_key : (text : List ℕ) (len : ℕ) → BeginsAscii text len → byte_of (drop len text) ≡ None → BeginsPlainText text len
ascii_key text len p over = record {
  within = p.within;
  plain = record { whole = sym (take-append-drop len text); encoded = p.encoded; ended = over };
  text = IsUtf8-from_ascii (take len text) p.ascii;
}

-- the key that the text begins with is the one that is read
pub same_key : (text name others key : List ℕ) (keys : List (List ℕ)) → BeginsPlain text name others → text ≡ key ++ encoded_keys keys → IsPlainKey key → name ≡ key
same_key text name others key keys read e plain =
    (one_key name key others (encoded_keys keys) read.ended (ended keys)
    (ap (λ l. l ++ others) read.encoded ∙ sym read.whole ∙ e ∙ ap (λ l. l ++ encoded_keys keys) (sym (plain_itself key plain)))).0
