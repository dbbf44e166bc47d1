-- Paths, key by key and byte by byte.
use Rattle.std.proofs.Common.{◌≡◌, ℕ, ◌+◌, ◌<◌, length, get_or, take, List, [], ◌∷◌, ◌++◌, sym, ap, ◌∙◌, append_assoc, append-nil, map, String, Global, string_bytes, IsUtf8, refl}
use Rattle.std.proofs.lemmas.List.{map-append, take_more}
use Rattle.std.proofs.lemmas.Str.{IsUtf8-string_bytes}
use Rattle.std.specs.List.{AllByRecursion}
use Rattle.jsonb_spec.specs.Path.{encoded_byte, encoded_key, encoded_keys}

pub key_then : (front : List ℕ) (byte : ℕ) → encoded_key (front ++ byte ∷ []) ≡ encoded_key front ++ encoded_byte byte
key_then [] byte = append-nil (encoded_byte byte)
key_then (b ∷ front) byte = ap (λ bs. encoded_byte b ++ bs) (key_then front byte) ∙ sym (append_assoc (encoded_byte b) (encoded_key front) (encoded_byte byte))

pub keys_joined : (front back : List (List ℕ)) → encoded_keys (front ++ back) ≡ encoded_keys front ++ encoded_keys back
keys_joined [] back = refl
keys_joined (k ∷ front) back =
    ap (λ bs. 47 ∷ (encoded_key k ++ bs)) (keys_joined front back) ∙ ap (λ bs. 47 ∷ bs) (sym (append_assoc (encoded_key k) (encoded_keys front) (encoded_keys back)))

pub texts_of : (strings : List (String Global)) → AllByRecursion IsUtf8 (map string_bytes strings)
texts_of [] = tt
texts_of (s ∷ strings) = (IsUtf8-string_bytes s, texts_of strings)

-- a byte more
pub key_step : (old now new key : List ℕ) (i : ℕ) → i < length key → now ≡ old ++ encoded_key (take i key) → new ≡ now ++ encoded_byte (get_or key i 0) → new ≡ old ++ encoded_key (take (i + 1) key)
key_step old now new key i inside before after =
    let b = get_or key i 0 in
    after ∙ ap (λ xs. xs ++ encoded_byte b) before ∙ append_assoc old (encoded_key (take i key)) (encoded_byte b)
    ∙ ap (λ bs. old ++ bs) (sym (key_then (take i key) b) ∙ ap encoded_key (sym (take_more key i 0 inside)))

-- a key more
pub keys_step : (old now new : List ℕ) (keys : List (String Global)) (i : ℕ) (key : String Global) (bytes : List ℕ) → i < length keys → key ≡ get_or keys i key → now ≡ old ++ encoded_keys (map string_bytes (take i keys)) → bytes ≡ string_bytes key → new ≡ now ++ encoded_keys (bytes ∷ []) → new ≡ old ++ encoded_keys (map string_bytes (take (i + 1) keys))
keys_step old now new keys i key bytes inside item before is after =
    let more : take (i + 1) keys ≡ take i keys ++ key ∷ [] = take_more keys i key inside ∙ ap (λ x. take i keys ++ x ∷ []) (sym item) in
    let front = map string_bytes (take i keys) in
    let last = string_bytes key ∷ [] in
    after ∙ ap (λ b. now ++ encoded_keys (b ∷ [])) is ∙ ap (λ xs. xs ++ encoded_keys last) before ∙ append_assoc old (encoded_keys front) (encoded_keys last)
    ∙ ap (λ bs. old ++ bs) (sym (keys_joined front last) ∙ ap encoded_keys (sym (ap (map string_bytes) more ∙ map-append string_bytes (take i keys) (key ∷ []))))
