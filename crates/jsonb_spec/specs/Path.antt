-- Keys as a path.
pub mod KeyEncoding
pub mod ErrorPath
use Rattle.std.specs.Prelude.{◌≡◌, ℕ, List, [], ◌∷◌, ◌++◌, codes, if◌then◌else◌, ◌==◌, IsUtf8}
use Rattle.std.specs.List.{AllByRecursion}
use Rattle.jsonb_spec.specs.Ascii as ascii

-- how a byte of a key is encoded: `~0` is `~`, and `~1` is `/`
abbrev pub encoded_byte : ℕ → List ℕ
encoded_byte byte = if byte == ascii.tilde then codes "~0" else if byte == ascii.slash then codes "~1" else byte ∷ []

-- how a key is encoded
abbrev pub encoded_key : List ℕ → List ℕ
encoded_key [] = []
encoded_key (byte ∷ bytes) = encoded_byte byte ++ encoded_key bytes

-- how a path is encoded: a slash before each key
abbrev pub encoded_keys : List (List ℕ) → List ℕ
encoded_keys [] = []
encoded_keys (key ∷ keys) = ascii.slash ∷ (encoded_key key ++ encoded_keys keys)

-- The bytes encode the path of these keys, each of which is a text.
pub record IsPath (bytes : List ℕ) (keys : List (List ℕ)) : Type 0 where
  pub texts : AllByRecursion IsUtf8 keys
  pub encoded : bytes ≡ encoded_keys keys

-- No byte of the key is escaped where the key is encoded.
abbrev pub IsPlainKey : List ℕ → Type 0
IsPlainKey key = AllByRecursion (λ byte. encoded_byte byte ≡ byte ∷ []) key

-- The bytes encode the path of these keys, no byte of which is escaped.
pub record IsPlainPath (bytes : List ℕ) (keys : List (List ℕ)) : Type 0 where
  pub is_path : IsPath bytes keys
  pub plain : AllByRecursion IsPlainKey keys

-- the bytes begin as the path of a key does
abbrev pub StartsKey : List ℕ → Type 0
StartsKey bytes = (rest : List ℕ) × (bytes ≡ ascii.slash ∷ rest)
