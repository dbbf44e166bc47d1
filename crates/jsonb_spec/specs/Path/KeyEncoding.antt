-- A path parsed from left to right.
use Rattle.std.specs.Prelude.{◌≡◌, ◌≤◌, ℕ, List, [], ◌∷◌, ◌++◌, length, take, drop, Option, Some, None, if◌then◌else◌, ◌==◌, IsUtf8}
use Rattle.std.specs.Str.{IsAscii}
use Rattle.jsonb_spec.specs.Ascii as ascii
use Rattle.jsonb_spec.specs.Path.{encoded_key, encoded_keys}

-- the byte that an escape means by what follows its `~`, and what is left
abbrev pub escape_of : List ℕ → Option (ℕ × List ℕ)
escape_of [] = None
escape_of (letter ∷ rest) =
    if letter == ascii.digit_zero then Some (ascii.tilde, rest)
    else if letter == ascii.digit_one then Some (ascii.slash, rest)
    else None

-- the byte of a key whose encoding the bytes begin with, and what is left
abbrev pub byte_of : List ℕ → Option (ℕ × List ℕ)
byte_of [] = None
byte_of (byte ∷ rest) =
    if byte == ascii.slash then None else if byte == ascii.tilde then escape_of rest else Some (byte, rest)

-- The bytes begin with the encoding of these keys, and each path that the bytes encode begins with these keys and goes
-- on with what the rest encodes.
pub record Reads (bytes : List ℕ) (keys : List (List ℕ)) (rest : List ℕ) : Type 0 where
  pub encoded : bytes ≡ encoded_keys keys ++ rest
  pub only : (others : List (List ℕ)) → bytes ≡ encoded_keys others
      → (more : List (List ℕ)) × (others ≡ keys ++ more) × (rest ≡ encoded_keys more)

-- The bytes begin with a key that is encoded as it is, without an escape, and what is left begins with no byte of a
-- key.
pub record BeginsPlain (bytes key rest : List ℕ) : Type 0 where
  pub whole : bytes ≡ key ++ rest
  pub encoded : encoded_key key ≡ key
  pub ended : byte_of rest ≡ None

-- So many of the first bytes are a key that is encoded as it is, and are a text.
pub record BeginsPlainText (bytes : List ℕ) (len : ℕ) : Type 0 where
  pub within : len ≤ length bytes
  pub plain : BeginsPlain bytes (take len bytes) (drop len bytes)
  pub text : IsUtf8 (take len bytes)

-- So many of the first bytes are ASCII and encoded as they are.
pub record BeginsAscii (bytes : List ℕ) (len : ℕ) : Type 0 where
  pub within : len ≤ length bytes
  pub encoded : encoded_key (take len bytes) ≡ take len bytes
  pub ascii : IsAscii (take len bytes)
