-- What is stored of a value: its sort key, and after it the zeros that end its decimals.
pub mod Counts
pub mod Zeros
pub mod Numbers
pub mod PartsOf
pub mod Scan
pub mod TextAndZeros
pub mod Check
pub mod Walk
pub mod PartAt
use Rattle.std.specs.Prelude.{◌≡◌, ◌≢◌, ℕ, zero, suc, List, [], ◌∷◌, ◌++◌, length, reverse}
use Rattle.jsonb_spec.specs.SortKey.Readable.{IsReadable}
use Rattle.jsonb_spec.specs.SortKey.{key_of}
use Rattle.jsonb_spec.specs.Tree.{Tree}
use Rattle.jsonb_spec.specs.Document.Counts.{counts_at}
use Rattle.jsonb_spec.specs.Document.Zeros.{in_sevens, zeros_of}

-- the last byte of a document with zeros, which ends no key
abbrev pub zeros_mark : ℕ
zeros_mark = 0xFF

-- What follows zeros that take so many bytes: nothing where there are none, and else that number, which is read from
-- the end: the mark, and seven bits in a byte, the lowest first.
abbrev pub end_of : ℕ → List ℕ
end_of zero = []
end_of (suc size) = reverse (zeros_mark ∷ in_sevens 8 (suc size))

-- what follows a key: the zeros, and their end
abbrev pub behind_key : List ℕ → List ℕ
behind_key zeros = zeros ++ end_of (length zeros)

-- the zeros that end a value's decimals, by the bytes of its key
abbrev pub zeros_at : Tree → List ℕ
zeros_at t = zeros_of 0 (counts_at t)

-- the document of a value
abbrev pub document_of : Tree → List ℕ
document_of t = key_of t ++ behind_key (zeros_at t)

-- Whichever value's document the bytes are, this is so of the value.
abbrev pub OfDocument : List ℕ → (Tree → Type 0) → Type 0
OfDocument bytes Is = (t : Tree) → IsReadable t → bytes ≡ document_of t → Is t

-- The bytes end, and with another byte than this.
pub record EndsUnlike (byte : ℕ) (bytes : List ℕ) : Type 0 where
  pub front : List ℕ
  pub last : ℕ
  pub is : bytes ≡ front ++ last ∷ []
  pub other : last ≢ byte
