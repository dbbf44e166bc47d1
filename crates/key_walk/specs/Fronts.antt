-- The first bytes of the key of a name as a number.
use Rattle.std.specs.Prelude.{◌≡◌, ◌≢◌, ℕ, ◌+◌, ◌*◌, ◌<◌, ◌≤◌, List, length, drop}
use Rattle.jsonb_spec.specs.SortKey.{text_key}
use Rattle.key_walk.specs.declared.names.Front.{Front}
use Rattle.jsonb_spec.specs.SortKey.Front.{AreNoZeros, number_of}

-- The front is that of the key: the number of so many first bytes of it, and either these are the whole key, or no size
-- of it is held.
pub record IsKeyFront (key : List ℕ) (front : Front) : Type 0 where
  pub count : ℕ
  pub some : 0 < count
  pub bits : front.low + 8 * count ≡ 64
  pub within : count ≤ length key
  pub is : front.number ≡ number_of count key
  pub whole : 0 < front.size → (front.size ≡ count) × (count ≡ length key)

-- The front is that of the key of the name.
abbrev pub IsFront : List ℕ → Front → Type 0
IsFront name front = IsKeyFront (text_key name) front

-- The front is that of the name, or isn't made yet.
abbrev pub IsMade : List ℕ → Front → Type 0
IsMade name front = front.low ≢ 64 → IsFront name front

-- The front is that of what is behind the first 8 bytes of the name, or isn't made yet.
abbrev pub IsNext : List ℕ → Front → Type 0
IsNext name front = IsMade (drop 8 name) front

-- The first 8 bytes of the bytes and of the name's key are the same, and 7 of these are no zeros.
pub record BeginAlike (name bytes : List ℕ) : Type 0 where
  pub enough : 8 ≤ length bytes
  pub same : number_of 8 bytes ≡ number_of 8 (text_key name)
  pub plain : AreNoZeros name 7
