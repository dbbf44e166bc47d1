-- The table of the fingerprints of keys, which shows that keys are different.
use Rattle.std.specs.Prelude.{◌≡◌, ◌≢◌, ℕ, ◌+◌, ◌-◌, ◌*◌, ◌/◌, ◌%◌, ◌^◌, ◌<◌, nat_lt, if◌then◌else◌, List, length, slice_range, slice_index_or}
use Rattle.text_members.specs.Members.{prefix_of}

-- what spreads numbers
abbrev pub spread : ℕ
spread = 11400714819323198485

-- the last 8 bytes of a key as a number
abbrev pub suffix_of : List ℕ → ℕ
suffix_of key = prefix_of (slice_range key (length key - 8) (length key))

-- the fingerprint of a key, given its prefix
abbrev pub fingerprint_of : ℕ → List ℕ → ℕ
fingerprint_of prefix key = if nat_lt 8 (length key)
    then ((suffix_of key + length key) % 2 ^ 64 * spread % 2 ^ 64 + prefix) % 2 ^ 64
    else prefix

-- the slot from which on a fingerprint is looked for, of 2 ^ bits slots
abbrev pub home_of : ℕ → ℕ → ℕ
home_of bits number = number * spread % 2 ^ 64 / 2 ^ (64 - bits)

-- what is held of a fingerprint
abbrev pub tag_of : ℕ → ℕ
tag_of number = number * 15241094284759029579 % 2 ^ 64 / 2 ^ 32 % 2 ^ 32

-- A tag other than 0 is in a row of slots, and none is free from its home up to it.
pub record IsIn (row : List ℕ) (home tag : ℕ) : Type 0 where
  pub some : tag ≢ 0
  pub steps : ℕ
  pub there : slice_index_or row (home + steps) 0 ≡ tag
  pub taken : (k : ℕ) → k < steps → slice_index_or row (home + k) 0 ≢ 0
