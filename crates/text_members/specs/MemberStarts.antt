-- Members that are begun in what is written, and what is held of each.
use Rattle.std.specs.Prelude.{◌≡◌, ℕ, ◌≤◌, true, List, [], ◌∷◌, length}
use Rattle.std.specs.Str.{IsUtf8}
use Rattle.jsonb_spec.specs.Source.{Spot}
use Rattle.text_members.specs.Members.{IsKeyed, spot_in}
use Rattle.text_members.specs.declared.members.Member.{Member}

-- A key with the offset after it, and where its member begins in what is written.
pub record MemberStart : Type 0 where
  pub spot : Spot
  pub start : ℕ

-- What is held is of that member, and a key that was decoded is among the keys that were.
pub record IsVerbatim (text decoded : List ℕ) (m : Member) (b : MemberStart) : Type 0 where
  pub spot : spot_in text decoded m ≡ b.spot
  pub starts : m.start ≡ b.start
  pub keyed : IsKeyed text decoded m
  pub within : m.decoded ≡ true → m.to ≤ length decoded

-- Each is held, and the keys are UTF-8.
abbrev pub AreEntries : List ℕ → List ℕ → List Member → List MemberStart → Type 0
AreEntries text decoded [] [] = Unit {0}
AreEntries text decoded (m ∷ ms) (b ∷ bs) =
    IsVerbatim text decoded m b × (IsUtf8 b.spot.key × AreEntries text decoded ms bs)
AreEntries text decoded ms bs = ⊥
