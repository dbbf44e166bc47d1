-- Which sources are equal by parts, and which hold no memory.
use Rattle.std.specs.Prelude.{Bool, true, false, ◌&&◌, ◌==◌, bytes_eq, ⊤}
use Rattle.std.specs.Ordering.{bool_cmp, eq_by_cmp}
use Rattle.jsonb_spec.specs.Order.{num_cmp}
use Rattle.jsonb_spec.specs.Tree.{escaped}
use Rattle.jsonb_spec.specs.Source.{Source, null_source, boolean_source, string_source, number_source, array_source, object_source, Sources, no_sources, more_sources, SourceMembers, no_source_members, more_source_members}

-- it holds no other source and no text of its own, so that a copy takes no memory
abbrev pub SourceHoldsNoMemory : Source → Type 0
SourceHoldsNoMemory (string_source escaped s) = ⊥
SourceHoldsNoMemory (array_source ss) = ⊥
SourceHoldsNoMemory (object_source ms) = ⊥
SourceHoldsNoMemory s = ⊤

abbrev mutual
  -- by parts: texts by their bytes and numbers by their values
  pub source_eq : Source → Source → Bool
  source_eq null_source null_source = true
  source_eq (boolean_source b) (boolean_source c) = eq_by_cmp bool_cmp b c
  source_eq (string_source k s) (string_source l t) = bytes_eq s t
  source_eq (number_source m) (number_source n) = eq_by_cmp num_cmp m n
  source_eq (array_source ss) (array_source ts) = sources_eq ss ts
  source_eq (object_source ms) (object_source ns) = source_members_eq ms ns
  source_eq s t = false

  pub sources_eq : Sources → Sources → Bool
  sources_eq no_sources no_sources = true
  sources_eq (more_sources s ss) (more_sources t ts) = source_eq s t && sources_eq ss ts
  sources_eq ss ts = false

  pub source_members_eq : SourceMembers → SourceMembers → Bool
  source_members_eq no_source_members no_source_members = true
  source_members_eq (more_source_members a k s i ms) (more_source_members b l t j ns) = bytes_eq k l && source_eq s t
      && i == j && source_members_eq ms ns
  source_members_eq ms ns = false
