-- Equality by parts is an equivalence. The laws of `Eq` cite this.
use Rattle.std.proofs.Common.{◌≡◌, true, ◌&&◌, ◌==◌, bytes_eq, refl}
use Rattle.std.specs.Ordering.{bool_cmp, eq_by_cmp}
use Rattle.std.specs.Cmp.{IsEquivalence, first_so, second_so, eq_by_cmp_equiv, bool_cmp_total, nat_eq_equiv}
use Rattle.std.specs.Cmp.Lexicographic.{nat_list_eq_equiv}
use Rattle.jsonb_core.specs.Order.NumberLaws.{num_cmp_total}
use Rattle.jsonb_spec.specs.Order.{num_cmp}
use Rattle.jsonb_spec.specs.Source.{Source, null_source, boolean_source, string_source, number_source, array_source, object_source, Sources, no_sources, more_sources, SourceMembers, no_source_members, more_source_members}
use Rattle.jsonb_spec.specs.Source.Equality.{source_eq, sources_eq, source_members_eq}

bools : IsEquivalence (eq_by_cmp bool_cmp)
bools = eq_by_cmp_equiv bool_cmp_total

nums : IsEquivalence (eq_by_cmp num_cmp)
nums = eq_by_cmp_equiv num_cmp_total

mutual
  same_refl : (s : Source) → source_eq s s ≡ true
  same_refl null_source = refl
  same_refl (boolean_source b) = bools.refl b
  same_refl (string_source k s) = nat_list_eq_equiv.refl s
  same_refl (number_source n) = nums.refl n
  same_refl (array_source ss) = sources_refl ss
  same_refl (object_source ms) = source_members_refl ms

  sources_refl : (ss : Sources) → sources_eq ss ss ≡ true
  sources_refl no_sources = refl
  sources_refl (more_sources s ss) = λ i. same_refl s i && sources_refl ss i

  source_members_refl : (ms : SourceMembers) → source_members_eq ms ms ≡ true
  source_members_refl no_source_members = refl
  source_members_refl (more_source_members a k s n ms) = λ i. nat_list_eq_equiv.refl k i && same_refl s i
      && nat_eq_equiv.refl n i && source_members_refl ms i

mutual
  same_symm : (s t : Source) → source_eq s t ≡ source_eq t s
  same_symm null_source null_source = refl
  same_symm (boolean_source b) (boolean_source c) = bools.symm b c
  same_symm (string_source k s) (string_source l t) = nat_list_eq_equiv.symm s t
  same_symm (number_source m) (number_source n) = nums.symm m n
  same_symm (array_source ss) (array_source ts) = sources_symm ss ts
  same_symm (object_source ms) (object_source ns) = source_members_symm ms ns
  same_symm s t = refl

  sources_symm : (ss ts : Sources) → sources_eq ss ts ≡ sources_eq ts ss
  sources_symm no_sources no_sources = refl
  sources_symm (more_sources s ss) (more_sources t ts) = λ i. same_symm s t i && sources_symm ss ts i
  sources_symm ss ts = refl

  source_members_symm : (ms ns : SourceMembers) → source_members_eq ms ns ≡ source_members_eq ns ms
  source_members_symm no_source_members no_source_members = refl
  source_members_symm (more_source_members a k s m ms) (more_source_members b l t n ns) =
      λ i. nat_list_eq_equiv.symm k l i && same_symm s t i && nat_eq_equiv.symm m n i && source_members_symm ms ns i
  source_members_symm ms ns = refl

mutual
  same_congr : (s t u : Source) → source_eq s t ≡ true → source_eq s u ≡ source_eq t u
  same_congr null_source null_source u h = refl
  same_congr (boolean_source b) (boolean_source c) (boolean_source d) h = bools.congr b c d h
  same_congr (boolean_source b) (boolean_source c) u h = refl
  same_congr (string_source k s) (string_source l t) (string_source m u) h = nat_list_eq_equiv.congr s t u h
  same_congr (string_source k s) (string_source l t) u h = refl
  same_congr (number_source m) (number_source n) (number_source o) h = nums.congr m n o h
  same_congr (number_source m) (number_source n) u h = refl
  same_congr (array_source ss) (array_source ts) (array_source us) h = sources_congr ss ts us h
  same_congr (array_source ss) (array_source ts) u h = refl
  same_congr (object_source ms) (object_source ns) (object_source os) h = source_members_congr ms ns os h
  same_congr (object_source ms) (object_source ns) u h = refl
  same_congr s t u h = cc h

  sources_congr : (ss ts us : Sources) → sources_eq ss ts ≡ true → sources_eq ss us ≡ sources_eq ts us
  sources_congr no_sources no_sources us h = refl
  sources_congr (more_sources s ss) (more_sources t ts) (more_sources u us) h =
      λ i. same_congr s t u (first_so (source_eq s t) (sources_eq ss ts) h) i
      && sources_congr ss ts us (second_so (source_eq s t) (sources_eq ss ts) h) i
  sources_congr (more_sources s ss) (more_sources t ts) us h = refl
  sources_congr ss ts us h = cc h

  source_members_congr : (ms ns os : SourceMembers) → source_members_eq ms ns ≡ true
      → source_members_eq ms os ≡ source_members_eq ns os
  source_members_congr no_source_members no_source_members os h = refl
  source_members_congr (more_source_members a k s m ms) (more_source_members b l t n ns)
      (more_source_members c j u o os) h =
      let rest = second_so (bytes_eq k l && source_eq s t && m == n) (source_members_eq ms ns) h in
      let front = first_so (bytes_eq k l && source_eq s t && m == n) (source_members_eq ms ns) h in
      let index = second_so (bytes_eq k l && source_eq s t) (m == n) front in
      let first = first_so (bytes_eq k l && source_eq s t) (m == n) front in
      λ i. nat_list_eq_equiv.congr k l j (first_so (bytes_eq k l) (source_eq s t) first) i
      && same_congr s t u (second_so (bytes_eq k l) (source_eq s t) first) i
      && nat_eq_equiv.congr m n o index i
      && source_members_congr ms ns os rest i
  source_members_congr (more_source_members a k s m ms) (more_source_members b l t n ns) os h = refl
  source_members_congr ms ns os h = cc h

pub source_eq_equiv : IsEquivalence source_eq
source_eq_equiv = record { refl = same_refl; symm = same_symm; congr = same_congr }
