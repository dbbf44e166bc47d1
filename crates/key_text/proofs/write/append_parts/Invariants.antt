use Rattle.std.proofs.Common.{◌≡◌, ◌-◌, ◌<◌, ◌≤◌, ◌∷◌, ◌++◌, [], false, get_or, length}
use Rattle.jsonb_spec.specs.SortKey.Text.{Preserves}
use Rattle.key_text.specs.Writes.{opening_text}
use Rattle.key_text.proofs.Walk.{WritesParts}
use Rattle.key_text.proofs.write.append_parts.Given as goal

abbrev pub invariant-parts : goal.invariant-parts
invariant-parts g l = record {
  writes : WritesParts (g.Z.Zeros.due l.fn.zeros) (g.Z.Zeros.due l.zeros) l.object l.bytes l.objects l.depth l.rest l.is_first (l.fn.buf.items ++ opening_text l.object ∷ []) l.buf.items;
  preserves : Preserves l.fn.buf l.buf;
  some : 0 < l.depth;
  deep : l.depth ≤ 512;
  size : length l.objects ≡ 512;
  inside : l.inside ≡ get_or l.objects (l.depth - 1) false;
}

abbrev pub decreases-parts : goal.decreases-parts
decreases-parts g l = length l.rest
