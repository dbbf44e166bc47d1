-- The parts of a text, the key that it is sorted by, and the order that this gives.
use Rattle.std.specs.Prelude.{◌≡◌, ℕ, Bool, if◌then◌else◌, List, [], ◌∷◌, ◌++◌, None, Some, is_some}
use Rattle.std.specs.List.{AllZip, flat_map}
use Rattle.std.specs.Ordering.{ordering_reverse, ordering_then}
use Rattle.std.specs.declared.cmp.Ordering.{Ordering}
use Rattle.std.specs.declared.cmp.Ordering.TheVariants.{Equal}
use Rattle.jsonb_spec.specs.Order.{tree_cmp}
use Rattle.jsonb_spec.specs.PartAt.{part_at}
use Rattle.jsonb_spec.specs.SortKey.{key_of}
use Rattle.jsonb_spec.specs.Tree.{Tree}
use Rattle.jsonb_spec.specs.Text.{text_of}
use Rattle.vjson_text.specs.Texts.{IsTextOf}
use Rattle.text_scan.specs.declared.parser.Grammar.{Grammar}
use Rattle.vjson_run.specs.declared.options.Options.{Options}
use Rattle.vjson_run.specs.declared.options.Part.{Part}
use Rattle.jsonb_spec.specs.Program.Keys.{keys_of, part_key, IsTurned, part_cmp}

-- The text is one of the grammar, and this is the serialized form of its part at the keys.
pub record IsPartOf (grammar : Grammar) (keys : List (List ℕ)) (text bytes : List ℕ) : Type 0 where
  pub tree : Tree
  pub is_text : IsTextOf grammar text tree
  pub part : Tree
  pub there : part_at keys tree ≡ Some part
  pub is_part : text_of part ≡ Some bytes

-- The text is one of the grammar, and has no part at the keys.
pub record LacksPart (grammar : Grammar) (keys : List (List ℕ)) (text : List ℕ) : Type 0 where
  pub tree : Tree
  pub is_text : IsTextOf grammar text tree
  pub lacks : part_at keys tree ≡ None

-- what a part that lines are sorted by has in the key of this tree
abbrev pub IsPiece : Tree → Part → List ℕ → Type 0
IsPiece tree part bytes = IsTurned part.down (part_key (part_at (keys_of part.path) tree)) bytes

-- The key that a tree is sorted by: one piece for each part after the other; without parts its own, or none where texts
-- are counted.
abbrev pub IsKeyBy : Bool → List Part → Tree → List ℕ → Type 0
IsKeyBy counts [] tree key = key ≡ (if counts then [] else key_of tree)
IsKeyBy counts parts tree key = (pieces : List (List ℕ)) × AllZip (IsPiece tree) parts pieces × (key ≡ flat_map (λ piece. piece) pieces)

-- The text is one of the grammar, and this is the key that it is sorted by.
pub record IsKeyOf (options : Options) (text key : List ℕ) : Type 0 where
  pub tree : Tree
  pub is_text : IsTextOf options.grammar text tree
  pub is_key : IsKeyBy options.count options.by.items tree key

-- the order of two trees by one part, up or down
abbrev pub by_part : Part → Tree → Tree → Ordering
by_part part t u =
    let order = part_cmp (part_at (keys_of part.path) t) (part_at (keys_of part.path) u) in
    if part.down then ordering_reverse order else order

-- The order by parts: by the first, and of those that it doesn't tell apart by the others.
abbrev pub by_parts : List Part → Tree → Tree → Ordering
by_parts [] t u = Equal
by_parts (part ∷ parts) t u = ordering_then (by_part part t u) (by_parts parts t u)

-- the order in which trees are sorted: by parts, or where there is none by their values, unless they are counted
abbrev pub sort_cmp : Bool → List Part → Tree → Tree → Ordering
sort_cmp counts [] t u = if counts then Equal else tree_cmp t u
sort_cmp counts parts t u = by_parts parts t u

-- The text is one of the grammar, and this is the key of its part at the keys, if it is there.
pub record HasPartKey (grammar : Grammar) (keys : List (List ℕ)) (text key : List ℕ) (found : Bool) : Type 0 where
  pub tree : Tree
  pub is_text : IsTextOf grammar text tree
  pub is_key : key ≡ part_key (part_at keys tree)
  pub there : found ≡ is_some (part_at keys tree)

-- new is old with these bytes at its end, or downwards each turned round
pub record AppendsTurned (down : Bool) (bytes old new : List ℕ) : Type 0 where
  pub turned : List ℕ
  pub is_turned : IsTurned down bytes turned
  pub appended : new ≡ old ++ turned

-- new is old with the piece of the text's key at its end
pub record AppendsPiece (grammar : Grammar) (part : Part) (text old new : List ℕ) : Type 0 where
  pub tree : Tree
  pub is_text : IsTextOf grammar text tree
  pub piece : List ℕ
  pub is_piece : IsPiece tree part piece
  pub appended : new ≡ old ++ piece
