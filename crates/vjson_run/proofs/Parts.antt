-- What is appended of a text is a part of the output.
use Rattle.std.proofs.Common.{◌≡◌, ℕ, zero, suc, ◌+◌, ◌-◌, ◌<◌, ◌≤◌, Bool, true, false, List, [], ◌∷◌, ◌++◌, Some, take, drop, length, get_or, refl, sym, ap, subst, ◌∙◌, arith, append_assoc, append-nil}
use Rattle.std.proofs.lemmas.List.{flat_map_more, map-append, take_all, take_more}
use Rattle.std.specs.List.{AllZip, Any, flat_map}
use Rattle.std.specs.declared.alloc.Global.{Global}
use Rattle.std.specs.Prelude.{String, Vec, is_some, map, string_bytes}
use Rattle.jsonb.proofs.Documents.Encodings.{document_unique}
use Rattle.jsonb_spec.specs.Indented.{indented_text}
use Rattle.jsonb_spec.specs.Tree.{Tree}
use Rattle.vjson_text.specs.Texts.{AppendsKeyOf, AppendsLaidOut, AppendsPartOf, AppendsTextOf, IsTextOf}
use Rattle.text_scan.specs.Answer.{grammar_of}
use Rattle.text_scan.specs.declared.parser.Grammar.{Grammar}
use Rattle.text_scan.specs.declared.parser.Grammar.TheVariants.{Extended}
use Rattle.vjson_text.specs.declared.reader.Layout.{Layout}
use Rattle.vjson_text.specs.declared.reader.Layout.TheVariants.{Compact, Indent}
use Rattle.vjson_run.proofs.Lists.{any_behind, zipped_more}
use Rattle.vjson_run.proofs.PartKeys.{part_key_is}
use Rattle.jsonb_spec.specs.Program.Colours.{IsShownAs}
use Rattle.vjson_run.specs.Answers.{AppendsCell, AppendsCounted, AppendsLine, AppendsOne, AreCounted, IsCell, IsCounted, IsFound, IsLaidOut, IsLineText, IsOne, IsShown, LacksSome, PrintsKeyed, counted_none, counted_part, given_default, layout_of, shown_part}
use Rattle.jsonb_spec.specs.Program.Printed.{Prints, first_keys, printed, row_of, separated, separator}
use Rattle.vjson_run.specs.Keys.{AppendsPiece, AppendsTurned, HasPartKey, IsKeyBy, IsKeyOf, IsPartOf, IsPiece, LacksPart}
use Rattle.jsonb_spec.specs.Program.Keys.{IsTurned, keys_of, part_key}
use Rattle.jsonb_spec.specs.Program.KeyLine.{key_line}
use Rattle.vjson_run.specs.declared.options.Options.{Options}
use Rattle.vjson_run.specs.declared.options.Part.{Part}

laid_part : (layout : Layout) (t : Tree) (old new : List ℕ) → AppendsLaidOut layout t old new → (bytes : List ℕ) × AppendsLaidOut layout t [] bytes × (new ≡ old ++ bytes)
laid_part Compact t old new h = (h.bytes, record { bytes = h.bytes; is_text = h.is_text; appended = refl }, h.appended)
laid_part (Indent width) t old new h = (indented_text width 0 t, refl, h)

pub text_part : (g : Grammar) (layout : Layout) (text old new : List ℕ) → AppendsTextOf g layout text old new → (bytes : List ℕ) × AppendsTextOf g layout text [] bytes × (new ≡ old ++ bytes)
text_part g layout text old new h =
    let laid = laid_part layout h.tree old new h.appended in
    (laid.0, record { tree = h.tree; is_text = h.is_text; appended = laid.1 }, laid.2)

-- a line feed more
fed : (old mid new bytes : List ℕ) → mid ≡ old ++ bytes → new ≡ mid ++ 10 ∷ [] → new ≡ old ++ printed bytes
fed old mid new bytes first second = second ∙ ap (λ l. l ++ 10 ∷ []) first ∙ append_assoc old bytes (10 ∷ [])

pub prints_text : (o : Options) (text old mid new : List ℕ) → o.colours ≡ false → AppendsTextOf o.grammar (layout_of o) text old mid → new ≡ mid ++ 10 ∷ [] → Prints (IsLaidOut o text) old new
prints_text o text old mid new plain h fed_to =
    let laid = text_part o.grammar (layout_of o) text old mid h in
    record { bytes = laid.0; is_printed = (laid.0, laid.1, subst (λ b. IsShownAs b laid.0 laid.0) (sym plain) refl); appended = fed old mid new laid.0 laid.2 fed_to }

pub part_there : (g : Grammar) (keys : List (List ℕ)) (text bytes : List ℕ) → AppendsPartOf g keys text [] bytes true → IsPartOf g keys text bytes
part_there g keys text bytes h = record {
  tree = h.tree;
  is_text = h.is_text;
  part = h.part.part;
  there = h.part.there;
  is_part = h.part.appended.is_text ∙ ap Some (sym h.part.appended.appended);
}

pub part_lacks : (g : Grammar) (keys : List (List ℕ)) (text bytes : List ℕ) → AppendsPartOf g keys text [] bytes false → LacksPart g keys text
part_lacks g keys text bytes h = record { tree = h.tree; is_text = h.is_text; lacks = h.part.0 }

-- ---- a row of cells

-- a separator, and then a cell
behind : (old mid new cell : List ℕ) (mark : ℕ) → mid ≡ old ++ mark ∷ [] → new ≡ mid ++ cell → new ≡ old ++ mark ∷ cell
behind old mid new cell mark first second = second ∙ ap (λ l. l ++ cell) first ∙ append_assoc old (mark ∷ []) cell

pub shown_cell : (o : Options) (keys : List (List ℕ)) (text part shown old mid new : List ℕ) (mark : ℕ) (found : Bool) → found ≡ true → AppendsPartOf o.grammar keys text [] part found → shown ≡ part → mark ≡ separator o.array → mid ≡ old ++ mark ∷ []
    → AppendsOne (IsShown o shown) mid new → AppendsCell o keys text old new
shown_cell o keys text part shown old mid new mark found is h same sep first one = record {
  cell = one.bytes;
  is_cell = shown_part part (part_there o.grammar keys text part (subst (AppendsPartOf o.grammar keys text [] part) is h)) (subst (λ p. IsShown o p one.bytes) same one.is_one);
  appended = behind old mid new one.bytes (separator o.array) (first ∙ ap (λ m. old ++ m ∷ []) sep) one.appended;
}

pub given_cell : (o : Options) (keys : List (List ℕ)) (text part : List ℕ) (given : String Global) (shown old mid new : List ℕ) (mark : ℕ) (found : Bool) → found ≡ false → AppendsPartOf o.grammar keys text [] part found
    → o.default ≡ Some given → shown ≡ string_bytes given → mark ≡ separator o.array → mid ≡ old ++ mark ∷ [] → new ≡ mid ++ shown → AppendsCell o keys text old new
given_cell o keys text part given shown old mid new mark found is h default same sep first second = record {
  cell = shown;
  is_cell = given_default given (part_lacks o.grammar keys text part (subst (AppendsPartOf o.grammar keys text [] part) is h)) default same;
  appended = behind old mid new shown (separator o.array) (first ∙ ap (λ m. old ++ m ∷ []) sep) second;
}

-- the cells of these paths are in the row
pub record AreCells (o : Options) (text : List ℕ) (paths : List (List (List ℕ))) (row : List ℕ) : Type 0 where
  pub cells : List (List ℕ)
  pub each : AllZip (IsCell o text) paths cells
  pub is_row : row ≡ separated o.array cells

pub first_cells : (o : Options) (text : List ℕ) (keys first : List (List ℕ)) (none row : List ℕ) → none ≡ [] → keys ≡ first → AppendsCell o keys text none row → AreCells o text (first ∷ []) row
first_cells o text keys first none row nothing same h = record {
  cells = h.cell ∷ [];
  each = (subst (λ k. IsCell o text k h.cell) same h.is_cell, tt);
  is_row = h.appended ∙ ap (λ l. l ++ separator o.array ∷ h.cell) nothing ∙ sym (append-nil (separator o.array ∷ h.cell));
}

pub more_cells : (o : Options) (text : List ℕ) (paths : List (List (List ℕ))) (keys : List (List ℕ)) (old new : List ℕ) → AreCells o text paths old → AppendsCell o keys text old new → AreCells o text (paths ++ keys ∷ []) new
more_cells o text paths keys old new h k = record {
  cells = h.cells ++ k.cell ∷ [];
  each = zipped_more (IsCell o text) paths h.cells keys k.cell h.each k.is_cell;
  is_row = k.appended ∙ ap (λ l. l ++ separator o.array ∷ k.cell) h.is_row ∙ flat_map_more (λ cell. separator o.array ∷ cell) [] h.cells k.cell;
}

-- and one more path
pub next_cells : (o : Options) (text : List ℕ) (first : List (List ℕ)) (others : List (Vec (String Global) Global)) (i : ℕ) (path : Vec (String Global) Global) (old new : List ℕ) → i < length others → path ≡ get_or others i path
    → AreCells o text (first ∷ map keys_of (take i others)) old → AppendsCell o (keys_of path) text old new → AreCells o text (first ∷ map keys_of (take (i + 1) others)) new
next_cells o text first others i path old new within is h k =
    let next : take (i + 1) others ≡ take i others ++ path ∷ [] = take_more others i path within ∙ ap (λ p. take i others ++ p ∷ []) (sym is) in
    subst (λ l. AreCells o text (first ∷ l) new) (sym (ap (map keys_of) next ∙ map-append keys_of (take i others) (path ∷ [])))
    (more_cells o text (first ∷ map keys_of (take i others)) (keys_of path) old new h k)

-- all cells are printed
pub found_row : (o : Options) (text : List ℕ) (others : List (Vec (String Global) Global)) (i : ℕ) (row shown old new : List ℕ) → others ≡ drop 1 o.paths.items → length others ≤ i → AreCells o text (first_keys o.paths.items ∷ map keys_of (take i others)) row
    → shown ≡ row → new ≡ old ++ printed (row_of o.array shown) → Prints (IsFound o text) old new
found_row o text others i row shown old new is all h same appended = record {
  bytes = row_of o.array shown;
  is_printed = record {
    cells = h.cells;
    each = subst (λ l. AllZip (IsCell o text) (first_keys o.paths.items ∷ map keys_of l) h.cells) (take_all i others all ∙ is) h.each;
    row = ap (row_of o.array) (same ∙ h.is_row);
  };
  appended = appended;
}

-- a cell is of a text of the grammar
cell_one : (o : Options) (text : List ℕ) (keys : List (List ℕ)) (cell : List ℕ) → IsCell o text keys cell → IsOne o.grammar text
cell_one o text keys cell (shown_part part h shown) = (h.tree, h.is_text)
cell_one o text keys cell (given_default given h default same) = (h.tree, h.is_text)

pub cells_one : (o : Options) (text : List ℕ) (first : List (List ℕ)) (paths : List (List (List ℕ))) (row : List ℕ) → AreCells o text (first ∷ paths) row → IsOne o.grammar text
cells_one o text first paths row h = by h.cells h.each
  where
    by : (cells : List (List ℕ)) → AllZip (IsCell o text) (first ∷ paths) cells → IsOne o.grammar text
    by [] each = absurd each
    by (cell ∷ cells) each = cell_one o text first cell each.0

-- one of the paths has no part
any_at : {A B : Type 0} (P : B → Type 0) (f : A → B) (xs : List A) (i : ℕ) (d : A) → i < length xs → P (f (get_or xs i d)) → Any P (map f xs)
any_at P f [] i d within h = absurd (omega (arith, within))
any_at P f (x ∷ xs) zero d within h = (0, f x, omega arith, refl, h)
any_at P f (x ∷ xs) (suc i) d within h =
    let k = any_at P f xs i d (omega (arith, within)) h in
    (suc k.0, k.1, omega (arith, k.2), k.3, k.4)

pub lacks_first : (o : Options) (text : List ℕ) (keys : List (List ℕ)) → keys ≡ first_keys o.paths.items → LacksPart o.grammar keys text → LacksSome o text
lacks_first o text keys is h = (0, first_keys o.paths.items, omega arith, refl, subst (λ k. LacksPart o.grammar k text) is h)

pub lacks_other : (o : Options) (text : List ℕ) (others : List (Vec (String Global) Global)) (i : ℕ) (path : Vec (String Global) Global) → others ≡ drop 1 o.paths.items → i < length others → path ≡ get_or others i path
    → LacksPart o.grammar (keys_of path) text → LacksSome o text
lacks_other o text others i path is within at h =
    let P = λ (keys : List (List ℕ)). LacksPart o.grammar keys text in
    any_behind P (first_keys o.paths.items ∷ []) (map keys_of (drop 1 o.paths.items))
    (subst (λ l. Any P (map keys_of l)) is (any_at P keys_of others i path within (subst (λ p. P (keys_of p)) at h)))

pub keyed_line : (o : Options) (text key line k l old new : List ℕ) → IsKeyOf o text key → AppendsLine o text [] line → k ≡ key → l ≡ line → new ≡ old ++ key_line k l → PrintsKeyed o text old new
keyed_line o text key line k l old new is_key is_line same_key same_line appended = record {
  key = key;
  line = is_line.line;
  keyed = record { is_key = is_key; is_line = is_line.is_line };
  appended = appended ∙ ap (λ x. old ++ key_line x l) same_key ∙ ap (λ x. old ++ key_line key x) (same_line ∙ is_line.appended);
}

-- ---- the key that a text is sorted by

pub key_there : (g : Grammar) (keys : List (List ℕ)) (text part key : List ℕ) (found : Bool) → found ≡ true → AppendsPartOf g keys text [] part found → AppendsKeyOf Extended part [] key → HasPartKey g keys text key true
key_there g keys text part key found is h has =
    let p = part_there g keys text part (subst (AppendsPartOf g keys text [] part) is h) in
    record {
      tree = p.tree;
      is_text = p.is_text;
      is_key = part_key_is g text p.tree p.part keys part key p.is_text p.there p.is_part has ∙ ap part_key (sym p.there);
      there = ap is_some (sym p.there);
    }

-- each byte turned round
pub turned_all : (bytes : List ℕ) → ((k : ℕ) → get_or bytes k 0 < 256) → AllZip (λ byte turned. byte + turned ≡ 255) bytes (map (λ byte. 255 - byte) bytes)
turned_all [] small = tt
turned_all (byte ∷ bytes) small = (omega (arith, small 0), turned_all bytes (λ k. small (suc k)))

pub turned_round : (down : Bool) (bytes old new : List ℕ) (i : ℕ) → down ≡ true → ((k : ℕ) → get_or bytes k 0 < 256) → length bytes ≤ i → new ≡ old ++ map (λ byte. 255 - byte) (take i bytes) → AppendsTurned down bytes old new
turned_round down bytes old new i is small all appended = record {
  turned = map (λ byte. 255 - byte) bytes;
  is_turned = subst (λ b. IsTurned b bytes (map (λ byte. 255 - byte) bytes)) (sym is) (turned_all bytes small);
  appended = appended ∙ ap (λ l. old ++ map (λ byte. 255 - byte) l) (take_all i bytes all);
}

pub piece_of : (g : Grammar) (part : Part) (text key shown old new : List ℕ) (found : Bool) → HasPartKey g (keys_of part.path) text key found → shown ≡ key → AppendsTurned part.down shown old new → AppendsPiece g part text old new
piece_of g part text key shown old new found h same k = record {
  tree = h.tree;
  is_text = h.is_text;
  piece = k.turned;
  is_piece = subst (λ key. IsTurned part.down key k.turned) (same ∙ h.is_key) k.is_turned;
  appended = k.appended;
}

-- the pieces of these parts are the key
pub record ArePieces (g : Grammar) (text : List ℕ) (parts : List Part) (key : List ℕ) : Type 0 where
  pub tree : Tree
  pub is_text : IsTextOf g text tree
  pub pieces : List (List ℕ)
  pub each : AllZip (IsPiece tree) parts pieces
  pub is_key : key ≡ flat_map (λ piece. piece) pieces

pub first_pieces : (g : Grammar) (text : List ℕ) (part : Part) (none key : List ℕ) → none ≡ [] → AppendsPiece g part text none key → ArePieces g text (part ∷ []) key
first_pieces g text part none key nothing h = record {
  tree = h.tree;
  is_text = h.is_text;
  pieces = h.piece ∷ [];
  each = (h.is_piece, tt);
  is_key = h.appended ∙ ap (λ l. l ++ h.piece) nothing ∙ sym (append-nil h.piece);
}

more_pieces : (g : Grammar) (text : List ℕ) (parts : List Part) (part : Part) (old new : List ℕ) → ArePieces g text parts old → AppendsPiece g part text old new → ArePieces g text (parts ++ part ∷ []) new
more_pieces g text parts part old new h k = record {
  tree = h.tree;
  is_text = h.is_text;
  pieces = h.pieces ++ k.piece ∷ [];
  each = zipped_more (IsPiece h.tree) parts h.pieces part k.piece h.each
      (subst (λ t. IsPiece t part k.piece) (document_unique (grammar_of g) text k.tree h.tree k.is_text h.is_text) k.is_piece);
  is_key = k.appended ∙ ap (λ l. l ++ k.piece) h.is_key ∙ flat_map_more (λ piece. piece) [] h.pieces k.piece;
}

pub next_pieces : (g : Grammar) (text : List ℕ) (first : Part) (others : List Part) (i : ℕ) (part : Part) (old new : List ℕ) → i < length others → part ≡ get_or others i part → ArePieces g text (first ∷ take i others) old
    → AppendsPiece g part text old new → ArePieces g text (first ∷ take (i + 1) others) new
next_pieces g text first others i part old new within is h k =
    let next : take (i + 1) others ≡ take i others ++ part ∷ [] = take_more others i part within ∙ ap (λ p. take i others ++ p ∷ []) (sym is) in
    subst (λ l. ArePieces g text (first ∷ l) new) (sym next) (more_pieces g text (first ∷ take i others) part old new h k)

pub key_by_pieces : (o : Options) (text : List ℕ) (first : Part) (others : List Part) (i : ℕ) (key : List ℕ) → o.by.items ≡ first ∷ others → length others ≤ i → ArePieces o.grammar text (first ∷ take i others) key → IsKeyOf o text key
key_by_pieces o text first others i key is all h = record {
  tree = h.tree;
  is_text = h.is_text;
  is_key = subst (λ parts. IsKeyBy o.count parts h.tree key) (sym is) (h.pieces, subst (λ l. AllZip (IsPiece h.tree) (first ∷ l) h.pieces) (take_all i others all) h.each, h.is_key);
}

-- ---- what texts are counted by

counted_by : (g : Grammar) (part : Part) (text cell : List ℕ) (found : Bool) → AppendsPartOf g (keys_of part.path) text [] cell found → IsCounted g text part cell
counted_by g part text cell true h = counted_part (part_there g (keys_of part.path) text cell h)
counted_by g part text cell false h = counted_none (part_lacks g (keys_of part.path) text cell h) h.part.1

pub counted_cell : (g : Grammar) (part : Part) (text none cell shown old mid new : List ℕ) (found : Bool) → none ≡ [] → AppendsPartOf g (keys_of part.path) text none cell found → mid ≡ old ++ 9 ∷ [] → shown ≡ cell → new ≡ mid ++ shown
    → AppendsCounted g part text old new
counted_cell g part text none cell shown old mid new found nothing h first same second = record {
  cell = cell;
  is_counted = counted_by g part text cell found (subst (λ n. AppendsPartOf g (keys_of part.path) text n cell found) nothing h);
  appended = behind old mid new cell 9 first (second ∙ ap (λ l. mid ++ l) same);
}

-- the parts so far are in the row
abbrev pub CountedSo : Grammar → List ℕ → List Part → List ℕ → Type 0
CountedSo g text parts row = (cells : List (List ℕ)) × AllZip (IsCounted g text) parts cells × (row ≡ separated false cells)

pub next_counted : (g : Grammar) (text : List ℕ) (parts : List Part) (i : ℕ) (part : Part) (old new : List ℕ) → i < length parts → part ≡ get_or parts i part → CountedSo g text (take i parts) old → AppendsCounted g part text old new
    → CountedSo g text (take (i + 1) parts) new
next_counted g text parts i part old new within is h k =
    let next : take (i + 1) parts ≡ take i parts ++ part ∷ [] = take_more parts i part within ∙ ap (λ p. take i parts ++ p ∷ []) (sym is) in
    subst (λ l. CountedSo g text l new) (sym next) (
      h.0 ++ k.cell ∷ [],
      zipped_more (IsCounted g text) (take i parts) h.0 part k.cell h.1 k.is_counted,
      k.appended ∙ ap (λ l. l ++ 9 ∷ k.cell) h.2 ∙ flat_map_more (λ cell. 9 ∷ cell) [] h.0 k.cell,
    )

pub all_counted : (o : Options) (text : List ℕ) (parts : List Part) (i : ℕ) (row : List ℕ) → parts ≡ o.by.items → length parts ≤ i → CountedSo o.grammar text (take i parts) row → AreCounted o text row
all_counted o text parts i row same all h = subst (λ l. CountedSo o.grammar text l row) (take_all i parts all ∙ same) h

-- ---- a line

pub line_alone : (o : Options) (text line : List ℕ) → AppendsLine o text [] line → IsLineText o text line
line_alone o text line h = subst (IsLineText o text) (sym h.appended) h.is_line
