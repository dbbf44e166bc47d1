-- Lines that are appended one after the other.
use Rattle.std.proofs.Common.{◌≡◌, ◌≢◌, ℕ, ◌+◌, ◌<◌, ◌≤◌, Bool, true, false, List, [], ◌∷◌, ◌++◌, length, get_or, drop, drop-cons, add-one, string_bytes, refl, sym, ap, ◌∙◌, append_assoc, append-nil, length-append, arith}
use Rattle.std.proofs.lemmas.List.{length-replicate}
use Rattle.std.specs.List.{flat_map}
use Rattle.jsonb_spec.specs.Text.StringText.{quoted_text}
use Rattle.jsonb_spec.specs.Text.{with_commas}
use Rattle.jsonb_spec.specs.Tree.{array, object}
use Rattle.jsonb_value.specs.View.{view, trees_view, members_view}
use Rattle.jsonb_value.specs.declared.value.Value.{Value}
use Rattle.jsonb_core.proofs.Appending.Appended.{IsUnderway, goes_on, fits}
use Rattle.jsonb_core.proofs.Appending.Pieces.{texts_left}
use Rattle.jsonb_value.proofs.Values.Members.{Entry}
use Rattle.jsonb_spec.specs.Indented.{new_line, enclose, indented_text, item_lines, member_lines}

-- an item's line is first in what is left
pub next_item : (indent margin : ℕ) (vs : List Value) (i : ℕ) (v : Value) → i < length vs → v ≡ get_or vs i v
    → item_lines indent margin (trees_view (drop i vs)) ≡ (new_line margin ++ indented_text indent margin (view v)) ∷ item_lines indent margin (trees_view (drop (i + 1) vs))
next_item indent margin vs i v h e =
    ap (λ us. item_lines indent margin (trees_view us)) (drop-cons vs i v h)
    ∙ (λ j. (new_line margin ++ indented_text indent margin (view (sym e j))) ∷ item_lines indent margin (trees_view (drop (sym (add-one i) j) vs)))

-- a member's line is first in what is left
pub next_member : (indent margin : ℕ) (es others : List Entry) (e : Entry) → es ≡ e ∷ others
    → member_lines indent margin (members_view es) ≡ (new_line margin ++ (quoted_text (string_bytes e.0) ++ 58 ∷ 32 ∷ indented_text indent margin (view e.1))) ∷ member_lines indent margin (members_view others)
next_member indent margin es others e next = ap (λ fs. member_lines indent margin (members_view fs)) next

-- the line feed and the margin of a line are written
pub line_done : (old now text margin part rest new : List ℕ) → IsUnderway old now text ((margin ++ part) ++ rest) → new ≡ now ++ margin → IsUnderway old new text (part ++ rest)
line_done old now text margin part rest new u more = goes_on new margin (part ++ rest) u (append_assoc margin part rest) more

pub line_fits : (old now text margin part rest : List ℕ) → IsUnderway old now text ((margin ++ part) ++ rest) → length now + length margin ≤ length old + length text
line_fits old now text margin part rest u = fits margin (part ++ rest) u (append_assoc margin part rest)

pub key_split : (key value rest : List ℕ) → (key ++ 58 ∷ 32 ∷ value) ++ rest ≡ (key ++ 58 ∷ 32 ∷ []) ++ (value ++ rest)
key_split key value rest = append_assoc key (58 ∷ 32 ∷ value) rest ∙ sym (append_assoc key (58 ∷ 32 ∷ []) (value ++ rest))

-- a member's key, its colon and the space are written
pub key_done : (old now text key value rest new : List ℕ) → IsUnderway old now text ((key ++ 58 ∷ 32 ∷ value) ++ rest) → new ≡ now ++ (key ++ 58 ∷ 32 ∷ []) → IsUnderway old new text (value ++ rest)
key_done old now text key value rest new u more = goes_on new (key ++ 58 ∷ 32 ∷ []) (value ++ rest) u (key_split key value rest) more

-- ---- what encloses the lines

pub array_is : (indent margin inner : ℕ) (vs : List Value) → length vs ≢ 0 → inner ≡ margin + indent
    → indented_text indent margin (array (trees_view vs)) ≡ 91 ∷ (with_commas (item_lines indent inner (trees_view vs)) ++ (new_line margin ++ 93 ∷ []))
array_is indent margin inner [] h e = absurd (h refl)
array_is indent margin inner (v ∷ vs) h e = ap (λ m. 91 ∷ (with_commas (item_lines indent m (trees_view (v ∷ vs))) ++ (new_line margin ++ 93 ∷ []))) (sym e)

pub object_is : (indent margin inner : ℕ) (es : List Entry) → length es ≢ 0 → inner ≡ margin + indent
    → indented_text indent margin (object (members_view es)) ≡ 123 ∷ (with_commas (member_lines indent inner (members_view es)) ++ (new_line margin ++ 125 ∷ []))
object_is indent margin inner [] h e = absurd (h refl)
object_is indent margin inner (e ∷ es) h same = ap (λ m. 123 ∷ (with_commas (member_lines indent m (members_view (e ∷ es))) ++ (new_line margin ++ 125 ∷ []))) (sym same)

-- the first line has its margin
enclosed_long : (first last margin inner : ℕ) (text : List ℕ) (lines : List (List ℕ)) → inner ≤ length (enclose first last margin ((new_line inner ++ text) ∷ lines))
enclosed_long first last margin inner text lines =
    let others : List ℕ = flat_map (λ (other : List ℕ). 44 ∷ other) lines in
    omega (arith, length-append ((new_line inner ++ text) ++ others) (new_line margin ++ last ∷ []), length-append (new_line inner ++ text) others, length-append (new_line inner) text, length-replicate {A = ℕ} inner 32)

pub array_long : (indent margin : ℕ) (vs : List Value) → length vs ≢ 0 → margin + indent ≤ length (indented_text indent margin (array (trees_view vs)))
array_long indent margin [] h = absurd (h refl)
array_long indent margin (v ∷ vs) h = enclosed_long 91 93 margin (margin + indent) (indented_text indent (margin + indent) (view v)) (item_lines indent (margin + indent) (trees_view vs))

pub object_long : (indent margin : ℕ) (es : List Entry) → length es ≢ 0 → margin + indent ≤ length (indented_text indent margin (object (members_view es)))
object_long indent margin [] h = absurd (h refl)
object_long indent margin (e ∷ es) h =
    enclosed_long 123 125 margin (margin + indent) (quoted_text (string_bytes e.0) ++ 58 ∷ 32 ∷ indented_text indent (margin + indent) (view e.1)) (member_lines indent (margin + indent) (members_view es))
