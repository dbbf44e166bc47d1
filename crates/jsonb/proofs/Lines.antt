-- The lines of bytes, by where a line feed is.
use Rattle.std.proofs.Common.{◌≡◌, ◌⊎◌, inl, inr, ℕ, zero, suc, Contains, ◌+◌, ◌-◌, ◌<◌, ◌≤◌, ◌==◌, true, false, Bool, if◌then◌else◌, List, [], ◌∷◌, Some, length, take, drop, slice_index, refl, ap, subst, sym, ◌∙◌, arith}
use Rattle.std.proofs.lemmas.List.{length-append, take-append-drop}
use Rattle.std.proofs.lemmas.List.Elements.{Contains-append_left, Contains-append_right}
use Rattle.jsonb_spec.specs.Ascii as ascii
use Rattle.jsonb_spec.specs.Grammar.{IsDocument}
use Rattle.jsonb_spec.specs.Mode.{Mode}
use Rattle.jsonb_spec.specs.Text.{AppendsText, tree_text}
use Rattle.jsonb_spec.specs.Tree.{Tree}
use Rattle.jsonb_core.specs.declared.error.Error.{Error}
use Rattle.jsonb_spec.specs.Parsing.Appends.{IsParsed, LacksCapacityForText}
use Rattle.jsonb_spec.specs.Parsing.Memory.{MayAllocate}
use Rattle.jsonb.proofs.Documents.Straight.{text_there}
use Rattle.jsonb_spec.specs.Parsing.Lines.{lines_of, with_first, AppendsTextOfLine, AppendsTextOfLines, LacksCapacityForLine, LacksCapacityForLines}
use Rattle.jsonb.specs.Lines.{IsRejectedLine, RejectsLine}

-- this byte is a line feed
abbrev IsFeedAt : List ℕ → ℕ → Type 0
IsFeedAt bytes k = (slice_index bytes k == ascii.line_feed) ≡ true

-- a test that fails
fails : (b : Bool) → (b ≡ true → ⊥) → b ≡ false
fails true refuted = absurd (refuted refl)
fails false refuted = refl

-- what comes first where the byte is no line feed
goes_on : (byte : ℕ) (bytes : List ℕ) → (byte == ascii.line_feed) ≡ false → lines_of (byte ∷ bytes) ≡ with_first byte (lines_of bytes)
goes_on byte bytes other = ap (λ feed. if feed then [] ∷ lines_of bytes else with_first byte (lines_of bytes)) other

-- the first line ends before the first line feed
pub line_ends : (bytes : List ℕ) (end : ℕ) → end < length bytes → IsFeedAt bytes end → ((k : ℕ) → k < end → IsFeedAt bytes k → ⊥)
    → lines_of bytes ≡ take end bytes ∷ lines_of (drop (end + 1) bytes)
line_ends [] end inside feed none = absurd (omega (arith, inside))
line_ends (byte ∷ bytes) zero inside feed none = ap (λ feed. if feed then [] ∷ lines_of bytes else with_first byte (lines_of bytes)) feed
line_ends (byte ∷ bytes) (suc end) inside feed none =
    let same : suc (end + 1) ≡ suc end + 1 = omega arith in
    goes_on byte bytes (fails _ (none 0 (omega arith))) ∙ ap (with_first byte) (line_ends bytes end (omega (arith, inside)) feed (λ k below. none (suc k) (omega (arith, below))))
    ∙ ap (λ n. take (suc end) (byte ∷ bytes) ∷ lines_of (drop n (byte ∷ bytes))) same

-- bytes without a line feed are one line
pub line_is_last : (bytes : List ℕ) → 0 < length bytes → ((k : ℕ) → k < length bytes → IsFeedAt bytes k → ⊥) → lines_of bytes ≡ bytes ∷ []
line_is_last [] some none = absurd (omega (arith, some))
line_is_last (byte ∷ []) some none = goes_on byte [] (fails _ (none 0 (omega arith)))
line_is_last (byte ∷ next ∷ bytes) some none =
    goes_on byte (next ∷ bytes) (fails _ (none 0 (omega arith)))
    ∙ ap (with_first byte) (line_is_last (next ∷ bytes) (omega arith) (λ k below. none (suc k) (omega (arith, below))))

-- ---- lines one after the other

-- What completes the lines that are left completes all.
abbrev pub WritesLeft : Mode → List ℕ → List ℕ → List ℕ → List ℕ → Type 0
WritesLeft mode text rest old now = (new : List ℕ) → AppendsTextOfLines mode (lines_of rest) now new → AppendsTextOfLines mode (lines_of text) old new

-- What is rejected of the lines that are left is rejected of all.
abbrev pub RejectsLeft : Mode → List ℕ → List ℕ → Type 0
RejectsLeft mode text rest = (error : Error) (behind : ℕ) → RejectsLine mode error (lines_of rest) behind
    → RejectsLine mode error (lines_of text) (length text - length rest + behind)

-- a line was written
pub line_written : (mode : Mode) (text rest old now line others more : List ℕ) → lines_of rest ≡ line ∷ lines_of others → AppendsTextOfLine mode line now more
    → WritesLeft mode text rest old now → WritesLeft mode text others old more
line_written mode text rest old now line others more split appended left =
    λ new written. left new (subst (λ lines. AppendsTextOfLines mode lines now new) (sym split) (more, appended, written))

-- where a line is rejected, or one behind it
pub line_rejected : (mode : Mode) (text rest line others : List ℕ) (error : Error) → lines_of rest ≡ line ∷ lines_of others → IsRejectedLine mode line error
    → RejectsLeft mode text rest → RejectsLine mode error (lines_of text) (length text - length rest)
line_rejected mode text rest line others error split rejected left =
    subst (RejectsLine mode error (lines_of text)) (omega arith) (left error 0 (subst (λ lines. RejectsLine mode error lines 0) (sym split) (inl (refl, rejected))))

pub line_passed : (mode : Mode) (text rest line others : List ℕ) (tree : Tree) → lines_of rest ≡ line ∷ lines_of others → IsParsed mode line tree
    → (others ≡ []) ⊎ (length rest ≡ length line + 1 + length others) → length rest ≤ length text
    → RejectsLeft mode text rest → RejectsLeft mode text others
line_passed mode text rest line others tree split parsed (inl none) within left =
    λ error behind rejects. absurd (subst (λ bytes. RejectsLine mode error (lines_of bytes) behind) none rejects)
line_passed mode text rest line others tree split parsed (inr size) within left =
    λ error behind rejects.
    let all = left error (length line + 1 + behind) (subst (λ lines. RejectsLine mode error lines (length line + 1 + behind)) (sym split) (inr ((tree, parsed), behind, refl, rejects))) in
    subst (RejectsLine mode error (lines_of text)) (omega (arith, size, within)) all

-- ---- where memory runs out

-- a byte of the first ones
in_front : (n : ℕ) (xs : List ℕ) (byte : ℕ) → Contains (take n xs) byte → Contains xs byte
in_front n xs byte there = subst (λ ys. Contains ys byte) (take-append-drop n xs) (Contains-append_left (take n xs) (drop n xs) byte there)

-- a byte of the others
behind_front : (n : ℕ) (xs : List ℕ) (byte : ℕ) → Contains (drop n xs) byte → Contains xs byte
behind_front n xs byte there = subst (λ ys. Contains ys byte) (take-append-drop n xs) (Contains-append_right (take n xs) (drop n xs) byte there)

-- a byte of a line, or of what is behind it
pub in_parts : (end from count : ℕ) (bytes : List ℕ) (byte : ℕ) → Contains (take end bytes) byte ⊎ Contains (take count (drop from bytes)) byte → Contains bytes byte
in_parts end from count bytes byte (inl line) = in_front end bytes byte line
in_parts end from count bytes byte (inr others) = behind_front from bytes byte (in_front count (drop from bytes) byte others)

-- where the line is all
pub in_whole : (end : ℕ) (bytes line others : List ℕ) (byte : ℕ) → line ≡ take end bytes → others ≡ drop end bytes → Contains line byte ⊎ Contains others byte → Contains bytes byte
in_whole end bytes line others byte front back (inl there) = in_front end bytes byte (subst (λ ys. Contains ys byte) front there)
in_whole end bytes line others byte front back (inr there) = behind_front end bytes byte (subst (λ ys. Contains ys byte) back there)

-- what holds a byte that may allocate is within what may allocate
pub whole_may : (part whole : List ℕ) → ((byte : ℕ) → Contains part byte → Contains whole byte) → MayAllocate part → MayAllocate whole
whole_may part whole within (inl bracket) = inl (within ascii.open_bracket bracket)
whole_may part whole within (inr (inl brace)) = inr (inl (within ascii.open_brace brace))
whole_may part whole within (inr (inr backslash)) = inr (inr (within ascii.backslash backslash))

-- What lacks space for the lines that are left lacks it for all.
abbrev pub LacksLeft : Mode → List ℕ → List ℕ → ℕ → ℕ → ℕ → Type 0
LacksLeft mode text rest capacity len now = LacksCapacityForLines mode (lines_of rest) capacity now → LacksCapacityForLines mode (lines_of text) capacity len

-- where a line has no space
pub line_lacks : (mode : Mode) (text rest line others : List ℕ) (low high len now : ℕ) → lines_of rest ≡ line ∷ lines_of others → low ≤ high
    → LacksCapacityForLine mode line high now → LacksLeft mode text rest low len now → LacksCapacityForLines mode (lines_of text) low len
line_lacks mode text rest line others low high len now split below lacks left =
    let lower : LacksCapacityForLine mode line low now = record { tree = lacks.tree; document = lacks.document; too_short = omega (arith, below, lacks.too_short) } in
    left (subst (λ lines. LacksCapacityForLines mode lines low now) (sym split) (inl lower))

-- a line has its space
pub line_fits : (mode : Mode) (text rest line others : List ℕ) (tree : Tree) (capacity len now next : ℕ) → lines_of rest ≡ line ∷ lines_of others → IsDocument mode line tree
    → next ≡ now + (length (tree_text tree) + 1) → LacksLeft mode text rest capacity len now → LacksLeft mode text others capacity len next
line_fits mode text rest line others tree capacity len now next split document grown left =
    λ lacks. left (subst (λ lines. LacksCapacityForLines mode lines capacity now) (sym split) (inr (tree, document, subst (LacksCapacityForLines mode (lines_of others) capacity) grown lacks)))

-- where a line's text has no space
pub text_lacks_line : (mode : Mode) (line : List ℕ) (capacity len : ℕ) → MayAllocate line ⊎ LacksCapacityForText mode line capacity len → MayAllocate line ⊎ LacksCapacityForLine mode line capacity len
text_lacks_line mode line capacity len (inl may) = inl may
text_lacks_line mode line capacity len (inr lacks) = inr (record { tree = lacks.tree; document = lacks.document; too_short = omega (arith, lacks.too_short) })

-- where its line feed has none
pub feed_lacks : (mode : Mode) (line : List ℕ) (low high len now : ℕ) (tree : Tree) → IsDocument mode line tree → MayAllocate line ⊎ (low ≤ high) → high ≤ now → now ≡ len + length (tree_text tree)
    → MayAllocate line ⊎ LacksCapacityForLine mode line low len
feed_lacks mode line low high len now tree document (inl may) full grown = inl may
feed_lacks mode line low high len now tree document (inr below) full grown = inr (record { tree = tree; document = document; too_short = omega (arith, below, full, grown) })

-- how long the buffer is once a document's text is appended
pub text_grows : (mode : Mode) (line old new : List ℕ) (tree : Tree) → IsDocument mode line tree → AppendsText tree old new → length new ≡ length old + length (tree_text tree)
text_grows mode line old new tree document written =
    let both : Some written.bytes ≡ Some (tree_text tree) = sym written.is_text ∙ text_there mode line tree document in
    let same : written.bytes ≡ tree_text tree = one_of both in
    ap length written.appended ∙ length-append old written.bytes ∙ ap (λ text. length old + length text) same
  where
    one_of : {xs ys : List ℕ} → Some xs ≡ Some ys → xs ≡ ys
    one_of e = cc

-- how long it is once a line's text is appended
pub line_grows : (mode : Mode) (line old new : List ℕ) (written : AppendsTextOfLine mode line old new) → length new ≡ length old + (length (tree_text written.tree) + 1)
line_grows mode line old new written = ap length written.appended ∙ length-append old _ ∙ ap (λ n. length old + n) (length-append (tree_text written.tree) _)

-- where a line is written the capacity stays, or the text may allocate
pub capacity_stays : (text line : List ℕ) (first before now : ℕ) → ((byte : ℕ) → Contains line byte → Contains text byte) → MayAllocate text ⊎ (first ≤ before) → MayAllocate line ⊎ (before ≤ now)
    → MayAllocate text ⊎ (first ≤ now)
capacity_stays text line first before now within (inl may) stays = inl may
capacity_stays text line first before now within (inr below) (inl may) = inl (whole_may line text within may)
capacity_stays text line first before now within (inr below) (inr stays) = inr (omega (arith, below, stays))

-- where memory ran out at a line
pub memory_lacks : (mode : Mode) (text rest line others : List ℕ) (first before len now : ℕ) → lines_of rest ≡ line ∷ lines_of others → ((byte : ℕ) → Contains line byte → Contains text byte)
    → MayAllocate text ⊎ (first ≤ before) → MayAllocate line ⊎ LacksCapacityForLine mode line before now → LacksLeft mode text rest first len now
    → MayAllocate text ⊎ LacksCapacityForLines mode (lines_of text) first len
memory_lacks mode text rest line others first before len now split within (inl may) lacks left = inl may
memory_lacks mode text rest line others first before len now split within (inr below) (inl may) left = inl (whole_may line text within may)
memory_lacks mode text rest line others first before len now split within (inr below) (inr lacks) left =
    inr (line_lacks mode text rest line others first before len now split below lacks left)
