-- What is written over lines of a tree in range is a document of a tree that is the same, and has the same lines.
use Rattle.std.proofs.Common.{◌≡◌, ℕ, zero, suc, ◌+◌, ◌<◌, List, [], ◌∷◌, ◌++◌, replicate, Equal, refl, sym, subst, ap, ◌∙◌, arith, append_assoc, append-nil}
use Rattle.std.specs.List.{flat_map}
use Rattle.std.specs.Ordering.{ordering_then}
use Rattle.std.specs.Str.{IsUtf8}
use Rattle.jsonb_spec.specs.Grammar.Whitespace.{IsWhitespacePiece, space, tab, line_feed, form_feed, carriage_return, written_line_feed, written_carriage_return, written_tab, written_form_feed, block_comment, line_comment, IsWhitespace, no_whitespace, more_whitespace, whitespace_to_end}
use Rattle.jsonb_spec.specs.Grammar.Scalar.{IsKey, quoted_key}
use Rattle.jsonb_spec.specs.Grammar.{IsPadded, padded, IsJoined, one_part, more_parts, IsElement, whole_element, empty_element, IsMember, key_and_value, full_array, full_object, Derives, max_depth, IsDocument, value_alone}
use Rattle.jsonb_spec.specs.Keys.{KeysAscend}
use Rattle.jsonb_spec.specs.Mode.{Mode, standard, extended, json, extended_json, strictness}
use Rattle.jsonb_spec.specs.Order.ByContent.{pairs_of}
use Rattle.jsonb_spec.specs.Order.{bytes_cmp, tree_cmp, trees_cmp, members_cmp}
use Rattle.jsonb_spec.specs.Proper.{IsProperNumber, IsProper, AreProper, HaveProperParts}
use Rattle.jsonb_spec.specs.Text.Range.{IsWithin, AreWithin, HaveWithin, IsIntegral, IsInRangeOf, HasFewDigits}
use Rattle.jsonb_spec.specs.Text.NumberText.{number_text}
use Rattle.jsonb_spec.specs.Text.StringText.{quoted_text}
use Rattle.jsonb_spec.specs.Text.{tree_text, with_commas}
use Rattle.jsonb_spec.specs.Tree.{Num, Tree, null, boolean, string, number, array, object, binary, date, timestamp, timestamp_tz, interval, Trees, no_trees, more_trees, trees_of, Members, no_members, more_members, Member}
use Rattle.jsonb_core.proofs.Numbers.InRange.{in_texts_short, integral_short, integer_reads_back, extended_reads_back, json_reads_back, extended_json_reads_back}
use Rattle.jsonb_core.proofs.Numbers.Texts.{Begins}
use Rattle.jsonb_core.proofs.Strings.Writing.{reads_back}
use Rattle.jsonb_core.proofs.Trees.MembersInOrder.{distinct_keys, put_all-ascending}
use Rattle.jsonb_core.proofs.Trees.OneText.{same_bytes, both_equal, IsShort, IsTextByte, text_first}
use Rattle.jsonb_core.proofs.Trees.Ranges.{widened}
use Rattle.jsonb_core.proofs.Trees.Runs.{heads, tails}
use Rattle.jsonb_core.proofs.Trees.TextsReadBack.{no_whitespace_alone, double_quote, EncodesSameNumber, HaveEncoded, same_ascent, read_tree}
use Rattle.jsonb_spec.specs.Indented.{new_line, enclose, indented_text, item_lines, member_lines, Represents}

-- ---- whitespace

spaces : (mode : Mode) (n : ℕ) → IsWhitespace mode (replicate n 32)
spaces mode zero = no_whitespace
spaces mode (suc n) = more_whitespace space (spaces mode n)

line_is_piece : (mode : Mode) (margin : ℕ) → IsWhitespace mode (new_line margin)
line_is_piece mode margin = more_whitespace line_feed (spaces mode margin)

more_after : (mode : Mode) (xs ys : List ℕ) → IsWhitespace mode xs → IsWhitespace mode ys → IsWhitespace mode (xs ++ ys)
more_after mode xs ys no_whitespace q = q
more_after mode xs ys (more_whitespace {piece = piece} {rest = rest} one others) q =
    subst (IsWhitespace mode) (sym (append_assoc piece rest ys)) (more_whitespace one (more_after mode rest ys others q))

-- what follows a first space or line feed of whitespace is whitespace
behind_piece : (mode : Mode) (piece rest : List ℕ) (b : ℕ) (bytes : List ℕ) → IsWhitespacePiece mode piece → piece ++ rest ≡ b ∷ bytes → b < 47 → IsWhitespace mode rest → IsWhitespace mode bytes
behind_piece mode piece rest b bytes space e low others = subst (IsWhitespace mode) (tails 32 b rest bytes e) others
behind_piece mode piece rest b bytes tab e low others = subst (IsWhitespace mode) (tails 9 b rest bytes e) others
behind_piece mode piece rest b bytes line_feed e low others = subst (IsWhitespace mode) (tails 10 b rest bytes e) others
behind_piece mode piece rest b bytes (form_feed beyond) e low others = subst (IsWhitespace mode) (tails 12 b rest bytes e) others
behind_piece mode piece rest b bytes carriage_return e low others = subst (IsWhitespace mode) (tails 13 b rest bytes e) others
behind_piece mode piece rest b bytes (written_line_feed beyond) e low others = absurd (omega (arith, heads 92 b (110 ∷ rest) bytes e, low))
behind_piece mode piece rest b bytes (written_carriage_return beyond) e low others = absurd (omega (arith, heads 92 b (114 ∷ rest) bytes e, low))
behind_piece mode piece rest b bytes (written_tab beyond) e low others = absurd (omega (arith, heads 92 b (116 ∷ rest) bytes e, low))
behind_piece mode piece rest b bytes (written_form_feed beyond) e low others = absurd (omega (arith, heads 92 b (120 ∷ 48 ∷ 67 ∷ rest) bytes e, low))
behind_piece mode piece rest b bytes (block_comment inside m lacks) e low others = absurd (omega (arith, heads 47 b (42 ∷ ((inside ++ 42 ∷ 47 ∷ []) ++ rest)) bytes e, low))
behind_piece mode piece rest b bytes (line_comment inside last m one ends) e low others = absurd (omega (arith, heads 47 b (47 ∷ ((inside ++ last ∷ []) ++ rest)) bytes e, low))

behind_first : (mode : Mode) (b : ℕ) (bytes whole : List ℕ) → b < 47 → whole ≡ b ∷ bytes → IsWhitespace mode whole → IsWhitespace mode bytes
behind_first mode b bytes whole low e no_whitespace = let clash : [] ≡ b ∷ bytes = e in cc
behind_first mode b bytes whole low e (more_whitespace {piece = piece} {rest = rest} one others) = behind_piece mode piece rest b bytes one e low others

behind_spaces : (mode : Mode) (n : ℕ) (bytes : List ℕ) → IsWhitespace mode (replicate n 32 ++ bytes) → IsWhitespace mode bytes
behind_spaces mode zero bytes h = h
behind_spaces mode (suc n) bytes h = behind_spaces mode n bytes (behind_first mode 32 (replicate n 32 ++ bytes) _ (omega arith) refl h)

behind_line : (mode : Mode) (margin : ℕ) (bytes : List ℕ) → IsWhitespace mode (new_line margin ++ bytes) → IsWhitespace mode bytes
behind_line mode margin bytes h = behind_spaces mode margin bytes (behind_first mode 10 (replicate margin 32 ++ bytes) _ (omega arith) refl h)

-- ---- parts over lines

-- each line encodes its part
abbrev Each : {A : Type 0} → (List ℕ → A → Type 0) → List (List ℕ) → List A → Type 0
Each Encodes [] [] = Unit {0}
Each Encodes [] (x ∷ xs) = ⊥
Each Encodes (line ∷ lines) [] = ⊥
Each Encodes (line ∷ lines) (x ∷ xs) = Encodes line x × Each Encodes lines xs

-- lines that may have more behind the last of them
joined_lines : {A : Type 0} (Encodes : List ℕ → A → Type 0) (close : List ℕ) → ((bytes : List ℕ) (a : A) → Encodes bytes a → Encodes (bytes ++ close) a)
    → (line : List ℕ) (lines : List (List ℕ)) (x : A) (xs : List A) → Encodes line x → Each Encodes lines xs → IsJoined Encodes (with_commas (line ∷ lines) ++ close) (x ∷ xs)
joined_lines Encodes close closes line [] x [] h k =
    subst (λ bytes. IsJoined Encodes (bytes ++ close) (x ∷ [])) (sym (append-nil line)) (one_part (closes line x h))
joined_lines Encodes close closes line [] x (y ∷ xs) h k = absurd k
joined_lines Encodes close closes line (other ∷ lines) x [] h k = absurd k
joined_lines Encodes close closes line (other ∷ lines) x (y ∷ xs) h k =
    subst (λ bytes. IsJoined Encodes bytes (x ∷ y ∷ xs)) (sym (append_assoc line (44 ∷ with_commas (other ∷ lines)) close))
    (more_parts {first = line} {rest = with_commas (other ∷ lines) ++ close} h (joined_lines Encodes close closes other lines y xs k.0 k.1))

padded_more : {A : Type 0} (mode : Mode) (Encodes : List ℕ → A → Type 0) (close : List ℕ) → IsWhitespace mode close → (bytes : List ℕ) (a : A) → IsPadded mode Encodes bytes a → IsPadded mode Encodes (bytes ++ close) a
padded_more mode Encodes close piece bytes a (padded {before = before} {core = core} {after = after} p h q) =
    subst (λ b. IsPadded mode Encodes b a) (sym (append_assoc before (core ++ after) close ∙ ap (λ b. before ++ b) (append_assoc core after close)))
    (padded {before = before} {core = core} {after = after ++ close} p h (more_after mode after close q piece))

element_more : (mode : Mode) (Value : List ℕ → Tree → Type 0) (close : List ℕ) → IsWhitespace mode close → (bytes : List ℕ) (t : Tree) → IsElement mode Value bytes t → IsElement mode Value (bytes ++ close) t
element_more mode Value close piece bytes t (whole_element p) = whole_element (padded_more mode Value close piece bytes t p)
element_more mode Value close piece bytes t (empty_element m p) = empty_element m (more_after mode bytes close p piece)

member_more : (mode : Mode) (Value : List ℕ → Tree → Type 0) (close : List ℕ) → IsWhitespace mode close → (bytes : List ℕ) (m : Member) → IsMember mode Value bytes m → IsMember mode Value (bytes ++ close) m
member_more mode Value close piece bytes m (key_and_value {left = left} {right = right} {key = key} {t = t} k v) =
    subst (λ b. IsMember mode Value b (key.1, t)) (sym (append_assoc left (58 ∷ right) close))
    (key_and_value {left = left} {right = right ++ close} {key = key} {t = t} k (padded_more mode Value close piece right t v))

-- whitespace before what is padded
pad_before : {A : Type 0} (mode : Mode) (Encodes : List ℕ → A → Type 0) (before core : List ℕ) (a : A) → IsWhitespace mode before → Encodes core a → IsPadded mode Encodes (before ++ core) a
pad_before mode Encodes before core a piece h =
    subst (λ bytes. IsPadded mode Encodes (before ++ bytes) a) (append-nil core) (padded {before = before} {core = core} {after = []} piece h no_whitespace)

item_line : (mode : Mode) (Value : List ℕ → Tree → Type 0) (margin : ℕ) (bytes : List ℕ) (t : Tree) → Value bytes t → IsElement mode Value (new_line margin ++ bytes) t
item_line mode Value margin bytes t h = whole_element (pad_before mode Value (new_line margin) bytes t (line_is_piece mode margin) h)

member_line : (mode : Mode) (Value : List ℕ → Tree → Type 0) (margin : ℕ) (k bytes : List ℕ) (t : Tree) → IsUtf8 k → Value bytes t
    → IsMember mode Value (new_line margin ++ (quoted_text k ++ 58 ∷ 32 ∷ bytes)) (k, t)
member_line mode Value margin k bytes t utf8 h =
    let key = reads_back mode k utf8 in
    subst (λ b. IsMember mode Value b (k, t)) (append_assoc (new_line margin) (quoted_text k) (58 ∷ 32 ∷ bytes))
    (key_and_value {left = new_line margin ++ quoted_text k} {right = 32 ∷ bytes} {key = (key.0, k)} {t = t}
    (pad_before mode (IsKey mode) (new_line margin) (quoted_text k) (key.0, k) (line_is_piece mode margin) (quoted_key {quote = 34} (double_quote (strictness mode)) key.1))
    (pad_before mode Value (32 ∷ []) bytes t (more_whitespace space no_whitespace) h))

-- ---- values

-- trees whose text is on one line
abbrev OnOneLine : Tree → Type 0
OnOneLine (array (more_trees t ts)) = ⊥
OnOneLine (object (more_members k t ms)) = ⊥
OnOneLine t = Unit {0}

line_is_text : (indent : ℕ) (t : Tree) → OnOneLine t → (margin : ℕ) → indented_text indent margin t ≡ tree_text t
line_is_text indent (array no_trees) one margin = refl
line_is_text indent (array (more_trees t ts)) one margin = absurd one
line_is_text indent (object no_members) one margin = refl
line_is_text indent (object (more_members k t ms)) one margin = absurd one
line_is_text indent null one margin = refl
line_is_text indent (boolean b) one margin = refl
line_is_text indent (string mark bytes) one margin = refl
line_is_text indent (number n) one margin = refl
line_is_text indent (binary bytes) one margin = refl
line_is_text indent (date days) one margin = refl
line_is_text indent (timestamp micros) one margin = refl
line_is_text indent (timestamp_tz offset micros) one margin = refl
line_is_text indent (interval months days micros) one margin = refl

no_array : (t : Tree) (ts : Trees) (u : Tree) → OnOneLine u → tree_cmp (array (more_trees t ts)) u ≡ Equal → ⊥
no_array t ts (array no_trees) one e = cc
no_array t ts (array (more_trees u us)) one e = one
no_array t ts (object no_members) one e = cc
no_array t ts (object (more_members k u ms)) one e = one
no_array t ts null one e = cc
no_array t ts (boolean b) one e = cc
no_array t ts (string mark bytes) one e = cc
no_array t ts (number n) one e = cc
no_array t ts (binary bytes) one e = cc
no_array t ts (date days) one e = cc
no_array t ts (timestamp micros) one e = cc
no_array t ts (timestamp_tz offset micros) one e = cc
no_array t ts (interval months days micros) one e = cc

no_object : (k : List ℕ) (t : Tree) (ms : Members) (u : Tree) → OnOneLine u → tree_cmp (object (more_members k t ms)) u ≡ Equal → ⊥
no_object k t ms (array no_trees) one e = cc
no_object k t ms (array (more_trees u us)) one e = one
no_object k t ms (object no_members) one e = cc
no_object k t ms (object (more_members l u ns)) one e = one
no_object k t ms null one e = cc
no_object k t ms (boolean b) one e = cc
no_object k t ms (string mark bytes) one e = cc
no_object k t ms (number n) one e = cc
no_object k t ms (binary bytes) one e = cc
no_object k t ms (date days) one e = cc
no_object k t ms (timestamp micros) one e = cc
no_object k t ms (timestamp_tz offset micros) one e = cc
no_object k t ms (interval months days micros) one e = cc

-- what is the same as such a tree is one
same_line : (u t : Tree) → OnOneLine t → tree_cmp u t ≡ Equal → OnOneLine u
same_line (array no_trees) t one e = tt
same_line (array (more_trees u us)) t one e = no_array u us t one e
same_line (object no_members) t one e = tt
same_line (object (more_members k u ms)) t one e = no_object k u ms t one e
same_line null t one e = tt
same_line (boolean b) t one e = tt
same_line (string mark bytes) t one e = tt
same_line (number n) t one e = tt
same_line (binary bytes) t one e = tt
same_line (date days) t one e = tt
same_line (timestamp micros) t one e = tt
same_line (timestamp_tz offset micros) t one e = tt
same_line (interval months days micros) t one e = tt

-- two objects have the same keys
abbrev HaveSameKeys : Members → Members → Type 0
HaveSameKeys = HaveEncoded (λ bytes t. Unit {0})

-- The bytes are a document of a tree whose lines are these bytes.
pub record ReadsBackOverLines (mode : Mode) (indent : ℕ) (bytes : List ℕ) : Type 0 where
  pub tree : Tree
  pub document : IsDocument mode bytes tree
  pub again : indented_text indent 0 tree ≡ bytes

module _ (mode : Mode) (IsIn : Num → Type 0) (short : (n : Num) → IsProperNumber n → IsIn n → IsShort n) (number_reads_back : (n : Num) → IsProperNumber n → IsIn n → EncodesSameNumber mode (number_text n) n) (indent : ℕ) where
  -- the bytes are derived for a tree that is the same, and has the same lines
  record IsReadAs (depth : ℕ) (bytes : List ℕ) (t : Tree) : Type 0 where
    tree : Tree
    derived : Derives mode depth bytes tree
    same : tree_cmp tree t ≡ Equal
    again : (margin : ℕ) → indented_text indent margin tree ≡ indented_text indent margin t

  record AreReadAs (depth : ℕ) (lines : List (List ℕ)) (ts : Trees) : Type 0 where
    trees : List Tree
    each : Each (IsElement mode (Derives mode depth)) lines trees
    same : trees_cmp (trees_of trees) ts ≡ Equal
    again : (margin : ℕ) → item_lines indent margin (trees_of trees) ≡ item_lines indent margin ts

  record HaveReadAs (depth : ℕ) (lines : List (List ℕ)) (ms : Members) : Type 0 where
    members : Members
    each : Each (IsMember mode (Derives mode depth)) lines (pairs_of members)
    keys : HaveSameKeys ms members
    same : members_cmp members ms ≡ Equal
    again : (margin : ℕ) → member_lines indent margin members ≡ member_lines indent margin ms

  -- what is on one line is as `tree_text` has it
  on_one_line : (t : Tree) (depth : ℕ) → OnOneLine t → IsProper t → IsWithin IsIn t depth → IsReadAs depth (tree_text t) t
  on_one_line t depth one p w =
      let r = read_tree mode IsIn short number_reads_back t depth p w in
      record {
        tree = r.tree;
        derived = r.derived;
        same = r.same;
        again = λ margin. line_is_text indent r.tree (same_line r.tree t one r.same) margin ∙ r.text ∙ sym (line_is_text indent t one margin);
      }

  -- the first byte of what is written is that of `tree_text`
  begins : (t : Tree) (margin depth : ℕ) → IsProper t → IsWithin IsIn t depth → Begins IsTextByte (indented_text indent margin t)
  begins (array no_trees) margin depth p w = record { first = 91; rest = _; joined = refl; is = (omega arith, omega arith, omega arith, omega arith, omega arith, omega arith) }
  begins (array (more_trees t ts)) margin depth p w = record { first = 91; rest = _; joined = refl; is = (omega arith, omega arith, omega arith, omega arith, omega arith, omega arith) }
  begins (object no_members) margin depth p w = record { first = 123; rest = _; joined = refl; is = (omega arith, omega arith, omega arith, omega arith, omega arith, omega arith) }
  begins (object (more_members k t ms)) margin depth p w = record { first = 123; rest = _; joined = refl; is = (omega arith, omega arith, omega arith, omega arith, omega arith, omega arith) }
  begins null margin depth p w = text_first null depth (widened IsIn IsShort short null depth p w)
  begins (boolean b) margin depth p w = text_first (boolean b) depth (widened IsIn IsShort short (boolean b) depth p w)
  begins (string mark bytes) margin depth p w = text_first (string mark bytes) depth (widened IsIn IsShort short (string mark bytes) depth p w)
  begins (number n) margin depth p w = text_first (number n) depth (widened IsIn IsShort short (number n) depth p w)
  begins t margin depth p w = absurd w

  begins_more : (bytes more : List ℕ) → Begins IsTextByte bytes → Begins IsTextByte (bytes ++ more)
  begins_more bytes more b = record { first = b.first; rest = b.rest ++ more; joined = ap (λ text. text ++ more) b.joined; is = b.is }

  -- the lines of items isn't whitespace alone
  no_whitespace_lines : (margin : ℕ) (text : List ℕ) (lines : List (List ℕ)) (close : List ℕ) → Begins IsTextByte text → IsWhitespace mode (with_commas ((new_line margin ++ text) ∷ lines) ++ close) → ⊥
  no_whitespace_lines margin text lines close b piece =
      let others : List ℕ = flat_map (λ (other : List ℕ). 44 ∷ other) lines in
      let parts : ((new_line margin ++ text) ++ others) ++ close ≡ new_line margin ++ ((text ++ others) ++ close) =
      ap (λ bytes. bytes ++ close) (append_assoc (new_line margin) text others) ∙ append_assoc (new_line margin) (text ++ others) close in
      no_whitespace_alone mode ((text ++ others) ++ close) (begins_more (text ++ others) close (begins_more text others b))
      (behind_line mode margin ((text ++ others) ++ close) (subst (IsWhitespace mode) parts piece))

  read_items : (t : Tree) (ts : Trees) (us : List Tree) (margin depth : ℕ) → IsProper t → IsWithin IsIn t depth → Each (IsElement mode (Derives mode depth)) (item_lines indent (margin + indent) (more_trees t ts)) us
      → trees_cmp (trees_of us) (more_trees t ts) ≡ Equal → ((m : ℕ) → item_lines indent m (trees_of us) ≡ item_lines indent m (more_trees t ts)) → IsReadAs (suc depth) (indented_text indent margin (array (more_trees t ts))) (array (more_trees t ts))
  read_items t ts [] margin depth p w each same again = absurd each
  read_items t ts (u ∷ us) margin depth p w each same again =
      let line = new_line (margin + indent) ++ indented_text indent (margin + indent) t in
      let lines = item_lines indent (margin + indent) ts in
      let body = with_commas (line ∷ lines) ++ new_line margin in
      let joined = joined_lines (IsElement mode (Derives mode depth)) (new_line margin) (element_more mode (Derives mode depth) (new_line margin) (line_is_piece mode margin)) line lines u us each.0 each.1 in
      record {
        tree = array (trees_of (u ∷ us));
        derived = subst (λ bytes. Derives mode (suc depth) (91 ∷ bytes) (array (trees_of (u ∷ us)))) (append_assoc (with_commas (line ∷ lines)) (new_line margin) (93 ∷ []))
            (full_array {body = body} {ts = u ∷ us} joined (no_whitespace_lines (margin + indent) (indented_text indent (margin + indent) t) lines (new_line margin) (begins t (margin + indent) depth p w)));
        same = same;
        again = λ m. ap (enclose 91 93 m) (again (m + indent));
      }

  read_members : (k : List ℕ) (t : Tree) (ms ns : Members) (margin depth : ℕ) → KeysAscend (more_members k t ms) → Each (IsMember mode (Derives mode depth)) (member_lines indent (margin + indent) (more_members k t ms)) (pairs_of ns)
      → HaveSameKeys (more_members k t ms) ns → members_cmp ns (more_members k t ms) ≡ Equal → ((m : ℕ) → member_lines indent m ns ≡ member_lines indent m (more_members k t ms))
      → IsReadAs (suc depth) (indented_text indent margin (object (more_members k t ms))) (object (more_members k t ms))
  read_members k t ms no_members margin depth a each keys same again = absurd each
  read_members k t ms (more_members l u ns) margin depth a each keys same again =
      let line = new_line (margin + indent) ++ (quoted_text k ++ 58 ∷ 32 ∷ indented_text indent (margin + indent) t) in
      let lines = member_lines indent (margin + indent) ms in
      let body = with_commas (line ∷ lines) ++ new_line margin in
      let rising = same_ascent (λ bytes t. Unit {0}) (more_members k t ms) (more_members l u ns) keys a in
      let joined = joined_lines (IsMember mode (Derives mode depth)) (new_line margin) (member_more mode (Derives mode depth) (new_line margin) (line_is_piece mode margin)) line lines (l, u) (pairs_of ns) each.0 each.1 in
      record {
        tree = object (more_members l u ns);
        derived = subst (λ bytes. Derives mode (suc depth) (123 ∷ bytes) (object (more_members l u ns))) (append_assoc (with_commas (line ∷ lines)) (new_line margin) (125 ∷ []))
            (subst (λ others. Derives mode (suc depth) (123 ∷ (body ++ 125 ∷ [])) (object others)) (put_all-ascending (more_members l u ns) rising)
            (full_object {body = body} {ms = pairs_of (more_members l u ns)} joined (distinct_keys (more_members l u ns) rising)));
        same = same;
        again = λ m. ap (enclose 123 125 m) (again (m + indent));
      }

  read_next : (t : Tree) (ts : Trees) (margin depth : ℕ) → IsReadAs depth (indented_text indent margin t) t → AreReadAs depth (item_lines indent margin ts) ts → AreReadAs depth (item_lines indent margin (more_trees t ts)) (more_trees t ts)
  read_next t ts margin depth first others = record {
    trees = first.tree ∷ others.trees;
    each = (item_line mode (Derives mode depth) margin (indented_text indent margin t) first.tree first.derived, others.each);
    same = both_equal (tree_cmp first.tree t) (trees_cmp (trees_of others.trees) ts) first.same others.same;
    again = λ m. ap (λ b. (new_line m ++ b) ∷ item_lines indent m (trees_of others.trees)) (first.again m) ∙ ap (λ l. (new_line m ++ indented_text indent m t) ∷ l) (others.again m);
  }

  read_next_member : (k : List ℕ) (t : Tree) (ms : Members) (margin depth : ℕ) → IsUtf8 k → IsReadAs depth (indented_text indent margin t) t → HaveReadAs depth (member_lines indent margin ms) ms → HaveReadAs depth (member_lines indent margin (more_members k t ms)) (more_members k t ms)
  read_next_member k t ms margin depth utf8 first others = record {
    members = more_members k first.tree others.members;
    each = (member_line mode (Derives mode depth) margin k (indented_text indent margin t) first.tree utf8 first.derived, others.each);
    keys = (refl, tt, others.keys);
    same = both_equal (bytes_cmp k k) (ordering_then (tree_cmp first.tree t) (members_cmp others.members ms)) (same_bytes k k refl) (both_equal (tree_cmp first.tree t) (members_cmp others.members ms) first.same others.same);
    again = λ m. ap (λ b. (new_line m ++ (quoted_text k ++ 58 ∷ 32 ∷ b)) ∷ member_lines indent m others.members) (first.again m)
        ∙ ap (λ l. (new_line m ++ (quoted_text k ++ 58 ∷ 32 ∷ indented_text indent m t)) ∷ l) (others.again m);
  }

  read_array : (t : Tree) (ts : Trees) (margin depth : ℕ) → IsProper t → IsWithin IsIn t depth → AreReadAs depth (item_lines indent (margin + indent) (more_trees t ts)) (more_trees t ts) → IsReadAs (suc depth) (indented_text indent margin (array (more_trees t ts))) (array (more_trees t ts))
  read_array t ts margin depth p w r = read_items t ts r.trees margin depth p w r.each r.same r.again

  read_object : (k : List ℕ) (t : Tree) (ms : Members) (margin depth : ℕ) → KeysAscend (more_members k t ms) → HaveReadAs depth (member_lines indent (margin + indent) (more_members k t ms)) (more_members k t ms) → IsReadAs (suc depth) (indented_text indent margin (object (more_members k t ms))) (object (more_members k t ms))
  read_object k t ms margin depth a r = read_members k t ms r.members margin depth a r.each r.keys r.same r.again

  mutual
    read_lines : (t : Tree) (margin depth : ℕ) → IsProper t → IsWithin IsIn t depth → IsReadAs depth (indented_text indent margin t) t
    read_lines (array no_trees) margin zero p w = absurd w
    read_lines (array no_trees) margin (suc depth) p w = on_one_line (array no_trees) (suc depth) tt p w
    read_lines (array (more_trees t ts)) margin zero p w = absurd w
    read_lines (array (more_trees t ts)) margin (suc depth) p w = read_array t ts margin depth p.0 w.0 (read_next t ts (margin + indent) depth (read_lines t (margin + indent) depth p.0 w.0) (read_each ts (margin + indent) depth p.1 w.1))
    read_lines (object no_members) margin zero p w = absurd w
    read_lines (object no_members) margin (suc depth) p w = on_one_line (object no_members) (suc depth) tt p w
    read_lines (object (more_members k t ms)) margin zero p w = absurd w
    read_lines (object (more_members k t ms)) margin (suc depth) p w =
        read_object k t ms margin depth p.0 (read_next_member k t ms (margin + indent) depth p.1.0 (read_lines t (margin + indent) depth p.1.1 w.0) (read_each_member ms (margin + indent) depth p.1.2 w.1))
    read_lines null margin depth p w = on_one_line null depth tt p w
    read_lines (boolean b) margin depth p w = on_one_line (boolean b) depth tt p w
    read_lines (string mark bytes) margin depth p w = on_one_line (string mark bytes) depth tt p w
    read_lines (number n) margin depth p w = on_one_line (number n) depth tt p w
    read_lines t margin depth p w = absurd w

    read_each : (ts : Trees) (margin depth : ℕ) → AreProper ts → AreWithin IsIn ts depth → AreReadAs depth (item_lines indent margin ts) ts
    read_each no_trees margin depth p w = record { trees = []; each = tt; same = refl; again = λ m. refl }
    read_each (more_trees t ts) margin depth p w = read_next t ts margin depth (read_lines t margin depth p.0 w.0) (read_each ts margin depth p.1 w.1)

    read_each_member : (ms : Members) (margin depth : ℕ) → HaveProperParts ms → HaveWithin IsIn ms depth → HaveReadAs depth (member_lines indent margin ms) ms
    read_each_member no_members margin depth p w = record { members = no_members; each = tt; keys = tt; same = refl; again = λ m. refl }
    read_each_member (more_members k t ms) margin depth p w = read_next_member k t ms margin depth p.0 (read_lines t margin depth p.1 w.0) (read_each_member ms margin depth p.2 w.1)

  lines_represent : (t : Tree) → IsProper t → IsWithin IsIn t max_depth → Represents mode (indented_text indent 0 t) t
  lines_represent t p w =
      let r = read_lines t 0 max_depth p w in
      record {
        tree = r.tree;
        document = subst (λ bytes. IsDocument mode bytes r.tree) (append-nil (indented_text indent 0 t)) (value_alone {core = indented_text indent 0 t} no_whitespace r.derived (whitespace_to_end no_whitespace));
        same = r.same;
      }

  lines_read_back : (t : Tree) → IsProper t → IsWithin IsIn t max_depth → ReadsBackOverLines mode indent (indented_text indent 0 t)
  lines_read_back t p w =
      let r = read_lines t 0 max_depth p w in
      record {
        tree = r.tree;
        document = subst (λ bytes. IsDocument mode bytes r.tree) (append-nil (indented_text indent 0 t)) (value_alone {core = indented_text indent 0 t} no_whitespace r.derived (whitespace_to_end no_whitespace));
        again = r.again 0;
      }

-- what is written over lines of a tree in a mode's range is a document of the mode
pub range_represents : (mode : Mode) (indent : ℕ) (t : Tree) → IsProper t → IsInRangeOf mode t → Represents mode (indented_text indent 0 t) t
range_represents standard indent t p w = lines_represent standard IsIntegral integral_short integer_reads_back indent t p w
range_represents extended indent t p w = lines_represent extended HasFewDigits in_texts_short extended_reads_back indent t p w
range_represents json indent t p w = lines_represent json HasFewDigits in_texts_short json_reads_back indent t p w
range_represents extended_json indent t p w = lines_represent extended_json HasFewDigits in_texts_short extended_json_reads_back indent t p w

-- and of a tree with the same lines
pub range_lines_again : (mode : Mode) (indent : ℕ) (t : Tree) → IsProper t → IsInRangeOf mode t → ReadsBackOverLines mode indent (indented_text indent 0 t)
range_lines_again standard indent t p w = lines_read_back standard IsIntegral integral_short integer_reads_back indent t p w
range_lines_again extended indent t p w = lines_read_back extended HasFewDigits in_texts_short extended_reads_back indent t p w
range_lines_again json indent t p w = lines_read_back json HasFewDigits in_texts_short json_reads_back indent t p w
range_lines_again extended_json indent t p w = lines_read_back extended_json HasFewDigits in_texts_short extended_json_reads_back indent t p w
