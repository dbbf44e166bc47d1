-- What is written of a tree is a document of a tree that is the same.
use Rattle.std.proofs.Common.{List, [], ◌∷◌, ◌≡◌, ℕ, zero, suc, ◌++◌, Bool, true, false, Equal, Some, refl, sym, subst, ap, ◌∙◌, arith, append-nil, inl, map}
use Rattle.std.specs.Prelude.{codes}
use Rattle.std.specs.Char.{to_ascii_lowercase}
use Rattle.std.specs.List.{flat_map}
use Rattle.std.specs.Ordering.{nat_cmp, ordering_then}
use Rattle.std.specs.Cmp.Lexicographic.{slice_cmp}
use Rattle.std.specs.Str.{IsUtf8}
use Rattle.jsonb_spec.specs.Grammar.Whitespace.{IsWhitespacePiece, space, tab, line_feed, form_feed, carriage_return, written_line_feed, written_carriage_return, written_tab, written_form_feed, block_comment, line_comment, IsWhitespace, no_whitespace, more_whitespace, whitespace_to_end}
use Rattle.jsonb_spec.specs.Grammar.{IsPadded, padded, IsJoined, one_part, more_parts, IsElement, whole_element, IsMember, key_and_value, scalar, empty_array, full_array, empty_object, full_object, Derives, max_depth, IsDocument, value_alone}
use Rattle.jsonb_spec.specs.Keys.{IsBelowKeys, KeysAscend}
use Rattle.jsonb_spec.specs.Mode.{Mode, standard, extended, Strictness, strict, lenient, strictness}
use Rattle.jsonb_spec.specs.Text.NumberText.{text_of_parts, number_text}
use Rattle.jsonb_spec.specs.Order.{bytes_cmp, tree_cmp, trees_cmp, members_cmp}
use Rattle.jsonb_spec.specs.Order.ByContent.{items_of, pairs_of}
use Rattle.jsonb_spec.specs.Proper.{IsProperNumber, IsProper, AreProper, HaveProperParts}
use Rattle.jsonb_spec.specs.Text.Range.{IsWithin, AreWithin, HaveWithin}
use Rattle.jsonb_spec.specs.Text.ReadsBack.{ReadsBackAs}
use Rattle.jsonb_spec.specs.Grammar.Scalar.{IsWord, IsQuote, IsNumber, IsScalar, literal_value, string_value, number_value, null_word, true_word, false_word, IsKey, quoted_key}
use Rattle.jsonb_spec.specs.Text.StringText.{quoted_text}
use Rattle.jsonb_spec.specs.Text.{tree_text, with_commas, item_texts, member_texts}
use Rattle.jsonb_spec.specs.Tree.{Mark, Num, Tree, null, boolean, string, number, array, object, Trees, no_trees, more_trees, trees_of, Members, no_members, more_members}
use Rattle.jsonb_core.proofs.Trees.DocumentTexts.{document_has_text, some_text}
use Rattle.jsonb_core.proofs.Trees.MembersInOrder.{distinct_keys, put_all-ascending}
use Rattle.jsonb_core.proofs.Numbers.Texts.{Begins}
use Rattle.jsonb_core.proofs.Trees.OneText.{same_numbers, same_bytes, both_equal, IsShort, IsTextByte, text_first}
use Rattle.jsonb_core.proofs.Trees.Ranges.{widened}
use Rattle.jsonb_core.proofs.Trees.Runs.{heads}
use Rattle.jsonb_core.proofs.Strings.Writing.{reads_back}

-- ---- whitespace

-- the bytes do not begin as whitespace does
piece_is_no_text : (mode : Mode) (piece rest : List ℕ) (b : ℕ) (bytes : List ℕ) → IsWhitespacePiece mode piece → piece ++ rest ≡ b ∷ bytes → IsTextByte b → ⊥
piece_is_no_text mode piece rest b bytes space e text = absurd (omega (arith, heads 32 b rest bytes e, text))
piece_is_no_text mode piece rest b bytes tab e text = absurd (omega (arith, heads 9 b rest bytes e, text))
piece_is_no_text mode piece rest b bytes line_feed e text = absurd (omega (arith, heads 10 b rest bytes e, text))
piece_is_no_text mode piece rest b bytes (form_feed beyond) e text = absurd (omega (arith, heads 12 b rest bytes e, text))
piece_is_no_text mode piece rest b bytes carriage_return e text = absurd (omega (arith, heads 13 b rest bytes e, text))
piece_is_no_text mode piece rest b bytes (written_line_feed beyond) e text = absurd (omega (arith, heads 92 b (110 ∷ rest) bytes e, text))
piece_is_no_text mode piece rest b bytes (written_carriage_return beyond) e text = absurd (omega (arith, heads 92 b (114 ∷ rest) bytes e, text))
piece_is_no_text mode piece rest b bytes (written_tab beyond) e text = absurd (omega (arith, heads 92 b (116 ∷ rest) bytes e, text))
piece_is_no_text mode piece rest b bytes (written_form_feed beyond) e text = absurd (omega (arith, heads 92 b (120 ∷ 48 ∷ 67 ∷ rest) bytes e, text))
piece_is_no_text mode piece rest b bytes (block_comment inside m lacks) e text = absurd (omega (arith, heads 47 b (42 ∷ ((inside ++ 42 ∷ 47 ∷ []) ++ rest)) bytes e, text))
piece_is_no_text mode piece rest b bytes (line_comment inside last m one ends) e text = absurd (omega (arith, heads 47 b (47 ∷ ((inside ++ last ∷ []) ++ rest)) bytes e, text))

pub no_whitespace_alone : (mode : Mode) (bytes : List ℕ) → Begins IsTextByte bytes → IsWhitespace mode bytes → ⊥
no_whitespace_alone mode bytes b no_whitespace = let clash : [] ≡ b.first ∷ b.rest = b.joined in cc
no_whitespace_alone mode bytes b (more_whitespace {piece = piece} {rest = rest} one others) = piece_is_no_text mode piece rest b.first b.rest one b.joined b.is

-- ---- parts of a text

pub pad : {A : Type 0} (mode : Mode) (Encodes : List ℕ → A → Type 0) (bytes : List ℕ) (a : A) → Encodes bytes a → IsPadded mode Encodes bytes a
pad mode Encodes bytes a h = subst (λ padded_bytes. IsPadded mode Encodes padded_bytes a) (append-nil bytes) (padded {core = bytes} no_whitespace h no_whitespace)

trees_of-items_of : (ts : Trees) → trees_of (items_of ts) ≡ ts
trees_of-items_of no_trees = refl
trees_of-items_of (more_trees t ts) = ap (more_trees t) (trees_of-items_of ts)

-- double quotes and words in lower case are in each mode
pub double_quote : (s : Strictness) → IsQuote s 34
double_quote strict = refl
double_quote lenient = inl refl

own_word : (s : Strictness) (word : List ℕ) → map to_ascii_lowercase word ≡ word → IsWord s word word
own_word strict word low = refl
own_word lenient word low = low

-- a scalar is at each depth
at_depth : (mode : Mode) (depth : ℕ) (bytes : List ℕ) (t : Tree) → IsScalar mode bytes t → Derives mode depth bytes t
at_depth mode zero bytes t s = s
at_depth mode (suc depth) bytes t s = scalar s

-- the bytes are a number text of this scale and whole number
pub record EncodesSameNumber (mode : Mode) (bytes : List ℕ) (n : Num) : Type 0 where
  pub read : Num
  pub is_number : IsNumber mode bytes read
  pub scales : read.scale ≡ n.scale
  pub wholes : read.whole ≡ n.whole

-- the tree's text is derived for a tree that is the same and has this text
pub record EncodesSameTree (mode : Mode) (depth : ℕ) (t : Tree) : Type 0 where
  pub tree : Tree
  pub derived : Derives mode depth (tree_text t) tree
  pub same : tree_cmp tree t ≡ Equal
  pub text : tree_text tree ≡ tree_text t

-- each item's text is encoded for the other's
abbrev AreEncoded : (List ℕ → Tree → Type 0) → Trees → Trees → Type 0
AreEncoded Value no_trees no_trees = Unit {0}
AreEncoded Value no_trees (more_trees u us) = ⊥
AreEncoded Value (more_trees t ts) no_trees = ⊥
AreEncoded Value (more_trees t ts) (more_trees u us) = Value (tree_text t) u × AreEncoded Value ts us

-- the same of members, which have the same keys
abbrev pub HaveEncoded : (List ℕ → Tree → Type 0) → Members → Members → Type 0
HaveEncoded Value no_members no_members = Unit {0}
HaveEncoded Value no_members (more_members l u ns) = ⊥
HaveEncoded Value (more_members k t ms) no_members = ⊥
HaveEncoded Value (more_members k t ms) (more_members l u ns) = (k ≡ l) × Value (tree_text t) u × HaveEncoded Value ms ns

record AreReadAt (mode : Mode) (depth : ℕ) (ts : Trees) : Type 0 where
  trees : Trees
  encoded : AreEncoded (Derives mode depth) ts trees
  same : trees_cmp trees ts ≡ Equal
  texts : item_texts trees ≡ item_texts ts

record HaveReadAt (mode : Mode) (depth : ℕ) (ms : Members) : Type 0 where
  members : Members
  encoded : HaveEncoded (Derives mode depth) ms members
  same : members_cmp members ms ≡ Equal
  texts : member_texts members ≡ member_texts ms

joined_items : (mode : Mode) (Value : List ℕ → Tree → Type 0) (t : Tree) (ts : Trees) (u : Tree) (us : Trees) → Value (tree_text t) u → AreEncoded Value ts us
    → IsJoined (IsElement mode Value) (with_commas (tree_text t ∷ item_texts ts)) (u ∷ items_of us)
joined_items mode Value t no_trees u no_trees h k =
    subst (λ bytes. IsJoined (IsElement mode Value) bytes (u ∷ [])) (sym (append-nil (tree_text t))) (one_part (whole_element (pad mode Value (tree_text t) u h)))
joined_items mode Value t no_trees u (more_trees v us) h k = absurd k
joined_items mode Value t (more_trees s ts) u no_trees h k = absurd k
joined_items mode Value t (more_trees s ts) u (more_trees v us) h k =
    more_parts {first = tree_text t} {rest = with_commas (tree_text s ∷ item_texts ts)} (whole_element (pad mode Value (tree_text t) u h)) (joined_items mode Value s ts v us k.0 k.1)

member_encoded : (mode : Mode) (Value : List ℕ → Tree → Type 0) (k l : List ℕ) (text : List ℕ) (u : Tree) → k ≡ l → IsUtf8 k → Value text u → IsMember mode Value (quoted_text k ++ 58 ∷ text) (l, u)
member_encoded mode Value k l text u e utf8 h =
    let key = reads_back mode k utf8 in
    subst (λ name. IsMember mode Value (quoted_text k ++ 58 ∷ text) (name, u)) e
    (key_and_value {left = quoted_text k} {right = text} {key = (key.0, k)} {t = u} (pad mode (IsKey mode) (quoted_text k) (key.0, k) (quoted_key {quote = 34} (double_quote (strictness mode)) key.1)) (pad mode Value text u h))

joined_members : (mode : Mode) (Value : List ℕ → Tree → Type 0) (k : List ℕ) (t : Tree) (ms : Members) (l : List ℕ) (u : Tree) (ns : Members) → HaveProperParts (more_members k t ms) → HaveEncoded Value (more_members k t ms) (more_members l u ns)
    → IsJoined (IsMember mode Value) (with_commas ((quoted_text k ++ 58 ∷ tree_text t) ∷ member_texts ms)) ((l, u) ∷ pairs_of ns)
joined_members mode Value k t no_members l u no_members p h =
    subst (λ bytes. IsJoined (IsMember mode Value) bytes ((l, u) ∷ [])) (sym (append-nil (quoted_text k ++ 58 ∷ tree_text t))) (one_part (member_encoded mode Value k l (tree_text t) u h.0 p.0 h.1))
joined_members mode Value k t no_members l u (more_members l' u' ns) p h = absurd h.2
joined_members mode Value k t (more_members k' t' ms) l u no_members p h = absurd h.2
joined_members mode Value k t (more_members k' t' ms) l u (more_members l' u' ns) p h =
    more_parts {first = quoted_text k ++ 58 ∷ tree_text t} {rest = with_commas ((quoted_text k' ++ 58 ∷ tree_text t') ∷ member_texts ms)} (member_encoded mode Value k l (tree_text t) u h.0 p.0 h.1)
    (joined_members mode Value k' t' ms l' u' ns p.2 h.2)

-- ---- keys

same_below : (Value : List ℕ → Tree → Type 0) (k l : List ℕ) (ms ns : Members) → k ≡ l → HaveEncoded Value ms ns → IsBelowKeys k ms → IsBelowKeys l ns
same_below Value k l no_members no_members e h below = tt
same_below Value k l no_members (more_members l' u ns) e h below = absurd h
same_below Value k l (more_members k' t ms) no_members e h below = absurd h
same_below Value k l (more_members k' t ms) (more_members l' u ns) e h below =
    ((λ i. slice_cmp nat_cmp (sym e i) (sym h.0 i)) ∙ below.0, same_below Value k l ms ns e h.2 below.1)

pub same_ascent : (Value : List ℕ → Tree → Type 0) (ms ns : Members) → HaveEncoded Value ms ns → KeysAscend ms → KeysAscend ns
same_ascent Value no_members no_members h a = tt
same_ascent Value no_members (more_members l u ns) h a = absurd h
same_ascent Value (more_members k t ms) no_members h a = absurd h
same_ascent Value (more_members k t ms) (more_members l u ns) h a = (same_below Value k l ms ns h.0 h.2 a.0, same_ascent Value ms ns h.2 a.1)

-- ---- values

module _ (mode : Mode) (IsIn : Num → Type 0) (short : (n : Num) → IsProperNumber n → IsIn n → IsShort n) (number_reads_back : (n : Num) → IsProperNumber n → IsIn n → EncodesSameNumber mode (number_text n) n) where
  read_null : (depth : ℕ) → EncodesSameTree mode depth null
  read_null depth = record { tree = null; derived = at_depth mode depth _ null (literal_value (null_word (own_word (strictness mode) (codes "null") refl))); same = refl; text = refl }

  read_boolean : (b : Bool) (depth : ℕ) → EncodesSameTree mode depth (boolean b)
  read_boolean true depth = record { tree = boolean true; derived = at_depth mode depth _ (boolean true) (literal_value (true_word (own_word (strictness mode) (codes "true") refl))); same = refl; text = refl }
  read_boolean false depth = record { tree = boolean false; derived = at_depth mode depth _ (boolean false) (literal_value (false_word (own_word (strictness mode) (codes "false") refl))); same = refl; text = refl }

  read_string : (mark : Mark) (bytes : List ℕ) (depth : ℕ) → IsUtf8 bytes → EncodesSameTree mode depth (string mark bytes)
  read_string mark bytes depth utf8 =
      let r = reads_back mode bytes utf8 in
      record {
        tree = string r.0 bytes;
        derived = at_depth mode depth (quoted_text bytes) (string r.0 bytes) (string_value {quote = 34} (double_quote (strictness mode)) r.1);
        same = same_bytes bytes bytes refl;
        text = refl;
      }

  read_number : (n : Num) (depth : ℕ) → IsProperNumber n → IsIn n → EncodesSameTree mode depth (number n)
  read_number n depth p w =
      let r = number_reads_back n p w in
      record {
        tree = number r.read;
        derived = at_depth mode depth (number_text n) (number r.read) (number_value r.is_number);
        same = same_numbers r.read n r.scales r.wholes;
        text = λ i. text_of_parts (r.scales i) (r.wholes i);
      }

  -- the items' texts do not look like whitespace
  items_begin : (t : Tree) (ts : Trees) (depth : ℕ) → IsProper t → IsWithin IsIn t depth → Begins IsTextByte (with_commas (item_texts (more_trees t ts)))
  items_begin t ts depth p w =
      let others : List ℕ = flat_map (λ (text : List ℕ). 44 ∷ text) (item_texts ts) in
      let b = text_first t depth (widened IsIn IsShort short t depth p w) in
      record { first = b.first; rest = b.rest ++ others; joined = ap (λ text. text ++ others) b.joined; is = b.is }

  read_items : (t : Tree) (ts us : Trees) (depth : ℕ) → Begins IsTextByte (with_commas (item_texts (more_trees t ts))) → AreEncoded (Derives mode depth) (more_trees t ts) us → trees_cmp us (more_trees t ts) ≡ Equal
      → item_texts us ≡ item_texts (more_trees t ts) → EncodesSameTree mode (suc depth) (array (more_trees t ts))
  read_items t ts no_trees depth b encoded same texts = absurd encoded
  read_items t ts (more_trees u us) depth b encoded same texts = record {
    tree = array (more_trees u us);
    derived = subst (λ vs. Derives mode (suc depth) (tree_text (array (more_trees t ts))) (array vs)) (trees_of-items_of (more_trees u us))
        (full_array {body = with_commas (item_texts (more_trees t ts))} {ts = u ∷ items_of us} (joined_items mode (Derives mode depth) t ts u us encoded.0 encoded.1) (no_whitespace_alone mode (with_commas (item_texts (more_trees t ts))) b));
    same = same;
    text = ap (λ parts. 91 ∷ with_commas parts ++ 93 ∷ []) texts;
  }

  read_array : (ts : Trees) (depth : ℕ) → AreProper ts → AreWithin IsIn ts depth → AreReadAt mode depth ts → EncodesSameTree mode (suc depth) (array ts)
  read_array no_trees depth p w r = record { tree = array no_trees; derived = empty_array {whitespace = []} no_whitespace; same = refl; text = refl }
  read_array (more_trees t ts) depth p w r = read_items t ts r.trees depth (items_begin t ts depth p.0 w.0) r.encoded r.same r.texts

  read_members : (k : List ℕ) (t : Tree) (ms ns : Members) (depth : ℕ) → KeysAscend (more_members k t ms) → HaveProperParts (more_members k t ms) → HaveEncoded (Derives mode depth) (more_members k t ms) ns
      → members_cmp ns (more_members k t ms) ≡ Equal → member_texts ns ≡ member_texts (more_members k t ms) → EncodesSameTree mode (suc depth) (object (more_members k t ms))
  read_members k t ms no_members depth a p encoded same texts = absurd encoded
  read_members k t ms (more_members l u ns) depth a p encoded same texts =
      let rising = same_ascent (Derives mode depth) (more_members k t ms) (more_members l u ns) encoded a in
      record {
        tree = object (more_members l u ns);
        derived = subst (λ others. Derives mode (suc depth) (tree_text (object (more_members k t ms))) (object others)) (put_all-ascending (more_members l u ns) rising)
            (full_object {body = with_commas (member_texts (more_members k t ms))} {ms = pairs_of (more_members l u ns)} (joined_members mode (Derives mode depth) k t ms l u ns p encoded) (distinct_keys (more_members l u ns) rising));
        same = same;
        text = ap (λ parts. 123 ∷ with_commas parts ++ 125 ∷ []) texts;
      }

  read_object : (ms : Members) (depth : ℕ) → IsProper (object ms) → HaveReadAt mode depth ms → EncodesSameTree mode (suc depth) (object ms)
  read_object no_members depth p r = record { tree = object no_members; derived = empty_object {whitespace = []} no_whitespace; same = refl; text = refl }
  read_object (more_members k t ms) depth p r = read_members k t ms r.members depth p.0 p.1 r.encoded r.same r.texts

  read_next : (t : Tree) (ts : Trees) (depth : ℕ) → EncodesSameTree mode depth t → AreReadAt mode depth ts → AreReadAt mode depth (more_trees t ts)
  read_next t ts depth first others = record {
    trees = more_trees first.tree others.trees;
    encoded = (first.derived, others.encoded);
    same = both_equal (tree_cmp first.tree t) (trees_cmp others.trees ts) first.same others.same;
    texts = λ i. first.text i ∷ others.texts i;
  }

  read_next_member : (k : List ℕ) (t : Tree) (ms : Members) (depth : ℕ) → EncodesSameTree mode depth t → HaveReadAt mode depth ms → HaveReadAt mode depth (more_members k t ms)
  read_next_member k t ms depth first others = record {
    members = more_members k first.tree others.members;
    encoded = (refl, first.derived, others.encoded);
    same = both_equal (bytes_cmp k k) (ordering_then (tree_cmp first.tree t) (members_cmp others.members ms)) (same_bytes k k refl) (both_equal (tree_cmp first.tree t) (members_cmp others.members ms) first.same others.same);
    texts = λ i. (quoted_text k ++ 58 ∷ first.text i) ∷ others.texts i;
  }

  mutual
    pub read_tree : (t : Tree) (depth : ℕ) → IsProper t → IsWithin IsIn t depth → EncodesSameTree mode depth t
    read_tree null depth p w = read_null depth
    read_tree (boolean b) depth p w = read_boolean b depth
    read_tree (string mark bytes) depth p w = read_string mark bytes depth p
    read_tree (number n) depth p w = read_number n depth p w
    read_tree (array ts) zero p w = absurd w
    read_tree (array ts) (suc depth) p w = read_array ts depth p w (read_trees ts depth p w)
    read_tree (object ms) zero p w = absurd w
    read_tree (object ms) (suc depth) p w = read_object ms depth p (read_each_member ms depth p.1 w)
    read_tree t depth p w = absurd w

    read_trees : (ts : Trees) (depth : ℕ) → AreProper ts → AreWithin IsIn ts depth → AreReadAt mode depth ts
    read_trees no_trees depth p w = record { trees = no_trees; encoded = tt; same = refl; texts = refl }
    read_trees (more_trees t ts) depth p w = read_next t ts depth (read_tree t depth p.0 w.0) (read_trees ts depth p.1 w.1)

    read_each_member : (ms : Members) (depth : ℕ) → HaveProperParts ms → HaveWithin IsIn ms depth → HaveReadAt mode depth ms
    read_each_member no_members depth p w = record { members = no_members; encoded = tt; same = refl; texts = refl }
    read_each_member (more_members k t ms) depth p w = read_next_member k t ms depth (read_tree t depth p.1 w.0) (read_each_member ms depth p.2 w.1)

  -- what is written reads back
  pub text_reads_back : (t : Tree) → IsProper t → IsWithin IsIn t max_depth → ReadsBackAs mode (tree_text t) t
  text_reads_back t p w =
      let r = read_tree t max_depth p w in
      let document : IsDocument mode (tree_text t) r.tree = subst (λ bytes. IsDocument mode bytes r.tree) (append-nil (tree_text t)) (value_alone {core = tree_text t} no_whitespace r.derived (whitespace_to_end no_whitespace)) in
      record {
        tree = r.tree;
        document = document;
        same = r.same;
        text = some_text r.tree (document_has_text mode (tree_text t) r.tree document) ∙ ap Some r.text;
      }
