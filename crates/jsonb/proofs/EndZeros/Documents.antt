-- A document that looks plain has no number with zeros at its end.
use Rattle.std.proofs.Common.{◌≡◌, ℕ, zero, suc, Ordering, Less, Equal, Greater, List, [], ◌∷◌, ◌++◌, refl, sym, ap, subst, ◌∙◌, append-nil, append_assoc}
use Rattle.std.specs.List.{AllByRecursion}
use Rattle.std.specs.Cmp.Lexicographic.{slice_cmp}
use Rattle.std.specs.Ordering.{nat_cmp, match_ordering}
use Rattle.jsonb_spec.specs.Grammar.Whitespace.{IsWhitespace, no_whitespace, more_whitespace, IsLastWhitespace, whitespace_to_end, line_to_end}
use Rattle.jsonb_spec.specs.Grammar.{IsPadded, padded, IsJoined, one_part, more_parts, IsElement, whole_element, empty_element, IsMember, key_and_value, IsValue, scalar, empty_array, full_array, empty_object, full_object, Derives, max_depth, IsDocument, value_alone, whitespace_alone}
use Rattle.jsonb_spec.specs.Grammar.Scalar.{IsScalar, literal_value, string_value, number_value, null_word, true_word, false_word}
use Rattle.jsonb_spec.specs.Mode.{Mode}
use Rattle.jsonb_spec.specs.Text.Range.{EndsInNoZero, HasNoEndZeros, IsWithin, AreWithin, HaveWithin}
use Rattle.jsonb_spec.specs.Tree.{Tree, trees_of, Members, no_members, more_members, Member, put, put_all}
use Rattle.text_scan.proofs.Containers.JoinedParts.{ends-piece, ends-whitespace, ends_at}
use Rattle.text_parse.proofs.Scalars.Encodings.{Follows, no_more, before}
use Rattle.jsonb.proofs.EndZeros.Marks.{LooksPlain, plain_end}
use Rattle.jsonb.proofs.EndZeros.Numbers.{number_ends}

-- ---- what may follow

follows_whitespace : (mode : Mode) (whitespace rest : List ℕ) → IsWhitespace mode whitespace → Follows rest → Follows (whitespace ++ rest)
follows_whitespace mode whitespace rest no_whitespace follows = follows
follows_whitespace mode whitespace rest (more_whitespace {piece = piece} {rest = others} b bs) follows = subst Follows (sym (append_assoc piece others rest)) (before (ends-piece b (others ++ rest)))

follows_last : (mode : Mode) (after : List ℕ) → IsLastWhitespace mode after → Follows after
follows_last mode after (whitespace_to_end b) = subst Follows (append-nil after) (follows_whitespace mode after [] b no_more)
follows_last mode after (line_to_end inside is b one) = before (ends-whitespace b (47 ∷ 47 ∷ inside) (ends_at 47 (47 ∷ inside) refl))

-- ---- trees that are put together

abbrev EndWell : ℕ → Tree → Type 0
EndWell depth t = IsWithin EndsInNoZero t depth

items_end : (depth : ℕ) (ts : List Tree) → AllByRecursion (EndWell depth) ts → AreWithin EndsInNoZero (trees_of ts) depth
items_end depth [] all = tt
items_end depth (t ∷ ts) all = (all.0, items_end depth ts all.1)

picked : (depth : ℕ) (o : Ordering) (a b c : Members) → HaveWithin EndsInNoZero a depth → HaveWithin EndsInNoZero b depth → HaveWithin EndsInNoZero c depth → HaveWithin EndsInNoZero (match_ordering o a b c) depth
picked depth Less a b c p q r = p
picked depth Equal a b c p q r = q
picked depth Greater a b c p q r = r

put_ends : (depth : ℕ) (k : List ℕ) (t : Tree) (ms : Members) → EndWell depth t → HaveWithin EndsInNoZero ms depth → HaveWithin EndsInNoZero (put k t ms) depth
put_ends depth k t no_members h all = (h, tt)
put_ends depth k t (more_members l u ms) h all =
    picked depth (slice_cmp nat_cmp k l) (more_members k t (more_members l u ms)) (more_members l t ms) (more_members l u (put k t ms)) (h, all) (h, all.1) (all.0, put_ends depth k t ms h all.1)

abbrev EndsWellIn : ℕ → Member → Type 0
EndsWellIn depth m = EndWell depth m.1

members_end : (depth : ℕ) (es : List Member) (ms : Members) → AllByRecursion (EndsWellIn depth) es → HaveWithin EndsInNoZero ms depth → HaveWithin EndsInNoZero (put_all es ms) depth
members_end depth [] ms all h = h
members_end depth (e ∷ es) ms all h = members_end depth es (put e.0 e.1 ms) all.1 (put_ends depth e.0 e.1 ms all.0 h)

-- ---- parts of a plain text

-- Where the bytes look plain, and what is behind them may follow, this is so of what they encode.
abbrev EndsIn : {A : Type 0} → (A → Type 0) → (List ℕ → A → Type 0) → Type 0
EndsIn {A} Is Encodes = (bytes : List ℕ) (a : A) (rest : List ℕ) → Encodes bytes a → Follows rest → LooksPlain (bytes ++ rest) → Is a

joined_end : {A : Type 0} (Is : A → Type 0) (Part : List ℕ → A → Type 0) → EndsIn Is Part → (body : List ℕ) (parts : List A) (rest : List ℕ) → IsJoined Part body parts → Follows rest → LooksPlain (body ++ rest) → AllByRecursion Is parts
joined_end Is Part each body parts rest (one_part {a = a} p) follows plain = (each body a rest p follows plain, tt)
joined_end Is Part each body parts rest (more_parts {first = first} {rest = more} {a = a} {others = others} p ps) follows plain =
    let split : LooksPlain (first ++ 44 ∷ (more ++ rest)) = subst LooksPlain (append_assoc first (44 ∷ more) rest) plain in
    (each first a (44 ∷ (more ++ rest)) p (before (ends_at 44 (more ++ rest) refl)) split, joined_end Is Part each more others rest ps follows (plain_end first (44 ∷ (more ++ rest)) split).1)

module _ (mode : Mode) where
  scalar_ends : (depth : ℕ) → EndsIn (EndWell depth) (IsScalar mode)
  scalar_ends depth bytes t rest (literal_value (null_word w)) follows plain = tt
  scalar_ends depth bytes t rest (literal_value (true_word w)) follows plain = tt
  scalar_ends depth bytes t rest (literal_value (false_word w)) follows plain = tt
  scalar_ends depth bytes t rest (string_value q s) follows plain = tt
  scalar_ends depth bytes t rest (number_value {n = n} is) follows plain = number_ends mode bytes n is rest follows plain

  padded_ends : {A : Type 0} (Is : A → Type 0) (Encodes : List ℕ → A → Type 0) → EndsIn Is Encodes → EndsIn Is (IsPadded mode Encodes)
  padded_ends Is Encodes each bytes a rest (padded {before = front} {core = core} {after = after} b v c) follows plain =
      let split : (front ++ (core ++ after)) ++ rest ≡ front ++ (core ++ (after ++ rest)) = append_assoc front (core ++ after) rest ∙ ap (λ (l : List ℕ). front ++ l) (append_assoc core after rest) in
      each core a (after ++ rest) v (follows_whitespace mode after rest c follows) (plain_end front (core ++ (after ++ rest)) (subst LooksPlain split plain))

  element_ends : (depth : ℕ) (Value : List ℕ → Tree → Type 0) → EndsIn (EndWell depth) Value → EndsIn (EndWell depth) (IsElement mode Value)
  element_ends depth Value each bytes t rest (whole_element p) follows plain = padded_ends (EndWell depth) Value each bytes t rest p follows plain
  element_ends depth Value each bytes t rest (empty_element is b) follows plain = tt

  member_ends : (depth : ℕ) (Value : List ℕ → Tree → Type 0) → EndsIn (EndWell depth) Value → EndsIn (EndsWellIn depth) (IsMember mode Value)
  member_ends depth Value each bytes m rest (key_and_value {left = left} {right = right} {t = t} k v) follows plain =
      padded_ends (EndWell depth) Value each right t rest v follows (plain_end left (58 ∷ (right ++ rest)) (subst LooksPlain (append_assoc left (58 ∷ right) rest) plain)).1

  value_ends : (depth : ℕ) (Value : List ℕ → Tree → Type 0) → EndsIn (EndWell depth) Value → EndsIn (EndWell (suc depth)) (IsValue mode Value)
  value_ends depth Value each bytes t rest (scalar s) follows plain = scalar_ends (suc depth) bytes t rest s follows plain
  value_ends depth Value each bytes t rest (empty_array b) follows plain = tt
  value_ends depth Value each bytes t rest (full_array {body = body} {ts = ts} items some) follows plain =
      items_end depth ts (joined_end (EndWell depth) (IsElement mode Value) (element_ends depth Value each) body ts (93 ∷ rest) items (before (ends_at 93 rest refl)) (subst LooksPlain (append_assoc body (93 ∷ []) rest) plain.1))
  value_ends depth Value each bytes t rest (empty_object b) follows plain = tt
  value_ends depth Value each bytes t rest (full_object {body = body} {ms = ms} members distinct) follows plain =
      members_end depth ms no_members
      (joined_end (EndsWellIn depth) (IsMember mode Value) (member_ends depth Value each) body ms (125 ∷ rest) members (before (ends_at 125 rest refl)) (subst LooksPlain (append_assoc body (125 ∷ []) rest) plain.1))
      tt

  derived_ends : (depth : ℕ) → EndsIn (EndWell depth) (Derives mode depth)
  derived_ends zero bytes t rest d follows plain = scalar_ends zero bytes t rest d follows plain
  derived_ends (suc depth) bytes t rest d follows plain = value_ends depth (Derives mode depth) (derived_ends depth) bytes t rest d follows plain

-- no number of a document that looks plain ends in a zero
pub document_ends : (mode : Mode) (bytes : List ℕ) (t : Tree) → IsDocument mode bytes t → LooksPlain bytes → HasNoEndZeros t
document_ends mode bytes t (value_alone {before = front} {core = core} {after = after} b d c) plain = derived_ends mode max_depth core t after d (follows_last mode after c) (plain_end front (core ++ after) plain)
document_ends mode bytes t (whitespace_alone is b) plain = tt
