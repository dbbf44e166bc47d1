-- An object that closes: its tree's members, its sort key, and the bytes of its members as pieces.
use Rattle.std.proofs.Common.{◌≡◌, ℕ, Bool, true, false, cond, List, [], ◌∷◌, ◌++◌, map, is_gt, Less, None, refl, sym, ap, subst, ◌∙◌, append_assoc, append-nil, nat_cmp}
use Rattle.std.specs.Cmp.Lexicographic.{slice_cmp}
use Rattle.std.proofs.lemmas.Cmp.{nat_list_cmp_total}
use Rattle.std.proofs.lemmas.Grind.{flat_map-append}
use Rattle.jsonb_spec.specs.Keys.{IsBelowKeys, KeysAscend}
use Rattle.jsonb_spec.specs.Order.ByContent.{pairs_of}
use Rattle.jsonb_spec.specs.SortKey.{key_of, text_key, members_key}
use Rattle.jsonb_spec.specs.Text.{with_commas}
use Rattle.jsonb_spec.specs.Tree.{Members, no_members, more_members, put, put_all, object}
use Rattle.jsonb_core.proofs.Trees.MembersInOrder.{put_all-ascending}
use Rattle.jsonb_spec.specs.Source.{Found, Spot, spot_of, spot_cmp, tree_of_source, source_members_of, object_source, put_source_members, sort_by, insert_by, adjacent_repeat, first_repeat}
use Rattle.text_members.specs.Members.{SpotsAscend, between_after, others_joined, Piece, pieces_of, spots_of_pieces, bytes_of_pieces, pieces_in_order}
use Rattle.jsonb_spec.specs.SortKey.Joined.{between, join_pieces, source_key, member_key}
use Rattle.text_members.proofs.Objects.Ascending.{ascending_sorted}
use Rattle.text_common.proofs.Repeats.{AreSorted, apart, below, key_cmp, sort_spots, sorted-sort}
use Rattle.text_common.proofs.Shuffles.{sort-ascending, spots-sort}

-- ---- the order

-- sorted spots ascend where no key comes twice
strict : (ss : List Spot) → AreSorted ss → adjacent_repeat ss ≡ None → SpotsAscend ss
strict [] h e = tt
strict (s ∷ []) h e = tt
strict (s ∷ t ∷ ts) h e =
    let a = apart s t ts e in
    (below (key_cmp s.key t.key) (nat_cmp s.offset t.offset) h.0.0 a.0, strict (t ∷ ts) h.1 a.1)

pub sort_ascends : (fs : List Found) → first_repeat (map spot_of fs) ≡ None → SpotsAscend (map spot_of (sort_by spot_of fs))
unfolding first_repeat
sort_ascends fs none = subst SpotsAscend (sym (spots-sort spot_of fs)) (strict (sort_spots (map spot_of fs)) (sorted-sort (map spot_of fs)) none)

pub stays : (fs : List Found) → SpotsAscend (map spot_of fs) → sort_by spot_of fs ≡ fs
stays fs up = sort-ascending spot_of fs (ascending_sorted (map spot_of fs) up)

-- ---- the tree's members

-- the members as they are listed
abbrev pub listed : List Found → Members
listed [] = no_members
listed (f ∷ fs) = more_members f.key (tree_of_source f.source) (listed fs)

below_all : (k l : List ℕ) (ms : Members) → slice_cmp nat_cmp k l ≡ Less → IsBelowKeys l ms → IsBelowKeys k ms
below_all k l no_members h low = tt
below_all k l (more_members m u ms) h low = (nat_list_cmp_total.trans k l m h low.0, below_all k l ms h low.1)

pub listed_ascend : (fs : List Found) → SpotsAscend (map spot_of fs) → KeysAscend (listed fs)
listed_ascend [] up = tt
listed_ascend (f ∷ []) up = (tt, tt)
listed_ascend (f ∷ g ∷ fs) up =
    let others = listed_ascend (g ∷ fs) up.1 in
    ((up.0, below_all f.key g.key (listed fs) up.0 others.0), others)

put_are : (fs : List Found) (ms : Members) → put_source_members (source_members_of fs) ms ≡ put_all (pairs_of (listed fs)) ms
put_are [] ms = refl
put_are (f ∷ fs) ms = put_are fs (put f.key (tree_of_source f.source) ms)

-- members in order are put in as they are listed
pub put_listed : (fs : List Found) → SpotsAscend (map spot_of fs) → put_source_members (source_members_of fs) no_members ≡ listed fs
put_listed fs up = put_are fs no_members ∙ put_all-ascending (listed fs) (listed_ascend fs up)

-- ---- its sort key

others_key : (fs : List Found) → members_key (listed fs) ≡ others_joined false (map member_key fs) ++ 0 ∷ 0 ∷ []
others_key [] = refl
others_key (f ∷ fs) =
    ap (λ ks. text_key f.key ++ (source_key f.source ++ ks)) (others_key fs)
    ∙ sym (append_assoc (member_key f) (others_joined false (map member_key fs)) (0 ∷ 0 ∷ []) ∙ append_assoc (text_key f.key) (source_key f.source) (others_joined false (map member_key fs) ++ 0 ∷ 0 ∷ []))

pub all_joined : (ps : List (List ℕ)) → join_pieces false ps ≡ others_joined false ps
all_joined [] = refl
all_joined (p ∷ ps) = refl

pub object_key : (fs : List Found) → SpotsAscend (map spot_of fs) → source_key (object_source (source_members_of fs)) ≡ 209 ∷ join_pieces false (map member_key fs) ++ 0 ∷ 0 ∷ []
object_key fs up =
    ap (λ ms. key_of (object ms)) (put_listed fs up)
    ∙ ap (λ ks. 209 ∷ ks) (others_key fs ∙ ap (λ ks. ks ++ 0 ∷ 0 ∷ []) (sym (all_joined (map member_key fs))))

-- ---- members as pieces

pub with_commas_joined : (ps : List (List ℕ)) → join_pieces true ps ≡ with_commas ps
with_commas_joined [] = refl
with_commas_joined (p ∷ ps) = refl

module _ (text : Found → List ℕ) where
  insert_piece : (f : Found) (gs : List Found) → insert_by (λ (p : Piece). p.0) (spot_of f, text f) (pieces_of text gs) ≡ pieces_of text (insert_by spot_of f gs)
  insert_piece f [] = refl
  insert_piece f (g ∷ gs) =
      elim (is_gt (spot_cmp (spot_of f) (spot_of g))) as (λ b. cond b ((spot_of g, text g) ∷ insert_by (λ (p : Piece). p.0) (spot_of f, text f) (pieces_of text gs)) ((spot_of f, text f) ∷ (spot_of g, text g) ∷ pieces_of text gs) ≡ pieces_of text (cond b (g ∷ insert_by spot_of f gs) (f ∷ g ∷ gs))) [
        | true ↦ ap (λ ps. (spot_of g, text g) ∷ ps) (insert_piece f gs)
        | false ↦ refl
      ]

  sorted_pieces : (fs : List Found) → pieces_in_order (pieces_of text fs) ≡ pieces_of text (sort_by spot_of fs)
  sorted_pieces [] = refl
  sorted_pieces (f ∷ fs) = ap (λ ps. insert_by (λ (p : Piece). p.0) (spot_of f, text f) ps) (sorted_pieces fs) ∙ insert_piece f (sort_by spot_of fs)

  pub piece_bytes : (fs : List Found) → bytes_of_pieces (pieces_of text fs) ≡ map text fs
  piece_bytes [] = refl
  piece_bytes (f ∷ fs) = ap (λ ps. text f ∷ ps) (piece_bytes fs)

  pub piece_spots : (fs : List Found) → spots_of_pieces (pieces_of text fs) ≡ map spot_of fs
  piece_spots [] = refl
  piece_spots (f ∷ fs) = ap (λ ps. spot_of f ∷ ps) (piece_spots fs)

  -- the bytes of pieces in order are those of what was found, in order
  pub bytes_in_order : (fs : List Found) → bytes_of_pieces (pieces_in_order (pieces_of text fs)) ≡ map text (sort_by spot_of fs)
  bytes_in_order fs = ap bytes_of_pieces (sorted_pieces fs) ∙ piece_bytes (sort_by spot_of fs)

-- ---- one more member

pub joined_more : (commas : Bool) (ps : List (List ℕ)) (p : List ℕ) → join_pieces commas (ps ++ p ∷ []) ≡ join_pieces commas ps ++ (between_after commas ps ++ p)
joined_more commas [] p = append-nil p
joined_more commas (q ∷ ps) p =
    ap (λ bs. q ++ bs) (flat_map-append (λ other. between commas ++ other) ps (p ∷ []) ∙ ap (λ bs. others_joined commas ps ++ bs) (append-nil (between commas ++ p)))
    ∙ sym (append_assoc q (others_joined commas ps) (between commas ++ p))
