-- The parser's stack parses as the open containers do.
use Rattle.std.proofs.Common.{◌≡◌, ◌<◌, inl, inr, ℕ, zero, suc, ◌+◌, ◌-◌, ◌≤◌, Bool, true, false, cond, List, [], ◌∷◌, ◌++◌, length, take, get_or, set, Option, Result, Ok, Err, IfErr, refl, sym, ap, ap₂, subst, ◌∙◌, arith, length-append, length-drop, drop, drop-drop, eqb, true≢false, reverse, IfOk, MatchBool}
use Rattle.std.proofs.lemmas.Bool.{eqb-true}
use Rattle.std.proofs.lemmas.List.{reverse-append}
use Rattle.jsonb_spec.specs.Code.{Code}
use Rattle.jsonb_spec.specs.Code.Code.{depth_limit_exceeded, expected_array_comma_or_end, expected_object_comma_or_end}
use Rattle.jsonb_spec.specs.Grammar.{max_depth}
use Rattle.jsonb_spec.specs.Mode.{Mode, Strictness, strict, lenient, strictness}
use Rattle.jsonb_spec.specs.Tree.{Mark, Tree}
use Rattle.jsonb_spec.specs.Tree.Mark.{plain}
use Rattle.jsonb_spec.specs.Tree.Tree.{null}
use Rattle.jsonb_core.specs.declared.error.Error.{Error}
use Rattle.text_parse.specs.declared.parser.Parser.{Parser}
use Rattle.text_parse.specs.declared.parser.frame.Frame.{Frame}
use Rattle.text_parse.specs.declared.parser.frame.OpenObject.{OpenObject}
use Rattle.text_parse.specs.declared.parser.frame.Frame.TheVariants as variants
use Rattle.text_parse.specs.Handler.{Builds, ElseFails, Misses}
use Rattle.text_parse.specs.Frames.{AllFit, AtPart, BeforeValue, IsParsedToEnd, OpensContainer, ParsesParts, depth_within, finish_container, resume_part, resume_stack, resume_value, scalar_or_null}
use Rattle.text_parse.specs.Slots.{Fits, IsArray, IsObject}
use Rattle.jsonb_spec.specs.Parsing.Memory.{MayAllocate}
use Rattle.text_scan.specs.Answer.{grammar_of}
use Rattle.text_parse.specs.Parser.{Advances, parse_at, rest_of, size_of}
use Rattle.jsonb_spec.specs.Parsing.{Fault, Parse, begins, on_byte, reject, ◌>>=◌}
use Rattle.jsonb_spec.specs.Parsing.Whitespace.{skip_whitespace}
use Rattle.jsonb_spec.specs.Parsing.Container.{array_at, elements_at, is_left_out, members_at, object_at, object_or_fault, value_or_null}
use Rattle.jsonb_spec.specs.Source.{Found, Source, array_source, found_member, no_source_members, no_sources, null_source, object_source, source_alone}
use Rattle.jsonb_spec.specs.Parsing.Document.{alone_at, value_at}
use Rattle.jsonb_spec.specs.Parsing.Scalar.{scalar_at}
use Rattle.text_parse.specs.Stack.{elements_from, finish_open, member_start, next_part_at, object_end, part_end, object_members_from, resume, resume_after_part}
use Rattle.jsonb_spec.specs.Source.Open.{Open, add_part, elements_so_far, members_so_far}
use Rattle.text_parse.proofs.Containers.OpenOnLists.{array-begun, array-value, element-due, elements-turn, members-turn, object-begun, object-value, on_byte-then, resume-none, resume-part, then-same, then-then, value_plain}
use Rattle.text_common.proofs.Repeats.{no_repeat}
use Rattle.text_parse.proofs.Steps.Advancing.{contains_next, goes_on, stays}
use Rattle.text_parse.proofs.Steps.Failures.{misses_same, misses_through}
use Rattle.text_parse.proofs.Steps.Outcomes.{same_size}
use Rattle.text_scan.proofs.Containers.JoinedParts.{on_byte-found}
use Rattle.text_scan.proofs.Steps.Tests.{chosen}
use Rattle.text_scan.proofs.Text.Whitespace.{skip-stop}

-- ---- what is returned after a first step

-- A step was built, and what comes after it is the whole; or its fault is that of the whole.
pub builds_then : {X F Y B : Type 0} (silent : Bool) (reported : Option Error) (See : X → Y → Type 0) (r : Result X F) (read : Parse Y) (rest : List ℕ) (then : Y × List ℕ → Result B Fault) (whole : Result B Fault) (P : X → Type 0)
    → Builds silent reported See r read rest → whole ≡ (read >>= then) → ((x : X) (y : Y) → See x y → whole ≡ then (y, rest) → P x) → ElseFails silent reported r whole P
builds_then silent reported See (Ok x) read rest then whole P b e f = f x b.0 b.1 (e ∙ ap (λ q. q >>= then) b.2)
builds_then silent reported See (Err t) read rest then whole P b e f = misses_same silent reported (read >>= then) whole e (misses_through silent reported read then b)

pub each_error : {X F : Type 0} {P : F → Type 0} (r : Result X F) → ((f : F) → P f) → IfErr r P
each_error (Ok x) h = tt
each_error (Err f) h = h f

-- ---- the same in one input

pub value_same : (p q : Parser) (depth : ℕ) (bytes : List ℕ) → Advances p q → value_at (size_of p) (grammar_of p.grammar) depth bytes ≡ value_at (size_of q) (grammar_of q.grammar) depth bytes
value_same p q depth bytes a = sym (ap₂ (λ n m. value_at n m depth bytes) (same_size p q a) (ap grammar_of a.grammar))

pub skip_same : (p q : Parser) (bytes : List ℕ) → Advances p q → skip_whitespace (grammar_of p.grammar) bytes ≡ skip_whitespace (grammar_of q.grammar) bytes
skip_same p q bytes a = ap (λ m. skip_whitespace (grammar_of m) bytes) (sym a.grammar)

-- a value that holds no others, at any depth
pub value_alone : (p q : Parser) (depth : ℕ) → Advances p q → begins 91 (rest_of q) ≡ false → begins 123 (rest_of q) ≡ false
    → value_at (size_of p) (grammar_of p.grammar) depth (rest_of q) ≡ alone_at (scalar_at (size_of q) (grammar_of q.grammar) (rest_of q))
value_alone p q depth a no_array no_object = value_same p q depth (rest_of q) a ∙ value_plain (size_of q) (grammar_of q.grammar) depth (rest_of q) no_array no_object

or_null_alone : (left_out : Bool) (bytes : List ℕ) (read : Parse Tree) → cond left_out (Ok (null_source, bytes)) (alone_at read) ≡ alone_at (cond left_out (Ok (null, bytes)) read)
or_null_alone true bytes read = refl
or_null_alone false bytes read = refl

-- ---- the end of a part

module _ (size : ℕ) (mode : Mode) (depth : ℕ) where
  pub element_ends : (front : List Source) (bytes : List ℕ)
      → resume_after_part size mode depth (elements_so_far front) bytes ≡ (part_end size expected_array_comma_or_end 93 bytes >>= λ x. resume_part size mode depth x.0 (elements_so_far front) x.1)
  element_ends front bytes =
      let g : Bool × List ℕ → Parse Source = λ x. resume_part size mode depth x.0 (elements_so_far front) x.1 in
      let last : Parse Bool = on_byte 93 bytes (λ rest. Ok (true, rest)) (reject size expected_array_comma_or_end 0 bytes) in
      sym (on_byte-then 44 bytes (λ rest. Ok (false, rest)) last g
      ∙ ap (λ (o : Parse Source). on_byte 44 bytes (λ rest. g (false, rest)) o) (on_byte-then 93 bytes (λ rest. Ok (true, rest)) (reject size expected_array_comma_or_end 0 bytes) g))

  pub member_ends : (front : List Found) (key : Mark × List ℕ) (offset : ℕ) (bytes : List ℕ)
      → resume_after_part size mode depth (members_so_far front key offset) bytes ≡ (part_end size expected_object_comma_or_end 125 bytes >>= λ x. resume_part size mode depth x.0 (members_so_far front key offset) x.1)
  member_ends front key offset bytes =
      let g : Bool × List ℕ → Parse Source = λ x. resume_part size mode depth x.0 (members_so_far front key offset) x.1 in
      let last : Parse Bool = on_byte 125 bytes (λ rest. Ok (true, rest)) (reject size expected_object_comma_or_end 0 bytes) in
      sym (on_byte-then 44 bytes (λ rest. Ok (false, rest)) last g
      ∙ ap (λ (o : Parse Source). on_byte 44 bytes (λ rest. g (false, rest)) o) (on_byte-then 125 bytes (λ rest. Ok (true, rest)) (reject size expected_object_comma_or_end 0 bytes) g))

-- ---- a turn of the loops over parts

-- an element is due
pub element_stops : (p l s : Parser) (depth : ℕ) (front : List Source) → Advances p l → Advances l s → rest_of s ≡ skip_whitespace (grammar_of l.grammar) (rest_of l) → is_left_out (strictness (grammar_of s.grammar)) (rest_of s) ≡ false
    → elements_from (size_of p) (grammar_of p.grammar) depth front (rest_of l) ≡ (value_at (size_of p) (grammar_of p.grammar) depth (rest_of s) >>= finish_open (size_of p) (grammar_of p.grammar) depth (elements_so_far front))
element_stops p l s depth front a b skipped due =
    let here : rest_of s ≡ skip_whitespace (grammar_of p.grammar) (rest_of l) = skipped ∙ sym (skip_same p l (rest_of l) a) in
    element-due (size_of p) (grammar_of p.grammar) depth front (rest_of l) (ap₂ (λ m r. is_left_out (strictness m) r) (sym (ap grammar_of (goes_on p l s a b).grammar)) (sym here) ∙ due)
    ∙ ap (λ r. value_at (size_of p) (grammar_of p.grammar) depth r >>= finish_open (size_of p) (grammar_of p.grammar) depth (elements_so_far front)) (sym here)

-- the part that ends here, and what is left of the container
abbrev pub after_element : Parser → ℕ → List Source → Tree × List ℕ → Parse Source
after_element p depth front x =
    part_end (size_of p) expected_array_comma_or_end 93 (skip_whitespace (grammar_of p.grammar) x.1) >>= λ y. resume_part (size_of p) (grammar_of p.grammar) depth y.0 (elements_so_far (front ++ source_alone x.0 ∷ [])) y.1

abbrev pub after_member : Parser → ℕ → List Found → Mark × List ℕ → ℕ → Tree × List ℕ → Parse Source
after_member p depth front k offset x =
    part_end (size_of p) expected_object_comma_or_end 125 (skip_whitespace (grammar_of p.grammar) x.1) >>= λ y. resume_part (size_of p) (grammar_of p.grammar) depth y.0 (members_so_far (front ++ found_member k (source_alone x.0) offset ∷ []) (plain, []) 0) y.1

-- an element that holds no others is due, or none
pub element_turn : (p l s : Parser) (depth : ℕ) (front : List Source) → Advances p l → Advances l s → rest_of s ≡ skip_whitespace (grammar_of l.grammar) (rest_of l) → begins 91 (rest_of s) ≡ false → begins 123 (rest_of s) ≡ false
    → elements_from (size_of p) (grammar_of p.grammar) depth front (rest_of l) ≡ (parse_at scalar_or_null s >>= after_element p depth front)
element_turn p l s depth front a b skipped no_array no_object =
    let on = goes_on p l s a b in
    let read : Parse Tree = scalar_or_null (size_of s) (grammar_of s.grammar) (rest_of s) in
    let here : rest_of s ≡ skip_whitespace (grammar_of p.grammar) (rest_of l) = skipped ∙ sym (skip_same p l (rest_of l) a) in
    elements-turn (size_of p) (grammar_of p.grammar) depth front (rest_of l)
    ∙ ap (λ x. x >>= finish_open (size_of p) (grammar_of p.grammar) depth (elements_so_far front))
    (ap (λ u. value_or_null (strictness (grammar_of p.grammar)) (value_at (size_of p) (grammar_of p.grammar) depth) u) (sym here)
    ∙ ap (λ v. cond (is_left_out (strictness (grammar_of p.grammar)) (rest_of s)) (Ok (null_source, rest_of s)) v) (value_alone p s depth on no_array no_object)
    ∙ ap (λ m. cond (is_left_out (strictness (grammar_of m)) (rest_of s)) (Ok (null_source, rest_of s)) (alone_at (scalar_at (size_of s) (grammar_of s.grammar) (rest_of s)))) (sym on.grammar)
    ∙ or_null_alone (is_left_out (strictness (grammar_of s.grammar)) (rest_of s)) (rest_of s) (scalar_at (size_of s) (grammar_of s.grammar) (rest_of s)))
    ∙ then-then read (λ (x : Tree × List ℕ). Ok (source_alone x.0, x.1)) (finish_open (size_of p) (grammar_of p.grammar) depth (elements_so_far front))
    ∙ then-same read (λ (x : Tree × List ℕ). finish_open (size_of p) (grammar_of p.grammar) depth (elements_so_far front) (source_alone x.0, x.1)) (after_element p depth front)
    (λ x. element_ends (size_of p) (grammar_of p.grammar) depth (front ++ source_alone x.0 ∷ []) (skip_whitespace (grammar_of p.grammar) x.1))

-- a member is due
abbrev pub waits : Parser → ℕ → List Found → ((Mark × List ℕ) × ℕ) × List ℕ → Parse Source
waits p depth front k =
    value_at (size_of p) (grammar_of p.grammar) depth k.1 >>= finish_open (size_of p) (grammar_of p.grammar) depth (members_so_far front k.0.0 k.0.1)

pub member_due : (p l : Parser) (depth : ℕ) (front : List Found) → Advances p l → object_members_from (size_of p) (grammar_of p.grammar) depth front (rest_of l) ≡ (parse_at member_start l >>= waits p depth front)
member_due p l depth front a =
    members-turn (size_of p) (grammar_of p.grammar) depth front (rest_of l)
    ∙ ap (λ (r : Parse ((Mark × List ℕ) × ℕ)). r >>= waits p depth front) (sym (ap₂ (λ n m. member_start n m (rest_of l)) (same_size p l a) (ap grammar_of a.grammar)))

-- a member's value, which holds no others
pub member_turn : (p s : Parser) (depth : ℕ) (front : List Found) (k : Mark × List ℕ) (offset : ℕ) → Advances p s → begins 91 (rest_of s) ≡ false → begins 123 (rest_of s) ≡ false
    → waits p depth front ((k, offset), rest_of s) ≡ (parse_at scalar_at s >>= after_member p depth front k offset)
member_turn p s depth front k offset a no_array no_object =
    let read : Parse Tree = scalar_at (size_of s) (grammar_of s.grammar) (rest_of s) in
    ap (λ (r : Parse Source). r >>= finish_open (size_of p) (grammar_of p.grammar) depth (members_so_far front k offset)) (value_alone p s depth a no_array no_object)
    ∙ then-then read (λ (x : Tree × List ℕ). Ok (source_alone x.0, x.1)) (finish_open (size_of p) (grammar_of p.grammar) depth (members_so_far front k offset))
    ∙ then-same read (λ (x : Tree × List ℕ). finish_open (size_of p) (grammar_of p.grammar) depth (members_so_far front k offset) (source_alone x.0, x.1)) (after_member p depth front k offset)
    (λ x. member_ends (size_of p) (grammar_of p.grammar) depth (front ++ found_member k (source_alone x.0) offset ∷ []) (plain, []) 0 (skip_whitespace (grammar_of p.grammar) x.1))

-- the end of a part, reported of the parser that is there
pub same_end : (p q : Parser) (code : Code) (close : ℕ) → Advances p q → part_end (size_of q) code close (skip_whitespace (grammar_of q.grammar) (rest_of q)) ≡ part_end (size_of p) code close (skip_whitespace (grammar_of p.grammar) (rest_of q))
same_end p q code close a = ap₂ (λ n m. part_end n code close (skip_whitespace m (rest_of q))) (same_size p q a) (ap grammar_of a.grammar)

-- ---- lists that end in one more

pub last-is : {A : Type 0} (fs : List A) (n : ℕ) (f : A) → n + 1 ≡ length fs → f ≡ get_or fs n f → fs ≡ take n fs ++ f ∷ []
last-is [] n f e h = absurd (omega arith)
last-is (x ∷ []) zero f e h = ap (λ y. y ∷ []) (sym h)
last-is (x ∷ y ∷ xs) zero f e h = absurd (omega arith)
last-is (x ∷ xs) (suc n) f e h = ap (λ ys. x ∷ ys) (last-is xs n f (omega arith) h)

pub last-set : {A : Type 0} (fs : List A) (n : ℕ) (g : A) → n + 1 ≡ length fs → set fs n g ≡ take n fs ++ g ∷ []
last-set [] n g e = absurd (omega arith)
last-set (x ∷ []) zero g e = refl
last-set (x ∷ y ∷ xs) zero g e = absurd (omega arith)
last-set (x ∷ xs) (suc n) g e = ap (λ ys. x ∷ ys) (last-set xs n g (omega arith))

pub only_one : {A : Type 0} (fs : List A) → length fs ≡ 1 → (f : A) × (fs ≡ f ∷ [])
only_one [] e = absurd (omega arith)
only_one (f ∷ []) e = (f, refl)
only_one (f ∷ x ∷ fs) e = absurd (omega arith)

pub last_of_one : {A : Type 0} (xs : List A) (x y : A) → xs ++ x ∷ [] ≡ y ∷ [] → x ≡ y
last_of_one [] x y e = cc e
last_of_one (z ∷ []) x y e = absurd (omega (arith, ap length e))
last_of_one (z ∷ w ∷ xs) x y e = absurd (omega (arith, ap length e, length-append xs (x ∷ [])))

-- ---- the byte that opens a container

-- a byte that comes next
pub next_found : (c : ℕ) (p : Parser) → begins c (rest_of p) ≡ true → rest_of p ≡ c ∷ drop (p.offset + 1) p.buf.now
next_found c p e = found_next c (rest_of p) e ∙ ap (λ r. c ∷ r) (drop-drop 1 p.offset p.buf.now)
  where
    found_next : (c : ℕ) (bytes : List ℕ) → begins c bytes ≡ true → bytes ≡ c ∷ drop 1 bytes
    found_next c [] e = absurd (true≢false (sym e))
    found_next c (b ∷ bytes) e =
        elim (chosen (eqb b c) true false true e) [
          | inl t ↦ ap (λ k. k ∷ bytes) (eqb-true b c t.0)
          | inr f ↦ absurd (true≢false (sym f.1))
        ]

-- after the brace, where it comes next
pub after_brace : (p : Parser) → OpensContainer (rest_of p) → begins 91 (rest_of p) ≡ false → rest_of p ≡ 123 ∷ drop (p.offset + 1) p.buf.now
after_brace p (inl e) none = absurd (true≢false (sym e ∙ none))
after_brace p (inr e) none = next_found 123 p e

-- The byte that opens a container is in the input.
pub opens_allocates : (p : Parser) → OpensContainer (rest_of p) → MayAllocate p.buf.now
opens_allocates p (inl e) = inl (contains_next p.buf.now p.offset 91 (drop (p.offset + 1) p.buf.now) (next_found 91 p e))
opens_allocates p (inr e) = inr (inl (contains_next p.buf.now p.offset 123 (drop (p.offset + 1) p.buf.now) (next_found 123 p e)))

-- whether the closing byte comes next
closing : (c : ℕ) (mode : Mode) (bytes : List ℕ) (s q : Parser) (closed : Bool) → rest_of s ≡ skip_whitespace mode bytes → closed ≡ begins c (rest_of s) → cond closed (rest_of s ≡ c ∷ rest_of q) (q ≡ s)
    → cond closed (skip_whitespace mode bytes ≡ c ∷ rest_of q) ((begins c (skip_whitespace mode bytes) ≡ false) × (skip_whitespace mode bytes ≡ rest_of q))
closing c mode bytes s q true e f r = sym e ∙ r
closing c mode bytes s q false e f r = (ap (λ u. begins c u) (sym e) ∙ sym f, sym e ∙ ap (λ o. rest_of o) (sym r))

module _ (size : ℕ) (mode : Mode) (depth : ℕ) (bytes rest : List ℕ) where
  array-starts : (closed : Bool) → cond closed (skip_whitespace mode bytes ≡ 93 ∷ rest) ((begins 93 (skip_whitespace mode bytes) ≡ false) × (skip_whitespace mode bytes ≡ rest))
      → array_at size mode (value_at size mode depth) bytes ≡ resume_part size mode depth closed (elements_so_far []) rest
  array-starts true e =
      ap (λ (u : List ℕ). on_byte 93 u (λ (r : List ℕ). Ok (array_source no_sources, r)) (elements_at size mode (value_at size mode depth) bytes)) e
      ∙ on_byte-found 93 rest (λ (r : List ℕ). Ok (array_source no_sources, r)) (elements_at size mode (value_at size mode depth) bytes)
  array-starts false e = array-begun size mode depth bytes e.0 ∙ ap (λ (u : List ℕ). elements_from size mode depth [] u) e.1

  object-starts : (key : Mark × List ℕ) (offset : ℕ) (closed : Bool) → cond closed (skip_whitespace mode bytes ≡ 125 ∷ rest) ((begins 125 (skip_whitespace mode bytes) ≡ false) × (skip_whitespace mode bytes ≡ rest))
      → object_at size mode (value_at size mode depth) bytes ≡ resume_part size mode depth closed (members_so_far [] key offset) rest
  object-starts key offset true e =
      ap (λ (u : List ℕ). on_byte 125 u (λ (r : List ℕ). Ok (object_source no_source_members, r)) (members_at size mode (value_at size mode depth) bytes)) e
      ∙ on_byte-found 125 rest (λ (r : List ℕ). Ok (object_source no_source_members, r)) (members_at size mode (value_at size mode depth) bytes)
      ∙ sym (ap (λ o. object_or_fault o [] rest) (no_repeat [] tt))
  object-starts key offset false e = object-begun size mode depth bytes e.0 ∙ ap (λ (u : List ℕ). object_members_from size mode depth [] u) e.1

outer-same : (p q : Parser) (depth : ℕ) (closed : Bool) (cs : List Open) (bytes : List ℕ) → Advances p q → resume_stack (size_of p) (grammar_of p.grammar) depth closed cs bytes ≡ resume_stack (size_of q) (grammar_of q.grammar) depth closed cs bytes
outer-same p q depth closed cs bytes a = sym (ap₂ (λ n m. resume_stack n m depth closed cs bytes) (same_size p q a) (ap grammar_of a.grammar))

-- ---- the stack

-- The innermost container is the last of the stack, and the first of those that are reported.
pub innermost_first : {A : Type 0} (fs : List A) (f : A) → reverse (fs ++ f ∷ []) ≡ f ∷ reverse fs
innermost_first fs f = reverse-append fs (f ∷ [])

-- the innermost container, and the others
pub record Innermost {I M K : Type 0} (Holds : Bool → List (Frame I M K) → List Open → Type 0) (due : Bool) (below : List (Frame I M K)) (f : Frame I M K) (cs : List Open) : Type 0 where
  pub inner : Open
  pub others : List Open
  pub are : cs ≡ inner ∷ others
  pub fits : Fits f inner
  pub others_fit : AllFit below others
  pub held : Holds due (f ∷ below) (inner ∷ others)

innermost : {I M K : Type 0} (Holds : Bool → List (Frame I M K) → List Open → Type 0) (due : Bool) (below : List (Frame I M K)) (f : Frame I M K) (cs : List Open) → AllFit (f ∷ below) cs → Holds due (f ∷ below) cs → Innermost Holds due below f cs
innermost Holds due below f [] fit held = absurd fit
innermost Holds due below f (c ∷ cs) fit held = record { inner = c; others = cs; are = refl; fits = fit.0; others_fit = fit.1; held = held }

pub innermost_of : {I M K : Type 0} (Holds : Bool → List (Frame I M K) → List Open → Type 0) (due : Bool) (fs gs : List (Frame I M K)) (f : Frame I M K) (cs : List Open) → gs ≡ fs ++ f ∷ [] → AllFit (reverse gs) cs → Holds due (reverse gs) cs → Innermost Holds due (reverse fs) f cs
innermost_of Holds due fs gs f cs e fit held =
    let turned = ap reverse e ∙ innermost_first fs f in
    innermost Holds due (reverse fs) f cs (subst (λ hs. AllFit hs cs) turned fit) (subst (λ hs. Holds due hs cs) turned held)

-- no other is open
none_open : (I M K : Type 0) (cs : List Open) → AllFit {I = I} {M = M} {K = K} [] cs → cs ≡ []
none_open I M K [] fit = refl
none_open I M K (c ∷ cs) fit = absurd fit

-- no container is open yet
pub outermost_due : {I M K : Type 0} (Holds : Bool → List (Frame I M K) → List Open → Type 0) (p : Parser) (fs : List (Frame I M K)) → fs ≡ [] → Holds true [] [] → BeforeValue Holds (value_at (size_of p) (grammar_of p.grammar) max_depth (rest_of p)) p fs
outermost_due Holds p fs e held =
    subst (λ gs. BeforeValue Holds (value_at (size_of p) (grammar_of p.grammar) max_depth (rest_of p)) p gs) (sym e)
    (record { opens = []; fit = tt; held = held; parses = sym (resume-none (size_of p) (grammar_of p.grammar) max_depth (value_at (size_of p) (grammar_of p.grammar) max_depth (rest_of p))) })

pub opens_within : (p : Parser) → OpensContainer (rest_of p) → p.offset < size_of p
opens_within p (inl e) = omega (arith, ap length (next_found 91 p e), length-drop p.offset p.buf.now)
opens_within p (inr e) = omega (arith, ap length (next_found 123 p e), length-drop p.offset p.buf.now)

-- as many are open as may be
pub too_many : {I M K : Type 0} (Holds : Bool → List (Frame I M K) → List Open → Type 0) (p : Parser) (fs : List (Frame I M K)) (whole : Parse Source) → length fs ≡ max_depth → OpensContainer (rest_of p) → BeforeValue Holds whole p fs → whole ≡ Err (record { code = depth_limit_exceeded; offset = p.offset + 1 })
too_many Holds p fs whole full opens due =
    let none : depth_within fs ≡ 0 = omega arith in
    due.parses
    ∙ ap (λ n. value_at (size_of p) (grammar_of p.grammar) n (rest_of p) >>= resume (size_of p) (grammar_of p.grammar) n due.opens) none
    ∙ ap (λ (r : Parse Source). r >>= resume (size_of p) (grammar_of p.grammar) 0 due.opens) (rejected_here opens)
  where
    offset-is : (c : ℕ) → rest_of p ≡ c ∷ drop (p.offset + 1) p.buf.now → size_of p - length (drop (p.offset + 1) p.buf.now) ≡ p.offset + 1
    offset-is c e = omega (arith, ap length e, length-drop p.offset p.buf.now, length-drop (p.offset + 1) p.buf.now)

    rejected_here : OpensContainer (rest_of p) → value_at (size_of p) (grammar_of p.grammar) 0 (rest_of p) ≡ Err (record { code = depth_limit_exceeded; offset = p.offset + 1 })
    rejected_here (inl e) =
        let next = next_found 91 p e in
        ap (λ r. value_at (size_of p) (grammar_of p.grammar) 0 r) next
        ∙ array-value (size_of p) (grammar_of p.grammar) 0 (drop (p.offset + 1) p.buf.now)
        ∙ ap (λ n. Err (record { code = depth_limit_exceeded; offset = n })) (offset-is 91 next)
    rejected_here (inr e) =
        let next = next_found 123 p e in
        ap (λ r. value_at (size_of p) (grammar_of p.grammar) 0 r) next
        ∙ object-value (size_of p) (grammar_of p.grammar) 0 (drop (p.offset + 1) p.buf.now)
        ∙ ap (λ n. Err (record { code = depth_limit_exceeded; offset = n })) (offset-is 123 next)

-- Old and New are what the sink means before and after a step.
module _ {I M K : Type 0} (Old New : Bool → List (Frame I M K) → List Open → Type 0) where
  -- a container was pushed that is parsed from here on
  opened : (p q : Parser) (fs gs : List (Frame I M K)) (f : Frame I M K) (c : Open) (closed : Bool) (whole : Parse Source) → Advances p q → gs ≡ fs ++ f ∷ [] → Fits f c → ((cs : List Open) → Old true (reverse fs) cs → New false (f ∷ reverse fs) (c ∷ cs)) → length gs ≤ max_depth
      → ((depth : ℕ) → value_at (size_of p) (grammar_of p.grammar) (suc depth) (rest_of p) ≡ resume_part (size_of p) (grammar_of p.grammar) depth closed c (rest_of q))
      → BeforeValue Old whole p fs → AtPart New whole q gs closed
  opened p q fs gs f c closed whole a e fits held within parses due =
      let deep : depth_within fs ≡ suc (depth_within gs) = omega (arith, ap length e, length-append fs (f ∷ [])) in
      let turned = sym (ap reverse e ∙ innermost_first fs f) in
      record {
        opens = c ∷ due.opens;
        fit = subst (λ hs. AllFit hs (c ∷ due.opens)) turned (fits, due.fit);
        held = subst (λ hs. New false hs (c ∷ due.opens)) turned (held due.opens due.held);
        parses =
            due.parses
            ∙ ap (λ n. value_at (size_of p) (grammar_of p.grammar) n (rest_of p) >>= resume (size_of p) (grammar_of p.grammar) n due.opens) deep
            ∙ ap (λ r. r >>= resume (size_of p) (grammar_of p.grammar) (suc (depth_within gs)) due.opens) (parses (depth_within gs))
            ∙ outer-same p q (depth_within gs) closed (c ∷ due.opens) (rest_of q) a;
      }

  pub array_opened : (p o s q : Parser) (fs gs : List (Frame I M K)) (v : I) (closed : Bool) (whole : Parse Source) → Advances p o → Advances p q → rest_of p ≡ 91 ∷ rest_of o → rest_of s ≡ skip_whitespace (grammar_of o.grammar) (rest_of o)
      → closed ≡ begins 93 (rest_of s) → cond closed (rest_of s ≡ 93 ∷ rest_of q) (q ≡ s) → ((cs : List Open) → Old true (reverse fs) cs → New false (variants.Array v ∷ reverse fs) (elements_so_far [] ∷ cs)) → gs ≡ fs ++ variants.Array v ∷ [] → length gs ≤ max_depth → BeforeValue Old whole p fs → AtPart New whole q gs closed
  array_opened p o s q fs gs v closed whole a b bracket skipped found_member closes held e fits due =
      opened p q fs gs (variants.Array v) (elements_so_far []) closed whole b e tt held fits
      (λ depth.
      ap (λ r. value_at (size_of p) (grammar_of p.grammar) (suc depth) r) bracket
      ∙ array-value (size_of p) (grammar_of p.grammar) (suc depth) (rest_of o)
      ∙ array-starts (size_of p) (grammar_of p.grammar) depth (rest_of o) (rest_of q) closed (closing 93 (grammar_of p.grammar) (rest_of o) s q closed (skipped ∙ sym (skip_same p o (rest_of o) a)) found_member closes))
      due

  pub object_opened : (p o s q : Parser) (fs gs : List (Frame I M K)) (v : OpenObject M K) (key : Mark × List ℕ) (offset : ℕ) (closed : Bool) (whole : Parse Source) → Advances p o → Advances p q → rest_of p ≡ 123 ∷ rest_of o → rest_of s ≡ skip_whitespace (grammar_of o.grammar) (rest_of o)
      → closed ≡ begins 125 (rest_of s) → cond closed (rest_of s ≡ 125 ∷ rest_of q) (q ≡ s) → ((cs : List Open) → Old true (reverse fs) cs → New false (variants.Object v ∷ reverse fs) (members_so_far [] key offset ∷ cs)) → gs ≡ fs ++ variants.Object v ∷ [] → length gs ≤ max_depth → BeforeValue Old whole p fs → AtPart New whole q gs closed
  object_opened p o s q fs gs v key offset closed whole a b brace skipped found_member closes held e fits due =
      opened p q fs gs (variants.Object v) (members_so_far [] key offset) closed whole b e tt held fits
      (λ depth.
      ap (λ r. value_at (size_of p) (grammar_of p.grammar) (suc depth) r) brace
      ∙ object-value (size_of p) (grammar_of p.grammar) (suc depth) (rest_of o)
      ∙ object-starts (size_of p) (grammar_of p.grammar) depth (rest_of o) (rest_of q) key offset closed (closing 125 (grammar_of p.grammar) (rest_of o) s q closed (skipped ∙ sym (skip_same p o (rest_of o) a)) found_member closes))
      due

  -- ---- parts are parsed

  same_depth : (fs gs hs : List (Frame I M K)) (f g : Frame I M K) → fs ≡ hs ++ f ∷ [] → gs ≡ hs ++ g ∷ [] → depth_within gs ≡ depth_within fs
  same_depth fs gs hs f g e d = ap (λ n. max_depth - n) (let same : length gs ≡ length fs = omega (arith, ap length e, ap length d, length-append hs (f ∷ []), length-append hs (g ∷ [])) in same)

  module _ (p q : Parser) (fs gs hs : List (Frame I M K)) (f g : Frame I M K) (whole : Parse Source) (a : Advances p q) (e : fs ≡ hs ++ f ∷ []) (d : gs ≡ hs ++ g ∷ []) where
    stopped : (closed : Bool) (ahead : AtPart Old whole p fs false) (i : Innermost Old false (reverse hs) f ahead.opens) (s : ParsesParts New (size_of p) (grammar_of p.grammar) (depth_within fs) (next_part_at (size_of p) (grammar_of p.grammar) (depth_within fs) i.inner (rest_of p)) closed g (reverse hs) i.others (rest_of q))
        → whole ≡ (resume_value (size_of p) (grammar_of p.grammar) (depth_within fs) closed s.so_far (rest_of q) >>= resume (size_of p) (grammar_of p.grammar) (suc (depth_within fs)) i.others)
    stopped closed ahead i s =
        ahead.parses
        ∙ ap (λ cs. resume_stack (size_of p) (grammar_of p.grammar) (depth_within fs) false cs (rest_of p)) i.are
        ∙ ap (λ (r : Parse Source). r >>= resume (size_of p) (grammar_of p.grammar) (suc (depth_within fs)) i.others) s.parses

    -- what is once the innermost was parsed so far
    hold_on : (due : Bool) (c : Open) (cs : List Open) → New due (g ∷ reverse hs) (c ∷ cs) → New due (reverse gs) (c ∷ cs)
    hold_on due c cs h = subst (λ ks. New due ks (c ∷ cs)) (sym (ap reverse d ∙ innermost_first hs g)) h

    fit_on : (c : Open) (cs : List Open) → Fits g c → AllFit (reverse hs) cs → AllFit (reverse gs) (c ∷ cs)
    fit_on c cs h i = subst (λ ks. AllFit ks (c ∷ cs)) (sym (ap reverse d ∙ innermost_first hs g)) (h, i)

    -- up to the end of the container
    pub read_to_end : ((depth : ℕ) (c : Open) (ks : List (Frame I M K)) (cs : List Open) → Fits f c → Old false (f ∷ ks) (c ∷ cs) → ParsesParts New (size_of p) (grammar_of p.grammar) depth (next_part_at (size_of p) (grammar_of p.grammar) depth c (rest_of p)) true g ks cs (rest_of q))
        → AtPart Old whole p fs false → AtPart New whole q gs true
    read_to_end stops ahead =
        let i = innermost_of Old false hs fs f ahead.opens e ahead.fit ahead.held in
        let s = stops (depth_within fs) i.inner (reverse hs) i.others i.fits i.held in
        record {
          opens = s.so_far ∷ i.others;
          fit = fit_on s.so_far i.others s.fits i.others_fit;
          held = hold_on false s.so_far i.others s.held;
          parses =
              stopped true ahead i s
              ∙ outer-same p q (depth_within fs) true (s.so_far ∷ i.others) (rest_of q) a
              ∙ ap (λ n. resume_stack (size_of q) (grammar_of q.grammar) n true (s.so_far ∷ i.others) (rest_of q)) (sym (same_depth fs gs hs f g e d));
        }

    -- up to a part that is a container
    pub stopped_due : ((depth : ℕ) (c : Open) (ks : List (Frame I M K)) (cs : List Open) → Fits f c → Old false (f ∷ ks) (c ∷ cs) → ParsesParts New (size_of p) (grammar_of p.grammar) depth (next_part_at (size_of p) (grammar_of p.grammar) depth c (rest_of p)) false g ks cs (rest_of q))
        → AtPart Old whole p fs false → BeforeValue New whole q gs
    stopped_due stops ahead =
        let i = innermost_of Old false hs fs f ahead.opens e ahead.fit ahead.held in
        let s = stops (depth_within fs) i.inner (reverse hs) i.others i.fits i.held in
        record {
          opens = s.so_far ∷ i.others;
          fit = fit_on s.so_far i.others s.fits i.others_fit;
          held = hold_on true s.so_far i.others s.held;
          parses =
              stopped false ahead i s
              ∙ resume-part (size_of p) (grammar_of p.grammar) (depth_within fs) s.so_far i.others (value_at (size_of p) (grammar_of p.grammar) (depth_within fs) (rest_of q))
              ∙ ap₂ (λ n m. value_at n m (depth_within fs) (rest_of q) >>= resume n m (depth_within fs) (s.so_far ∷ i.others)) (sym (same_size p q a)) (ap grammar_of (sym a.grammar))
              ∙ ap (λ n. value_at (size_of q) (grammar_of q.grammar) n (rest_of q) >>= resume (size_of q) (grammar_of q.grammar) n (s.so_far ∷ i.others)) (sym (same_depth fs gs hs f g e d));
        }

  -- the fault of a part of the innermost
  pub part_misses : (p : Parser) (fs hs : List (Frame I M K)) (f : Frame I M K) (whole : Parse Source) (silent : Bool) (t : Option Error) → fs ≡ hs ++ f ∷ []
      → ((depth : ℕ) (c : Open) (ks : List (Frame I M K)) (cs : List Open) → Fits f c → Old false (f ∷ ks) (c ∷ cs) → Misses silent t (next_part_at (size_of p) (grammar_of p.grammar) depth c (rest_of p))) → AtPart Old whole p fs false → Misses silent t whole
  part_misses p fs hs f whole silent t is h ahead =
      let i = innermost_of Old false hs fs f ahead.opens is ahead.fit ahead.held in
      let part = next_part_at (size_of p) (grammar_of p.grammar) (depth_within fs) i.inner (rest_of p) in
      misses_same silent t (part >>= resume (size_of p) (grammar_of p.grammar) (suc (depth_within fs)) i.others) whole
      (ahead.parses ∙ ap (λ cs. resume_stack (size_of p) (grammar_of p.grammar) (depth_within fs) false cs (rest_of p)) i.are)
      (misses_through silent t part (resume (size_of p) (grammar_of p.grammar) (suc (depth_within fs)) i.others) (h (depth_within fs) i.inner (reverse hs) i.others i.fits i.held))

  -- ---- a container ends

  -- The innermost was taken off: it is what is parsed of it, and then the others go on.
  pub record Ended (whole : Parse Source) (p : Parser) (gs : List (Frame I M K)) (f : Frame I M K) : Type 0 where
    pub inner : Open
    pub others : List Open
    pub fits : Fits f inner
    pub others_fit : AllFit (reverse gs) others
    pub held : Old false (f ∷ reverse gs) (inner ∷ others)
    pub parses : whole ≡ (finish_container inner (rest_of p) >>= resume (size_of p) (grammar_of p.grammar) (depth_within gs) others)

  pub ended : (p : Parser) (fs gs : List (Frame I M K)) (f : Frame I M K) (whole : Parse Source) → fs ≡ gs ++ f ∷ [] → length fs ≤ max_depth → AtPart Old whole p fs true → Ended whole p gs f
  ended p fs gs f whole e fits ahead =
      let i = innermost_of Old false gs fs f ahead.opens e ahead.fit ahead.held in
      let deep : suc (depth_within fs) ≡ depth_within gs = omega (arith, ap length e, length-append gs (f ∷ [])) in
      record {
        inner = i.inner;
        others = i.others;
        fits = i.fits;
        others_fit = i.others_fit;
        held = i.held;
        parses =
            ahead.parses
            ∙ ap (λ cs. resume_stack (size_of p) (grammar_of p.grammar) (depth_within fs) true cs (rest_of p)) i.are
            ∙ ap (λ n. finish_container i.inner (rest_of p) >>= resume (size_of p) (grammar_of p.grammar) n i.others) deep;
      }

  pub outermost : (p : Parser) (fs : List (Frame I M K)) (f : Frame I M K) (whole : Parse Source) → fs ≡ f ∷ [] → AtPart Old whole p fs true → length fs ≤ max_depth → IsParsedToEnd Old whole fs (rest_of p)
  outermost p fs f whole e ahead fits =
      let x = ended p fs [] f whole e fits ahead in
      let none = none_open I M K x.others x.others_fit in (
        f,
        x.inner,
        e,
        x.fits,
        subst (λ cs. Old false (f ∷ []) (x.inner ∷ cs)) none x.held,
        x.parses
            ∙ ap (λ cs. finish_container x.inner (rest_of p) >>= resume (size_of p) (grammar_of p.grammar) (depth_within {I = I} {M = M} {K = K} []) cs) none
            ∙ resume-none (size_of p) (grammar_of p.grammar) (depth_within {I = I} {M = M} {K = K} []) (finish_container x.inner (rest_of p)),
      )

  -- the fault at its end
  pub end_misses : (p : Parser) (gs : List (Frame I M K)) (f : Frame I M K) (whole : Parse Source) (silent : Bool) (t : Option Error) (x : Ended whole p gs f) → Misses silent t (finish_container x.inner (rest_of p)) → Misses silent t whole
  end_misses p gs f whole silent t x h =
      let then = resume (size_of p) (grammar_of p.grammar) (depth_within gs) x.others in
      misses_same silent t (finish_container x.inner (rest_of p) >>= then) whole x.parses (misses_through silent t (finish_container x.inner (rest_of p)) then h)

  -- The container around a value, with the value put in, goes on at the end of the part.
  pub record Joins (size : ℕ) (mode : Mode) (s : Source) (c : Open) (cs : List Open) (g : Frame I M K) (below : List (Frame I M K)) (code : Code) (close : ℕ) : Type 0 where
    pub fits : Fits g (add_part c s)
    pub held : New false (g ∷ below) (add_part c s ∷ cs)
    pub ends : (depth : ℕ) (bytes : List ℕ) → resume_after_part size mode depth (add_part c s) bytes ≡ (part_end size code close bytes >>= λ y. resume_part size mode depth y.0 (add_part c s) y.1)

  module _ (p q : Parser) (gs ks hs : List (Frame I M K)) (f g inner : Frame I M K) (whole : Parse Source) (s : Source) (code : Code) (close : ℕ) (a : Advances p q) (e : gs ≡ hs ++ f ∷ []) (d : ks ≡ hs ++ g ∷ []) where
    -- the container around, where a value is that was due
    record Around (x : Ended whole p gs inner) : Type 0 where
      pub outer : Open
      pub others : List Open
      pub are : x.others ≡ outer ∷ others
      pub others_fit : AllFit (reverse hs) others
      pub joins : Joins (size_of p) (grammar_of p.grammar) s outer others g (reverse hs) code close

    around : (x : Ended whole p gs inner) → ((c : Open) (cs : List Open) → Fits f c → x.others ≡ c ∷ cs → Joins (size_of p) (grammar_of p.grammar) s c cs g (reverse hs) code close) → Around x
    around x joins = by_cases x.others refl (subst (λ ls. AllFit ls x.others) (ap reverse e ∙ innermost_first hs f) x.others_fit)
      where
        by_cases : (cs : List Open) → x.others ≡ cs → AllFit (f ∷ reverse hs) cs → Around x
        by_cases [] same fit = absurd fit
        by_cases (c ∷ cs) same fit = record { outer = c; others = cs; are = same; others_fit = fit.1; joins = joins c cs fit.0 same }

    pub joined : {F : Type 0} (silent : Bool) (reported : Option Error) (r : Result Bool F) (x : Ended whole p gs inner) → finish_container x.inner (rest_of p) ≡ Ok (s, rest_of p)
        → ((c : Open) (cs : List Open) → Fits f c → x.others ≡ c ∷ cs → Joins (size_of p) (grammar_of p.grammar) s c cs g (reverse hs) code close)
        → Builds silent reported (λ b c. b ≡ c) r (part_end (size_of p) code close (skip_whitespace (grammar_of p.grammar) (rest_of p))) (rest_of q) → ElseFails silent reported r whole (AtPart New whole q ks)
    unfolding resume
    joined silent reported r x finished joins built =
        let i = around x joins in
        let j = i.joins in
        let depth = depth_within gs in
        let others = resume (size_of p) (grammar_of p.grammar) (suc depth) i.others in
        let then : Bool × List ℕ → Parse Source = λ y. resume_part (size_of p) (grammar_of p.grammar) depth y.0 (add_part i.outer s) y.1 >>= others in
        let read = part_end (size_of p) code close (skip_whitespace (grammar_of p.grammar) (rest_of p)) in
        let turned = sym (ap reverse d ∙ innermost_first hs g) in
        builds_then silent reported (λ b c. b ≡ c) r read (rest_of q) then whole (AtPart New whole q ks) built
        (x.parses
        ∙ ap (λ (u : Parse Source). u >>= resume (size_of p) (grammar_of p.grammar) depth x.others) finished
        ∙ ap (λ cs. resume (size_of p) (grammar_of p.grammar) depth cs (s, rest_of p)) i.are
        ∙ ap (λ (u : Parse Source). u >>= others) (j.ends depth (skip_whitespace (grammar_of p.grammar) (rest_of p)))
        ∙ then-then read (λ (y : Bool × List ℕ). resume_part (size_of p) (grammar_of p.grammar) depth y.0 (add_part i.outer s) y.1) others)
        (λ closed y same is.
        record {
          opens = add_part i.outer s ∷ i.others;
          fit = subst (λ ls. AllFit ls (add_part i.outer s ∷ i.others)) turned (j.fits, i.others_fit);
          held = subst (λ ls. New false ls (add_part i.outer s ∷ i.others)) turned j.held;
          parses =
              is
              ∙ ap (λ b. resume_part (size_of p) (grammar_of p.grammar) depth b (add_part i.outer s) (rest_of q) >>= others) (sym same)
              ∙ outer-same p q depth closed (add_part i.outer s ∷ i.others) (rest_of q) a
              ∙ ap (λ n. resume_stack (size_of q) (grammar_of q.grammar) n closed (add_part i.outer s ∷ i.others) (rest_of q)) (sym (same_depth gs ks hs f g e d));
        })

  -- an element, and a member
  pub array-joins : (Full : List (Frame I M K) → List Open → Type 0) (size : ℕ) (mode : Mode) (v w : I) (s : Source) (below : List (Frame I M K)) (cs : List Open) → ((ss : List Source) → Full (variants.Array v ∷ below) (elements_so_far ss ∷ cs) → New false (variants.Array w ∷ below) (elements_so_far (ss ++ s ∷ []) ∷ cs))
      → (c : Open) → IsArray c → Full (variants.Array v ∷ below) (c ∷ cs) → Joins size mode s c cs (variants.Array w) below expected_array_comma_or_end 93
  array-joins Full size mode v w s below cs put (elements_so_far ss) fits h = record { fits = tt; held = put ss h; ends = λ depth bytes. element_ends size mode depth (ss ++ s ∷ []) bytes }
  array-joins Full size mode v w s below cs put (members_so_far fs key offset) fits h = absurd fits

  pub object-joins : (Full : List (Frame I M K) → List Open → Type 0) (size : ℕ) (mode : Mode) (v w : OpenObject M K) (s : Source) (below : List (Frame I M K)) (cs : List Open) → ((fs : List Found) (k : Mark × List ℕ) (offset : ℕ) → Full (variants.Object v ∷ below) (members_so_far fs k offset ∷ cs) → New false (variants.Object w ∷ below) (members_so_far (fs ++ found_member k s offset ∷ []) (plain, []) 0 ∷ cs))
      → (c : Open) → IsObject c → Full (variants.Object v ∷ below) (c ∷ cs) → Joins size mode s c cs (variants.Object w) below expected_object_comma_or_end 125
  object-joins Full size mode v w s below cs put (elements_so_far ss) fits h = absurd fits
  object-joins Full size mode v w s below cs put (members_so_far fs key offset) fits h = record { fits = tt; held = put fs key offset h; ends = λ depth bytes. member_ends size mode depth (fs ++ found_member key s offset ∷ []) (plain, []) 0 bytes }

-- ---- a container that is made

-- an object that is open ends, or its fault is reported
pub object_ended : {X F : Type 0} (Holds : List Open → Type 0) (Done : Source → Type 0) (silent : Bool) (reported : Option Error) (result : Result X F) (c : Open) (rest : List ℕ) (cs : List Open) → IsObject c → Holds (c ∷ cs)
    → ((front : List Found) → (k : Mark × List ℕ) → (offset : ℕ) → Holds (members_so_far front k offset ∷ cs) → ElseFails silent reported result (object_end front rest) (λ _. (s : Source) × Done s × (object_end front rest ≡ Ok (s, rest))))
    → ElseFails silent reported result (finish_container c rest) (λ _. (s : Source) × Done s × (finish_container c rest ≡ Ok (s, rest)))
object_ended Holds Done silent reported result (elements_so_far ss) rest cs is held ends = absurd is
object_ended Holds Done silent reported result (members_so_far fs key offset) rest cs is held ends = ends fs key offset held

-- what is so of a member that was put in
pub put_new : {A P : Type 0} (Q : Type 0) (r : Result Bool A) → r ≡ Ok true → IfOk r (λ b. MatchBool b P Q) → P
put_new Q (Ok true) e h = h
put_new Q (Ok false) e h = cc
put_new Q (Err f) e h = cc

-- ---- an array whose next element is an array

bracket-there : (strictness : Strictness) (rest : List ℕ) → is_left_out strictness (91 ∷ rest) ≡ false
bracket-there strict rest = refl
bracket-there lenient rest = refl

-- it waits for that
pub array_awaits : {I M K : Type 0} (Before After : Bool → List (Frame I M K) → List Open → Type 0) (p : Parser) (items more : I) → begins 91 (rest_of p) ≡ true → (depth : ℕ) (o : Open) (fs : List (Frame I M K)) (cs : List Open) → ((ss : List Source) → Before false (variants.Array items ∷ fs) (elements_so_far ss ∷ cs) → After true (variants.Array more ∷ fs) (elements_so_far ss ∷ cs)) → IsArray o → Before false (variants.Array items ∷ fs) (o ∷ cs)
    → ParsesParts After (size_of p) (grammar_of p.grammar) depth (next_part_at (size_of p) (grammar_of p.grammar) depth o (rest_of p)) false (variants.Array more) fs cs (rest_of p)
array_awaits Before After p items more next depth (elements_so_far ss) fs cs due fits held =
    let e = next_found 91 p next in
    let mode = grammar_of p.grammar in
    let rest = drop (p.offset + 1) p.buf.now in
    record {
      so_far = elements_so_far ss;
      fits = tt;
      held = due ss held;
      parses = element_stops p p p depth ss (stays p) (stays p) (e ∙ sym (ap (skip_whitespace mode) e ∙ skip-stop mode 91 rest refl)) (ap (is_left_out (strictness mode)) e ∙ bracket-there (strictness mode) rest);
    }
array_awaits Before After p items more next depth (members_so_far ms k offset) fs cs due fits held = absurd fits
