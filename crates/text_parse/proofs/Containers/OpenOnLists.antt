-- Parsing by the open containers is parsing from left to right.
use Rattle.std.proofs.Common.{◌≡◌, ℕ, zero, suc, ◌-◌, ◌<◌, ◌≤◌, true, false, cond, List, [], ◌∷◌, ◌++◌, length, Result, Ok, Err, ⊎_elim, refl, sym, ap, ◌∙◌, append_assoc, length-append, arith, eqb}
use Rattle.jsonb_spec.specs.Code.{Code}
use Rattle.jsonb_spec.specs.Code.Code.{expected_array_comma_or_end, expected_colon, expected_object_comma_or_end}
use Rattle.std.proofs.lemmas.Bool.{cases_lt, cond-false}
use Rattle.jsonb_spec.specs.Grammar.{Derives, IsElement}
use Rattle.jsonb_spec.specs.Mode.{Mode, strictness}
use Rattle.jsonb_spec.specs.Tree.{Mark}
use Rattle.jsonb_spec.specs.Parsing.{Fault, Parse, begins, on_byte, reject, ◌>>=◌}
use Rattle.jsonb_spec.specs.Parsing.Whitespace.{skip_whitespace}
use Rattle.jsonb_spec.specs.Parsing.Container.{after_key, after_part, array_at, element_at, elements_at, found_at, is_left_out, joined_at, member_at, members_at, object_at, padded_at, value_or_null}
use Rattle.jsonb_spec.specs.Source.{Found, Source, array_source, no_source_members, no_sources, null_source, object_source}
use Rattle.jsonb_spec.specs.Parsing.Document.{alone_at, too_deep, value_at, value_with}
use Rattle.jsonb_spec.specs.Parsing.Scalar.{key_at, scalar_at}
use Rattle.text_parse.specs.Stack.{array_end, array_within, elements_from, finish_open, member_start, object_members_from, object_end, object_within, parts_after, parts_from, resume}
use Rattle.jsonb_spec.specs.Source.Open.{Open, elements_so_far, members_so_far}
use Rattle.text_scan.proofs.Containers.JoinedParts.{IsSoundBefore, on_byte-none}
use Rattle.text_scan.proofs.Text.Whitespace.{length-skip}
use Rattle.text_parse.proofs.Containers.Values.{IsFound, Seen, element_sound, member_sound, value_sound}

-- ---- steps one after the other

pub then-then : {A B C : Type 0} (r : Result A Fault) (f : A → Result B Fault) (g : B → Result C Fault) → (r >>= f >>= g) ≡ (r >>= λ x. f x >>= g)
then-then (Ok x) f g = refl
then-then (Err e) f g = refl

pub then-same : {A B : Type 0} (r : Result A Fault) (f g : A → Result B Fault) → ((x : A) → f x ≡ g x) → (r >>= f) ≡ (r >>= g)
then-same (Ok x) f g e = e x
then-same (Err d) f g e = refl

-- the same after each value that this step may give
pub then-where : {A B : Type 0} (r : Result A Fault) (f g : A → Result B Fault) → ((x : A) → r ≡ Ok x → f x ≡ g x) → (r >>= f) ≡ (r >>= g)
then-where (Ok x) f g e = e x refl
then-where (Err d) f g e = refl

-- a choice by the next byte, and then a step
pub on_byte-then : {A B : Type 0} (c : ℕ) (bytes : List ℕ) (found : List ℕ → Result A Fault) (other : Result A Fault) (f : A → Result B Fault)
    → (on_byte c bytes found other >>= f) ≡ on_byte c bytes (λ r. found r >>= f) (other >>= f)
on_byte-then c [] found other f = refl
on_byte-then c (b ∷ bytes) found other f =
    elim (eqb b c) as (λ t. (cond t (found bytes) other >>= f) ≡ cond t (found bytes >>= f) (other >>= f)) [
      | true ↦ refl
      | false ↦ refl
    ]

-- the same choice, where both outcomes are the same
pub on_byte-same : {X : Type 0} (c : ℕ) (bytes : List ℕ) (found found' : List ℕ → X) (other other' : X) → ((r : List ℕ) → length r < length bytes → found r ≡ found' r) → other ≡ other'
    → on_byte c bytes found other ≡ on_byte c bytes found' other'
on_byte-same c [] found found' other other' f o = o
on_byte-same c (b ∷ bytes) found found' other other' f o =
    elim (eqb b c) as (λ t. cond t (found bytes) other ≡ cond t (found' bytes) other') [
      | true ↦ f bytes (omega arith)
      | false ↦ o
    ]

-- ---- more turns change nothing

-- what is left is no longer than what was there
abbrev pub Shrinks : {A : Type 0} → (List ℕ → Parse A) → Type 0
Shrinks {A} part = (bytes : List ℕ) (x : A × List ℕ) → part bytes ≡ Ok x → length x.1 ≤ length bytes

module _ {A : Type 0} (size : ℕ) (code : Code) (close : ℕ) (part : List ℕ → Parse A) (shrinks : Shrinks part) where
  pub enough_turns : (m n : ℕ) (bytes : List ℕ) → length bytes < m → length bytes < n → joined_at size code close part m bytes ≡ joined_at size code close part n bytes
  unfolding joined_at
  enough_turns zero n bytes g h = absurd (omega arith)
  enough_turns (suc m) zero bytes g h = absurd (omega arith)
  enough_turns (suc m) (suc n) bytes g h =
      then-where (part bytes) (λ (x : A × List ℕ). after_part size code close part (joined_at size code close part m) x.0 x.1) (λ (x : A × List ℕ). after_part size code close part (joined_at size code close part n) x.0 x.1)
      (λ x e.
      let fits : length x.1 ≤ length bytes = shrinks bytes x e in
      on_byte-same 44 x.1 (λ (r : List ℕ). joined_at size code close part m r >>= λ (y : List A × List ℕ). Ok (x.0 ∷ y.0, y.1)) (λ (r : List ℕ). joined_at size code close part n r >>= λ (y : List A × List ℕ). Ok (x.0 ∷ y.0, y.1))
      (on_byte close x.1 (λ (r : List ℕ). Ok (x.0 ∷ [], r)) (reject size code 0 x.1)) (on_byte close x.1 (λ (r : List ℕ). Ok (x.0 ∷ [], r)) (reject size code 0 x.1))
      (λ r less. ap (λ (q : Parse (List A)). q >>= λ (y : List A × List ℕ). Ok (x.0 ∷ y.0, y.1)) (enough_turns m n r (omega arith) (omega arith))) refl)

  module _ (finish : List A → List ℕ → Parse Source) where
    -- what comes after one more part
    after-part : (front : List A) (n : ℕ) (a : A) (more : List ℕ) → length more ≤ n
        → (after_part size code close part (joined_at size code close part n) a more >>= λ (x : List A × List ℕ). finish (front ++ x.0) x.1) ≡ parts_after size code close part finish (front ++ a ∷ []) more
    after-part front n a more fits =
        on_byte-then 44 more (λ (r : List ℕ). joined_at size code close part n r >>= λ (x : List A × List ℕ). Ok (a ∷ x.0, x.1)) (on_byte close more (λ (r : List ℕ). Ok (a ∷ [], r)) (reject size code 0 more)) (λ (x : List A × List ℕ). finish (front ++ x.0) x.1)
        ∙ on_byte-same 44 more (λ (r : List ℕ). joined_at size code close part n r >>= (λ (x : List A × List ℕ). Ok (a ∷ x.0, x.1)) >>= λ (x : List A × List ℕ). finish (front ++ x.0) x.1) (parts_from size code close part finish (front ++ a ∷ []))
        (on_byte close more (λ (r : List ℕ). Ok (a ∷ [], r)) (reject size code 0 more) >>= λ (x : List A × List ℕ). finish (front ++ x.0) x.1) (on_byte close more (finish (front ++ a ∷ [])) (reject size code 0 more))
        (λ r less.
        then-then (joined_at size code close part n r) (λ (x : List A × List ℕ). Ok (a ∷ x.0, x.1)) (λ (x : List A × List ℕ). finish (front ++ x.0) x.1)
        ∙ ap (λ (q : Parse (List A)). q >>= λ (x : List A × List ℕ). finish (front ++ a ∷ x.0) x.1) (enough_turns n (suc (length r)) r (omega arith) (omega arith))
        ∙ then-same (joined_at size code close part (suc (length r)) r) (λ (x : List A × List ℕ). finish (front ++ a ∷ x.0) x.1) (λ (x : List A × List ℕ). finish ((front ++ a ∷ []) ++ x.0) x.1)
        (λ x. ap (λ (t : List A). finish t x.1) (sym (append_assoc front (a ∷ []) x.0))))
        (on_byte-then close more (λ (r : List ℕ). Ok (a ∷ [], r)) (reject size code 0 more) (λ (x : List A × List ℕ). finish (front ++ x.0) x.1))

    pub parts-turn : (front : List A) (bytes : List ℕ) → parts_from size code close part finish front bytes ≡ (part bytes >>= λ x. parts_after size code close part finish (front ++ x.0 ∷ []) x.1)
    unfolding joined_at
    parts-turn front bytes =
        then-then (part bytes) (λ (x : A × List ℕ). after_part size code close part (joined_at size code close part (length bytes)) x.0 x.1) (λ (x : List A × List ℕ). finish (front ++ x.0) x.1)
        ∙ then-where (part bytes) (λ (x : A × List ℕ). after_part size code close part (joined_at size code close part (length bytes)) x.0 x.1 >>= λ (y : List A × List ℕ). finish (front ++ y.0) y.1) (λ (x : A × List ℕ). parts_after size code close part finish (front ++ x.0 ∷ []) x.1)
        (λ x e. after-part front (length bytes) x.0 x.1 (shrinks bytes x e))

-- ---- elements and members

pub sound-shrinks : {A : Type 0} (Encodes : List ℕ → A → Type 0) (part : List ℕ → Parse A) → IsSoundBefore Encodes part → Shrinks part
sound-shrinks Encodes part sound bytes x e =
    ⊎_elim (λ (some : 0 < length x.1). let s = sound bytes x.0 x.1 e some in omega (arith, ap length s.whole, length-append s.core x.1)) (λ (none : length x.1 ≤ 0). omega (arith, none)) (cases_lt 0 (length x.1))

module _ (size : ℕ) (mode : Mode) (depth : ℕ) where
  element-shrinks : Shrinks (element_at mode (value_at size mode depth))
  element-shrinks = sound-shrinks (Seen (IsElement mode (Derives mode depth))) (element_at mode (value_at size mode depth)) (element_sound mode (Derives mode depth) (value_at size mode depth) (value_sound size mode depth))

  member-shrinks : Shrinks (member_at size mode (value_at size mode depth))
  member-shrinks = sound-shrinks (IsFound mode (Derives mode depth) (value_at size mode depth)) (member_at size mode (value_at size mode depth)) (member_sound mode (Derives mode depth) (value_at size mode depth) size (value_sound size mode depth))

  pub elements-turn : (front : List Source) (bytes : List ℕ) → elements_from size mode depth front bytes
      ≡ (value_or_null (strictness mode) (value_at size mode depth) (skip_whitespace mode bytes) >>= finish_open size mode depth (elements_so_far front))
  elements-turn front bytes =
      parts-turn size expected_array_comma_or_end 93 (element_at mode (value_at size mode depth)) element-shrinks array_end front bytes
      ∙ then-then (value_or_null (strictness mode) (value_at size mode depth) (skip_whitespace mode bytes)) (λ (x : Source × List ℕ). Ok (x.0, skip_whitespace mode x.1))
      (λ (x : Source × List ℕ). parts_after size expected_array_comma_or_end 93 (element_at mode (value_at size mode depth)) array_end (front ++ x.0 ∷ []) x.1)

  pub element-due : (front : List Source) (bytes : List ℕ) → is_left_out (strictness mode) (skip_whitespace mode bytes) ≡ false
      → elements_from size mode depth front bytes ≡ (value_at size mode depth (skip_whitespace mode bytes) >>= finish_open size mode depth (elements_so_far front))
  element-due front bytes e =
      elements-turn front bytes
      ∙ ap (λ (r : Parse Source). r >>= finish_open size mode depth (elements_so_far front)) (cond-false (is_left_out (strictness mode) (skip_whitespace mode bytes)) (Ok (null_source, skip_whitespace mode bytes)) (value_at size mode depth (skip_whitespace mode bytes)) e)

  pub array-begun : (bytes : List ℕ) → begins 93 (skip_whitespace mode bytes) ≡ false → array_at size mode (value_at size mode depth) bytes ≡ elements_from size mode depth [] (skip_whitespace mode bytes)
  array-begun bytes e =
      let fits : length (skip_whitespace mode bytes) ≤ length bytes = length-skip mode bytes in
      on_byte-none 93 (skip_whitespace mode bytes) (λ (r : List ℕ). Ok (array_source no_sources, r)) (elements_at size mode (value_at size mode depth) bytes) e
      ∙ ap (λ (r : Parse (List Source)). r >>= λ (x : List Source × List ℕ). array_end x.0 x.1)
      (enough_turns size expected_array_comma_or_end 93 (element_at mode (value_at size mode depth)) element-shrinks (suc (length bytes)) (suc (length (skip_whitespace mode bytes))) (skip_whitespace mode bytes) (omega arith) (omega arith))

  pub object-begun : (bytes : List ℕ) → begins 125 (skip_whitespace mode bytes) ≡ false → object_at size mode (value_at size mode depth) bytes ≡ object_members_from size mode depth [] (skip_whitespace mode bytes)
  object-begun bytes e =
      let fits : length (skip_whitespace mode bytes) ≤ length bytes = length-skip mode bytes in
      on_byte-none 125 (skip_whitespace mode bytes) (λ (r : List ℕ). Ok (object_source no_source_members, r)) (members_at size mode (value_at size mode depth) bytes) e
      ∙ ap (λ (r : Parse (List Found)). r >>= λ (x : List Found × List ℕ). object_end x.0 x.1)
      (enough_turns size expected_object_comma_or_end 125 (member_at size mode (value_at size mode depth)) member-shrinks (suc (length bytes)) (suc (length (skip_whitespace mode bytes))) (skip_whitespace mode bytes) (omega arith) (omega arith))

  -- the key, and then the value that it waits for
  pub members-turn : (front : List Found) (bytes : List ℕ) → object_members_from size mode depth front bytes
      ≡ (member_start size mode bytes >>= λ k. value_at size mode depth k.1 >>= finish_open size mode depth (members_so_far front k.0.0 k.0.1))
  members-turn front bytes =
      parts-turn size expected_object_comma_or_end 125 (member_at size mode (value_at size mode depth)) member-shrinks object_end front bytes
      ∙ then-then (key_at size mode (skip_whitespace mode bytes)) (λ (k : (Mark × List ℕ) × List ℕ). after_key size mode (value_at size mode depth) k.0 (size - length k.1) (skip_whitespace mode k.1)) added
      ∙ then-same (key_at size mode (skip_whitespace mode bytes)) (λ (k : (Mark × List ℕ) × List ℕ). after_key size mode (value_at size mode depth) k.0 (size - length k.1) (skip_whitespace mode k.1) >>= added)
      (λ (k : (Mark × List ℕ) × List ℕ). colon k >>= waits) keyed
      ∙ sym (then-then (key_at size mode (skip_whitespace mode bytes)) colon waits)
    where
      added : Found × List ℕ → Parse Source
      added x = parts_after size expected_object_comma_or_end 125 (member_at size mode (value_at size mode depth)) object_end (front ++ x.0 ∷ []) x.1

      waits : ((Mark × List ℕ) × ℕ) × List ℕ → Parse Source
      waits k = value_at size mode depth k.1 >>= finish_open size mode depth (members_so_far front k.0.0 k.0.1)

      colon : (Mark × List ℕ) × List ℕ → Parse ((Mark × List ℕ) × ℕ)
      colon k = on_byte 58 (skip_whitespace mode k.1) (λ rest. Ok ((k.0, size - length k.1), skip_whitespace mode rest)) (reject size expected_colon 0 (skip_whitespace mode k.1))

      padded-found : (key : Mark × List ℕ) (offset : ℕ) (r : Parse Source) → (r >>= (λ (x : Source × List ℕ). Ok (x.0, skip_whitespace mode x.1)) >>= found_at key offset >>= added) ≡ (r >>= finish_open size mode depth (members_so_far front key offset))
      padded-found key offset (Ok x) = refl
      padded-found key offset (Err f) = refl

      keyed : (k : (Mark × List ℕ) × List ℕ) → (after_key size mode (value_at size mode depth) k.0 (size - length k.1) (skip_whitespace mode k.1) >>= added) ≡ (colon k >>= waits)
      keyed k =
          on_byte-then 58 (skip_whitespace mode k.1) (λ (r : List ℕ). padded_at mode (value_at size mode depth) r >>= found_at k.0 (size - length k.1)) (reject size expected_colon 0 (skip_whitespace mode k.1)) added
          ∙ on_byte-same 58 (skip_whitespace mode k.1) (λ (r : List ℕ). padded_at mode (value_at size mode depth) r >>= found_at k.0 (size - length k.1) >>= added) (λ (r : List ℕ). value_at size mode depth (skip_whitespace mode r) >>= finish_open size mode depth (members_so_far front k.0 (size - length k.1)))
          (reject size expected_colon 0 (skip_whitespace mode k.1)) (reject size expected_colon 0 (skip_whitespace mode k.1)) (λ r less. padded-found k.0 (size - length k.1) (value_at size mode depth (skip_whitespace mode r))) refl
          ∙ sym (on_byte-then 58 (skip_whitespace mode k.1) (λ (rest : List ℕ). Ok ((k.0, size - length k.1), skip_whitespace mode rest)) (reject size expected_colon 0 (skip_whitespace mode k.1)) waits)

-- ---- values

value_opens : (size : ℕ) (mode : Mode) (depth : ℕ) (bytes : List ℕ) → value_at size mode (suc depth) bytes ≡ value_with size mode (array_at size mode (value_at size mode depth)) (object_at size mode (value_at size mode depth)) bytes
unfolding value_at
value_opens size mode depth bytes = refl

value_closed : (size : ℕ) (mode : Mode) (bytes : List ℕ) → value_at size mode zero bytes ≡ value_with size mode (too_deep size) (too_deep size) bytes
unfolding value_at
value_closed size mode bytes = refl

pub value_plain : (size : ℕ) (mode : Mode) (depth : ℕ) (bytes : List ℕ) → begins 91 bytes ≡ false → begins 123 bytes ≡ false → value_at size mode depth bytes ≡ alone_at (scalar_at size mode bytes)
value_plain size mode zero bytes a b =
    value_closed size mode bytes ∙ on_byte-none 91 bytes (too_deep size) (on_byte 123 bytes (too_deep size) (alone_at (scalar_at size mode bytes))) a ∙ on_byte-none 123 bytes (too_deep size) (alone_at (scalar_at size mode bytes)) b
value_plain size mode (suc depth) bytes a b =
    let arrays : List ℕ → Parse Source = array_at size mode (value_at size mode depth) in
    let objects : List ℕ → Parse Source = object_at size mode (value_at size mode depth) in
    value_opens size mode depth bytes ∙ on_byte-none 91 bytes arrays (on_byte 123 bytes objects (alone_at (scalar_at size mode bytes))) a ∙ on_byte-none 123 bytes objects (alone_at (scalar_at size mode bytes)) b

pub array-value : (size : ℕ) (mode : Mode) (depth : ℕ) (rest : List ℕ) → value_at size mode depth (91 ∷ rest) ≡ array_within size mode depth rest
array-value size mode zero rest = value_closed size mode (91 ∷ rest)
array-value size mode (suc depth) rest = value_opens size mode depth (91 ∷ rest)

pub object-value : (size : ℕ) (mode : Mode) (depth : ℕ) (rest : List ℕ) → value_at size mode depth (123 ∷ rest) ≡ object_within size mode depth rest
object-value size mode zero rest = value_closed size mode (123 ∷ rest)
object-value size mode (suc depth) rest = value_opens size mode depth (123 ∷ rest)

-- ---- the containers that are open

module _ (size : ℕ) (mode : Mode) (depth : ℕ) (c : Open) (cs : List Open) where
  pub resume-part : (r : Parse Source) → (r >>= finish_open size mode depth c >>= resume size mode (suc depth) cs) ≡ (r >>= resume size mode depth (c ∷ cs))
  unfolding resume
  resume-part r = then-then r (finish_open size mode depth c) (resume size mode (suc depth) cs)

pub resume-none : (size : ℕ) (mode : Mode) (depth : ℕ) (r : Parse Source) → (r >>= resume size mode depth []) ≡ r
unfolding resume
resume-none size mode depth (Ok x) = refl
resume-none size mode depth (Err f) = refl
