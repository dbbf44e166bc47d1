-- From parsing parts to parsing parts joined by commas.
use Rattle.std.proofs.Common.{◌≡◌, ℕ, zero, suc, ◌<◌, ◌≤◌, Bool, true, false, cond, ◌||◌, ◌⊎◌, ⊎_elim, inl, inr, List, [], ◌∷◌, ◌++◌, length, Ok, refl, sym, ap, ap₂, map, subst, ◌∙◌, append_assoc, length-append, arith, eqb, eqb-true}
use Rattle.std.proofs.lemmas.Bool.{cond-false, cond-true, or_cases, or_parts}
use Rattle.jsonb_spec.specs.Grammar.Whitespace.{IsWhitespacePiece, IsWhitespace}
use Rattle.jsonb_spec.specs.Grammar.Whitespace.IsWhitespacePiece.{block_comment, carriage_return, form_feed, line_comment, line_feed, space, tab, written_carriage_return, written_form_feed, written_line_feed, written_tab}
use Rattle.jsonb_spec.specs.Grammar.Whitespace.IsWhitespace.{more_whitespace, no_whitespace}
use Rattle.jsonb_spec.specs.Code.{Code}
use Rattle.jsonb_spec.specs.Grammar.{IsJoined, IsPadded}
use Rattle.jsonb_spec.specs.Grammar.IsJoined.{more_parts, one_part}
use Rattle.jsonb_spec.specs.Grammar.IsPadded.{padded}
use Rattle.jsonb_spec.specs.Mode.{Mode}
use Rattle.jsonb_spec.specs.Parsing.{Parse, begins, on_byte, reject, ◌>>=◌}
use Rattle.jsonb_spec.specs.Parsing.Whitespace.{is_whitespace_start, is_break, skip_whitespace}
use Rattle.jsonb_spec.specs.Parsing.Container.{after_part, joined_at, padded_at}
use Rattle.text_scan.proofs.Steps.Tests.{bind_ok, chosen, eqb_self, rejected_fails, same_read}
use Rattle.text_scan.proofs.Text.Whitespace.{skip-whitespace, skip-stop, skips}

-- ---- bytes that begin and that end something

-- The text begins with a byte that no whitespace, comma, colon or closing bracket begins with.
pub record Starts (bytes : List ℕ) : Type 0 where
  pub first : ℕ
  pub others : List ℕ
  pub whole : bytes ≡ first ∷ others
  pub is_start : is_break first ≡ false

-- The text begins with a byte that may follow a value or a key.
pub record Ends (bytes : List ℕ) : Type 0 where
  pub first : ℕ
  pub others : List ℕ
  pub whole : bytes ≡ first ∷ others
  pub is_end : is_break first ≡ true

-- which bytes a byte that begins a value is not
pub record IsOther (b : ℕ) : Type 0 where
  pub piece : is_whitespace_start b ≡ false
  pub comma : eqb b 44 ≡ false
  pub colon : eqb b 58 ≡ false
  pub bracket : eqb b 93 ≡ false
  pub brace : eqb b 125 ≡ false

pub other : (b : ℕ) → is_break b ≡ false → IsOther b
other b e =
    let p = or_parts (is_whitespace_start b || eqb b 44 || eqb b 58 || eqb b 93) (eqb b 125) e in
    let q = or_parts (is_whitespace_start b || eqb b 44 || eqb b 58) (eqb b 93) p.0 in
    let r = or_parts (is_whitespace_start b || eqb b 44) (eqb b 58) q.0 in
    let s = or_parts (is_whitespace_start b) (eqb b 44) r.0 in
    record { piece = s.0; comma = s.1; colon = r.1; bracket = q.1; brace = p.1 }

-- what holds of each byte that may follow a value
pub break_is : (b : ℕ) → is_break b ≡ true → (P : ℕ → Type 0) → P 32 → P 9 → P 10 → P 12 → P 13 → P 92 → P 47 → P 44 → P 58 → P 93 → P 125 → P b
break_is b e P p32 p9 p10 p12 p13 p92 p47 p44 p58 p93 p125 =
    or (is_whitespace_start b || eqb b 44 || eqb b 58 || eqb b 93) 125 e p125 (λ f.
    or (is_whitespace_start b || eqb b 44 || eqb b 58) 93 f p93 (λ g.
    or (is_whitespace_start b || eqb b 44) 58 g p58 (λ h.
    or (is_whitespace_start b) 44 h p44 (λ i.
    or (eqb b 32 || eqb b 9 || eqb b 10 || eqb b 12 || eqb b 13 || eqb b 92) 47 i p47 (λ j.
    or (eqb b 32 || eqb b 9 || eqb b 10 || eqb b 12 || eqb b 13) 92 j p92 (λ k.
    or (eqb b 32 || eqb b 9 || eqb b 10 || eqb b 12) 13 k p13 (λ l.
    or (eqb b 32 || eqb b 9 || eqb b 10) 12 l p12 (λ m.
    or (eqb b 32 || eqb b 9) 10 m p10 (λ n.
    or (eqb b 32) 9 n p9 (λ o. subst P (sym (eqb-true b 32 o)) p32))))))))))
  where
    or : (a : Bool) (c : ℕ) → (a || eqb b c) ≡ true → P c → (a ≡ true → P b) → P b
    or a c h here other = ⊎_elim other (λ same. subst P (sym (eqb-true b c same)) here) (or_cases a (eqb b c) h)

pub ends_at : (b : ℕ) (bytes : List ℕ) → is_break b ≡ true → Ends (b ∷ bytes)
ends_at b bytes e = record { first = b; others = bytes; whole = refl; is_end = e }

pub ends-piece : {mode : Mode} {piece : List ℕ} (b : IsWhitespacePiece mode piece) (rest : List ℕ) → Ends (piece ++ rest)
ends-piece space rest = ends_at 32 rest refl
ends-piece tab rest = ends_at 9 rest refl
ends-piece line_feed rest = ends_at 10 rest refl
ends-piece (form_feed beyond) rest = ends_at 12 rest refl
ends-piece carriage_return rest = ends_at 13 rest refl
ends-piece (written_line_feed beyond) rest = ends_at 92 (110 ∷ rest) refl
ends-piece (written_carriage_return beyond) rest = ends_at 92 (114 ∷ rest) refl
ends-piece (written_tab beyond) rest = ends_at 92 (116 ∷ rest) refl
ends-piece (written_form_feed beyond) rest = ends_at 92 (120 ∷ 48 ∷ 67 ∷ rest) refl
ends-piece (block_comment inside is lacks) rest = ends_at 47 (42 ∷ ((inside ++ 42 ∷ 47 ∷ []) ++ rest)) refl
ends-piece (line_comment inside last is one ends) rest = ends_at 47 (47 ∷ ((inside ++ last ∷ []) ++ rest)) refl

pub ends-whitespace : {mode : Mode} {before : List ℕ} (b : IsWhitespace mode before) (rest : List ℕ) → Ends rest → Ends (before ++ rest)
ends-whitespace no_whitespace rest h = h
ends-whitespace (more_whitespace {piece = piece} {rest = others} b bs) rest h = subst Ends (sym (append_assoc piece others rest)) (ends-piece b (others ++ rest))

-- ---- parsers

-- What is parsed from the front of the bytes is an encoding of a.
pub record Encoded {A : Type 0} (Encodes : List ℕ → A → Type 0) (bytes : List ℕ) (a : A) (rest : List ℕ) : Type 0 where
  pub core : List ℕ
  pub encodes : Encodes core a
  pub whole : bytes ≡ core ++ rest

abbrev pub IsSound : {A : Type 0} → (List ℕ → A → Type 0) → (List ℕ → Parse A) → Type 0
IsSound {A} Encodes read = (bytes : List ℕ) (a : A) (rest : List ℕ) → read bytes ≡ Ok (a, rest) → Encoded Encodes bytes a rest

-- What is parsed, where bytes are left behind it, is an encoding: at the end of the bytes what is passed may be no
-- whitespace.
abbrev pub IsSoundBefore : {A : Type 0} → (List ℕ → A → Type 0) → (List ℕ → Parse A) → Type 0
IsSoundBefore {A} Encodes read = (bytes : List ℕ) (a : A) (rest : List ℕ) → read bytes ≡ Ok (a, rest) → 0 < length rest → Encoded Encodes bytes a rest

-- Each encoding is parsed, where a byte follows that may follow.
pub record IsComplete {A : Type 0} (Encodes : List ℕ → A → Type 0) (read : List ℕ → Parse A) : Type 0 where
  pub starts : (core : List ℕ) (a : A) → Encodes core a → Starts core
  pub parses : (core : List ℕ) (a : A) (rest : List ℕ) → Encodes core a → Ends rest → read (core ++ rest) ≡ Ok (a, rest)

-- Each encoding is parsed, and what is parsed shows the encoding's meaning by view.
pub record IsShown {A F : Type 0} (view : F → A) (Encodes : List ℕ → A → Type 0) (read : List ℕ → Parse F) : Type 0 where
  pub starts : (core : List ℕ) (a : A) → Encodes core a → Starts core
  pub parses : (core : List ℕ) (a : A) (rest : List ℕ) → Encodes core a → Ends rest → (f : F) × (view f ≡ a) × (read (core ++ rest) ≡ Ok (f, rest))

-- ---- what is seen by view

module _ {A F : Type 0} (view : F → A) (Encodes : List ℕ → A → Type 0) where
  abbrev pub SeenBy : List ℕ → F → Type 0
  SeenBy bytes f = Encodes bytes (view f)

  pub padded_seen : {mode : Mode} {bytes : List ℕ} {f : F} (p : IsPadded mode SeenBy bytes f) → IsPadded mode Encodes bytes (view f)
  padded_seen (padded b s c) = padded b s c

  pub joined_seen : {bytes : List ℕ} {fs : List F} (j : IsJoined SeenBy bytes fs) → IsJoined Encodes bytes (map view fs)
  joined_seen (one_part s) = one_part s
  joined_seen (more_parts s j) = more_parts s (joined_seen j)

-- ---- whitespace round what is parsed

pub starts-append : (core rest : List ℕ) → Starts core → Starts (core ++ rest)
starts-append core rest s = record { first = s.first; others = s.others ++ rest; whole = ap (λ (t : List ℕ). t ++ rest) s.whole; is_start = s.is_start }

pub skip-starts : (mode : Mode) (bytes : List ℕ) → Starts bytes → skip_whitespace mode bytes ≡ bytes
skip-starts mode bytes s = ap (λ (t : List ℕ). skip_whitespace mode t) s.whole ∙ skip-stop mode s.first s.others (other s.first s.is_start).piece ∙ sym s.whole

module _ {A : Type 0} (mode : Mode) (Encodes : List ℕ → A → Type 0) (read : List ℕ → Parse A) where
  pub padded_sound : IsSound Encodes read → IsSoundBefore (IsPadded mode Encodes) (padded_at mode read)
  padded_sound sound bytes a rest e left =
      let b = bind_ok (read (skip_whitespace mode bytes)) (λ (x : A × List ℕ). Ok (x.0, skip_whitespace mode x.1)) (a, rest) e in
      let same = same_read b.0.0 a (skip_whitespace mode b.0.1) rest b.2 in
      let back = skips mode b.0.1 (omega (arith, left, ap length same.rest)) in
      let s = sound (skip_whitespace mode bytes) b.0.0 b.0.1 b.1 in
      let front = skips mode bytes (omega (arith, left, ap length same.rest, ap length back.whole, ap length s.whole, length-append s.core b.0.1, length-append back.whitespace (skip_whitespace mode b.0.1))) in
      let regrouped : bytes ≡ (front.whitespace ++ (s.core ++ back.whitespace)) ++ skip_whitespace mode b.0.1 =
      front.whole ∙ ap (λ (t : List ℕ). front.whitespace ++ t) (s.whole ∙ ap (λ (t : List ℕ). s.core ++ t) back.whole ∙ sym (append_assoc s.core back.whitespace (skip_whitespace mode b.0.1)))
      ∙ sym (append_assoc front.whitespace (s.core ++ back.whitespace) (skip_whitespace mode b.0.1)) in
      record {
        core = front.whitespace ++ (s.core ++ back.whitespace);
        encodes = subst (λ (v : A). IsPadded mode Encodes (front.whitespace ++ (s.core ++ back.whitespace)) v) same.value (padded front.is_whitespace s.encodes back.is_whitespace);
        whole = subst (λ (t : List ℕ). bytes ≡ (front.whitespace ++ (s.core ++ back.whitespace)) ++ t) same.rest regrouped;
      }

module _ {A : Type 0} (mode : Mode) (Encodes : List ℕ → A → Type 0) where
  -- the bytes of a padded value after the whitespace before it
  pub record Padded (bytes : List ℕ) (a : A) (rest : List ℕ) : Type 0 where
    pub core : List ℕ
    pub after : List ℕ
    pub encodes : Encodes core a
    pub is_whitespace : IsWhitespace mode after
    pub skipped : skip_whitespace mode (bytes ++ rest) ≡ core ++ (after ++ rest)

  pub skip-padded : ((core : List ℕ) (a : A) → Encodes core a → Starts core) → (bytes : List ℕ) (a : A) (rest : List ℕ) → IsPadded mode Encodes bytes a → Padded bytes a rest
  skip-padded starts bytes a rest (padded {before = before} {core = core} {after = after} b s c) =
      record {
        core = core;
        after = after;
        encodes = s;
        is_whitespace = c;
        skipped =
            ap (λ (t : List ℕ). skip_whitespace mode t) (append_assoc before (core ++ after) rest) ∙ skip-whitespace b ((core ++ after) ++ rest)
            ∙ ap (λ (t : List ℕ). skip_whitespace mode t) (append_assoc core after rest) ∙ skip-starts mode (core ++ (after ++ rest)) (starts-append core (after ++ rest) (starts core a s));
      }

module _ {A F : Type 0} (view : F → A) (mode : Mode) (Encodes : List ℕ → A → Type 0) (read : List ℕ → Parse F) where
  pub padded_complete : IsShown view Encodes read → (bytes : List ℕ) (a : A) (c : ℕ) (rest : List ℕ) → IsPadded mode Encodes bytes a → is_break c ≡ true → is_whitespace_start c ≡ false
      → (f : F) × (view f ≡ a) × (padded_at mode read (bytes ++ c ∷ rest) ≡ Ok (f, c ∷ rest))
  padded_complete complete bytes a c rest p is_end is_none =
      let s = skip-padded mode Encodes complete.starts bytes a (c ∷ rest) p in
      let r = complete.parses s.core a (s.after ++ c ∷ rest) s.encodes (ends-whitespace s.is_whitespace (c ∷ rest) (ends_at c rest is_end)) in
      let k : skip_whitespace mode (s.after ++ c ∷ rest) ≡ c ∷ rest = skip-whitespace s.is_whitespace (c ∷ rest) ∙ skip-stop mode c rest is_none in (
        r.0,
        r.1,
        ap (λ (t : List ℕ). read t >>= λ (x : F × List ℕ). Ok (x.0, skip_whitespace mode x.1)) s.skipped
            ∙ ap (λ (q : Parse F). q >>= λ (x : F × List ℕ). Ok (x.0, skip_whitespace mode x.1)) r.2
            ∙ ap (λ (t : List ℕ). Ok (r.0, t)) k,
      )

-- ---- a byte at the front

pub on_byte-found : {X : Type 0} (c : ℕ) (rest : List ℕ) (found : List ℕ → X) (other : X) → on_byte c (c ∷ rest) found other ≡ found rest
on_byte-found c rest found other = cond-true (eqb c c) (found rest) other (eqb_self c)

pub on_byte-other : {X : Type 0} (c b : ℕ) (rest : List ℕ) (found : List ℕ → X) (other : X) → eqb b c ≡ false → on_byte c (b ∷ rest) found other ≡ other
on_byte-other c b rest found other e = cond-false (eqb b c) (found rest) other e

pub on_byte-none : {X : Type 0} (c : ℕ) (bytes : List ℕ) (found : List ℕ → X) (other : X) → begins c bytes ≡ false → on_byte c bytes found other ≡ other
on_byte-none c [] found other e = refl
on_byte-none c (b ∷ rest) found other e = cond-false (eqb b c) (found rest) other (not_found (eqb b c) e)
  where
    not_found : (t : Bool) → cond t true false ≡ false → t ≡ false
    not_found true h = h
    not_found false h = refl

pub on_byte_cases : {X : Type 0} (c : ℕ) (bytes : List ℕ) (found : List ℕ → X) (other z : X) → on_byte c bytes found other ≡ z
    → ((rest : List ℕ) × (bytes ≡ c ∷ rest) × (found rest ≡ z)) ⊎ ((begins c bytes ≡ false) × (other ≡ z))
on_byte_cases c [] found other z e = inr (refl, e)
on_byte_cases c (b ∷ rest) found other z e =
    elim (chosen (eqb b c) (found rest) other z e) [
      | inl t ↦ let same : b ≡ c = eqb-true b c t.0 in inl (rest, ap (λ (k : ℕ). k ∷ rest) same, t.1)
      | inr f ↦ inr (cond-false (eqb b c) true false f.0, f.1)
    ]

-- ---- parts joined by commas

pub length-joined : {A : Type 0} {Encodes : List ℕ → A → Type 0} {bytes : List ℕ} {parts : List A} → IsJoined Encodes bytes parts → length parts ≤ suc (length bytes)
length-joined (one_part {bytes = bytes} s) = omega arith
length-joined (more_parts {first = first} {rest = rest} s j) = let h = length-joined j in omega (arith, h, length-append first (44 ∷ rest))

-- What is parsed of a part shows the part by view. Each encoding of a part is parsed up to the comma or the closing
-- byte after it.
pub record IsPartComplete {A F : Type 0} (view : F → A) (close : ℕ) (Encodes : List ℕ → A → Type 0) (part : List ℕ → Parse F) : Type 0 where
  pub comma : (bytes : List ℕ) (a : A) (rest : List ℕ) → Encodes bytes a → (f : F) × (view f ≡ a) × (part (bytes ++ 44 ∷ rest) ≡ Ok (f, 44 ∷ rest))
  pub last : (bytes : List ℕ) (a : A) (rest : List ℕ) → Encodes bytes a → (f : F) × (view f ≡ a) × (part (bytes ++ close ∷ rest) ≡ Ok (f, close ∷ rest))
  pub apart : eqb close 44 ≡ false

module _ {A F : Type 0} (view : F → A) (size : ℕ) (code : Code) (close : ℕ) (Encodes : List ℕ → A → Type 0) (part : List ℕ → Parse F) (p : IsPartComplete view close Encodes part) where
  pub joined_complete : {bytes : List ℕ} {parts : List A} → IsJoined Encodes bytes parts → (n : ℕ) (rest : List ℕ) → length parts ≤ n
      → (fs : List F) × (map view fs ≡ parts) × (joined_at size code close part n (bytes ++ close ∷ rest) ≡ Ok (fs, rest))
  unfolding joined_at
  joined_complete (one_part s) zero rest h = absurd (omega arith)
  joined_complete (one_part {bytes = bytes} {a = a} s) (suc n) rest h =
      let f = p.last bytes a rest s in (
        f.0 ∷ [],
        ap (λ (b : A). b ∷ []) f.1,
        ap (λ (r : Parse F). r >>= λ (x : F × List ℕ). after_part size code close part (joined_at size code close part n) x.0 x.1) f.2
            ∙ on_byte-other 44 close rest (λ (t : List ℕ). joined_at size code close part n t >>= λ (x : List F × List ℕ). Ok (f.0 ∷ x.0, x.1)) (on_byte close (close ∷ rest) (λ (t : List ℕ). Ok (f.0 ∷ [], t)) (reject size code 0 (close ∷ rest))) p.apart
            ∙ on_byte-found close rest (λ (t : List ℕ). Ok (f.0 ∷ [], t)) (reject size code 0 (close ∷ rest)),
      )
  joined_complete (more_parts s j) zero rest h = absurd (omega arith)
  joined_complete (more_parts {first = first} {rest = others} {a = a} {others = as_parts} s j) (suc n) rest h =
      let f = p.comma first a (others ++ close ∷ rest) s in
      let g = joined_complete j n rest (omega arith) in (
        f.0 ∷ g.0,
        ap₂ (λ (b : A) (bs : List A). b ∷ bs) f.1 g.1,
        ap (λ (t : List ℕ). joined_at size code close part (suc n) t) (append_assoc first (44 ∷ others) (close ∷ rest))
            ∙ ap (λ (r : Parse F). r >>= λ (x : F × List ℕ). after_part size code close part (joined_at size code close part n) x.0 x.1) f.2
            ∙ ap (λ (r : Parse (List F)). r >>= λ (x : List F × List ℕ). Ok (f.0 ∷ x.0, x.1)) g.2,
      )

module _ {A : Type 0} (size : ℕ) (code : Code) (close : ℕ) (Encodes : List ℕ → A → Type 0) (part : List ℕ → Parse A) where
  pub joined_sound : IsSoundBefore Encodes part → (n : ℕ) (bytes : List ℕ) (parts : List A) (rest : List ℕ) → joined_at size code close part n bytes ≡ Ok (parts, rest)
      → (body : List ℕ) × IsJoined Encodes body parts × (bytes ≡ body ++ close ∷ rest)
  unfolding joined_at
  joined_sound sound zero bytes parts rest e = absurd cc
  joined_sound sound (suc n) bytes parts rest e =
      let b = bind_ok (part bytes) (λ (x : A × List ℕ). after_part size code close part (joined_at size code close part n) x.0 x.1) (parts, rest) e in
      let a : A = b.0.0 in
      let middle : List ℕ = b.0.1 in
      elim (on_byte_cases 44 middle (λ (t : List ℕ). joined_at size code close part n t >>= λ (x : List A × List ℕ). Ok (a ∷ x.0, x.1)) (on_byte close middle (λ (t : List ℕ). Ok (a ∷ [], t)) (reject size code 0 middle)) (Ok (parts, rest)) b.2) [
        | inl t ↦
            let s = sound bytes a middle b.1 (omega (arith, ap length t.1)) in
            let c = bind_ok (joined_at size code close part n t.0) (λ (x : List A × List ℕ). Ok (a ∷ x.0, x.1)) (parts, rest) t.2 in
            let h = joined_sound sound n t.0 c.0.0 c.0.1 c.1 in
            let same = same_read (a ∷ c.0.0) parts c.0.1 rest c.2 in (
              s.core ++ 44 ∷ h.0,
              subst (λ (ps : List A). IsJoined Encodes (s.core ++ 44 ∷ h.0) ps) same.value (more_parts s.encodes h.1),
              s.whole ∙ ap (λ (u : List ℕ). s.core ++ u) (t.1 ∙ ap (λ (u : List ℕ). 44 ∷ u) h.2) ∙ sym (append_assoc s.core (44 ∷ h.0) (close ∷ c.0.1)) ∙ ap (λ (u : List ℕ). (s.core ++ 44 ∷ h.0) ++ close ∷ u) same.rest,
            )
        | inr f ↦
            elim (on_byte_cases close middle (λ (t : List ℕ). Ok (a ∷ [], t)) (reject size code 0 middle) (Ok (parts, rest)) f.1) [
              | inl t ↦
                  let s = sound bytes a middle b.1 (omega (arith, ap length t.1)) in
                  let same = same_read (a ∷ []) parts t.0 rest t.2 in
                  (s.core, subst (λ (ps : List A). IsJoined Encodes s.core ps) same.value (one_part s.encodes), s.whole ∙ ap (λ (u : List ℕ). s.core ++ u) (t.1 ∙ ap (λ (u : List ℕ). close ∷ u) same.rest))
              | inr g ↦ absurd (rejected_fails size code 0 middle (parts, rest) g.1)
            ]
      ]

  -- whitespace before the first part are passed by its parser
  pub joined-skip : (mode : Mode) → ((bytes : List ℕ) → part (skip_whitespace mode bytes) ≡ part bytes) → (n : ℕ) (bytes : List ℕ) → joined_at size code close part n (skip_whitespace mode bytes) ≡ joined_at size code close part n bytes
  unfolding joined_at
  joined-skip mode same zero bytes = refl
  joined-skip mode same (suc n) bytes = ap (λ (r : Parse A). r >>= λ (x : A × List ℕ). after_part size code close part (joined_at size code close part n) x.0 x.1) (same bytes)
