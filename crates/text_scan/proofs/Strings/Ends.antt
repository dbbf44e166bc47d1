-- The search ends where the string ends.
use Rattle.std.proofs.Common.{List, [], ◌∷◌, ◌≡◌, ◌≢◌, ℕ, zero, suc, ◌+◌, ◌-◌, ◌<◌, ◌++◌, length, take, drop, get_or, eqb, Result, Ok, Err, inl, inr, sym, ap, ◌∙◌, subst, arith, refl, length-append, eqb-true, ne_eqb}
use Rattle.std.proofs.lemmas.List.{append_assoc, take_at, drop_at, drop_more, take-append-drop, length-take-le}
use Rattle.std.specs.List.{flat_map, AllByRecursion}
use Rattle.std.specs.Str.{IsUtf8}
use Rattle.std.proofs.lemmas.Bool.{cond-false, cond-true}
use Rattle.jsonb_spec.specs.Mode.{Mode}
use Rattle.jsonb_spec.specs.Tree.{Mark}
use Rattle.jsonb_spec.specs.Code.{invalid_eof}
use Rattle.jsonb_spec.specs.Grammar.StringBody.{Item, raw, escape, unit, after_u, encoding, IsItem, meaning}
use Rattle.jsonb_spec.specs.Grammar.StringStep.{item_step}
use Rattle.jsonb_spec.specs.Grammar.Quoted.{Quoted}
use Rattle.jsonb_core.proofs.Strings.Encoding.{item_step-encoding}
use Rattle.jsonb_spec.specs.Parsing.{Parse, fault}
use Rattle.jsonb_spec.specs.Parsing.String.{Body, body_of, further, quote_from, quote_end, string_of_body, string_up_to, string_at}
use Rattle.text_scan.proofs.Steps.Tests.{chosen, eqb_self, same_read}
use Rattle.text_scan.proofs.Strings.Items.{Means, length-encoding, body_complete, body_sound}

-- ---- steps of the search

pub further-further : (m n : ℕ) (r : Result ℕ ℕ) → further m (further n r) ≡ further (m + n) r
further-further m n (Ok k) = let same : m + (n + k) ≡ m + n + k = omega arith in ap (λ (i : ℕ). Ok i) same
further-further m n (Err k) = let same : m + (n + k) ≡ m + n + k = omega arith in ap (λ (i : ℕ). Err i) same

pub further-zero : (r : Result ℕ ℕ) → further 0 r ≡ r
further-zero (Ok k) = let same : 0 + k ≡ k = omega arith in ap (λ (i : ℕ). Ok i) same
further-zero (Err k) = let same : 0 + k ≡ k = omega arith in ap (λ (i : ℕ). Err i) same

-- what is still to be passed of an item is passed first
pub quote_from-drop : (quote passed : ℕ) (bytes : List ℕ) → quote_from quote passed bytes ≡ further passed (quote_end quote (drop passed bytes))
unfolding quote_from
quote_from-drop quote zero bytes = sym (further-zero (quote_end quote bytes))
quote_from-drop quote (suc passed) [] = let same : suc passed ≡ suc passed + 0 = omega arith in ap (λ (i : ℕ). Err i) same
quote_from-drop quote (suc passed) (b ∷ bytes) =
    let same : 1 + passed ≡ suc passed = omega arith in
    ap (further 1) (quote_from-drop quote passed bytes) ∙ further-further 1 passed (quote_end quote (drop passed bytes)) ∙ ap (λ (n : ℕ). further n (quote_end quote (drop passed bytes))) same

pub quote_end-here : (quote : ℕ) (bytes : List ℕ) → quote_end quote (quote ∷ bytes) ≡ Ok 0
unfolding quote_from
quote_end-here quote bytes = cond-true (eqb quote quote) (Ok 0) (further 1 (quote_from quote (item_step (quote ∷ bytes) - 1) bytes)) (eqb_self quote)

-- a step over the first item
pub quote_end-step : (quote b n : ℕ) (bytes : List ℕ) → b ≢ quote → item_step (b ∷ bytes) ≡ suc n → quote_end quote (b ∷ bytes) ≡ further (suc n) (quote_end quote (drop n bytes))
unfolding quote_from
quote_end-step quote b n bytes other step =
    let count : item_step (b ∷ bytes) - 1 ≡ n = omega (arith, step) in
    let same : 1 + n ≡ suc n = omega arith in
    cond-false (eqb b quote) (Ok 0) (further 1 (quote_from quote (item_step (b ∷ bytes) - 1) bytes)) (ne_eqb b quote other)
    ∙ ap (λ (k : ℕ). further 1 (quote_from quote k bytes)) count ∙ ap (further 1) (quote_from-drop quote n bytes) ∙ further-further 1 n (quote_end quote (drop n bytes))
    ∙ ap (λ (k : ℕ). further k (quote_end quote (drop n bytes))) same

quote_end-item : (quote : ℕ) (mode : Mode) (x : Item) (more : List ℕ) → quote ≢ 92 → IsItem mode x → x ≢ raw quote → quote_end quote (encoding x ++ more) ≡ further (length (encoding x)) (quote_end quote more)
quote_end-item quote mode (raw byte) more no_backslash is inside = quote_end-step quote byte 0 more (λ e. inside (ap raw e)) (item_step-encoding mode (raw byte) more is)
quote_end-item quote mode (escape letter byte) more no_backslash is inside =
    quote_end-step quote 92 1 (letter ∷ more) (λ e. no_backslash (sym e)) (item_step-encoding mode (escape letter byte) more is)
quote_end-item quote mode (unit braces digits) more no_backslash is inside =
    let n = length (117 ∷ after_u braces digits) in
    quote_end-step quote 92 n (117 ∷ after_u braces digits ++ more) (λ e. no_backslash (sym e)) (item_step-encoding mode (unit braces digits) more is)
    ∙ ap (λ (rest : List ℕ). further (suc n) (quote_end quote rest)) (drop_at (117 ∷ after_u braces digits) more n refl)

-- ---- where a string ends the search ends

quote_complete : (quote : ℕ) (mode : Mode) (items : List Item) (more : List ℕ) → quote ≢ 92 → AllByRecursion (IsItem mode) items → AllByRecursion (λ item. item ≢ raw quote) items → quote_end quote (flat_map encoding items ++ quote ∷ more) ≡ Ok (length (flat_map encoding items))
quote_complete quote mode [] more no_backslash each inside = quote_end-here quote more
quote_complete quote mode (x ∷ items) more no_backslash each inside =
    let count : length (encoding x) + length (flat_map encoding items) ≡ length (flat_map encoding (x ∷ items)) = omega (arith, length-append (encoding x) (flat_map encoding items)) in
    ap (quote_end quote) (append_assoc (encoding x) (flat_map encoding items) (quote ∷ more)) ∙ quote_end-item quote mode x (flat_map encoding items ++ quote ∷ more) no_backslash each.0 inside.0
    ∙ ap (further (length (encoding x))) (quote_complete quote mode items more no_backslash each.1 inside.1) ∙ ap (λ (i : ℕ). Ok i) count

-- ---- where the search ends a quote is

-- an answer after one step more
pub ok_further : (n end : ℕ) (r : Result ℕ ℕ) → further n r ≡ Ok end → (k : ℕ) × (r ≡ Ok k) × (end ≡ n + k)
ok_further n end (Ok k) e = (k, refl, let both : ◌≡◌ {A = Result ℕ ℕ} (Ok (n + k)) (Ok end) = e in let same : n + k ≡ end = cc in sym same)
ok_further n end (Err k) e = absurd (let never : ◌≡◌ {A = Result ℕ ℕ} (Err (n + k)) (Ok end) = e in cc)

pub record HoldsAt (quote : ℕ) (bytes : List ℕ) (end : ℕ) : Type 0 where
  pub within : end < length bytes
  pub here : get_or bytes end 0 ≡ quote

quote_sound : (quote passed : ℕ) (bytes : List ℕ) (end : ℕ) → quote_from quote passed bytes ≡ Ok end → HoldsAt quote bytes end
unfolding quote_from
quote_sound quote passed [] end e = absurd (let never : ◌≡◌ {A = Result ℕ ℕ} (Err passed) (Ok end) = e in cc)
quote_sound quote (suc passed) (b ∷ bytes) end e =
    let f = ok_further 1 end (quote_from quote passed bytes) e in
    let s = quote_sound quote passed bytes f.0 f.1 in
    let same : end ≡ suc f.0 = omega (arith, f.2) in
    record { within = omega (arith, s.within, f.2); here = ap (λ (i : ℕ). get_or (b ∷ bytes) i 0) same ∙ s.here }
quote_sound quote zero (b ∷ bytes) end e =
    elim (chosen (eqb b quote) (Ok 0) (further 1 (quote_from quote (item_step (b ∷ bytes) - 1) bytes)) (Ok end) e) [
      | inl t ↦
          let same : 0 ≡ end = let both : ◌≡◌ {A = Result ℕ ℕ} (Ok 0) (Ok end) = t.1 in cc in
          record { within = omega (arith, same); here = ap (λ (i : ℕ). get_or (b ∷ bytes) i 0) (sym same) ∙ eqb-true b quote t.0 }
      | inr g ↦
          let f = ok_further 1 end (quote_from quote (item_step (b ∷ bytes) - 1) bytes) g.1 in
          let s = quote_sound quote (item_step (b ∷ bytes) - 1) bytes f.0 f.1 in
          let same : end ≡ suc f.0 = omega (arith, f.2) in
          record { within = omega (arith, s.within, f.2); here = ap (λ (i : ℕ). get_or (b ∷ bytes) i 0) same ∙ s.here }
    ]

-- the bytes up to the quote, and those after it
pub quote_split : (quote : ℕ) (bytes : List ℕ) (end : ℕ) → quote_end quote bytes ≡ Ok end → bytes ≡ take end bytes ++ quote ∷ drop (end + 1) bytes
quote_split quote bytes end e =
    let s = quote_sound quote 0 bytes end e in
    sym (take-append-drop end bytes) ∙ ap (λ (rest : List ℕ). take end bytes ++ rest) (drop_more bytes end 0 s.within ∙ ap (λ (b : ℕ). b ∷ drop (end + 1) bytes) s.here)

pub quote_within : (quote : ℕ) (bytes : List ℕ) (end : ℕ) → quote_end quote bytes ≡ Ok end → end < length bytes
quote_within quote bytes end e = (quote_sound quote 0 bytes end e).within

-- the items before the quote that the search found hold no such quote
found_inside : (quote : ℕ) (mode : Mode) (items : List Item) (more : List ℕ) → quote ≢ 92 → AllByRecursion (IsItem mode) items → quote_end quote (flat_map encoding items ++ quote ∷ more) ≡ Ok (length (flat_map encoding items)) → AllByRecursion (λ item. item ≢ raw quote) items
found_inside quote mode [] more no_backslash each e = tt
found_inside quote mode (x ∷ items) more no_backslash each e =
    let regrouped : quote_end quote (encoding x ++ (flat_map encoding items ++ quote ∷ more)) ≡ Ok (length (flat_map encoding (x ∷ items))) = ap (quote_end quote) (sym (append_assoc (encoding x) (flat_map encoding items) (quote ∷ more))) ∙ e in
    let first = inside_first quote x (flat_map encoding items ++ quote ∷ more) (length (flat_map encoding items)) regrouped (omega (arith, length-append (encoding x) (flat_map encoding items))) in
    let stepped = sym (quote_end-item quote mode x (flat_map encoding items ++ quote ∷ more) no_backslash each.0 first) ∙ regrouped in
    let f = ok_further (length (encoding x)) (length (flat_map encoding (x ∷ items))) (quote_end quote (flat_map encoding items ++ quote ∷ more)) stepped in
    let count : f.0 ≡ length (flat_map encoding items) = omega (arith, f.2, length-append (encoding x) (flat_map encoding items)) in
    (first, found_inside quote mode items more no_backslash each.1 (f.1 ∙ ap (λ (i : ℕ). Ok i) count))
  where
    inside_first : (q : ℕ) (y : Item) (rest : List ℕ) (k : ℕ) → quote_end q (encoding y ++ rest) ≡ Ok (length (flat_map encoding (x ∷ items))) → length (flat_map encoding (x ∷ items)) ≡ length (encoding x) + k → y ≢ raw q
    inside_first q (raw byte) rest k h count = λ alike.
        let same : byte ≡ q = cc in
        let zero_end : ◌≡◌ {A = Result ℕ ℕ} (Ok 0) (Ok (length (flat_map encoding (x ∷ items)))) = sym (quote_end-here q rest) ∙ ap (λ (b : ℕ). quote_end q (b ∷ rest)) (sym same) ∙ h in
        let none : 0 ≡ length (flat_map encoding (x ∷ items)) = cc in
        absurd (omega (arith, none, count, length-encoding x))
    inside_first q (escape letter byte) rest k h count = λ alike. cc
    inside_first q (unit braces digits) rest k h count = λ alike. cc

-- ---- whole strings

-- a string in these quotes, from the byte after the opening one on, and what follows
pub record EncodesString (mode : Mode) (quote : ℕ) (bytes : List ℕ) (mark : Mark) (text rest : List ℕ) : Type 0 where
  pub inner : List ℕ
  pub quoted : Quoted mode quote (quote ∷ inner) text mark
  pub whole : bytes ≡ inner ++ rest

pub string_sound : (size : ℕ) (mode : Mode) (quote : ℕ) (bytes : List ℕ) (mark : Mark) (text rest : List ℕ) → quote ≢ 92 → string_at size mode quote bytes ≡ Ok ((mark, text), rest) → EncodesString mode quote bytes mark text rest
unfolding string_at
string_sound size mode quote bytes mark text rest no_backslash e = by_end (quote_end quote bytes) refl e
  where
    at_end : (end : ℕ) → quote_end quote bytes ≡ Ok end → Means mode (take end bytes) mark text → drop (end + 1) bytes ≡ rest → EncodesString mode quote bytes mark text rest
    at_end end found means after =
        let split = quote_split quote bytes end found in
        let body : take end bytes ≡ flat_map encoding means.items = means.body.encoded in
        let whole : bytes ≡ flat_map encoding means.items ++ quote ∷ drop (end + 1) bytes = split ∙ ap (λ (u : List ℕ). u ++ quote ∷ drop (end + 1) bytes) body in
        let long : end ≡ length (flat_map encoding means.items) = sym (length-take-le end bytes (omega (arith, quote_within quote bytes end found))) ∙ ap length body in
        let again : quote_end quote (flat_map encoding means.items ++ quote ∷ drop (end + 1) bytes) ≡ Ok (length (flat_map encoding means.items)) = ap (quote_end quote) (sym whole) ∙ found ∙ ap (λ (i : ℕ). Ok i) long in
        record {
          inner = flat_map encoding means.items ++ quote ∷ [];
          quoted = record {
            body = flat_map encoding means.items;
            encoded = refl;
            decodes = record { items = means.items; body = record { encoded = refl; each = means.body.each }; meant = means.meant; utf8 = means.utf8 };
            inside = found_inside quote mode means.items (drop (end + 1) bytes) no_backslash means.body.each again;
            marked = means.marked;
          };
          whole = whole ∙ ap (λ (r : List ℕ). flat_map encoding means.items ++ quote ∷ r) after ∙ sym (append_assoc (flat_map encoding means.items) (quote ∷ []) rest);
        }

    by_body : (end : ℕ) → quote_end quote bytes ≡ Ok end → (r : Body (Mark × List ℕ)) → body_of mode (take end bytes) ≡ r → string_of_body size bytes end r ≡ Ok ((mark, text), rest) → EncodesString mode quote bytes mark text rest
    by_body end found (Err f) is h = absurd (let never : ◌≡◌ {A = Parse (Mark × List ℕ)} (fault f.0 (size - length bytes + 1 + f.1)) (Ok ((mark, text), rest)) = h in cc)
    by_body end found (Ok x) is h =
        let same = same_read x (mark, text) (drop (end + 1) bytes) rest h in
        at_end end found (body_sound mode (take end bytes) mark text (is ∙ ap (λ (y : Mark × List ℕ). Ok y) same.value)) same.rest

    by_end : (r : Result ℕ ℕ) → quote_end quote bytes ≡ r → string_up_to size mode bytes r ≡ Ok ((mark, text), rest) → EncodesString mode quote bytes mark text rest
    by_end (Err at) is h = absurd (let never : ◌≡◌ {A = Parse (Mark × List ℕ)} (fault invalid_eof (size - length bytes + at)) (Ok ((mark, text), rest)) = h in cc)
    by_end (Ok end) is h = by_body end is (body_of mode (take end bytes)) refl h

pub string_complete : (size : ℕ) (mode : Mode) (quote : ℕ) (core : List ℕ) (mark : Mark) (text inner rest : List ℕ) → quote ≢ 92 → Quoted mode quote core text mark → core ≡ quote ∷ inner → string_at size mode quote (inner ++ rest) ≡ Ok ((mark, text), rest)
unfolding string_at
string_complete size mode quote core mark text inner rest no_backslash q is =
    let items = q.decodes.items in
    let body = flat_map encoding items in
    let same : inner ≡ body ++ quote ∷ [] = ap (drop 1) (sym is ∙ q.encoded ∙ ap (λ (u : List ℕ). quote ∷ u ++ quote ∷ []) q.decodes.body.encoded) in
    let whole : inner ++ rest ≡ body ++ quote ∷ rest = ap (λ (u : List ℕ). u ++ rest) same ∙ append_assoc body (quote ∷ []) rest in
    let found : quote_end quote (inner ++ rest) ≡ Ok (length body) = ap (quote_end quote) whole ∙ quote_complete quote mode items rest no_backslash q.decodes.body.each q.inside in
    let front : take (length body) (inner ++ rest) ≡ body = ap (take (length body)) whole ∙ take_at body (quote ∷ rest) (length body) refl in
    let back : drop (length body + 1) (inner ++ rest) ≡ rest = ap (drop (length body + 1)) (whole ∙ sym (append_assoc body (quote ∷ []) rest)) ∙ drop_at (body ++ quote ∷ []) rest (length body + 1) (length-append body (quote ∷ [])) in
    let read : body_of mode (take (length body) (inner ++ rest)) ≡ Ok (mark, text) =
    ap (body_of mode) front ∙ body_complete mode body items (record { encoded = refl; each = q.decodes.body.each }) (subst IsUtf8 q.decodes.meant q.decodes.utf8) ∙ ap (λ (m : Mark). Ok (m, meaning items)) (sym q.marked) ∙ ap (λ (t : List ℕ). Ok (mark, t)) (sym q.decodes.meant) in
    ap (string_up_to size mode (inner ++ rest)) found ∙ ap (string_of_body size (inner ++ rest) (length body)) read ∙ ap (λ (r : List ℕ). Ok ((mark, text), r)) back
