-- A session that reads an input line by line.
use Rattle.std.proofs.Common.{◌≡◌, ◌≢◌, ℕ, ◌+◌, ◌<◌, Bool, true, false, not, List, [], ◌∷◌, ◌++◌, Option, None, Some, IfSome, cond, length, sym, ap, subst, ◌∙◌, arith, append-nil, append_assoc}
use Rattle.std.specs.Io.BufRead.{DropsThrough, take_through, drop_through}
use Rattle.std.specs.Io.KnownBytes.{IsAtEnd}
use Rattle.vjson_run.proofs.Reading.{first_step, texts_step}
use Rattle.vjson_run.proofs.Troubled.{advances_nowhere, advances_over, advances_then}
use Rattle.jsonb_spec.specs.Program.Input.{is_blank_line, text_lines, without_end, without_mark}
use Rattle.vjson_run.specs.Runs.{line_texts}
use Rattle.vjson_run.specs.Trouble.{Advances}
use Rattle.vjson_run.specs.declared.session.Session.{Session}

known_rest : (rest : List ℕ) (left next : Option (List ℕ)) → left ≡ Some rest → DropsThrough left next 10 → next ≡ Some (drop_through 10 rest)
known_rest rest left next is drops = subst (λ o. DropsThrough o next 10) is drops

some_read : (count : ℕ) (read : List ℕ) (rest : List ℕ) → count ≢ 0 → length read ≡ 0 + count → read ≡ [] ++ take_through 10 rest → 0 < length rest
some_read count read [] some size is = absurd (some (none_read count read size is))
  where
    none_read : (count : ℕ) (read : List ℕ) → length read ≡ 0 + count → read ≡ [] → count ≡ 0
    none_read count read size is = omega (arith, size, ap length is)
some_read count read (x ∷ rest) some size is = omega arith

module _ {W E : Type 0} (contents : W → Option (List ℕ)) where
  -- t has taken the texts of what was read of these bytes since s, and what is left has the others
  pub record Fed (bytes : List ℕ) (s : Session W E) (left : Option (List ℕ)) (t : Session W E) : Type 0 where
    pub done : List (List ℕ)
    pub rest : List ℕ
    pub is_left : left ≡ Some rest
    pub texts : text_lines (without_mark bytes) ≡ done ++ text_lines rest
    pub takes : Advances contents s done t

  -- the same of an input, where its bytes are known
  abbrev pub HasFed : Option (List ℕ) → Session W E → Option (List ℕ) → Session W E → Type 0
  HasFed known s left t = IfSome known (λ bytes. Fed bytes s left t)

  -- the first line is taken
  pub first_fed : (known next : Option (List ℕ)) (s t : Session W E) (count : ℕ) (read : List ℕ) → count ≢ 0 → length read ≡ 0 + count → IfSome known (λ xs. read ≡ [] ++ take_through 10 xs) → DropsThrough known next 10
      → Advances contents s (line_texts (without_mark read)) t → HasFed known s next t
  first_fed None next s t count read some size bytes drops takes = tt
  first_fed (Some xs) next s t count read some size bytes drops takes = record {
    done = line_texts (without_mark read);
    rest = drop_through 10 xs;
    is_left = drops;
    texts = first_step xs (some_read count read xs some size bytes) ∙ ap (λ l. line_texts (without_mark l) ++ text_lines (drop_through 10 xs)) (sym bytes);
    takes = takes;
  }

  -- another line is taken
  pub more_fed : (known left next : Option (List ℕ)) (s t u : Session W E) (count : ℕ) (read : List ℕ) → HasFed known s left t → count ≢ 0 → length read ≡ 0 + count → IfSome left (λ xs. read ≡ [] ++ take_through 10 xs)
      → DropsThrough left next 10 → Advances contents t (line_texts read) u → HasFed known s next u
  more_fed None left next s t u count read h some size bytes drops takes = tt
  more_fed (Some xs) left next s t u count read h some size bytes drops takes =
      let taken : read ≡ [] ++ take_through 10 h.rest = subst (λ o. IfSome o (λ xs. read ≡ [] ++ take_through 10 xs)) h.is_left bytes in
      record {
        done = h.done ++ line_texts read;
        rest = drop_through 10 h.rest;
        is_left = known_rest h.rest left next h.is_left drops;
        texts = h.texts ∙ ap (λ l. h.done ++ l) (texts_step h.rest (some_read count read h.rest some size taken) ∙ ap (λ l. line_texts l ++ text_lines (drop_through 10 h.rest)) (sym taken))
            ∙ sym (append_assoc h.done (line_texts read) (text_lines (drop_through 10 h.rest)));
        takes = advances_then contents s t u h.done (line_texts read) h.takes takes;
      }

  -- at the end all texts are taken
  pub all_fed : (known left : Option (List ℕ)) (s t : Session W E) → HasFed known s left t → IsAtEnd left → IfSome known (λ bytes. Advances contents s (text_lines (without_mark bytes)) t)
  all_fed None left s t h end = tt
  all_fed (Some xs) left s t h end =
      let nothing : h.rest ≡ [] = subst IsAtEnd h.is_left end in
      subst (λ texts. Advances contents s texts t) (sym (h.texts ∙ ap (λ l. h.done ++ text_lines l) nothing ∙ append-nil h.done)) h.takes

  -- and where no more counts
  pub over_fed : (known left : Option (List ℕ)) (s t : Session W E) → HasFed known s left t → t.over ≡ true → IfSome known (λ bytes. Advances contents s (text_lines (without_mark bytes)) t)
  over_fed None left s t h over = tt
  over_fed (Some xs) left s t h over = subst (λ texts. Advances contents s texts t) (sym h.texts) (advances_over contents s t h.done (text_lines h.rest) over h.takes)

  -- an input of no bytes has no texts
  pub none_fed : (known : Option (List ℕ)) (s : Session W E) → IsAtEnd known → IfSome known (λ bytes. Advances contents s (text_lines (without_mark bytes)) s)
  none_fed None s end = tt
  none_fed (Some xs) s end = subst (λ bytes. Advances contents s (text_lines (without_mark bytes)) s) (sym end) (advances_nowhere contents s)

  pub whole_fed : (known : Option (List ℕ)) (s t : Session W E) (old read text : List ℕ) → IfSome known (λ xs. read ≡ old ++ xs) → old ≡ [] → text ≡ without_mark read → Advances contents s (text ∷ []) t
      → IfSome known (λ bytes. Advances contents s (without_mark bytes ∷ []) t)
  whole_fed None s t old read text bytes nothing is takes = tt
  whole_fed (Some xs) s t old read text bytes nothing is takes =
      subst (λ l. Advances contents s (l ∷ []) t) (is ∙ ap without_mark (bytes ∙ ap (λ l. l ++ xs) nothing)) takes

  pub line_fed : (s t : Session W E) (line text : List ℕ) (blank : Bool) → text ≡ without_end line → blank ≡ is_blank_line text → blank ≡ false → Advances contents s (text ∷ []) t → Advances contents s (line_texts line) t
  line_fed s t line text blank is tests other takes =
      subst (λ texts. Advances contents s texts t)
      (ap (λ b. cond (not b) (text ∷ []) []) (sym (sym tests ∙ other)) ∙ ap (λ l. cond (not (is_blank_line l)) (l ∷ []) []) is) takes

  pub blank_fed : (s : Session W E) (line text : List ℕ) (blank : Bool) → text ≡ without_end line → blank ≡ is_blank_line text → blank ≡ true → Advances contents s (line_texts line) s
  blank_fed s line text blank is tests nothing =
      subst (λ texts. Advances contents s texts s)
      (ap (λ b. cond (not b) (text ∷ []) []) (sym (sym tests ∙ nothing)) ∙ ap (λ l. cond (not (is_blank_line l)) (l ∷ []) []) is) (advances_nowhere contents s)
