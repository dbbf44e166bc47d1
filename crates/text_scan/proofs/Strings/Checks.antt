-- What a check of contents says of them.
use Rattle.std.proofs.Common.{◌+◌, List, [], ◌≡◌, ℕ, ◌≤◌, ◌<◌, ◌++◌, length, take, drop, Ok, sym, ap, ◌∙◌, subst, arith, length-append}
use Rattle.std.proofs.lemmas.List.{append-nil, get_or-take, length-take-le, take-append-drop, take-append-le, take-take}
use Rattle.std.specs.List.{flat_map}
use Rattle.std.specs.Str.{IsUtf8}
use Rattle.jsonb_spec.specs.Mode.{Mode, GoesBeyondJson}
use Rattle.jsonb_spec.specs.Tree.{escaped}
use Rattle.jsonb_spec.specs.Grammar.StringBody.{Item, IsBody, encoding, meaning}
use Rattle.jsonb_spec.specs.Parsing.Decoding.{DecodesUpTo, IsDecodedUpTo, SeesBackslash, SeesNoBackslash}
use Rattle.jsonb_spec.specs.Parsing.Contents.{decoded_text, meaning_of_body}
use Rattle.jsonb_spec.specs.Parsing.String.{body_of, items_within}
use Rattle.text_scan.proofs.Strings.Bodies.{body-decoded}
use Rattle.text_scan.proofs.Strings.Decoding.{decodes_all, decoded_run, decoded_then, meaning-all}
use Rattle.text_scan.proofs.Strings.Items.{items_complete}
use Rattle.text_scan.proofs.Strings.Utf8.{meaning_utf8}

pub decoded_text-is : (mode : Mode) (bytes text : List ℕ) → DecodesUpTo mode bytes [] text → decoded_text mode bytes ≡ text
unfolding decoded_text
decoded_text-is mode bytes text p =
    let encoded : bytes ≡ flat_map encoding p.items = p.encoded ∙ append-nil (flat_map encoding p.items) in
    let enough : length (flat_map encoding p.items) ≤ length bytes = omega (arith, ap length encoded) in
    ap meaning_of_body (ap (items_within (length bytes) mode) encoded ∙ items_complete mode (length bytes) p.items p.each enough) ∙ sym (meaning-all mode bytes text p)

pub body_decoded : (mode : Mode) (bytes : List ℕ) (items : List Item) → IsBody mode bytes items → decoded_text mode bytes ≡ meaning items
unfolding decoded_text
body_decoded mode bytes items body =
    let enough : length (flat_map encoding items) ≤ length bytes = omega (arith, ap length body.encoded) in
    ap meaning_of_body (ap (items_within (length bytes) mode) body.encoded ∙ items_complete mode (length bytes) items body.each enough)

text_utf8 : (mode : Mode) (bytes text : List ℕ) → DecodesUpTo mode bytes [] text → IsUtf8 bytes → IsUtf8 text
text_utf8 mode bytes text p utf8 =
    let encoded : bytes ≡ flat_map encoding p.items = p.encoded ∙ append-nil (flat_map encoding p.items) in
    subst IsUtf8 (sym (meaning-all mode bytes text p)) (meaning_utf8 mode p.items p.each (subst IsUtf8 encoded utf8))

-- contents that are items, and UTF-8
pub body_checked : (mode : Mode) (bytes : List ℕ) → SeesBackslash bytes (length bytes) → IsUtf8 bytes → IsDecodedUpTo mode bytes [] → body_of mode bytes ≡ Ok (escaped, decoded_text mode bytes)
body_checked mode bytes sees utf8 p =
    body-decoded mode bytes p.text sees (decodes_all mode bytes p.text p.decodes (text_utf8 mode bytes p.text p.decodes utf8))
    ∙ ap (λ (t : List ℕ). Ok (escaped, t)) (sym (decoded_text-is mode bytes p.text p.decodes))

-- ---- steps of the check

pub up_to_then : (mode : Mode) (a b c : List ℕ) → IsDecodedUpTo mode a b → IsDecodedUpTo mode b c → IsDecodedUpTo mode a c
up_to_then mode a b c p q = record { text = p.text ++ q.text; decodes = decoded_then mode a b c p.text q.text p.decodes q.decodes }

clear_taken : (bytes : List ℕ) (count : ℕ) → count ≤ length bytes → SeesNoBackslash bytes count → SeesNoBackslash (take count bytes) (length (take count bytes))
clear_taken bytes count within clear k low =
    let inside : k < count = omega (arith, low, length-take-le count bytes within) in
    rw (get_or-take count bytes k 0 inside) (clear k inside)

-- bytes without a backslash are passed
pub up_to_run : (mode : Mode) (a b : List ℕ) (count : ℕ) → GoesBeyondJson mode → count ≤ length b → SeesNoBackslash b count → IsDecodedUpTo mode a b → IsDecodedUpTo mode a (drop count b)
up_to_run mode a b count beyond within clear p =
    let run = take count b in
    let split : b ≡ run ++ drop count b = sym (take-append-drop count b) in
    up_to_then mode a b (drop count b) p
    (record { text = run; decodes = subst (λ (u : List ℕ). DecodesUpTo mode u (drop count b) run) (sym split) (decoded_run mode run (drop count b) beyond (clear_taken b count within clear)) })

-- ---- texts that are decoded behind others

-- what is there already stays
pub front_stays : (len end : ℕ) (old new added : List ℕ) → len ≤ length old → end ≤ length new → take end new ≡ take len old ++ added → take len new ≡ take len old
front_stays len end old new added inside within appended =
    let long : end ≡ len + length added = omega (arith, length-take-le end new within, length-take-le len old inside, ap length appended, length-append (take len old) added) in
    let less : len ≤ end = omega (arith, long) in
    let all : len ≤ length (take len old) = omega (arith, length-take-le len old inside) in
    sym (take-take len end new less) ∙ ap (take len) appended ∙ take-append-le len (take len old) added all ∙ take-take len len old (omega arith)
