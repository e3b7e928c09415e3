-- What the parts of a note show together.
use Rattle.std.proofs.Common.{◌≡◌, ◌∙◌, ap, sym, refl, subst, ℕ, Bool, true, false, List, [], ◌++◌, codes, Option, Some, Result, Ok, Err, OnOk, append_assoc, append-nil}
use Rattle.std.specs.Fmt.{decimal}
use Rattle.std.specs.Option.{option_map}
use Rattle.nwq_text.specs.Line.{line_number}
use Rattle.nss_include.specs.View.{Gathered}
use Rattle.nss_tree.specs.Source.{SourceTree}
use Rattle.typing_rules.specs.Typed.{TypedUnit}
use Rattle.run_places.specs.declared.spots.Spot.{Spot}
use Rattle.run_places.specs.Spots.{function_named, plain_spot, spot_at}
use Rattle.message_text.specs.Shown.{Appends, ShowsPlace}
use Rattle.message_text.specs.Place.{HasColumn}
use Rattle.message_sentences.specs.Form.{ShowsName, ShowsSpot}
use Rattle.message_remarks.specs.There.{ShowsLine, ShowsThere, function_text}

pub line_shown : {T E : Type 0} (result : Result T E) (bytes : List ℕ) (at : ℕ) (b : Bool) (before after : List ℕ) → b ≡ true
    → OnOk result (Appends (ShowsPlace bytes at) before after) → OnOk result (Appends (ShowsLine b bytes at) before after)
line_shown (Err e) bytes at b before after is put = tt
line_shown (Ok x) bytes at b before after is put = subst (λ z. Appends (ShowsLine z bytes at) before after) (sym is) put

pub no_line : (bytes : List ℕ) (at : ℕ) (b : Bool) (items : List ℕ) → b ≡ false → Appends (ShowsLine b bytes at) items items
no_line bytes at b items is =
    subst (λ z. Appends (ShowsLine z bytes at) items items) (sym is) (record { text = []; is = refl; appended = sym (append-nil items) })

-- what is put behind a text that was appended
onto : (before text more middle after : List ℕ) → middle ≡ before ++ text → after ≡ middle ++ more → after ≡ before ++ (text ++ more)
onto before text more middle after one two = two ∙ ap (λ m. m ++ more) one ∙ append_assoc before text more

pub spot_shown : {T E : Type 0} (result : Result T E) (name bytes : List ℕ) (at column : ℕ) (before a b c d after : List ℕ)
    → Appends (ShowsName name) before a → b ≡ a ++ codes ":" → c ≡ b ++ decimal (line_number bytes at) → d ≡ c ++ codes ":"
    → HasColumn bytes at column → OnOk result (after ≡ d ++ decimal column)
    → OnOk result (Appends (ShowsSpot name bytes at) before after)
spot_shown (Err e) name bytes at column before a b c d after named one two three counted put = tt
spot_shown (Ok x) name bytes at column before a b c d after named one two three counted put =
    let line = decimal (line_number bytes at) in
    let end : List ℕ = codes ":" ++ (line ++ (codes ":" ++ decimal column)) in
    let here : after ≡ a ++ end
    = onto a (codes ":") (line ++ (codes ":" ++ decimal column)) b after one
    (onto b line (codes ":" ++ decimal column) c after two (onto c (codes ":") (decimal column) d after three put)) in
    record {
      text = named.text ++ end;
      is = record { file = named.text; named = named.is; column = column; counted = counted; is = refl };
      appended = onto before named.text end a after named.appended here;
    }

pub there_shown : (unit : Gathered) (tree : SourceTree) (typed : TypedUnit) (at : ℕ) (spot : Spot) (b : Bool) (named : Option (List ℕ))
    (before behind : List ℕ) (shows : Bool) (s0 s1 s2 s3 s4 s5 s6 s7 : List ℕ)
    → option_map plain_spot (Some spot) ≡ spot_at unit tree typed at → named ≡ function_named typed at
    → Appends (ShowsSpot spot.name.now spot.bytes.now spot.at) s0 s1 → s2 ≡ s1 ++ codes ": note: " → s3 ≡ s2 ++ before
    → s4 ≡ s3 ++ function_text b named → s5 ≡ s4 ++ behind → s6 ≡ s5 ++ codes "\n"
    → Appends (ShowsLine shows spot.bytes.now spot.at) s6 s7 → Appends (ShowsThere unit tree typed at) s0 s7
there_shown unit tree typed at spot b named before behind shows s0 s1 s2 s3 s4 s5 s6 s7 found function one two three four five six seven =
    let name : List ℕ = function_text b (function_named typed at) in
    let end : List ℕ = codes ": note: " ++ (before ++ (name ++ (behind ++ (codes "\n" ++ seven.text)))) in
    let here : s7 ≡ s1 ++ end
    = onto s1 (codes ": note: ") (before ++ (name ++ (behind ++ (codes "\n" ++ seven.text)))) s2 s7 two
    (onto s2 before (name ++ (behind ++ (codes "\n" ++ seven.text))) s3 s7 three
    (onto s3 name (behind ++ (codes "\n" ++ seven.text)) s4 s7 (four ∙ ap (λ n. s3 ++ function_text b n) function)
    (onto s4 behind (codes "\n" ++ seven.text) s5 s7 five (onto s5 (codes "\n") seven.text s6 s7 six seven.appended)))) in
    record {
      text = one.text ++ end;
      is = record {
        place = plain_spot spot;
        found = sym found;
        spot = one.text;
        shows_spot = one.is;
        in_action = b;
        before = before;
        behind = behind;
        shows = shows;
        line = seven.text;
        shows_line = seven.is;
        is = refl;
      };
      appended = onto s0 one.text end s1 s7 one.appended here;
    }
