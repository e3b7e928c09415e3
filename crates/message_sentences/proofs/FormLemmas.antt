-- What the parts of a message show together.
use Rattle.std.proofs.Common.{◌≡◌, ℕ, Bool, true, false, IsTrue, ◌↔◌, List, ◌++◌, codes, Result, Ok, Err, OnOk, refl, ap, ◌∙◌, append_assoc}
use Rattle.std.specs.Fmt.{decimal}
use Rattle.nwq_text.specs.Escape.{escaped}
use Rattle.nwq_text.specs.Line.{line_number}
use Rattle.message_text.specs.Place.{HasColumn}
use Rattle.message_text.specs.Shown.{Appends, ShowsPlace}
use Rattle.message_sentences.specs.Form.{IsPlainName, ShowsName, ShowsSpot, ShowsHead, ShowsEnd, kind_text, note_text, ShowsNoteAt, ShowsNote, ShowsWhole}

pub name_plain : {T E : Type 0} (result : Result T E) (name before after : List ℕ) (b : Bool) → (IsTrue b ↔ IsPlainName name) → b ≡ true
    → OnOk result (after ≡ before ++ name) → OnOk result (Appends (ShowsName name) before after)
name_plain (Err e) name before after b test is put = tt
name_plain (Ok x) name before after b test is put =
    record { text = name; is = record { plain = λ _. refl; other = λ no. absurd (no (test.0 is)) }; appended = put }

pub name_escaped : {T E : Type 0} (result : Result T E) (name before after : List ℕ) (b : Bool) → (IsTrue b ↔ IsPlainName name) → b ≡ false
    → OnOk result (after ≡ before ++ escaped name) → OnOk result (Appends (ShowsName name) before after)
name_escaped (Err e) name before after b test is put = tt
name_escaped (Ok x) name before after b test is put =
    record {
      text = escaped name;
      is = record { plain = λ yes. (let so = test.1 yes in let none : ⊥ = cc in absurd none); other = λ _. refl };
      appended = put;
    }

-- what is put behind a text that was appended
onto : (before text more middle after : List ℕ) → middle ≡ before ++ text → after ≡ middle ++ more → after ≡ before ++ (text ++ more)
onto before text more middle after one two = two ∙ ap (λ m. m ++ more) one ∙ append_assoc before text more

pub spot_shown : {T E : Type 0} (result : Result T E) (name bytes : List ℕ) (at column : ℕ) (before a b c d after : List ℕ)
    → Appends (ShowsName name) before a → b ≡ a ++ codes ":" → c ≡ b ++ decimal (line_number bytes at) → d ≡ c ++ codes ":"
    → HasColumn bytes at column → OnOk result (after ≡ d ++ decimal column)
    → OnOk result (Appends (ShowsSpot name bytes at) before after)
spot_shown (Err e) name bytes at column before a b c d after named one two three counted put = tt
spot_shown (Ok x) name bytes at column before a b c d after named one two three counted put =
    let line = decimal (line_number bytes at) in
    let end : List ℕ = codes ":" ++ (line ++ (codes ":" ++ decimal column)) in
    let here : after ≡ a ++ end
    = onto a (codes ":") (line ++ (codes ":" ++ decimal column)) b after one
    (onto b line (codes ":" ++ decimal column) c after two (onto c (codes ":") (decimal column) d after three put)) in
    record {
      text = named.text ++ end;
      is = record { file = named.text; named = named.is; column = column; counted = counted; is = refl };
      appended = onto before named.text end a after named.appended here;
    }

pub head_shown : {T E : Type 0} (result : Result T E) (name bytes : List ℕ) (at : ℕ) (before a after : List ℕ)
    → Appends (ShowsSpot name bytes at) before a → OnOk result (after ≡ a ++ codes ": error: ")
    → OnOk result (Appends (ShowsHead name bytes at) before after)
head_shown (Err e) name bytes at before a after spot put = tt
head_shown (Ok x) name bytes at before a after spot put =
    record {
      text = spot.text ++ codes ": error: ";
      is = record { spot = spot.text; place = spot.is; is = refl };
      appended = onto before spot.text (codes ": error: ") a after spot.appended put;
    }

pub end_shown : {T E : Type 0} (result : Result T E) (kind bytes : List ℕ) (at : ℕ) (before a after : List ℕ)
    → a ≡ before ++ kind_text kind → OnOk result (Appends (ShowsPlace bytes at) a after)
    → OnOk result (Appends (ShowsEnd kind bytes at) before after)
end_shown (Err e) kind bytes at before a after put shown = tt
end_shown (Ok x) kind bytes at before a after put shown =
    record {
      text = kind_text kind ++ shown.text;
      is = record { line = shown.text; place = shown.is; is = refl };
      appended = onto before (kind_text kind) shown.text a after put shown.appended;
    }

pub note_at_shown : {T E : Type 0} (result : Result T E) (name bytes : List ℕ) (at : ℕ) (sentence piece before a b after : List ℕ)
    → Appends (ShowsSpot name bytes at) before a → b ≡ a ++ note_text sentence piece → OnOk result (Appends (ShowsPlace bytes at) b after)
    → OnOk result (Appends (ShowsNoteAt name bytes at sentence piece) before after)
note_at_shown (Err e) name bytes at sentence piece before a b after spot put shown = tt
note_at_shown (Ok x) name bytes at sentence piece before a b after spot put shown =
    let text : List ℕ = note_text sentence piece in
    record {
      text = spot.text ++ (text ++ shown.text);
      is = record { spot = spot.text; place = spot.is; line = shown.text; shown = shown.is; is = refl };
      appended = onto before spot.text (text ++ shown.text) a after spot.appended (onto a text shown.text b after put shown.appended);
    }

pub note_shown : {T E : Type 0} (result : Result T E) (name sentence piece before a after : List ℕ)
    → Appends (ShowsName name) before a → OnOk result (after ≡ a ++ note_text sentence piece)
    → OnOk result (Appends (ShowsNote name sentence piece) before after)
note_shown (Err e) name sentence piece before a after named put = tt
note_shown (Ok x) name sentence piece before a after named put =
    record {
      text = named.text ++ note_text sentence piece;
      is = record { file = named.text; named = named.is; is = refl };
      appended = onto before named.text (note_text sentence piece) a after named.appended put;
    }

pub whole_shown : {T E : Type 0} (result : Result T E) (name sentence kind before a b c after : List ℕ)
    → Appends (ShowsName name) before a → b ≡ a ++ codes ": error: " → c ≡ b ++ sentence → OnOk result (after ≡ c ++ kind_text kind)
    → OnOk result (Appends (ShowsWhole name sentence kind) before after)
whole_shown (Err e) name sentence kind before a b c after named one two put = tt
whole_shown (Ok x) name sentence kind before a b c after named one two put =
    let end : List ℕ = codes ": error: " ++ (sentence ++ kind_text kind) in
    let here : after ≡ a ++ end
    = onto a (codes ": error: ") (sentence ++ kind_text kind) b after one (onto b sentence (kind_text kind) c after two put) in
    record {
      text = named.text ++ end;
      is = record { file = named.text; named = named.is; is = refl };
      appended = onto before named.text end a after named.appended here;
    }
