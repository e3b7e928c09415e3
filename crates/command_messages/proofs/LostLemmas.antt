-- The notes on words whose files the command wrote over, put one by one.
use Rattle.std.proofs.Common.{◌≡◌, ◌∙◌, ap, sym, refl, subst, ℕ, ◌+◌, ◌<◌, ◌≤◌, Bool, true, false, String, Global, List, [], ◌∷◌, ◌++◌, length, take, get_or, Result, Ok, Err, OnOk}
use Rattle.std.proofs.Common.{append_assoc, append-nil}
use Rattle.std.proofs.lemmas.List.{take_all, take_more}
use Rattle.message_text.specs.Shown.{Appends}
use Rattle.message_sentences.specs.Form.{ShowsNote}
use Rattle.command_messages.specs.declared.overwritten.Input.{Input}
use Rattle.command_messages.specs.Overwritten.{is_written, ShowsLost, ShowAllLost, None, Next}

pub lost : {T E : Type 0} (result : Result T E) (b : Bool) (sentence : List ℕ) (input : Input) (before after : List ℕ) → b ≡ true
    → OnOk result (Appends (ShowsNote input.file.now sentence input.word.now) before after) → OnOk result (Appends (ShowsLost b sentence input) before after)
lost (Err e) b sentence input before after is put = tt
lost (Ok x) b sentence input before after is put = subst (λ z. Appends (ShowsLost z sentence input) before after) (sym is) put

pub kept : (b : Bool) (sentence : List ℕ) (input : Input) (items : List ℕ) → b ≡ false → Appends (ShowsLost b sentence input) items items
kept b sentence input items is =
    subst (λ z. Appends (ShowsLost z sentence input) items items) (sym is) (record { text = []; is = refl; appended = sym (append-nil items) })

pub none_shown : (written : List (String Global)) (sentence items : List ℕ) → Appends (ShowAllLost written sentence []) items items
none_shown written sentence items = record { text = []; is = None; appended = sym (append-nil items) }

pub one_more : (written : List (String Global)) (sentence : List ℕ) (inputs : List Input) (i : ℕ) (d : Input) (before middle after : List ℕ) → i < length inputs
    → Appends (ShowAllLost written sentence (take i inputs)) before middle
    → Appends (ShowsLost (is_written written (get_or inputs i d).file.now) sentence (get_or inputs i d)) middle after
    → Appends (ShowAllLost written sentence (take (i + 1) inputs)) before after
one_more written sentence inputs i d before middle after inside so more =
    record {
      text = so.text ++ more.text;
      is = subst (λ xs. ShowAllLost written sentence xs (so.text ++ more.text)) (sym (take_more inputs i d inside))
          (Next (take i inputs) (get_or inputs i d) so.text more.text so.is more.is);
      appended = more.appended ∙ ap (λ m. m ++ more.text) so.appended ∙ append_assoc before so.text more.text;
    }

pub all_shown : (written : List (String Global)) (sentence : List ℕ) (inputs : List Input) (i : ℕ) (before after : List ℕ) → length inputs ≤ i
    → Appends (ShowAllLost written sentence (take i inputs)) before after → Appends (ShowAllLost written sentence inputs) before after
all_shown written sentence inputs i before after past so = subst (λ xs. Appends (ShowAllLost written sentence xs) before after) (take_all i inputs past) so
