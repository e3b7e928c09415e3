-- What a line and the line under it show together.
use Rattle.std.proofs.Common.{◌≡◌, ℕ, Bool, IsTrue, ◌↔◌, List, ◌++◌, Result, Ok, Err, OnOk, refl, ap, ◌∙◌, append_assoc, slice_range}
use Rattle.message_text.specs.declared.window.Window.{Window}
use Rattle.message_text.specs.Shown.{line_text, caret_text, Appends, IsReadable, IsWindow, ShowsPlace}

pub both_shown : {T E : Type 0} (result : Result T E) (bytes : List ℕ) (at : ℕ) (w : Window) (t : Bool) (before middle after : List ℕ)
    → IsWindow bytes at w → (IsTrue t ↔ IsReadable (slice_range bytes w.from w.to)) → middle ≡ before ++ line_text t bytes w
    → OnOk result (after ≡ middle ++ caret_text t bytes at w) → OnOk result (Appends (ShowsPlace bytes at) before after)
both_shown (Err e) bytes at w t before middle after around is line caret = tt
both_shown (Ok x) bytes at w t before middle after around is line caret =
    record {
      text = line_text t bytes w ++ caret_text t bytes at w;
      is = record { window = w; around = around; readable = t; is_text = is; shown = refl };
      appended =
          caret ∙ ap (λ m. m ++ caret_text t bytes at w) line ∙ append_assoc before (line_text t bytes w) (caret_text t bytes at w);
    }
