-- What comes of the text of a plan: it can't be that it has no plan, and that no line is the first
-- without a reading.
use Rattle.std.proofs.Common.{◌≡◌, ◌⊎◌, inl, inr, ℕ, ◌+◌, List, [], ◌∷◌, Result, Ok, Err, refl, ap, ◌∙◌}
use Rattle.nwq_text.specs.Lines.{lines_of}
use Rattle.plan_text.specs.Plans.{Draft, Reads, Comes, whole, more, stops, nothing, IsHeaded, Gives, headed, headless}
use Rattle.nwq_top.proofs.Undeniable.{Undeniable, surely, by_it, with_it, either_way}

abbrev Came : ℕ → Draft → List (List ℕ) → Type 0
Came n d lines = (end : Result Draft ℕ) × Comes n d lines end

abbrev Read : Draft → List ℕ → Type 0
Read d line = (next : Draft) × Reads d line next

line_by : (n : ℕ) (d : Draft) (line : List ℕ) (lines : List (List ℕ)) → ((next : Draft) → Undeniable (Came (n + 1) next lines)) → Read d line ⊎ (Read d line → ⊥)
    → Undeniable (Came n d (line ∷ lines))
line_by n d line lines rest (inl reads) = with_it (rest reads.0) (λ c. (c.0, more n d reads.0 line lines c.0 reads.1 c.1))
line_by n d line lines rest (inr baffles) = surely (Err n, stops n d line lines (λ next reads. baffles (next, reads)))

lines_come : (n : ℕ) (d : Draft) (lines : List (List ℕ)) → Undeniable (Came n d lines)
lines_come n d [] = surely (Ok d, whole n d)
lines_come n d (line ∷ lines) = by_it (either_way (Read d line)) (line_by n d line lines (λ next. lines_come (n + 1) next lines))

module _ (bytes : List ℕ) where
  abbrev Given : Type 0
  Given = (end : Result Draft ℕ) × Gives bytes end

  headed_by : (lines : List (List ℕ)) → lines_of bytes ≡ lines → IsHeaded lines → Undeniable Given
  headed_by [] e h = absurd h
  headed_by (line ∷ lines) e h =
      with_it (lines_come 2 (nothing h.0) lines) (λ c. (c.0, headed h.0 lines c.0 h.1 (e ∙ ap (λ l. l ∷ lines) h.2) c.1))

  by_heading : IsHeaded (lines_of bytes) ⊎ (IsHeaded (lines_of bytes) → ⊥) → Undeniable Given
  by_heading (inl h) = headed_by (lines_of bytes) refl h
  by_heading (inr none) = surely (Err 1, headless none)

  pub plan_comes : Undeniable Given
  plan_comes = by_it (either_way (IsHeaded (lines_of bytes))) by_heading
