-- What is kept of a piece.
use Rattle.std.proofs.Common.{◌≡◌, ℕ, ◌≤◌, Bool, true, false, cond, inl, inr, List, [], ◌++◌, length, ap, ◌∙◌, arith}
use Rattle.command_messages.specs.Kept.{Keeps}

pub piece_kept : (piece empty line : List ℕ) (b : Bool) → empty ≡ [] → length piece ≤ 8192 → line ≡ cond b (empty ++ piece) empty → Keeps piece line
piece_kept piece empty line true none fits is =
    record { last = inl (is ∙ ap (λ xs. xs ++ piece) none); long = λ past. absurd (omega (arith, fits, past)) }
piece_kept piece empty line false none fits is = record { last = inr (is ∙ none); long = λ past. is ∙ none }

pub none_kept : (piece line : List ℕ) → line ≡ [] → Keeps piece line
none_kept piece line none = record { last = inr none; long = λ _. none }
