-- The trace's text, line by line.
use Rattle.std.proofs.Common.{◌≡◌, ℕ, ◌+◌, ◌<◌, List, [], ◌∷◌, ◌++◌, length, get_or, take, Result, Ok, Err, ap, sym, ◌∙◌}
use Rattle.std.proofs.lemmas.List.{take_more, flat_map_more}
use Rattle.std.specs.Result.{OnErr}
use Rattle.std.specs.List.{flat_map}
use Rattle.world_rules.specs.declared.data.Line.{Line}
use Rattle.world_rules.specs.Trace.{line_text}

-- one more line was appended
pub one_more_line : (before now : List ℕ) (lines : List Line) (i : ℕ) (x d : Line) → i < length lines → x ≡ get_or lines i d
    → now ≡ (before ++ flat_map line_text (take i lines)) ++ line_text x → now ≡ before ++ flat_map line_text (take (i + 1) lines)
one_more_line before now lines i x d h is e =
    e ∙ flat_map_more line_text before (take i lines) x ∙ ap (λ y. before ++ flat_map line_text (take i lines ++ y ∷ [])) is
    ∙ ap (λ ys. before ++ flat_map line_text ys) (sym (take_more lines i d h))

-- what holds in any case holds after a refusal
pub on_err : {X E : Type 0} → (r : Result X E) (P : Type 0) → P → OnErr r P
on_err (Ok x) P p = tt
on_err (Err e) P p = p
