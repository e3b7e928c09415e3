-- Prefixes of a line.
use Rattle.std.proofs.Common.{◌≡◌, ◌≢◌, ℕ, ◌+◌, ◌<◌, List, ◌++◌, length, take, drop, true, false, true≢false, sym, ap, ◌∙◌, arith, length-append}
use Rattle.std.proofs.Math.Seq.{take-append_seam}
use Rattle.std.proofs.lemmas.List.{take-append-drop}
use Rattle.std.proofs.lemmas.Slice.Eq.{bytes_eq-Decides}
use Rattle.std.specs.Str.{bytes_eq}

pub prefix_is : (line prefix before rest : List ℕ) (n : ℕ) → before ≡ take n line → rest ≡ drop n line → bytes_eq before prefix ≡ true
    → line ≡ prefix ++ rest
prefix_is line prefix before rest n front behind same =
    sym (take-append-drop n line) ∙ ap (λ xs. xs ++ drop n line) (sym front ∙ (bytes_eq-Decides before prefix).0 same)
    ∙ ap (λ xs. prefix ++ xs) (sym behind)

pub prefix_other : (line prefix before rest : List ℕ) → before ≡ take (length prefix) line → bytes_eq before prefix ≡ false → line ≢ prefix ++ rest
prefix_other line prefix before rest front other is =
    let same : before ≡ prefix = front ∙ ap (take (length prefix)) is ∙ take-append_seam prefix rest
    in true≢false (sym ((bytes_eq-Decides before prefix).1 same) ∙ other)
