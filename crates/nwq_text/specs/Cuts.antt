-- Where bytes are cut.
use Rattle.std.specs.Prelude.{◌≡◌, ◌≢◌, ℕ, ◌==◌, if◌then◌else◌, List, [], ◌∷◌, ◌++◌, Option, Some, None}
use Rattle.std.specs.List.{AllByRecursion}
use Rattle.std.specs.Option.{option_map}

-- this byte is not among the bytes
abbrev pub IsFree : ℕ → List ℕ → Type 0
IsFree at bytes = AllByRecursion (λ b. b ≢ at) bytes

abbrev pub in_front : ℕ → Option (List ℕ × List ℕ) → Option (List ℕ × List ℕ)
in_front b cut = option_map (λ p. (b ∷ p.0, p.1)) cut

-- what stands before the first such byte, and what follows it
unfoldable pub cut_at : ℕ → List ℕ → Option (List ℕ × List ℕ)
cut_at at [] = None
cut_at at (b ∷ bs) = if b == at then Some ([], bs) else in_front b (cut_at at bs)

-- where bytes are cut there
abbrev pub CutParts : ℕ → List ℕ → Option (List ℕ × List ℕ) → Type 0
CutParts at bytes None = IsFree at bytes
CutParts at bytes (Some p) = (bytes ≡ p.0 ++ at ∷ p.1) × IsFree at p.0
