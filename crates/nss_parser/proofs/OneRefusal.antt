-- That tokens are refused for one reason at most.
use Rattle.std.proofs.Common.{◌≡◌, ◌≢◌, ◌<◌, ◌≤◌, ◌+◌, ◌++◌, ℕ, List, take, drop, sym, ◌∙◌, ap, arith, refl, subst, append_assoc, inl, inr}
use Rattle.std.proofs.lemmas.Bool.{cases_lt}
use Rattle.std.proofs.lemmas.List.{take-append-drop, take-take}
use Rattle.nss_tree.specs.Source.{SourceTree}
use Rattle.nss_parser.specs.declared.fault.ParseFault.{ParseFault}
use Rattle.nss_parser.specs.declared.fault.ParseFault.TheVariants.{Nested, Syntax, NoMemory}
use Rattle.nss_symbols.specs.Symbols.{Symbol}
use Rattle.nss_symbols.specs.Nest.{IsFirstOver, IsWithinNest}
use Rattle.nss_parser.specs.Sentence.{IsDead, IsPrefix, IsPlace, Parses}
use Rattle.nss_parser.specs.Fault.{Refuses}

-- what is dead has no prefix of a unit that begins with it
dead_prefix : (xs ys : List Symbol) → IsDead xs → IsPrefix (xs ++ ys) → ⊥
dead_prefix xs ys dead prefix = dead (ys ++ prefix.more) prefix.tree (subst (λ (all : List Symbol). Parses all prefix.tree) (append_assoc xs ys prefix.more) prefix.parses)

longer_prefix : (tokens : List Symbol) (m n : ℕ) → m ≤ n → IsDead (take m tokens) → IsPrefix (take n tokens) → ⊥
longer_prefix tokens m n le dead prefix =
    let parts : take n tokens ≡ take m tokens ++ drop m (take n tokens) =
    sym (take-append-drop m (take n tokens)) ∙ ap (λ (first : List Symbol). first ++ drop m (take n tokens)) (take-take m n tokens le) in
    dead_prefix (take m tokens) (drop m (take n tokens)) dead (subst IsPrefix parts prefix)

-- no place stands before another
not_before : (tokens : List Symbol) (i j : ℕ) → IsPlace tokens i → IsPlace tokens j → i < j → ⊥
not_before tokens i j here there lt =
    longer_prefix tokens (i + 1) j (omega (arith, lt)) (here.dead (omega (arith, lt, there.within))) there.prefix

one_place : (tokens : List Symbol) (i j : ℕ) → IsPlace tokens i → IsPlace tokens j → i ≡ j
one_place tokens i j here there =
    elim (cases_lt i j) [
      | inl lt ↦ absurd (not_before tokens i j here there lt)
      | inr le ↦ elim (cases_lt j i) [
        | inl lt ↦ absurd (not_before tokens j i there here lt)
        | inr ge ↦ omega (arith, le, ge)
      ]
    ]

not_over_before : (tokens : List Symbol) (i j : ℕ) → IsFirstOver tokens i → IsFirstOver tokens j → i < j → ⊥
not_over_before tokens i j here there lt = omega (arith, here.over, there.before i lt)

one_over : (tokens : List Symbol) (i j : ℕ) → IsFirstOver tokens i → IsFirstOver tokens j → i ≡ j
one_over tokens i j here there =
    elim (cases_lt i j) [
      | inl lt ↦ absurd (not_over_before tokens i j here there lt)
      | inr le ↦ elim (cases_lt j i) [
        | inl lt ↦ absurd (not_over_before tokens j i there here lt)
        | inr ge ↦ omega (arith, le, ge)
      ]
    ]

not_within : (tokens : List Symbol) (i : ℕ) → IsFirstOver tokens i → IsWithinNest tokens → ⊥
not_within tokens i first within = omega (arith, first.over, within i)

pub one_refusal : (tokens : List Symbol) (one other : ParseFault) → Refuses tokens one → Refuses tokens other → one ≢ NoMemory → other ≢ NoMemory → one ≡ other
one_refusal tokens NoMemory other f g some more = absurd (some refl)
one_refusal tokens one NoMemory f g some more = absurd (more refl)
one_refusal tokens (Nested i) (Nested j) f g some more = ap Nested (one_over tokens i j f g)
one_refusal tokens (Nested i) (Syntax j) f g some more = absurd (not_within tokens i f g.0)
one_refusal tokens (Syntax i) (Nested j) f g some more = absurd (not_within tokens j g f.0)
one_refusal tokens (Syntax i) (Syntax j) f g some more = ap Syntax (one_place tokens i j f.1 g.1)

pub no_refusal_of_trees : (tokens : List Symbol) (x : SourceTree) (fault : ParseFault) → Parses tokens x → IsWithinNest tokens → Refuses tokens fault → fault ≡ NoMemory
no_refusal_of_trees tokens x (Nested i) parses within refuses = absurd (not_within tokens i refuses within)
no_refusal_of_trees tokens x (Syntax i) parses within refuses = absurd (refuses.1.none x parses)
no_refusal_of_trees tokens x NoMemory parses within refuses = refl
