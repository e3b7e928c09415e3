-- How what is kept by one part of a command after another is put together.
use mathlib.Core.Path.{refl, sym, ap, subst, ◌∙◌}
use Rattle.std.specs.Prelude.{◌≡◌, ◌≢◌, ℕ, false, List}
use Rattle.nwq_outside.specs.Outside.{Contents, content, with_content, SameWays, IsApart, KeepsOthers}
use Rattle.nwq_outside.specs.ContentLemmas.{write_keeps}
use Rattle.command_work.specs.Calls.{IsName}
use Rattle.command_work.specs.Counts.{IsOutside, KeepsBut}

-- where nothing changed, all is kept
pub keeps_all : (MayWrite : List ℕ → Type 0) (c c' : Contents) → c' ≡ c → KeepsBut MayWrite c c'
unfolding KeepsBut
keeps_all MayWrite c c' same = (
  record {
    place = ap (λ (d : Contents). d.place) same;
    spare = ap (λ (d : Contents). d.spare) same;
  },
  λ name outside. ap
      (λ d. content d name) same,
)

-- a write keeps all but its own name
pub keeps_write : (name : List ℕ) (c c' : Contents) → KeepsOthers name c c'
    → KeepsBut (IsName name) c c'
unfolding KeepsBut
keeps_write name c c' keeps = (
  keeps.ways,
  λ other outside. keeps.others other
      (record { place = outside.apart name refl; own = outside.own }),
)

pub keeps_with : (name bytes : List ℕ) (c : Contents)
    → KeepsBut (IsName name) c (with_content c name bytes)
keeps_with name bytes c = keeps_write name c (with_content c name bytes) (write_keeps c name bytes)

-- what keeps more names keeps fewer
pub keeps_fewer : (May MayToo : List ℕ → Type 0) (c c' : Contents)
    → ((name : List ℕ) → May name → MayToo name) → KeepsBut May c c' → KeepsBut MayToo c c'
unfolding KeepsBut
keeps_fewer May MayToo c c' more keeps = (
  keeps.0,
  λ name outside. keeps.1 name
      (record { apart = λ other may. outside.apart other (more other may); own = outside.own }),
)

module _ (MayWrite : List ℕ → Type 0) (c d e : Contents) where
  moved : SameWays c d → (name : List ℕ) → IsOutside MayWrite c name → IsOutside MayWrite d name
  moved same name outside = record {
    apart = λ other may is. outside.apart other may
        (ap (λ f. f name) (sym same.place) ∙ is ∙ ap (λ f. f other) same.place);
    own = subst (λ f. f (d.place name) ≡ false) (sym same.spare)
        (subst (λ f. c.spare (f name) ≡ false) (sym same.place) outside.own);
  }

  -- one part after another
  pub keeps_then : KeepsBut MayWrite c d → KeepsBut MayWrite d e → KeepsBut MayWrite c e
  unfolding KeepsBut
  keeps_then first second = (
    record { place = second.0.place ∙ first.0.place; spare = second.0.spare ∙ first.0.spare },
    λ name outside. second.1 name (moved first.0 name outside) ∙ first.1 name outside,
  )

-- what was only read is kept, and then what the next part keeps
pub keeps_after : (MayWrite : List ℕ → Type 0) (c d e : Contents) → d ≡ c → KeepsBut MayWrite d e
    → KeepsBut MayWrite c e
keeps_after MayWrite c d e same after = keeps_then MayWrite c d e
    (keeps_all MayWrite c d same) after

-- what leads to no place that may be written has what it had
pub kept_at : (MayWrite : List ℕ → Type 0) (c c' : Contents) (name : List ℕ)
    → KeepsBut MayWrite c c' → IsOutside MayWrite c name → content c' name ≡ content c name
unfolding KeepsBut
kept_at MayWrite c c' name keeps outside = keeps.1 name outside
