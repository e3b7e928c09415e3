-- What is under each name after a write, and that a write keeps what the other names have.
use mathlib.Core.Path.{refl, sym, ap, subst, ◌∙◌}
use Rattle.std.specs.Prelude.{◌≡◌, ◌≢◌, ℕ, Bool, true, false, cond, List, Option, Some, None}
use Rattle.std.proofs.lemmas.Cmp.{nat_list_cmp_total}
use Rattle.std.proofs.lemmas.Slice.Eq.{bytes_eq-Decides}
use Rattle.std.proofs.lemmas.Map.Text.{is_eq-slice_cmp}
use Rattle.std.specs.Cmp.Lexicographic.{slice_cmp}
use Rattle.std.specs.FinMap.{get, insert, get-insert}
use Rattle.std.specs.Ordering.{nat_cmp, is_eq}
use Rattle.std.specs.Str.{bytes_eq}
use Rattle.nwq_outside.specs.Outside.{Held, Contents, content, with_content, SameWays, IsApart, KeepsOthers}

taken : {A : Type 0} (b : Bool) (x y : A) → b ≡ true → cond b x y ≡ x
taken true x y is = refl
taken false x y is = absurd (true_not_false is)
  where
    true_not_false : (false ≡ true) → ⊥
    true_not_false e = subst (λ b. cond b ⊥ (Unit {0})) e tt

not_taken : {A : Type 0} (b : Bool) (x y : A) → b ≢ true → cond b x y ≡ y
not_taken true x y apart = absurd (apart refl)
not_taken false x y apart = refl

module _ (held : Held) (place bytes : List ℕ) where
  -- what is put at a place is there
  pub put_there : get (insert held place bytes) place ≡ Some bytes
  put_there =
      get-insert nat_list_cmp_total held place bytes place
      ∙ taken (is_eq (slice_cmp nat_cmp place place)) _ _
      (is_eq-slice_cmp place place ∙ (bytes_eq-Decides place place).1 refl)

  -- and every other place has what it had
  pub put_elsewhere : (other : List ℕ) → other ≢ place
      → get (insert held place bytes) other ≡ get held other
  put_elsewhere other apart =
      get-insert nat_list_cmp_total held place bytes other
      ∙ not_taken (is_eq (slice_cmp nat_cmp other place)) _ _
      (λ same. apart ((bytes_eq-Decides other place).0
      (sym (is_eq-slice_cmp other place) ∙ same)))

module _ (c : Contents) (name bytes : List ℕ) where
  -- what is written under a name is under each name that leads to its place
  pub written_under : (other : List ℕ) → c.place other ≡ c.place name
      → content (with_content c name bytes) other ≡ Some bytes
  written_under other same = ap (get (insert c.held (c.place name) bytes)) same
      ∙ put_there c.held (c.place name) bytes

  -- and each other name has what it had
  pub written_apart : (other : List ℕ) → c.place other ≢ c.place name
      → content (with_content c name bytes) other ≡ content c other
  written_apart other apart = put_elsewhere c.held (c.place name) bytes (c.place other) apart

  pub write_keeps : KeepsOthers name c (with_content c name bytes)
  write_keeps = record {
    ways = record { place = refl; spare = refl };
    others = λ other apart. written_apart other apart.place;
  }

-- where nothing changed, each name has what it had
pub same_keeps : (name : List ℕ) (c c' : Contents) → c' ≡ c → KeepsOthers name c c'
same_keeps name c c' same = record {
  ways = record {
    place = ap (λ (d : Contents). d.place) same;
    spare = ap (λ (d : Contents). d.spare) same;
  };
  others = λ other apart. ap (λ d. content d other) same;
}
