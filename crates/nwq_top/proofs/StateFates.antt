-- What comes of the bytes of a state: it can't be that they are none, and that there is no place up
-- to which they begin as one; nor that they are one which neither keeps all rules nor has a first
-- rule that it breaks.
use Rattle.std.proofs.Common.{◌≡◌, ◌⊎◌, inl, inr, ℕ, suc, ◌-◌, ◌≤◌, List, [], ◌∷◌, length, map, None, refl, ap, subst, ◌∙◌, arith, length-append}
use Rattle.std.proofs.lemmas.Bool.{cases_lt}
use Rattle.std.specs.List.{AllByRecursion}
use Rattle.nwq_value.specs.Engine.{EngineTable}
use Rattle.machine_rules.specs.Machine.{Script}
use Rattle.state_format.specs.declared.parts.Parts.{Parts}
use Rattle.state_format.specs.declared.parts.Script.{Script as ScriptPart}
use Rattle.state_format.specs.Parts.{HasForm}
use Rattle.state_format.specs.Fields.{joined, parts_fields}
use Rattle.state_format.specs.Place.{StateOf, BeginsWith, StateStopsAt}
use Rattle.state_parts.specs.World.{world_of}
use Rattle.play_save.specs.Rules.{Rule, rules, KeepsAll, IsAccepted, IsFirstBroken, IsSound}
use Rattle.command_save.specs.Saves.{file_of, AreSpelled}
use Rattle.command_save.specs.Resumes.{StateFate, IsStateFate, Whole, Stops, Unfit, whole, stops, unfit, Going, GoesFrom}
use Rattle.nwq_top.proofs.Undeniable.{Undeniable, surely, by_it, with_it, either_way, Least, least_one}

-- ---- the farthest place

-- parts that can be written
abbrev nothing : Parts
nothing = record {
  header = None;
  scripts = [];
  area = [];
  version = 0;
  limit = 0;
  entries = 0;
  until = 0;
  clock = 0;
  taken = 0;
  done = 0;
  next = 0;
  random = [];
  objects = [];
  agenda = [];
}

has_form : HasForm nothing
has_form = record {
  header = tt;
  scripts = (omega arith, tt);
  area = (omega arith, tt);
  version = omega arith;
  limit = omega arith;
  entries = omega arith;
  until = omega arith;
  clock = omega arith;
  taken = omega arith;
  done = omega arith;
  next = omega arith;
  random = (omega arith, tt);
  objects = (omega arith, tt);
  agenda = (omega arith, tt);
}

module _ (bytes : List ℕ) where
  begins_at_once : BeginsWith bytes 0
  begins_at_once = record { state = nothing; form = has_form; front = []; back = parts_fields nothing; rest = bytes; fields = refl; begins = refl; ends = refl }

  begins_inside : (place : ℕ) → BeginsWith bytes place → place ≤ length bytes
  begins_inside place h = omega (arith, ap length h.begins, length-append (joined h.front) h.rest, h.ends)

  -- so far from their end
  record Left (k : ℕ) : Type 0 where
    few : k ≤ length bytes
    begins : BeginsWith bytes (length bytes - k)

  left_at : (place : ℕ) → BeginsWith bytes place → Left (length bytes - place)
  left_at place h =
      let inside = begins_inside place h in
      let back : place ≡ length bytes - (length bytes - place) = omega (arith, inside) in
      record { few = omega arith; begins = subst (BeginsWith bytes) back h }

  farthest_by : (l : Least Left) (further : ℕ) → BeginsWith bytes further → further ≤ length bytes - l.number
  farthest_by l further h = elim (cases_lt (length bytes - further) l.number) [
    | inl less ↦ absurd (l.below (length bytes - further) less (left_at further h))
    | inr more ↦ omega (arith, more, l.is.few, begins_inside further h)
  ]

  stops_somewhere : ((s : Parts) × StateOf bytes s → ⊥) → Undeniable ((place : ℕ) × StateStopsAt bytes place)
  stops_somewhere none =
      with_it (least_one Left (length bytes - 0) (left_at 0 begins_at_once))
      (λ l. (length bytes - l.number, record { none = λ s of. none (s, of); begins = l.is.begins; farthest = farthest_by l }))

-- ---- the rules

abbrev Broken : List Rule → Parts → Type 0
Broken rs s = (n : ℕ) × IsFirstBroken (suc n) rs s

later_rule : (rule : Rule) (rest : List Rule) (s : Parts) → rule s → KeepsAll rest s ⊎ Broken rest s → KeepsAll (rule ∷ rest) s ⊎ Broken (rule ∷ rest) s
later_rule rule rest s kept (inl all) = inl (kept, all)
later_rule rule rest s kept (inr (n, broken)) = inr (suc n, (kept, broken))

rule_by : (rule : Rule) (rest : List Rule) (s : Parts) → Undeniable (KeepsAll rest s ⊎ Broken rest s) → rule s ⊎ (rule s → ⊥)
    → Undeniable (KeepsAll (rule ∷ rest) s ⊎ Broken (rule ∷ rest) s)
rule_by rule rest s others (inl kept) = with_it others (later_rule rule rest s kept)
rule_by rule rest s others (inr breaks) = surely (inr (0, breaks))

kept_or_broken : (rs : List Rule) (s : Parts) → Undeniable (KeepsAll rs s ⊎ Broken rs s)
kept_or_broken [] s = surely (inl tt)
kept_or_broken (rule ∷ rest) s = by_it (either_way (rule s)) (rule_by rule rest s (kept_or_broken rest s))

-- ---- bytes

module _ (bytes : List ℕ) where
  abbrev Fated : Type 0
  Fated = (fate : StateFate) × IsStateFate bytes fate

  fate_of : (s : Parts) → StateOf bytes s → IsAccepted s ⊎ Broken rules s → Fated
  fate_of s of (inl keeps) = (Whole s, whole s of keeps)
  fate_of s of (inr (n, broken)) = (Unfit (suc n), unfit s (suc n) of broken)

  state_by : ((s : Parts) × StateOf bytes s) ⊎ ((s : Parts) × StateOf bytes s → ⊥) → Undeniable Fated
  state_by (inl (s, of)) = with_it (kept_or_broken rules s) (fate_of s of)
  state_by (inr none) = with_it (stops_somewhere bytes none) (λ k. (Stops k.0, stops k.0 k.1))

  pub state_comes : Undeniable Fated
  state_comes = by_it (either_way ((s : Parts) × StateOf bytes s)) state_by

-- ---- what a play goes on from

-- scripts as the machine knows them
record Spelled (parts : List ScriptPart) : Type 0 where
  scripts : List Script
  same : parts ≡ map file_of scripts
  spelled : AreSpelled scripts

spell : (table : EngineTable) (parts : List ScriptPart) → AllByRecursion (λ (x : ScriptPart). IsSound table x.code) parts → Spelled parts
spell table [] h = record { scripts = []; same = refl; spelled = tt }
spell table (part ∷ parts) h =
    let rest = spell table parts h.1 in
    let one : Script = record { name = part.name; code = h.0.ops } in
    let same : part ≡ file_of one = ap (λ (code : List ℕ). record { name = part.name; code = code }) h.0.file.spelled in
    record { scripts = one ∷ rest.scripts; same = ap (λ (p : ScriptPart). p ∷ parts) same ∙ ap (λ ps. file_of one ∷ ps) rest.same; spelled = (h.0.file.code, rest.spelled) }

pub goes_from : (s : Parts) → IsAccepted s → (g : Going) × GoesFrom s g
goes_from s keeps =
    let listed = keeps.1.0 in
    let area = keeps.1.1.0 in
    let code = spell listed.table s.scripts listed.scripts in
    let g : Going = record { table = listed.table; scripts = code.scripts; world = world_of area.tree s } in
    (g, record { header = listed.header; scripts = code.same; spelled = code.spelled; world = record { tree = area.tree; area = area.area; world = refl } })
