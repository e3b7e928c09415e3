-- The state that is taken of a play keeps all rules, and tells its world.
use Rattle.std.proofs.Common.{◌≡◌, ℕ, List, [], ◌∷◌, map, sym, ap, refl, ◌∙◌, subst}
use Rattle.std.specs.Prelude.{pos, Option}
use Rattle.std.specs.List.{AllByRecursion}
use Rattle.ncs_code.specs.File.{IsCode}
use Rattle.area_rules.specs.Objects.{AreaObject, objects_of}
use Rattle.area_rules.specs.Area.{PlainArea, IsArea, bare}
use Rattle.delay_agenda.specs.declared.entry.Entry.{Entry}
use Rattle.saved_state.specs.declared.saved.Saved.{Saved}
use Rattle.world_rules.specs.declared.data.Things.{Things}
use Rattle.world_rules.specs.World.{World}
use Rattle.world_rules.specs.Kept.{IsWorld}
use Rattle.world_parts.specs.declared.saved.WorldParts.{WorldParts}
use Rattle.world_parts.specs.Saved.{put_together}
use Rattle.ncs_machine.specs.declared.scripts.Loaded.{Loaded}
use Rattle.state_format.specs.declared.parts.Object.{Object}
use Rattle.state_format.specs.declared.parts.Parts.{Parts}
use Rattle.plan_text.specs.Plans.{Limits}
use Rattle.state_parts.specs.World.{variables_of, with_variables, things_of, entries_of, area_from, world_of}
use Rattle.play_save.specs.Scripts.{script_parts}
use Rattle.play_save.specs.Rules.{IsAreaOf, IsAccepted}
use Rattle.play_save.specs.States.{resting, MayLimit, MayList, MayRest, MayCount, IsPlayOf, HasCome, IsWorldOf}
use Rattle.play_save.specs.Keeping.{Tells}
use Rattle.play_save.proofs.CapturedLemmas.{Laws}
use Rattle.play_save.proofs.Accepting.{header_there, scripts_there, area_there, limits_kept, agenda_there, states_there, turns_there}

-- ---- lines and a running event don't matter

rests_too : (scripts : List Loaded) (area : List ℕ) (w : World Saved) → MayRest scripts area w → MayRest scripts area (resting w)
rests_too scripts area w may = record {
  file = may.file;
  version = may.version;
  random = may.random;
  next = may.next;
  due = may.due;
  turns = may.turns;
  idle = may.idle;
  fit = record { agenda = may.fit.agenda; queues = may.fit.queues };
}

pub world_too : (w : World Saved) → IsWorld w → IsWorld (resting w)
world_too w is = record { counted = is.counted; agenda = is.agenda; placed = is.placed; due = is.due; turns = is.turns }

count_too : (limits : Limits) (w : World Saved) (taken done : ℕ) → MayCount limits w taken done → MayCount limits (resting w) taken done
count_too limits w taken done may = record { entries = may.entries; clock = may.clock; instructions = may.instructions }

-- ---- all rules

pub accepted : (s : Parts) (header : Option (List ℕ)) (scripts : List Loaded) (area : List ℕ) (limits : Limits) (taken done : ℕ) (w : World Saved) (objects : PlainArea) (parts : WorldParts Saved)
    → Laws → IsPlayOf s header (script_parts scripts) area limits → HasCome s taken done → MayLimit limits → MayList header scripts → MayRest scripts area w → MayCount limits w taken done
    → AllByRecursion (λ (l : Loaded). IsCode l.code.code) scripts → IsArea objects → IsWorld w → put_together objects parts ≡ resting w → Tells s (put_together objects parts) → IsAccepted s
accepted s header scripts area limits taken done w objects parts laws play come limited listed rests counted code is world same told =
    let tells : Tells s (resting w) = subst (Tells s) same told in
    let kept : IsArea w.area = subst IsArea (ap (λ (x : World Saved). x.area) same) is in
    let may = rests_too scripts area w rests in
    let whole = world_too w world in (
      header_there s header scripts play.header listed,
      (
        scripts_there s header scripts play.header play.scripts listed code,
        (
          area_there s scripts area (resting w) play.area may kept whole tells,
          (
            limits_kept s header scripts area limits taken done (resting w) play come limited listed may (count_too limits w taken done counted) kept tells,
            (
              agenda_there s (resting w) whole tells,
              (
                states_there s header scripts area (resting w) laws play.header play.scripts listed code may tells,
                (turns_there s scripts area (resting w) may tells, tt),
              ),
            ),
          ),
        ),
      ),
    )

-- ---- the very world

objects_told : (xs os : List AreaObject) (ps : List Object) → map bare xs ≡ map bare os → map variables_of ps ≡ map (λ (o : AreaObject). o.vars) xs → xs ≡ with_variables os ps
objects_told [] [] [] same told = refl
objects_told [] [] (p ∷ ps) same told = absurd cc
objects_told [] (o ∷ os) ps same told = absurd cc
objects_told (x ∷ xs) [] ps same told = absurd cc
objects_told (x ∷ xs) (o ∷ os) [] same told = absurd cc
objects_told (x ∷ xs) (o ∷ os) (p ∷ ps) same told =
    let here : bare x ≡ bare o = cc in
    let rest : map bare xs ≡ map bare os = cc in
    let own : variables_of p ≡ x.vars = cc in
    let others : map variables_of ps ≡ map (λ (y : AreaObject). y.vars) xs = cc in
    ap (λ (b : AreaObject). record b { vars = x.vars } ∷ xs) here ∙ ap (λ (v : List _). record o { vars = v } ∷ xs) (sym own)
    ∙ ap (λ (l : List AreaObject). record o { vars = variables_of p } ∷ l) (objects_told xs os ps rest others)

abbrev made : ℕ → PlainArea → List (Things Saved) → List (Entry Saved) → ℕ → List ℕ → ℕ → World Saved
made clock area things entries next random version = record {
  clock = clock;
  area = area;
  things = things;
  agenda = record { entries = entries; next = next };
  trace = [];
  random = random;
  user = pos 0;
  version = version;
}

pub world_saved : (s : Parts) (w : World Saved) → map bare w.area.objects ≡ map bare (objects_of w.area.tree.top) → Tells s (resting w) → resting w ≡ world_of w.area.tree s
world_saved s w is tells =
    let area : w.area ≡ area_from w.area.tree s =
    ap (λ (l : List AreaObject). record w.area { objects = l }) (objects_told w.area.objects (objects_of w.area.tree.top) s.objects is tells.objects.variables) in
    ap (λ (n : ℕ). made n w.area w.things w.agenda.entries w.agenda.next w.random w.version) (sym tells.clock)
    ∙ ap (λ (a : PlainArea). made s.clock a w.things w.agenda.entries w.agenda.next w.random w.version) area
    ∙ ap (λ (l : List (Things Saved)). made s.clock (area_from w.area.tree s) l w.agenda.entries w.agenda.next w.random w.version) (sym tells.objects.kept)
    ∙ ap (λ (l : List (Entry Saved)). made s.clock (area_from w.area.tree s) (map things_of s.objects) l w.agenda.next w.random w.version) (sym tells.entries)
    ∙ ap (λ (n : ℕ). made s.clock (area_from w.area.tree s) (map things_of s.objects) (entries_of s) n w.random w.version) (sym tells.next)
    ∙ ap (λ (l : List ℕ). made s.clock (area_from w.area.tree s) (map things_of s.objects) (entries_of s) s.next l w.version) (sym tells.random)
    ∙ ap (λ (n : ℕ). made s.clock (area_from w.area.tree s) (map things_of s.objects) (entries_of s) s.next s.random n) (sym tells.version)

pub world_is : (s : Parts) (scripts : List Loaded) (area : List ℕ) (w : World Saved) (objects : PlainArea) (parts : WorldParts Saved) → s.area ≡ area → MayRest scripts area w → IsArea objects
    → put_together objects parts ≡ resting w → Tells s (put_together objects parts) → IsWorldOf s (resting w)
world_is s scripts area w objects parts file rests is same told = record {
  tree = w.area.tree;
  area = subst (IsAreaOf w.area.tree) (sym file) rests.file;
  world = world_saved s w (subst IsArea (ap (λ (x : World Saved). x.area) same) is).same (subst (Tells s) same told);
}
