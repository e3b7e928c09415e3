-- What a state goes on from that keeps all rules: its scripts are well stacked, and each captured
-- state fits.
use Rattle.std.proofs.Common.{◌≡◌, ℕ, zero, suc, List, [], ◌∷◌, map, Some, refl, sym, subst, ap}
use Rattle.std.specs.Prelude.{slice_get}
use Rattle.std.specs.List.{AllByRecursion}
use Rattle.nwq_value.specs.Engine.{EngineTable}
use Rattle.ncs_code.specs.Plain.{PlainOp}
use Rattle.ncs_code.specs.File.{IsCode}
use Rattle.machine_rules.specs.Machine.{Script}
use Rattle.stack_rules.specs.Tables.{ShapeTable}
use Rattle.stack_rules.specs.Rules.{MeetsRules}
use Rattle.stack_rules.specs.Fits.{Tables, FitsOne}
use Rattle.stack_rules.specs.Laws.{AllMeet}
use Rattle.ncs_machine.specs.Host.{no_table}
use Rattle.ncs_machine.specs.Stored.{KindFits, ItemFits, EntryFits, ItemsFit, ThingsFit, StatesFit}
use Rattle.state_format.specs.declared.parts.Script.{Script as ScriptPart}
use Rattle.state_format.specs.declared.parts.Captured.{Captured}
use Rattle.state_format.specs.declared.parts.Item.{Item}
use Rattle.state_format.specs.declared.parts.Item.TheVariants as item
use Rattle.state_format.specs.declared.parts.Object.{Object}
use Rattle.state_format.specs.declared.parts.KindPart.{KindPart}
use Rattle.state_format.specs.declared.parts.KindPart.TheVariants as kind
use Rattle.state_format.specs.declared.parts.Entry.{Entry}
use Rattle.state_format.specs.declared.parts.Parts.{Parts}
use Rattle.state_parts.specs.World.{saved_of, item_of, things_of, kind_of, entry_of}
use Rattle.play_save.specs.Rules.{IsSound, ItemHolds, KindHolds, IsCapturedIn, IsAccepted}
use Rattle.command_save.specs.Saves.{file_of, AreSpelled}
use Rattle.command_save.specs.Resumes.{Going, GoesFrom}
use Rattle.command_save.specs.Laws.{StatesGoSafely}
use Rattle.command_save.proofs.OneState.{OneLaws, one_table, one_code}

-- ---- scripts

abbrev AreSound : EngineTable → List Script → Type 0
AreSound table xs = AllByRecursion (λ (x : ScriptPart). IsSound table x.code) (map file_of xs)

-- the table of each script, by its number
table_at : (table : EngineTable) (xs : List Script) → AreSound table xs → ℕ → ShapeTable
table_at table [] h n = no_table
table_at table (x ∷ xs) h zero = h.0.stacked.0
table_at table (x ∷ xs) h (suc n) = table_at table xs h.1 n

meet_at : (laws : OneLaws) (table : EngineTable) (xs : List Script) → AreSpelled xs → (h : AreSound table xs) → AllMeet table xs (table_at table xs h)
unfolding table_at
meet_at laws table [] spelled h n script is = absurd cc
meet_at laws table (x ∷ xs) spelled h zero script is =
    let one : x ≡ script = cc in
    let code : h.0.ops ≡ x.code = one_code laws.spellings h.0.ops x.code h.0.file.code spelled.0 (sym h.0.file.spelled) in
    subst (λ (s : Script). MeetsRules table s.code h.0.stacked.0) one (subst (λ (ops : List PlainOp). MeetsRules table ops h.0.stacked.0) code h.0.stacked.1)
meet_at laws table (x ∷ xs) spelled h (suc n) script is = meet_at laws table xs spelled.1 h.1 n script is

-- the script of a number, and that its code can stand in a file
record IsPartAt (xs : List Script) (n : ℕ) (part : ScriptPart) : Type 0 where
  script : Script
  listed : slice_get xs n ≡ Some script
  same : part ≡ file_of script
  code : IsCode script.code

part_at : (xs : List Script) → AreSpelled xs → (n : ℕ) (part : ScriptPart) → slice_get (map file_of xs) n ≡ Some part → IsPartAt xs n part
part_at [] spelled n part is = absurd cc
part_at (x ∷ xs) spelled zero part is = let same : file_of x ≡ part = cc in record { script = x; listed = refl; same = sym same; code = spelled.0 }
part_at (x ∷ xs) spelled (suc n) part is = let k = part_at xs spelled.1 n part is in record { script = k.script; listed = k.listed; same = k.same; code = k.code }

-- ---- captured states

module _ (s : Parts) (g : Going) (from : GoesFrom s g) (tables : Tables) (meet : AllMeet g.table g.scripts tables) where
  captured_fits : (c : Captured) → IsCapturedIn s c → FitsOne g.scripts tables (saved_of c)
  captured_fits c h =
      let k = part_at g.scripts from.spelled c.script h.script (subst (λ (parts : List ScriptPart). slice_get parts c.script ≡ Some h.script) from.scripts h.listed) in
      record {
        listed = (k.script, k.listed);
        fits = h.fits g.table k.script.code (tables c.script) from.header (record { code = k.code; spelled = ap (λ (p : ScriptPart). p.code) k.same })
            (meet c.script k.script k.listed);
      }

  kind_fits : (k : KindPart) → KindHolds (IsCapturedIn s) k → KindFits g.scripts tables (kind_of k)
  kind_fits (kind.Event o script user) h = tt
  kind_fits (kind.Stored o c) h = captured_fits c h
  kind_fits (kind.Turn o) h = tt
  kind_fits (kind.Unapply o) h = tt

  entries_fit : (entries : List Entry) → AllByRecursion (λ (e : Entry). KindHolds (IsCapturedIn s) e.kind) entries
      → AllByRecursion (EntryFits g.scripts tables) (map entry_of entries)
  entries_fit [] h = tt
  entries_fit (e ∷ entries) h = (kind_fits e.kind h.0, entries_fit entries h.1)

  item_fits : (i : Item) → ItemHolds (IsCapturedIn s) i → ItemFits g.scripts tables (item_of i)
  item_fits (item.Do c) h = captured_fits c h
  item_fits (item.Wait ms) h = tt
  item_fits (item.Speak text) h = tt

  items_fit : (items : List Item) → AllByRecursion (ItemHolds (IsCapturedIn s)) items → ItemsFit g.scripts tables (map item_of items)
  items_fit [] h = tt
  items_fit (i ∷ items) h = (item_fits i h.0, items_fit items h.1)

  objects_fit : (objects : List Object) → AllByRecursion (λ (o : Object). AllByRecursion (ItemHolds (IsCapturedIn s)) o.items) objects
      → AllByRecursion (ThingsFit g.scripts tables) (map things_of objects)
  objects_fit [] h = tt
  objects_fit (o ∷ objects) h = (items_fit o.items h.0, objects_fit objects h.1)

  world_fits : IsAccepted s → StatesFit g.scripts tables g.world
  world_fits accepted =
      let states = accepted.1.1.1.1.1.0 in
      subst (StatesFit g.scripts tables) (sym from.world.world)
      (record { agenda = entries_fit s.agenda states.entries; queues = objects_fit s.objects states.items })

pub states_go_safely : OneLaws → StatesGoSafely
states_go_safely laws s g accepted from =
    let own = accepted.1.0 in
    let same : own.table ≡ g.table = one_table laws s.header own.table g.table own.header from.header in
    let sound : AreSound g.table g.scripts =
    subst (λ (t : EngineTable). AllByRecursion (λ (x : ScriptPart). IsSound t x.code) (map file_of g.scripts)) same
    (subst (λ (parts : List ScriptPart). AllByRecursion (λ (x : ScriptPart). IsSound own.table x.code) parts) from.scripts own.scripts) in
    let meet = meet_at laws g.table g.scripts from.spelled sound in
    record { tables = table_at g.table g.scripts sound; meet = meet; fit = world_fits s g from (table_at g.table g.scripts sound) meet accepted }
