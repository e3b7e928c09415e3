-- Captured states fit in a world in which nothing but events is planned. No contract speaks of
-- these lemmas: they serve the proofs of the crates above.
use Rattle.std.proofs.Common.{ℕ, zero, suc, Bool, true, false, List, [], ◌∷◌}
use Rattle.std.specs.Prelude.{pos, length, replicate, if◌then◌else◌}
use Rattle.std.specs.List.{AllByRecursion, fold}
use Rattle.area_rules.specs.Area.{PlainArea}
use Rattle.delay_agenda.specs.declared.entry.Entry.{Entry}
use Rattle.delay_agenda.specs.declared.entry.Kind.TheVariants.{Event}
use Rattle.delay_agenda.specs.Order.{put_entry, is_before}
use Rattle.saved_state.specs.declared.saved.Saved.{Saved}
use Rattle.machine_rules.specs.Machine.{Script}
use Rattle.stack_rules.specs.Fits.{Tables}
use Rattle.world_rules.specs.World.{World}
use Rattle.world_rules.specs.Turns.{Planned, idle, new_world, still, with_planned}
use Rattle.ncs_machine.specs.Stored.{StatesFit, EntryFits, ThingsFit}

-- ---- a world in which nothing but events is planned

module _ (scripts : List Script) (tables : Tables) where
  put_by : (first : Bool) (e a : Entry Saved) (rest : List (Entry Saved))
      → EntryFits scripts tables e → EntryFits scripts tables a
      → AllByRecursion (EntryFits scripts tables) rest
      → AllByRecursion (EntryFits scripts tables) (put_entry e rest)
      → AllByRecursion (EntryFits scripts tables)
      (if first then a ∷ put_entry e rest else e ∷ a ∷ rest)
  put_by true e a rest one here all more = (here, more)
  put_by false e a rest one here all more = (one, (here, all))

  pub put_fits : (e : Entry Saved) (entries : List (Entry Saved)) → EntryFits scripts tables e
      → AllByRecursion (EntryFits scripts tables) entries
      → AllByRecursion (EntryFits scripts tables) (put_entry e entries)
  put_fits e [] one all = (one, tt)
  put_fits e (a ∷ rest) one all = put_by (is_before a e) e a rest one all.0 all.1
      (put_fits e rest one all.1)

  planned_fit : (events : List Planned) (w : World Saved) → StatesFit scripts tables w
      → StatesFit scripts tables (fold with_planned w events)
  planned_fit [] w f = f
  planned_fit (e ∷ events) w f = planned_fit events (with_planned w e) (record {
    agenda = put_fits (record {
      due = e.due;
      number = w.agenda.next;
      kind = Event e.object e.script (pos 0);
    }) w.agenda.entries tt f.agenda;
    queues = f.queues;
  })

  pub idle_fit : (n : ℕ) → AllByRecursion (ThingsFit scripts tables) (replicate n idle)
  idle_fit zero = tt
  idle_fit (suc n) = (tt, idle_fit n)

  pub new_fits : (area : PlainArea) (random : List ℕ) (events : List Planned) (version : ℕ)
      → StatesFit scripts tables (new_world area random events version)
  new_fits area random events version = planned_fit events (still area random version)
      (record { agenda = tt; queues = idle_fit (length area.objects) })
