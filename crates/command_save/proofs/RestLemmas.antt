-- A play that was saved and resumed tells what the unbroken one tells.
use Rattle.std.proofs.Common.{arith, ◌≡◌, ◌≢◌, ◌+◌, ◌-◌, ℕ, true, false, inl, inr, List, [], ◌∷◌, ◌++◌, map, Option, Some, None, Result, Ok, Err, refl, ap, sym, subst, ◌∙◌}
use Rattle.std.specs.Prelude.{min, fold, IsOk}
use Rattle.std.proofs.Math.Nat.{min-le_right}
use Rattle.std.proofs.lemmas.Grind.{flat_map-append}
use Rattle.nwq_outside.specs.Outside.{Contents, content}
use Rattle.gff_write.specs.declared.fault.WriteFault.{WriteFault}
use Rattle.gff_write.specs.declared.fault.WriteFault.TheVariants as write_fault
use Rattle.gff_write.specs.File.{written, outcome_of}
use Rattle.area_back.specs.Back.{tree_back}
use Rattle.area_rules.specs.Area.{PlainArea}
use Rattle.plan_text.specs.declared.plan.Plan.{Plan}
use Rattle.saved_state.specs.declared.saved.Saved.{Saved}
use Rattle.world_rules.specs.declared.data.Line.{Line}
use Rattle.world_rules.specs.Trace.{line_text, trace_text}
use Rattle.world_rules.specs.EndText.{world_text, end_text}
use Rattle.world_rules.specs.World.{World}
use Rattle.world_rules.specs.Turns.{Planned, with_planned, still}
use Rattle.world_rules.specs.Plays as plays
use Rattle.world_rules.specs.Plays.{PlayEnd, Runner, Bounds, Played, unplayed, plays as plays_from}
use Rattle.machine_rules.specs.Machine.{Script, Host}
use Rattle.module_player.specs.CodePlays.{code_runner, code_play_on}
use Rattle.play_worlds.specs.Worlds.{begun_by, plan_world}
use Rattle.command_work.specs.declared.status.Status.{Status}
use Rattle.command_work.specs.declared.status.Status.TheVariants.{Limit}
use Rattle.command_work.specs.declared.flaw.AreaFlaw.TheVariants as flaw
use Rattle.command_work.specs.Refusal.{Refusal, BadArea, line_of, status_of}
use Rattle.command_work.specs.Work.{Refused, Ends, Writes, Puts, then, Finished, IsCut, Does, puts, writes}
use Rattle.play_inputs.specs.Finals.{final_by, final_written}
use Rattle.command_play.specs.Games.{ends_by, tells_end}
use Rattle.play_save.specs.States.{resting}
use Rattle.command_save.proofs.GoingLemmas.{on, left_of, IsRestOf, left_goes, rests, on_ends, stays_quiet, stops_same}
use Rattle.command_save.proofs.ReadLemmas.{held_here}

-- ---- the plays

planned_quiet : (events : List Planned) (w : World Saved) → w.trace ≡ [] → (fold with_planned w events).trace ≡ []
planned_quiet [] w quiet = quiet
planned_quiet (e ∷ events) w quiet = planned_quiet events (with_planned w e) quiet

-- a plan's world keeps no line
pub plan_quiet : (area : PlainArea) (plan : Plan) → (plan_world area plan).trace ≡ []
plan_quiet area plan = planned_quiet (map (begun_by area) plan.events) (still area plan.random plan.version) refl

module _ (host : Host (World Saved)) (limit entries until n : ℕ) (w : World Saved) (quiet : w.trace ≡ []) where
  abbrev first : Played Saved
  first = code_play_on host limit entries until (min n entries) 0 0 w

  abbrev rest : Played Saved
  rest = code_play_on host limit entries until (entries + 1) first.last.entries first.last.count (resting first.last.world)

  abbrev bounds : Bounds
  bounds = record { entries = entries; until = until; stop = entries + 1 }

  -- the first part, whatever the bound at which it was broken off
  abbrev begun : Played Saved
  begun = plays_from (code_runner host limit) bounds (min n entries) (unplayed w)

  none_less : min n entries - 0 ≡ min n entries
  none_less = omega arith

  first_is : first ≡ begun
  first_is =
      ap (λ (k : ℕ). plays_from (code_runner host limit) (record { entries = entries; until = until; stop = min n entries }) k (unplayed w)) none_less
      ∙ stops_same (code_runner host limit) entries until (min n entries) (entries + 1) (min n entries) (unplayed w)

  abbrev IsRest : Played Saved → Type 0
  IsRest f = IsRestOf (code_runner host limit) bounds f.last.trace (on (code_runner host limit) bounds (unplayed w))
      (on (code_runner host limit) bounds (left_of (code_runner host limit) bounds f.last))

  -- the unbroken play is what was told before, and the rest
  pub goes : first.ending ≢ plays.StoppedInside → IsRest first
  goes whole =
      subst IsRest (sym first_is)
      (subst (λ (p : Played Saved). IsRestOf (code_runner host limit) bounds begun.last.trace p (on (code_runner host limit) bounds (left_of (code_runner host limit) bounds begun.last)))
      (sym (rests (code_runner host limit) bounds (min n entries) (unplayed w) (omega (arith, min-le_right n entries)) (subst (λ (p : Played Saved). p.ending ≢ plays.StoppedInside) first_is whole)))
      (left_goes (code_runner host limit) bounds begun.last (stays_quiet (code_runner host limit) bounds (min n entries) (unplayed w) quiet)))

  pub never_paused : (on (code_runner host limit) bounds (unplayed w)).ending ≢ plays.Paused
  never_paused = on_ends (code_runner host limit) bounds (unplayed w) (omega arith)

-- ---- what is told of both

trace_more : (first rest : List Line) → trace_text (first ++ rest) ≡ trace_text first ++ trace_text rest
unfolding trace_text
trace_more first rest = flat_map-append line_text first rest

module _ (runner : Runner Saved) (bounds : Bounds) (scripts : List Script) (to : List ℕ) (front : List Line) (whole rest : Played Saved) (is : IsRestOf runner bounds front whole rest) where
  pub trace_parts : trace_text whole.last.trace ≡ trace_text front ++ trace_text rest.last.trace
  trace_parts = ap (λ (p : Played Saved). trace_text p.last.trace) is.is ∙ trace_more front rest.last.trace

  -- the end tells nothing but what both have
  pub end_does : (r : Result Finished Status) (c c' : Contents) (t t' : List ℕ) → Does (tells_end to scripts whole) c t r c' t' → Does (tells_end to scripts rest) c t r c' t'
  unfolding end_text world_text
  end_does r c c' t t' does = subst (λ (p : Played Saved). Does (tells_end to scripts p) c t r c' t') is.is does

  pub same_ending : whole.ending ≡ rest.ending
  same_ending = ap (λ (p : Played Saved). p.ending) is.is

-- ---- the same end from two contents

-- what a work answered that puts this last, and what it left under a name where it was done
pub record Ended (to : List ℕ) (answer : Result Finished Status) (put : List ℕ) (found : Option (List ℕ)) (t : List ℕ) (r : Result Finished Status) (c' : Contents) (t' : List ℕ) : Type 0 where
  pub is : r ≡ answer
  pub taken : t' ≡ t ++ put
  pub left : IsOk answer → content c' to ≡ found

pub record EndAlike (to : List ℕ) (c2 c3 : Contents) (t t2 u u3 : List ℕ) (r s : Result Finished Status) : Type 0 where
  pub put : List ℕ
  pub first : t2 ≡ t ++ put
  pub second : u3 ≡ u ++ put
  pub answer : r ≡ s
  pub area : IsOk s → content c2 to ≡ content c3 to

both : (to : List ℕ) (answer : Result Finished Status) (put : List ℕ) (found : Option (List ℕ)) (c2 c3 : Contents) (t t2 u u3 : List ℕ) (r s : Result Finished Status)
    → Ended to answer put found t r c2 t2 → Ended to answer put found u s c3 u3 → EndAlike to c2 c3 t t2 u u3 r s
both to answer put found c2 c3 t t2 u u3 r s a b = record {
  put = put;
  first = a.taken;
  second = b.taken;
  answer = a.is ∙ sym b.is;
  area = λ ok. let done = subst IsOk b.is ok in a.left done ∙ sym (b.left done);
}

limit_ended : (to text : List ℕ) (c c' : Contents) (t t' : List ℕ) (r : Result Finished Status) → (IsCut r → ⊥) → Does {A = Finished} (Puts text (Ends Limit)) c t r c' t'
    → Ended to (Err Limit) text None t r c' t'
limit_ended to text c c' t t' r whole (inl x) = absurd (whole x.0)
limit_ended to text c c' t t' r whole (inr (is, s)) = record { is = is; taken = s.1; left = λ ok. let no : false ≡ true = ok in absurd cc }

refusal_ended : (to : List ℕ) (why : Refusal) (c c' : Contents) (t t' : List ℕ) (r : Result Finished Status) → (IsCut r → ⊥) → Does {A = Finished} (Refused why) c t r c' t'
    → Ended to (Err (status_of why)) (line_of why) None t r c' t'
refusal_ended to why c c' t t' r whole (inl is, s) = record { is = is.0; taken = is.1; left = λ ok. let no : false ≡ true = ok in absurd cc }
refusal_ended to why c c' t t' r whole (inr x, s) = absurd (whole x.0)

write_ended : (to bytes text : List ℕ) (c c' : Contents) (t t' : List ℕ) (r : Result Finished Status) → (IsCut r → ⊥)
    → Does (Writes to bytes (puts text)) c t r c' t' → Ended to (Ok tt) text (Some bytes) t r c' t'
unfolding puts
write_ended to bytes text c c' t t' r whole (inl x) = absurd (whole x.0)
write_ended to bytes text c c' t t' r whole (inr (inl x)) = absurd (whole x.0)
write_ended to bytes text c c' t t' r whole (inr (inr (is, s))) = record { is = is; taken = s.1; left = λ ok. held_here c c' to bytes s.0 }

module _ (to text : List ℕ) (c d c2 c3 : Contents) (t t2 u u3 : List ℕ) (r s : Result Finished Status) (whole : IsCut r → ⊥) (whole_too : IsCut s → ⊥) where
  large_alike : (why : Refusal) → Does {A = Finished} (Refused why) c t r c2 t2 → Does {A = Finished} (Refused why) d u s c3 u3 → EndAlike to c2 c3 t t2 u u3 r s
  large_alike why a b = both to (Err (status_of why)) (line_of why) None c2 c3 t t2 u u3 r s (refusal_ended to why c c2 t t2 r whole a) (refusal_ended to why d c3 u u3 s whole_too b)

  final_alike : (outcome : Result (List ℕ) WriteFault) → Does (then (final_by to outcome) (λ done. puts text)) c t r c2 t2
      → Does (then (final_by to outcome) (λ done. puts text)) d u s c3 u3 → EndAlike to c2 c3 t t2 u u3 r s
  unfolding writes
  final_alike (Ok bytes) a b =
      both to (Ok tt) text (Some bytes) c2 c3 t t2 u u3 r s (write_ended to bytes text c c2 t t2 r whole a) (write_ended to bytes text d c3 u u3 s whole_too b)
  final_alike (Err (write_fault.Large size)) a b = large_alike (BadArea to (flaw.Large size)) a b
  final_alike (Err write_fault.NoMemory) (is, p) b = absurd (whole (subst IsCut (sym is) tt))

  limit_alike : Does {A = Finished} (Puts text (Ends Limit)) c t r c2 t2 → Does {A = Finished} (Puts text (Ends Limit)) d u s c3 u3 → EndAlike to c2 c3 t t2 u u3 r s
  limit_alike a b = both to (Err Limit) text None c2 c3 t t2 u u3 r s (limit_ended to text c c2 t t2 r whole a) (limit_ended to text d c3 u u3 s whole_too b)

  pub ends_alike : (ending : PlayEnd) (area : PlainArea) → ending ≢ plays.Paused → Does (ends_by ending to area text) c t r c2 t2 → Does (ends_by ending to area text) d u s c3 u3
      → EndAlike to c2 c3 t t2 u u3 r s
  unfolding final_written
  ends_alike plays.Done area ends a b = final_alike (outcome_of (written (tree_back area))) a b
  ends_alike plays.OutOfEntries area ends a b = limit_alike a b
  ends_alike plays.StoppedInside area ends a b = limit_alike a b
  ends_alike plays.Paused area ends a b = absurd (ends refl)
