-- What plays that run no script come to, computed.
use Rattle.std.proofs.Common.{◌≡◌, ℕ, List, [], ◌∷◌, refl}
use Rattle.std.specs.Prelude.{codes}
use Rattle.std.specs.Fmt.{digits}
use Rattle.nwq_value.specs.Engine.{EngineTable}
use Rattle.area_back.specs.Back.{tree_back}
use Rattle.area_rules.specs.Area.{empty_area}
use Rattle.plan_text.specs.declared.plan.Line.{Line}
use Rattle.plan_text.specs.declared.plan.Line.TheVariants as line
use Rattle.plan_text.specs.declared.plan.Plan.{Plan}
use Rattle.nwq_text.specs.Escape.{escaped, spelling}
use Rattle.world_rules.specs.Pure.{CellLookup}
use Rattle.world_rules.specs.Trace.{line_text, trace_text}
use Rattle.world_rules.specs.EndText.{end_text, world_text}
use Rattle.ncs_machine.specs.Host.{host}
use Rattle.module_player.specs.CodePlays.{code_runner}
use Rattle.command_work.specs.declared.status.Status.TheVariants.{Limit}
use Rattle.command_work.specs.Work.{Puts, Ends, then, puts}
use Rattle.play_inputs.specs.Finals.{final_written}
use Rattle.command_play.specs.Games.{plays_plan}

abbrev plan : List Line → Plan
plan events = record { version = 1; limit = 7; entries = 1; until = 60000; random = []; scripts = []; events = events }

-- nothing is due: the play is done, and the area is left before the end is told
done_play : (cell : CellLookup) (header : EngineTable) (to : List ℕ)
    → plays_plan cell header empty_area (plan []) [] to
    ≡ Puts [] (then (final_written to (tree_back empty_area)) (λ done. puts (codes "end done clock 0 entries 0 instructions 0\n")))
unfolding plays_plan trace_text end_text world_text digits
done_play cell header to = refl

-- one entry may be taken, and a further one is due: no area is left
full_play : (cell : CellLookup) (header : EngineTable) (to : List ℕ)
    → plays_plan cell header empty_area (plan (line.Free 0 (codes "a") ∷ line.Free 5 (codes "b") ∷ [])) [] to
    ≡ Puts (codes "0 #0 noscript a\n") (Puts (codes "due 5 1 event #0 b\nend entries clock 0 entries 1 instructions 0\n") (Ends Limit))
unfolding plays_plan code_runner host trace_text line_text end_text world_text digits escaped spelling
full_play cell header to = refl
