-- The play of one script: its instructions under a header, in a world that has nothing but a start
-- of it.
use Rattle.std.specs.Prelude.{ℕ, List, [], ◌∷◌}
use Rattle.nwq_value.specs.Engine.{EngineTable}
use Rattle.nwq_value.specs.Limits.{default_instruction_limit, default_entry_limit, default_until}
use Rattle.ncs_code.specs.Plain.{PlainOp}
use Rattle.saved_state.specs.declared.saved.Saved.{Saved}
use Rattle.world_rules.specs.Pure.{CellLookup}
use Rattle.world_rules.specs.Trace.{trace_text}
use Rattle.world_rules.specs.World.{World}
use Rattle.machine_rules.specs.Machine.{Script}
use Rattle.world_rules.specs.Plays.{Played}
use Rattle.module_player.specs.CodePlays.{code_play, code_end_text}
use Rattle.command_work.specs.Work.{Work, Puts, then, Finished}
use Rattle.command_files.specs.Checks.{loaded_in}
use Rattle.play_worlds.specs.Worlds.{text_name, first_world}
use Rattle.command_plays.specs.Plays.{host_of, ends_by}

-- ---- the play

-- the one script that is listed
abbrev pub listed : List ℕ → List PlainOp → List Script
listed name ops = record { name = text_name name; code = ops } ∷ []

-- the play from a world on, with the limits that hold where none is set
abbrev pub run_played : CellLookup → EngineTable → List Script → World Saved → Played Saved
run_played cell header scripts w = code_play
    (host_of cell header scripts) default_instruction_limit default_entry_limit default_until w

-- ---- its text

-- the text of the end, after which the command ends as the play did
abbrev pub tells_end : List Script → Played Saved → Work Finished
tells_end scripts p = Puts (code_end_text scripts p) (ends_by p.ending)

-- a play is told by its trace and the text of its end
abbrev pub tells : List Script → Played Saved → Work Finished
tells scripts p = Puts (trace_text p.last.trace) (tells_end scripts p)

-- instructions are played as the one script of this name
unfoldable pub plays_code : CellLookup → EngineTable → List ℕ → List PlainOp → Work Finished
plays_code cell header name ops = tells (listed name ops)
    (run_played cell header (listed name ops) (first_world name))

-- the bytes of a compiled script's file are loaded, checked and played
unfoldable pub plays_file : CellLookup → EngineTable → List ℕ → List ℕ → List ℕ → Work Finished
plays_file cell header name file bytes = then (loaded_in header file bytes)
    (plays_code cell header name)
