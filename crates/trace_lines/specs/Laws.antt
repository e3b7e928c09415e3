-- Statements about the lines that plays tell. Each stands on the contract of a function of `laws`.
use Rattle.std.specs.Prelude.{◌≡◌, ℕ, List, length}
use Rattle.nwq_value.specs.Engine.{EngineTable}
use Rattle.nwq_value.specs.HeaderTable.{header_table}
use Rattle.engine_table.specs.Headers.{HasTable}
use Rattle.area_rules.specs.Area.{PlainArea}
use Rattle.machine_rules.specs.Machine.{Script}
use Rattle.world_rules.specs.declared.data.Line.{Line}
use Rattle.world_rules.specs.Trace.{trace_text}
use Rattle.world_rules.specs.Turns.{Planned, new_world}
use Rattle.ncs_machine.specs.Host.{EngineView, host}
use Rattle.module_player.specs.CodePlays.{code_play}
use Rattle.trace_lines.specs.Lines.{newlines, HasPlainNames, AreOneLines}

-- Where no routine's name has a newline, each line that a play tells is one line of text.
abbrev pub PlaysTellLines : Type 0
PlaysTellLines =
    (scripts : List Script) (e : EngineView) (limit entries until : ℕ) (area : PlainArea)
    (random : List ℕ) (events : List Planned) (version : ℕ)
    → HasPlainNames e.table → AreOneLines
    (code_play (host scripts e) limit entries until
    (new_world area random events version)).last.trace

-- So the text of a trace has as many newlines as the trace has lines.
abbrev pub NewlinesCountLines : Type 0
NewlinesCountLines = (lines : List Line) → AreOneLines lines
    → newlines (trace_text lines) ≡ length lines

-- No function of a header has one: neither of a text that is one, nor of the built-in one.
abbrev pub HeaderNamesArePlain : Type 0
HeaderNamesArePlain = (bytes : List ℕ) (table : EngineTable) → HasTable bytes table
    → HasPlainNames table

abbrev pub BuiltInNamesArePlain : Type 0
BuiltInNamesArePlain = HasPlainNames header_table
