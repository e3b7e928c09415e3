-- The text at the end of a play of source texts.
use Rattle.std.specs.Prelude.{◌≡◌, ℕ, List, [], Option, None, Some, slice_get}
use Rattle.saved_state.specs.declared.saved.Saved.{Saved}
use Rattle.world_rules.specs.Plays.{Played}
use Rattle.world_rules.specs.EndText.{end_text}
use Rattle.module_player.specs.CodePlays.{code_end_text}
use Rattle.source_meaning.specs.Evaluation.{Deferred}
use Rattle.source_meaning.specs.Scripts.{Listed, Setting}
use Rattle.source_laws.specs.Ledger.{MachineHost}
use Rattle.source_laws.specs.Carries.{Carries}
use Rattle.source_laws.specs.Executing.{IsHostOf}
use Rattle.play_meaning.specs.Together.{PlaysAlike}

abbrev pub listed_name : Option Listed → List ℕ
listed_name None = []
listed_name (Some l) = l.name

-- the name of the script that deferred a command
abbrev pub deferred_name : Setting → Deferred → List ℕ
deferred_name s d = listed_name (slice_get s.scripts d.script)

-- the text of a play for which so many instructions were made
abbrev pub source_end_text : Setting → ℕ → Played Deferred → List ℕ
source_end_text s count p = end_text (deferred_name s)
    (record { ending = p.ending; last = record p.last { count = count } })

-- The text at the end of a play of code is that of the play of source that goes with it, but for
-- the number of instructions, which only the code has.
abbrev pub EndTextsAgree : Type 0
EndTextsAgree = (s : Setting) (host : MachineHost) → IsHostOf host s
    → (code : Played Saved) (source : Played Deferred) → PlaysAlike (Carries s) code source
    → code_end_text host.scripts code ≡ source_end_text s code.last.count source
