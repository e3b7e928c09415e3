-- Listed typed units, their code and their source, played from worlds that are alike.
use Rattle.std.proofs.Common.{refl, sym, ap, ◌∙◌}
use Rattle.nwq_value.specs.Engine.{IsTable}
use Rattle.module_player.specs.CodePlays.{code_end_text}
use Rattle.ncs_machine.specs.Host.{host}
use Rattle.source_meaning.specs.Scripts.{Setting}
use Rattle.source_laws.specs.Executing.{IsHostOf}
use Rattle.source_laws.specs.Listed.{AreReady}
use Rattle.play_meaning.specs.EndTexts.{EndTextsAgree}
use Rattle.play_meaning.specs.PlaysRun.{SourcePlaysEnd, CodePlaysEnd}
use Rattle.play_meaning.specs.TypedScripts.{TypedScriptsAreReady}
use Rattle.command_meaning.specs.Units.{TablesAnswerInTypes}
use Rattle.command_meaning.specs.ListedPlays.{AreUnitsOf, machine_of, ListedPlaysEnd, ListedPlaysStop, ListedTextsAgree}

-- the machine of a setting
hosts : (s : Setting) → IsHostOf (machine_of s) s
unfolding host
hosts s = record {
  scripts = refl;
  table = refl;
  engine = record { value = λ n caller values a w. refl; world = λ n caller values a w. refl };
  tests = λ caller target w. refl;
  unlisted = λ target name w. refl;
  deep = λ target name w. refl;
}

pub listed_texts_agree : EndTextsAgree → ListedTextsAgree
listed_texts_agree texts s code source alike =
    let of : IsHostOf (machine_of s) s = hosts s in
    ap (λ scripts. code_end_text scripts code) (sym of.scripts) ∙ texts s (machine_of s) of code source alike

module _ (answers : TablesAnswerInTypes) (ready : TypedScriptsAreReady) where
  are_ready : (s : Setting) → IsTable s.table → AreUnitsOf s.table s.scripts → AreReady s
  are_ready s table units = ready s table (λ script l is.
      let u = units script l is in
      record { tokens = u.tokens; tree = u.tree; parses = u.parses; types = u.types })

  pub listed_plays_end : SourcePlaysEnd → ListedPlaysEnd
  listed_plays_end ends s table units n limit bounds large w v alike =
      ends s (machine_of s) (hosts s) (answers s.table s.tables table) (are_ready s table units) n limit bounds large w v alike

  pub listed_plays_stop : CodePlaysEnd → ListedPlaysStop
  listed_plays_stop stops s table units limit bounds w v alike =
      stops s (machine_of s) (hosts s) (answers s.table s.tables table) (are_ready s table units) limit bounds w v alike
