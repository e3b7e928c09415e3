-- One thing comes of the play of a plan.
use Rattle.std.proofs.Common.{ℕ, List}
use Rattle.nwq_value.specs.Engine.{EngineTable}
use Rattle.area_rules.specs.Area.{PlainArea}
use Rattle.area_back.specs.Back.{tree_back}
use Rattle.plan_text.specs.declared.plan.Plan.{Plan}
use Rattle.saved_state.specs.declared.saved.Saved.{Saved}
use Rattle.world_rules.specs.Pure.{CellLookup}
use Rattle.machine_rules.specs.Machine.{Script}
use Rattle.world_rules.specs.Plays as plays
use Rattle.world_rules.specs.Plays.{PlayEnd, Played}
use Rattle.module_player.specs.CodePlays.{code_end_text}
use Rattle.command_work.specs.Outcomes.{IsSure, sure_then, sure_puts}
use Rattle.command_work.specs.Work.{puts}
use Rattle.command_sources.specs.Headers.{table_of_word}
use Rattle.command_sources.specs.Laws.{SureTables}
use Rattle.play_inputs.specs.Areas.{area_named}
use Rattle.play_inputs.specs.Finals.{final_written}
use Rattle.play_inputs.specs.Plans.{plan_named}
use Rattle.play_inputs.specs.Laws.{SureAreas, SurePlans, SureFinals}
use Rattle.play_inputs.specs.Listings.{scripts_listed}
use Rattle.play_inputs.specs.ListingLaws.{SureListed}
use Rattle.play_worlds.specs.Worlds.{plan_world}
use Rattle.command_plays.specs.Plays.{plan_played}
use Rattle.command_play.specs.Games.{ends_by, tells, plays_plan, plays_area, plays_scripts, plays_under, plays as plays_files}
use Rattle.command_play.specs.Laws.{SureGames, SurePlays}

sure_end : SureFinals → (ending : PlayEnd) (to : List ℕ) (area : PlainArea) (text : List ℕ) → IsSure (ends_by ending to area text)
sure_end finals plays.Done to area text = sure_then (final_written to (tree_back area)) (λ done. puts text) (finals to (tree_back area)) (λ done. sure_puts text)
sure_end finals plays.OutOfEntries to area text = tt
sure_end finals plays.StoppedInside to area text = tt
sure_end finals plays.Paused to area text = sure_puts text

sure_tells : SureFinals → (to : List ℕ) (scripts : List Script) (p : Played Saved) → IsSure (tells to scripts p)
sure_tells finals to scripts p = sure_end finals p.ending to p.last.world.area (code_end_text scripts p)

pub sure_games : SureFinals → SureGames
unfolding plays_plan
sure_games finals cell header area plan scripts to = sure_tells finals to scripts (plan_played cell header plan scripts (plan_world area plan))

module _ (tables : SureTables) (listed : SureListed) (areas : SureAreas) (plans : SurePlans) (finals : SureFinals) (cell : CellLookup) where
  sure_area : (header : EngineTable) (area : List ℕ) (plan : Plan) (to : List ℕ) (scripts : List Script) → IsSure (plays_area cell header area plan to scripts)
  unfolding plays_area
  sure_area header area plan to scripts =
      sure_then (area_named area) (λ a. plays_plan cell header a plan scripts to) (areas area) (λ a. sure_games finals cell header a plan scripts to)

  sure_scripts : (area : List ℕ) (plan : Plan) (to : List ℕ) (header : EngineTable) → IsSure (plays_scripts cell area plan to header)
  unfolding plays_scripts
  sure_scripts area plan to header =
      sure_then (scripts_listed header plan.scripts) (plays_area cell header area plan to) (listed header plan.scripts) (sure_area header area plan to)

  sure_under : (header area to : List ℕ) (plan : Plan) → IsSure (plays_under cell header area to plan)
  unfolding plays_under
  sure_under header area to plan = sure_then (table_of_word header) (plays_scripts cell area plan to) (tables header) (sure_scripts area plan to)

  pub sure_files : (header area plan to : List ℕ) → IsSure (plays_files cell header area plan to)
  unfolding plays_files
  sure_files header area plan to = sure_then (plan_named plan) (plays_under cell header area to) (plans plan) (sure_under header area to)

pub sure_plays : SureTables → SureListed → SureAreas → SurePlans → SureFinals → SurePlays
sure_plays tables listed areas plans finals cell header area plan to = sure_files tables listed areas plans finals cell header area plan to
