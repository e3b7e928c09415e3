-- Statements about areas and plans. Each stands on the contract of a function of `laws`.
use Rattle.std.specs.Prelude.{ℕ, List}
use Rattle.gff_tree.specs.Whole.{PlainGff}
use Rattle.command_work.specs.Outcomes.{IsSure}
use Rattle.play_inputs.specs.Areas.{area_named}
use Rattle.play_inputs.specs.Plans.{plan_named}
use Rattle.play_inputs.specs.Finals.{final_written}

-- what the files hold decides what comes of an area and of a plan
abbrev pub SureAreas : Type 0
SureAreas = (name : List ℕ) → IsSure (area_named name)

abbrev pub SurePlans : Type 0
SurePlans = (name : List ℕ) → IsSure (plan_named name)

-- and a tree what comes of its file
abbrev pub SureFinals : Type 0
SureFinals = (name : List ℕ) (tree : PlainGff) → IsSure (final_written name tree)
