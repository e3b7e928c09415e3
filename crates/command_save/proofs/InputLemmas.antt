-- What is read of the files of a header and an area.
use Rattle.std.proofs.Common.{◌≤◌, ℕ, List, length}
use Rattle.nwq_value.specs.Limits.{file_limit}
use Rattle.area_rules.specs.Area.{PlainArea}
use Rattle.play_inputs.specs.Areas.{TellsArea}
use Rattle.play_save.specs.Rules.{IsAreaOf}

pub area_is : (bytes : List ℕ) (area : PlainArea) → length bytes ≤ file_limit → TellsArea bytes area → IsAreaOf area.tree bytes
area_is bytes area small tells = record { small = small; stands = tells.stands; whole = tells.whole }

pub ruleset inputs = (area_is)
