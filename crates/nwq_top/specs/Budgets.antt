-- How many structs a script has: never as many as the walk that types it can number. The statement
-- stands on the contract of a function of `word_laws`.
use Rattle.std.specs.Prelude.{ℕ, ◌*◌, ◌≤◌, ◌<◌, List}
use Rattle.nwq_value.specs.Limits.{token_limit}
use Rattle.nss_tree.specs.Counts.{in_all, structs_of}
use Rattle.nss_include.specs.Units.{Lookup}
use Rattle.nss_scopes.specs.Entries.{struct_limit}
use Rattle.command_sources.specs.Units.{PlainScript, Whole, IsUnitFate}

-- each takes eight tokens, of which a script has 100,000 at most
pub record HasFewStructs (script : PlainScript) : Type 0 where
  pub tokens : 8 * in_all structs_of script.tree.items ≤ token_limit
  pub budget : in_all structs_of script.tree.items < struct_limit

abbrev pub ScriptsHaveFewStructs : Type 0
ScriptsHaveFewStructs = (lookup : Lookup) (name : List ℕ) (script : PlainScript)
    → IsUnitFate lookup name (Whole script) → HasFewStructs script
