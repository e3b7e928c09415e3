-- Why a unit is refused.
use Rattle.std.specs.Prelude.{◌≡◌, None, Some}
use Rattle.nwq_value.specs.Engine.{EngineTable}
use Rattle.nss_tree.specs.Source.{SourceTree}
use Rattle.typing_rules.specs.declared.fault.Fault.{Fault}
use Rattle.typing_rules.specs.Meaning.{FaultInUnit}
use Rattle.typing_rules.specs.Nodes.{kept, IsLeast}
use Rattle.typing_rules.specs.Verdicts.{unit_faults}
use Rattle.nss_types.specs.declared.unit.TypeFault.{TypeFault}
use Rattle.nss_types.specs.declared.unit.TypeFault.TheVariants as refused

-- It is a node at fault, and no other one has a lesser token; of those with its token it is the
-- first in the order of the walk, each node behind its parts.
pub record IsKeptFault (table : EngineTable) (u : SourceTree) (f : Fault) : Type 0 where
  pub least : IsLeast (FaultInUnit table u) f
  pub first : kept None (unit_faults table u) ≡ Some f

abbrev pub IsFaultOf : EngineTable → SourceTree → TypeFault → Type 0
IsFaultOf table u (refused.Fault f) = IsKeptFault table u f
IsFaultOf table u refused.NoMemory = Unit {0}
