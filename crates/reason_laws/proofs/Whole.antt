-- A fault of a unit of tokens has its reason.
use Rattle.std.proofs.Common.{refl}
use Rattle.nwq_value.specs.Engine.{EngineTable}
use Rattle.nss_tree.specs.Source.{SourceTree}
use Rattle.typing_rules.specs.Laws.{FaultsAreListed}
use Rattle.typing_rules.specs.Nodes.{no_parts}
use Rattle.typing_rules.specs.Rules.{entry_rows, entry_rule}
use Rattle.typing_rules.specs.Sight.{start}
use Rattle.typing_rules.specs.Verdicts.{heads, unit_faults}
use Rattle.nss_reasons.specs.Reasons.{unit_nodes}
use Rattle.reason_laws.specs.Laws.{EachFaultHasItsReason}
use Rattle.reason_laws.proofs.Told.{Each, each_both, each_silent}
use Rattle.reason_laws.proofs.Counting.{found_of_one, nodes_once}
use Rattle.reason_laws.proofs.Once.{within_items}
use Rattle.reason_laws.proofs.Trees.{each_items}

each_of_unit : (table : EngineTable) (u : SourceTree) → Each (unit_faults table u) (unit_nodes table u)
each_of_unit table u =
    let hs = heads table u.items in
    each_both (each_items hs (start table) u.items) (each_silent u.count entry_rows (entry_rule hs) (λ p. refl) no_parts)

pub each_fault_has_its_reason : FaultsAreListed → EachFaultHasItsReason
each_fault_has_its_reason listed table tokens u f parses at joined =
    found_of_one f.token f.kind (unit_nodes table u) ((each_of_unit table u).by f joined ((listed table u f).1 at))
    (nodes_once tokens (within_items (heads table u.items) (start table) parses.items) f.token)
