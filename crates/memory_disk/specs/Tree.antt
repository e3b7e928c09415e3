-- What a tree of names stands for.
use Rattle.std.specs.Prelude.{ℕ, map, Vec}
use Rattle.std.specs.BTreeMap.{BTreeMap}
use Rattle.std.specs.FinMap as names
use Rattle.memory_disk.specs.Drive.{Nodes}
use Rattle.memory_disk.specs.declared.node.Node.{Node}

abbrev pub nodes_of : {A : Type 0} → BTreeMap (Vec ℕ A) Node → Nodes
nodes_of held = names.from_entries (map (λ e. (e.0.items, e.1)) held.entries)
