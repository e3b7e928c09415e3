-- What is known of hooks. Closures are no part of what a clause says.
use Rattle.std.specs.Prelude.{List, map}
use Rattle.hook_table.specs.declared.hook.Known.{Known}
use Rattle.hook_table.specs.declared.hooks.Hooks.{Hooks}

abbrev pub known_by : {X : Type 0} {P : X → Type 0} {C : _} → Hooks X P C → List Known
known_by hooks = map (λ h. h.known) hooks.all.items
