-- What lines of plans begin, computed over an area whose one creature is tagged `guard`, with the
-- heartbeat `tick`.
use Rattle.std.proofs.Common.{◌≡◌, [], ◌∷◌, refl}
use Rattle.std.specs.Prelude.{codes}
use Rattle.area_rules.specs.Area.{PlainArea, empty_tree}
use Rattle.area_rules.specs.Objects.{AreaObject}
use Rattle.plan_text.specs.declared.plan.Line.TheVariants as line
use Rattle.play_worlds.specs.Worlds.{begun_by}

abbrev guard : AreaObject
guard = record { tag = codes "guard"; vars = []; scripts = record { label = codes "ScriptHeartbeat"; name = codes "tick" } ∷ [] }

abbrev guarded : PlainArea
guarded = record { tree = empty_tree; objects = guard ∷ [] }

heartbeat : begun_by guarded (line.Event 6000 0 (codes "ScriptHeartbeat") (codes "guard")) ≡ record { due = 6000; object = 1; script = codes "tick" }
heartbeat = refl

-- a field that isn't there names no script, and an object that isn't there is none
no_field : begun_by guarded (line.Event 0 0 (codes "ScriptDeath") (codes "guard")) ≡ record { due = 0; object = 1; script = [] }
no_field = refl

no_event : begun_by guarded (line.Event 0 1 (codes "ScriptHeartbeat") (codes "guard")) ≡ record { due = 0; object = 0; script = [] }
no_event = refl

-- a start keeps its script, also where its object isn't there
start : begun_by guarded (line.Start 0 0 (codes "a") (codes "guard")) ≡ record { due = 0; object = 1; script = codes "a" }
start = refl

no_start : begun_by guarded (line.Start 0 0 (codes "a") (codes "ghost")) ≡ record { due = 0; object = 0; script = codes "a" }
no_start = refl

free_start : begun_by guarded (line.Free 5 (codes "p")) ≡ record { due = 5; object = 0; script = codes "p" }
free_start = refl
