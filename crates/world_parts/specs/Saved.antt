-- A world put together of what is saved of it.
use Rattle.std.specs.Prelude.{[], pos}
use Rattle.area_rules.specs.Area.{PlainArea}
use Rattle.world_rules.specs.World.{World}
use Rattle.world_parts.specs.declared.saved.WorldParts.{WorldParts}

-- no lines are kept, and no event runs
abbrev pub put_together : {X : Type 0} → PlainArea → WorldParts X → World X
put_together area p = record {
  clock = p.clock;
  area = area;
  things = p.objects;
  agenda = p.agenda.waiting;
  trace = [];
  random = p.random;
  user = pos 0;
  version = p.version;
}
