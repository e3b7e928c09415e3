-- What is in sight once a scope is left.
use Rattle.std.specs.Prelude.{◌≡◌}
use Rattle.nwq_value.specs.Engine.{EngineTable}
use Rattle.typing_rules.specs.Scopes.{OnlyAdds}
use Rattle.typing_rules.specs.Sight.{left}
use Rattle.typing_rules.specs.Sight as spec
use Rattle.nss_scopes.specs.declared.sight.Sight.{Sight}
use Rattle.nss_scopes.specs.declared.sight.Mark.{Mark}
use Rattle.nss_scopes.specs.Views.{in_sight, left_by, mark_of}

-- A scope begins with the names, structs and functions before it, and what stands in it only adds
-- to them. Once it is left by its mark all is as before it, but for the numbers of variables.
abbrev pub ScopesAreLeft : Type 0
ScopesAreLeft = (table : EngineTable) (before inside behind : Sight) (mark : Mark)
    (entered walked : spec.Sight)
    → entered.names ≡ before.names → entered.structs ≡ before.structs → entered.seen ≡ before.seen
    → entered.table ≡ table → OnlyAdds entered walked
    → behind ≡ left_by mark inside → mark ≡ mark_of before → in_sight table inside ≡ walked
    → in_sight table behind ≡ left (in_sight table before) walked
