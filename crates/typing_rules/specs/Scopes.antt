-- What a body leaves of what stood in sight before it.
use Rattle.std.specs.Prelude.{◌≡◌, List, ◌++◌, length, take}
use Rattle.nss_tree.specs.Source.{SourceStmts, SourceParameter}
use Rattle.typing_rules.specs.Sight.{Entry, Sight}
use Rattle.typing_rules.specs.Verdicts.{afters, after_params}

-- Names come to those before, variables are numbered and counted, labels are seen; nothing else
-- changes.
pub record OnlyAdds (c d : Sight) : Type 0 where
  pub more : List Entry
  pub names : d.names ≡ c.names ++ more
  pub others : d ≡ record c { names = d.names; next = d.next; frame = d.frame; labels = d.labels }

abbrev pub StatementsOnlyAdd : Type 0
StatementsOnlyAdd = (c : Sight) (xs : SourceStmts) → OnlyAdds c (afters c xs)

abbrev pub ParametersOnlyAdd : Type 0
ParametersOnlyAdd = (c : Sight) (ps : List SourceParameter) → OnlyAdds c (after_params c ps)

-- so the names before are found again by their count
abbrev pub NamesStandFirst : Type 0
NamesStandFirst = (c d : Sight) → OnlyAdds c d → take (length c.names) d.names ≡ c.names
