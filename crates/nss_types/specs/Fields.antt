-- The fields of a struct so far.
use Rattle.nss_types.specs.declared.field.Fields.{Fields}
use Rattle.typing_rules.specs.Rules as rules

abbrev pub fields_of : Fields → rules.Fields
fields_of f = record { names = f.names; count = f.count }
