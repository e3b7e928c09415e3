-- The rows that the code keeps, as signatures.
use Rattle.nwq_value.specs.declared.roles.Row.{Row}
use Rattle.nwq_value.specs.Roles.{Signature}

abbrev pub row_signature : Row → Signature
row_signature r = record { name = r.name.now; gives = r.gives; takes = r.takes.now; role = r.role }
