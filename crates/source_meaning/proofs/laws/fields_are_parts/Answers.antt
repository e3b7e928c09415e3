use Rattle.source_meaning.proofs.Fields.{fields_are_parts, members_are_fields}
use Rattle.source_meaning.proofs.laws.fields_are_parts.Goals as goal

pub returns : goal.returns
returns c = record { are = fields_are_parts; members = members_are_fields }
