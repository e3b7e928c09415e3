use Rattle.std.proofs.Common.{refl}
use Rattle.nwq_value.specs.Header.{header_text, header_constants, header_routines}
use Rattle.nwq_value.proofs.header.built_in_is_the_header.Goals as goal

pub returns : goal.returns
unfolding header_text header_constants header_routines
returns c = record { text = refl }
