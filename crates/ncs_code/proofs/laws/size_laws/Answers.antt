use Rattle.ncs_code.proofs.Sizes.{size_is_length, size_some, sizes_are_lengths, length_file, sizes_add}
use Rattle.ncs_code.proofs.laws.size_laws.Goals as goal

pub returns : goal.returns
returns c = record { sizes = record { op = size_is_length; some = size_some; ops = sizes_are_lengths; file = length_file; add = sizes_add } }
