use Rattle.play_save.proofs.FileBytes.{file_blob}
use Rattle.play_save.proofs.laws.code_is_bytes.Goals as goal

pub returns : goal.returns
returns c = record { bytes = λ ops code. (file_blob c.size_laws.ensures.sizes.file ops code).1 }
