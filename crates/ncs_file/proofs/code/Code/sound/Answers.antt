use Rattle.std.proofs.Common.{subst}
use Rattle.ncs_code.specs.File.{IsCode}
use Rattle.ncs_file.proofs.Loaded.{loaded_code}
use Rattle.ncs_file.proofs.code.Code.sound.Goals as goal

pub returns : goal.returns
returns c = record { code = subst IsCode c.self.view_is (loaded_code c.size_laws.ensures.sizes _ _ _ c.self.invariant) }
