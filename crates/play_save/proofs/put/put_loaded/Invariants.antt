use Rattle.ncs_machine.specs.declared.scripts.Loaded.{Loaded}
use Rattle.state_format.specs.Fields.{script_fields}
use Rattle.state_parts.specs.Keeping.{any_text}
use Rattle.state_parts.specs.PuttingLemmas.{ArePut}
use Rattle.play_save.specs.Scripts.{script_part}
use Rattle.play_save.proofs.Telling.{IsWritable}
use Rattle.play_save.proofs.put.put_loaded.Given as goal

abbrev pub invariant-loop-loaded : goal.invariant-loop-loaded
invariant-loop-loaded g l = ArePut (λ (l : Loaded). l) IsWritable any_text
    (λ (l : Loaded). script_fields (script_part l)) (λ (l : Loaded). l) l.scripts
    (g.W.Writer.taken l.fn.out) l.loaded-index (g.W.Writer.taken l.out)
