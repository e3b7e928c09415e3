use Rattle.ncs_code.proofs.Naming.{NoneBelow}
use Rattle.ncs_code.proofs.name.opcode_named.Given as goal

abbrev pub invariant-loop-code : goal.invariant-loop-code
invariant-loop-code l = NoneBelow l.name l.code
