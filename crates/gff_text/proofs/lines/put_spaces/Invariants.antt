use Rattle.std.proofs.Common.{◌≡◌, ◌++◌, replicate}
use Rattle.gff_text.proofs.lines.put_spaces.Given as goal

abbrev pub invariant-loop-space : goal.invariant-loop-space
invariant-loop-space l = l.out.items ≡ l.fn.out.items ++ replicate l._space 32
