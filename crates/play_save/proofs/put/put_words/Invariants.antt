use Rattle.std.proofs.Common.{ℕ}
use Rattle.state_format.specs.Fields.{number_fields}
use Rattle.state_format.specs.Parts.{IsNumber}
use Rattle.state_parts.specs.Keeping.{any_text}
use Rattle.state_parts.specs.PuttingLemmas.{ArePut}
use Rattle.play_save.proofs.put.put_words.Given as goal

abbrev pub invariant-loop-n : goal.invariant-loop-n
invariant-loop-n g l = ArePut (λ (n : ℕ). n) (IsNumber 4) any_text (number_fields 4) (λ (n : ℕ). n) l.words (g.W.Writer.taken l.fn.out) l.n-index (g.W.Writer.taken l.out)
