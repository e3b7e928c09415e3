-- Real files as a value.
use Rattle.std.specs.Prelude.{ℕ}
use Rattle.nwq_outside.specs.declared.counts.FileCounts.{FileCounts}

-- files over a disk: the disk, the counts, and how many reads there were
pub record Filed (D : Type 0) : Type 0 where
  pub disk : D
  pub counts : FileCounts
  pub reads : ℕ
