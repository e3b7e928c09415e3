use Rattle.std.proofs.Common.{◌≡◌, ◌-◌, ◌≤◌, ◌+◌, ◌*◌, length}
use Rattle.gff_read.specs.Rows.{words_from}
use Rattle.gff_read.specs.Charge.{word_charge}
use Rattle.gff_read.proofs.RowLemmas.{with_front}
use Rattle.gff_read.proofs.row.read_words.Given as goal
use Rattle.nwq_value.specs.Limits.{file_limit}

abbrev pub invariant-loop-done : goal.invariant-loop-done
invariant-loop-done l = record {
  read : with_front l.words.items (words_from l.view l.at (l.count - l._done)) ≡ words_from l.view l.place l.count;
  inside : l.at ≤ file_limit;
  charged : l.fn.left ≡ l.left + word_charge * length l.words.items;
}
