use Rattle.std.proofs.Common.{◌+◌, ◌-◌, ◌∷◌, [], ap, length, arith}
use Rattle.std.proofs.lemmas.List.{length-append}
use Rattle.std.proofs.lemmas.Result.{err_from_is_err_and}
use Rattle.gff_read.proofs.RowLemmas.{words_step, words_end}
use Rattle.gff_read.proofs.row.read_words.Goals as goal

pub loop-done-preserved : goal.loop-done-preserved
loop-done-preserved c = record {
  read = words_step c.args.view.now c.loop-done.at (c.args.count - c.loop-done._done) (c.args.count - (c.loop-done._done + 1)) c.loop-done.words.items c.push.new.self.items c.in_ok-word.word _
      c.loop-done.invariant.read (omega arith) c.in_ok-word.ensures.word c.in_ok-push.ensures.items;
  inside = c.in_ok-word.ensures.inside;
  charged = omega (arith, c.loop-done.invariant.charged, c.in_ok-charge.ensures.taken, ap length c.in_ok-push.ensures.items, length-append c.loop-done.words.items (c.in_ok-word.word ∷ []));
}

pub returns-in_err-word-clause-read : goal.returns-in_err-word-clause-read
returns-in_err-word-clause-read c =
    let p = err_from_is_err_and c.from_residual.result c.from_residual.ensures.1 in
    rw (p.1, p.2) (words_end c.in_err-word.field-0.0 c.args.view.now c.loop-done.at (c.args.count - c.loop-done._done) (c.args.count - (c.loop-done._done + 1)) c.loop-done.words.items _
    c.loop-done.invariant.read (omega arith) c.in_err-word.ensures.word)
