use Rattle.std.proofs.Common.{refl, arith}
use Rattle.std.proofs.lemmas.Result.{on_ok_weaker}
use Rattle.state_format.specs.Fields.{number_fields}
use Rattle.state_format.specs.WritingLemmas.{put_listed}
use Rattle.play_save.proofs.put.put_randoms.Goals as goal

pub returns-clause-put : goal.returns-clause-put
returns-clause-put g c = on_ok_weaker c.put_words.result
    (put_listed (number_fields 4) c.args.random.now _ (g.W.Writer.taken c.args.out.now) (g.W.Writer.taken c.put_count.new.out) (g.W.Writer.taken c.put_words.new.out)
    c.in_ok-put_count.ensures.put refl)
    c.put_words.ensures.put

pub returns-clause-form : goal.returns-clause-form
returns-clause-form g c = on_ok_weaker c.put_words.result (λ all. (omega (arith, c.if-random-gt-MOST.false), all)) c.put_words.ensures.form
