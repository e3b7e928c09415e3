use Rattle.nwq_text.proofs.Appended.{one_more, all_appended, refused_at}
use Rattle.std.proofs.Common.{refl}
use Rattle.nwq_text.specs.Escape.{spelling}
use Rattle.nwq_text.proofs.escape.put_spellings.Goals as goal

pub loop-byte-preserved : goal.loop-byte-preserved
loop-byte-preserved c =
    one_more (spelling c.args.in_quotes) _ c.loop-byte.out.items _ c.args.text.now c.loop-byte.byte-index _ 0 c.loop-byte-test.true refl
    c.loop-byte.invariant c.in_ok-put_spelling.ensures.ok

pub returns-in_err-put_spelling : goal.returns-in_err-put_spelling
returns-in_err-put_spelling c =
    let both = refused_at c.from_residual.result _ _ _ c.loop-byte.out.items _ c.from_residual.ensures.0 c.loop-byte.invariant c.in_err-put_spelling.ensures.err
    in record { ok = both.0; err = both.1 }

pub returns : goal.returns
returns c =
    record { ok = all_appended (spelling c.args.in_quotes) _ _ c.args.text.now c.loop-byte.byte-index c.loop-byte-test.false c.loop-byte.invariant; err = tt }
