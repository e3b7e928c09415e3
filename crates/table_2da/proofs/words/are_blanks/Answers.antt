use Rattle.std.proofs.Common.{◌==◌, length, ap, ◌∙◌}
use Rattle.table_2da.proofs.FrontLemmas.{blanks_test}
use Rattle.table_2da.proofs.words.are_blanks.Goals as goal

pub returns : goal.returns
returns c =
    record { blanks = blanks_test c.args.line.now c.is_empty.result (c.is_empty.ensures ∙ ap (λ r. length r == 0) c.behind_blanks.ensures.rest) }
