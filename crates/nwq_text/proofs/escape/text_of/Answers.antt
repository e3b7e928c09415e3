use Rattle.std.proofs.Common.{◌≤◌, length, arith}
use Rattle.std.proofs.lemmas.Grind.{common_steps}
use Rattle.nwq_value.specs.Limits.{text_limit}
use Rattle.nwq_text.proofs.EscapeLemmas.{all_kept}
use Rattle.nwq_text.proofs.escape.text_of.Goals as goal

pub returns : goal.returns
returns c =
    let fits : length c.args.bytes.now ≤ text_limit = grind (arith, common_steps)
    in (fits, all_kept _ _ c.in_ok-of.ensures.ok fits)
