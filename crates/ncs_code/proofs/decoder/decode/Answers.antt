use Rattle.std.proofs.Common.{◌∙◌}
use Rattle.std.proofs.lemmas.List.{take_rest}
use Rattle.ncs_code.proofs.Readings.{only_answer, spelled_answer, spelled_at}
use Rattle.ncs_code.proofs.decoder.decode.Goals as goal

pub returns-clause-found : goal.returns-clause-found
returns-clause-found c =
    spelled_at c.decode_prefix.result _ _ (take_rest c.args.bytes.now c.args.at)
    (spelled_answer c.decode_prefix.result _ c.decode_prefix.ensures.is_op c.decode_prefix.ensures.prefix c.decode_prefix.ensures.length)

pub returns-clause-only : goal.returns-clause-only
returns-clause-only c op rest is_op spelled =
    only_answer c.decode_prefix.result _
    (spelled_answer c.decode_prefix.result _ c.decode_prefix.ensures.is_op c.decode_prefix.ensures.prefix c.decode_prefix.ensures.length) c.decode_prefix.ensures.fault op rest is_op
    (take_rest c.args.bytes.now c.args.at ∙ spelled)
