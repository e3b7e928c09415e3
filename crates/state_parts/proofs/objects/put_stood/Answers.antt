use Rattle.std.proofs.lemmas.Result.{on_ok_weaker}
use Rattle.state_format.specs.Fields.{maybe_fields, number_fields, effect_fields}
use Rattle.state_format.specs.WritingLemmas.{put_then}
use Rattle.state_parts.specs.Told.{effect_part}
use Rattle.state_parts.proofs.objects.put_stood.Goals as goal

pub returns-clause-put : goal.returns-clause-put
returns-clause-put g c =
    let s = c.args.stood.now in
    on_ok_weaker c.put_effect.result
    (λ e. put_then (maybe_fields (number_fields 8) s.number) (effect_fields (effect_part s.effect)) _ _ _ c.in_ok-put_number.ensures.put e)
    c.put_effect.ensures.put
