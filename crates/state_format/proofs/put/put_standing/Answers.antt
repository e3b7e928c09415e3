use Rattle.std.proofs.lemmas.Result.{on_ok_weaker}
use Rattle.state_format.specs.Fields.{maybe_fields, number_fields, effect_fields}
use Rattle.state_format.specs.WritingLemmas.{put_then}
use Rattle.state_format.proofs.put.put_standing.Goals as goal

pub returns : goal.returns
returns g c =
    let s = c.args.standing.now in
    record {
      put = on_ok_weaker c.put_effect.result
          (λ e. put_then (maybe_fields (number_fields 8) s.number) (effect_fields s.effect) _ _ _ c.in_ok-put_number.ensures.put e)
          c.put_effect.ensures.put;
    }
