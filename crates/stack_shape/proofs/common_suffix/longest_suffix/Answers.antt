use Rattle.std.proofs.lemmas.Result.{IfOk-weaker}
use Rattle.stack_shape.specs.Suffix.{LongestSuffix}
use Rattle.stack_shape.proofs.Tops.{longest_is}
use Rattle.stack_shape.proofs.common_suffix.longest_suffix.Goals as goal

pub returns : goal.returns
returns c = IfOk-weaker c.of_slice.result _ (λ common. LongestSuffix c.args.a.now c.args.b.now common)
    (λ common is. longest_is c.args.a.now c.args.b.now common c.common_count.result
    c.common_count.ensures.first c.common_count.ensures.second c.common_count.ensures.same c.common_count.ensures.last is)
    c.of_slice.ensures.ok
