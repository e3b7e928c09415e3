use Rattle.std.proofs.Common.{◌∙◌, ap}
use Rattle.typing_rules.specs.Sight.{cell_limit, crosses}
use Rattle.nss_scopes.specs.Views.{in_sight}
use Rattle.nss_scopes.proofs.sight.Sight.crosses_with.Goals as goal

pub returns : goal.returns
returns c = record {
  crosses = λ t.
      c.crosses.ensures.test ∙ (ap (λ l. crosses l c.args.self.now.frame c.frame_with.result) (c.cell_limit.ensures.limit t)
      ∙ ap (λ f. crosses (cell_limit (in_sight t c.args.self.now)) c.args.self.now.frame f) (c.frame_with.ensures.frame t));
}
