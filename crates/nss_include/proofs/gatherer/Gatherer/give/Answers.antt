use Rattle.std.proofs.Common.{◌<◌, arith, refl}
use Rattle.nwq_value.specs.Limits.{token_limit}
use Rattle.nss_include.proofs.ProgressLemmas.{stops-gives, advances-gives}
use Rattle.nss_include.proofs.gatherer.Gatherer.give.Goals as goal

pub returns-then-self-eq-MOST_TOKENS-clause-stops : goal.returns-then-self-eq-MOST_TOKENS-clause-stops
returns-then-self-eq-MOST_TOKENS-clause-stops c = λ lookup _.
    stops-gives c.args.self.now c.args.here c.args.span c.requires.step _ c.if-self-eq-MOST_TOKENS.true c.in_ok-spot.ensures.spot lookup

pub returns-clause-advances : goal.returns-clause-advances
returns-clause-advances c =
    let room : c.args.self.now.count < token_limit = omega arith
    in advances-gives c.args.self.now _ c.args.here c.args.span c.requires.ready c.requires.step room c.in_ok-push.ensures.ok c.in_ok-push-2.ensures.ok refl
