use Rattle.nss_lexer.specs.Splitting.{plain}
use Rattle.nss_include.proofs.StepLemmas.{token_step, begins_step}
use Rattle.nss_include.specs.Steps.{ends, breaks}
use Rattle.nss_include.proofs.step.next_step.Goals as goal

pub returns-in-End-clause-step : goal.returns-in-End-clause-step
returns-in-End-clause-step c = ends _ c.in-End.ensures.first

pub returns-in-Bad-clause-step : goal.returns-in-Bad-clause-step
returns-in-Bad-clause-step c = breaks _ _ c.in-Bad.ensures.first

pub returns-in-None-clause-step : goal.returns-in-None-clause-step
returns-in-None-clause-step c = token_step _ _ _ (plain c.in-Token.token) c.in-Token.ensures.first c.in-None.ensures.behind

pub returns-in_ok-step-in-Some-clause-step : goal.returns-in_ok-step-in-Some-clause-step
returns-in_ok-step-in-Some-clause-step c =
    begins_step _ _ _ _ (plain c.in-Token.token) _ c.in-Token.ensures.first c.in-Some.ensures.behind c.in_ok-step-in-Some.ensures.step
