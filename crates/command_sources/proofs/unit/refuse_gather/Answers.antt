use Rattle.std.proofs.Common.{Err, subst}
use Rattle.nwq_outside.specs.Outside.{content}
use Rattle.nss_include.specs.Gather.{Gathers}
use Rattle.command_work.specs.Parts.{Refuses}
use Rattle.command_work.specs.Refusal.{Absent, TooLong}
use Rattle.command_work.specs.declared.status.Status.TheVariants.{Fault, Memory}
use Rattle.command_sources.proofs.UnitLemmas.{lacks_does, exceeds_does, bad_does, many_does, include_does, cut_does}
use Rattle.command_sources.proofs.unit.refuse_gather.Goals as goal

pub returns-in-Missing-clause-does : goal.returns-in-Missing-clause-does
returns-in-Missing-clause-does g c = λ tells d name gathers.
    let t = g.S.Sink.taken c.args.out.now in
    let t' = g.S.Sink.taken c.refuse_absent.new.out in
    lacks_does d name c.refuse_absent.result t t' c.in-Missing.name (subst (λ f. Gathers (content d) name (Err f)) c.in-Missing.is gathers)
    (subst (λ file. Refuses (Absent file) t c.refuse_absent.result t') c.bytes.ensures.same (c.refuse_absent.ensures.does tells))

pub returns-in-Long-clause-does : goal.returns-in-Long-clause-does
returns-in-Long-clause-does g c = λ tells d name gathers.
    let t = g.S.Sink.taken c.args.out.now in
    let t' = g.S.Sink.taken c.refuse_long.new.out in
    exceeds_does d name c.refuse_long.result t t' c.in-Long.name (subst (λ f. Gathers (content d) name (Err f)) c.in-Long.is gathers)
    (subst (λ file. Refuses (TooLong file) t c.refuse_long.result t') c.bytes-in-Long.ensures.same (c.refuse_long.ensures.does tells))

pub returns-in-Bad-clause-does : goal.returns-in-Bad-clause-does
returns-in-Bad-clause-does g c = λ tells d name gathers.
    bad_does d name c.refuse_spot.result (g.S.Sink.taken c.args.out.now) (g.S.Sink.taken c.refuse_spot.new.out) c.in-Bad.spot
    (subst (λ f. Gathers (content d) name (Err f)) c.in-Bad.is gathers) (c.refuse_spot.ensures.does tells)

pub returns-in-Tokens-clause-does : goal.returns-in-Tokens-clause-does
returns-in-Tokens-clause-does g c = λ tells d name gathers.
    many_does d name c.refuse_spot-in-Tokens.result (g.S.Sink.taken c.args.out.now) (g.S.Sink.taken c.refuse_spot-in-Tokens.new.out) c.in-Tokens.spot
    (subst (λ f. Gathers (content d) name (Err f)) c.in-Tokens.is gathers) (c.refuse_spot-in-Tokens.ensures.does tells)

pub returns-in-Include-clause-does : goal.returns-in-Include-clause-does
returns-in-Include-clause-does g c = λ tells d name gathers.
    include_does d name c.refuse_spot-in-Include.result (g.S.Sink.taken c.args.out.now) (g.S.Sink.taken c.refuse_spot-in-Include.new.out) c.in-Include.spot
    (subst (λ f. Gathers (content d) name (Err f)) c.in-Include.is gathers) (c.refuse_spot-in-Include.ensures.does tells)

pub returns-in-Fault-clause-does : goal.returns-in-Fault-clause-does
returns-in-Fault-clause-does g c = λ tells d name gathers. cut_does d name Fault (g.S.Sink.taken c.args.out.now) tt

pub returns-in-NoMemory-clause-does : goal.returns-in-NoMemory-clause-does
returns-in-NoMemory-clause-does g c = λ tells d name gathers. cut_does d name Memory (g.S.Sink.taken c.args.out.now) tt
