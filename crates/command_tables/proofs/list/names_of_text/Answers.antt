use Rattle.std.proofs.Common.{◌≡◌, true, false, sym, ap, ◌∙◌}
use Rattle.command_tables.specs.Lists.{may_follow}
use Rattle.command_tables.proofs.ListLemmas.{names_begin, names_go_on, names_stop, names_done}
use Rattle.command_tables.proofs.list.names_of_text.Goals as goal

pub loop-line-init : goal.loop-line-init
loop-line-init c =
    names_begin c.args.bytes.now c.of-lines.result.read c.of-lines.result.left c.new-names.result
    (sym (ap (λ r. r.left) c.of-lines.ensures.all)) (ap (λ r. r.read) c.of-lines.ensures.all) c.new-names.ensures.empty

pub returns-then-not-may_follow-clause-fault : goal.returns-then-not-may_follow-clause-fault
returns-then-not-may_follow-clause-fault c =
    let bad : may_follow c.loop-line.names c.in-Some.line.bytes.now ≡ false
    = ap (λ names. may_follow names c.in-Some.line.bytes.now) (sym c.as_slice.ensures.items) ∙ (sym c.may_follow.ensures.follows ∙ c.if-not-may_follow.true)
    in names_stop c.args.bytes.now _ _ c.loop-line.names c.in-Some.line.bytes.now _ c.in-Some.line.number
    c.loop-line.invariant c.in-Some.ensures.first c.in-Some.ensures.number bad

pub loop-line-preserved : goal.loop-line-preserved
loop-line-preserved c =
    let follows : may_follow c.loop-line.names c.in-Some.line.bytes.now ≡ true
    = ap (λ names. may_follow names c.in-Some.line.bytes.now) (sym c.as_slice.ensures.items) ∙ (sym c.may_follow.ensures.follows ∙ c.if-not-may_follow.false)
    in names_go_on c.args.bytes.now _ _ c.loop-line.names c.in-Some.line.bytes.now _ c.in-Some.line.number
    c.loop-line.invariant c.in-Some.ensures.first c.in-Some.ensures.number _ c.put_name.new.names c.in-Some.ensures.read follows c.in-Ok.ensures.ok

pub returns-clause-names : goal.returns-clause-names
returns-clause-names c = names_done c.args.bytes.now _ _ c.loop-line.names c.loop-line.invariant c.in_default.ensures.none
