use Rattle.std.proofs.Common.{◌+◌, ◌≤◌, ap, sym, subst}
use Rattle.nwq_value.specs.Limits.{file_limit}
use Rattle.ncs_text.proofs.Passing.{SoFar, so_far_begins, goes_on, stops, ended}
use Rattle.ncs_text.proofs.assembler.read_lines.Goals as goal

pub loop-line-init : goal.loop-line-init
loop-line-init c =
    so_far_begins c.args.text.now c.of-lines.result.read c.of-lines.result.left c.args.stop _ (sym (ap (λ r. r.left) c.of-lines.ensures.all))
    c.of-lines.ensures.few (ap (λ r. r.read) c.of-lines.ensures.all) c.new-body.ensures.items

pub returns-in_default-2-clause-fault : goal.returns-in_default-2-clause-fault
returns-in_default-2-clause-fault c =
    let none = rw c.in_default-2.is at (c.in_ok-added.ensures {u = tt}).puts
    in stops c.args.text.now _ _ c.args.stop c.loop-line.body.items c.loop-line.size c.loop-line.number c.loop-line.invariant
    c.in-Some.line.bytes.now _ c.in-Some.line.number c.in-Some.ensures.first c.in-Some.ensures.number none.0 none.1

pub loop-line-preserved : goal.loop-line-preserved
loop-line-preserved c =
    let puts = rw c.in-Some-2.is at (c.in_ok-added.ensures {u = tt}).puts
    in let few = rw c.in-Some-2.is at (c.in_ok-added.ensures {u = tt}).few
    in let step : SoFar c.args.text.now c.next_line.new.self.read c.next_line.new.self.left c.args.stop c.forget_large.new.body.items (c.loop-line.size + c.in-Some-2.added) c.in-Some.line.number
    = goes_on c.args.text.now _ _ c.args.stop c.loop-line.body.items c.loop-line.size c.loop-line.number c.loop-line.invariant
    c.in-Some.line.bytes.now _ c.in-Some.line.number c.in-Some.ensures.first c.in-Some.ensures.number
    c.size_laws.ensures.sizes c.next_line.new.self.read c.put_line.new.out.items c.forget_large.new.body.items c.in-Some-2.added
    c.in-Some.ensures.read c.if-size-stop.false puts few
    (λ h. c.forget_large.ensures (subst (λ n. c.loop-line.size + n ≤ file_limit) (sym c.from-size.ensures) h))
    in subst (λ n. SoFar c.args.text.now c.next_line.new.self.read c.next_line.new.self.left c.args.stop c.forget_large.new.body.items (c.loop-line.size + n) c.in-Some.line.number)
    (sym c.from-size.ensures) step

pub returns-clause-passed : goal.returns-clause-passed
returns-clause-passed c =
    ended c.args.text.now _ _ c.args.stop c.loop-line.body.items c.loop-line.size c.loop-line.number c.loop-line.invariant c.in_default.ensures.none
