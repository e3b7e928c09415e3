use Rattle.std.proofs.Common.{sym, subst}
use Rattle.ncs_text.specs.Arguments.{IsArgument}
use Rattle.ncs_text.specs.Steps.{Appends}
use Rattle.ncs_text.proofs.Fields.{uncut, unread, fields_more}
use Rattle.ncs_text.proofs.putting.+put_fields.Goals as goal

pub returns-in_default-cut-clause-fields : goal.returns-in_default-cut-clause-fields
returns-in_default-cut-clause-fields t c =
    uncut _ _ c.in-Some.next.now _ c.in-Some.more.now _ (c.in-Some.ensures {u = tt}).cases.0 (sym (c.in_default-cut.ensures {u = tt}).cut)

pub returns-then-not-branch-clause-fields : goal.returns-then-not-branch-clause-fields
returns-then-not-branch-clause-fields t c =
    unread _ _ c.in-Some.next.now _ c.in-Some.more.now _ c.in-Some-cut.field.now c.in-Some-cut.rest.now (c.in-Some.ensures {u = tt}).cases.0 (sym (c.in-Some-cut.ensures {u = tt}).cut)
    (subst (λ took. Appends (IsArgument c.args.at c.args.argument c.in-Some-cut.field.now) c.args.out.now.items took c.put_argument-2.new.out.items)
    c.if-not-branch.true (c.in_ok-put_argument.ensures {u = tt}).argument)

pub returns-clause-fields : goal.returns-clause-fields
returns-clause-fields t c =
    fields_more _ _ c.in-Some.next.now _ c.in-Some.more.now _ c.in-Some-cut.field.now c.in-Some-cut.rest.now _ c.put_argument-2.new.out.items _ _
    (c.in-Some.ensures {u = tt}).cases.0 (sym (c.in-Some-cut.ensures {u = tt}).cut)
    (subst (λ took. Appends (IsArgument c.args.at c.args.argument c.in-Some-cut.field.now) c.args.out.now.items took c.put_argument-2.new.out.items)
    c.if-not-branch.false (c.in_ok-put_argument.ensures {u = tt}).argument) (c.in_ok-took-2.ensures {u = tt}).fields
