use Rattle.std.proofs.Common.{rules}
use Rattle.nss_tree.specs.Reading.{plain_tree}
use Rattle.command_sources.specs.Scripts.{plain_script}
use Rattle.command_compile.proofs.TypingLemmas.{fault_does}
use Rattle.command_compile.proofs.typing.type_script.Goals as goal

pub returns-in-Ok-clause-code : goal.returns-in-Ok-clause-code
returns-in-Ok-clause-code g c =
    c.typed_units_have_code.ensures.tree c.args.table.now (plain_tree c.args.script.tree) _ c.keeps.ensures.table (search rules) (search rules) c.in-Ok.ensures.typed

pub returns-clause-does : goal.returns-clause-does
returns-clause-does g c = λ told contents.
    fault_does c.args.table.now (plain_script c.args.script) contents c.in-Err-Fault.fault c.cause_of-cause.result c.refuse_token.result
    (g.S.Sink.taken c.args.out.now) (g.S.Sink.taken c.refuse_token.new.out) (rw c.in-Err-Fault.field-0-is at c.in-Err-Fault.ensures.fault)
    (rw c.in-Err-Fault.fault-is at c.cause_of-cause.ensures)
    (rw c.in-Err-Fault.fault-is at c.refuse_token.ensures.does told)
