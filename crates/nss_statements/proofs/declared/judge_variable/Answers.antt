use Rattle.std.proofs.Common.{◌∙◌, sym, ap, None, Some}
use Rattle.std.specs.Option.{option_map}
use Rattle.nss_tree.specs.Reading.{plain_name}
use Rattle.typing_rules.specs.Nodes.{at, fine, kept}
use Rattle.typing_rules.specs.Reading.{plain}
use Rattle.typing_rules.specs.Sight.{crosses_with, is_taken}
use Rattle.nss_scopes.specs.Views.{in_sight}
use Rattle.nss_statements.proofs.Judged.{variable_is}
use Rattle.nss_statements.proofs.declared.judge_variable.Goals as goal

pub returns-in-None-variable_fault-clause-value : goal.returns-in-None-variable_fault-clause-value
returns-in-None-variable_fault-clause-value c =
    rw (c.in-Some.is, c.in-Some-value.is)
    (sym (ap fine (variable_is (in_sight c.args.table.now c.args.sight.now)
    (plain_name c.args.name.now) c.in-Some.ty
    (option_map plain c.in-Some-value.value) c.is_taken-is_taken.result c.value_fits-fits.result
    c.crosses_with-crosses.result None (c.is_taken-is_taken.ensures.taken ∙ ap (is_taken (in_sight c.args.table.now c.args.sight.now)) c.bytes.ensures.same) c.value_fits-fits.ensures
    (c.crosses_with-crosses.ensures.crosses c.args.table.now ∙ ap (crosses_with (in_sight c.args.table.now c.args.sight.now)) c.cells.ensures.cells) c.in-None-variable_fault.ensures)))

pub returns-in-None-variable_fault-clause-least : goal.returns-in-None-variable_fault-clause-least
returns-in-None-variable_fault-clause-least c =
    rw (c.in-Some.is, c.in-Some-value.is)
    (ap (λ v. kept c.args.least.now (at c.args.name.now.token v))
    (sym (variable_is (in_sight c.args.table.now c.args.sight.now) (plain_name c.args.name.now) c.in-Some.ty
    (option_map plain c.in-Some-value.value) c.is_taken-is_taken.result c.value_fits-fits.result
    c.crosses_with-crosses.result None (c.is_taken-is_taken.ensures.taken ∙ ap (is_taken (in_sight c.args.table.now c.args.sight.now)) c.bytes.ensures.same) c.value_fits-fits.ensures
    (c.crosses_with-crosses.ensures.crosses c.args.table.now ∙ ap (crosses_with (in_sight c.args.table.now c.args.sight.now)) c.cells.ensures.cells) c.in-None-variable_fault.ensures)))

pub returns-in-Some-variable_fault-clause-value : goal.returns-in-Some-variable_fault-clause-value
returns-in-Some-variable_fault-clause-value c =
    rw (c.in-Some.is, c.in-Some-value.is)
    (sym (ap fine (variable_is (in_sight c.args.table.now c.args.sight.now)
    (plain_name c.args.name.now) c.in-Some.ty
    (option_map plain c.in-Some-value.value) c.is_taken-is_taken.result c.value_fits-fits.result
    c.crosses_with-crosses.result (Some c.in-Some-variable_fault.kind)
    (c.is_taken-is_taken.ensures.taken
    ∙ ap (is_taken (in_sight c.args.table.now c.args.sight.now)) c.bytes.ensures.same) c.value_fits-fits.ensures
    (c.crosses_with-crosses.ensures.crosses c.args.table.now ∙ ap (crosses_with (in_sight c.args.table.now c.args.sight.now)) c.cells.ensures.cells) c.in-Some-variable_fault.ensures)))

pub returns-in-Some-variable_fault-clause-least : goal.returns-in-Some-variable_fault-clause-least
returns-in-Some-variable_fault-clause-least c =
    rw (c.in-Some.is, c.in-Some-value.is)
    (c.note.ensures.kept ∙ ap (λ v. kept c.args.least.now (at c.args.name.now.token v))
    (sym (variable_is (in_sight c.args.table.now c.args.sight.now) (plain_name c.args.name.now) c.in-Some.ty
    (option_map plain c.in-Some-value.value) c.is_taken-is_taken.result c.value_fits-fits.result
    c.crosses_with-crosses.result (Some c.in-Some-variable_fault.kind)
    (c.is_taken-is_taken.ensures.taken
    ∙ ap (is_taken (in_sight c.args.table.now c.args.sight.now)) c.bytes.ensures.same) c.value_fits-fits.ensures
    (c.crosses_with-crosses.ensures.crosses c.args.table.now ∙ ap (crosses_with (in_sight c.args.table.now c.args.sight.now)) c.cells.ensures.cells) c.in-Some-variable_fault.ensures)))
