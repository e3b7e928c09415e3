use Rattle.std.proofs.Common.{◌∙◌, sym, ap, None, Some}
use Rattle.typing_rules.specs.Nodes.{at, fine, kept}
use Rattle.typing_rules.specs.Sight.{crosses_with, is_taken}
use Rattle.nss_scopes.specs.Entries.{meant_of}
use Rattle.nss_scopes.specs.Views.{in_sight}
use Rattle.nss_types.proofs.JudgedParameter.{typed_is}
use Rattle.nss_types.proofs.parameter.judge_parameter.Goals as goal

pub returns-in-None-parameter_fault-clause-value : goal.returns-in-None-parameter_fault-clause-value
returns-in-None-parameter_fault-clause-value c = sym
    (ap fine (typed_is (in_sight c.args.table.now c.args.c.now) c.args.late c.args.p.now c.args.value
    (meant_of c.args.meant) c.is_taken-is_taken.result c.is_behind-is_behind.result
    (c.is_taken-is_taken.ensures.taken
    ∙ ap (is_taken (in_sight c.args.table.now c.args.c.now)) c.bytes.ensures.same) c.is_behind-is_behind.ensures
    c.in-Some.ty c.default_fits-fits.result c.crosses_with-crosses.result None (sym c.in-Some.ensures.typed) c.default_fits-fits.ensures
    (c.crosses_with-crosses.ensures.crosses c.args.table.now ∙ ap (crosses_with (in_sight c.args.table.now c.args.c.now)) c.cells.ensures.cells) c.in-None-parameter_fault.ensures))

pub returns-in-None-parameter_fault-clause-least : goal.returns-in-None-parameter_fault-clause-least
returns-in-None-parameter_fault-clause-least c = ap (λ v. kept c.args.least.now (at c.args.p.now.token v))
    (sym (typed_is (in_sight c.args.table.now c.args.c.now) c.args.late c.args.p.now c.args.value
    (meant_of c.args.meant) c.is_taken-is_taken.result c.is_behind-is_behind.result
    (c.is_taken-is_taken.ensures.taken
    ∙ ap (is_taken (in_sight c.args.table.now c.args.c.now)) c.bytes.ensures.same) c.is_behind-is_behind.ensures
    c.in-Some.ty c.default_fits-fits.result c.crosses_with-crosses.result None (sym c.in-Some.ensures.typed) c.default_fits-fits.ensures
    (c.crosses_with-crosses.ensures.crosses c.args.table.now ∙ ap (crosses_with (in_sight c.args.table.now c.args.c.now)) c.cells.ensures.cells) c.in-None-parameter_fault.ensures))

pub returns-in-Some-parameter_fault-clause-value : goal.returns-in-Some-parameter_fault-clause-value
returns-in-Some-parameter_fault-clause-value c = sym
    (ap fine (typed_is (in_sight c.args.table.now c.args.c.now) c.args.late c.args.p.now c.args.value
    (meant_of c.args.meant) c.is_taken-is_taken.result c.is_behind-is_behind.result
    (c.is_taken-is_taken.ensures.taken
    ∙ ap (is_taken (in_sight c.args.table.now c.args.c.now)) c.bytes.ensures.same) c.is_behind-is_behind.ensures
    c.in-Some.ty c.default_fits-fits.result c.crosses_with-crosses.result (Some c.in-Some-parameter_fault.kind) (sym c.in-Some.ensures.typed) c.default_fits-fits.ensures
    (c.crosses_with-crosses.ensures.crosses c.args.table.now ∙ ap (crosses_with (in_sight c.args.table.now c.args.c.now)) c.cells.ensures.cells) c.in-Some-parameter_fault.ensures))

pub returns-in-Some-parameter_fault-clause-least : goal.returns-in-Some-parameter_fault-clause-least
returns-in-Some-parameter_fault-clause-least c = c.note-in-Some-parameter_fault.ensures.kept
    ∙ ap (λ v. kept c.args.least.now (at c.args.p.now.token v))
    (sym (typed_is (in_sight c.args.table.now c.args.c.now) c.args.late c.args.p.now c.args.value
    (meant_of c.args.meant) c.is_taken-is_taken.result c.is_behind-is_behind.result
    (c.is_taken-is_taken.ensures.taken
    ∙ ap (is_taken (in_sight c.args.table.now c.args.c.now)) c.bytes.ensures.same) c.is_behind-is_behind.ensures
    c.in-Some.ty c.default_fits-fits.result c.crosses_with-crosses.result (Some c.in-Some-parameter_fault.kind) (sym c.in-Some.ensures.typed) c.default_fits-fits.ensures
    (c.crosses_with-crosses.ensures.crosses c.args.table.now ∙ ap (crosses_with (in_sight c.args.table.now c.args.c.now)) c.cells.ensures.cells) c.in-Some-parameter_fault.ensures))
