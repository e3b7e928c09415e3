use Rattle.std.proofs.Common.{◌∙◌, ap}
use Rattle.typing_rules.specs.Rules.{is_behind}
use Rattle.typing_rules.specs.Sight.{cells, crosses_with, is_taken}
use Rattle.nss_scopes.specs.Views.{in_sight}
use Rattle.nss_reasons.specs.Why.{const_type_there, default_fits_type, default_reason, parameter_by_tests}
use Rattle.nss_reasons.proofs.JudgedNames.{parameter_is}
use Rattle.nss_reasons.proofs.item.parameter_by.Goals as goal

pub returns : goal.returns
returns c =
    let s = in_sight c.args.table.now c.args.c.now in
    let t = c.args.ty in
    let v = c.args.value.now in
    let taken = c.is_taken-taken.ensures.taken ∙ ap (is_taken s) c.bytes.ensures.same in
    let crosses = c.crosses_with-crosses.ensures.crosses c.args.table.now ∙ ap (crosses_with s) c.cells.ensures.cells in
    let fits = c.default_fits-fits.ensures ∙ ap (default_fits_type t) c.default_type-given.ensures in
    let reason = c.default_reason-reason.ensures ∙ ap (default_reason t) c.default_type-given.ensures in
    c.parameter_by_tests.ensures
    ∙ (ap (λ b. parameter_by_tests b c.is_behind-behind.result c.default_fits-fits.result c.crosses_with-crosses.result c.default_reason-reason.result) taken
    ∙ (ap (λ b. parameter_by_tests (is_taken s c.args.p.now.name) b c.default_fits-fits.result c.crosses_with-crosses.result c.default_reason-reason.result) c.is_behind-behind.ensures
    ∙ (ap (λ b. parameter_by_tests (is_taken s c.args.p.now.name) (is_behind c.args.late v) b c.crosses_with-crosses.result c.default_reason-reason.result) fits
    ∙ (ap (λ b. parameter_by_tests (is_taken s c.args.p.now.name) (is_behind c.args.late v) (default_fits_type t (const_type_there v)) b c.default_reason-reason.result) crosses
    ∙ (ap (parameter_by_tests (is_taken s c.args.p.now.name) (is_behind c.args.late v) (default_fits_type t (const_type_there v)) (crosses_with s (cells c.args.c.now.structs t))) reason
    ∙ parameter_is s c.args.late c.args.p.now t v)))))
