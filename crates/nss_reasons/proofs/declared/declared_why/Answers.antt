use Rattle.std.proofs.Common.{◌∙◌, ap}
use Rattle.typing_rules.specs.Sight.{cells, crosses_with, is_taken}
use Rattle.nss_scopes.specs.Views.{in_sight}
use Rattle.nss_reasons.specs.Why.{declared_by, fits_type}
use Rattle.nss_reasons.proofs.declared.declared_why.Goals as goal

pub returns : goal.returns
returns c =
    let s = in_sight c.args.table.now c.args.c.now in
    let taken = c.is_taken-taken.ensures.taken ∙ ap (is_taken s) c.bytes.ensures.same in
    let crosses = c.crosses_with-crosses.ensures.crosses c.args.table.now ∙ ap (crosses_with s) c.cells.ensures.cells in
    c.declared_by.ensures
    ∙ (ap (λ b. declared_by b c.value_fits-fits.result c.crosses_with-crosses.result c.value_reason-reason.result) taken
    ∙ (ap (λ b. declared_by (is_taken s c.args.name.now.name) b c.crosses_with-crosses.result c.value_reason-reason.result) c.value_fits-fits.ensures.fits
    ∙ (ap (λ b. declared_by (is_taken s c.args.name.now.name) (fits_type c.args.ty c.args.given) b c.value_reason-reason.result) crosses
    ∙ ap (declared_by (is_taken s c.args.name.now.name) (fits_type c.args.ty c.args.given) (crosses_with s (cells c.args.c.now.structs c.args.ty))) c.value_reason-reason.ensures.reason)))
