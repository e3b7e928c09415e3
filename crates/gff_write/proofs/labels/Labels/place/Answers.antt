use Rattle.std.proofs.Common.{◌≡◌, Some, None, ap, sym, length, ◌∙◌}
use Rattle.std.specs.Map.{values_of}
use Rattle.nwq_value.specs.Index.{number_under, first_place}
use Rattle.gff_write.specs.File.{label_index}
use Rattle.gff_write.proofs.LabelLemmas.{or_else, place_is}
use Rattle.gff_write.proofs.labels.Labels.place.Goals as goal

pub returns-in-Some : goal.returns-in-Some
returns-in-Some c =
    let table = values_of c.self.inside.rows.entries in
    let at : Some c.in-Some.number
    ≡ first_place c.args.label.now table = c.in-Some.ensures.number
    ∙ ap (λ x. number_under x c.self.inside.numbers) c.as_slice.ensures
    ∙ c.self.invariant.places c.args.label.now in
    record { place = ap (λ o. or_else o (length table)) at ∙ place_is c.args.label.now table ∙ ap (λ t. label_index t c.args.label.now) c.self.view_is }

pub returns-in-None : goal.returns-in-None
returns-in-None c =
    let table = values_of c.self.inside.rows.entries in
    let at : None ≡ first_place c.args.label.now table = c.in-None.ensures.number ∙ ap (λ x. number_under x c.self.inside.numbers) c.as_slice.ensures ∙ c.self.invariant.places c.args.label.now in
    record {
      place =
          c.len.ensures.len ∙ ap length (sym c.self.view_is) ∙ ap (λ o. or_else o (length table)) at ∙ place_is c.args.label.now table ∙ ap (λ t. label_index t c.args.label.now) c.self.view_is;
    }
