use Rattle.std.proofs.Common.{◌≡◌, true, false, is_some, ap, sym, ◌∙◌}
use Rattle.std.specs.Map.{values_of}
use Rattle.nwq_value.specs.Index.{number_under, first_place}
use Rattle.gff_write.proofs.LabelLemmas.{has_label, lacks_label}
use Rattle.gff_write.proofs.labels.add_label.Goals as goal

pub returns-then-is_some-clause-rows : goal.returns-then-is_some-clause-rows
returns-then-is_some-clause-rows c =
    let known : is_some (first_place c.args.label.now (values_of c.args.rows.now.entries)) ≡ true
    = sym (ap is_some (c.get.ensures.number ∙ ap (λ x. number_under x c.args.numbers.now) c.as_slice.ensures ∙ c.requires.table.places c.args.label.now)) ∙ sym c.is_some.ensures ∙ c.if-is_some.true in
    has_label c.args.label.now (values_of c.args.rows.now.entries) known

pub returns-clause-rows : goal.returns-clause-rows
returns-clause-rows c =
    let new : is_some (first_place c.args.label.now (values_of c.args.rows.now.entries)) ≡ false
    = sym (ap is_some (c.get.ensures.number ∙ ap (λ x. number_under x c.args.numbers.now) c.as_slice.ensures
    ∙ c.requires.table.places c.args.label.now)) ∙ sym c.is_some.ensures ∙ c.if-is_some.false in
    c.in_ok-push_label.ensures.rows ∙ lacks_label c.args.label.now (values_of c.args.rows.now.entries) new
