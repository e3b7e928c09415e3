use Rattle.std.proofs.Common.{◌∙◌, sym, ap}
use Rattle.std.proofs.lemmas.Option.{same_Some}
use Rattle.std.specs.Str.{bytes_eq}
use Rattle.nwq_value.proofs.HashLemmas.{taken_back}
use Rattle.nwq_value.proofs.index.put_first.Goals as goal

pub returns-in-Ok-Some-insert-clause-ok : goal.returns-in-Ok-Some-insert-clause-ok
returns-in-Ok-Some-insert-clause-ok c =
    let name = c.args.name.now in
    let first = c.in-Ok-Some.ensures in
    let back = c.in-Ok-Some-insert.ensures in
    let was = sym c.in-Ok-Some.field-0-is ∙ first.old in
    let apart = ap (λ xs. bytes_eq xs name) (sym c.as_slice.ensures.value) ∙ sym c.eq.ensures ∙ c.if-eq.false in (
      same_Some c.in-Ok-Some-insert.held c.args.held (sym c.in-Ok-Some-insert.field-0-is ∙ back.old ∙ first.updates.1),
      taken_back name c.args.hash c.in-Ok-Some.old c.args.held c.args.first.now c.insert.new.self c.insert-in-Ok-Some.new.self
          c.requires.hash c.requires.hashed was apart first.entries back.entries back.ordered,
    )
