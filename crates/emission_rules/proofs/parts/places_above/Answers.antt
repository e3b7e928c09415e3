use Rattle.emission_rules.proofs.Labels.{arguments_above, exprs_above, names_above, stmt_above, stmts_above}
use Rattle.emission_rules.proofs.parts.places_above.Goals as goal

pub returns : goal.returns
returns c =
    let add = c.part_laws.ensures.parts.placements in
    record {
      above = record {
        exprs = exprs_above add;
        arguments = arguments_above add;
        names = names_above add;
        stmt = stmt_above add;
        stmts = stmts_above add;
      };
    }
