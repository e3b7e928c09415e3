use Rattle.std.proofs.Common.{sym, ◌∙◌}
use Rattle.table_2da.proofs.PrefixLemmas.{prefix_is, prefix_other}
use Rattle.table_2da.proofs.prefix.behind_prefix.Goals as goal

pub returns-then-eq : goal.returns-then-eq
returns-then-eq c = record {
  rest = prefix_is c.args.line.now c.args.prefix.now _ _ _ c.split_at.ensures.front c.split_at.ensures.back (sym c.eq.ensures ∙ c.if-eq.true);
}

pub returns : goal.returns
returns c = record {
  rest = λ rest.
      prefix_other c.args.line.now c.args.prefix.now _ rest c.split_at.ensures.front (sym c.eq.ensures ∙ c.if-eq.false);
}
