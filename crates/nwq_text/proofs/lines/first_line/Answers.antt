use Rattle.std.proofs.Common.{length, refl, sym, ◌∙◌}
use Rattle.nwq_text.proofs.LineLemmas.{behind_all, first_last, first_ended}
use Rattle.nwq_text.proofs.lines.first_line.Goals as goal

pub returns-in-None : goal.returns-in-None
returns-in-None c = record {
  first = first_last c.args.text.now _ (sym c.is_empty.ensures ∙ c.if-is_empty.false) (sym c.in-None.ensures.cut)
      (behind_all c.args.text.now (length c.args.text.now) refl);
}

pub returns-in-Some : goal.returns-in-Some
returns-in-Some c = record { first = first_ended c.args.text.now c.in-Some.line.now _ _ (sym c.in-Some.ensures.cut) c.trimmed.ensures.line }
