use Rattle.ncs_code.proofs.arguments.lit_at.Goals as goal

pub returns-in-5-clause-fits : goal.returns-in-5-clause-fits
returns-in-5-clause-fits c = c.text_at.ensures.bytes
