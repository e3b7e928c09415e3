use Rattle.std.proofs.Common.{sym, ap, ◌∙◌}
use Rattle.engine_table.specs.Names.{is_among}
use Rattle.engine_table.proofs.NameLemmas.{not_among, no_routines}
use Rattle.engine_table.proofs.words.Words.add.Goals as goal

pub define-requires-clause-no_routine : goal.define-requires-clause-no_routine
define-requires-clause-no_routine c = no_routines c.args.name c.self.inside.names.routines c.self.invariant

pub define-requires-clause-no_constant : goal.define-requires-clause-no_constant
define-requires-clause-no_constant c =
    not_among c.args.name c.self.inside.names.constants
    (ap (is_among c.args.name) (c.self.view_is) ∙ ap (λ n. is_among n c.args.self.now) (sym c.bytes.ensures.same) ∙ sym c.has.ensures ∙ c.if-has.false)
