use Rattle.std.proofs.Common.{is_some, ap, ◌∙◌}
use Rattle.engine_table.specs.Names.{is_among}
use Rattle.engine_table.proofs.NameLemmas.{named_among, is_some-copied}
use Rattle.engine_table.proofs.words.Words.has.Goals as goal

pub returns : goal.returns
returns c =
    c.is_some.ensures ∙ is_some-copied c.constant.result ∙ ap is_some c.constant.ensures.value ∙ named_among c.args.name.now c.self.inside.names.constants
    ∙ ap (is_among c.args.name.now) c.self.view_is
