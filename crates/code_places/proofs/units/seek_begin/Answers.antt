use Rattle.std.proofs.Common.{◌∙◌, ap, None}
use Rattle.code_places.specs.Marks as marks
use Rattle.code_places.proofs.Seeking.{last, more_than_none, one_more, parts}
use Rattle.code_places.proofs.Stmts.{if_at}
use Rattle.code_places.proofs.units.seek_begin.Goals as goal

pub returns : goal.returns
returns c =
    one_more c.args.seek _ _ c.pass.ensures (one_more c.pass.result _ _ c.pass-seek.ensures (parts c.pass-seek.result _ _ c.seek_globals.ensures
    (one_more c.seek_globals.result _ _ c.pass-seek-2.ensures (parts c.pass-seek-2.result _ _ c.seek_entry.ensures
    (one_more c.seek_entry.result _ _ c.pass-seek-3.ensures
    (parts c.pass-seek-3.result _ _ (if_at _ _ 6 None c.pass-seek-3.result _ (more_than_none c.globals.result ∙ ap marks.some c.globals.ensures.globals) c.pass_if.ensures)
    (last c.pass_if.result _ c.pass-2.ensures)))))))
