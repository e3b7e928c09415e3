use Rattle.std.proofs.Common.{List, subst}
use Rattle.state_format.specs.declared.parts.Script.{Script}
use Rattle.play_save.specs.Breaking.{AreSound, Breaks}
use Rattle.play_save.proofs.Testing.{breaks_scripts, breaks_area}
use Rattle.play_save.proofs.prepare.prepare_under.Goals as goal

pub returns-in-Err-area-clause-broken : goal.returns-in-Err-area-clause-broken
returns-in-Err-area-clause-broken c =
    breaks_area c.args.parts.now c.args.table c.as_slice.result.now c.in-Err-area.fault c.as_slice-2.result.now c.len.result c.requires.header
    c.as_slice.ensures.items c.in-Ok.ensures.scripts.sound c.as_slice-2.ensures.items c.len.ensures.len c.in-Err-area.ensures.broken

pub returns-in-Err-clause-broken : goal.returns-in-Err-clause-broken
returns-in-Err-clause-broken c =
    breaks_scripts c.args.parts.now c.args.table c.in-Err.fault c.one_header.ensures.one c.requires.header
    (subst (λ (l : List Script). Breaks 2 (AreSound c.args.table l) c.in-Err.fault) c.as_slice.ensures.items c.in-Err.ensures.broken)
