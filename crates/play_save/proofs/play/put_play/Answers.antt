use Rattle.std.proofs.lemmas.Result.{MatchResult-weaker}
use Rattle.std.specs.Option.{option_map}
use Rattle.ncs_machine.specs.Host.{scripts_of, tables_of}
use Rattle.world_parts.specs.Saved.{put_together}
use Rattle.module_player.specs.Limits.{limits_in}
use Rattle.state_format.specs.declared.parts.Parts.{Parts}
use Rattle.play_save.specs.Keeping.{IsKept}
use Rattle.play_save.proofs.Bounds.{within}
use Rattle.play_save.proofs.Outcomes.{kept_state, written_so, large_so}
use Rattle.play_save.proofs.Holding.{queues_hold, entries_hold}
use Rattle.play_save.proofs.play.put_play.Goals as goal

pub returns : goal.returns
returns c =
    let f = λ (s : Parts)
    (kept : IsKept (option_map (λ text. text.items) c.args.header) c.args.scripts.now c.as_slice-file.result.now (limits_in c.args.limits) c.args.taken c.args.done
    (put_together c.in-Ok.objects c.in-Ok.saved) s).
    kept_state s (option_map (λ text. text.items) c.args.header) c.args.scripts.now c.as_slice-file.result.now c.args.area.items (limits_in c.args.limits) c.args.taken c.args.done
    c.args.world.world c.in-Ok.objects
    c.in-Ok.saved (record { header = c.one_header.ensures.one; spellings = c.spelling_laws.ensures.spelling; fits = c.fits_too.ensures.fits }) c.as_slice-file.ensures.value kept
    (within c.args.limits) c.requires.listed c.requires.rests c.requires.come c.keeps-in-Ok.ensures.keeps c.keeps.ensures.kept c.in-Ok.ensures.parts in
    record { exact = MatchResult-weaker c.saved_bytes.result c.saved_bytes.ensures.exact (λ v. written_so f v.items) (large_so f) }

pub saved_bytes-requires-clause-queues : goal.saved_bytes-requires-clause-queues
saved_bytes-requires-clause-queues c =
    queues_hold (scripts_of c.args.scripts.now) (tables_of c.args.scripts.now) c.args.world.world c.in-Ok.objects c.in-Ok.saved c.states_hold_values.ensures.fitting c.in-Ok.ensures.parts
    c.requires.rests.fit

pub saved_bytes-requires-clause-entries : goal.saved_bytes-requires-clause-entries
saved_bytes-requires-clause-entries c =
    entries_hold (scripts_of c.args.scripts.now) (tables_of c.args.scripts.now) c.args.world.world c.in-Ok.objects c.in-Ok.saved c.states_hold_values.ensures.fitting c.in-Ok.ensures.parts
    c.requires.rests.fit
