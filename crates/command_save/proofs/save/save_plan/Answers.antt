use Rattle.std.proofs.Common.{◌≡◌, ◌++◌, None, refl, subst, sym}
use Rattle.plan_text.specs.Plans.{limits_of}
use Rattle.world_rules.specs.Trace.{trace_text}
use Rattle.hook_table.specs.InHooks.{known_by}
use Rattle.world_core.specs.Calls.{cells_of}
use Rattle.ncs_machine.specs.InSetting.{seen}
use Rattle.ncs_machine.specs.Host.{scripts_of}
use Rattle.ncs_machine.specs.Settings.{FitIn}
use Rattle.module_player.specs.EndTexts.{IsEnding}
use Rattle.command_work.specs.Calls.{IsName}
use Rattle.command_work.specs.KeepsLemmas.{keeps_all}
use Rattle.play_worlds.specs.Worlds.{plan_world}
use Rattle.command_play.specs.Files.{keeps_end, keeps_rest}
use Rattle.command_play.specs.Stops.{cut_stops}
use Rattle.command_play.specs.Tellings.{StopsGame}
use Rattle.command_plays.specs.Plays.{played_first}
use Rattle.command_plays.specs.Tellings.{cut_of}
use Rattle.command_save.specs.Tellings.{MaySave, WhereBroken}
use Rattle.command_save.proofs.PartLemmas.{may_save, first_in, first_whole, of_equal}
use Rattle.command_save.proofs.save.save_plan.Goals as goal

pub of-setting-requires-clause-few : goal.of-setting-requires-clause-few
of-setting-requires-clause-few g c = c.requires.begins.checked.few

pub of-setting-requires-clause-meets : goal.of-setting-requires-clause-meets
of-setting-requires-clause-meets g c = c.requires.begins.checked.meets

pub play_first-requires-clause-plan : goal.play_first-requires-clause-plan
play_first-requires-clause-plan g c = c.requires.begins.listing.kept

pub play_first-requires-clause-some : goal.play_first-requires-clause-some
play_first-requires-clause-some g c = c.requires.begins.some

pub save_broken-requires-clause-told : goal.save_broken-requires-clause-told
save_broken-requires-clause-told g c = subst (λ p. cut_of p.how ≡ None) (sym c.broken_off-broken.ensures.played) c.in-Ok.ensures.told

pub save_broken-requires-clause-listing : goal.save_broken-requires-clause-listing
save_broken-requires-clause-listing g c = c.requires.begins.listing

pub save_broken-requires-clause-broken : goal.save_broken-requires-clause-broken
save_broken-requires-clause-broken g c =
    of_equal (λ w p. WhereBroken p.how (MaySave c.args.listed.now.scripts.now c.args.given.area.bytes (limits_of c.args.listed.now.plan.now) w.world p))
    c.broken_off-broken.result.world c.in-Ok.world c.broken_off-broken.result.played c.in-Ok.played c.broken_off-broken.ensures.world c.broken_off-broken.ensures.played
    (may_save c.plays_can_rest.ensures.rest c.plan_worlds_are_fresh.ensures.fresh c.args.listed.now.scripts.now c.args.given.header.table (known_by c.args.hooks.now) c.args.given.area.area
    c.args.given.area.bytes c.args.listed.now.plan.now c.args.words.entries c.requires.begins.listing.kept c.requires.area c.in-Ok.world.world c.in-Ok.played
    (first_in (seen c.of-setting.result) c.args.listed.now.scripts.now c.args.given.header.table (known_by c.args.hooks.now) c.of-setting.ensures.setting c.args.listed.now.plan.now
    c.args.words.entries (plan_world c.args.given.area.area c.args.listed.now.plan.now) (λ p. IsEnding c.in-Ok.played p c.in-Ok.world.world) c.in-Ok.ensures.ending)
    (subst (λ s. FitIn s c.in-Ok.world.world) c.of-setting.ensures.setting c.in-Ok.ensures.kept.fit) c.in-Ok.ensures.kept.posted c.in-Ok.ensures.kept.executed)

pub returns-in-Ok-clause-does : goal.returns-in-Ok-clause-does
returns-in-Ok-clause-does g c = λ files_tell sink_tells.
    let cell = cells_of (known_by c.args.hooks.now) in
    let p = played_first cell c.args.given.header.table c.args.listed.now.plan.now (scripts_of c.args.listed.now.scripts.now) c.args.words.entries (plan_world c.args.given.area.area c.args.listed.now.plan.now) in
    first_whole cell c.args.given.header c.args.given.area c.args.listed.now.plan.now (scripts_of c.args.listed.now.scripts.now) c.args.words.entries c.args.words.state.now (g.F.Files.contents c.args.files.now)
    (g.F.Files.contents c.save_broken.new.files) (g.S.Sink.taken c.args.out.now) (g.S.Sink.taken c.play_first.new.out) c.save_broken.result
    (g.S.Sink.taken c.save_broken.new.out)
    (first_in (seen c.of-setting.result) c.args.listed.now.scripts.now c.args.given.header.table (known_by c.args.hooks.now) c.of-setting.ensures.setting c.args.listed.now.plan.now
    c.args.words.entries (plan_world c.args.given.area.area c.args.listed.now.plan.now) (λ p. g.S.Sink.taken c.play_first.new.out ≡ g.S.Sink.taken c.args.out.now ++ trace_text p.last.trace)
    (c.in-Ok.ensures.trace sink_tells))
    (c.save_broken.ensures.does files_tell sink_tells p
    (of_equal (λ w a. IsEnding a p w.world) c.broken_off-broken.result.world c.in-Ok.world c.broken_off-broken.result.played c.in-Ok.played
    c.broken_off-broken.ensures.world c.broken_off-broken.ensures.played (first_in (seen c.of-setting.result) c.args.listed.now.scripts.now c.args.given.header.table (known_by c.args.hooks.now) c.of-setting.ensures.setting c.args.listed.now.plan.now
    c.args.words.entries (plan_world c.args.given.area.area c.args.listed.now.plan.now) (λ p. IsEnding c.in-Ok.played p c.in-Ok.world.world) c.in-Ok.ensures.ending)))

pub returns-in-Err-clause-keeps : goal.returns-in-Err-clause-keeps
returns-in-Err-clause-keeps g c =
    let own = IsName c.args.words.state.now in
    keeps_end g.F.Files.counts g.S.Sink.faults g.F.Files.contents own StopsGame c.args.files.now c.args.files.now c.args.files.now c.args.out.now
    c.play_first.new.out c.play_first.new.out c.in-Err.status (c.in-Err.ensures.counts (g.F.Files.counts c.args.files.now))
    (keeps_all own (g.F.Files.contents c.args.files.now) (g.F.Files.contents c.args.files.now) refl) (cut_stops c.in-Err.status c.in-Err.ensures.only)

pub returns-in-Ok-clause-keeps : goal.returns-in-Ok-clause-keeps
returns-in-Ok-clause-keeps g c =
    let own = IsName c.args.words.state.now in
    keeps_rest g.F.Files.counts g.S.Sink.faults g.F.Files.contents own StopsGame c.args.files.now c.args.files.now c.save_broken.new.files
    c.args.out.now c.play_first.new.out c.save_broken.new.out c.save_broken.result (c.in-Ok.ensures.counts (g.F.Files.counts c.args.files.now))
    (keeps_all own (g.F.Files.contents c.args.files.now) (g.F.Files.contents c.args.files.now) refl)
    (record { counts = c.save_broken.ensures.counts; names = c.save_broken.ensures.names; only = c.save_broken.ensures.only })
