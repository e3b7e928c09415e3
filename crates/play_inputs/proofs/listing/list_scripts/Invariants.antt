use Rattle.std.proofs.Common.{◌≡◌, [], length, take, IsTrue}
use Rattle.stack_rules.specs.Laws.{AllMeet}
use Rattle.stack_check.specs.Checked.{AllStand}
use Rattle.ncs_machine.specs.Host.{scripts_of, tables_of}
use Rattle.command_work.specs.Counts.{Counted, KeepsBut}
use Rattle.play_inputs.specs.Listings.{IsSourceFile, line_names, loaded_names}
use Rattle.play_inputs.specs.Reads.{ReadsLines}
use Rattle.play_inputs.proofs.ListingLemmas.{SoFar}
use Rattle.play_inputs.proofs.listing.list_scripts.Given as goal

abbrev pub invariant-loop-line : goal.invariant-loop-line
invariant-loop-line g l =
    SoFar g.F.Files.tells g.S.Sink.tells l.table l.lines l.line-index [] (scripts_of l.scripts)
    (g.F.Files.contents l.fn.files) (g.F.Files.contents l.files) (g.S.Sink.taken l.fn.out) (g.S.Sink.taken l.out)
    × (Counted (g.F.Files.counts l.files) (g.S.Sink.faults l.out)
    ≡ Counted (g.F.Files.counts l.fn.files) (g.S.Sink.faults l.fn.out))
    × KeepsBut (IsSourceFile l.lines) (g.F.Files.contents l.fn.files) (g.F.Files.contents l.files)
    × AllMeet l.table (scripts_of l.scripts) (tables_of l.scripts)
    × AllStand l.table (scripts_of l.scripts) (tables_of l.scripts)
    × (loaded_names l.scripts ≡ line_names (take l.line-index l.lines))
    × (length l.scripts ≡ l.line-index)
    × (IsTrue g.F.Files.tells → ReadsLines (take l.line-index l.lines) (g.F.Files.contents l.fn.files) (g.F.Files.contents l.files)
    (g.F.Files.reads l.fn.files) (g.F.Files.reads l.files))
