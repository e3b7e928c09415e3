use Rattle.std.proofs.Common.{rules, ◌≡◌, ap, refl}
use Rattle.real_files.proofs.RealLemmas.{told_read, told_long, told_missing}
use Rattle.real_files.proofs.real.RealFilesFiles.read.Goals as goal

pub returns-in-Ok-clause-content : goal.returns-in-Ok-clause-content
returns-in-Ok-clause-content g c = λ tells.
    let here : c.self.inside.disk ≡ c.args.self.now.disk = search rules in
    told_long g.D.Disk.tells (g.D.Disk.names c.args.self.now.disk) c.args.name.now (g.D.Disk.names c.self.inside.disk) c.in-Ok.bytes.items 16777217 tells
    (ap g.D.Disk.names here) (c.in-Ok.ensures.bytes tells) (search rules)

pub returns-in-Ok-2-clause-content : goal.returns-in-Ok-2-clause-content
returns-in-Ok-2-clause-content g c = λ tells.
    let here : c.self.inside.disk ≡ c.args.self.now.disk = search rules in
    told_read g.D.Disk.tells (g.D.Disk.names c.args.self.now.disk) c.args.name.now (g.D.Disk.names c.self.inside.disk) c.in-Ok.bytes.items 16777217 tells
    (ap g.D.Disk.names here) (c.in-Ok.ensures.bytes tells) refl (search rules)

pub returns-in-Err-Absent-clause-content : goal.returns-in-Err-Absent-clause-content
returns-in-Err-Absent-clause-content g c = λ tells.
    told_missing g.D.Disk.tells (g.D.Disk.names c.args.self.now.disk) c.args.name.now tells (search rules)
