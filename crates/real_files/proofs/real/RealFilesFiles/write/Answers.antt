use Rattle.std.proofs.Common.{rules, ◌≡◌, subst}
use Rattle.real_files.specs.Disk.{place_in}
use Rattle.real_files.specs.Writing.{Replaces}
use Rattle.real_files.proofs.WritingLemmas.{short_whole}
use Rattle.real_files.proofs.RealLemmas.{told_whole, others_whole}
use Rattle.real_files.proofs.real.RealFilesFiles.write.Goals as goal

pub returns-in-Ok-clause-left : goal.returns-in-Ok-clause-left
returns-in-Ok-clause-left g c = λ tells.
    let here : c.self.inside.disk ≡ c.args.self.now.disk = search rules in
    let after = g.D.Disk.names c.put_under.new.disk in
    let whole = subst (λ d. Replaces (g.D.Disk.names d) after (place_in (g.D.Disk.names d) c.args.name.now) c.args.bytes.now) here (c.in-Ok.ensures.ok tells) in
    told_whole (g.D.Disk.names c.args.self.now.disk) after c.args.name.now c.args.bytes.now g.D.Disk.tells tells whole

pub returns-in-Ok-clause-others : goal.returns-in-Ok-clause-others
returns-in-Ok-clause-others g c =
    let here : c.self.inside.disk ≡ c.args.self.now.disk = search rules in
    let after = g.D.Disk.names c.put_under.new.disk in
    others_whole (g.D.Disk.names c.args.self.now.disk) after c.args.name.now c.args.bytes.now g.D.Disk.tells
    (λ tells. subst (λ d. Replaces (g.D.Disk.names d) after (place_in (g.D.Disk.names d) c.args.name.now) c.args.bytes.now) here (c.in-Ok.ensures.ok tells))

pub returns-in-Ok-clause-whole : goal.returns-in-Ok-clause-whole
returns-in-Ok-clause-whole g c = λ tells.
    let here : c.self.inside.disk ≡ c.args.self.now.disk = search rules in
    let after = g.D.Disk.names c.put_under.new.disk in
    let before = g.D.Disk.names c.args.self.now.disk in
    let whole = subst (λ d. Replaces (g.D.Disk.names d) after (place_in (g.D.Disk.names d) c.args.name.now) c.args.bytes.now) here (c.in-Ok.ensures.ok tells) in
    (short_whole before after (place_in before c.args.name.now) c.args.bytes.now whole).whole

pub returns-in-Ok-clause-mode : goal.returns-in-Ok-clause-mode
returns-in-Ok-clause-mode g c = λ tells.
    let here : c.self.inside.disk ≡ c.args.self.now.disk = search rules in
    let after = g.D.Disk.names c.put_under.new.disk in
    let whole = subst (λ d. Replaces (g.D.Disk.names d) after (place_in (g.D.Disk.names d) c.args.name.now) c.args.bytes.now) here (c.in-Ok.ensures.ok tells) in
    whole.mode
