use Rattle.std.proofs.Common.{◌≡◌, ◌<◌, length, true, rules, arith}
use Rattle.std.specs.Str.{bytes_eq}
use Rattle.hook_table.proofs.PlaceLemmas.{place_here, no_place}
use Rattle.hook_table.proofs.hooks.find_in.Goals as goal

pub returns-then-eq : goal.returns-then-eq
returns-then-eq g c =
    let inside : c.loop-i.i < length c.args.hooks.now = omega arith in
    let passes : bytes_eq c.index-hooks-i.result.known.name c.args.name.now ≡ true = search rules in
    record {
      first = place_here (λ h. bytes_eq h.known.name c.args.name.now) c.args.hooks.now c.loop-i.i c.index-hooks-i.result inside c.index-hooks-i.is
          passes c.loop-i.invariant;
    }

pub returns : goal.returns
returns g c =
    let end : c.loop-i.i ≡ length c.args.hooks.now = omega arith in
    record { first = no_place (λ h. bytes_eq h.known.name c.args.name.now) c.args.hooks.now c.loop-i.i end c.loop-i.invariant }
