use Rattle.std.proofs.Common.{◌≡◌, drop}
use Rattle.std.specs.List.{position_from}
use Rattle.std.specs.Str.{bytes_eq}
use Rattle.hook_table.proofs.hooks.find_in.Given as goal

abbrev pub invariant-loop-i : goal.invariant-loop-i
invariant-loop-i g l =
    position_from (λ h. bytes_eq h.known.name l.name) l.i (drop l.i l.hooks) ≡ position_from (λ h. bytes_eq h.known.name l.name) 0 l.hooks
