-- Finding a terminal, a step at a time.
use Rattle.std.proofs.Common.{◌≡◌, ℕ, ◌+◌, ◌<◌, ◌≤◌, true, false, List, None, Some, length, get_or, drop, refl, ap, add-one, drop-cons, drop_of_length-le}
use Rattle.std.specs.Str.{bytes_eq}
use Rattle.nss_symbols.specs.declared.terminal.Terminal.{Terminal}
use Rattle.nss_symbols.specs.Terminals.{first_written, spelling}

pub written_found : (ms : List Terminal) (text : List ℕ) (i : ℕ) (d : Terminal) → i < length ms → bytes_eq (spelling (get_or ms i d)) text ≡ true
    → first_written (drop i ms) text ≡ Some (get_or ms i d)
written_found ms text i d h e = rw (drop-cons ms i d) (rw e refl)

pub written_other : (ms : List Terminal) (text : List ℕ) (i : ℕ) (d : Terminal) → i < length ms → bytes_eq (spelling (get_or ms i d)) text ≡ false
    → first_written (drop i ms) text ≡ first_written (drop (i + 1) ms) text
written_other ms text i d h e = rw (add-one, drop-cons ms i d) (rw e refl)

pub written_end : (ms : List Terminal) (text : List ℕ) (i : ℕ) → length ms ≤ i → first_written (drop i ms) text ≡ None
written_end ms text i h = ap (λ l. first_written l text) (drop_of_length-le ms h)
