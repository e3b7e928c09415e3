-- The words that lines begin with.
use Rattle.std.specs.Prelude.{ℕ, List, codes, bytes_eq, if◌then◌else◌, Option, Some, None}
use Rattle.std.specs.Option.{option_map}
use Rattle.nwq_text.specs.Cuts.{cut_at}

pub data Word : Type 0 where
  Limit : Word
  Entries : Word
  Until : Word
  Random : Word
  Script : Word
  Binary : Word
  Event : Word
  Start : Word

abbrev pub spelled : Word → List ℕ
spelled Limit = codes "limit"
spelled Entries = codes "entries"
spelled Until = codes "until"
spelled Random = codes "random"
spelled Script = codes "script"
spelled Binary = codes "binary"
spelled Event = codes "event"
spelled Start = codes "start"

-- the word of this spelling
unfoldable pub word_named : List ℕ → Option Word
word_named word =
    if bytes_eq word (codes "limit") then Some Limit
    else (if bytes_eq word (codes "entries") then Some Entries
    else (if bytes_eq word (codes "until") then Some Until
    else (if bytes_eq word (codes "random") then Some Random
    else (if bytes_eq word (codes "script") then Some Script
    else (if bytes_eq word (codes "binary") then Some Binary
    else (if bytes_eq word (codes "event") then Some Event
    else (if bytes_eq word (codes "start") then Some Start else None)))))))

abbrev pub named_in : Option (List ℕ × List ℕ) → Option (Word × List ℕ)
named_in None = None
named_in (Some p) = option_map (λ w. (w, p.1)) (word_named p.0)

-- the word that a line begins with, and what follows the space behind it
abbrev pub head_of : List ℕ → Option (Word × List ℕ)
head_of line = named_in (cut_at 32 line)
