-- What the files hold of a name that is read.
use Rattle.std.specs.Prelude.{◌≡◌, ◌<◌, ◌≤◌, ℕ, List, length, Some, None}
use Rattle.nwq_value.specs.Limits.{file_limit}
use Rattle.nwq_outside.specs.Outside.{Contents, content}
use Rattle.command_work.specs.Refusal.{Refusal, Absent, TooLong}

-- the file of this name is there, has these bytes, and isn't too long to be read
pub record IsRead (c : Contents) (name bytes : List ℕ) : Type 0 where
  pub held : content c name ≡ Some bytes
  pub small : length bytes ≤ file_limit

-- it isn't there, or is too long
pub data IsUnread (c : Contents) (name : List ℕ) : Refusal → Type 0 where
  absent : content c name ≡ None → IsUnread c name (Absent name)
  long : (bytes : List ℕ) → content c name ≡ Some bytes → file_limit < length bytes
      → IsUnread c name (TooLong name)
