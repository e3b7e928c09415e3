-- The bytes that are kept, wherever they are.
use Rattle.std.specs.Prelude.{ℕ, List}
use Rattle.shared_bytes.specs.declared.shared.Place.{Place}
use Rattle.shared_bytes.specs.declared.shared.Place.TheVariants.{Own, Shared}

abbrev pub bytes_at : Place → List ℕ
bytes_at (Own bytes) = bytes
bytes_at (Shared text) = text
