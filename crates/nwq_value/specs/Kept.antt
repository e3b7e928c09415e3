-- The bytes of a text, wherever they are kept.
use Rattle.std.specs.Prelude.{ℕ, List}
use Rattle.nwq_value.specs.declared.kept.Kept.{Kept}
use Rattle.nwq_value.specs.declared.kept.Kept.TheVariants.{Few, Many}

abbrev pub bytes_of : Kept → List ℕ
bytes_of (Few bytes) = bytes
bytes_of (Many bytes) = bytes.items
