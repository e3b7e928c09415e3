-- The lines that tell what was done to a file.
use Rattle.std.specs.Prelude.{ℕ, List, ◌++◌, codes, decimal}
use Rattle.nwq_text.specs.Escape.{escaped}

-- what was done, to which file, and a number
abbrev pub done_line : List ℕ → List ℕ → ℕ → List ℕ
done_line done name count = done ++ escaped name ++ codes " " ++ decimal count ++ codes "\n"

-- the file of this name has the text of so many instructions
abbrev pub disassembled_line : List ℕ → ℕ → List ℕ
disassembled_line name count = done_line (codes "disassembled ") name count

-- the file of this name has so many bytes of code
abbrev pub assembled_line : List ℕ → ℕ → List ℕ
assembled_line name size = done_line (codes "assembled ") name size
