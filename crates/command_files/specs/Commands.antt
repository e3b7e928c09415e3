-- The commands that turn a file into a text, or a text into a file.
use Rattle.std.specs.Prelude.{ℕ, List, length}
use Rattle.gff_tree.specs.Whole.{PlainGff}
use Rattle.gff_text.specs.Text.{tree_text}
use Rattle.ncs_code.specs.Plain.{PlainOp}
use Rattle.ncs_text.specs.Listing.{listing}
use Rattle.command_work.specs.Work.{Work, then, Finished, puts, writes}
use Rattle.command_files.specs.Texts.{disassembled_line, assembled_line}
use Rattle.command_files.specs.Trees.{tree_named}
use Rattle.command_files.specs.Codes.{code_named}
use Rattle.command_files.specs.Assemblies.{assembly_named}

-- the tree of a GFF file is shown
abbrev pub puts_tree : PlainGff → Work Finished
puts_tree tree = puts (tree_text tree)

unfoldable pub shows_tree : List ℕ → Work Finished
shows_tree file = then (tree_named file) puts_tree

-- a file is written, and then a line is put
unfoldable pub writes_and_puts : List ℕ → List ℕ → List ℕ → Work Finished
writes_and_puts name bytes line = then (writes name bytes) (λ done. puts line)

-- the text of instructions is written
abbrev pub writes_listing : List ℕ → List PlainOp → Work Finished
writes_listing to ops = writes_and_puts to (listing ops) (disassembled_line to (length ops))

unfoldable pub disassembles : List ℕ → List ℕ → Work Finished
disassembles file to = then (code_named file) (writes_listing to)

-- the file of a text is written
abbrev pub writes_assembly : List ℕ → List ℕ → Work Finished
writes_assembly to file = writes_and_puts to file (assembled_line to (length file))

unfoldable pub assembles : List ℕ → List ℕ → Work Finished
assembles file to = then (assembly_named file) (writes_assembly to)
