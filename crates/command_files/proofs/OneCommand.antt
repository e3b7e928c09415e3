-- Each command over files has one outcome.
use Rattle.std.proofs.Common.{ℕ, List, length}
use Rattle.gff_text.specs.Text.{tree_text}
use Rattle.ncs_text.specs.Listing.{listing}
use Rattle.command_work.specs.Outcomes.{IsSure, sure_then, sure_puts, sure_writes}
use Rattle.command_work.specs.Work.{puts, writes}
use Rattle.command_files.specs.Texts.{disassembled_line, assembled_line}
use Rattle.command_files.specs.Trees.{tree_named}
use Rattle.command_files.specs.Codes.{code_named}
use Rattle.command_files.specs.Assemblies.{assembly_named}
use Rattle.command_files.specs.Commands.{puts_tree, shows_tree, writes_and_puts, writes_listing, disassembles, writes_assembly, assembles}
use Rattle.command_files.specs.Laws.{SureTrees, SureCodes, SureAssemblies, SureCommands}

sure_told : (name bytes line : List ℕ) → IsSure (writes_and_puts name bytes line)
unfolding writes_and_puts
sure_told name bytes line = sure_then (writes name bytes) (λ done. puts line) (sure_writes name bytes) (λ done. sure_puts line)

sure_tree : SureTrees → (file : List ℕ) → IsSure (shows_tree file)
unfolding shows_tree
sure_tree trees file = sure_then (tree_named file) puts_tree (trees file) (λ tree. sure_puts (tree_text tree))

sure_disassembles : SureCodes → (file to : List ℕ) → IsSure (disassembles file to)
unfolding disassembles
sure_disassembles codes file to =
    sure_then (code_named file) (writes_listing to) (codes file) (λ ops. sure_told to (listing ops) (disassembled_line to (length ops)))

sure_assembles : SureAssemblies → (file to : List ℕ) → IsSure (assembles file to)
unfolding assembles
sure_assembles assemblies file to =
    sure_then (assembly_named file) (writes_assembly to) (assemblies file) (λ bytes. sure_told to bytes (assembled_line to (length bytes)))

pub sure_commands : SureTrees → SureCodes → SureAssemblies → SureCommands
sure_commands trees codes assemblies =
    record { tree = sure_tree trees; disassembled = sure_disassembles codes; assembled = sure_assembles assemblies }
