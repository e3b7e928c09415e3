-- The words for what is wrong with a file that is no source text.
use Rattle.std.specs.Prelude.{ℕ, List, ◌++◌, codes, decimal}
use Rattle.gff_bytes.specs.declared.rows.Part.{Part}
use Rattle.gff_bytes.specs.declared.rows.Part.TheVariants as part
use Rattle.command_work.specs.declared.flaw.CodeFlaw.{CodeFlaw}
use Rattle.command_work.specs.declared.flaw.CodeFlaw.TheVariants as code
use Rattle.command_work.specs.declared.flaw.AreaFlaw.{AreaFlaw}
use Rattle.command_work.specs.declared.flaw.AreaFlaw.TheVariants as area

abbrev pub code_flaw_text : CodeFlaw → List ℕ
code_flaw_text code.Magic = codes "magic"
code_flaw_text code.Length = codes "length"
code_flaw_text code.Unstacked = codes "unstacked"
code_flaw_text (code.Opcode at) = decimal at ++ codes " opcode"
code_flaw_text (code.TypeByte at) = decimal at ++ codes " typebyte"
code_flaw_text (code.Short at) = decimal at ++ codes " short"
code_flaw_text (code.Target at) = decimal at ++ codes " target"
code_flaw_text (code.Line number) = codes "line " ++ decimal number
code_flaw_text (code.LineTarget number) = codes "target " ++ decimal number
code_flaw_text (code.Large size) = codes "large " ++ decimal size

abbrev pub part_word : Part → List ℕ
part_word part.Struct = codes "struct"
part_word part.Field = codes "field"
part_word part.Label = codes "label"
part_word part.Data = codes "data"
part_word part.Index = codes "index"
part_word part.List = codes "list"

abbrev pub range_text : Part → ℕ → List ℕ
range_text which at = codes "range " ++ part_word which ++ codes " " ++ decimal at

abbrev pub shape_text : ℕ → ℕ → ℕ → List ℕ
shape_text list member entry = codes "shape " ++ decimal list ++ codes " " ++ decimal member
    ++ codes " " ++ decimal entry

abbrev pub area_flaw_text : AreaFlaw → List ℕ
area_flaw_text area.Short = codes "short"
area_flaw_text area.Version = codes "version"
area_flaw_text (area.Section number) = codes "section " ++ decimal number
area_flaw_text (area.Range which at) = range_text which at
area_flaw_text (area.Type field) = codes "type " ++ decimal field
area_flaw_text (area.Shared at) = codes "shared " ++ decimal at
area_flaw_text (area.Deep at) = codes "deep " ++ decimal at
area_flaw_text (area.Label field) = codes "label " ++ decimal field
area_flaw_text (area.Shape list member entry) = shape_text list member entry
area_flaw_text (area.Line number) = codes "line " ++ decimal number
area_flaw_text (area.Large size) = codes "large " ++ decimal size
area_flaw_text (area.State at) = codes "state " ++ decimal at
area_flaw_text (area.Unfit rule) = codes "unfit " ++ decimal rule
