-- What the header's tests give: each section lies inside the file.
use Rattle.std.proofs.Common.{◌≡◌, ◌≤◌, ◌+◌, ◌*◌, ℕ, List, length, Bool, true, false, cond, Option, Some, None, refl}
use Rattle.std.proofs.lemmas.Bool.{ltb-false}
use Rattle.gff_bytes.specs.File.{open_fault, section_fault, passes_end, row_place, count_of, start_of}
use Rattle.gff_bytes.specs.declared.rows.OpenFault.{OpenFault}
use Rattle.gff_bytes.specs.declared.rows.Part.{Part}
use Rattle.gff_bytes.specs.declared.rows.Part.TheVariants.{Struct, Field, Label, Data, Index, List as ListPart}

-- a test that gave no fault, and what came after it
passed : (b : Bool) (fault : OpenFault) (more : Option OpenFault) → cond b (Some fault) more ≡ None → (b ≡ false) × (more ≡ None)
passed true fault more e = absurd cc
passed false fault more e = (refl, e)

held : (b : Bool) (fault : OpenFault) (more : Option OpenFault) → cond b more (Some fault) ≡ None → more ≡ None
held true fault more e = e
held false fault more e = absurd cc

pub header_fits : (bytes : List ℕ) → open_fault bytes ≡ None → 56 ≤ length bytes
unfolding open_fault
header_fits bytes clear = ltb-false _ _ (passed _ _ _ clear).0

no_section : (bytes : List ℕ) → open_fault bytes ≡ None → section_fault bytes ≡ None
unfolding open_fault
no_section bytes clear = held _ _ _ (passed _ _ _ clear).1

inside : (bytes : List ℕ) (part : Part) → section_fault bytes ≡ None → passes_end bytes part ≡ false
inside bytes Struct none = (passed (passes_end bytes Struct) _ _ none).0
inside bytes Field none = (passed (passes_end bytes Field) _ _ (passed (passes_end bytes Struct) _ _ none).1).0
inside bytes Label none = (passed (passes_end bytes Label) _ _ (passed (passes_end bytes Field) _ _ (passed (passes_end bytes Struct) _ _ none).1).1).0
inside bytes Data none = (passed (passes_end bytes Data) _ _ (passed (passes_end bytes Label) _ _ (passed (passes_end bytes Field) _ _ (passed (passes_end bytes Struct) _ _ none).1).1).1).0
inside bytes Index none =
    (passed (passes_end bytes Index) _ _
    (passed (passes_end bytes Data) _ _
    (passed (passes_end bytes Label) _ _
    (passed (passes_end bytes Field) _ _ (passed (passes_end bytes Struct) _ _ none).1).1).1).1).0
inside bytes ListPart none =
    (passed (passes_end bytes ListPart) _ _
    (passed (passes_end bytes Index) _ _
    (passed (passes_end bytes Data) _ _
    (passed (passes_end bytes Label) _ _
    (passed (passes_end bytes Field) _ _ (passed (passes_end bytes Struct) _ _ none).1).1).1).1).1).0

section_fits : (bytes : List ℕ) (part : Part) → open_fault bytes ≡ None → row_place bytes part (count_of bytes part) ≤ length bytes
section_fits bytes part clear = ltb-false _ _ (inside bytes part (no_section bytes clear))

pub struct_fits : (bytes : List ℕ) → open_fault bytes ≡ None → start_of bytes Struct + 12 * count_of bytes Struct ≤ length bytes
struct_fits bytes clear = section_fits bytes Struct clear

pub field_fits : (bytes : List ℕ) → open_fault bytes ≡ None → start_of bytes Field + 12 * count_of bytes Field ≤ length bytes
field_fits bytes clear = section_fits bytes Field clear

pub label_fits : (bytes : List ℕ) → open_fault bytes ≡ None → start_of bytes Label + 16 * count_of bytes Label ≤ length bytes
label_fits bytes clear = section_fits bytes Label clear

pub data_fits : (bytes : List ℕ) → open_fault bytes ≡ None → start_of bytes Data + 1 * count_of bytes Data ≤ length bytes
data_fits bytes clear = section_fits bytes Data clear

pub index_fits : (bytes : List ℕ) → open_fault bytes ≡ None → start_of bytes Index + 1 * count_of bytes Index ≤ length bytes
index_fits bytes clear = section_fits bytes Index clear

pub list_fits : (bytes : List ℕ) → open_fault bytes ≡ None → start_of bytes ListPart + 1 * count_of bytes ListPart ≤ length bytes
list_fits bytes clear = section_fits bytes ListPart clear
