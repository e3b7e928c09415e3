-- The file of a tree stands for the tree, and for no other.
use Rattle.std.proofs.Common.{◌≡◌, ◌≤◌, ◌+◌, ◌-◌, ◌*◌, ◌^◌, min, ℕ, Bool, true, false, cond, List, [], length, Result, Ok, Err, refl, sym, subst, arith}
use Rattle.std.specs.Prelude.{nat_lt, IfOk}
use Rattle.std.specs.declared.vec.Vec.{Vec}
use Rattle.std.specs.declared.alloc.Global.{Global}
use Rattle.std.proofs.lemmas.Bool.{ltb-false}
use Rattle.std.proofs.lemmas.List.{length-append}
use Rattle.gff_bytes.specs.declared.rows.Part.TheVariants as part
use Rattle.gff_bytes.specs.File.{start_of}
use Rattle.gff_tree.specs.Tree.{is_sound}
use Rattle.gff_tree.specs.Whole.{PlainGff}
use Rattle.gff_read.specs.Stands.{Stands, OneTree}
use Rattle.nwq_value.specs.Limits.{file_limit}
use Rattle.gff_write.specs.declared.fault.WriteFault.{WriteFault}
use Rattle.gff_write.specs.declared.fault.WriteFault.TheVariants as fault
use Rattle.gff_tree.specs.Count.{node_count}
use Rattle.gff_write.specs.Flat.{rows_of}
use Rattle.gff_write.specs.File.{row_labels, parts_of, header_of, body_of, field_count, written_rows, written, outcome_of, Gives}
use Rattle.gff_write.specs.Laws.{IsTree, WrittenStands}
use Rattle.gff_write.proofs.FlatLemmas.{rows_length}
use Rattle.gff_write.proofs.PlaceLemmas.{At, moved, taken_at}
use Rattle.gff_write.proofs.SectionLemmas.{Lies, Laid, laid, opens, counts_small, sections_within, header_length}
use Rattle.gff_write.proofs.RowLemmas.{In, rows_at, structs_length, fields_length}
use Rattle.gff_write.proofs.LabelStands.{AreFull, rows_has, full_rows, rows_full, joined_length, labels_at}
use Rattle.gff_write.proofs.TreeStands.{upto, upto_distinct, node_stands}

begins : {bytes : List ℕ} {place : ℕ} (rows : ℕ) (xs : List ℕ) → At bytes place xs → At bytes (place + rows * 0) xs
begins {place = place} rows xs s = moved (place + rows * 0) (omega arith) s

begins_in : {bytes : List ℕ} {xs : List ℕ} → (which : _) → Lies bytes which (length xs) xs → In bytes which 0 xs
begins_in {bytes = bytes} which s =
    let count = s.counted in
    record { at = moved (start_of bytes which + 0) (omega arith) s.at; room = omega arith }

pub written_stands : WrittenStands
unfolding written_rows is_sound
written_stands gff is small =
    let rows = rows_of 0 gff.top in
    let table = row_labels [] rows in
    let s = parts_of rows in
    let bytes = written gff in
    let header = header_of gff.file_type s (length rows) (field_count rows) (length table) in
    let full : AreFull table = full_rows [] rows tt (rows_full 0 gff.top is.ranges) in
    let long_structs : length s.structs ≡ 12 * length rows = structs_length 0 0 rows in
    let long_fields : length s.fields ≡ 12 * field_count rows = fields_length table 0 0 rows in
    let long_labels : length s.labels ≡ 16 * length table = joined_length table full in
    let within = sections_within header s in
    let few_structs : length rows ≤ 16777216 = omega (arith, within.structs, small, long_structs) in
    let few_fields : field_count rows ≤ 16777216 = omega (arith, within.fields, small, long_fields) in
    let few_labels : length table ≤ 16777216 = omega (arith, within.labels, small, long_labels) in
    let l : Laid bytes gff.file_type s (length rows) (field_count rows) (length table) =
    laid gff.file_type s (length rows) (field_count rows) (length table) is.file_type few_structs few_fields few_labels small in
    let counts = counts_small gff.file_type s (length rows) (field_count rows) (length table) l few_structs few_fields few_labels small in
    let labelled = labels_at table rows l.label_part full few_labels (rows_full 0 gff.top is.ranges) (rows_has [] rows) in
    let at =
    rows_at table 0 0 0 0 0 rows counts labelled
    (begins 12 s.structs l.struct_part.at) (omega (arith, l.struct_part.counted))
    (begins 12 s.fields l.field_part.at) (omega (arith, l.field_part.counted))
    (begins_in part.Index l.index_part) (begins_in part.Data l.data_part) (begins_in part.List l.list_part) in
    let nodes = rows_length 0 gff.top in
    let head : 56 ≤ length bytes = omega (arith, length-append header (body_of s), header_length gff.file_type s (length rows) (field_count rows) (length table) is.file_type) in
    record {
      uses = upto 0 (node_count gff.top);
      opens = opens gff.file_type s (length rows) (field_count rows) (length table) head long_structs long_fields long_labels l;
      file_type = sym (taken_at {place = 0} 4 gff.file_type is.file_type l.kind);
      top = node_stands bytes counts 64 0 gff.top is.sound is.ranges (omega (arith, nodes, few_structs)) at;
      distinct = upto_distinct (node_count gff.top) 0 [] tt;
    }

abbrev bounded : Bool → WriteFault → List ℕ → Result (List ℕ) WriteFault
bounded b fault bytes = cond b (Err fault) (Ok bytes)

-- the bytes of a file that is no larger than a file may be
given : (b : Bool) (fault : WriteFault) (bytes found : List ℕ) → bounded b fault bytes ≡ Ok found → (b ≡ false) × (bytes ≡ found)
given true fault bytes found e = absurd cc
given false fault bytes found e = (refl, cc)

-- what is handed out stands for the tree
pub written_ok : (gff : PlainGff) (r : Result (Vec ℕ Global) WriteFault) → IsTree gff →
    Gives (λ (v : Vec ℕ Global). v.items) r (outcome_of (written gff)) → IfOk r (λ (v : Vec ℕ Global). Stands v.items gff)
unfolding outcome_of
written_ok gff (Ok v) is gives =
    let parts = given (nat_lt file_limit (length (written gff))) (fault.Large (min (length (written gff)) (2 ^ 64 - 1))) (written gff) v.items gives in
    subst (λ (bytes : List ℕ). Stands bytes gff) parts.1 (written_stands gff is (ltb-false file_limit (length (written gff)) parts.0))
written_ok gff (Err e) is gives = tt

pub written_again : OneTree → (gff : PlainGff) (r : Result (Vec ℕ Global) WriteFault) → IfOk r (λ (v : Vec ℕ Global). Stands v.items gff) →
    IfOk r (λ (v : Vec ℕ Global). (other : PlainGff) → Stands v.items other → other ≡ gff)
written_again one gff (Ok v) stands = λ (other : PlainGff) (too : Stands v.items other). one v.items other gff too stands
written_again one gff (Err e) stands = tt
