-- The six sections of a written file lie where its header says.
use Rattle.std.proofs.Common.{◌≡◌, ◌≤◌, ◌<◌, ◌+◌, ◌*◌, ℕ, Bool, true, false, cond, List, ◌++◌, length, Option, Some, None, refl, sym, ap, ◌∙◌, arith}
use Rattle.std.specs.Prelude.{codes}
use Rattle.std.proofs.lemmas.Bool.{le-ltb}
use Rattle.std.proofs.lemmas.List.{length-append}
use Rattle.std.specs.Str.{bytes_eq}
use Rattle.gff_bytes.specs.declared.rows.OpenFault.{OpenFault}
use Rattle.gff_bytes.specs.declared.rows.Part.{Part}
use Rattle.gff_bytes.specs.declared.rows.Part.TheVariants as part
use Rattle.gff_bytes.specs.File.{header_place, row_bytes, start_of, count_of, row_place, passes_end, has_version, open_fault}
use Rattle.gff_write.specs.declared.sections.Sections.{Sections}
use Rattle.gff_write.specs.Flat.{word}
use Rattle.gff_write.specs.File.{section_words, header_of, body_of}
use Rattle.gff_write.proofs.PlaceLemmas.{At, whole_at, front_at, next_at, moved, taken_at, word_length, word_stands, low_is}

-- a section of so many rows lies inside the file
pub record Lies (bytes : List ℕ) (which : Part) (count : ℕ) (xs : List ℕ) : Type 0 where
  pub counted : count_of bytes which ≡ count
  pub at : At bytes (start_of bytes which) xs
  pub inside : start_of bytes which + length xs ≤ length bytes

section_length : (offset count : ℕ) → length (section_words offset count) ≡ 8
section_length offset count = omega (arith, length-append (word offset) (word count), word_length offset, word_length count)

lies : {bytes : List ℕ} (which : Part) (offset count : ℕ) (xs : List ℕ) → At bytes (header_place which) (section_words offset count) →
    At bytes offset xs →
    offset + length xs ≤ length bytes → length bytes ≤ 16777216 → count ≤ 16777216 → Lies bytes which count xs
lies {bytes = bytes} which offset count xs head s inside small few =
    let start : start_of bytes which ≡ offset = word_stands offset (front_at (word offset) (word count) head) ∙ low_is offset (omega arith) in
    let counted : count_of bytes which ≡ count =
    word_stands count (next_at (header_place which + 4) (word offset) (word count) (omega (arith, word_length offset)) head) ∙ low_is count (omega arith) in
    record { counted = counted; at = moved (start_of bytes which) (sym start) s; inside = omega (arith, start) }

-- the six sections of a file with these numbers of structs, fields and labels
pub record Laid (bytes file_type : List ℕ) (s : Sections) (structs fields labels : ℕ) : Type 0 where
  pub kind : At bytes 0 file_type
  pub version : At bytes 4 (codes "V3.2")
  pub struct_part : Lies bytes part.Struct structs s.structs
  pub field_part : Lies bytes part.Field fields s.fields
  pub label_part : Lies bytes part.Label labels s.labels
  pub data_part : Lies bytes part.Data (length s.data_bytes) s.data_bytes
  pub index_part : Lies bytes part.Index (length s.indices) s.indices
  pub list_part : Lies bytes part.List (length s.lists) s.lists

-- eight parts of a header, one after the other
record Heads (bytes t v a b c d e f : List ℕ) : Type 0 where
  kind : At bytes 0 t
  version : At bytes 4 v
  structs : At bytes 8 a
  fields : At bytes 16 b
  labels : At bytes 24 c
  datas : At bytes 32 d
  indices : At bytes 40 e
  lists : At bytes 48 f

heads : {bytes : List ℕ} (t v a b c d e f : List ℕ) → length t ≡ 4 → length v ≡ 4 → length a ≡ 8 → length b ≡ 8 → length c ≡ 8 →
    length d ≡ 8 → length e ≡ 8 →
    At bytes 0 (t ++ v ++ a ++ b ++ c ++ d ++ e ++ f) → Heads bytes t v a b c d e f
heads t v a b c d e f lt lv la lb lc ld le s =
    let l1 : length (t ++ v) ≡ 8 = omega (arith, length-append t v) in
    let l2 : length (t ++ v ++ a) ≡ 16 = omega (arith, length-append (t ++ v) a) in
    let l3 : length (t ++ v ++ a ++ b) ≡ 24 = omega (arith, length-append (t ++ v ++ a) b) in
    let l4 : length (t ++ v ++ a ++ b ++ c) ≡ 32 = omega (arith, length-append (t ++ v ++ a ++ b) c) in
    let l5 : length (t ++ v ++ a ++ b ++ c ++ d) ≡ 40 = omega (arith, length-append (t ++ v ++ a ++ b ++ c) d) in
    let l6 : length (t ++ v ++ a ++ b ++ c ++ d ++ e) ≡ 48 = omega (arith, length-append (t ++ v ++ a ++ b ++ c ++ d) e) in
    let s6 = front_at (t ++ v ++ a ++ b ++ c ++ d ++ e) f s in
    let s5 = front_at (t ++ v ++ a ++ b ++ c ++ d) e s6 in
    let s4 = front_at (t ++ v ++ a ++ b ++ c) d s5 in
    let s3 = front_at (t ++ v ++ a ++ b) c s4 in
    let s2 = front_at (t ++ v ++ a) b s3 in
    let s1 = front_at (t ++ v) a s2 in
    record {
      kind = front_at t v s1;
      version = next_at 4 t v (omega arith) s1;
      structs = next_at 8 (t ++ v) a (omega arith) s2;
      fields = next_at 16 (t ++ v ++ a) b (omega arith) s3;
      labels = next_at 24 (t ++ v ++ a ++ b) c (omega arith) s4;
      datas = next_at 32 (t ++ v ++ a ++ b ++ c) d (omega arith) s5;
      indices = next_at 40 (t ++ v ++ a ++ b ++ c ++ d) e (omega arith) s6;
      lists = next_at 48 (t ++ v ++ a ++ b ++ c ++ d ++ e) f (omega arith) s;
    }

-- six lists one after the other, from a place on
record Bodies (bytes : List ℕ) (place : ℕ) (a b c d e f : List ℕ) : Type 0 where
  structs : At bytes place a
  fields : At bytes (place + length a) b
  labels : At bytes (place + length a + length b) c
  datas : At bytes (place + length a + length b + length c) d
  indices : At bytes (place + length a + length b + length c + length d) e
  lists : At bytes (place + length a + length b + length c + length d + length e) f
  long : length (a ++ b ++ c ++ d ++ e ++ f) ≡ length a + length b + length c + length d + length e + length f

bodies : {bytes : List ℕ} {place : ℕ} (a b c d e f : List ℕ) → At bytes place (a ++ b ++ c ++ d ++ e ++ f) → Bodies bytes place a b c d e f
bodies {place = place} a b c d e f s =
    let l2 = length-append a b in
    let l3 = length-append (a ++ b) c in
    let l4 = length-append (a ++ b ++ c) d in
    let l5 = length-append (a ++ b ++ c ++ d) e in
    let l6 = length-append (a ++ b ++ c ++ d ++ e) f in
    let s5 = front_at (a ++ b ++ c ++ d ++ e) f s in
    let s4 = front_at (a ++ b ++ c ++ d) e s5 in
    let s3 = front_at (a ++ b ++ c) d s4 in
    let s2 = front_at (a ++ b) c s3 in
    record {
      structs = front_at a b s2;
      fields = next_at _ a b refl s2;
      labels = next_at _ (a ++ b) c (omega (arith, l2)) s3;
      datas = next_at _ (a ++ b ++ c) d (omega (arith, l2, l3)) s4;
      indices = next_at _ (a ++ b ++ c ++ d) e (omega (arith, l2, l3, l4)) s5;
      lists = next_at _ (a ++ b ++ c ++ d ++ e) f (omega (arith, l2, l3, l4, l5)) s;
      long = omega (arith, l2, l3, l4, l5, l6);
    }

pub header_length : (file_type : List ℕ) (s : Sections) (structs fields labels : ℕ) → length file_type ≡ 4 →
    length (header_of file_type s structs fields labels) ≡ 56
unfolding header_of
header_length file_type s structs fields labels four =
    all file_type (codes "V3.2") (section_words 56 structs) _ _ _ _ _ four refl (section_length _ _)
    (section_length _ _) (section_length _ _) (section_length _ _) (section_length _ _) (section_length _ _)
  where
    all : (t v a b c d e f : List ℕ) → length t ≡ 4 → length v ≡ 4 → length a ≡ 8 → length b ≡ 8 → length c ≡ 8 → length d ≡ 8 →
        length e ≡ 8 → length f ≡ 8 →
        length (t ++ v ++ a ++ b ++ c ++ d ++ e ++ f) ≡ 56
    all t v a b c d e f lt lv la lb lc ld le lf =
        omega (
          arith,
          length-append t v,
          length-append (t ++ v) a,
          length-append (t ++ v ++ a) b,
          length-append (t ++ v ++ a ++ b) c,
          length-append (t ++ v ++ a ++ b ++ c) d,
          length-append (t ++ v ++ a ++ b ++ c ++ d) e,
          length-append (t ++ v ++ a ++ b ++ c ++ d ++ e) f,
        )

pub laid : (file_type : List ℕ) (s : Sections) (structs fields labels : ℕ) → length file_type ≡ 4 → structs ≤ 16777216 → fields ≤ 16777216 →
    labels ≤ 16777216 →
    length (header_of file_type s structs fields labels ++ body_of s) ≤ 16777216 →
    Laid (header_of file_type s structs fields labels ++ body_of s) file_type s structs fields labels
unfolding header_of
laid file_type s structs fields labels four few_structs few_fields few_labels small =
    let header = header_of file_type s structs fields labels in
    let bytes = header ++ body_of s in
    let all : At bytes 0 bytes = whole_at bytes in
    let long : length header ≡ 56 = header_length file_type s structs fields labels four in
    let size : length bytes ≡ length header + length (body_of s) = length-append header (body_of s) in
    let head = heads {bytes = bytes} file_type (codes "V3.2") (section_words 56 structs) (section_words (56 + length s.structs) fields) (section_words (56 + length s.structs + length s.fields) labels)
    (section_words (56 + length s.structs + length s.fields + length s.labels) (length s.data_bytes))
    (section_words (56 + length s.structs + length s.fields + length s.labels + length s.data_bytes) (length s.indices))
    (section_words (56 + length s.structs + length s.fields + length s.labels + length s.data_bytes + length s.indices) (length s.lists))
    four refl (section_length _ _) (section_length _ _) (section_length _ _) (section_length _ _) (section_length _ _) (front_at header (body_of s) all) in
    let body = bodies s.structs s.fields s.labels s.data_bytes s.indices s.lists (next_at {place = 0} 56 header (body_of s) (omega (arith, long)) all) in
    let sum = body.long in
    record {
      kind = head.kind;
      version = head.version;
      struct_part = lies part.Struct 56 structs s.structs head.structs body.structs (omega (arith, long, size, sum)) small few_structs;
      field_part = lies part.Field _ fields s.fields head.fields body.fields (omega (arith, long, size, sum)) small few_fields;
      label_part = lies part.Label _ labels s.labels head.labels body.labels (omega (arith, long, size, sum)) small few_labels;
      data_part = lies part.Data _ (length s.data_bytes) s.data_bytes head.datas body.datas (omega (arith, long, size, sum)) small (omega (arith, long, size, sum));
      index_part = lies part.Index _ (length s.indices) s.indices head.indices body.indices (omega (arith, long, size, sum)) small (omega (arith, long, size, sum));
      list_part = lies part.List _ (length s.lists) s.lists head.lists body.lists (omega (arith, long, size, sum)) small (omega (arith, long, size, sum));
    }

clear : (b : Bool) (fault : OpenFault) (more : Option OpenFault) → b ≡ false → more ≡ None → cond b (Some fault) more ≡ None
clear true fault more e none = absurd cc
clear false fault more e none = none

held : (b : Bool) (fault : OpenFault) (more : Option OpenFault) → b ≡ true → more ≡ None → cond b more (Some fault) ≡ None
held true fault more e none = none
held false fault more e none = absurd cc

ends : {bytes : List ℕ} (which : Part) (count : ℕ) (xs : List ℕ) → length xs ≡ row_bytes which * count → Lies bytes which count xs →
    passes_end bytes which ≡ false
ends {bytes = bytes} which count xs long s =
    let same : row_bytes which * count_of bytes which ≡ length xs = ap (λ (n : ℕ). row_bytes which * n) s.counted ∙ sym long in
    le-ltb (length bytes) (row_place bytes which (count_of bytes which)) (omega (arith, same, s.inside))

-- a laid file opens
pub opens : {bytes : List ℕ} (file_type : List ℕ) (s : Sections) (structs fields labels : ℕ) → 56 ≤ length bytes →
    length s.structs ≡ 12 * structs → length s.fields ≡ 12 * fields → length s.labels ≡ 16 * labels →
    Laid bytes file_type s structs fields labels → open_fault bytes ≡ None
unfolding open_fault
opens {bytes = bytes} file_type s structs fields labels head long_structs long_fields long_labels l =
    let version : has_version bytes ≡ true = ap (λ (v : List ℕ). bytes_eq v (codes "V3.2")) (taken_at 4 (codes "V3.2") refl l.version) in
    clear _ _ _ (le-ltb (length bytes) 56 head) (held _ _ _ version
    (clear _ _ _ (ends part.Struct structs s.structs long_structs l.struct_part)
    (clear _ _ _ (ends part.Field fields s.fields long_fields l.field_part)
    (clear _ _ _ (ends part.Label labels s.labels long_labels l.label_part)
    (clear _ _ _ (ends part.Data (length s.data_bytes) s.data_bytes (omega arith) l.data_part)
    (clear _ _ _ (ends part.Index (length s.indices) s.indices (omega arith) l.index_part)
    (clear _ _ _ (ends part.List (length s.lists) s.lists (omega arith) l.list_part) refl)))))))

-- each count of a laid file is small
pub counts_small : {bytes : List ℕ} (file_type : List ℕ) (s : Sections) (structs fields labels : ℕ) →
    Laid bytes file_type s structs fields labels → structs ≤ 16777216 → fields ≤ 16777216 → labels ≤ 16777216 →
    length bytes ≤ 16777216 → (which : Part) → count_of bytes which < 4294967296
counts_small file_type s structs fields labels l a b c small part.Struct = let count = l.struct_part.counted in omega arith
counts_small file_type s structs fields labels l a b c small part.Field = let count = l.field_part.counted in omega arith
counts_small file_type s structs fields labels l a b c small part.Label = let count = l.label_part.counted in omega arith
counts_small file_type s structs fields labels l a b c small part.Data = let count = l.data_part.counted in let inside = l.data_part.inside in omega arith
counts_small file_type s structs fields labels l a b c small part.Index = let count = l.index_part.counted in let inside = l.index_part.inside in omega arith
counts_small file_type s structs fields labels l a b c small part.List = let count = l.list_part.counted in let inside = l.list_part.inside in omega arith

-- no section is longer than the file
pub record AreWithin (s : Sections) (size : ℕ) : Type 0 where
  pub structs : length s.structs ≤ size
  pub fields : length s.fields ≤ size
  pub labels : length s.labels ≤ size

pub sections_within : (header : List ℕ) (s : Sections) → AreWithin s (length (header ++ body_of s))
sections_within header s =
    let all = length-append header (body_of s) in
    let l2 = length-append s.structs s.fields in
    let l3 = length-append (s.structs ++ s.fields) s.labels in
    let l4 = length-append (s.structs ++ s.fields ++ s.labels) s.data_bytes in
    let l5 = length-append (s.structs ++ s.fields ++ s.labels ++ s.data_bytes) s.indices in
    let l6 = length-append (s.structs ++ s.fields ++ s.labels ++ s.data_bytes ++ s.indices) s.lists in
    record { structs = omega (arith, all, l2, l3, l4, l5, l6); fields = omega (arith, all, l2, l3, l4, l5, l6); labels = omega (arith, all, l2, l3, l4, l5, l6) }
