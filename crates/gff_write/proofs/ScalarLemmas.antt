-- A value that holds no struct stands where it is written.
use Rattle.std.proofs.Common.{◌≡◌, ◌≤◌, ◌<◌, ◌+◌, ◌%◌, ℕ, true, List, [], ◌∷◌, ◌++◌, length, take, drop, Ok, Some, refl, sym, ap, subst, ◌∙◌, append_assoc, arith}
use Rattle.std.specs.Prelude.{ℤ, slice_get, nat_le}
use Rattle.std.specs.Int.{w8, w16, w32, w64, cast_signed, cast_unsigned, from_le_bytes}
use Rattle.std.specs.Int.RustNames.{FitsSigned}
use Rattle.std.specs.List.{flat_map}
use Rattle.std.proofs.Math.Nat.{mod-eq_of_lt}
use Rattle.std.proofs.Math.Seq.{take-append_seam}
use Rattle.std.proofs.lemmas.Bool.{le-leb, leb-true, cond-true}
use Rattle.std.proofs.lemmas.Int.{to_z-of_z, ints}
use Rattle.std.proofs.lemmas.List.{append-nil, drop_at, length-append}
use Rattle.std.proofs.lemmas.Nat.{le_bytes_4}
use Rattle.gff_bytes.specs.declared.rows.Part.TheVariants as part
use Rattle.gff_bytes.specs.File.{data_at, count_of}
use Rattle.gff_read.specs.declared.kind.FieldKind.{FieldKind}
use Rattle.gff_read.specs.declared.kind.FieldKind.TheVariants as kind
use Rattle.gff_tree.specs.declared.tree.Loc.{Loc}
use Rattle.gff_tree.specs.declared.tree.LocPart.{LocPart}
use Rattle.gff_read.specs.Rows.{number_in, kinds}
use Rattle.gff_read.specs.Stands.{CountedStands, PartsStand, LocalizedStands, ScalarStands}
use Rattle.gff_tree.specs.Tree as tree
use Rattle.gff_tree.specs.Tree.{Scalar, is_sound_scalar}
use Rattle.gff_write.specs.Flat.{word, wide, length_prefixed, named, part_bytes, scalar_kind, scalar_content}
use Rattle.gff_write.specs.Laws.{AreBytesByPlace, AreParts, IsScalar}
use Rattle.gff_write.proofs.PlaceLemmas.{taken_at, word_length, wide_length, word_reads, wide_reads, low_is}
use Rattle.gff_write.proofs.RowLemmas.{In, front_in, next_in, Small_counts, ContentAt}

abbrev pub kind_for : Scalar → FieldKind
kind_for (tree.Byte n) = kind.Byte
kind_for (tree.Char n) = kind.Char
kind_for (tree.Word n) = kind.Word
kind_for (tree.Short n) = kind.Short
kind_for (tree.Dword n) = kind.Dword
kind_for (tree.Int n) = kind.Int
kind_for (tree.Dword64 n) = kind.Dword64
kind_for (tree.Int64 n) = kind.Int64
kind_for (tree.Float bits) = kind.Float
kind_for (tree.Double bits) = kind.Double
kind_for (tree.Str text) = kind.Str
kind_for (tree.Res text) = kind.Res
kind_for (tree.Localized loc) = kind.Loc
kind_for (tree.Void bytes) = kind.Void

pub kind_read : (s : Scalar) → slice_get kinds (scalar_kind s % 4294967296) ≡ Some (kind_for s)
kind_read (tree.Byte n) = refl
kind_read (tree.Char n) = refl
kind_read (tree.Word n) = refl
kind_read (tree.Short n) = refl
kind_read (tree.Dword n) = refl
kind_read (tree.Int n) = refl
kind_read (tree.Dword64 n) = refl
kind_read (tree.Int64 n) = refl
kind_read (tree.Float bits) = refl
kind_read (tree.Double bits) = refl
kind_read (tree.Str text) = refl
kind_read (tree.Res text) = refl
kind_read (tree.Localized loc) = refl
kind_read (tree.Void bytes) = refl

-- the bits of a signed number fit the width
low8 : (z : ℤ) → FitsSigned w8 z → cast_unsigned w8 z < 256
low8 z fits = omega (arith, ints)

low16 : (z : ℤ) → FitsSigned w16 z → cast_unsigned w16 z < 65536
low16 z fits = omega (arith, ints)

low32 : (z : ℤ) → FitsSigned w32 z → cast_unsigned w32 z < 4294967296
low32 z fits = omega (arith, ints)

low64 : (z : ℤ) → FitsSigned w64 z → cast_unsigned w64 z < 18446744073709551616
low64 z fits = omega (arith, ints)

bits_low : (bits : List ℕ) → AreBytesByPlace bits → from_le_bytes w32 bits < 4294967296
bits_low bits bytes = omega (arith, bytes 0, bytes 1, bytes 2, bytes 3)

low_number : (bound n third : ℕ) → n < bound → bound ≤ 4294967296 → third ≡ n % 4294967296 → third % bound ≡ n
low_number bound n third low small is = ap (λ (m : ℕ). m % bound) (is ∙ low_is n (omega arith)) ∙ mod-eq_of_lt low

word_number : (n : ℕ) → n < 4294967296 → number_in 4 (word n) ≡ n
word_number n low = ap (number_in 4) (sym (append-nil (word n))) ∙ (word_reads n [] ∙ low_is n low)

pub data_reads : {bytes : List ℕ} {offset : ℕ} (count : ℕ) (xs : List ℕ) → length xs ≡ count → In bytes part.Data offset xs →
    data_at bytes offset count ≡ Ok xs
unfolding data_at
data_reads {bytes = bytes} {offset = offset} count xs long s =
    let room = s.room in
    let test : nat_le (offset + count) (count_of bytes part.Data) ≡ true = le-leb _ _ (omega arith) in
    cond-true _ _ _ test ∙ ap Ok (taken_at count xs long s.at)

counted_stands : {bytes : List ℕ} {offset : ℕ} (text : List ℕ) → Small_counts bytes → In bytes part.Data offset (length_prefixed text) →
    CountedStands bytes offset 4 (length text) text
counted_stands {offset = offset} text small s =
    let few = small part.Data in
    let room = s.room in
    let long = length-append (word (length text)) text in
    let head = word_length (length text) in
    let low : length text < 4294967296 = omega arith in (
      (word (length text), data_reads 4 (word (length text)) head (front_in (word (length text)) text s), sym (word_number (length text) low)),
      data_reads (length text) text refl (next_in (offset + 4) (word (length text)) text (omega arith) s),
    )

parts_stand : (parts : List LocPart) → AreParts parts → length (flat_map part_bytes parts) < 4294967296 → PartsStand (flat_map part_bytes parts) parts
parts_stand [] are short = tt
parts_stand (part ∷ parts) are short =
    let text = part.text in
    let id = word (cast_unsigned w32 part.id) in
    let size = word (length text) in
    let rest = flat_map part_bytes parts in
    let bytes = (id ++ (size ++ text)) ++ rest in
    let own : length (id ++ (size ++ text)) ≡ 8 + length text =
    omega (arith, length-append id (size ++ text), length-append size text, word_length (cast_unsigned w32 part.id), word_length (length text)) in
    let long : length bytes ≡ 8 + length text + length rest = omega (arith, length-append (id ++ (size ++ text)) rest, own) in
    let two : length (id ++ size) ≡ 8 = omega (arith, length-append id size, word_length (cast_unsigned w32 part.id), word_length (length text)) in
    let apart : bytes ≡ id ++ (size ++ (text ++ rest)) = simp append_assoc in
    let behind : drop 8 bytes ≡ text ++ rest =
    ap (drop 8) (apart ∙ sym (append_assoc id size (text ++ rest))) ∙ drop_at (id ++ size) (text ++ rest) 8 two in
    let fits : cast_unsigned w32 part.id < 4294967296 = low32 part.id are.0 in
    let identity : number_in 4 bytes ≡ cast_unsigned w32 part.id =
    ap (number_in 4) apart ∙ (word_reads (cast_unsigned w32 part.id) (size ++ (text ++ rest)) ∙ low_is (cast_unsigned w32 part.id) fits) in
    let sized : number_in 4 (drop 4 bytes) ≡ length text =
    ap (λ (bs : List ℕ). number_in 4 (drop 4 bs)) apart
    ∙ (ap (number_in 4) (drop_at id (size ++ (text ++ rest)) 4 (word_length (cast_unsigned w32 part.id))) ∙ (word_reads (length text) (text ++ rest) ∙ low_is (length text) (omega (arith, long)))) in (
      length text,
      sym sized,
      omega (arith, long),
      sym (ap (cast_signed w32) identity ∙ to_z-of_z w32 part.id are.0),
      sym (ap (take (length text)) behind ∙ take-append_seam text rest),
      subst (λ (bs : List ℕ). PartsStand bs parts) (sym (drop_at (id ++ (size ++ text)) rest (8 + length text) own)) (parts_stand parts are.1 (omega (arith, long))),
    )

parts_length : (parts : List LocPart) → length parts ≤ length (flat_map part_bytes parts)
parts_length [] = omega arith
parts_length (part ∷ parts) =
    let id = word (cast_unsigned w32 part.id) in
    omega (arith, length-append (part_bytes part) (flat_map part_bytes parts), length-append id (length_prefixed part.text), word_length (cast_unsigned w32 part.id), parts_length parts)

localized_stands : (loc : Loc) → loc.str_ref < 4294967296 → AreParts loc.parts →
    length (word loc.str_ref ++ word (length loc.parts) ++ flat_map part_bytes loc.parts) < 4294967296 →
    LocalizedStands (word loc.str_ref ++ word (length loc.parts) ++ flat_map part_bytes loc.parts) loc
localized_stands loc low are short =
    let first = word loc.str_ref in
    let second = word (length loc.parts) in
    let rest = flat_map part_bytes loc.parts in
    let body = first ++ second ++ rest in
    let two : length (first ++ second) ≡ 8 = omega (arith, length-append first second, word_length loc.str_ref, word_length (length loc.parts)) in
    let long : length body ≡ 8 + length rest = omega (arith, length-append (first ++ second) rest, two) in
    let few : length loc.parts < 4294967296 = omega (arith, long, parts_length loc.parts) in
    let behind : drop 8 body ≡ rest = drop_at (first ++ second) rest 8 two in
    let apart : body ≡ first ++ (second ++ rest) = append_assoc first second rest in
    let counted : number_in 4 (drop 4 body) ≡ length loc.parts =
    ap (λ (bs : List ℕ). number_in 4 (drop 4 bs)) apart
    ∙ (ap (number_in 4) (drop_at first (second ++ rest) 4 (word_length loc.str_ref)) ∙ (word_reads (length loc.parts) rest ∙ low_is (length loc.parts) few)) in
    record {
      head = omega (arith, long);
      str_ref = sym (ap (number_in 4) apart ∙ (word_reads loc.str_ref (second ++ rest) ∙ low_is loc.str_ref low));
      count = sym counted;
      parts = subst (λ (bs : List ℕ). PartsStand bs loc.parts) (sym behind) (parts_stand loc.parts are (omega (arith, long)));
    }

byte_number : (n : ℕ) (rest : List ℕ) → number_in 1 (n ∷ rest) ≡ n
unfolding number_in
byte_number n rest = omega arith

name_stands : {bytes : List ℕ} {offset : ℕ} (name : List ℕ) → length name ≤ 16 → In bytes part.Data offset (named name) →
    CountedStands bytes offset 1 (length name) name
name_stands {offset = offset} name short s =
    let head : List ℕ = (length name % 256) ∷ [] in
    let same : length name % 256 ≡ length name = omega arith in (
      (head, data_reads 1 head refl (front_in head name s), sym (byte_number (length name % 256) [] ∙ same)),
      data_reads (length name) name refl (next_in (offset + 1) head name refl s),
    )

pub scalar_stands : (bytes : List ℕ) (third : ℕ) (s : Scalar) → Small_counts bytes → IsScalar s → is_sound_scalar s ≡ true →
    ContentAt bytes third (scalar_content s) → ScalarStands bytes (kind_for s) third s
scalar_stands bytes third (tree.Byte n) small is sound at = ap tree.Byte (sym (low_number 256 n third is (omega arith) at))
scalar_stands bytes third (tree.Char n) small is sound at =
    ap tree.Char (sym (ap (cast_signed w8) (low_number 256 (cast_unsigned w8 n) third (low8 n is) (omega arith) at) ∙ to_z-of_z w8 n is))
scalar_stands bytes third (tree.Word n) small is sound at = ap tree.Word (sym (low_number 65536 n third is (omega arith) at))
scalar_stands bytes third (tree.Short n) small is sound at =
    ap tree.Short (sym (ap (cast_signed w16) (low_number 65536 (cast_unsigned w16 n) third (low16 n is) (omega arith) at) ∙ to_z-of_z w16 n is))
scalar_stands bytes third (tree.Dword n) small is sound at = ap tree.Dword (sym (at ∙ low_is n is))
scalar_stands bytes third (tree.Int n) small is sound at = ap tree.Int (sym (ap (cast_signed w32) (at ∙ low_is (cast_unsigned w32 n) (low32 n is)) ∙ to_z-of_z w32 n is))
scalar_stands bytes third (tree.Dword64 n) small is sound at = (n, (wide n, data_reads 8 (wide n) (wide_length n) at, sym (wide_reads n is)), refl)
scalar_stands bytes third (tree.Int64 n) small is sound at =
    let bits = cast_unsigned w64 n in (
      bits,
      (wide bits, data_reads 8 (wide bits) (wide_length bits) at, sym (wide_reads bits (low64 n is))),
      ap tree.Int64 (sym (to_z-of_z w64 n is)),
    )
scalar_stands bytes third (tree.Float bits) small is sound at =
    ap tree.Float (sym (le_bytes_4 bits third is.0 is.1 (at ∙ low_is (from_le_bytes w32 bits) (bits_low bits is.1))))
scalar_stands bytes third (tree.Double bits) small is sound at = (bits, data_reads 8 bits is at, refl)
scalar_stands bytes third (tree.Str text) small is sound at = (length text, text, counted_stands text small at, refl)
scalar_stands bytes third (tree.Res text) small is sound at =
    let short : length text ≤ 16 = leb-true (length text) 16 sound in
    (length text, text, name_stands text short at, short, refl)
scalar_stands bytes third (tree.Localized loc) small is sound at =
    let body = word loc.str_ref ++ word (length loc.parts) ++ flat_map part_bytes loc.parts in
    let few = small part.Data in
    let room = at.room in
    let long = length-append (word (length body)) body in
    (length body, body, loc, counted_stands body small at, localized_stands loc is.0 is.1 (omega arith), refl)
scalar_stands bytes third (tree.Void text) small is sound at = (length text, text, counted_stands text small at, refl)
