-- A value that is read is one that its bytes stand for, and the other way round.
use Rattle.std.proofs.Common.{◌≡◌, ◌≤◌, ◌+◌, ℕ, zero, suc, false, cond, List, [], ◌∷◌, length, take, drop, Ok, refl, sym, ap, subst, ◌∙◌, arith}
use Rattle.std.specs.Prelude.{nat_lt}
use Rattle.std.specs.Int.{w32, w64, cast_signed}
use Rattle.std.proofs.lemmas.Bool.{ltb-false, le-ltb}
use Rattle.gff_bytes.specs.File.{data_at}
use Rattle.gff_tree.specs.declared.tree.Loc.{Loc}
use Rattle.gff_tree.specs.declared.tree.LocPart.{LocPart}
use Rattle.gff_read.specs.declared.kind.FieldKind.{FieldKind}
use Rattle.gff_read.specs.declared.kind.FieldKind.TheVariants as kind
use Rattle.gff_tree.specs.Tree as tree
use Rattle.gff_tree.specs.Tree.{Scalar}
use Rattle.gff_read.specs.Rows.{◌>>=◌, bad_data, bytes_for, number_in, number_for, counted_for, name_for, part_in, parts_in, localized_in, scalar_for}
use Rattle.gff_read.specs.Stands.{NumberStands, CountedStands, PartsStand, LocalizedStands, ScalarStands}
use Rattle.gff_read.proofs.Steps.{bind_ok, guard_ok, ok_is, for_field_ok}

number_stands : (bytes : List ℕ) (field place width n : ℕ) → number_for bytes field place width ≡ Ok n → NumberStands bytes place width n
unfolding number_for
number_stands bytes field place width n e =
    let b = bind_ok (bytes_for bytes field place width) (λ read. Ok (number_in width read)) n e in
    (b.0, for_field_ok field (data_at bytes place width) b.0 b.1, sym (ok_is (number_in width b.0) n b.2))

number_read : (bytes : List ℕ) (field place width n : ℕ) → NumberStands bytes place width n → number_for bytes field place width ≡ Ok n
unfolding number_for
number_read bytes field place width n s = rw (s.1, s.2) refl

counted_stands : (bytes : List ℕ) (field place : ℕ) (text : List ℕ) → counted_for bytes field place ≡ Ok text → (count : ℕ) × CountedStands bytes place 4 count text
unfolding counted_for
counted_stands bytes field place text e =
    let b = bind_ok (number_for bytes field place 4) (λ count. bytes_for bytes field (place + 4) count) text e in
    (b.0, (number_stands bytes field place 4 b.0 b.1, for_field_ok field (data_at bytes (place + 4) b.0) text b.2))

counted_read : (bytes : List ℕ) (field place count : ℕ) (text : List ℕ) → CountedStands bytes place 4 count text → counted_for bytes field place ≡ Ok text
unfolding counted_for
counted_read bytes field place count text s = rw (number_read bytes field place 4 count s.0, s.1) refl

name_stands : (bytes : List ℕ) (field place : ℕ) (text : List ℕ) → name_for bytes field place ≡ Ok text → (count : ℕ) × CountedStands bytes place 1 count text × (count ≤ 16)
unfolding name_for
name_stands bytes field place text e =
    let b = bind_ok (number_for bytes field place 1) (λ count. cond (nat_lt 16 count) (bad_data field) (bytes_for bytes field (place + 1) count)) text e in
    let g = guard_ok (nat_lt 16 b.0) _ (bytes_for bytes field (place + 1) b.0) text b.2 in
    (b.0, (number_stands bytes field place 1 b.0 b.1, for_field_ok field (data_at bytes (place + 1) b.0) text g.1), ltb-false _ _ g.0)

name_read : (bytes : List ℕ) (field place count : ℕ) (text : List ℕ) → CountedStands bytes place 1 count text → count ≤ 16 → name_for bytes field place ≡ Ok text
unfolding name_for
name_read bytes field place count text s short =
    let fits : nat_lt 16 count ≡ false = le-ltb _ _ short in
    rw (number_read bytes field place 1 count s.0, fits, s.1) refl

parts_stand : (field n : ℕ) (bytes : List ℕ) (parts : List LocPart) → parts_in field n bytes ≡ Ok parts → PartsStand bytes parts × (length parts ≡ n)
unfolding part_in
parts_stand field zero bytes parts e = subst (λ (ps : List LocPart). PartsStand bytes ps × (length ps ≡ 0)) (ok_is [] parts e) (tt, refl)
parts_stand field (suc n) bytes parts e =
    let count = number_in 4 (drop 4 bytes) in
    let b = bind_ok (part_in field bytes) (λ p. (parts_in field n p.1 >>= λ ps. Ok (p.0 ∷ ps))) parts e in
    let g = guard_ok (nat_lt (length bytes) 8) _ _ b.0 b.1 in
    let h = guard_ok (nat_lt (length bytes) (8 + count)) _ _ b.0 g.1 in
    let r = bind_ok (parts_in field n b.0.1) (λ ps. Ok (b.0.0 ∷ ps)) parts b.2 in
    let part : LocPart × List ℕ = (record { id = cast_signed w32 (number_in 4 bytes); text = take count (drop 8 bytes) }, drop (8 + count) bytes) in
    let is : part ≡ b.0 = ok_is part b.0 h.1 in
    let rest = parts_stand field n b.0.1 r.0 r.1 in
    let behind : drop (8 + count) bytes ≡ b.0.1 = ap (λ (p : LocPart × List ℕ). p.1) is in
    let front : part.0 ≡ b.0.0 = ap (λ (p : LocPart × List ℕ). p.0) is in
    let long : 8 + count ≤ length bytes = ltb-false _ _ h.0 in
    let whole : PartsStand bytes (part.0 ∷ r.0) = (count, refl, long, refl, refl, subst (λ (bs : List ℕ). PartsStand bs r.0) (sym behind) rest.0) in
    let all : part.0 ∷ r.0 ≡ parts = ap (λ (p : LocPart). p ∷ r.0) front ∙ ok_is (b.0.0 ∷ r.0) parts r.2 in
    subst (λ (ps : List LocPart). PartsStand bytes ps × (length ps ≡ suc n)) all (whole, ap suc rest.1)

parts_read : (field : ℕ) (bytes : List ℕ) (parts : List LocPart) → PartsStand bytes parts → parts_in field (length parts) bytes ≡ Ok parts
unfolding part_in
parts_read field bytes [] s = refl
parts_read field bytes (part ∷ parts) s =
    let count = number_in 4 (drop 4 bytes) in
    let is : s.0 ≡ count = s.1 in
    let long : 8 + count ≤ length bytes = subst (λ (n : ℕ). 8 + n ≤ length bytes) is s.2 in
    let first : nat_lt (length bytes) 8 ≡ false = le-ltb _ _ (omega arith) in
    let second : nat_lt (length bytes) (8 + count) ≡ false = le-ltb _ _ long in
    let text : take count (drop 8 bytes) ≡ part.text = subst (λ (n : ℕ). take n (drop 8 bytes) ≡ part.text) is (sym s.4) in
    let rest : PartsStand (drop (8 + count) bytes) parts = subst (λ (n : ℕ). PartsStand (drop (8 + n) bytes) parts) is s.5 in
    rw (first, second, parts_read field (drop (8 + count) bytes) parts rest, ← s.3, text) refl

localized_stands : (field : ℕ) (body : List ℕ) (loc : Loc) → localized_in field body ≡ Ok loc → LocalizedStands body loc
unfolding localized_in
localized_stands field body loc e =
    let g = guard_ok (nat_lt (length body) 8) _ _ loc e in
    let b = bind_ok (parts_in field (number_in 4 (drop 4 body)) (drop 8 body)) (λ parts. Ok (record { str_ref = number_in 4 body; parts = parts })) loc g.1 in
    let parts = parts_stand field (number_in 4 (drop 4 body)) (drop 8 body) b.0 b.1 in
    subst (LocalizedStands body) (ok_is _ loc b.2) (record { head = ltb-false _ _ g.0; str_ref = refl; count = parts.1; parts = parts.0 })

localized_read : (field : ℕ) (body : List ℕ) (loc : Loc) → LocalizedStands body loc → localized_in field body ≡ Ok loc
unfolding localized_in
localized_read field body loc s =
    let head : nat_lt (length body) 8 ≡ false = le-ltb _ _ s.head in
    let parts : parts_in field (number_in 4 (drop 4 body)) (drop 8 body)
    ≡ Ok loc.parts = subst (λ (n : ℕ). parts_in field n (drop 8 body) ≡ Ok loc.parts) s.count
    (parts_read field (drop 8 body) loc.parts s.parts) in
    rw (head, parts, ← s.str_ref) refl

pub scalar_stands : (bytes : List ℕ) (field : ℕ) (k : FieldKind) (word : ℕ) (s : Scalar) → scalar_for bytes field k word ≡ Ok s → ScalarStands bytes k word s
unfolding scalar_for
scalar_stands bytes field kind.Byte word s e = sym (ok_is _ s e)
scalar_stands bytes field kind.Char word s e = sym (ok_is _ s e)
scalar_stands bytes field kind.Word word s e = sym (ok_is _ s e)
scalar_stands bytes field kind.Short word s e = sym (ok_is _ s e)
scalar_stands bytes field kind.Dword word s e = sym (ok_is _ s e)
scalar_stands bytes field kind.Int word s e = sym (ok_is _ s e)
scalar_stands bytes field kind.Dword64 word s e =
    let b = bind_ok (number_for bytes field word 8) (λ n. Ok (tree.Dword64 n)) s e in
    (b.0, number_stands bytes field word 8 b.0 b.1, sym (ok_is _ s b.2))
scalar_stands bytes field kind.Int64 word s e =
    let b = bind_ok (number_for bytes field word 8) (λ n. Ok (tree.Int64 (cast_signed w64 n))) s e in
    (b.0, number_stands bytes field word 8 b.0 b.1, sym (ok_is _ s b.2))
scalar_stands bytes field kind.Float word s e = sym (ok_is _ s e)
scalar_stands bytes field kind.Double word s e =
    let b = bind_ok (bytes_for bytes field word 8) (λ bits. Ok (tree.Double bits)) s e in
    (b.0, for_field_ok field (data_at bytes word 8) b.0 b.1, sym (ok_is _ s b.2))
scalar_stands bytes field kind.Str word s e =
    let b = bind_ok (counted_for bytes field word) (λ text. Ok (tree.Str text)) s e in
    let t = counted_stands bytes field word b.0 b.1 in
    (t.0, b.0, t.1, sym (ok_is _ s b.2))
scalar_stands bytes field kind.Res word s e =
    let b = bind_ok (name_for bytes field word) (λ text. Ok (tree.Res text)) s e in
    let t = name_stands bytes field word b.0 b.1 in
    (t.0, b.0, t.1, t.2, sym (ok_is _ s b.2))
scalar_stands bytes field kind.Loc word s e =
    let b = bind_ok (counted_for bytes field word) (λ body. (localized_in field body >>= λ loc. Ok (tree.Localized loc))) s e in
    let t = counted_stands bytes field word b.0 b.1 in
    let l = bind_ok (localized_in field b.0) (λ loc. Ok (tree.Localized loc)) s b.2 in
    (t.0, b.0, l.0, t.1, localized_stands field b.0 l.0 l.1, sym (ok_is _ s l.2))
scalar_stands bytes field kind.Void word s e =
    let b = bind_ok (counted_for bytes field word) (λ raw. Ok (tree.Void raw)) s e in
    let t = counted_stands bytes field word b.0 b.1 in
    (t.0, b.0, t.1, sym (ok_is _ s b.2))
scalar_stands bytes field kind.Struct word s e = absurd cc
scalar_stands bytes field kind.List word s e = absurd cc

pub scalar_read : (bytes : List ℕ) (field : ℕ) (k : FieldKind) (word : ℕ) (s : Scalar) → ScalarStands bytes k word s → scalar_for bytes field k word ≡ Ok s
unfolding scalar_for
scalar_read bytes field kind.Byte word s is = ap Ok (sym is)
scalar_read bytes field kind.Char word s is = ap Ok (sym is)
scalar_read bytes field kind.Word word s is = ap Ok (sym is)
scalar_read bytes field kind.Short word s is = ap Ok (sym is)
scalar_read bytes field kind.Dword word s is = ap Ok (sym is)
scalar_read bytes field kind.Int word s is = ap Ok (sym is)
scalar_read bytes field kind.Dword64 word s is = rw (number_read bytes field word 8 is.0 is.1, is.2) refl
scalar_read bytes field kind.Int64 word s is = rw (number_read bytes field word 8 is.0 is.1, is.2) refl
scalar_read bytes field kind.Float word s is = ap Ok (sym is)
scalar_read bytes field kind.Double word s is = rw (is.1, is.2) refl
scalar_read bytes field kind.Str word s is = rw (counted_read bytes field word is.0 is.1 is.2, is.3) refl
scalar_read bytes field kind.Res word s is = rw (name_read bytes field word is.0 is.1 is.2 is.3, is.4) refl
scalar_read bytes field kind.Loc word s is = rw (counted_read bytes field word is.0 is.1 is.3, localized_read field is.1 is.2 is.4, is.5) refl
scalar_read bytes field kind.Void word s is = rw (counted_read bytes field word is.0 is.1 is.2, is.3) refl
scalar_read bytes field kind.Struct word s is = absurd is
scalar_read bytes field kind.List word s is = absurd is
