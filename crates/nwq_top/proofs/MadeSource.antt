-- The source that is made from a number is bytes.
use Rattle.std.proofs.Common.{arith, ◌≡◌, ℕ, ◌<◌, ◌^◌, ◌%◌, Bool, true, false, ◌&&◌, cond, nat_lt, List, [], ◌∷◌, ◌++◌, Option, Some, None, codes, sym, subst, ◌∙◌, refl}
use Rattle.std.proofs.lemmas.Bool.Decides.{nat_tests}
use Rattle.std.proofs.lemmas.Option.{same_Some, none-some}
use Rattle.std.proofs.lemmas.Cmp.{nat_list_cmp_total}
use Rattle.std.proofs.lemmas.List.Elements.{All-nil, All-cons, All-head, All-tail}
use Rattle.std.proofs.Math.Nat.{mod-lt}
use Rattle.std.proofs.lemmas.Fmt.{IsAscii-decimal}
use Rattle.std.proofs.lemmas.Str.Ascii.{All-from_ascii}
use Rattle.std.specs.Cmp.Lexicographic.{slice_cmp}
use Rattle.std.specs.Ordering.{nat_cmp, is_eq}
use Rattle.std.specs.FinMap as fin_map
use Rattle.std.specs.Prelude.{All}
use Rattle.std.specs.List.{list_all, AllByRecursion}
use Rattle.std.specs.Fmt.{decimal}
use Rattle.nss_include.specs.Names.{file_name}
use Rattle.play_generator.specs.Made.{ended, lines_text, source_lines, source_text, creatures_of, play_of}
use Rattle.command_meaning.specs.Scripts.{HoldBytes}
use Rattle.nwq_top.specs.Generated.{made_files}

abbrev IsByte : ℕ → Type 0
IsByte b = b < 256

abbrev are_bytes : List ℕ → Bool
are_bytes xs = list_all (λ b. nat_lt b 256) xs

all_by : (b c : Bool) → (b && c) ≡ true → (b ≡ true) × (c ≡ true)
all_by true true e = (e, e)
all_by true false e = cc
all_by false c e = cc

below : (a b : ℕ) → nat_lt a b ≡ true → a < b
below a b h = grind (arith, nat_tests)

all_bytes : (bytes : List ℕ) → are_bytes bytes ≡ true → All IsByte bytes
all_bytes [] e = All-nil IsByte
all_bytes (b ∷ bytes) e =
    let both = all_by (nat_lt b 256) (are_bytes bytes) e in All-cons IsByte b bytes (below b 256 both.0) (all_bytes bytes both.1)

ascii_bytes : (xs : List ℕ) → All (λ b. b < 128) xs → All IsByte xs
ascii_bytes [] h = All-nil IsByte
ascii_bytes (x ∷ xs) h =
    let here = All-head (λ b. b < 128) x xs h in All-cons IsByte x xs (omega (arith, here)) (ascii_bytes xs (All-tail (λ b. b < 128) x xs h))

both : (xs ys : List ℕ) → All IsByte xs → All IsByte ys → All IsByte (xs ++ ys)
both [] ys h k = k
both (x ∷ xs) ys h k = All-cons IsByte x (xs ++ ys) (All-head IsByte x xs h) (both xs ys (All-tail IsByte x xs h) k)

number_bytes : (n : ℕ) → n < 2 ^ 64 → All IsByte (decimal n)
number_bytes n small = ascii_bytes (decimal n) (All-from_ascii (decimal n) (IsAscii-decimal n small))

-- each line is bytes
abbrev AreLines : List (List ℕ) → Type 0
AreLines lines = AllByRecursion (λ line. All IsByte line) lines

lines_bytes : (lines : List (List ℕ)) → AreLines lines → All IsByte (lines_text lines)
lines_bytes [] h = All-nil IsByte
lines_bytes (line ∷ lines) h =
    both (ended line) (lines_text lines) (both line (10 ∷ []) h.0 (all_bytes (10 ∷ []) refl)) (lines_bytes lines h.1)

few_creatures : (n : ℕ) → creatures_of n < 2 ^ 64
few_creatures n = let less : n % 1000 < 1000 = mod-lt n (omega arith) in omega (arith, less)

first_line : (n : ℕ) → n < 2 ^ 64 → All IsByte (codes "int g = " ++ decimal n ++ codes ";")
first_line n small =
    both (codes "int g = ") (decimal n ++ codes ";") (all_bytes (codes "int g = ") refl) (both (decimal n) (codes ";") (number_bytes n small) (all_bytes (codes ";") refl))

last_line : (n : ℕ) → All IsByte (codes "AssignCommand(GetObjectByTag(\"c\" + IntToString(g % " ++ decimal (creatures_of n) ++ codes ")), Tell(n));")
last_line n =
    both (codes "AssignCommand(GetObjectByTag(\"c\" + IntToString(g % ") (decimal (creatures_of n) ++ codes ")), Tell(n));")
    (all_bytes (codes "AssignCommand(GetObjectByTag(\"c\" + IntToString(g % ") refl)
    (both (decimal (creatures_of n)) (codes ")), Tell(n));") (number_bytes (creatures_of n) (few_creatures n)) (all_bytes (codes ")), Tell(n));") refl))

source_bytes : (n : ℕ) → n < 2 ^ 64 → All IsByte (source_text n (creatures_of n))
unfolding source_text
source_bytes n small =
    lines_bytes (source_lines n (creatures_of n)) (
      first_line n small,
      (
        all_bytes (codes "int F(int k) { if (k < 2) return k; return F(k - 1) + F(k - 2); }") refl,
        (
          all_bytes (codes "void Tell(int k) { PrintInteger(g + k); }") refl,
          (
            all_bytes (codes "void main() {") refl,
            (
              all_bytes (codes "int n = GetLocalInt(OBJECT_SELF, \"n\") + 1;") refl,
              (
                all_bytes (codes "SetLocalInt(OBJECT_SELF, \"n\", n);") refl,
                (
                  all_bytes (codes "g = g + n;") refl,
                  (
                    all_bytes (codes "ActionWait(50);") refl,
                    (
                      all_bytes (codes "ActionDoCommand(Tell(F(n % 8)));") refl,
                      (
                        all_bytes (codes "DelayCommand(n * 100, Tell(0 - n));") refl,
                        (
                          last_line n,
                          (
                            all_bytes (codes "}") refl,
                            tt,
                          ),
                        ),
                      ),
                    ),
                  ),
                ),
              ),
            ),
          ),
        ),
      ),
    )

-- ---- the files that it is compiled in

one_file : (b : Bool) (source bytes : List ℕ) (other : Option (List ℕ)) → other ≡ None → All IsByte source → cond b (Some source) other ≡ Some bytes → All IsByte bytes
one_file true source bytes other none h is = subst (All IsByte) (same_Some source bytes is) h
one_file false source bytes other none h is = absurd (none-some bytes (sym none ∙ is))

pub made_bytes : (n : ℕ) → n < 2 ^ 64 → HoldBytes (made_files n)
made_bytes n small name bytes is =
    one_file (is_eq (slice_cmp nat_cmp (file_name name) (codes "beat.nss"))) (play_of n).source bytes (fin_map.get fin_map.empty (file_name name))
    (fin_map.get-empty (slice_cmp nat_cmp) (file_name name)) (source_bytes n small)
    (sym (fin_map.get-insert nat_list_cmp_total fin_map.empty (codes "beat.nss") (play_of n).source (file_name name)) ∙ is)
