-- Bytes that begin with an instruction spell it.
use Rattle.std.proofs.Common.{◌≡◌, ◌≢◌, ℕ, ℤ, zero, suc, ◌+◌, ◌<◌, ◌≤◌, ◌^◌, ◌==◌, nat_lt, Bool, true, false, not, IsTrue, List, [], ◌∷◌, ◌++◌, length, take, drop, get_or, Some, None, refl, sym, ap}
use Rattle.std.proofs.Common.{subst, ◌∙◌, arith, ◌*◌, le-ltb, ltb-false, append_assoc, length-take, take-append-drop}
use Rattle.std.specs.Prelude.{if◌then◌else◌, FitsSigned}
use Rattle.std.specs.List.{AllByRecursion}
use Rattle.std.specs.Int.{w16, w32, cast_signed, from_be_bytes}
use Rattle.std.proofs.Math.Facts.{sfits_to_z}
use Rattle.std.proofs.lemmas.Int.{of_z-to_z}
use Rattle.std.proofs.lemmas.Bool.{eqb-true, eqb-false}
use Rattle.std.proofs.lemmas.Bool.Decides.{nat_tests}
use Rattle.std.proofs.lemmas.Nat.{be_bytes_2, be_bytes_4}
use Rattle.std.proofs.lemmas.List.Elements.{All-from_recursion}
use Rattle.ncs_code.specs.Plain.{PlainOp, Int, Float, Text, Object, CpDownSp, RsAdd, CpTopSp, Const, Action, LogAnd, LogOr, IncOr, ExcOr, BoolAnd, Equal, Nequal, Geq, Gt, Lt, Leq, ShLeft, ShRight}
use Rattle.ncs_code.specs.Plain.{UshRight, Add, Sub, Mul, Div, Mod, Neg, Comp, MovSp, Jmp, Jsr, Jz, Retn, Destruct, Not, DecISp, IncISp, Jnz, CpDownBp, CpTopBp, DecIBp, IncIBp, SaveBp, RestoreBp}
use Rattle.ncs_code.specs.Plain.{StoreState, Nop}
use Rattle.ncs_code.specs.declared.fault.CodeFault.TheVariants.{Opcode, TypeByte, Short}
use Rattle.ncs_code.specs.Spelling.{two, four, signed, run_size, spelling, is_opcode, is_between, has_type, args_size, lit_size, first_two, fault_of, IsOp, IsByte}

-- the bytes begin with the spelling of an instruction
pub record Spelled (bytes : List ℕ) : Type 0 where
  pub op : PlainOp
  pub rest : List ℕ
  pub is_op : IsOp op
  pub is : bytes ≡ spelling op ++ rest

abbrev Bytes : List ℕ → Type 0
Bytes xs = AllByRecursion IsByte xs

-- ---- numbers

small_two : (a b : ℕ) → a < 256 → b < 256 → (i : ℕ) → get_or (a ∷ b ∷ []) i 0 < 256
small_two a b f g zero = f
small_two a b f g (suc zero) = g
small_two a b f g (suc (suc i)) = omega arith

small_four : (a b c d : ℕ) → a < 256 → b < 256 → c < 256 → d < 256 → (i : ℕ) → get_or (a ∷ b ∷ c ∷ d ∷ []) i 0 < 256
small_four a b c d f g h k zero = f
small_four a b c d f g h k (suc zero) = g
small_four a b c d f g h k (suc (suc zero)) = h
small_four a b c d f g h k (suc (suc (suc zero))) = k
small_four a b c d f g h k (suc (suc (suc (suc i)))) = omega arith

abbrev number_2 : ℕ → ℕ → ℕ
number_2 a b = from_be_bytes w16 (a ∷ b ∷ [])

abbrev number_4 : ℕ → ℕ → ℕ → ℕ → ℕ
number_4 a b c d = from_be_bytes w32 (a ∷ b ∷ c ∷ d ∷ [])

two_is : (a b : ℕ) → a < 256 → b < 256 → two (number_2 a b) ≡ a ∷ b ∷ []
unfolding two
two_is a b f g = be_bytes_2 (a ∷ b ∷ []) (number_2 a b) refl (small_two a b f g) refl

four_is : (a b c d : ℕ) → a < 256 → b < 256 → c < 256 → d < 256 → four (number_4 a b c d) ≡ a ∷ b ∷ c ∷ d ∷ []
unfolding four
four_is a b c d f g h k = be_bytes_4 (a ∷ b ∷ c ∷ d ∷ []) (number_4 a b c d) refl (small_four a b c d f g h k) refl

two_fits : (a b : ℕ) → a < 256 → b < 256 → number_2 a b < 2 ^ 16
two_fits a b f g = omega (arith, f, g)

four_fits : (a b c d : ℕ) → a < 256 → b < 256 → c < 256 → d < 256 → number_4 a b c d < 2 ^ 32
four_fits a b c d f g h k = omega (arith, f, g, h, k)

abbrev signed_4 : ℕ → ℕ → ℕ → ℕ → ℤ
signed_4 a b c d = cast_signed w32 (number_4 a b c d)

signed_is : (a b c d : ℕ) → a < 256 → b < 256 → c < 256 → d < 256 → signed (signed_4 a b c d) ≡ a ∷ b ∷ c ∷ d ∷ []
unfolding signed four
signed_is a b c d f g h k = ap four (of_z-to_z w32 (number_4 a b c d) (four_fits a b c d f g h k)) ∙ four_is a b c d f g h k

signed_fits : (a b c d : ℕ) → a < 256 → b < 256 → c < 256 → d < 256 → FitsSigned w32 (signed_4 a b c d)
signed_fits a b c d f g h k = sfits_to_z {w = w32} {n = number_4 a b c d} (record { fits = four_fits a b c d f g h k })

-- ---- the rows, by their arguments

-- with a type byte of its row and its arguments there, an instruction is spelled
abbrev Row : ℕ → Type 0
Row code = (kind : ℕ) (args : List ℕ) → IsByte kind → Bytes args → IsTrue (has_type code kind) → args_size code kind args ≤ length args → Spelled (code ∷ kind ∷ args)

bare_row : (op : PlainOp) (code own : ℕ) → spelling op ≡ code ∷ own ∷ [] → IsOp op → (kind : ℕ) (args : List ℕ) → kind ≡ own → Spelled (code ∷ kind ∷ args)
bare_row op code own is is_op kind args same =
    record { op = op; rest = args; is_op = is_op; is = ap (λ k. code ∷ k ∷ args) same ∙ ap (λ xs. xs ++ args) (sym is) }

typed_row : (make : ℕ → PlainOp) (code : ℕ) → ((k : ℕ) → spelling (make k) ≡ code ∷ k ∷ []) → (kind : ℕ) (args : List ℕ) → IsOp (make kind) → Spelled (code ∷ kind ∷ args)
typed_row make code is kind args is_op = record { op = make kind; rest = args; is_op = is_op; is = ap (λ xs. xs ++ args) (sym (is kind)) }

moved_row : (make : ℤ → PlainOp) (code own : ℕ) → ((n : ℤ) → spelling (make n) ≡ code ∷ own ∷ signed n) → ((n : ℤ) → FitsSigned w32 n → IsOp (make n)) → (kind : ℕ) (args : List ℕ)
    → Bytes args → kind ≡ own → 4 ≤ length args → Spelled (code ∷ kind ∷ args)
moved_row make code own is is_op kind [] bytes same long = absurd (omega (arith, long))
moved_row make code own is is_op kind (a ∷ []) bytes same long = absurd (omega (arith, long))
moved_row make code own is is_op kind (a ∷ b ∷ []) bytes same long = absurd (omega (arith, long))
moved_row make code own is is_op kind (a ∷ b ∷ c ∷ []) bytes same long = absurd (omega (arith, long))
moved_row make code own is is_op kind (a ∷ b ∷ c ∷ d ∷ rest) bytes same long = record {
  op = make (signed_4 a b c d);
  rest = rest;
  is_op = is_op (signed_4 a b c d) (signed_fits a b c d bytes.0 bytes.1.0 bytes.1.1.0 bytes.1.1.1.0);
  is = ap (λ k. code ∷ k ∷ a ∷ b ∷ c ∷ d ∷ rest) same
      ∙ ap (λ xs. code ∷ own ∷ (xs ++ rest)) (sym (signed_is a b c d bytes.0 bytes.1.0 bytes.1.1.0 bytes.1.1.1.0)) ∙ ap (λ xs. xs ++ rest) (sym (is (signed_4 a b c d)));
}

copied_row : (make : ℤ → ℕ → PlainOp) (code own : ℕ) → ((n : ℤ) (size : ℕ) → spelling (make n size) ≡ code ∷ own ∷ (signed n ++ two size))
    → ((n : ℤ) (size : ℕ) → FitsSigned w32 n → size < 2 ^ 16 → IsOp (make n size)) → (kind : ℕ) (args : List ℕ)
    → Bytes args → kind ≡ own → 6 ≤ length args → Spelled (code ∷ kind ∷ args)
copied_row make code own is is_op kind [] bytes same long = absurd (omega (arith, long))
copied_row make code own is is_op kind (a ∷ []) bytes same long = absurd (omega (arith, long))
copied_row make code own is is_op kind (a ∷ b ∷ []) bytes same long = absurd (omega (arith, long))
copied_row make code own is is_op kind (a ∷ b ∷ c ∷ []) bytes same long = absurd (omega (arith, long))
copied_row make code own is is_op kind (a ∷ b ∷ c ∷ d ∷ []) bytes same long = absurd (omega (arith, long))
copied_row make code own is is_op kind (a ∷ b ∷ c ∷ d ∷ e ∷ []) bytes same long = absurd (omega (arith, long))
copied_row make code own is is_op kind (a ∷ b ∷ c ∷ d ∷ e ∷ f ∷ rest) bytes same long =
    let here = bytes.1.1.1.1 in
    let whole : signed (signed_4 a b c d) ++ two (number_2 e f) ≡ a ∷ b ∷ c ∷ d ∷ e ∷ f ∷ [] =
    ap (λ xs. xs ++ two (number_2 e f)) (signed_is a b c d bytes.0 bytes.1.0 bytes.1.1.0 bytes.1.1.1.0) ∙ ap (λ xs. a ∷ b ∷ c ∷ d ∷ xs) (two_is e f here.0 here.1.0) in
    record {
      op = make (signed_4 a b c d) (number_2 e f);
      rest = rest;
      is_op = is_op (signed_4 a b c d) (number_2 e f) (signed_fits a b c d bytes.0 bytes.1.0 bytes.1.1.0 bytes.1.1.1.0) (two_fits e f here.0 here.1.0);
      is = ap (λ k. code ∷ k ∷ a ∷ b ∷ c ∷ d ∷ e ∷ f ∷ rest) same
          ∙ ap (λ xs. code ∷ own ∷ (xs ++ rest)) (sym whole) ∙ ap (λ xs. xs ++ rest) (sym (is (signed_4 a b c d) (number_2 e f)));
    }

-- ---- rows of their own

action_row : Row 0x05
unfolding has_type args_size
action_row kind [] small bytes type long = absurd (omega (arith, long))
action_row kind (a ∷ []) small bytes type long = absurd (omega (arith, long))
action_row kind (a ∷ b ∷ []) small bytes type long = absurd (omega (arith, long))
action_row kind (a ∷ b ∷ c ∷ rest) small bytes type long = record {
  op = Action (number_2 a b) c;
  rest = rest;
  is_op = record { row = record { kind = refl; sizes = tt }; fits = (two_fits a b bytes.0 bytes.1.0, bytes.1.1.0) };
  is = ap (λ k. 0x05 ∷ k ∷ a ∷ b ∷ c ∷ rest) (eqb-true kind 0x00 type)
      ∙ ap (λ xs. 0x05 ∷ 0x00 ∷ ((xs ++ c ∷ []) ++ rest)) (sym (two_is a b bytes.0 bytes.1.0));
}

destruct_row : Row 0x21
unfolding has_type args_size
destruct_row kind [] small bytes type long = absurd (omega (arith, long))
destruct_row kind (a ∷ []) small bytes type long = absurd (omega (arith, long))
destruct_row kind (a ∷ b ∷ []) small bytes type long = absurd (omega (arith, long))
destruct_row kind (a ∷ b ∷ c ∷ []) small bytes type long = absurd (omega (arith, long))
destruct_row kind (a ∷ b ∷ c ∷ d ∷ []) small bytes type long = absurd (omega (arith, long))
destruct_row kind (a ∷ b ∷ c ∷ d ∷ e ∷ []) small bytes type long = absurd (omega (arith, long))
destruct_row kind (a ∷ b ∷ c ∷ d ∷ e ∷ f ∷ rest) small bytes type long =
    let here = bytes.1.1 in
    let last = here.1.1 in
    let whole : two (number_2 a b) ++ two (number_2 c d) ++ two (number_2 e f) ≡ a ∷ b ∷ c ∷ d ∷ e ∷ f ∷ [] =
    ap (λ xs. xs ++ two (number_2 c d) ++ two (number_2 e f)) (two_is a b bytes.0 bytes.1.0) ∙ ap (λ xs. a ∷ b ∷ (xs ++ two (number_2 e f))) (two_is c d here.0 here.1.0)
    ∙ ap (λ xs. a ∷ b ∷ c ∷ d ∷ xs) (two_is e f last.0 last.1.0) in
    record {
      op = Destruct (number_2 a b) (number_2 c d) (number_2 e f);
      rest = rest;
      is_op = record {
        row = record { kind = refl; sizes = tt };
        fits = (two_fits a b bytes.0 bytes.1.0, two_fits c d here.0 here.1.0, two_fits e f last.0 last.1.0);
      };
      is = ap (λ k. 0x21 ∷ k ∷ a ∷ b ∷ c ∷ d ∷ e ∷ f ∷ rest) (eqb-true kind 0x01 type) ∙ ap (λ xs. 0x21 ∷ 0x01 ∷ (xs ++ rest)) (sym whole);
    }

state_row : Row 0x2C
unfolding has_type args_size
state_row kind [] small bytes type long = absurd (omega (arith, long))
state_row kind (a ∷ []) small bytes type long = absurd (omega (arith, long))
state_row kind (a ∷ b ∷ []) small bytes type long = absurd (omega (arith, long))
state_row kind (a ∷ b ∷ c ∷ []) small bytes type long = absurd (omega (arith, long))
state_row kind (a ∷ b ∷ c ∷ d ∷ []) small bytes type long = absurd (omega (arith, long))
state_row kind (a ∷ b ∷ c ∷ d ∷ e ∷ []) small bytes type long = absurd (omega (arith, long))
state_row kind (a ∷ b ∷ c ∷ d ∷ e ∷ f ∷ []) small bytes type long = absurd (omega (arith, long))
state_row kind (a ∷ b ∷ c ∷ d ∷ e ∷ f ∷ g ∷ []) small bytes type long = absurd (omega (arith, long))
state_row kind (a ∷ b ∷ c ∷ d ∷ e ∷ f ∷ g ∷ h ∷ rest) small bytes type long =
    let last = bytes.1.1.1.1 in
    let whole : four (number_4 a b c d) ++ four (number_4 e f g h) ≡ a ∷ b ∷ c ∷ d ∷ e ∷ f ∷ g ∷ h ∷ [] =
    ap (λ xs. xs ++ four (number_4 e f g h)) (four_is a b c d bytes.0 bytes.1.0 bytes.1.1.0 bytes.1.1.1.0)
    ∙ ap (λ xs. a ∷ b ∷ c ∷ d ∷ xs) (four_is e f g h last.0 last.1.0 last.1.1.0 last.1.1.1.0) in
    record {
      op = StoreState (number_4 a b c d) (number_4 e f g h);
      rest = rest;
      is_op = record {
        row = record { kind = refl; sizes = tt };
        fits = (four_fits a b c d bytes.0 bytes.1.0 bytes.1.1.0 bytes.1.1.1.0, four_fits e f g h last.0 last.1.0 last.1.1.0 last.1.1.1.0);
      };
      is = ap (λ k. 0x2C ∷ k ∷ a ∷ b ∷ c ∷ d ∷ e ∷ f ∷ g ∷ h ∷ rest) (eqb-true kind 0x10 type) ∙ ap (λ xs. 0x2C ∷ 0x10 ∷ (xs ++ rest)) (sym whole);
    }

-- ---- literals

bytes_take : (n : ℕ) (xs : List ℕ) → Bytes xs → Bytes (take n xs)
bytes_take zero xs h = tt
bytes_take (suc n) [] h = tt
bytes_take (suc n) (x ∷ xs) h = (h.0, bytes_take n xs h.1)

int_row : (args : List ℕ) → Bytes args → 4 ≤ length args → Spelled (0x04 ∷ 0x03 ∷ args)
unfolding has_type
int_row args bytes long =
    moved_row (λ n. Const (Int n)) 0x04 0x03 (λ n. refl) (λ n fits. record { row = record { kind = refl; sizes = tt }; fits = fits }) 0x03 args bytes refl long

float_row : (args : List ℕ) → Bytes args → 4 ≤ length args → Spelled (0x04 ∷ 0x04 ∷ args)
unfolding has_type
float_row [] bytes long = absurd (omega (arith, long))
float_row (a ∷ []) bytes long = absurd (omega (arith, long))
float_row (a ∷ b ∷ []) bytes long = absurd (omega (arith, long))
float_row (a ∷ b ∷ c ∷ []) bytes long = absurd (omega (arith, long))
float_row (a ∷ b ∷ c ∷ d ∷ rest) bytes long = record {
  op = Const (Float (a ∷ b ∷ c ∷ d ∷ []));
  rest = rest;
  is_op = record {
    row = record { kind = refl; sizes = tt };
    fits = (refl, All-from_recursion IsByte (a ∷ b ∷ c ∷ d ∷ []) (bytes.0, (bytes.1.0, (bytes.1.1.0, (bytes.1.1.1.0, tt)))));
  };
  is = refl;
}

object_row : (args : List ℕ) → Bytes args → 4 ≤ length args → Spelled (0x04 ∷ 0x06 ∷ args)
unfolding has_type
object_row [] bytes long = absurd (omega (arith, long))
object_row (a ∷ []) bytes long = absurd (omega (arith, long))
object_row (a ∷ b ∷ []) bytes long = absurd (omega (arith, long))
object_row (a ∷ b ∷ c ∷ []) bytes long = absurd (omega (arith, long))
object_row (a ∷ b ∷ c ∷ d ∷ rest) bytes long = record {
  op = Const (Object (number_4 a b c d));
  rest = rest;
  is_op = record { row = record { kind = refl; sizes = tt }; fits = four_fits a b c d bytes.0 bytes.1.0 bytes.1.1.0 bytes.1.1.1.0 };
  is = ap (λ xs. 0x04 ∷ 0x06 ∷ (xs ++ rest)) (sym (four_is a b c d bytes.0 bytes.1.0 bytes.1.1.0 bytes.1.1.1.0));
}

text_row : (args : List ℕ) → Bytes args → lit_size 0x05 args ≤ length args → Spelled (0x04 ∷ 0x05 ∷ args)
unfolding first_two has_type
text_row [] bytes long = absurd (omega (arith, long))
text_row (a ∷ []) bytes long = absurd (omega (arith, long))
text_row (a ∷ b ∷ rest) bytes long =
    let n = number_2 a b in
    let test : nat_lt (length (a ∷ b ∷ rest)) 2 ≡ false = le-ltb (length (a ∷ b ∷ rest)) 2 (omega arith) in
    let there : lit_size 0x05 (a ∷ b ∷ rest) ≡ 2 + (0x100 * a + b) = rw test refl in
    let fits : 2 + (0x100 * a + b) ≤ length (a ∷ b ∷ rest) = subst (λ m. m ≤ length (a ∷ b ∷ rest)) there long in
    let room : n ≤ length rest = omega (arith, fits) in
    let count : length (take n rest) ≡ n = omega (arith, length-take n rest, room) in
    record {
      op = Const (Text (take n rest));
      rest = drop n rest;
      is_op = record {
        row = record { kind = refl; sizes = omega (arith, count, two_fits a b bytes.0 bytes.1.0) };
        fits = All-from_recursion IsByte (take n rest) (bytes_take n rest bytes.1.1);
      };
      is = ap (λ xs. 0x04 ∷ 0x05 ∷ (xs ++ rest)) (sym (two_is a b bytes.0 bytes.1.0))
          ∙ ap (λ xs. 0x04 ∷ 0x05 ∷ (two n ++ xs)) (sym (take-append-drop n rest))
          ∙ ap (λ m. 0x04 ∷ 0x05 ∷ (two m ++ (take n rest ++ drop n rest))) (sym count)
          ∙ ap (λ xs. 0x04 ∷ 0x05 ∷ xs) (sym (append_assoc (two (length (take n rest))) (take n rest) (drop n rest)));
    }

literal_by : (kind : ℕ) (args : List ℕ) → Bytes args → lit_size kind args ≤ length args → (a b c d : Bool) → (kind == 0x03) ≡ a → (kind == 0x04) ≡ b → (kind == 0x05) ≡ c → (kind == 0x06) ≡ d
    → IsTrue (is_between 0x03 0x06 kind) → Spelled (0x04 ∷ kind ∷ args)
literal_by kind args bytes long true b c d e f g h type =
    let same = eqb-true kind 0x03 e in
    subst (λ k. Spelled (0x04 ∷ k ∷ args)) (sym same) (int_row args bytes (subst (λ k. lit_size k args ≤ length args) same long))
literal_by kind args bytes long false true c d e f g h type =
    let same = eqb-true kind 0x04 f in
    subst (λ k. Spelled (0x04 ∷ k ∷ args)) (sym same) (float_row args bytes (subst (λ k. lit_size k args ≤ length args) same long))
literal_by kind args bytes long false false true d e f g h type =
    let same = eqb-true kind 0x05 g in
    subst (λ k. Spelled (0x04 ∷ k ∷ args)) (sym same) (text_row args bytes (subst (λ k. lit_size k args ≤ length args) same long))
literal_by kind args bytes long false false false true e f g h type =
    let same = eqb-true kind 0x06 h in
    subst (λ k. Spelled (0x04 ∷ k ∷ args)) (sym same) (object_row args bytes (subst (λ k. lit_size k args ≤ length args) same long))
literal_by kind args bytes long false false false false e f g h type = absurd (grind (arith, nat_tests))

literal_row : Row 0x04
unfolding has_type args_size
literal_row kind args small bytes type long =
    literal_by kind args bytes long (kind == 0x03) (kind == 0x04) (kind == 0x05) (kind == 0x06) refl refl refl refl type

-- ---- comparisons

sized_row : (make : ℕ → ℕ → PlainOp) (code : ℕ) → ((kind size : ℕ) → spelling (make kind size) ≡ code ∷ kind ∷ run_size kind size)
    → ((kind size : ℕ) → IsByte kind → IsTrue (has_type code kind) → (kind ≢ 0x24 → size ≡ 0) → size < 2 ^ 16 → IsOp (make kind size))
    → (kind : ℕ) (args : List ℕ) → IsByte kind → Bytes args → IsTrue (has_type code kind) → (b : Bool) → (kind == 0x24) ≡ b → (if b then 2 else 0) ≤ length args
    → Spelled (code ∷ kind ∷ args)
sized_row make code is is_op kind [] small bytes type true e long = absurd (omega (arith, long))
sized_row make code is is_op kind (a ∷ []) small bytes type true e long = absurd (omega (arith, long))
sized_row make code is is_op kind (a ∷ b ∷ rest) small bytes type true e long = record {
  op = make kind (number_2 a b);
  rest = rest;
  is_op = is_op kind (number_2 a b) small type (λ other. absurd (other (eqb-true kind 0x24 e))) (two_fits a b bytes.0 bytes.1.0);
  is = ap (λ xs. code ∷ kind ∷ (xs ++ rest)) (sym (two_is a b bytes.0 bytes.1.0))
      ∙ ap (λ t. code ∷ kind ∷ ((if t then two (number_2 a b) else []) ++ rest)) (sym e) ∙ ap (λ xs. xs ++ rest) (sym (is kind (number_2 a b)));
}
sized_row make code is is_op kind args small bytes type false e long = record {
  op = make kind 0;
  rest = args;
  is_op = is_op kind 0 small type (λ other. refl) (omega arith);
  is = ap (λ t. code ∷ kind ∷ ((if t then two 0 else []) ++ args)) (sym e) ∙ ap (λ xs. xs ++ args) (sym (is kind 0));
}

-- ---- all rows

-- what holds of so many numbers from one on
abbrev Rows : (ℕ → Type 0) → ℕ → ℕ → Type 0
Rows P first zero = Unit {0}
Rows P first (suc n) = P first × Rows P (first + 1) n

row_or : (P : ℕ → Type 0) (first k : ℕ) → P first → (b : Bool) → (first == k) ≡ b → (first ≢ k → P k) → P k
row_or P first k here true e later = subst P (eqb-true first k e) here
row_or P first k here false e later = later (eqb-false first k e)

above : (first k : ℕ) → first ≤ k → first ≢ k → first + 1 ≤ k
above first k low other = omega (arith, low, other)

row_at : (P : ℕ → Type 0) (first n : ℕ) → Rows P first n → (k : ℕ) → first ≤ k → k < first + n → P k
row_at P first zero rows k low high = absurd (omega (arith, low, high))
row_at P first (suc n) rows k low high =
    row_or P first k rows.0 (first == k) refl (λ other. row_at P (first + 1) n rows.1 k (above first k low other) (omega (arith, high)))

abbrev Coded : ℕ → Type 0
Coded code = is_opcode code ≡ true → Row code

all_rows : Rows Coded 1 45
unfolding has_type args_size
all_rows =
    let bare : (op : PlainOp) (code own : ℕ) → spelling op ≡ code ∷ own ∷ [] → IsOp op → (kind : ℕ) (args : List ℕ) → IsTrue (kind == own) → Spelled (code ∷ kind ∷ args) =
    λ op code own is is_op kind args same. bare_row op code own is is_op kind args (eqb-true kind own same) in (
      λ _ kind args small bytes type long. copied_row CpDownSp 0x01 0x01 (λ n size. refl)
          (λ n size fits few. record { row = record { kind = refl; sizes = tt }; fits = (fits, few) }) kind args bytes
          (eqb-true kind 0x01 type) long,
      (
        λ _ kind args small bytes type long. typed_row RsAdd 0x02 (λ k. refl) kind args (record { row = record { kind = type; sizes = tt }; fits = small }),
        (
          λ _ kind args small bytes type long. copied_row CpTopSp 0x03 0x01 (λ n size. refl)
              (λ n size fits few. record {
                row = record { kind = refl; sizes = tt };
                fits = (fits, few);
              }) kind args bytes (eqb-true kind 0x01 type) long,
          (
            λ _. literal_row,
            (
              λ _. action_row,
              (
                λ _ kind args small bytes type long. bare LogAnd 0x06 0x20 refl (record { row = record { kind = refl; sizes = tt }; fits = tt }) kind args type,
                (
                  λ _ kind args small bytes type long. bare LogOr 0x07 0x20 refl (record { row = record { kind = refl; sizes = tt }; fits = tt }) kind args type,
                  (
                    λ _ kind args small bytes type long. bare IncOr 0x08 0x20 refl (record { row = record { kind = refl; sizes = tt }; fits = tt }) kind args type,
                    (
                      λ _ kind args small bytes type long. bare ExcOr 0x09 0x20 refl (record { row = record { kind = refl; sizes = tt }; fits = tt }) kind args type,
                      (
                        λ _ kind args small bytes type long. bare BoolAnd 0x0A 0x20 refl (record { row = record { kind = refl; sizes = tt }; fits = tt }) kind args type,
                        (
                          λ _ kind args small bytes type long. sized_row Equal 0x0B (λ k size. refl)
                              (λ k size byte t without few. record {
                                row = record { kind = t; sizes = without };
                                fits = (byte, few);
                              }) kind args small bytes type (kind == 0x24) refl long,
                          (
                            λ _ kind args small bytes type long. sized_row Nequal 0x0C (λ k size. refl)
                                (λ k size byte t without few. record {
                                  row = record { kind = t; sizes = without };
                                  fits = (byte, few);
                                }) kind args small bytes type (kind == 0x24) refl long,
                            (
                              λ _ kind args small bytes type long. typed_row Geq 0x0D (λ k. refl) kind args (record { row = record { kind = type; sizes = tt }; fits = small }),
                              (
                                λ _ kind args small bytes type long. typed_row Gt 0x0E (λ k. refl) kind args (record { row = record { kind = type; sizes = tt }; fits = small }),
                                (
                                  λ _ kind args small bytes type long. typed_row Lt 0x0F (λ k. refl) kind args (record { row = record { kind = type; sizes = tt }; fits = small }),
                                  (
                                    λ _ kind args small bytes type long. typed_row Leq 0x10 (λ k. refl) kind args (record { row = record { kind = type; sizes = tt }; fits = small }),
                                    (
                                      λ _ kind args small bytes type long. bare ShLeft 0x11 0x20 refl (record { row = record { kind = refl; sizes = tt }; fits = tt }) kind args type,
                                      (
                                        λ _ kind args small bytes type long. bare ShRight 0x12 0x20 refl (record { row = record { kind = refl; sizes = tt }; fits = tt }) kind args type,
                                        (
                                          λ _ kind args small bytes type long. bare UshRight 0x13 0x20 refl (record { row = record { kind = refl; sizes = tt }; fits = tt }) kind args type,
                                          (
                                            λ _ kind args small bytes type long. typed_row Add 0x14 (λ k. refl) kind args (record { row = record { kind = type; sizes = tt }; fits = small }),
                                            (
                                              λ _ kind args small bytes type long. typed_row Sub 0x15 (λ k. refl) kind args (record { row = record { kind = type; sizes = tt }; fits = small }),
                                              (
                                                λ _ kind args small bytes type long. typed_row Mul 0x16 (λ k. refl) kind args (record { row = record { kind = type; sizes = tt }; fits = small }),
                                                (
                                                  λ _ kind args small bytes type long. typed_row Div 0x17 (λ k. refl) kind args (record { row = record { kind = type; sizes = tt }; fits = small }),
                                                  (
                                                    λ _ kind args small bytes type long. bare Mod 0x18 0x20 refl (record { row = record { kind = refl; sizes = tt }; fits = tt }) kind args type,
                                                    (
                                                      λ _ kind args small bytes type long. typed_row Neg 0x19 (λ k. refl) kind args (record { row = record { kind = type; sizes = tt }; fits = small }),
                                                      (
                                                        λ _ kind args small bytes type long. bare Comp 0x1A 0x03 refl (record { row = record { kind = refl; sizes = tt }; fits = tt }) kind args type,
                                                        (
                                                          λ _ kind args small bytes type long. moved_row MovSp 0x1B 0x00
                                                              (λ n. refl) (λ n fits. record { row = record { kind = refl; sizes = tt }; fits = fits }) kind args bytes (eqb-true kind 0x00 type) long,
                                                          (
                                                            λ opcode. absurd cc,
                                                            (
                                                              λ _ kind args small bytes type long. moved_row Jmp 0x1D 0x00 (λ n. refl)
                                                                  (λ n fits. record { row = record { kind = refl; sizes = tt }; fits = fits }) kind args bytes (eqb-true kind 0x00 type) long,
                                                              (
                                                                λ _ kind args small bytes type long. moved_row Jsr 0x1E 0x00 (λ n. refl)
                                                                    (λ n fits. record { row = record { kind = refl; sizes = tt }; fits = fits }) kind args bytes (eqb-true kind 0x00 type) long,
                                                                (
                                                                  λ _ kind args small bytes type long. moved_row Jz 0x1F 0x00 (λ n. refl)
                                                                      (λ n fits. record { row = record { kind = refl; sizes = tt }; fits = fits }) kind args bytes (eqb-true kind 0x00 type) long,
                                                                  (
                                                                    λ _ kind args small bytes type long. bare Retn 0x20 0x00 refl
                                                                        (record { row = record { kind = refl; sizes = tt }; fits = tt }) kind args type,
                                                                    (
                                                                      λ _. destruct_row,
                                                                      (
                                                                        λ _ kind args small bytes type long. bare Not 0x22 0x03 refl
                                                                            (record { row = record { kind = refl; sizes = tt }; fits = tt }) kind args type,
                                                                        (
                                                                          λ _ kind args small bytes type long. moved_row DecISp 0x23 0x03 (λ n. refl)
                                                                              (λ n fits. record { row = record { kind = refl; sizes = tt }; fits = fits }) kind args bytes
                                                                              (eqb-true kind 0x03 type) long,
                                                                          (
                                                                            λ _ kind args small bytes type long. moved_row IncISp 0x24 0x03 (λ n. refl)
                                                                                (λ n fits. record { row = record { kind = refl; sizes = tt }; fits = fits }) kind args bytes
                                                                                (eqb-true kind 0x03 type) long,
                                                                            (
                                                                              λ _ kind args small bytes type long. moved_row Jnz 0x25 0x00 (λ n. refl)
                                                                                  (λ n fits. record { row = record { kind = refl; sizes = tt }; fits = fits }) kind args bytes
                                                                                  (eqb-true kind 0x00 type) long,
                                                                              (
                                                                                λ _ kind args small bytes type long. copied_row CpDownBp 0x26 0x01 (λ n size. refl)
                                                                                    (λ n size fits few. record { row = record { kind = refl; sizes = tt }; fits = (fits, few) }) kind args
                                                                                    bytes (eqb-true kind 0x01 type) long,
                                                                                (
                                                                                  λ _ kind args small bytes type long. copied_row CpTopBp 0x27 0x01 (λ n size. refl)
                                                                                      (λ n size fits few. record { row = record { kind = refl; sizes = tt }; fits = (fits, few) }) kind args
                                                                                      bytes (eqb-true kind 0x01 type) long,
                                                                                  (
                                                                                    λ _ kind args small bytes type long. moved_row DecIBp 0x28 0x03 (λ n. refl)
                                                                                        (λ n fits. record { row = record { kind = refl; sizes = tt }; fits = fits }) kind args bytes
                                                                                        (eqb-true kind 0x03 type) long,
                                                                                    (
                                                                                      λ _ kind args small bytes type long. moved_row IncIBp 0x29 0x03 (λ n. refl)
                                                                                          (λ n fits. record { row = record { kind = refl; sizes = tt }; fits = fits }) kind args bytes
                                                                                          (eqb-true kind 0x03 type) long,
                                                                                      (
                                                                                        λ _ kind args small bytes type long. bare SaveBp 0x2A 0x00 refl
                                                                                            (record { row = record { kind = refl; sizes = tt }; fits = tt }) kind args type,
                                                                                        (
                                                                                          λ _ kind args small bytes type long. bare RestoreBp 0x2B 0x00 refl
                                                                                              (record { row = record { kind = refl; sizes = tt }; fits = tt }) kind args type,
                                                                                          (
                                                                                            λ _. state_row,
                                                                                            (
                                                                                              λ _ kind args small bytes type long. bare Nop 0x2D 0x00 refl
                                                                                                  (record { row = record { kind = refl; sizes = tt }; fits = tt }) kind args type,
                                                                                              tt,
                                                                                            ),
                                                                                          ),
                                                                                        ),
                                                                                      ),
                                                                                    ),
                                                                                  ),
                                                                                ),
                                                                              ),
                                                                            ),
                                                                          ),
                                                                        ),
                                                                      ),
                                                                    ),
                                                                  ),
                                                                ),
                                                              ),
                                                            ),
                                                          ),
                                                        ),
                                                      ),
                                                    ),
                                                  ),
                                                ),
                                              ),
                                            ),
                                          ),
                                        ),
                                      ),
                                    ),
                                  ),
                                ),
                              ),
                            ),
                          ),
                        ),
                      ),
                    ),
                  ),
                ),
              ),
            ),
          ),
        ),
      ),
    )

-- ---- what begins with no fault

spelled_by : (code kind : ℕ) (args : List ℕ) → IsByte code → IsByte kind → Bytes args → (a b c : Bool) → is_opcode code ≡ a → has_type code kind ≡ b
    → nat_lt (length args) (args_size code kind args) ≡ c → fault_of (code ∷ kind ∷ args) ≡ None → Spelled (code ∷ kind ∷ args)
unfolding fault_of
spelled_by code kind args big small bytes false b c e f g clear = absurd
    (let gone : Some Opcode ≡ None = subst
    (λ x. (if not x then Some Opcode else
    (if not (has_type code kind) then Some TypeByte else
    (if nat_lt (length args) (args_size code kind args) then Some Short else None))) ≡ None) e clear in cc)
spelled_by code kind args big small bytes true false c e f g clear = absurd
    (let gone : Some TypeByte
    ≡ None = subst (λ x. (if not x then Some TypeByte else
    (if nat_lt (length args) (args_size code kind args) then Some Short else None)) ≡ None) f
    (subst (λ x. (if not x then Some Opcode else
    (if not (has_type code kind) then Some TypeByte else
    (if nat_lt (length args) (args_size code kind args) then Some Short else None))) ≡ None) e clear) in cc)
spelled_by code kind args big small bytes true true true e f g clear = absurd
    (let gone : Some Short ≡ None = subst (λ x. (if x then Some Short else None) ≡ None) g
    (subst (λ x. (if not x then Some TypeByte else
    (if nat_lt (length args) (args_size code kind args) then Some Short else None)) ≡ None) f
    (subst (λ x. (if not x then Some Opcode else
    (if not (has_type code kind) then Some TypeByte else
    (if nat_lt (length args) (args_size code kind args) then Some Short else None))) ≡ None) e clear)) in cc)
spelled_by code kind args big small bytes true true false e f g clear =
    row_at Coded 1 45 all_rows code (grind (arith, nat_tests)) (grind (arith, nat_tests)) e kind args small bytes f (ltb-false (length args) (args_size code kind args) g)

pub begins_spelled : (bytes : List ℕ) → Bytes bytes → fault_of bytes ≡ None → Spelled bytes
unfolding fault_of
begins_spelled [] held clear = absurd cc
begins_spelled (code ∷ []) held clear = one (is_opcode code) clear
  where
    one : (b : Bool) → (if b then Some Short else Some Opcode) ≡ None → Spelled (code ∷ [])
    one true e = absurd cc
    one false e = absurd cc
begins_spelled (code ∷ kind ∷ args) held clear =
    spelled_by code kind args held.0 held.1.0 held.1.1 (is_opcode code) (has_type code kind) (nat_lt (length args) (args_size code kind args)) refl refl refl clear
