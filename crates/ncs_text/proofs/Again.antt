-- Assembling a disassembly, and what a text answers.
use Rattle.std.proofs.Common.{◌≡◌, ◌≢◌, ℕ, ℤ, pos, negsuc, zero, suc, ◌+◌, ◌-◌, ◌<◌, ◌≤◌, ◌==◌, ◌&&◌, Bool, true, false, cond, nat_lt, ltb, List, [], ◌∷◌, ◌++◌, Option, Some, None, refl, sym, ap}
use Rattle.std.proofs.Common.{◌∙◌, subst, arith, append_assoc}
use Rattle.std.specs.Prelude.{is_some}
use Rattle.std.specs.List.{AllByRecursion}
use Rattle.std.proofs.lemmas.Bool.{le-ltb, lt-ltb}
use Rattle.std.proofs.lemmas.Bool.Decides.{nat_tests}
use Rattle.nwq_value.specs.Limits.{file_limit}
use Rattle.ncs_code.specs.Plain.{PlainOp, Jmp, Jsr, Jz, Jnz}
use Rattle.ncs_code.specs.Spelling.{op_size, IsOp}
use Rattle.ncs_code.specs.File.{header_size, file_bytes, file_length, op_at, begins, jump_place, distance, leads_well, IsCode}
use Rattle.ncs_code.specs.Laws.{SizeLaws, PlaceLaws, DistanceLeads}
use Rattle.nwq_text.specs.Cuts.{IsFree}
use Rattle.nwq_text.specs.Laws.{lines_none, lines_ended}
use Rattle.nwq_text.specs.Lines.{lines_of, without_return}
use Rattle.ncs_text.specs.Arguments.{reach, offset_to}
use Rattle.ncs_text.specs.Assembly.{Assembles, none, instruction, IsAssembled, heading}
use Rattle.ncs_text.specs.Listing.{arguments_text, op_line, listing, listing_from}
use Rattle.ncs_text.proofs.Naming.{IsPrinted}
use Rattle.ncs_text.proofs.Ops.{HasOpcode}
use Rattle.ncs_text.proofs.Texts.{IsLed, Led, op_text, op_printed, line_written}

-- ---- targets

near : (at place : ℕ) (a b : Bool) → a ≡ true → b ≡ true → cond (a && b) (distance at place) (negsuc 2147483647) ≡ distance at place
near at place a b h k = rw (h, k) refl

offset_near : (at place : ℕ) → at < reach → place < reach → offset_to at place ≡ distance at place
unfolding offset_to
offset_near at place h k = near at place (nat_lt at reach) (nat_lt place reach) (grind (arith, nat_tests, h)) (grind (arith, nat_tests, k))

far : (at place : ℕ) (a b : Bool) → a ≡ true → b ≡ false → cond (a && b) (distance at place) (negsuc 2147483647) ≡ negsuc 2147483647
far at place a b h k = rw (h, k) refl

offset_far : (at place : ℕ) → at < reach → reach ≤ place → offset_to at place ≡ negsuc 2147483647
unfolding offset_to
offset_far at place h k = far at place (nat_lt at reach) (nat_lt place reach) (grind (arith, nat_tests, h)) (grind (arith, nat_tests, k))

-- the distance to where a jump leads is its own
back_by : (m n : ℕ) (t : Bool) → ltb (suc m - suc n) (suc m) ≡ t → suc n ≤ suc m → cond t (negsuc (suc m - suc (suc m - suc n))) (pos ((suc m - suc n) - suc m)) ≡ negsuc n
back_by m n true is fits = let same : suc m - suc (suc m - suc n) ≡ n = omega (arith, fits) in ap negsuc same
back_by m n false is fits = let test : ltb (suc m - suc n) (suc m) ≡ true = lt-ltb _ _ (omega (arith, fits)) in let wrong : false ≡ true = sym is ∙ test in absurd cc

on_by : (m n : ℕ) (t : Bool) → ltb (suc m + n) (suc m) ≡ t → cond t (negsuc (suc m - suc (suc m + n))) (pos ((suc m + n) - suc m)) ≡ pos n
on_by m n true is = let test : ltb (suc m + n) (suc m) ≡ false = le-ltb _ _ (omega arith) in let wrong : true ≡ false = sym is ∙ test in absurd cc
on_by m n false is = let same : (suc m + n) - suc m ≡ n = omega arith in ap pos same

distance_back : (at : ℕ) (offset : ℤ) → 1 ≤ jump_place at offset → distance at (jump_place at offset) ≡ offset
distance_back zero (pos n) some = let same : 0 + n + 0 ≡ n = omega arith in ap pos same
distance_back zero (negsuc n) some = absurd (omega (arith, some))
distance_back (suc m) (pos n) some = on_by m n (ltb (suc m + n) (suc m)) refl
distance_back (suc m) (negsuc n) some = back_by m n (ltb (suc m - suc n) (suc m)) refl (omega (arith, some))

record Lies (ops : List PlainOp) (place : ℕ) : Type 0 where
  low : 13 ≤ place
  high : place < file_length ops

lies_by : SizeLaws → PlaceLaws → (ops : List PlainOp) (place : ℕ) (o : Option PlainOp) → op_at ops place ≡ o → is_some o ≡ true → Lies ops place
lies_by sizes places ops place None is some = absurd cc
lies_by sizes places ops place (Some op) is some =
    let l = places.lies ops place op is in record { low = l.0; high = omega (arith, l.1, sizes.some op) }

lies : SizeLaws → PlaceLaws → (ops : List PlainOp) (place : ℕ) → begins ops place ≡ true → Lies ops place
lies sizes places ops place h = lies_by sizes places ops place (op_at ops place) refl h

-- no instruction begins outside
outside_by : PlaceLaws → (ops : List PlainOp) (place : ℕ) (o : Option PlainOp) → op_at ops place ≡ o → ((op : PlainOp) → op_at ops place ≡ Some op → ⊥) → is_some o ≡ false
outside_by places ops place None is never = refl
outside_by places ops place (Some op) is never = absurd (never op is)

before_none : PlaceLaws → (ops : List PlainOp) → begins ops 0 ≡ false
before_none places ops = outside_by places ops 0 (op_at ops 0) refl (λ op is. omega (arith, (places.lies ops 0 op is).0))

behind_none : PlaceLaws → (ops : List PlainOp) (place : ℕ) → file_length ops ≤ file_limit → reach ≤ place → begins ops place ≡ false
behind_none places ops place small high = outside_by places ops place (op_at ops place) refl (λ op is. omega (arith, (places.lies ops place op is).1, small, high))

meant_by : PlaceLaws → DistanceLeads → (ops : List PlainOp) (at place : ℕ) (t : Bool) → nat_lt place reach ≡ t → at ≤ file_limit → file_length ops ≤ file_limit
    → begins ops (jump_place at (offset_to at place)) ≡ begins ops place
meant_by places leads ops at place true is low small =
    ap (λ o. begins ops (jump_place at o)) (offset_near at place (omega (arith, low)) (grind (arith, nat_tests, is))) ∙ ap (begins ops) (leads at place)
meant_by places leads ops at place false is low small =
    let high : reach ≤ place = grind (arith, nat_tests, is)
    in let back : jump_place at (negsuc 2147483647) ≡ 0 = omega (arith, low)
    in ap (λ o. begins ops (jump_place at o)) (offset_far at place (omega (arith, low)) high) ∙ ap (begins ops) back ∙ before_none places ops ∙ sym (behind_none places ops place small high)

pub target_is_meant : PlaceLaws → DistanceLeads → (ops : List PlainOp) (at place : ℕ) → at ≤ file_limit → file_length ops ≤ file_limit
    → begins ops (jump_place at (offset_to at place)) ≡ begins ops place
target_is_meant places leads ops at place low small = meant_by places leads ops at place (nat_lt place reach) refl low small

-- ---- the lines of a listing

is_led : SizeLaws → PlaceLaws → (ops : List PlainOp) (at : ℕ) (offset : ℤ) → file_length ops ≤ file_limit → at ≤ file_limit → begins ops (jump_place at offset) ≡ true → IsLed at offset
is_led sizes places ops at offset small low well =
    let l = lies sizes places ops (jump_place at offset) well
    in (omega (arith, l.high, small), offset_near at (jump_place at offset) (omega (arith, low)) (omega (arith, l.high, small)) ∙ distance_back at offset (omega (arith, l.low)))

led_of : SizeLaws → PlaceLaws → (ops : List PlainOp) (at : ℕ) (op : PlainOp) → file_length ops ≤ file_limit → at ≤ file_limit → leads_well ops at op ≡ true → Led at op
led_of sizes places ops at (Jmp offset) small low well = is_led sizes places ops at offset small low well
led_of sizes places ops at (Jsr offset) small low well = is_led sizes places ops at offset small low well
led_of sizes places ops at (Jz offset) small low well = is_led sizes places ops at offset small low well
led_of sizes places ops at (Jnz offset) small low well = is_led sizes places ops at offset small low well
led_of sizes places ops at _ small low well = tt

printed_free : (bytes : List ℕ) → IsPrinted bytes → IsFree 10 bytes
printed_free [] h = tt
printed_free (b ∷ bs) h = let other : b ≢ 10 = omega (arith, h.0) in (other, printed_free bs h.1)

kept_byte : (b : ℕ) → 32 ≤ b → cond (b == 13) [] (b ∷ []) ≡ b ∷ []
kept_byte b h = let test : (b == 13) ≡ false = grind (arith, nat_tests, h) in ap (λ t. cond t [] (b ∷ [])) test

unreturned : (bytes : List ℕ) → IsPrinted bytes → without_return bytes ≡ bytes
unreturned [] h = refl
unreturned (b ∷ []) h = kept_byte b h.0
unreturned (b ∷ c ∷ bs) h = ap (λ s. b ∷ s) (unreturned (c ∷ bs) h.1)

line_is : (at : ℕ) (op : PlainOp) (rest : List ℕ) → op_line at op ++ rest ≡ op_text at op ++ 10 ∷ rest
unfolding op_line
line_is at op rest =
    ap (λ l. l ++ rest) (sym (append_assoc (heading op) (arguments_text at op) (10 ∷ []))) ∙ append_assoc (op_text at op) (10 ∷ []) rest

first_line : HasOpcode → (at : ℕ) (op : PlainOp) (rest : List ℕ) → IsOp op → Led at op → lines_of (op_line at op ++ rest) ≡ op_text at op ∷ lines_of rest
first_line known at op rest h led =
    let p = op_printed known at op h led
    in ap lines_of (line_is at op rest) ∙ lines_ended (op_text at op) rest (printed_free (op_text at op) p) ∙ ap (λ l. l ∷ lines_of rest) (unreturned (op_text at op) p)

-- each of them is led
abbrev AllLed : ℕ → List PlainOp → Type 0
AllLed at [] = Unit {0}
AllLed at (op ∷ ops) = Led at op × AllLed (at + op_size op) ops

listed : SizeLaws → HasOpcode → (at : ℕ) (ops : List PlainOp) → AllByRecursion IsOp ops → AllLed at ops → Assembles at (lines_of (listing_from at ops)) ops
listed sizes known at [] each led = subst (λ ls. Assembles at ls []) (sym lines_none) (none at)
listed sizes known at (op ∷ ops) each led =
    subst (λ ls. Assembles at ls (op ∷ ops)) (sym (first_line known at op (listing_from (at + op_size op) ops) each.0 led.0))
    (instruction at (op_text at op) op (lines_of (listing_from (at + op_size op) ops)) ops (line_written sizes at op each.0 led.0)
    (listed sizes known (at + op_size op) ops each.1 led.1))

all_led : SizeLaws → PlaceLaws → (whole met others : List PlainOp) (at : ℕ) → IsCode whole → whole ≡ met ++ others → at ≡ file_length met → AllLed at others
all_led sizes places whole met [] at code both place = tt
all_led sizes places whole met (op ∷ others) at code both place =
    let there : op_at whole at ≡ Some op = ap (λ os. op_at os at) both ∙ ap (op_at (met ++ op ∷ others)) place ∙ places.begins met others op
    in (
      led_of sizes places whole at op code.bounded (omega (arith, (places.lies whole at op there).1, code.bounded)) (code.leads at op there),
      all_led sizes places whole (met ++ op ∷ []) others (at + op_size op) code (both ∙ sym (append_assoc met (op ∷ []) others))
          (omega (arith, place, sizes.add met (op ∷ []))),
    )

pub listed_again : SizeLaws → PlaceLaws → HasOpcode → (ops : List PlainOp) → IsCode ops → IsAssembled (listing ops) (file_bytes ops)
listed_again sizes places known ops code = record {
  ops = ops;
  lines = listed sizes known header_size ops code.each (all_led sizes places ops [] ops header_size code refl refl);
  code = code;
  is = refl;
}
