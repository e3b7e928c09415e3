-- The sizes of instructions are the lengths of their spellings.
use Rattle.std.proofs.Common.{◌≡◌, ◌≤◌, ◌+◌, ◌++◌, ◌∷◌, [], ℕ, List, length, Bool, true, false, cond, eqb, refl, arith}
use Rattle.std.proofs.lemmas.List.{length-append}
use Rattle.ncs_code.specs.Plain.{PlainLit, PlainOp, Int, Float, Text, Object, Const, Equal, Nequal}
use Rattle.ncs_code.specs.Spelling.{two, four, signed, spelling, lit_spelling, literal_size, op_size}
use Rattle.ncs_code.specs.File.{spellings, ops_size, file_bytes, file_length}

run_length : (kind size : ℕ) (test : Bool) → cond test 4 2 ≡ 2 + length (cond test (two size) [])
unfolding two
run_length kind size true = omega arith
run_length kind size false = omega arith

literal_length : (lit : PlainLit) → literal_size lit + 1 ≡ length (lit_spelling lit)
unfolding two four signed
literal_length (Int n) = omega arith
literal_length (Float bytes) = omega arith
literal_length (Text bytes) = omega arith
literal_length (Object n) = omega arith

pub size_is_length : (op : PlainOp) → op_size op ≡ length (spelling op)
unfolding two four signed
size_is_length (Const lit) = omega (arith, literal_length lit)
size_is_length (Equal kind size) = omega (arith, run_length kind size (eqb kind 0x24))
size_is_length (Nequal kind size) = omega (arith, run_length kind size (eqb kind 0x24))
size_is_length _ = refl

lit_some : (lit : PlainLit) → 1 ≤ length (lit_spelling lit)
lit_some (Int n) = omega arith
lit_some (Float bytes) = omega arith
lit_some (Text bytes) = omega arith
lit_some (Object n) = omega arith

-- an opcode and a type byte at least
pub spelling_some : (op : PlainOp) → 2 ≤ length (spelling op)
spelling_some (Const lit) = omega (arith, lit_some lit)
spelling_some _ = omega arith

pub size_some : (op : PlainOp) → 2 ≤ op_size op
size_some op = omega (arith, size_is_length op, spelling_some op)

pub sizes_are_lengths : (ops : List PlainOp) → ops_size ops ≡ length (spellings ops)
sizes_are_lengths [] = refl
sizes_are_lengths (op ∷ ops) = omega (arith, length-append (spelling op) (spellings ops), size_is_length op, sizes_are_lengths ops)

pub sizes_add : (before behind : List PlainOp) → ops_size (before ++ behind) ≡ ops_size before + ops_size behind
sizes_add [] behind = omega arith
sizes_add (op ∷ before) behind = omega (arith, sizes_add before behind)

pub length_file : (ops : List PlainOp) → length (file_bytes ops) ≡ file_length ops
unfolding four
length_file ops = omega (arith, sizes_are_lengths ops)
