-- The names of the instructions.
use Rattle.std.specs.Prelude.{◌≡◌, ◌≢◌, ℕ, List, [], ◌∷◌, codes, slice_index_or, IsTrue, Option, None, Some}
use Rattle.ncs_code.specs.Plain.{PlainOp}
use Rattle.ncs_code.specs.Spelling.{is_opcode, opcode}

-- by opcode, and empty where there is none
abbrev pub names : List (List ℕ)
names =
    []
    ∷ codes "CPDOWNSP"
    ∷ codes "RSADD"
    ∷ codes "CPTOPSP"
    ∷ codes "CONST"
    ∷ codes "ACTION"
    ∷ codes "LOGAND"
    ∷ codes "LOGOR"
    ∷ codes "INCOR"
    ∷ codes "EXCOR"
    ∷ codes "BOOLAND"
    ∷ codes "EQUAL"
    ∷ codes "NEQUAL"
    ∷ codes "GEQ"
    ∷ codes "GT"
    ∷ codes "LT"
    ∷ codes "LEQ"
    ∷ codes "SHLEFT"
    ∷ codes "SHRIGHT"
    ∷ codes "USHRIGHT"
    ∷ codes "ADD"
    ∷ codes "SUB"
    ∷ codes "MUL"
    ∷ codes "DIV"
    ∷ codes "MOD"
    ∷ codes "NEG"
    ∷ codes "COMP"
    ∷ codes "MOVSP"
    ∷ []
    ∷ codes "JMP"
    ∷ codes "JSR"
    ∷ codes "JZ"
    ∷ codes "RETN"
    ∷ codes "DESTRUCT"
    ∷ codes "NOT"
    ∷ codes "DECISP"
    ∷ codes "INCISP"
    ∷ codes "JNZ"
    ∷ codes "CPDOWNBP"
    ∷ codes "CPTOPBP"
    ∷ codes "DECIBP"
    ∷ codes "INCIBP"
    ∷ codes "SAVEBP"
    ∷ codes "RESTOREBP"
    ∷ codes "STORE_STATE"
    ∷ codes "NOP"
    ∷ []

-- the name of an opcode, and of an instruction
abbrev pub name_at : ℕ → List ℕ
name_at code = slice_index_or names code []

abbrev pub name_of : PlainOp → List ℕ
name_of op = name_at (opcode op)

-- which opcode has this name, if one has it
abbrev pub IsNamed : List ℕ → Option ℕ → Type 0
IsNamed name (Some code) = IsTrue (is_opcode code) × (name_at code ≡ name)
IsNamed name None = (code : ℕ) → IsTrue (is_opcode code) → name_at code ≢ name
