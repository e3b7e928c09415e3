-- Places and operators as code holds them, and the code before and behind the value of a prefix
-- operator.
use Rattle.std.specs.Prelude.{ℕ, ◌+◌, ◌≤◌, List, [], ◌∷◌, Option, None, Some}
use Rattle.ncs_code.specs.Plain as ops
use Rattle.ncs_emit.specs.Labelled.{Line, Instruction}
use Rattle.nss_tree.specs.declared.operators.PrefixOperator.{PrefixOperator}
use Rattle.nss_tree.specs.declared.operators.PrefixOperator.TheVariants.{Minus, Complement, Not, Increment, Decrement}
use Rattle.codegen_expr.specs.declared.operations.Shortcut.{Shortcut}
use Rattle.codegen_expr.specs.declared.operations.Shortcut.TheVariants as shortcut
use Rattle.codegen_expr.specs.declared.places.Home.{Home}
use Rattle.codegen_expr.specs.declared.places.Home.TheVariants.{Frame, Globals}
use Rattle.typing_rules.specs.Typed.{TypedExpr, literal, name, call, member, prefix, postfix, binary, assign}
use Rattle.emission_rules.specs.Layout.{Layout}
use Rattle.emission_rules.specs.Expressions as code

abbrev pub plain_home : Home → code.Home
plain_home (Frame at) = code.InFrame at
plain_home (Globals at) = code.InGlobals at

-- how many cells stand before a member in the values that it is a part of, together
abbrev pub offsets : TypedExpr → ℕ
offsets (literal k) = 0
offsets (name t p) = 0
offsets (call t f xs ks) = 0
offsets (member t x offset) = offset + offsets x
offsets (prefix t o x) = 0
offsets (postfix t o x) = 0
offsets (binary t o x y) = 0
offsets (assign t o x y) = 0

-- a place is at most so many cells above the highest position of a variable
abbrev pub IsAbove : ℕ → Home → Type 0
IsAbove cells (Frame at) = at ≤ 4294967295 + cells
IsAbove cells (Globals at) = at ≤ 4294967295 + cells

abbrev pub IsSomeAbove : ℕ → Option Home → Type 0
IsSomeAbove cells None = Unit {0}
IsSomeAbove cells (Some home) = IsAbove cells home

abbrev pub plain_shortcut : Shortcut → code.Shortcut
plain_shortcut shortcut.WhereTrue = code.WhereTrue
plain_shortcut shortcut.WhereFalse = code.WhereFalse
plain_shortcut shortcut.Never = code.Never

abbrev pub prefix_before : Layout → ℕ → PrefixOperator → Option code.Home → List Line
prefix_before l depth Minus h = []
prefix_before l depth Complement h = []
prefix_before l depth Not h = []
prefix_before l depth Increment h = code.at_home (code.increment l depth) h
prefix_before l depth Decrement h = code.at_home (code.decrement l depth) h

abbrev pub prefix_behind : PrefixOperator → List Line
prefix_behind Minus = Instruction (ops.Neg 0x03) ∷ []
prefix_behind Complement = Instruction ops.Comp ∷ []
prefix_behind Not = Instruction ops.Not ∷ []
prefix_behind Increment = []
prefix_behind Decrement = []
