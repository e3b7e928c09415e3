-- The local variables of an object, a list of ints and strings by type and name.
use Rattle.std.specs.Prelude.{ℕ, ℤ, pos, Bool, false, if◌then◌else◌, List, [], ◌∷◌, Option, None, Some}
use Rattle.std.specs.Str.{bytes_eq}
use Rattle.local_variables.specs.declared.vars.Var.{Var}
use Rattle.local_variables.specs.declared.vars.Var.TheVariants.{Int, Text}

-- an int or a string under a name
pub data Variable : Type 0 where
  IntVar : List ℕ → ℤ → Variable
  TextVar : List ℕ → List ℕ → Variable

-- the variable that a caller names
abbrev pub variable_of : Var → Variable
variable_of (Int name n) = IntVar name.now n
variable_of (Text name text) = TextVar name.now text.now

-- is it the int of this name? Names of ints and of strings are apart.
abbrev pub is_int : List ℕ → Variable → Bool
is_int name (IntVar own n) = bytes_eq name own
is_int name (TextVar own text) = false

abbrev pub is_text : List ℕ → Variable → Bool
is_text name (IntVar own n) = false
is_text name (TextVar own text) = bytes_eq name own

-- have two variables one type and name?
abbrev pub same_variable : Variable → Variable → Bool
same_variable (IntVar name n) other = is_int name other
same_variable (TextVar name text) other = is_text name other

-- the first variable that passes a test
abbrev pub first : (Variable → Bool) → List Variable → Option Variable
first test [] = None
first test (v ∷ vars) = if test v then Some v else first test vars

-- the value of an int, or 0 where there is none
abbrev pub int_of : Option Variable → ℤ
int_of None = pos 0
int_of (Some (IntVar name n)) = n
int_of (Some (TextVar name text)) = pos 0

abbrev pub int_named : List ℕ → List Variable → ℤ
int_named name vars = int_of (first (is_int name) vars)

-- a string, or the empty one where there is none
abbrev pub text_of : Option Variable → List ℕ
text_of None = []
text_of (Some (IntVar name n)) = []
text_of (Some (TextVar name text)) = text

abbrev pub text_named : List ℕ → List Variable → List ℕ
text_named name vars = text_of (first (is_text name) vars)

-- the variable of the same type and name among these
abbrev pub matching : Variable → List Variable → Option Variable
matching v vars = first (same_variable v) vars

-- the variables with this one: in the place of the one of its type and name, or last where there is
-- none
abbrev pub put : Variable → List Variable → List Variable
put v [] = v ∷ []
put v (w ∷ vars) = if same_variable v w then v ∷ vars else w ∷ put v vars
