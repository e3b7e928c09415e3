-- How deep the tokens nest, counted over the tokens alone. A list of numbers is carried over them,
-- with a count of open `do`s beside each number; the nest of a token is the sum of the numbers
-- after it.
use Rattle.std.specs.Prelude.{ℕ, ◌+◌, ◌-◌, ◌<◌, ◌≤◌, ◌==◌, Bool, true, false, ◌&&◌, not, List, [], ◌∷◌, Option, None, Some, sum_by, slice_index, map, if◌then◌else◌, ◌↔◌, ◌++◌}
use Rattle.std.specs.List.{AllByRecursion}
use Rattle.nwq_value.specs.Limits.{nest_limit}
use Rattle.nss_symbols.specs.declared.terminal.Terminal.{Terminal}
use Rattle.nss_symbols.specs.declared.terminal.Terminal.TheVariants as terminal
use Rattle.nss_symbols.specs.Symbols.{Symbol, Fixed}

-- a number, and the count of open `do`s beside it
pub record Level : Type 0 where
  pub number : ℕ
  pub dos : ℕ

-- the last number, and those below it, the nearest first
pub record State : Type 0 where
  pub last : Level
  pub below : List Level

-- the one number 0
abbrev pub start : State
start = record { last = record { number = 0; dos = 0 }; below = [] }

abbrev pub is_opening : Terminal → Bool
is_opening terminal.Open = true
is_opening terminal.OpenBrace = true
is_opening terminal.OpenBracket = true
is_opening _ = false

abbrev pub is_closing : Terminal → Bool
is_closing terminal.Close = true
is_closing terminal.CloseBrace = true
is_closing terminal.CloseBracket = true
is_closing _ = false

-- a `}` or `;`
abbrev pub is_end : Terminal → Bool
is_end terminal.CloseBrace = true
is_end terminal.Semicolon = true
is_end _ = false

-- the words of branches and loops, the operators and the assignments
abbrev pub is_head : Terminal → Bool
is_head terminal.If = true
is_head terminal.Else = true
is_head terminal.While = true
is_head terminal.Do = true
is_head terminal.For = true
is_head terminal.Switch = true
is_head terminal.OrOr = true
is_head terminal.AndAnd = true
is_head terminal.Or = true
is_head terminal.Xor = true
is_head terminal.And = true
is_head terminal.Equal = true
is_head terminal.NotEqual = true
is_head terminal.GreaterEqual = true
is_head terminal.Greater = true
is_head terminal.Less = true
is_head terminal.LessEqual = true
is_head terminal.ShiftLeft = true
is_head terminal.ShiftRight = true
is_head terminal.ShiftRightUnsigned = true
is_head terminal.Plus = true
is_head terminal.Minus = true
is_head terminal.Star = true
is_head terminal.Slash = true
is_head terminal.Percent = true
is_head terminal.Not = true
is_head terminal.Tilde = true
is_head terminal.PlusPlus = true
is_head terminal.MinusMinus = true
is_head terminal.Dot = true
is_head terminal.Assign = true
is_head terminal.PlusAssign = true
is_head terminal.MinusAssign = true
is_head terminal.StarAssign = true
is_head terminal.SlashAssign = true
is_head terminal.PercentAssign = true
is_head terminal.AndAssign = true
is_head terminal.OrAssign = true
is_head terminal.XorAssign = true
is_head terminal.ShiftLeftAssign = true
is_head terminal.ShiftRightAssign = true
is_head terminal.ShiftRightUnsignedAssign = true
is_head _ = false

abbrev pub is_do : Terminal → Bool
is_do terminal.Do = true
is_do _ = false

abbrev pub is_while : Terminal → Bool
is_while terminal.While = true
is_while _ = false

abbrev pub is_else : Terminal → Bool
is_else terminal.Else = true
is_else _ = false

-- the word or sign that a token is, if it is one: no other token changes the numbers
abbrev pub terminal_in : Symbol → Option Terminal
terminal_in (Fixed m) = Some m
terminal_in _ = None

-- a test of a word or a sign, and false of every other token
abbrev pub is_some_and : (Terminal → Bool) → Option Terminal → Bool
is_some_and p (Some m) = p m
is_some_and p None = false

-- an opening bracket appends the number 1
abbrev pub opened : Terminal → State → State
opened m s = if is_opening m then record {
  last = record { number = 1; dos = 0 };
  below = s.last ∷ s.below;
} else s

abbrev pub without_last : Level → List Level → State
without_last last [] = record { last = last; below = [] }
without_last last (l ∷ ls) = record { last = l; below = ls }

-- a closing bracket takes the last number off, where more than one number is there
abbrev pub closed : Terminal → State → State
closed m s = if is_closing m then without_last s.last s.below else s

abbrev pub with_last : State → Level → State
with_last s l = record { last = l; below = s.below }

-- a head adds 1 to the last number
abbrev pub headed : Terminal → State → State
headed m s = if is_head m then with_last s
    (record { number = s.last.number + 1; dos = s.last.dos }) else s

-- a `do` also raises the count of the last number by 1
abbrev pub do_counted : Terminal → State → State
do_counted m s = if is_do m then with_last s
    (record { number = s.last.number; dos = s.last.dos + 1 }) else s

-- a `while` directly after `}` or `;` lowers the count of the last number by 1 where it isn't 0
abbrev pub uncounted : Option Terminal → Terminal → State → State
uncounted before m s = if is_while m
    && is_some_and is_end before then with_last s
    (record { number = s.last.number; dos = s.last.dos - 1 }) else s

abbrev pub reset_number : List Level → ℕ
reset_number [] = 0
reset_number (l ∷ ls) = 1

abbrev pub is_positive : ℕ → Bool
is_positive n = not (n == 0)

-- A `}` or `;` then resets the last number, to 1, or to 0 where it is the only one, and its count
-- to 0; but not before `else`, and not before `while` where the count is above 0.
abbrev pub reset : Terminal → Option Terminal → State → State
reset m after s =
    if is_end m && not (is_some_and is_else after)
    && not (is_some_and is_while after && is_positive s.last.dos)
    then with_last s (record { number = reset_number s.below; dos = 0 })
    else s

-- what a token makes of the numbers, by the one before it and the one after it
abbrev pub changed : Option Terminal → Option Terminal → Option Terminal → State → State
changed before None after s = s
changed before (Some m) after s = reset m after
    (uncounted before m (do_counted m (headed m (closed m (opened m s)))))

-- the sum of the numbers
abbrev pub total : State → ℕ
total s = s.last.number + sum_by (λ l. l.number) s.below

abbrev pub head_of : List (Option Terminal) → Option Terminal
head_of [] = None
head_of (m ∷ ms) = m

-- the nest of each token, from a state on, after this token
abbrev pub nests_from : Option Terminal → State → List (Option Terminal) → List ℕ
nests_from before s [] = []
nests_from before s (m ∷ ms) =
    let after = changed before m (head_of ms) s
    in total after ∷ nests_from m after ms

unfoldable pub nests : List Symbol → List ℕ
nests tokens = nests_from None start (map terminal_in tokens)

-- token i is the first whose nest passes the limit
pub record IsFirstOver (tokens : List Symbol) (i : ℕ) : Type 0 where
  pub over : nest_limit < slice_index (nests tokens) i
  pub before : (k : ℕ) → k < i → slice_index (nests tokens) k ≤ nest_limit

-- no token's nest passes the limit
abbrev pub IsWithinNest : List Symbol → Type 0
IsWithinNest tokens = (k : ℕ) → slice_index (nests tokens) k ≤ nest_limit

-- what the walk over the tokens answers
abbrev pub IsNestAnswer : List Symbol → Option ℕ → Type 0
IsNestAnswer tokens None = IsWithinNest tokens
IsNestAnswer tokens (Some i) = IsFirstOver tokens i

-- A walk over tokens that is to go on: the last token waits for the one after it. The state is that
-- before the last; where there is no token yet, none waits.
pub record Walk : Type 0 where
  pub state : State
  pub before : Option Terminal
  pub last : Option Terminal

-- with these tokens behind it, no token from the last one on passes the limit
abbrev pub StaysWithin : Walk → List Symbol → Type 0
StaysWithin w more =
    AllByRecursion (λ n. n ≤ nest_limit) (nests_from w.before w.state (w.last ∷ map terminal_in more))

-- What the walk over tokens comes to: it goes on, or they nest too deep whatever follows.
abbrev pub IsWalkOver : List Symbol → Option Walk → Type 0
IsWalkOver tokens (Some w) =
    (more : List Symbol) → IsWithinNest (tokens ++ more) ↔ StaysWithin w more
IsWalkOver tokens None = (more : List Symbol) → IsWithinNest (tokens ++ more) → ⊥
