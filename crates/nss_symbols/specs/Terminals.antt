-- The terminals of the grammar, words and signs of one fixed spelling: how each is written, and
-- which one a text is.
use Rattle.std.specs.Prelude.{◌≡◌, IsTrue, ℕ, List, [], ◌∷◌, Option, None, Some, codes, bytes_eq, if◌then◌else◌}
use Rattle.nss_symbols.specs.declared.terminal.Terminal.{Terminal}
use Rattle.nss_symbols.specs.declared.terminal.Terminal.TheVariants as terminal
use Rattle.nss_lexer.specs.Lexemes.{is_sign, is_word}

unfoldable pub spelling : Terminal → List ℕ
spelling terminal.Void = codes "void"
spelling terminal.Int = codes "int"
spelling terminal.Float = codes "float"
spelling terminal.String = codes "string"
spelling terminal.Object = codes "object"
spelling terminal.Vector = codes "vector"
spelling terminal.Location = codes "location"
spelling terminal.Effect = codes "effect"
spelling terminal.Event = codes "event"
spelling terminal.Talent = codes "talent"
spelling terminal.ItemProperty = codes "itemproperty"
spelling terminal.Action = codes "action"
spelling terminal.Struct = codes "struct"
spelling terminal.Const = codes "const"
spelling terminal.If = codes "if"
spelling terminal.Else = codes "else"
spelling terminal.While = codes "while"
spelling terminal.Do = codes "do"
spelling terminal.For = codes "for"
spelling terminal.Switch = codes "switch"
spelling terminal.Case = codes "case"
spelling terminal.Default = codes "default"
spelling terminal.Break = codes "break"
spelling terminal.Continue = codes "continue"
spelling terminal.Return = codes "return"
spelling terminal.ObjectSelf = codes "OBJECT_SELF"
spelling terminal.ObjectInvalid = codes "OBJECT_INVALID"
spelling terminal.OrOr = codes "||"
spelling terminal.AndAnd = codes "&&"
spelling terminal.Or = codes "|"
spelling terminal.Xor = codes "^"
spelling terminal.And = codes "&"
spelling terminal.Equal = codes "=="
spelling terminal.NotEqual = codes "!="
spelling terminal.GreaterEqual = codes ">="
spelling terminal.Greater = codes ">"
spelling terminal.Less = codes "<"
spelling terminal.LessEqual = codes "<="
spelling terminal.ShiftLeft = codes "<<"
spelling terminal.ShiftRight = codes ">>"
spelling terminal.ShiftRightUnsigned = codes ">>>"
spelling terminal.Plus = codes "+"
spelling terminal.Minus = codes "-"
spelling terminal.Star = codes "*"
spelling terminal.Slash = codes "/"
spelling terminal.Percent = codes "%"
spelling terminal.Not = codes "!"
spelling terminal.Tilde = codes "~"
spelling terminal.PlusPlus = codes "++"
spelling terminal.MinusMinus = codes "--"
spelling terminal.Dot = codes "."
spelling terminal.Assign = codes "="
spelling terminal.PlusAssign = codes "+="
spelling terminal.MinusAssign = codes "-="
spelling terminal.StarAssign = codes "*="
spelling terminal.SlashAssign = codes "/="
spelling terminal.PercentAssign = codes "%="
spelling terminal.AndAssign = codes "&="
spelling terminal.OrAssign = codes "|="
spelling terminal.XorAssign = codes "^="
spelling terminal.ShiftLeftAssign = codes "<<="
spelling terminal.ShiftRightAssign = codes ">>="
spelling terminal.ShiftRightUnsignedAssign = codes ">>>="
spelling terminal.Open = codes "("
spelling terminal.Close = codes ")"
spelling terminal.OpenBrace = codes "{"
spelling terminal.CloseBrace = codes "}"
spelling terminal.OpenBracket = codes "["
spelling terminal.CloseBracket = codes "]"
spelling terminal.Comma = codes ","
spelling terminal.Semicolon = codes ";"
spelling terminal.Colon = codes ":"
spelling terminal.Question = codes "?"
spelling terminal.Hash = codes "#"

abbrev pub terminals : List Terminal
terminals =
    terminal.Void ∷ terminal.Int ∷ terminal.Float ∷ terminal.String ∷ terminal.Object ∷ terminal.Vector
    ∷ terminal.Location ∷ terminal.Effect ∷ terminal.Event ∷ terminal.Talent ∷ terminal.ItemProperty
    ∷ terminal.Action ∷ terminal.Struct ∷ terminal.Const ∷ terminal.If ∷ terminal.Else ∷ terminal.While
    ∷ terminal.Do ∷ terminal.For ∷ terminal.Switch ∷ terminal.Case ∷ terminal.Default ∷ terminal.Break
    ∷ terminal.Continue ∷ terminal.Return ∷ terminal.ObjectSelf ∷ terminal.ObjectInvalid ∷ terminal.OrOr
    ∷ terminal.AndAnd ∷ terminal.Or ∷ terminal.Xor ∷ terminal.And ∷ terminal.Equal ∷ terminal.NotEqual
    ∷ terminal.GreaterEqual ∷ terminal.Greater ∷ terminal.Less ∷ terminal.LessEqual ∷ terminal.ShiftLeft
    ∷ terminal.ShiftRight ∷ terminal.ShiftRightUnsigned ∷ terminal.Plus ∷ terminal.Minus ∷ terminal.Star
    ∷ terminal.Slash ∷ terminal.Percent ∷ terminal.Not ∷ terminal.Tilde ∷ terminal.PlusPlus
    ∷ terminal.MinusMinus ∷ terminal.Dot ∷ terminal.Assign ∷ terminal.PlusAssign ∷ terminal.MinusAssign
    ∷ terminal.StarAssign ∷ terminal.SlashAssign ∷ terminal.PercentAssign ∷ terminal.AndAssign
    ∷ terminal.OrAssign ∷ terminal.XorAssign ∷ terminal.ShiftLeftAssign ∷ terminal.ShiftRightAssign
    ∷ terminal.ShiftRightUnsignedAssign ∷ terminal.Open ∷ terminal.Close ∷ terminal.OpenBrace
    ∷ terminal.CloseBrace ∷ terminal.OpenBracket ∷ terminal.CloseBracket ∷ terminal.Comma ∷ terminal.Semicolon
    ∷ terminal.Colon ∷ terminal.Question ∷ terminal.Hash ∷ []

-- the first of these that is written so
abbrev pub first_written : List Terminal → List ℕ → Option Terminal
first_written [] text = None
first_written (t ∷ ts) text = if bytes_eq (spelling t) text then Some t else first_written ts text

-- the terminal that is written so
unfoldable pub terminal_of : List ℕ → Option Terminal
terminal_of text = first_written terminals text

-- Each terminal is read from its spelling.
abbrev pub EachIsRead : Type 0
EachIsRead = (t : Terminal) → terminal_of (spelling t) ≡ Some t

-- What is read as a terminal is written as that is.
abbrev pub IsWrittenSo : Type 0
IsWrittenSo = (text : List ℕ) (t : Terminal) → terminal_of text ≡ Some t → text ≡ spelling t

-- Each word and each sign of the lexer is a terminal.
abbrev pub EachWordIsTerminal : Type 0
EachWordIsTerminal = (text : List ℕ) → IsTrue (is_word text)
    → (t : Terminal) × (terminal_of text ≡ Some t)

abbrev pub EachSignIsTerminal : Type 0
EachSignIsTerminal = (text : List ℕ) → IsTrue (is_sign text)
    → (t : Terminal) × (terminal_of text ≡ Some t)
