-- Laws of the terminals: each is read from its spelling, and a token spells each.
use Rattle.std.specs.Prelude.{◌≡◌, IsTrue, refl, Some}
use Rattle.std.proofs.Common.{ap}
use Rattle.nss_lexer.specs.declared.token.TokenKind.TheVariants as kind
use Rattle.nss_lexer.specs.Lexemes.{is_sign, is_word}
use Rattle.nss_symbols.specs.declared.terminal.Terminal.{Terminal}
use Rattle.nss_symbols.specs.declared.terminal.Terminal.TheVariants as terminal
use Rattle.nss_symbols.specs.Symbols.{Fixed}
use Rattle.nss_symbols.specs.Terminals.{spelling, terminal_of}
use Rattle.nss_symbols.specs.Tokens.{IsSpelled, of_terminal}

pub each_is_read : (t : Terminal) → terminal_of (spelling t) ≡ Some t
unfolding terminal_of spelling
each_is_read terminal.Void = refl
each_is_read terminal.Int = refl
each_is_read terminal.Float = refl
each_is_read terminal.String = refl
each_is_read terminal.Object = refl
each_is_read terminal.Vector = refl
each_is_read terminal.Location = refl
each_is_read terminal.Effect = refl
each_is_read terminal.Event = refl
each_is_read terminal.Talent = refl
each_is_read terminal.ItemProperty = refl
each_is_read terminal.Action = refl
each_is_read terminal.Struct = refl
each_is_read terminal.Const = refl
each_is_read terminal.If = refl
each_is_read terminal.Else = refl
each_is_read terminal.While = refl
each_is_read terminal.Do = refl
each_is_read terminal.For = refl
each_is_read terminal.Switch = refl
each_is_read terminal.Case = refl
each_is_read terminal.Default = refl
each_is_read terminal.Break = refl
each_is_read terminal.Continue = refl
each_is_read terminal.Return = refl
each_is_read terminal.ObjectSelf = refl
each_is_read terminal.ObjectInvalid = refl
each_is_read terminal.OrOr = refl
each_is_read terminal.AndAnd = refl
each_is_read terminal.Or = refl
each_is_read terminal.Xor = refl
each_is_read terminal.And = refl
each_is_read terminal.Equal = refl
each_is_read terminal.NotEqual = refl
each_is_read terminal.GreaterEqual = refl
each_is_read terminal.Greater = refl
each_is_read terminal.Less = refl
each_is_read terminal.LessEqual = refl
each_is_read terminal.ShiftLeft = refl
each_is_read terminal.ShiftRight = refl
each_is_read terminal.ShiftRightUnsigned = refl
each_is_read terminal.Plus = refl
each_is_read terminal.Minus = refl
each_is_read terminal.Star = refl
each_is_read terminal.Slash = refl
each_is_read terminal.Percent = refl
each_is_read terminal.Not = refl
each_is_read terminal.Tilde = refl
each_is_read terminal.PlusPlus = refl
each_is_read terminal.MinusMinus = refl
each_is_read terminal.Dot = refl
each_is_read terminal.Assign = refl
each_is_read terminal.PlusAssign = refl
each_is_read terminal.MinusAssign = refl
each_is_read terminal.StarAssign = refl
each_is_read terminal.SlashAssign = refl
each_is_read terminal.PercentAssign = refl
each_is_read terminal.AndAssign = refl
each_is_read terminal.OrAssign = refl
each_is_read terminal.XorAssign = refl
each_is_read terminal.ShiftLeftAssign = refl
each_is_read terminal.ShiftRightAssign = refl
each_is_read terminal.ShiftRightUnsignedAssign = refl
each_is_read terminal.Open = refl
each_is_read terminal.Close = refl
each_is_read terminal.OpenBrace = refl
each_is_read terminal.CloseBrace = refl
each_is_read terminal.OpenBracket = refl
each_is_read terminal.CloseBracket = refl
each_is_read terminal.Comma = refl
each_is_read terminal.Semicolon = refl
each_is_read terminal.Colon = refl
each_is_read terminal.Question = refl
each_is_read terminal.Hash = refl

by_word : (t : Terminal) → IsTrue (is_word (spelling t)) → IsSpelled (Fixed t)
by_word t h = record {
  kind = kind.Word;
  text = spelling t;
  lexeme = (h, tt);
  seen = ap of_terminal (each_is_read t);
}

by_sign : (t : Terminal) → IsTrue (is_sign (spelling t)) → IsSpelled (Fixed t)
by_sign t h = record {
  kind = kind.Sign;
  text = spelling t;
  lexeme = (h, tt);
  seen = ap of_terminal (each_is_read t);
}

pub each_is_spelled : (t : Terminal) → IsSpelled (Fixed t)
unfolding is_word is_sign spelling
each_is_spelled terminal.Void = by_word terminal.Void refl
each_is_spelled terminal.Int = by_word terminal.Int refl
each_is_spelled terminal.Float = by_word terminal.Float refl
each_is_spelled terminal.String = by_word terminal.String refl
each_is_spelled terminal.Object = by_word terminal.Object refl
each_is_spelled terminal.Vector = by_word terminal.Vector refl
each_is_spelled terminal.Location = by_word terminal.Location refl
each_is_spelled terminal.Effect = by_word terminal.Effect refl
each_is_spelled terminal.Event = by_word terminal.Event refl
each_is_spelled terminal.Talent = by_word terminal.Talent refl
each_is_spelled terminal.ItemProperty = by_word terminal.ItemProperty refl
each_is_spelled terminal.Action = by_word terminal.Action refl
each_is_spelled terminal.Struct = by_word terminal.Struct refl
each_is_spelled terminal.Const = by_word terminal.Const refl
each_is_spelled terminal.If = by_word terminal.If refl
each_is_spelled terminal.Else = by_word terminal.Else refl
each_is_spelled terminal.While = by_word terminal.While refl
each_is_spelled terminal.Do = by_word terminal.Do refl
each_is_spelled terminal.For = by_word terminal.For refl
each_is_spelled terminal.Switch = by_word terminal.Switch refl
each_is_spelled terminal.Case = by_word terminal.Case refl
each_is_spelled terminal.Default = by_word terminal.Default refl
each_is_spelled terminal.Break = by_word terminal.Break refl
each_is_spelled terminal.Continue = by_word terminal.Continue refl
each_is_spelled terminal.Return = by_word terminal.Return refl
each_is_spelled terminal.ObjectSelf = by_word terminal.ObjectSelf refl
each_is_spelled terminal.ObjectInvalid = by_word terminal.ObjectInvalid refl
each_is_spelled terminal.OrOr = by_sign terminal.OrOr refl
each_is_spelled terminal.AndAnd = by_sign terminal.AndAnd refl
each_is_spelled terminal.Or = by_sign terminal.Or refl
each_is_spelled terminal.Xor = by_sign terminal.Xor refl
each_is_spelled terminal.And = by_sign terminal.And refl
each_is_spelled terminal.Equal = by_sign terminal.Equal refl
each_is_spelled terminal.NotEqual = by_sign terminal.NotEqual refl
each_is_spelled terminal.GreaterEqual = by_sign terminal.GreaterEqual refl
each_is_spelled terminal.Greater = by_sign terminal.Greater refl
each_is_spelled terminal.Less = by_sign terminal.Less refl
each_is_spelled terminal.LessEqual = by_sign terminal.LessEqual refl
each_is_spelled terminal.ShiftLeft = by_sign terminal.ShiftLeft refl
each_is_spelled terminal.ShiftRight = by_sign terminal.ShiftRight refl
each_is_spelled terminal.ShiftRightUnsigned = by_sign terminal.ShiftRightUnsigned refl
each_is_spelled terminal.Plus = by_sign terminal.Plus refl
each_is_spelled terminal.Minus = by_sign terminal.Minus refl
each_is_spelled terminal.Star = by_sign terminal.Star refl
each_is_spelled terminal.Slash = by_sign terminal.Slash refl
each_is_spelled terminal.Percent = by_sign terminal.Percent refl
each_is_spelled terminal.Not = by_sign terminal.Not refl
each_is_spelled terminal.Tilde = by_sign terminal.Tilde refl
each_is_spelled terminal.PlusPlus = by_sign terminal.PlusPlus refl
each_is_spelled terminal.MinusMinus = by_sign terminal.MinusMinus refl
each_is_spelled terminal.Dot = by_sign terminal.Dot refl
each_is_spelled terminal.Assign = by_sign terminal.Assign refl
each_is_spelled terminal.PlusAssign = by_sign terminal.PlusAssign refl
each_is_spelled terminal.MinusAssign = by_sign terminal.MinusAssign refl
each_is_spelled terminal.StarAssign = by_sign terminal.StarAssign refl
each_is_spelled terminal.SlashAssign = by_sign terminal.SlashAssign refl
each_is_spelled terminal.PercentAssign = by_sign terminal.PercentAssign refl
each_is_spelled terminal.AndAssign = by_sign terminal.AndAssign refl
each_is_spelled terminal.OrAssign = by_sign terminal.OrAssign refl
each_is_spelled terminal.XorAssign = by_sign terminal.XorAssign refl
each_is_spelled terminal.ShiftLeftAssign = by_sign terminal.ShiftLeftAssign refl
each_is_spelled terminal.ShiftRightAssign = by_sign terminal.ShiftRightAssign refl
each_is_spelled terminal.ShiftRightUnsignedAssign = by_sign terminal.ShiftRightUnsignedAssign refl
each_is_spelled terminal.Open = by_sign terminal.Open refl
each_is_spelled terminal.Close = by_sign terminal.Close refl
each_is_spelled terminal.OpenBrace = by_sign terminal.OpenBrace refl
each_is_spelled terminal.CloseBrace = by_sign terminal.CloseBrace refl
each_is_spelled terminal.OpenBracket = by_sign terminal.OpenBracket refl
each_is_spelled terminal.CloseBracket = by_sign terminal.CloseBracket refl
each_is_spelled terminal.Comma = by_sign terminal.Comma refl
each_is_spelled terminal.Semicolon = by_sign terminal.Semicolon refl
each_is_spelled terminal.Colon = by_sign terminal.Colon refl
each_is_spelled terminal.Question = by_sign terminal.Question refl
each_is_spelled terminal.Hash = by_sign terminal.Hash refl
