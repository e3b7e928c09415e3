-- The terminals are what the lexer's words and signs are, and each is written in its one way.
use Rattle.std.proofs.Common.{◌≡◌, IsTrue, ℕ, Bool, true, false, List, [], ◌∷◌, Option, Some, cond, map, ◌||◌, refl, sym, ◌∙◌, ap}
use Rattle.std.specs.Str.{bytes_eq}
use Rattle.std.specs.List.{list_any}
use Rattle.std.proofs.lemmas.Slice.Eq.{bytes_eq-Decides}
use Rattle.nss_lexer.specs.Lexemes.{is_sign, is_word, signs, words}
use Rattle.nss_symbols.specs.declared.terminal.Terminal.{Terminal}
use Rattle.nss_symbols.specs.declared.terminal.Terminal.TheVariants as terminal
use Rattle.nss_symbols.specs.Spellings.{each_is_read}
use Rattle.nss_symbols.specs.Terminals.{first_written, spelling, terminal_of, terminals}

some_is : (m n : Terminal) → Some m ≡ Some n → m ≡ n
some_is m n same = cc

-- the first terminal is the one, or a later one is
written_by : (m n : Terminal) (text : List ℕ) (rest : Option Terminal) (test : Bool) → bytes_eq (spelling m) text ≡ test → cond test (Some m) rest ≡ Some n
    → (rest ≡ Some n → text ≡ spelling n) → text ≡ spelling n
written_by m n text rest true is same later = sym ((bytes_eq-Decides (spelling m) text).0 is) ∙ ap spelling (some_is m n same)
written_by m n text rest false is same later = later same

written_among : (ms : List Terminal) (text : List ℕ) (n : Terminal) → first_written ms text ≡ Some n → text ≡ spelling n
written_among [] text n same = absurd cc
written_among (m ∷ ms) text n same = written_by m n text (first_written ms text) (bytes_eq (spelling m) text) refl same (written_among ms text n)

pub is_written_so : (text : List ℕ) (m : Terminal) → terminal_of text ≡ Some m → text ≡ spelling m
unfolding terminal_of
is_written_so text m same = written_among terminals text m same

-- each text of a list is a terminal's
abbrev AreTerminals : List (List ℕ) → Type 0
AreTerminals [] = Unit {0}
AreTerminals (x ∷ xs) = ((t : Terminal) × (spelling t ≡ x)) × AreTerminals xs

all_spelled : (ts : List Terminal) → AreTerminals (map spelling ts)
all_spelled [] = tt
all_spelled (t ∷ ts) = ((t, refl), all_spelled ts)

-- a text that is among these is one of them
found_by : (x : List ℕ) (xs : List (List ℕ)) (text : List ℕ) (t : Terminal) (test : Bool) → spelling t ≡ x → bytes_eq x text ≡ test
    → (list_any (λ y. bytes_eq y text) xs ≡ true → (k : Terminal) × (terminal_of text ≡ Some k))
    → (test || list_any (λ y. bytes_eq y text) xs) ≡ true → (k : Terminal) × (terminal_of text ≡ Some k)
found_by x xs text t true is same later any =
    (t, sym (ap terminal_of (is ∙ (bytes_eq-Decides x text).0 same)) ∙ each_is_read t)
found_by x xs text t false is same later any = later any

found : (xs : List (List ℕ)) → AreTerminals xs → (text : List ℕ) → list_any (λ y. bytes_eq y text) xs ≡ true → (t : Terminal) × (terminal_of text ≡ Some t)
found [] all text any = absurd cc
found (x ∷ xs) all text any = found_by x xs text all.0.0 (bytes_eq x text) all.0.1 refl (found xs all.1 text) any

words_are : AreTerminals words
unfolding spelling
words_are = all_spelled
    (terminal.Void ∷ terminal.Int ∷ terminal.Float ∷ terminal.String ∷ terminal.Object ∷ terminal.Vector ∷
    terminal.Location ∷ terminal.Effect ∷ terminal.Event ∷ terminal.Talent ∷ terminal.ItemProperty ∷
    terminal.Action ∷ terminal.Struct ∷ terminal.Const ∷ terminal.If ∷ terminal.Else ∷ terminal.While ∷
    terminal.Do ∷ terminal.For ∷ terminal.Switch ∷ terminal.Case ∷ terminal.Default ∷ terminal.Break ∷
    terminal.Continue ∷ terminal.Return ∷ terminal.ObjectSelf ∷ terminal.ObjectInvalid ∷ [])

signs_are : AreTerminals signs
unfolding spelling
signs_are = all_spelled
    (terminal.ShiftRightUnsignedAssign ∷ terminal.ShiftRightUnsigned ∷ terminal.ShiftLeftAssign ∷
    terminal.ShiftRightAssign ∷ terminal.OrOr ∷ terminal.AndAnd ∷ terminal.Equal ∷ terminal.NotEqual ∷
    terminal.GreaterEqual ∷ terminal.LessEqual ∷ terminal.ShiftLeft ∷ terminal.ShiftRight ∷
    terminal.PlusPlus ∷ terminal.MinusMinus ∷ terminal.PlusAssign ∷ terminal.MinusAssign ∷
    terminal.StarAssign ∷ terminal.SlashAssign ∷ terminal.PercentAssign ∷ terminal.AndAssign ∷
    terminal.OrAssign ∷ terminal.XorAssign ∷ terminal.Open ∷ terminal.Close ∷ terminal.OpenBrace ∷
    terminal.CloseBrace ∷ terminal.OpenBracket ∷ terminal.CloseBracket ∷ terminal.Comma ∷ terminal.Semicolon ∷
    terminal.Colon ∷ terminal.Question ∷ terminal.Hash ∷ terminal.Dot ∷ terminal.Assign ∷ terminal.Or ∷
    terminal.Xor ∷ terminal.And ∷ terminal.Greater ∷ terminal.Less ∷ terminal.Plus ∷ terminal.Minus ∷
    terminal.Star ∷ terminal.Slash ∷ terminal.Percent ∷ terminal.Not ∷ terminal.Tilde ∷ [])

pub each_word : (text : List ℕ) → IsTrue (is_word text) → (t : Terminal) × (terminal_of text ≡ Some t)
unfolding is_word
each_word text h = found words words_are text h

pub each_sign : (text : List ℕ) → IsTrue (is_sign text) → (t : Terminal) × (terminal_of text ≡ Some t)
unfolding is_sign
each_sign text h = found signs signs_are text h
