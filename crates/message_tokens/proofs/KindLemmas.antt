-- The tokens that are tried at a place are tokens, of each kind.
use Rattle.std.proofs.Common.{◌≡◌, ℕ, ◌+◌, ◌<◌, ◌≤◌, IsTrue, List, [], ◌∷◌, ◌++◌, length, map, take, get_or, codes, refl, sym, ap, ◌∙◌, subst, arith}
use Rattle.std.specs.List.{list_any, AllByRecursion}
use Rattle.std.specs.Str.Parse.{IsNumeral}
use Rattle.std.proofs.lemmas.List.{take_all, map_more}
use Rattle.nss_lexer.specs.declared.token.TokenKind.{TokenKind}
use Rattle.nss_lexer.specs.declared.token.TokenKind.TheVariants as kind
use Rattle.nss_lexer.specs.declared.token.Token.{Token}
use Rattle.nss_lexer.specs.Lexemes.{IsToken, IsLexeme, is_word, is_sign, decimal, pointed, none}
use Rattle.nss_lexer.specs.Strings.{quoted, closed}
use Rattle.nss_symbols.specs.declared.terminal.Terminal.{Terminal}
use Rattle.nss_symbols.specs.declared.terminal.Terminal.TheVariants as terminal
use Rattle.nss_symbols.specs.Terminals.{spelling}
use Rattle.message_tokens.specs.declared.listing.Tried.{Tried}
use Rattle.message_tokens.specs.Tries.{spelled}
use Rattle.message_tokens.specs.Kinds.{seen, is_in_units, is_written, AreEachKind, HasEachKind}

-- what is tried
abbrev pub kinds : List (TokenKind × List ℕ)
kinds =
    (kind.Sign, codes ";") ∷ (kind.Sign, codes ")") ∷ (kind.Name, codes "a") ∷ (kind.Int 1, codes "1") ∷ (kind.Text, 34 ∷ 34 ∷ []) ∷ (kind.Sign, codes "(") ∷
    (kind.Sign, codes ",") ∷ (kind.Sign, codes "{") ∷ (kind.Sign, codes "}") ∷ (kind.Sign, codes "=") ∷ (kind.Word, codes "OBJECT_SELF") ∷ (kind.Word, codes "OBJECT_INVALID") ∷
    (kind.Word, codes "int") ∷ (kind.Word, codes "string") ∷ (kind.Word, codes "object") ∷ (kind.Word, codes "void") ∷ (kind.Word, codes "struct") ∷ (kind.Word, codes "if") ∷
    (kind.Word, codes "while") ∷ (kind.Word, codes "for") ∷ (kind.Word, codes "do") ∷ (kind.Word, codes "switch") ∷ (kind.Word, codes "return") ∷ (kind.Word, codes "else") ∷
    (kind.Word, codes "case") ∷ (kind.Word, codes "default") ∷ (kind.Word, codes "break") ∷ (kind.Word, codes "continue") ∷ (kind.Word, codes "const") ∷
    (kind.Word, codes "effect") ∷ (kind.Word, codes "event") ∷ (kind.Sign, codes ":") ∷ (kind.Sign, codes ".") ∷ (kind.Sign, codes "+") ∷ (kind.Sign, codes "-") ∷
    (kind.Sign, codes "*") ∷ (kind.Sign, codes "/") ∷ (kind.Sign, codes "%") ∷ (kind.Sign, codes "==") ∷ (kind.Sign, codes "!=") ∷ (kind.Sign, codes "<") ∷
    (kind.Sign, codes ">") ∷ (kind.Sign, codes "<=") ∷ (kind.Sign, codes ">=") ∷ (kind.Sign, codes "&&") ∷ (kind.Sign, codes "||") ∷ (kind.Sign, codes "!") ∷
    (kind.Sign, codes "~") ∷ (kind.Sign, codes "++") ∷ (kind.Sign, codes "--") ∷ (kind.Sign, codes "+=") ∷ (kind.Sign, codes "-=") ∷ (kind.Sign, codes "*=") ∷
    (kind.Sign, codes "/=") ∷ (kind.Sign, codes "%=") ∷ (kind.Sign, codes "&=") ∷ (kind.Sign, codes "|=") ∷ (kind.Sign, codes "^=") ∷ (kind.Sign, codes "<<=") ∷
    (kind.Sign, codes ">>=") ∷ (kind.Sign, codes ">>>=") ∷ (kind.Sign, codes "&") ∷ (kind.Sign, codes "|") ∷ (kind.Sign, codes "^") ∷ (kind.Sign, codes "<<") ∷
    (kind.Sign, codes ">>") ∷ (kind.Sign, codes ">>>") ∷ (kind.Word, codes "float") ∷ (kind.Float, codes "1.0") ∷ (kind.Word, codes "vector") ∷ (kind.Word, codes "location") ∷
    (kind.Word, codes "talent") ∷ (kind.Word, codes "itemproperty") ∷ (kind.Word, codes "action") ∷ []

one_digit : IsNumeral 10 (49 ∷ [])
one_digit = (omega arith, (omega arith, tt))

kinds_are : AllByRecursion (λ p. IsLexeme p.0 p.1) kinds
unfolding is_word is_sign
kinds_are = (
  (refl, tt),
  (
    (refl, tt),
    (
      (((refl, tt), refl), omega arith),
      (
        (decimal (49 ∷ []) one_digit, omega arith),
        (
          (([], quoted (34 ∷ []) [] closed), tt),
          (
            (refl, tt),
            (
              (refl, tt),
              (
                (refl, tt),
                (
                  (refl, tt),
                  (
                    (refl, tt),
                    (
                      (refl, tt),
                      (
                        (refl, tt),
                        (
                          (refl, tt),
                          (
                            (refl, tt),
                            (
                              (refl, tt),
                              (
                                (refl, tt),
                                (
                                  (refl, tt),
                                  (
                                    (refl, tt),
                                    (
                                      (refl, tt),
                                      (
                                        (refl, tt),
                                        (
                                          (refl, tt),
                                          (
                                            (refl, tt),
                                            (
                                              (refl, tt),
                                              (
                                                (refl, tt),
                                                (
                                                  (refl, tt),
                                                  (
                                                    (refl, tt),
                                                    (
                                                      (refl, tt),
                                                      (
                                                        (refl, tt),
                                                        (
                                                          (refl, tt),
                                                          (
                                                            (refl, tt),
                                                            (
                                                              (refl, tt),
                                                              (
                                                                (refl, tt),
                                                                (
                                                                  (refl, tt),
                                                                  (
                                                                    (refl, tt),
                                                                    (
                                                                      (refl, tt),
                                                                      (
                                                                        (refl, tt),
                                                                        (
                                                                          (refl, tt),
                                                                          (
                                                                            (refl, tt),
                                                                            (
                                                                              (refl, tt),
                                                                              (
                                                                                (refl, tt),
                                                                                (
                                                                                  (refl, tt),
                                                                                  (
                                                                                    (refl, tt),
                                                                                    (
                                                                                      (refl, tt),
                                                                                      (
                                                                                        (refl, tt),
                                                                                        (
                                                                                          (refl, tt),
                                                                                          (
                                                                                            (refl, tt),
                                                                                            (
                                                                                              (refl, tt),
                                                                                              (
                                                                                                (refl, tt),
                                                                                                (
                                                                                                  (refl, tt),
                                                                                                  (
                                                                                                    (refl, tt),
                                                                                                    (
                                                                                                      (refl, tt),
                                                                                                      (
                                                                                                        (refl, tt),
                                                                                                        (
                                                                                                          (refl, tt),
                                                                                                          (
                                                                                                            (refl, tt),
                                                                                                            (
                                                                                                              (refl, tt),
                                                                                                              (
                                                                                                                (refl, tt),
                                                                                                                (
                                                                                                                  (refl, tt),
                                                                                                                  (
                                                                                                                    (refl, tt),
                                                                                                                    (
                                                                                                                      (refl, tt),
                                                                                                                      (
                                                                                                                        (refl, tt),
                                                                                                                        (
                                                                                                                          (refl, tt),
                                                                                                                          (
                                                                                                                            (refl, tt),
                                                                                                                            (
                                                                                                                              (refl, tt),
                                                                                                                              (
                                                                                                                                (refl, tt),
                                                                                                                                (
                                                                                                                                  (refl, tt),
                                                                                                                                  (
                                                                                                                                    (refl, tt),
                                                                                                                                    (
                                                                                                                                      (refl, tt),
                                                                                                                                      (
                                                                                                                                        (refl, tt),
                                                                                                                                        ((pointed (49 ∷ []) (48 ∷ []) [] one_digit (omega arith, tt) none, tt), ((refl, tt), ((refl, tt), ((refl, tt), ((refl, tt), ((refl, tt), tt)))))),
                                                                                                                                      ),
                                                                                                                                    ),
                                                                                                                                  ),
                                                                                                                                ),
                                                                                                                              ),
                                                                                                                            ),
                                                                                                                          ),
                                                                                                                        ),
                                                                                                                      ),
                                                                                                                    ),
                                                                                                                  ),
                                                                                                                ),
                                                                                                              ),
                                                                                                            ),
                                                                                                          ),
                                                                                                        ),
                                                                                                      ),
                                                                                                    ),
                                                                                                  ),
                                                                                                ),
                                                                                              ),
                                                                                            ),
                                                                                          ),
                                                                                        ),
                                                                                      ),
                                                                                    ),
                                                                                  ),
                                                                                ),
                                                                              ),
                                                                            ),
                                                                          ),
                                                                        ),
                                                                      ),
                                                                    ),
                                                                  ),
                                                                ),
                                                              ),
                                                            ),
                                                          ),
                                                        ),
                                                      ),
                                                    ),
                                                  ),
                                                ),
                                              ),
                                            ),
                                          ),
                                        ),
                                      ),
                                    ),
                                  ),
                                ),
                              ),
                            ),
                          ),
                        ),
                      ),
                    ),
                  ),
                ),
              ),
            ),
          ),
        ),
      ),
    ),
  ),
)

there : (t : Terminal) → IsTrue (is_in_units t) → IsTrue (list_any (is_written t) kinds)
unfolding spelling
there terminal.Void used = refl
there terminal.Int used = refl
there terminal.Float used = refl
there terminal.String used = refl
there terminal.Object used = refl
there terminal.Vector used = refl
there terminal.Location used = refl
there terminal.Effect used = refl
there terminal.Event used = refl
there terminal.Talent used = refl
there terminal.ItemProperty used = refl
there terminal.Action used = refl
there terminal.Struct used = refl
there terminal.Const used = refl
there terminal.If used = refl
there terminal.Else used = refl
there terminal.While used = refl
there terminal.Do used = refl
there terminal.For used = refl
there terminal.Switch used = refl
there terminal.Case used = refl
there terminal.Default used = refl
there terminal.Break used = refl
there terminal.Continue used = refl
there terminal.Return used = refl
there terminal.ObjectSelf used = refl
there terminal.ObjectInvalid used = refl
there terminal.OrOr used = refl
there terminal.AndAnd used = refl
there terminal.Or used = refl
there terminal.Xor used = refl
there terminal.And used = refl
there terminal.Equal used = refl
there terminal.NotEqual used = refl
there terminal.GreaterEqual used = refl
there terminal.Greater used = refl
there terminal.Less used = refl
there terminal.LessEqual used = refl
there terminal.ShiftLeft used = refl
there terminal.ShiftRight used = refl
there terminal.ShiftRightUnsigned used = refl
there terminal.Plus used = refl
there terminal.Minus used = refl
there terminal.Star used = refl
there terminal.Slash used = refl
there terminal.Percent used = refl
there terminal.Not used = refl
there terminal.Tilde used = refl
there terminal.PlusPlus used = refl
there terminal.MinusMinus used = refl
there terminal.Dot used = refl
there terminal.Assign used = refl
there terminal.PlusAssign used = refl
there terminal.MinusAssign used = refl
there terminal.StarAssign used = refl
there terminal.SlashAssign used = refl
there terminal.PercentAssign used = refl
there terminal.AndAssign used = refl
there terminal.OrAssign used = refl
there terminal.XorAssign used = refl
there terminal.ShiftLeftAssign used = refl
there terminal.ShiftRightAssign used = refl
there terminal.ShiftRightUnsignedAssign used = refl
there terminal.Open used = refl
there terminal.Close used = refl
there terminal.OpenBrace used = refl
there terminal.CloseBrace used = refl
there terminal.OpenBracket used = let none : ⊥ = cc in absurd none
there terminal.CloseBracket used = let none : ⊥ = cc in absurd none
there terminal.Comma used = refl
there terminal.Semicolon used = refl
there terminal.Colon used = refl
there terminal.Question used = let none : ⊥ = cc in absurd none
there terminal.Hash used = let none : ⊥ = cc in absurd none

kinds_each : AreEachKind kinds
kinds_each = record { name = refl; int = refl; float = refl; string = refl; fixed = there }

each_by : (all : List Token) → AllByRecursion (λ p. IsLexeme p.0 p.1) (map seen all) → AllByRecursion IsToken all
each_by [] h = tt
each_by (t ∷ ts) h = (h.0, each_by ts h.1)

pub are_tokens : (all : List Token) → map seen all ≡ kinds → AllByRecursion IsToken all
are_tokens all is = each_by all (subst (AllByRecursion (λ p. IsLexeme p.0 p.1)) (sym is) kinds_are)

pub each_kind : (all : List Token) → map seen all ≡ kinds → HasEachKind all
each_kind all is = subst AreEachKind (sym is) kinds_each

-- ---- one more of them

map_push : (all : List Token) (t : Token) → map seen (all ++ t ∷ []) ≡ map seen all ++ seen t ∷ []
map_push [] t = refl
map_push (x ∷ xs) t = ap (λ ps. seen x ∷ ps) (map_push xs t)

pub seen_push : (tried : List Tried) (i : ℕ) (d x : Tried) (all now : List Token) (t : Token) → i < length tried → x ≡ get_or tried i d
    → map seen all ≡ map spelled (take i tried) → now ≡ all ++ t ∷ [] → seen t ≡ spelled x
    → map seen now ≡ map spelled (take (i + 1) tried)
seen_push tried i d x all now t inside is so pushed same =
    ap (map seen) pushed ∙ map_push all t ∙ (λ k. so k ++ same k ∷ []) ∙ ap (λ y. map spelled (take i tried) ++ spelled y ∷ []) is
    ∙ sym (map_more spelled tried i d inside)

pub seen_whole : (tried : List Tried) (i : ℕ) (all : List Token) → length tried ≤ i → map seen all ≡ map spelled (take i tried)
    → map seen all ≡ map spelled tried
seen_whole tried i all past so = so ∙ ap (map spelled) (take_all i tried past)
