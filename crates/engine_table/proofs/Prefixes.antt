-- However far a line has come, some tokens more make it whole.
use Rattle.std.proofs.Common.{◌≡◌, ℕ, zero, suc, Bool, true, false, List, [], ◌∷◌, ◌++◌, codes, Option, Some, None, refl, sym, ap, subst, ◌∙◌, append_assoc, append-nil, arith}
use Rattle.nss_lexer.specs.declared.token.TokenKind.TheVariants as kind
use Rattle.nss_lexer.specs.Lexemes.{is_word, is_sign, decimal}
use Rattle.nss_lexer.specs.Strings.{string_value, quoted, closed}
use Rattle.nwq_value.specs.declared.value.Ty.{Ty}
use Rattle.nwq_value.specs.declared.value.Ty.TheVariants as ty
use Rattle.nwq_value.specs.declared.engine.Const.{Const}
use Rattle.nwq_value.specs.Engine.{Constant}
use Rattle.engine_table.specs.Known.{Known}
use Rattle.engine_table.specs.declared.declaration.Declared.{Declared}
use Rattle.engine_table.specs.declared.declaration.Function.{Function}
use Rattle.engine_table.specs.declared.declaration.Declaration.{Declaration}
use Rattle.engine_table.specs.declared.declaration.Declaration.TheVariants.{Passed, Constant as IsConstant, Function as IsFunction}
use Rattle.engine_table.specs.declared.symbol.Word.TheVariants as word
use Rattle.engine_table.specs.declared.symbol.Sign.{Sign}
use Rattle.engine_table.specs.declared.symbol.Sign.TheVariants as sign
use Rattle.engine_table.specs.declared.symbol.Symbol.TheVariants as symbol
use Rattle.engine_table.specs.declared.stage.Owner.{Owner}
use Rattle.engine_table.specs.declared.stage.Stage.{Stage}
use Rattle.engine_table.specs.Symbols.{Placed, at, sign_of}
use Rattle.engine_table.specs.Grammar as grammar
use Rattle.engine_table.specs.Grammar.{sign_at, structure_of, defined, has_constants, negative, Loose, Value, Heading, ParameterType, Line}
use Rattle.engine_table.specs.Headers.{IsPrefix, IsSpelled, IsSpelledPrefix, AreSpelled}
use Rattle.engine_table.specs.Turns.{type_of}
use Rattle.engine_table.proofs.Progress as progress
use Rattle.engine_table.proofs.Progress.{two, three, four, moved, join, Before, Listed, Owned, Begun}

-- ---- symbols that tokens spell

spelled_sign : (g : Sign) (text : List ℕ) → is_sign text ≡ true → sign_of text ≡ g → IsSpelled (symbol.Sign g)
spelled_sign g text is same = record { kind = kind.Sign; text = text; lexeme = (is, tt); same = ap (λ (z : Sign). symbol.Sign z) same }

hash_spelled : IsSpelled (symbol.Sign sign.Hash)
unfolding is_sign
hash_spelled = spelled_sign sign.Hash (codes "#") refl refl

equals_spelled : IsSpelled (symbol.Sign sign.Equals)
unfolding is_sign
equals_spelled = spelled_sign sign.Equals (codes "=") refl refl

close_spelled : IsSpelled (symbol.Sign sign.Close)
unfolding is_sign
close_spelled = spelled_sign sign.Close (codes ")") refl refl

semicolon_spelled : IsSpelled (symbol.Sign sign.Semicolon)
unfolding is_sign
semicolon_spelled = spelled_sign sign.Semicolon (codes ";") refl refl

define_spelled : IsSpelled (symbol.Name (codes "define"))
unfolding is_word
define_spelled = record { kind = kind.Name; text = codes "define"; lexeme = (((refl, (refl, (refl, (refl, (refl, (refl, tt)))))), refl), omega arith); same = refl }

-- a name to complete with
abbrev a_name : List ℕ
a_name = codes "a"

name_spelled : IsSpelled (symbol.Name a_name)
unfolding is_word
name_spelled = record { kind = kind.Name; text = codes "a"; lexeme = (((refl, tt), refl), omega arith); same = refl }

int_spelled : IsSpelled (symbol.Word word.Int)
unfolding is_word
int_spelled = record { kind = kind.Word; text = codes "int"; lexeme = (refl, tt); same = refl }

self_spelled : IsSpelled (symbol.Word word.ObjectSelf)
unfolding is_word
self_spelled = record { kind = kind.Word; text = codes "OBJECT_SELF"; lexeme = (refl, tt); same = refl }

zero_spelled : IsSpelled (symbol.Int 0)
zero_spelled = record { kind = kind.Int 0; text = codes "0"; lexeme = (decimal (codes "0") (omega arith, (omega arith, tt)), omega arith); same = refl }

text_spelled : IsSpelled (symbol.Text [])
unfolding string_value
text_spelled = record { kind = kind.Text; text = 34 ∷ 34 ∷ []; lexeme = (([], quoted (34 ∷ []) [] closed), tt); same = refl }

spelled_more : (xs ys : List Placed) → AreSpelled xs → AreSpelled ys → AreSpelled (xs ++ ys)
spelled_more [] ys h g = g
spelled_more (x ∷ xs) ys h g = (h.0, spelled_more xs ys h.1 g)

-- ---- prefixes

pub unspelled : (k : Known) (xs : List Placed) → IsSpelledPrefix k xs → IsPrefix k xs
unspelled k xs (more, spelled, d, line) = (more, d, line)

prefixed : (k : Known) (xs more ys : List Placed) (d : Declaration) → AreSpelled more → xs ++ more ≡ ys → Line k d ys → IsSpelledPrefix k xs
prefixed k xs more ys d spelled e line = (more, spelled, d, moved (Line k d) _ _ e line)

-- what begins a prefix is one
prefix_less : (k : Known) (xs ys : List Placed) → AreSpelled ys → IsSpelledPrefix k (xs ++ ys) → IsSpelledPrefix k xs
prefix_less k xs ys ahead (more, spelled, d, line) =
    (ys ++ more, spelled_more ys more ahead spelled, d, moved (Line k d) _ _ (sym (append_assoc xs ys more)) line)

prefix_as : (k : Known) (xs ys : List Placed) → xs ≡ ys → IsSpelledPrefix k ys → IsSpelledPrefix k xs
prefix_as k xs ys e h = subst (IsSpelledPrefix k) (sym e) h

-- ---- defines

int_defined : (o : Option ℕ) → defined o (symbol.Int 0) ≡ Some Passed
int_defined None = refl
int_defined (Some d) = refl

definition_prefix : (k : Known) (h d p : ℕ) (n : List ℕ)
    → IsSpelledPrefix k (sign_at h sign.Hash ∷ at d (symbol.Name (codes "define")) ∷ at p (symbol.Name n) ∷ [])
definition_prefix k h d p n = (at 0 (symbol.Int 0) ∷ [], (zero_spelled, tt), Passed, grammar.define h d p 0 n (symbol.Int 0) Passed (int_defined (structure_of n)))

-- ---- values

pub record SomeValue (constants : List Constant) (t : Ty) : Type 0 where
  pub constant : Option Const
  pub tokens : List Placed
  pub is : Value constants t constant tokens
  pub spelled : AreSpelled tokens

some_value : (constants : List Constant) (t : Ty) → SomeValue constants t
some_value cs ty.Int = record { constant = _; tokens = _; is = grammar.constant ty.Int _ 0 (symbol.Int 0) refl refl; spelled = (zero_spelled, tt) }
some_value cs ty.Text = record { constant = _; tokens = _; is = grammar.constant ty.Text _ 0 (symbol.Text []) refl refl; spelled = (text_spelled, tt) }
some_value cs ty.Object = record { constant = _; tokens = _; is = grammar.constant ty.Object _ 0 (symbol.Word word.ObjectSelf) refl refl; spelled = (self_spelled, tt) }
some_value cs t = record { constant = None; tokens = []; is = grammar.other t [] refl grammar.none; spelled = tt }

heading_prefix : (k : Known) (b : Bool) (d : Declared) (hs : List Placed) → Heading k b d hs → IsSpelledPrefix k hs
heading_prefix k b d hs h =
    let v = some_value k.table.constants d.ty in (
      sign_at 0 sign.Equals ∷ (v.tokens ++ sign_at 0 sign.Semicolon ∷ []),
      (equals_spelled, spelled_more v.tokens (sign_at 0 sign.Semicolon ∷ []) v.spelled (semicolon_spelled, tt)),
      IsConstant d v.constant,
      grammar.constant b d v.constant hs v.tokens 0 0 h v.is,
    )

listed_prefix : (k : Known) (f : Function) (ws : List Placed) → Listed k f ws → IsSpelledPrefix k ws
listed_prefix k f ws (progress.listed d ps hs xs o h free are) =
    prefixed k (hs ++ sign_at o sign.Open ∷ xs) (sign_at 0 sign.Close ∷ sign_at 0 sign.Semicolon ∷ []) _ (IsFunction (record { head = d; params = ps })) (close_spelled, (semicolon_spelled, tt))
    (three hs (sign_at o sign.Open) xs (sign_at 0 sign.Close ∷ sign_at 0 sign.Semicolon ∷ []))
    (grammar.function d ps hs xs o 0 0 h (grammar.present ps xs are))

parameter_prefix : (k : Known) (f : Function) (t : Ty) (xs ys : List Placed) → Before k f xs → ParameterType k t ys → IsSpelledPrefix k (xs ++ ys)
parameter_prefix k f t xs ys before type = listed_prefix k _ _ (join k f (record { ty = t; default = None }) xs ys before (grammar.required t ys type))

owned_prefix : (k : Known) (o : Owner) (c : Option Const) (xs vs : List Placed) → Owned k o xs → Value k.table.constants (type_of o) c vs → IsSpelledPrefix k (xs ++ vs)
owned_prefix k o c xs vs (progress.constant b d hs e h free) is =
    prefixed k ((hs ++ sign_at e sign.Equals ∷ []) ++ vs) (sign_at 0 sign.Semicolon ∷ []) _ (IsConstant d c) (semicolon_spelled, tt)
    (ap (λ (z : List Placed). z ++ sign_at 0 sign.Semicolon ∷ []) (two hs (sign_at e sign.Equals) vs) ∙ three hs (sign_at e sign.Equals) vs (sign_at 0 sign.Semicolon ∷ []))
    (grammar.constant b d c hs vs e 0 h is)
owned_prefix k o c xs vs (progress.parameter f t us ws e before type) is =
    prefix_as k _ _ (append_assoc us (ws ++ sign_at e sign.Equals ∷ []) vs ∙ ap (λ (z : List Placed). us ++ z) (two ws (sign_at e sign.Equals) vs))
    (listed_prefix k _ _ (join k f (record { ty = t; default = c }) us (ws ++ sign_at e sign.Equals ∷ vs) before (grammar.optional t c ws vs e type is)))

value_prefix : (k : Known) (o : Owner) (xs : List Placed) → Owned k o xs → IsSpelledPrefix k xs
value_prefix k o xs own = let v = some_value k.table.constants (type_of o) in prefix_less k xs v.tokens v.spelled (owned_prefix k o v.constant xs v.tokens own v.is)

-- the brackets that are open can be closed
pub record Closing (vs : List Placed) : Type 0 where
  pub tokens : List Placed
  pub is : Loose zero (vs ++ tokens)
  pub spelled : AreSpelled tokens

closing : (d : ℕ) (vs : List Placed) → Loose d vs → Closing vs
closing zero vs is = record { tokens = []; is = subst (Loose zero) (sym (append-nil vs)) is; spelled = tt }
closing (suc d) vs is =
    let inner = closing d (vs ++ sign_at 0 sign.Close ∷ []) (grammar.more (suc d) d vs 0 (symbol.Sign sign.Close) is refl) in
    record { tokens = sign_at 0 sign.Close ∷ inner.tokens; is = subst (Loose zero) (two vs (sign_at 0 sign.Close) inner.tokens) inner.is; spelled = (close_spelled, inner.spelled) }

loose_prefix : (k : Known) (o : Owner) (d : ℕ) (xs vs : List Placed) → Owned k o xs → has_constants (type_of o) ≡ false → Loose d vs → IsSpelledPrefix k (xs ++ vs)
loose_prefix k o d xs vs own has is =
    let rest = closing d vs is in
    prefix_less k (xs ++ vs) rest.tokens rest.spelled (prefix_as k _ _ (append_assoc xs vs rest.tokens)
    (owned_prefix k o None xs (vs ++ rest.tokens) own (grammar.other (type_of o) (vs ++ rest.tokens) has rest.is)))

minus_prefix : (k : Known) (o : Owner) (xs : List Placed) (p : ℕ) → Owned k o xs → type_of o ≡ ty.Int → IsSpelledPrefix k (xs ++ sign_at p sign.Minus ∷ [])
minus_prefix k o xs p own int =
    prefix_less k (xs ++ sign_at p sign.Minus ∷ []) (at 0 (symbol.Int 0) ∷ []) (zero_spelled, tt) (prefix_as k _ _ (two xs (sign_at p sign.Minus) (at 0 (symbol.Int 0) ∷ []))
    (owned_prefix k o (Some (negative 0)) xs (sign_at p sign.Minus ∷ at 0 (symbol.Int 0) ∷ []) own
    (subst (λ (t : Ty). Value k.table.constants t (Some (negative 0)) (sign_at p sign.Minus ∷ at 0 (symbol.Int 0) ∷ [])) (sym int) (grammar.minus p 0 0))))

-- ---- all stages

int_type : (k : Known) → ParameterType k ty.Int (at 0 (symbol.Word word.Int) ∷ [])
int_type k = grammar.bare ty.Int 0 (symbol.Word word.Int) refl

pub begun_prefix : (k : Known) (s : Stage) (xs : List Placed) → Begun k s xs → IsSpelledPrefix k xs
begun_prefix k s xs progress.start =
    prefix_less k [] (sign_at 0 sign.Hash ∷ at 0 (symbol.Name (codes "define")) ∷ at 0 (symbol.Name a_name) ∷ []) (hash_spelled, (define_spelled, (name_spelled, tt)))
    (definition_prefix k 0 0 0 a_name)
begun_prefix k s xs (progress.hash h) =
    prefix_less k (sign_at h sign.Hash ∷ []) (at 0 (symbol.Name (codes "define")) ∷ at 0 (symbol.Name a_name) ∷ []) (define_spelled, (name_spelled, tt))
    (definition_prefix k h 0 0 a_name)
begun_prefix k s xs (progress.define h d) =
    prefix_less k (sign_at h sign.Hash ∷ at d (symbol.Name (codes "define")) ∷ []) (at 0 (symbol.Name a_name) ∷ []) (name_spelled, tt) (definition_prefix k h d 0 a_name)
begun_prefix k s xs (progress.definition h d p n) = definition_prefix k h d p n
begun_prefix k s xs (progress.fixed o) =
    prefix_less k (at o (symbol.Word word.Const) ∷ []) (at 0 (symbol.Word word.Int) ∷ at 0 (symbol.Name a_name) ∷ []) (int_spelled, (name_spelled, tt))
    (heading_prefix k true _ _ (grammar.fixed ty.Int o 0 0 (symbol.Word word.Int) a_name refl))
begun_prefix k s xs (progress.plain_type t p x is) =
    prefix_less k (at p x ∷ []) (at 0 (symbol.Name a_name) ∷ []) (name_spelled, tt) (heading_prefix k false _ _ (grammar.plain t p 0 x a_name is))
begun_prefix k s xs (progress.fixed_type t o p x is) =
    prefix_less k (at o (symbol.Word word.Const) ∷ at p x ∷ []) (at 0 (symbol.Name a_name) ∷ []) (name_spelled, tt) (heading_prefix k true _ _ (grammar.fixed t o p 0 x a_name is))
begun_prefix k s xs (progress.named b d hs h) = heading_prefix k b d hs h
begun_prefix k s xs (progress.value o ys own) = value_prefix k o ys own
begun_prefix k s xs (progress.minus o ys p own int) = minus_prefix k o ys p own int
begun_prefix k s xs (progress.loose o d ys vs own has is) = loose_prefix k o d ys vs own has is
begun_prefix k s xs (progress.valued o c new ys vs own is none) = owned_prefix k o c ys vs own is
begun_prefix k s xs (progress.opened d hs o h free) =
    prefix_less k (hs ++ sign_at o sign.Open ∷ []) (at 0 (symbol.Word word.Int) ∷ []) (int_spelled, tt)
    (parameter_prefix k (record { head = d; params = [] }) ty.Int (hs ++ sign_at o sign.Open ∷ []) (at 0 (symbol.Word word.Int) ∷ []) (progress.first d hs o h free) (int_type k))
begun_prefix k s xs (progress.param f ys before) =
    prefix_less k ys (at 0 (symbol.Word word.Int) ∷ []) (int_spelled, tt) (parameter_prefix k f ty.Int ys (at 0 (symbol.Word word.Int) ∷ []) before (int_type k))
begun_prefix k s xs (progress.param_type f t ys p x before is) = parameter_prefix k f t ys (at p x ∷ []) before (grammar.bare t p x is)
begun_prefix k s xs (progress.param_name f t ys zs before type) = parameter_prefix k f t ys zs before type
begun_prefix k s xs (progress.closed d ps hs ys o c h free are) =
    prefixed k (hs ++ sign_at o sign.Open ∷ (ys ++ sign_at c sign.Close ∷ [])) (sign_at 0 sign.Semicolon ∷ []) _ (IsFunction (record { head = d; params = ps })) (semicolon_spelled, tt)
    (four hs (sign_at o sign.Open) ys (sign_at c sign.Close) (sign_at 0 sign.Semicolon ∷ []))
    (grammar.function d ps hs ys o c 0 h are)
