-- Reading of one line, and that every line of the grammar is read as its declaration, or clashes.
use Rattle.std.proofs.Common.{◌≡◌, ℕ, zero, ◌+◌, ◌<◌, Bool, true, false, if◌then◌else◌, nat_lt, List, [], ◌∷◌, ◌++◌, length, codes, Option, Some, None, Ok, Err, refl, sym, ap, subst, ◌∙◌, arith}
use Rattle.std.proofs.Common.{length-append, true≢false}
use Rattle.std.proofs.lemmas.Bool.Decides.{nat_tests}
use Rattle.std.proofs.lemmas.Option.{none-some}
use Rattle.nwq_value.specs.declared.value.Ty.{Ty}
use Rattle.nwq_value.specs.declared.value.Ty.TheVariants as ty
use Rattle.nwq_value.specs.declared.engine.Const.{Const}
use Rattle.nwq_value.specs.declared.engine.Param.{Param}
use Rattle.engine_table.specs.Known.{Known}
use Rattle.engine_table.specs.declared.declaration.Declared.{Declared}
use Rattle.engine_table.specs.declared.declaration.Function.{Function}
use Rattle.engine_table.specs.declared.declaration.Declaration.{Declaration}
use Rattle.engine_table.specs.declared.fault.HeaderFault.{HeaderFault}
use Rattle.engine_table.specs.declared.fault.HeaderFault.TheVariants.{Header}
use Rattle.engine_table.specs.declared.symbol.Word.TheVariants as word
use Rattle.engine_table.specs.declared.symbol.Sign.{Sign}
use Rattle.engine_table.specs.declared.symbol.Sign.TheVariants as sign
use Rattle.engine_table.specs.declared.symbol.Symbol.{Symbol}
use Rattle.engine_table.specs.declared.symbol.Symbol.TheVariants as symbol
use Rattle.engine_table.specs.declared.stage.Owner.{Owner}
use Rattle.engine_table.specs.declared.stage.Owner.TheVariants as owner
use Rattle.engine_table.specs.declared.stage.Stage.{Stage}
use Rattle.engine_table.specs.declared.stage.Stage.TheVariants as stage
use Rattle.engine_table.specs.declared.stage.Turn.TheVariants.{Goes, Gives}
use Rattle.engine_table.specs.Symbols.{Placed, at}
use Rattle.engine_table.specs.Grammar as grammar
use Rattle.engine_table.specs.Grammar.{sign_at, type_in, has_constants, constant_in, negative, brackets, Loose, Value, Heading, ParameterType, Parameter, Parameters, ParameterList, Line}
use Rattle.engine_table.specs.Headers as header
use Rattle.engine_table.specs.Headers.{function_fault, constant_fault, IsClear, Clashes}
use Rattle.engine_table.specs.Turns.{TurnResult, goes, misfit, unless_fault, typed, start_turn, given, type_of, param_turn, valued_turn, owner_fault, got, is_minus_of_int, is_new, loose_by, value_by}
use Rattle.engine_table.specs.Turns.{params_turn, behind_turn, turn}
use Rattle.engine_table.proofs.Progress.{two, three, four}

-- a line was read, with the tokens behind it, or it broke at a token or at the end
pub data Outcome : Type 0 where
  Got : Declaration → List Placed → Outcome
  Broke : HeaderFault → List Placed → Outcome

abbrev pub line_by : TurnResult → Placed → List Placed → (Stage → Outcome) → Outcome
line_by (Ok (Goes s)) x xs on = on s
line_by (Ok (Gives d new)) x xs on = Got d xs
line_by (Err f) x xs on = Broke f (x ∷ xs)

unfoldable pub line : ℕ → Known → Stage → List Placed → Outcome
line end k s [] = Broke (Header end) []
line end k s (x ∷ xs) = line_by (turn k s x.place x.symbol) x xs (λ next. line end k next xs)

-- one token: what its turn is decides
pub by_turn : (end : ℕ) (k : Known) (s : Stage) (x : Placed) (xs : List Placed) (t : TurnResult) → turn k s x.place x.symbol ≡ t
    → line end k s (x ∷ xs) ≡ line_by t x xs (λ next. line end k next xs)
unfolding line
by_turn end k s x xs t e = ap (λ (z : TurnResult). line_by z x xs (λ next. line end k next xs)) e

module _ (end : ℕ) (k : Known) where
  abbrev read : Stage → List Placed → Outcome
  read s i = line end k s i

  -- ---- headings

  start_is : (p : ℕ) (s : Symbol) (t : Ty) → type_in k.words s ≡ Some t → start_turn k.words p s ≡ goes (stage.Typed false t)
  start_is p (symbol.Sign sign.Hash) t e = absurd (none-some t e)
  start_is p (symbol.Word word.Const) t e = absurd (none-some t e)
  start_is p s t e = ap (λ (o : Option Ty). typed (stage.Typed false) o p) e

  heading_reads : (b : Bool) (d : Declared) (hs i : List Placed) → Heading k b d hs → read stage.Start (hs ++ i) ≡ read (stage.Named b d) i
  unfolding turn
  heading_reads b d hs i (grammar.plain t p q s n is) =
      by_turn end k stage.Start (at p s) _ _ (start_is p s t is) ∙ by_turn end k (stage.Typed false t) (at q (symbol.Name n)) i _ refl
  heading_reads b d hs i (grammar.fixed t o p q s n is) =
      by_turn end k stage.Start (at o (symbol.Word word.Const)) _ _ refl ∙ by_turn end k stage.Const (at p s) _ _ (ap (λ (z : Option Ty). typed (stage.Typed true) z p) is)
      ∙ by_turn end k (stage.Typed true t) (at q (symbol.Name n)) i _ refl

  equals_reads : (b : Bool) (d : Declared) (hs : List Placed) (e : ℕ) (i : List Placed) → Heading k b d hs → constant_fault k d ≡ None
      → read stage.Start (hs ++ sign_at e sign.Equals ∷ i) ≡ read (stage.Value (owner.Constant d)) i
  unfolding turn
  equals_reads b d hs e i h free =
      heading_reads b d hs (sign_at e sign.Equals ∷ i) h
      ∙ by_turn end k (stage.Named b d) (sign_at e sign.Equals) i _ (ap (λ (o : Option HeaderFault). unless_fault o (goes (stage.Value (owner.Constant d)))) free)

  open_reads : (d : Declared) (hs : List Placed) (o : ℕ) (i : List Placed) → Heading k false d hs → function_fault k d ≡ None
      → read stage.Start (hs ++ sign_at o sign.Open ∷ i) ≡ read (stage.Params (record { head = d; params = [] })) i
  unfolding turn
  open_reads d hs o i h free =
      heading_reads false d hs (sign_at o sign.Open ∷ i) h
      ∙ by_turn end k (stage.Named false d) (sign_at o sign.Open) i _ (ap (λ (z : Option HeaderFault). unless_fault z (goes (stage.Params (record { head = d; params = [] })))) free)

  -- ---- values

  not_minus : (t : Ty) (s : Symbol) (c : Const) → constant_in k.table.constants t s ≡ Some c → is_minus_of_int t s ≡ false
  not_minus ty.Int (symbol.Sign sign.Minus) c e = absurd (none-some c e)
  not_minus t s c e = refl

  -- what a value of a type with constants comes to, by what is wrong with its owner
  abbrev KeptRead : Option HeaderFault → Owner → Option Const → List Placed → List Placed → Type 0
  KeptRead r o c vs i = (x : Placed) × (read (stage.Value o) (vs ++ i) ≡ line_by (unless_fault r (goes (stage.Valued o c (is_new k c o)))) x i (λ next. read next i))

  constant_reads : (r : Option HeaderFault) (o : Owner) (c : Const) (p : ℕ) (s : Symbol) → has_constants (type_of o) ≡ true
      → constant_in k.table.constants (type_of o) s ≡ Some c → owner_fault k o (Some c) ≡ r → (i : List Placed) → KeptRead r o (Some c) (at p s ∷ []) i
  unfolding turn
  constant_reads r o c p s has is fault i = (
    at p s,
    by_turn end k (stage.Value o) (at p s) i _
        (ap (λ (b : Bool). value_by b k o p s) has
        ∙ ap (λ (b : Bool). if b then goes (stage.Minus o) else got k o (constant_in k.table.constants (type_of o) s) p) (not_minus (type_of o) s c is)
        ∙ ap (λ (v : Option Const). got k o v p) is ∙ ap (λ (z : Option HeaderFault). unless_fault z (goes (stage.Valued o (Some c) (is_new k (Some c) o)))) fault),
  )

  minus_reads : (r : Option HeaderFault) (o : Owner) (p q n : ℕ) → type_of o ≡ ty.Int → owner_fault k o (Some (negative n)) ≡ r → (i : List Placed)
      → KeptRead r o (Some (negative n)) (sign_at p sign.Minus ∷ at q (symbol.Int n) ∷ []) i
  unfolding turn
  minus_reads r o p q n int fault i = (
    at q (symbol.Int n),
    by_turn end k (stage.Value o) (sign_at p sign.Minus) (at q (symbol.Int n) ∷ i) (goes (stage.Minus o))
        (ap (λ (b : Bool). value_by b k o p (symbol.Sign sign.Minus)) (ap has_constants int)
        ∙ ap (λ (b : Bool). if b then goes (stage.Minus o) else got k o (constant_in k.table.constants (type_of o) (symbol.Sign sign.Minus)) p)
        (ap (λ (t : Ty). is_minus_of_int t (symbol.Sign sign.Minus)) int))
        ∙ by_turn end k (stage.Minus o) (at q (symbol.Int n)) i _ (ap (λ (z : Option HeaderFault). unless_fault z (goes (stage.Valued o (Some (negative n)) (is_new k (Some (negative n)) o)))) fault),
  )

  kept_reads : (r : Option HeaderFault) (o : Owner) (t : Ty) (c : Option Const) (vs : List Placed) → type_of o ≡ t → has_constants (type_of o) ≡ true
      → Value k.table.constants t c vs → owner_fault k o c ≡ r → (i : List Placed) → KeptRead r o c vs i
  kept_reads r o t c vs same has (grammar.constant u d p s has' is) fault i =
      constant_reads r o d p s has (subst (λ (z : Ty). constant_in k.table.constants z s ≡ Some d) (sym same) is) fault i
  kept_reads r o t c vs same has (grammar.minus p q n) fault i = minus_reads r o p q n same fault i
  kept_reads r o t c vs same has (grammar.other u xs none is) fault i = absurd (true≢false (sym has ∙ ap has_constants same ∙ none))

  -- a value of another type
  loose_turns : (o : Owner) (d : ℕ) (vs : List Placed) (x : Placed) (i : List Placed) → has_constants (type_of o) ≡ false → Loose d vs
      → read (stage.Value o) (vs ++ x ∷ i) ≡ read (stage.Loose o d) (x ∷ i)
  unfolding turn
  loose_turns o d vs x i has grammar.none =
      by_turn end k (stage.Value o) x i (loose_by k o (brackets zero x.symbol) x.place x.symbol) (ap (λ (b : Bool). value_by b k o x.place x.symbol) has)
      ∙ sym (by_turn end k (stage.Loose o zero) x i _ refl)
  loose_turns o d vs x i has (grammar.more e f ws p s before on) =
      ap (read (stage.Value o)) (two ws (at p s) (x ∷ i)) ∙ loose_turns o e ws (at p s) (x ∷ i) has before
      ∙ by_turn end k (stage.Loose o e) (at p s) (x ∷ i) _ (ap (λ (z : Option ℕ). loose_by k o z p s) on)

  loose_reads : (r : Option HeaderFault) (o : Owner) (vs : List Placed) (x : Placed) (i : List Placed) → has_constants (type_of o) ≡ false → Loose zero vs
      → brackets zero x.symbol ≡ None → owner_fault k o None ≡ r
      → read (stage.Value o) (vs ++ x ∷ i) ≡ line_by (unless_fault r (valued_turn o None false x.place x.symbol)) x i (λ next. read next i)
  unfolding turn
  loose_reads r o vs x i has is ends fault =
      loose_turns o zero vs x i has is
      ∙ by_turn end k (stage.Loose o zero) x i _ (ap (λ (z : Option ℕ). loose_by k o z x.place x.symbol) ends
      ∙ ap (λ (z : Option HeaderFault). unless_fault z (valued_turn o None false x.place x.symbol)) fault)

  value_ok : (o : Owner) (t : Ty) (c : Option Const) (vs : List Placed) (x : Placed) (i : List Placed) → type_of o ≡ t → Value k.table.constants t c vs
      → owner_fault k o c ≡ None → brackets zero x.symbol ≡ None
      → read (stage.Value o) (vs ++ x ∷ i) ≡ line_by (valued_turn o c (is_new k c o) x.place x.symbol) x i (λ next. read next i)
  unfolding turn
  value_ok o t c vs x i same (grammar.constant u d p s has is) none ends =
      (kept_reads None o t (Some d) (at p s ∷ []) same (ap has_constants same ∙ has) (grammar.constant t d p s has is) none (x ∷ i)).1
      ∙ by_turn end k (stage.Valued o (Some d) (is_new k (Some d) o)) x i _ refl
  value_ok o t c vs x i same (grammar.minus p q n) none ends =
      (minus_reads None o p q n same none (x ∷ i)).1 ∙ by_turn end k (stage.Valued o (Some (negative n)) (is_new k (Some (negative n)) o)) x i _ refl
  value_ok o t c vs x i same (grammar.other u xs has is) none ends = loose_reads None o xs x i (ap has_constants same ∙ has) is ends none

  -- ---- parameters

  -- a type begins a parameter of the function at this stage
  record Enters (s : Stage) (f : Function) : Type 0 where
    by : (p : ℕ) (x : Symbol) (t : Ty) → type_in k.words x ≡ Some t → turn k s p x ≡ goes (stage.ParamType f t)

  param_is : (f : Function) (p : ℕ) (x : Symbol) (t : Ty) → type_in k.words x ≡ Some t → params_turn k.words f p x ≡ goes (stage.ParamType f t)
  param_is f p (symbol.Sign sign.Close) t e = absurd (none-some t e)
  param_is f p x t e = ap (λ (o : Option Ty). typed (stage.ParamType f) o p) e

  enters_params : (f : Function) → Enters (stage.Params f) f
  unfolding turn
  enters_params f = record { by = λ p x t e. param_is f p x t e }

  enters_param : (f : Function) → Enters (stage.Param f) f
  unfolding turn
  enters_param f = record { by = λ p x t e. ap (λ (o : Option Ty). typed (stage.ParamType f) o p) e }

  type_reads : (s : Stage) (f : Function) (t : Ty) (ys : List Placed) (p : ℕ) (g : Sign) (i : List Placed) → Enters s f → ParameterType k t ys
      → read s (ys ++ sign_at p g ∷ i) ≡ line_by (behind_turn f t p (symbol.Sign g)) (sign_at p g) i (λ next. read next i)
  unfolding turn
  type_reads s f t ys p g i enters (grammar.bare u q x is) =
      by_turn end k s (at q x) (sign_at p g ∷ i) _ (enters.by q x t is) ∙ by_turn end k (stage.ParamType f t) (sign_at p g) i _ refl
  type_reads s f t ys p g i enters (grammar.named u q r x n is) =
      by_turn end k s (at q x) _ _ (enters.by q x t is) ∙ by_turn end k (stage.ParamType f t) (at r (symbol.Name n)) (sign_at p g ∷ i) _ refl
      ∙ by_turn end k (stage.ParamName f t) (sign_at p g) i _ refl

  -- what ends a parameter
  record Ends (g : Sign) : Type 0 where
    value : brackets zero (symbol.Sign g) ≡ None
    behind : (f : Function) (t : Ty) (p : ℕ) → behind_turn f t p (symbol.Sign g) ≡ param_turn f (record { ty = t; default = None }) p (symbol.Sign g)

  comma_ends : Ends sign.Comma
  comma_ends = record { value = refl; behind = λ f t p. refl }

  close_ends : Ends sign.Close
  close_ends = record { value = refl; behind = λ f t p. refl }

  param_reads : (s : Stage) (f : Function) (a : Param) (ys : List Placed) (p : ℕ) (g : Sign) (i : List Placed) → Enters s f → Ends g → Parameter k a ys
      → read s (ys ++ sign_at p g ∷ i) ≡ line_by (param_turn f a p (symbol.Sign g)) (sign_at p g) i (λ next. read next i)
  param_reads s f a ys p g i enters ends (grammar.required t xs type) =
      type_reads s f t xs p g i enters type ∙ ap (λ (z : TurnResult). line_by z (sign_at p g) i (λ next. read next i)) (ends.behind f t p)
  param_reads s f a ys p g i enters ends (grammar.optional t c xs vs e type is) =
      ap (read s) (three xs (sign_at e sign.Equals) vs (sign_at p g ∷ i)) ∙ type_reads s f t xs e sign.Equals (vs ++ sign_at p g ∷ i) enters type
      ∙ value_ok (owner.Parameter f t) t c vs (sign_at p g) i refl is refl ends.value

  abbrev function_of : Declared → List Param → Function
  function_of d ps = record { head = d; params = ps }

  comma_turn : (f : Function) (a : Param) (p : ℕ) → length (f.params ++ a ∷ []) < 255
      → param_turn f a p (symbol.Sign sign.Comma) ≡ goes (stage.Param (record f { params = f.params ++ a ∷ [] }))
  comma_turn f a p few =
      ap (λ (b : Bool). if b then goes (stage.Param (record f { params = f.params ++ a ∷ [] })) else misfit p) (room f.params a few) where
        room : (ps : List Param) (a : Param) → length (ps ++ a ∷ []) < 255 → nat_lt (length ps + 1) 255 ≡ true
        room ps a few = let n = length-append ps (a ∷ []) in let m : length ps + 1 < 255 = omega (arith, n, few) in grind (arith, nat_tests)

  params_comma : (d : Declared) (ps : List Param) (xs : List Placed) (c : ℕ) (i : List Placed) → Parameters k ps xs → length ps < 255
      → read (stage.Params (function_of d [])) (xs ++ sign_at c sign.Comma ∷ i) ≡ read (stage.Param (function_of d ps)) i
  params_comma d ps xs c i (grammar.one a ys is) few =
      param_reads (stage.Params (function_of d [])) (function_of d []) a ys c sign.Comma i (enters_params (function_of d [])) comma_ends is
      ∙ ap (λ (z : TurnResult). line_by z (sign_at c sign.Comma) i (λ next. read next i)) (comma_turn (function_of d []) a c few)
  params_comma d ps xs c i (grammar.more qs a ys zs e before few' is) few =
      ap (read (stage.Params (function_of d []))) (three ys (sign_at e sign.Comma) zs (sign_at c sign.Comma ∷ i))
      ∙ params_comma d qs ys e (zs ++ sign_at c sign.Comma ∷ i) before few'
      ∙ param_reads (stage.Param (function_of d qs)) (function_of d qs) a zs c sign.Comma i (enters_param (function_of d qs)) comma_ends is
      ∙ ap (λ (z : TurnResult). line_by z (sign_at c sign.Comma) i (λ next. read next i)) (comma_turn (function_of d qs) a c few)

  params_close : (d : Declared) (ps : List Param) (xs : List Placed) (c : ℕ) (i : List Placed) → Parameters k ps xs
      → read (stage.Params (function_of d [])) (xs ++ sign_at c sign.Close ∷ i) ≡ read (stage.Closed (function_of d ps)) i
  params_close d ps xs c i (grammar.one a ys is) =
      param_reads (stage.Params (function_of d [])) (function_of d []) a ys c sign.Close i (enters_params (function_of d [])) close_ends is
  params_close d ps xs c i (grammar.more qs a ys zs e before few is) =
      ap (read (stage.Params (function_of d []))) (three ys (sign_at e sign.Comma) zs (sign_at c sign.Close ∷ i))
      ∙ params_comma d qs ys e (zs ++ sign_at c sign.Close ∷ i) before few
      ∙ param_reads (stage.Param (function_of d qs)) (function_of d qs) a zs c sign.Close i (enters_param (function_of d qs)) close_ends is

  list_close : (d : Declared) (ps : List Param) (xs : List Placed) (c : ℕ) (i : List Placed) → ParameterList k ps xs
      → read (stage.Params (function_of d [])) (xs ++ sign_at c sign.Close ∷ i) ≡ read (stage.Closed (function_of d ps)) i
  unfolding turn
  list_close d ps xs c i grammar.absent = by_turn end k (stage.Params (function_of d [])) (sign_at c sign.Close) i _ refl
  list_close d ps xs c i (grammar.present qs ys are) = params_close d ps xs c i are

  -- ---- lines

  -- a clear line is read as its declaration
  pub line_got : (d : Declaration) (xs i : List Placed) → Line k d xs → IsClear k d → line end k stage.Start (xs ++ i) ≡ Got d i
  unfolding turn
  line_got d xs i (grammar.define h e p q n s makes is) clear =
      by_turn end k stage.Start (sign_at h sign.Hash) _ _ refl ∙ by_turn end k stage.Hash (at e (symbol.Name (codes "define"))) _ _ refl
      ∙ by_turn end k stage.Define (at p (symbol.Name n)) _ _ refl ∙ by_turn end k (stage.Defined n) (at q s) i _ (ap (λ (z : Option Declaration). given z q) is)
  line_got d xs i (grammar.constant b x c hs vs e s h is) clear =
      ap (read stage.Start) (four hs (sign_at e sign.Equals) vs (sign_at s sign.Semicolon) i)
      ∙ equals_reads b x hs e (vs ++ sign_at s sign.Semicolon ∷ i) h clear.0
      ∙ value_ok (owner.Constant x) x.ty c vs (sign_at s sign.Semicolon) i refl is clear.1 refl
  line_got d xs i (grammar.function x ps hs ys o c s h are) clear =
      ap (read stage.Start) (three hs (sign_at o sign.Open) (ys ++ sign_at c sign.Close ∷ sign_at s sign.Semicolon ∷ []) i
      ∙ ap (λ (z : List Placed). hs ++ sign_at o sign.Open ∷ z) (three ys (sign_at c sign.Close) (sign_at s sign.Semicolon ∷ []) i))
      ∙ open_reads x hs o (ys ++ sign_at c sign.Close ∷ sign_at s sign.Semicolon ∷ i) h clear
      ∙ list_close x ps ys c (sign_at s sign.Semicolon ∷ i) are
      ∙ by_turn end k (stage.Closed (function_of x ps)) (sign_at s sign.Semicolon) i _ refl

  -- what clashes breaks there
  pub clash_breaks : (f : HeaderFault) (xs i : List Placed) → Clashes k f xs → (left : List Placed) × (line end k stage.Start (xs ++ i) ≡ Broke f left)
  unfolding turn
  clash_breaks f xs i (header.function d g hs o h fault) = (
    sign_at o sign.Open ∷ i,
    ap (read stage.Start) (two hs (sign_at o sign.Open) i) ∙ heading_reads false d hs (sign_at o sign.Open ∷ i) h
        ∙ by_turn end k (stage.Named false d) (sign_at o sign.Open) i _ (ap (λ (z : Option HeaderFault). unless_fault z (goes (stage.Params (function_of d [])))) fault),
  )
  clash_breaks f xs i (header.constant b d g hs e h fault) = (
    sign_at e sign.Equals ∷ i,
    ap (read stage.Start) (two hs (sign_at e sign.Equals) i) ∙ heading_reads b d hs (sign_at e sign.Equals ∷ i) h
        ∙ by_turn end k (stage.Named b d) (sign_at e sign.Equals) i _ (ap (λ (z : Option HeaderFault). unless_fault z (goes (stage.Value (owner.Constant d)))) fault),
  )
  clash_breaks f xs i (header.value b d c g hs vs e h free has is fault) =
      let reads = kept_reads (Some f) (owner.Constant d) d.ty c vs refl has is fault i in (
        reads.0 ∷ i,
        ap (read stage.Start) (three hs (sign_at e sign.Equals) vs i) ∙ equals_reads b d hs e (vs ++ i) h free ∙ reads.1,
      )
  clash_breaks f xs i (header.loose b d g hs vs e p s h free has is ends fault) = (
    at p s ∷ i,
    ap (read stage.Start) (four hs (sign_at e sign.Equals) vs (at p s) i) ∙ equals_reads b d hs e (vs ++ at p s ∷ i) h free
        ∙ loose_reads (Some f) (owner.Constant d) vs (at p s) i has is ends fault,
  )
