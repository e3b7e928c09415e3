-- Whole texts: what reading comes to is what the grammar has, and the grammar has one answer.
use Rattle.std.proofs.Common.{◌≡◌, ◌≢◌, ◌⊎◌, inl, inr, ℕ, zero, suc, ◌<◌, Bool, true, false, if◌then◌else◌, nat_lt, List, [], ◌∷◌, ◌++◌, length, Option, Some, None, is_some, Result, Ok, Err, refl}
use Rattle.std.proofs.Common.{sym, ap, subst, ◌∙◌, arith, append_assoc, append-nil, true≢false}
use Rattle.std.proofs.lemmas.Option.{same_Some, none-some}
use Rattle.nss_lexer.specs.Splitting.{Lexeme, Splits}
use Rattle.nwq_value.specs.declared.value.Ty.{Ty}
use Rattle.nwq_value.specs.declared.engine.Const.{Const}
use Rattle.nwq_value.specs.Engine.{Constant, EngineTable, routine_named, constant_named}
use Rattle.engine_table.specs.Known.{Known}
use Rattle.engine_table.specs.declared.declaration.Declared.{Declared}
use Rattle.engine_table.specs.declared.declaration.Declaration.{Declaration}
use Rattle.engine_table.specs.declared.declaration.Declaration.TheVariants.{Constant as IsConstant, Function as IsFunction}
use Rattle.engine_table.specs.declared.fault.HeaderFault.{HeaderFault}
use Rattle.engine_table.specs.declared.fault.HeaderFault.TheVariants.{Bad, Header, Twice, Many, NoMemory}
use Rattle.engine_table.specs.declared.symbol.Sign.TheVariants as sign
use Rattle.engine_table.specs.declared.stage.Stage.{Stage}
use Rattle.engine_table.specs.declared.stage.Stage.TheVariants as stage
use Rattle.engine_table.specs.declared.stage.Turn.TheVariants.{Goes, Gives}
use Rattle.engine_table.specs.Symbols.{Placed, placed_all}
use Rattle.engine_table.specs.Grammar as grammar
use Rattle.engine_table.specs.Grammar.{sign_at, structure_of, has_constants, Loose, Value, Heading, Line}
use Rattle.engine_table.specs.Headers as header
use Rattle.engine_table.specs.Headers.{function_fault, constant_fault, value_fault, differs, fault_unless, same_const, IsClear, Clashes, IsPrefix, IsInside, IsMisfit, Lines, HeaderFails, Comes}
use Rattle.engine_table.specs.Headers.{HasTable, IsFaulty, IsRefused, IsAnswer, OneHeader, after, after_all, nothing}
use Rattle.engine_table.specs.Turns.{TurnResult, turn, ended, run_by, declarations_read, HasBegun}
use Rattle.engine_table.proofs.Progress as progress
use Rattle.engine_table.proofs.Progress.{two, three, Begun, After, step, clear_made}
use Rattle.engine_table.proofs.Prefixes.{begun_prefix, unspelled}
use Rattle.engine_table.proofs.Complete.{Got, Broke, line_by, line, by_turn, line_got, clash_breaks}

-- ---- clashes are no misfits

abbrev pub IsClash : HeaderFault → Type 0
IsClash (Twice p) = Unit {0}
IsClash (Many p) = Unit {0}
IsClash _ = ⊥

choice : (b : Bool) (a f : HeaderFault) (o : Option HeaderFault) → IsClash a → (o ≡ Some f → IsClash f) → (if b then Some a else o) ≡ Some f → IsClash f
choice true a f o h g e = subst IsClash (same_Some a f e) h
choice false a f o h g e = g e

function_clash : (k : Known) (d : Declared) (f : HeaderFault) → function_fault k d ≡ Some f → IsClash f
unfolding function_fault
function_clash k d f e =
    choice (is_some (routine_named d.name k.table.routines)) (Twice d.place) f _ tt
    (λ e'. choice (is_some (constant_named d.name k.table.constants)) (Twice d.place) f _ tt
    (λ e''. room (nat_lt (length k.table.routines) 65535) e'') e') e where
      room : (b : Bool) → (if b then None else Some (Many d.place)) ≡ Some f → IsClash f
      room true e = absurd (none-some f e)
      room false e = subst IsClash (same_Some (Many d.place) f e) tt

constant_clash : (k : Known) (d : Declared) (f : HeaderFault) → constant_fault k d ≡ Some f → IsClash f
unfolding constant_fault
constant_clash k d f e = choice (is_some (routine_named d.name k.table.routines)) (Twice d.place) f None tt (λ e'. absurd (none-some f e')) e

differ_clash : (o c : Option Const) (p : ℕ) (f : HeaderFault) → differs o c p ≡ Some f → IsClash f
differ_clash None c p f e = absurd (none-some f e)
differ_clash (Some old) None p f e = subst IsClash (same_Some (Twice p) f e) tt
differ_clash (Some old) (Some new) p f e = by (same_const old new) e where
  by : (b : Bool) → fault_unless b p ≡ Some f → IsClash f
  by true e = absurd (none-some f e)
  by false e = subst IsClash (same_Some (Twice p) f e) tt

value_clash : (k : Known) (d : Declared) (c : Option Const) (f : HeaderFault) → value_fault k d c ≡ Some f → IsClash f
unfolding value_fault
value_clash k d c f e = differ_clash (constant_named d.name k.table.constants) c d.place f e

pub clash_is : (k : Known) (f : HeaderFault) (xs : List Placed) → Clashes k f xs → IsClash f
clash_is k f xs (header.function d g hs o h fault) = function_clash k d f fault
clash_is k f xs (header.constant b d g hs e h fault) = constant_clash k d f fault
clash_is k f xs (header.value b d c g hs vs e h free has is fault) = value_clash k d c f fault
clash_is k f xs (header.loose b d g hs vs e p s h free has is ends fault) = value_clash k d None f fault

same_break : (f g : HeaderFault) (xs ys : List Placed) → Broke f xs ≡ Broke g ys → f ≡ g
same_break f g xs ys e = cc

got_broke : (d : Declaration) (f : HeaderFault) (xs ys : List Placed) → Got d xs ≡ Broke f ys → ⊥
got_broke d f xs ys e = cc

same_got : (d e : Declaration) (xs ys : List Placed) → Got d xs ≡ Got e ys → xs ≡ ys
same_got d e xs ys h = cc

-- what clashes doesn't break as a misfit
no_misfit : (k : Known) (f : HeaderFault) (xs i : List Placed) (end p : ℕ) (left : List Placed) → Clashes k f xs → line end k stage.Start (xs ++ i) ≡ Broke (Header p) left → ⊥
no_misfit k f xs i end p left clash e =
    let breaks = clash_breaks end k f xs i clash in
    subst IsClash (same_break f (Header p) breaks.0 left (sym breaks.1 ∙ e)) (clash_is k f xs clash)

-- ---- a line is clear, or a clash is in it

record Clashing (k : Known) (xs : List Placed) : Type 0 where
  fault : HeaderFault
  prefix : List Placed
  rest : List Placed
  same : xs ≡ prefix ++ rest
  clash : Clashes k fault prefix

loose_of : (constants : List Constant) (t : Ty) (c : Option Const) (vs : List Placed) → Value constants t c vs → has_constants t ≡ false → (c ≡ None) × Loose zero vs
loose_of cs t c vs (grammar.constant u d p s has is) none = absurd (true≢false (sym has ∙ none))
loose_of cs t c vs (grammar.minus p q n) none = absurd (true≢false none)
loose_of cs t c vs (grammar.other u xs has is) none = (refl, is)

clear_value : (k : Known) (b : Bool) (x : Declared) (c : Option Const) (hs vs : List Placed) (e s : ℕ) (has : Bool) (r : Option HeaderFault) → Heading k b x hs
    → Value k.table.constants x.ty c vs → constant_fault k x ≡ None → has_constants x.ty ≡ has → value_fault k x c ≡ r
    → IsClear k (IsConstant x c) ⊎ Clashing k (hs ++ sign_at e sign.Equals ∷ (vs ++ sign_at s sign.Semicolon ∷ []))
clear_value k b x c hs vs e s has None h is free typed none = inl (free, none)
clear_value k b x c hs vs e s true (Some f) h is free typed fault = inr (record {
  fault = f;
  prefix = hs ++ sign_at e sign.Equals ∷ vs;
  rest = sign_at s sign.Semicolon ∷ [];
  same = sym (three hs (sign_at e sign.Equals) vs (sign_at s sign.Semicolon ∷ []));
  clash = header.value b x c f hs vs e h free typed is fault;
})
clear_value k b x c hs vs e s false (Some f) h is free typed fault =
    let parts = loose_of k.table.constants x.ty c vs is typed in inr (record {
      fault = f;
      prefix = hs ++ sign_at e sign.Equals ∷ (vs ++ sign_at s sign.Semicolon ∷ []);
      rest = [];
      same = sym (append-nil (hs ++ sign_at e sign.Equals ∷ (vs ++ sign_at s sign.Semicolon ∷ [])));
      clash = header.loose b x f hs vs e s _ h free typed parts.1 refl (subst (λ (z : Option Const). value_fault k x z ≡ Some f) parts.0 fault);
    })

clear_constant : (k : Known) (b : Bool) (x : Declared) (c : Option Const) (hs vs : List Placed) (e s : ℕ) (r : Option HeaderFault) → Heading k b x hs
    → Value k.table.constants x.ty c vs → constant_fault k x ≡ r
    → IsClear k (IsConstant x c) ⊎ Clashing k (hs ++ sign_at e sign.Equals ∷ (vs ++ sign_at s sign.Semicolon ∷ []))
clear_constant k b x c hs vs e s None h is free = clear_value k b x c hs vs e s (has_constants x.ty) (value_fault k x c) h is free refl refl
clear_constant k b x c hs vs e s (Some f) h is fault = inr (record {
  fault = f;
  prefix = hs ++ sign_at e sign.Equals ∷ [];
  rest = vs ++ sign_at s sign.Semicolon ∷ [];
  same = sym (two hs (sign_at e sign.Equals) (vs ++ sign_at s sign.Semicolon ∷ []));
  clash = header.constant b x f hs e h fault;
})

clear_function : (k : Known) (x : Declared) (ps : _) (hs ws : List Placed) (o : ℕ) (r : Option HeaderFault) → Heading k false x hs → function_fault k x ≡ r
    → IsClear k (IsFunction (record { head = x; params = ps })) ⊎ Clashing k (hs ++ sign_at o sign.Open ∷ ws)
clear_function k x ps hs ws o None h free = inl free
clear_function k x ps hs ws o (Some f) h fault = inr (record {
  fault = f;
  prefix = hs ++ sign_at o sign.Open ∷ [];
  rest = ws;
  same = sym (two hs (sign_at o sign.Open) ws);
  clash = header.function x f hs o h fault;
})

clear_or : (k : Known) (d : Declaration) (xs : List Placed) → Line k d xs → IsClear k d ⊎ Clashing k xs
clear_or k d xs (grammar.define h e p q n s makes is) = inl (clear_made k (structure_of n) s makes is)
clear_or k d xs (grammar.constant b x c hs vs e s h is) = clear_constant k b x c hs vs e s (constant_fault k x) h is refl
clear_or k d xs (grammar.function x ps hs ys o c s h are) = clear_function k x ps hs _ o (function_fault k x) h refl

regroup : (xs ys zs i : List Placed) → xs ≡ ys ++ zs → xs ++ i ≡ ys ++ (zs ++ i)
regroup xs ys zs i e = ap (λ (z : List Placed). z ++ i) e ∙ append_assoc ys zs i

-- a line doesn't break as a misfit
no_header_by : (k : Known) (d : Declaration) (xs i : List Placed) (end p : ℕ) (left : List Placed) → Line k d xs → IsClear k d ⊎ Clashing k xs
    → line end k stage.Start (xs ++ i) ≡ Broke (Header p) left → ⊥
no_header_by k d xs i end p left is (inl clear) e = got_broke d (Header p) i left (sym (line_got end k d xs i is clear) ∙ e)
no_header_by k d xs i end p left is (inr c) e =
    no_misfit k c.fault c.prefix (c.rest ++ i) end p left c.clash (ap (line end k stage.Start) (sym (regroup xs c.prefix c.rest i c.same)) ∙ e)

no_header : (k : Known) (d : Declaration) (xs i : List Placed) (end p : ℕ) (left : List Placed) → Line k d xs → line end k stage.Start (xs ++ i) ≡ Broke (Header p) left → ⊥
no_header k d xs i end p left is e = no_header_by k d xs i end p left is (clear_or k d xs is) e

-- what is left behind a line that was read
got_rest_by : (k : Known) (d g : Declaration) (xs i r : List Placed) (end : ℕ) → Line k d xs → IsClear k d ⊎ Clashing k xs → line end k stage.Start (xs ++ i) ≡ Got g r → r ≡ i
got_rest_by k d g xs i r end is (inl clear) e = same_got g d r i (sym e ∙ line_got end k d xs i is clear)
got_rest_by k d g xs i r end is (inr c) e =
    let breaks = clash_breaks end k c.fault c.prefix (c.rest ++ i) c.clash in
    absurd (got_broke g c.fault r breaks.0 (sym e ∙ ap (line end k stage.Start) (regroup xs c.prefix c.rest i c.same) ∙ breaks.1))

got_rest : (k : Known) (d g : Declaration) (xs i r : List Placed) (end : ℕ) → Line k d xs → line end k stage.Start (xs ++ i) ≡ Got g r → r ≡ i
got_rest k d g xs i r end is e = got_rest_by k d g xs i r end is (clear_or k d xs is) e

-- ---- a walk over tokens

data Walk (end : ℕ) (k : Known) (s : Stage) (before xs : List Placed) : Type 0 where
  reached : (to : Stage) → Begun k to (before ++ xs) → ((i : List Placed) → line end k s (xs ++ i) ≡ line end k to i) → Walk end k s before xs
  whole : (d : Declaration) (ys zs : List Placed) → xs ≡ ys ++ zs → Line k d (before ++ ys) → IsClear k d
      → ((i : List Placed) → line end k s (ys ++ i) ≡ Got d i) → Walk end k s before xs
  broke : (to : Stage) (ys : List Placed) (x : Placed) (zs : List Placed) (f : HeaderFault) → xs ≡ ys ++ x ∷ zs → Begun k to (before ++ ys)
      → (f ≡ Header x.place) ⊎ Clashes k f ((before ++ ys) ++ x ∷ []) → ((i : List Placed) → line end k s (ys ++ x ∷ i) ≡ Broke f (x ∷ i)) → Walk end k s before xs

onward : (end : ℕ) (k : Known) (s next : Stage) (before : List Placed) (x : Placed) (xs : List Placed) → ((i : List Placed) → line end k s (x ∷ i) ≡ line end k next i)
    → Walk end k next (before ++ x ∷ []) xs → Walk end k s before (x ∷ xs)
onward end k s next before x xs by (reached to begun e) = reached to (subst (Begun k to) (two before x xs) begun) (λ i. by (xs ++ i) ∙ e i)
onward end k s next before x xs by (whole d ys zs same is clear e) =
    whole d (x ∷ ys) zs (ap (λ (z : List Placed). x ∷ z) same) (subst (Line k d) (two before x ys) is) clear (λ i. by (ys ++ i) ∙ e i)
onward end k s next before x xs by (broke to ys y zs f same begun cause e) =
    broke to (x ∷ ys) y zs f (ap (λ (z : List Placed). x ∷ z) same) (subst (Begun k to) (two before x ys) begun)
    (subst (λ (z : List Placed). (f ≡ Header y.place) ⊎ Clashes k f (z ++ y ∷ [])) (two before x ys) cause) (λ i. by (ys ++ y ∷ i) ∙ e i)

walk_by : (end : ℕ) (k : Known) (s : Stage) (before : List Placed) (x : Placed) (xs : List Placed) → Begun k s before
    → ((next : Stage) (bs : List Placed) → Begun k next bs → Walk end k next bs xs) → (t : TurnResult) → turn k s x.place x.symbol ≡ t → After k before x t
    → Walk end k s before (x ∷ xs)
walk_by end k s before x xs begun more (Ok (Goes next)) e is =
    onward end k s next before x xs (λ i. by_turn end k s x i (Ok (Goes next)) e) (more next (before ++ x ∷ []) is)
walk_by end k s before x xs begun more (Ok (Gives d new)) e is = whole d (x ∷ []) xs refl is.0 is.1 (λ i. by_turn end k s x i (Ok (Gives d new)) e)
walk_by end k s before x xs begun more (Err f) e is =
    broke s [] x xs f refl (subst (Begun k s) (sym (append-nil before)) begun)
    (subst (λ (z : List Placed). (f ≡ Header x.place) ⊎ Clashes k f (z ++ x ∷ [])) (sym (append-nil before)) is) (λ i. by_turn end k s x i (Err f) e)

walk : (end : ℕ) (k : Known) (xs : List Placed) (s : Stage) (before : List Placed) → Begun k s before → Walk end k s before xs
walk end k [] s before begun = reached s (subst (Begun k s) (sym (append-nil before)) begun) (λ i. refl)
walk end k (x ∷ xs) s before begun =
    walk_by end k s before x xs begun (λ next bs h. walk end k xs next bs h) (turn k s x.place x.symbol) refl (step k s before x.place x.symbol begun)

-- ---- the law: what the grammar has is what is read

record Reached (end : ℕ) (k : Known) (xs : List Placed) : Type 0 where
  to : Stage
  begun : Begun k to xs
  reads : (i : List Placed) → line end k stage.Start (xs ++ i) ≡ line end k to i

no_rest : (xs ys : List Placed) → xs ++ ys ≡ [] → xs ≡ []
no_rest [] ys e = refl
no_rest (x ∷ xs) ys e = cc

no_empty : (xs : List Placed) (x : Placed) (ys : List Placed) → xs ++ x ∷ ys ≡ [] → ⊥
no_empty [] x ys e = cc
no_empty (y ∷ xs) x ys e = cc

inside_by : (end : ℕ) (k : Known) (xs : List Placed) → IsInside k xs → Walk end k stage.Start [] xs → Reached end k xs
inside_by end k xs inside (reached to begun e) = record { to = to; begun = begun; reads = e }
inside_by end k xs inside (whole d ys zs same is clear e) =
    let (more, spelled, g, other) = inside.prefix in
    let none : zs ++ more ≡ [] = got_rest k g d (xs ++ more) [] (zs ++ more) end other
    (ap (line end k stage.Start) (append-nil (xs ++ more) ∙ regroup xs ys zs more same) ∙ e (zs ++ more)) in
    let all : xs ≡ ys = same ∙ ap (λ (z : List Placed). ys ++ z) (no_rest zs more none) ∙ append-nil ys in
    absurd (inside.no_line d (subst (Line k d) (sym all) is))
inside_by end k xs inside (broke to ys x zs f same begun (inl misfit) e) =
    let (more, spelled, g, other) = inside.prefix in
    absurd (no_header k g (xs ++ more) [] end x.place (x ∷ (zs ++ more)) other
    (ap (line end k stage.Start) (append-nil (xs ++ more) ∙ regroup xs ys (x ∷ zs) more same) ∙ e (zs ++ more) ∙ ap (λ (z : HeaderFault). Broke z (x ∷ (zs ++ more))) misfit))
inside_by end k xs inside (broke to ys x zs f same begun (inr clash) e) = absurd (inside.no_clash f (ys ++ x ∷ []) zs (same ∙ sym (two ys x zs)) clash)

inside_reached : (end : ℕ) (k : Known) (xs : List Placed) → IsInside k xs → Reached end k xs
inside_reached end k xs inside = inside_by end k xs inside (walk end k xs stage.Start [] progress.start)

whole_prefix : (k : Known) (d : Declaration) (xs : List Placed) → Line k d xs → IsPrefix k xs
whole_prefix k d xs is = ([], d, subst (Line k d) (sym (append-nil xs)) is)

misfit_by : (end : ℕ) (k : Known) (xs : List Placed) (x : Placed) (ys : List Placed) (r : Reached end k xs) (t : TurnResult) → IsMisfit k xs x → turn k r.to x.place x.symbol ≡ t
    → After k xs x t → line end k stage.Start (xs ++ x ∷ ys) ≡ Broke (Header x.place) (x ∷ ys)
misfit_by end k xs x ys r (Ok (Goes next)) m e is = absurd (m.through (unspelled k (xs ++ x ∷ []) (begun_prefix k next (xs ++ x ∷ []) is)))
misfit_by end k xs x ys r (Ok (Gives d new)) m e is = absurd (m.through (whole_prefix k d (xs ++ x ∷ []) is.0))
misfit_by end k xs x ys r (Err f) m e (inl is) = r.reads (x ∷ ys) ∙ by_turn end k r.to x ys (Err f) e ∙ ap (λ (z : HeaderFault). Broke z (x ∷ ys)) is
misfit_by end k xs x ys r (Err f) m e (inr clash) = absurd (m.no_clash f clash)

misfit_breaks : (end : ℕ) (k : Known) (xs : List Placed) (x : Placed) (ys : List Placed) → IsMisfit k xs x → line end k stage.Start (xs ++ x ∷ ys) ≡ Broke (Header x.place) (x ∷ ys)
misfit_breaks end k xs x ys m =
    let r = inside_reached end k xs m.inside in misfit_by end k xs x ys r (turn k r.to x.place x.symbol) m refl (step k r.to xs x.place x.symbol r.begun)

short_breaks : (end : ℕ) (k : Known) (xs : List Placed) → IsInside k xs → line end k stage.Start xs ≡ Broke (Header end) []
unfolding line
short_breaks end k xs inside =
    let r = inside_reached end k xs inside in ap (line end k stage.Start) (sym (append-nil xs)) ∙ r.reads []

-- ---- many lines

begun_stage : (k : Known) (s : Stage) (xs : List Placed) → Begun k s xs → HasBegun s ⊎ (xs ≡ [])
begun_stage k s xs progress.start = inr refl
begun_stage k s xs (progress.hash h) = inl tt
begun_stage k s xs (progress.define h d) = inl tt
begun_stage k s xs (progress.definition h d p n) = inl tt
begun_stage k s xs (progress.fixed o) = inl tt
begun_stage k s xs (progress.plain_type t p x is) = inl tt
begun_stage k s xs (progress.fixed_type t o p x is) = inl tt
begun_stage k s xs (progress.named b d hs h) = inl tt
begun_stage k s xs (progress.value o ys own) = inl tt
begun_stage k s xs (progress.minus o ys p own int) = inl tt
begun_stage k s xs (progress.loose o d ys vs own has is) = inl tt
begun_stage k s xs (progress.valued o c new ys vs own is none) = inl tt
begun_stage k s xs (progress.opened d hs o h free) = inl tt
begun_stage k s xs (progress.param f ys before) = inl tt
begun_stage k s xs (progress.param_type f t ys p x before is) = inl tt
begun_stage k s xs (progress.param_name f t ys zs before type) = inl tt
begun_stage k s xs (progress.closed d ps hs ys o c h free are) = inl tt

has_begun : (k : Known) (s : Stage) (xs : List Placed) (x : Placed) → Begun k s (xs ++ x ∷ []) → HasBegun s
has_begun k s xs x begun = by (begun_stage k s (xs ++ x ∷ []) begun) where
  by : HasBegun s ⊎ (xs ++ x ∷ [] ≡ []) → HasBegun s
  by (inl h) = h
  by (inr e) = absurd (no_empty xs x [] e)

got_by : (end : ℕ) (k : Known) (s : Stage) (x : Placed) (xs : List Placed) (d : Declaration) (r : List Placed) (t : TurnResult) → turn k s x.place x.symbol ≡ t
    → ((next : Stage) → line end k next xs ≡ Got d r → declarations_read end k next xs ≡ declarations_read end (after k d) stage.Start r)
    → line_by t x xs (λ next. line end k next xs) ≡ Got d r → declarations_read end k s (x ∷ xs) ≡ declarations_read end (after k d) stage.Start r
unfolding declarations_read
got_by end k s x xs d r (Ok (Goes next)) e more is =
    ap (λ (t : TurnResult). run_by t (λ n. declarations_read end k n xs) (λ g. declarations_read end (after k g) stage.Start xs)) e ∙ more next is
got_by end k s x xs d r (Ok (Gives g new)) e more is =
    let parts : (g ≡ d) × (xs ≡ r) = same g d xs r is in
    ap (λ (t : TurnResult). run_by t (λ n. declarations_read end k n xs) (λ g. declarations_read end (after k g) stage.Start xs)) e
    ∙ ap (λ (z : Declaration). declarations_read end (after k z) stage.Start xs) parts.0 ∙ ap (declarations_read end (after k d) stage.Start) parts.1 where
      same : (g d : Declaration) (xs r : List Placed) → Got g xs ≡ Got d r → (g ≡ d) × (xs ≡ r)
      same g d xs r e = (cc, cc)
got_by end k s x xs d r (Err f) e more is = absurd (got_broke d f r (x ∷ xs) (sym is))

run_got : (end : ℕ) (k : Known) (xs : List Placed) (s : Stage) (d : Declaration) (r : List Placed)
    → line end k s xs ≡ Got d r → declarations_read end k s xs ≡ declarations_read end (after k d) stage.Start r
unfolding line
run_got end k [] s d r e = absurd (got_broke d (Header end) r [] (sym e))
run_got end k (x ∷ xs) s d r e = got_by end k s x xs d r (turn k s x.place x.symbol) refl (λ next e'. run_got end k xs next d r e') e

ended_at : (end : ℕ) (k : Known) (s : Stage) → HasBegun s → ended end k s ≡ Err (Header end)
ended_at end k stage.Start h = absurd h
ended_at end k s h = refl

broke_by : (end : ℕ) (k : Known) (s : Stage) (before : List Placed) (x : Placed) (xs : List Placed) (f : HeaderFault) (left : List Placed) (t : TurnResult) → turn k s x.place x.symbol ≡ t
    → After k before x t
    → ((next : Stage) (bs : List Placed) → Begun k next bs → HasBegun next → line end k next xs ≡ Broke f left → declarations_read end k next xs ≡ Err f)
    → line_by t x xs (λ next. line end k next xs) ≡ Broke f left → declarations_read end k s (x ∷ xs) ≡ Err f
unfolding declarations_read
broke_by end k s before x xs f left (Ok (Goes next)) e is more h =
    ap (λ (t : TurnResult). run_by t (λ n. declarations_read end k n xs) (λ g. declarations_read end (after k g) stage.Start xs)) e
    ∙ more next (before ++ x ∷ []) is (has_begun k next before x is) h
broke_by end k s before x xs f left (Ok (Gives d new)) e is more h = absurd (got_broke d f xs left h)
broke_by end k s before x xs f left (Err g) e is more h =
    ap (λ (t : TurnResult). run_by t (λ n. declarations_read end k n xs) (λ g. declarations_read end (after k g) stage.Start xs)) e ∙ ap (λ (z : HeaderFault). Err z) (same_break g f (x ∷ xs) left h)

run_broke_in : (end : ℕ) (k : Known) (xs : List Placed) (s : Stage) (before : List Placed) (f : HeaderFault) (left : List Placed) → Begun k s before → HasBegun s
    → line end k s xs ≡ Broke f left → declarations_read end k s xs ≡ Err f
unfolding line declarations_read
run_broke_in end k [] s before f left begun h e = ended_at end k s h ∙ ap (λ (z : HeaderFault). Err z) (same_break (Header end) f [] left e)
run_broke_in end k (x ∷ xs) s before f left begun h e =
    broke_by end k s before x xs f left (turn k s x.place x.symbol) refl (step k s before x.place x.symbol begun)
    (λ next bs b h' e'. run_broke_in end k xs next bs f left b h' e') e

run_broke : (end : ℕ) (k : Known) (xs : List Placed) (f : HeaderFault) (left : List Placed) → xs ≢ [] → line end k stage.Start xs ≡ Broke f left → declarations_read end k stage.Start xs ≡ Err f
unfolding line
run_broke end k [] f left some e = absurd (some refl)
run_broke end k (x ∷ xs) f left some e =
    broke_by end k stage.Start [] x xs f left (turn k stage.Start x.place x.symbol) refl (step k stage.Start [] x.place x.symbol progress.start)
    (λ next bs b h' e'. run_broke_in end k xs next bs f left b h' e') e

lines_run : (end : ℕ) (k : Known) (ds : List Declaration) (xs : List Placed) → Lines k ds xs → declarations_read end k stage.Start xs ≡ Ok (after_all k ds).table
unfolding declarations_read
lines_run end k ds xs (header.none j) = refl
lines_run end k ds xs (header.more j d es ys zs is clear rest) =
    run_got end k (ys ++ zs) stage.Start d zs (line_got end k d ys zs is clear) ∙ lines_run end (after k d) es zs rest

clash_some : (end : ℕ) (k : Known) (f : HeaderFault) (xs ys : List Placed) → Clashes k f xs → xs ++ ys ≢ []
unfolding line
clash_some end k f xs ys clash = λ e. no_misfit k f xs ys end end [] clash (ap (line end k stage.Start) e)

fails_run : (end : ℕ) (k : Known) (f : HeaderFault) (xs : List Placed) → HeaderFails end k f xs → declarations_read end k stage.Start xs ≡ Err f
fails_run end k f xs (header.later j d g ys zs is clear rest) =
    run_got end k (ys ++ zs) stage.Start d zs (line_got end k d ys zs is clear) ∙ fails_run end (after k d) f zs rest
fails_run end k f xs (header.clash j g ys zs clash) =
    let breaks = clash_breaks end k f ys zs clash in run_broke end k (ys ++ zs) f breaks.0 (clash_some end k f ys zs clash) breaks.1
fails_run end k f xs (header.misfit j ys x zs m) = run_broke end k (ys ++ x ∷ zs) (Header x.place) (x ∷ zs) (λ e. no_empty ys x zs e) (misfit_breaks end k ys x zs m)
fails_run end k f xs (header.short j ys some inside) = run_broke end k ys (Header end) [] some (short_breaks end k ys inside)

-- ---- what is read is what the grammar has

pub prepend : (end : ℕ) (k : Known) (d : Declaration) (xs ys : List Placed) (o : Result EngineTable HeaderFault) → Line k d xs → IsClear k d → Comes end (after k d) ys o
    → Comes end k (xs ++ ys) o
prepend end k d xs ys (Ok table) is clear (ds, rest, same) = (d ∷ ds, header.more k d ds xs ys is clear rest, same)
prepend end k d xs ys (Err f) is clear rest = header.later k d f xs ys is clear rest

come_as : (end : ℕ) (k : Known) (xs ys : List Placed) (a b : Result EngineTable HeaderFault) → xs ≡ ys → a ≡ b → Comes end k ys b → Comes end k xs a
come_as end k xs ys a b e e' h = subst (λ (z : List Placed). Comes end k z a) (sym e) (subst (Comes end k ys) (sym e') h)

inside_misfit : (end : ℕ) (k : Known) (to : Stage) (xs i : List Placed) (p : ℕ) (left : List Placed) → Begun k to xs → line end k stage.Start (xs ++ i) ≡ Broke (Header p) left
    → IsInside k xs
inside_misfit end k to xs i p left begun e = record {
  prefix = begun_prefix k to xs begun;
  no_line = λ d is. no_header k d xs i end p left is e;
  no_clash = λ f ys zs same clash. no_misfit k f ys (zs ++ i) end p left clash (ap (line end k stage.Start) (sym (regroup xs ys zs i same)) ∙ e);
}

got_shorter : (end : ℕ) (k : Known) (xs : List Placed) (s : Stage) (d : Declaration) (r : List Placed) → line end k s xs ≡ Got d r → length r < length xs
unfolding line
got_shorter end k [] s d r e = absurd (got_broke d (Header end) r [] (sym e))
got_shorter end k (x ∷ xs) s d r e = by (turn k s x.place x.symbol) (λ next e'. got_shorter end k xs next d r e') e where
  by : (t : TurnResult) → ((next : Stage) → line end k next xs ≡ Got d r → length r < length xs) → line_by t x xs (λ next. line end k next xs) ≡ Got d r → length r < suc (length xs)
  by (Ok (Goes next)) more e = let h = more next e in omega (arith, h)
  by (Ok (Gives g new)) more e = let h = ap length (same_got g d xs r e) in omega (arith, h)
  by (Err f) more e = absurd (got_broke d f r (x ∷ xs) (sym e))

right_by : (end : ℕ) (k : Known) (xs : List Placed) → ((j : Known) (ys : List Placed) → length ys < length xs → Comes end j ys (declarations_read end j stage.Start ys))
    → Walk end k stage.Start [] xs → Comes end k xs (declarations_read end k stage.Start xs)
unfolding line declarations_read
right_by end k [] more (reached to begun e) = ([], header.none k, refl)
right_by end k (x ∷ xs) more (reached to begun e) =
    let breaks : line end k stage.Start (x ∷ xs) ≡ Broke (Header end) [] = ap (line end k stage.Start) (sym (append-nil (x ∷ xs))) ∙ e [] in
    let inside = inside_misfit end k to (x ∷ xs) [] end [] begun (e []) in
    come_as end k (x ∷ xs) (x ∷ xs) _ (Err (Header end)) refl (run_broke end k (x ∷ xs) (Header end) [] (λ none. no_empty [] x xs none) breaks)
    (header.short k (x ∷ xs) (λ none. no_empty [] x xs none) inside)
right_by end k xs more (whole d ys zs same is clear e) =
    let reads : line end k stage.Start xs ≡ Got d zs = ap (line end k stage.Start) same ∙ e zs in
    come_as end k xs (ys ++ zs) _ (declarations_read end (after k d) stage.Start zs) same (run_got end k xs stage.Start d zs reads)
    (prepend end k d ys zs (declarations_read end (after k d) stage.Start zs) is clear (more (after k d) zs (got_shorter end k xs stage.Start d zs reads)))
right_by end k xs more (broke to ys x zs f same begun (inl is) e) =
    let reads : line end k stage.Start (ys ++ x ∷ zs) ≡ Broke (Header x.place) (x ∷ zs) = e zs ∙ ap (λ (z : HeaderFault). Broke z (x ∷ zs)) is in
    come_as end k xs (ys ++ x ∷ zs) _ (Err (Header x.place)) same
    (ap (declarations_read end k stage.Start) same ∙ run_broke end k (ys ++ x ∷ zs) (Header x.place) (x ∷ zs) (λ none. no_empty ys x zs none) reads)
    (header.misfit k ys x zs (record {
      inside = inside_misfit end k to ys (x ∷ zs) x.place (x ∷ zs) begun reads;
      through = λ prefix. let (rest, d, line_is) = prefix in
          no_header k d ((ys ++ x ∷ []) ++ rest) [] end x.place (x ∷ rest) line_is
          (ap (line end k stage.Start) (append-nil ((ys ++ x ∷ []) ++ rest) ∙ two ys x rest) ∙ e rest ∙ ap (λ (z : HeaderFault). Broke z (x ∷ rest)) is);
      no_clash = λ g clash. no_misfit k g (ys ++ x ∷ []) zs end x.place (x ∷ zs) clash (ap (line end k stage.Start) (two ys x zs) ∙ reads);
    }))
right_by end k xs more (broke to ys x zs f same begun (inr clash) e) =
    come_as end k xs ((ys ++ x ∷ []) ++ zs) _ (Err f) (same ∙ sym (two ys x zs))
    (ap (declarations_read end k stage.Start) same ∙ run_broke end k (ys ++ x ∷ zs) f (x ∷ zs) (λ none. no_empty ys x zs none) (e zs))
    (header.clash k f (ys ++ x ∷ []) zs clash)

right_in : (n : ℕ) (end : ℕ) (k : Known) (xs : List Placed) → length xs < n → Comes end k xs (declarations_read end k stage.Start xs)
right_in zero end k xs h = absurd (omega (arith, h))
right_in (suc n) end k xs h = right_by end k xs (λ j ys less. right_in n end j ys (omega (arith, h, less))) (walk end k xs stage.Start [] progress.start)

-- reading comes to what the grammar has
pub right : (end : ℕ) (k : Known) (xs : List Placed) → Comes end k xs (declarations_read end k stage.Start xs)
right end k xs = right_in (suc (length xs)) end k xs (omega arith)

-- and the grammar has nothing else
comes_run : (end : ℕ) (k : Known) (xs : List Placed) (o : Result EngineTable HeaderFault) → Comes end k xs o → declarations_read end k stage.Start xs ≡ o
comes_run end k xs (Ok table) (ds, are, same) = lines_run end k ds xs are ∙ ap (λ (z : EngineTable). Ok z) (sym same)
comes_run end k xs (Err f) fails = fails_run end k f xs fails

-- ---- texts

abbrev pub OneSplit : Type 0
OneSplit = (bytes : List ℕ) (file at : ℕ) (ts us : List Lexeme) (e f : Option ℕ) → Splits bytes file at ts e → Splits bytes file at us f → (ts ≡ us) × (e ≡ f)

-- a fault that isn't want of memory is a bad byte, or one of the tokens
data Refusal (bytes : List ℕ) : HeaderFault → Type 0 where
  bad : (place : ℕ) (tokens : List Lexeme) → Splits bytes 0 0 tokens (Some place) → Refusal bytes (Bad place)
  faulty : (f : HeaderFault) (tokens : List Lexeme) → Splits bytes 0 0 tokens None → declarations_read (length bytes) nothing stage.Start (placed_all tokens) ≡ Err f → Refusal bytes f

faulty_of : (bytes : List ℕ) (f : HeaderFault) → IsFaulty bytes f → Refusal bytes f
faulty_of bytes f (tokens, are, fails) = faulty f tokens are (comes_run (length bytes) nothing (placed_all tokens) (Err f) fails)

refusal_of : (bytes : List ℕ) (f : HeaderFault) → f ≢ NoMemory → IsRefused bytes f → Refusal bytes f
refusal_of bytes (Bad place) some (tokens, are) = bad place tokens are
refusal_of bytes (Header place) some h = faulty_of bytes (Header place) h
refusal_of bytes (Twice place) some h = faulty_of bytes (Twice place) h
refusal_of bytes (Many place) some h = faulty_of bytes (Many place) h
refusal_of bytes NoMemory some h = absurd (some refl)

same_ok : (a b : EngineTable) → ◌≡◌ {A = Result EngineTable HeaderFault} (Ok a) (Ok b) → a ≡ b
same_ok a b e = cc

same_err : (f g : HeaderFault) → ◌≡◌ {A = Result EngineTable HeaderFault} (Err f) (Err g) → f ≡ g
same_err f g e = cc

ok_err : (a : EngineTable) (f : HeaderFault) → ◌≡◌ {A = Result EngineTable HeaderFault} (Ok a) (Err f) → ⊥
ok_err a f e = cc

table_run : (bytes : List ℕ) (a : EngineTable) (tokens : List Lexeme) → Comes (length bytes) nothing (placed_all tokens) (Ok a)
    → declarations_read (length bytes) nothing stage.Start (placed_all tokens) ≡ Ok a
table_run bytes a tokens h = comes_run (length bytes) nothing (placed_all tokens) (Ok a) h

one_fault : OneSplit → (bytes : List ℕ) (f g : HeaderFault) → Refusal bytes f → Refusal bytes g → f ≡ g
one_fault one bytes f g (bad p ts s) (bad q us t) = ap (λ (z : ℕ). Bad z) (same_Some p q (one bytes 0 0 ts us _ _ s t).1)
one_fault one bytes f g (bad p ts s) (faulty h us t e) = absurd (none-some p (sym (one bytes 0 0 ts us _ _ s t).1))
one_fault one bytes f g (faulty h us t e) (bad p ts s) = absurd (none-some p (one bytes 0 0 us ts _ _ t s).1)
one_fault one bytes f g (faulty h ts s e) (faulty j us t e') =
    same_err f g (sym e ∙ ap (λ (z : List Lexeme). declarations_read (length bytes) nothing stage.Start (placed_all z)) (one bytes 0 0 ts us _ _ s t).0 ∙ e')

one_table : OneSplit → (bytes : List ℕ) (a b : EngineTable) → HasTable bytes a → HasTable bytes b → a ≡ b
one_table one bytes a b (ts, s, x) (us, t, y) =
    same_ok a b (sym (table_run bytes a ts x) ∙ ap (λ (z : List Lexeme). declarations_read (length bytes) nothing stage.Start (placed_all z)) (one bytes 0 0 ts us _ _ s t).0 ∙ table_run bytes b us y)

not_both : OneSplit → (bytes : List ℕ) (a : EngineTable) (f : HeaderFault) → HasTable bytes a → Refusal bytes f → ⊥
not_both one bytes a f (ts, s, x) (bad p us t) = none-some p (one bytes 0 0 ts us _ _ s t).1
not_both one bytes a f (ts, s, x) (faulty g us t e) =
    ok_err a f (sym (table_run bytes a ts x) ∙ ap (λ (z : List Lexeme). declarations_read (length bytes) nothing stage.Start (placed_all z)) (one bytes 0 0 ts us _ _ s t).0 ∙ e)

pub one_header : OneSplit → ((bytes : List ℕ) → (answer : Result EngineTable HeaderFault) × IsAnswer bytes answer) → OneHeader
one_header one some_answer = record {
  one_table = one_table one;
  one_fault = λ bytes f g some other x y. one_fault one bytes f g (refusal_of bytes f some x) (refusal_of bytes g other y);
  some_answer = some_answer;
  not_both = λ bytes a f some x y. not_both one bytes a f x (refusal_of bytes f some y);
}
