-- Scripts are listed one after the other: what is left, from here, does what the whole does from
-- the start.
use Rattle.std.proofs.Common.{◌≡◌, ◌<◌, ◌≤◌, ◌+◌, ℕ, zero, suc, Bool, inl, inr, List, [], ◌∷◌, ◌++◌, length, get_or, drop, take, Some, Result, Ok, Err, IsTrue, refl, sym, ap, ◌∙◌, subst, arith}
use Rattle.std.proofs.Math.Seq.{drop-cons}
use Rattle.std.proofs.lemmas.List.{drop_all, map_push, length-append, take_more}
use Rattle.nwq_value.specs.Engine.{EngineTable}
use Rattle.nwq_outside.specs.Outside.{Contents}
use Rattle.plan_text.specs.declared.plan.Script.{Script as ScriptLine}
use Rattle.nwq_text.specs.Names.{is_script_name}
use Rattle.plan_text.specs.Plans.{AreListed}
use Rattle.machine_rules.specs.Machine.{Script}
use Rattle.stack_rules.specs.Tables.{ShapeTable}
use Rattle.stack_rules.specs.Rules.{MeetsRules}
use Rattle.stack_rules.specs.Laws.{AllMeet}
use Rattle.stack_check.specs.Checked.{StoredStand, AllStand, kept_table}
use Rattle.ncs_machine.specs.Host.{script_of, scripts_of, tables_of}
use Rattle.ncs_machine.specs.declared.scripts.Loaded.{Loaded}
use Rattle.command_work.specs.declared.status.Status.{Status}
use Rattle.command_work.specs.declared.status.Status.TheVariants.{Memory}
use Rattle.command_work.specs.Work.{Does}
use Rattle.command_work.specs.Counts.{KeepsBut}
use Rattle.command_work.specs.KeepsLemmas.{keeps_fewer, keeps_then}
use Rattle.command_work.specs.Parts.{then_ok, then_err}
use Rattle.command_work.specs.Sequences.{unmade}
use Rattle.play_inputs.specs.Listings.{code_by, playable, script_in, lists_on, IsOwnFile, IsSourceFile, line_names, loaded_names}

-- ---- the work

-- memory may be wanted for a script until it is listed
script_unmade : (header : EngineTable) (line : ScriptLine) (script : Script) (c c1 : Contents) (t t1 : List ℕ) → Does (script_in header line) c t (Ok script) c1 t1
    → Does (script_in header line) c t (Err Memory) c1 t1
unfolding script_in
script_unmade header line script c c1 t t1 does = unmade (code_by line.binary header line.name) (playable line) script Memory c c1 t t1 tt does

pub record SoFar (files_tell sink_tells : Bool) (header : EngineTable) (lines : List ScriptLine) (i : ℕ) (first scripts : List Script) (c0 c : Contents) (t0 t : List ℕ) : Type 0 where
  pub by : IsTrue files_tell → IsTrue sink_tells → (r : Result (List Script) Status) (c' : Contents) (t' : List ℕ)
      → Does (lists_on header scripts (drop i lines)) c t r c' t' → Does (lists_on header first lines) c0 t0 r c' t'

drop_here : (lines : List ScriptLine) (i : ℕ) (line d : ScriptLine) → i < length lines → line ≡ get_or lines i d → drop i lines ≡ line ∷ drop (i + 1) lines
drop_here lines i line d lt is =
    let next : suc i ≡ i + 1 = omega arith in
    drop-cons lines i d lt ∙ (ap (λ (y : ScriptLine). y ∷ drop (suc i) lines) (sym is) ∙ ap (λ (k : ℕ). line ∷ drop k lines) next)

module _ (files_tell sink_tells : Bool) (header : EngineTable) (lines : List ScriptLine) (first : List Script) (c0 : Contents) (t0 : List ℕ) where
  pub begins : SoFar files_tell sink_tells header lines 0 first first c0 c0 t0 t0
  begins = record { by = λ files sink r c' t' does. does }

  -- the work that is left, one script further
  further : (i : ℕ) (line d : ScriptLine) (scripts : List Script) (c : Contents) (t : List ℕ) (r : Result (List Script) Status) (c' : Contents) (t' : List ℕ)
      → i < length lines → line ≡ get_or lines i d → Does (lists_on header scripts (line ∷ drop (i + 1) lines)) c t r c' t'
      → Does (lists_on header scripts (drop i lines)) c t r c' t'
  further i line d scripts c t r c' t' lt is does = subst (λ ls. Does (lists_on header scripts ls) c t r c' t') (sym (drop_here lines i line d lt is)) does

  pub goes_on : (i : ℕ) (line d : ScriptLine) (script : Script) (scripts : List Script) (c c1 : Contents) (t t1 : List ℕ)
      → SoFar files_tell sink_tells header lines i first scripts c0 c t0 t → i < length lines → line ≡ get_or lines i d
      → (IsTrue files_tell → IsTrue sink_tells → Does (script_in header line) c t (Ok script) c1 t1)
      → SoFar files_tell sink_tells header lines (i + 1) first (scripts ++ script ∷ []) c0 c1 t0 t1
  unfolding lists_on
  goes_on i line d script scripts c c1 t t1 so lt is does = record {
    by = λ files sink r c' t' goes. so.by files sink r c' t'
        (further i line d scripts c t r c' t' lt is
        (then_ok (script_in header line) (λ s. lists_on header (scripts ++ s ∷ []) (drop (i + 1) lines)) script c c1 c' t t1 t' r (does files sink) goes));
  }

  pub stops : (i : ℕ) (line d : ScriptLine) (e : Status) (scripts : List Script) (c c1 : Contents) (t t1 : List ℕ)
      → SoFar files_tell sink_tells header lines i first scripts c0 c t0 t → i < length lines → line ≡ get_or lines i d → IsTrue files_tell → IsTrue sink_tells
      → Does (script_in header line) c t (Err e) c1 t1 → Does (lists_on header first lines) c0 t0 (Err e) c1 t1
  unfolding lists_on
  stops i line d e scripts c c1 t t1 so lt is files sink does = so.by files sink (Err e) c1 t1
      (further i line d scripts c t (Err e) c1 t1 lt is
      (then_err (script_in header line) (λ s. lists_on header (scripts ++ s ∷ []) (drop (i + 1) lines)) e c c1 t t1 does))

  -- memory is wanted for one script more
  pub cut_on : (i : ℕ) (line d : ScriptLine) (script : Script) (scripts : List Script) (c c1 : Contents) (t t1 : List ℕ)
      → SoFar files_tell sink_tells header lines i first scripts c0 c t0 t → i < length lines → line ≡ get_or lines i d → IsTrue files_tell → IsTrue sink_tells
      → Does (script_in header line) c t (Ok script) c1 t1 → Does (lists_on header first lines) c0 t0 (Err Memory) c1 t1
  cut_on i line d script scripts c c1 t t1 so lt is files sink does =
      stops i line d Memory scripts c c1 t t1 so lt is files sink (script_unmade header line script c c1 t t1 does)

  pub is_done : (i : ℕ) (scripts : List Script) (c : Contents) (t : List ℕ) → SoFar files_tell sink_tells header lines i first scripts c0 c t0 t
      → length lines ≤ i → IsTrue files_tell → IsTrue sink_tells → Does (lists_on header first lines) c0 t0 (Ok scripts) c t
  unfolding lists_on
  is_done i scripts c t so over files sink =
      let none : drop i lines ≡ [] = drop_all i lines over in
      so.by files sink (Ok scripts) c t (subst (λ ls. Does (lists_on header scripts ls) c t (Ok scripts) c t) (sym none) (refl, (refl, refl)))

-- no script is listed yet
pub begins_none : (files_tell sink_tells : Bool) (header : EngineTable) (lines : List ScriptLine) (c0 : Contents) (t0 : List ℕ) (scripts : List Loaded) → scripts ≡ []
    → SoFar files_tell sink_tells header lines 0 [] (scripts_of scripts) c0 c0 t0 t0
begins_none files_tell sink_tells header lines c0 t0 scripts none =
    subst (λ (ss : List Loaded). SoFar files_tell sink_tells header lines 0 [] (scripts_of ss) c0 c0 t0 t0) (sym none) (begins files_tell sink_tells header lines [] c0 t0)

-- ---- the list

pub scripts_more : (loaded : List Loaded) (x : Loaded) → scripts_of (loaded ++ x ∷ []) ≡ scripts_of loaded ++ script_of x ∷ []
scripts_more loaded x = map_push script_of loaded x

some_same : {A : Type 0} {x y : A} → Some x ≡ Some y → x ≡ y
some_same e = cc

pub meets_more : (header : EngineTable) (loaded : List Loaded) (x : Loaded) → AllMeet header (scripts_of loaded) (tables_of loaded)
    → MeetsRules header x.code.code (kept_table x.code) → AllMeet header (scripts_of (loaded ++ x ∷ [])) (tables_of (loaded ++ x ∷ []))
meets_more header [] x all one zero script is = subst (λ s. MeetsRules header s.code (kept_table x.code)) (some_same is) one
meets_more header [] x all one (suc n) script is = absurd cc
meets_more header (y ∷ loaded) x all one zero script is = all zero script is
meets_more header (y ∷ loaded) x all one (suc n) script is = meets_more header loaded x (λ m s e. all (suc m) s e) one n script is

pub stands_more : (header : EngineTable) (loaded : List Loaded) (x : Loaded) → AllStand header (scripts_of loaded) (tables_of loaded)
    → ((other : ShapeTable) → MeetsRules header x.code.code other → StoredStand (kept_table x.code) other)
    → AllStand header (scripts_of (loaded ++ x ∷ [])) (tables_of (loaded ++ x ∷ []))
stands_more header [] x all one zero script other is meets = one other (subst (λ s. MeetsRules header s.code other) (sym (some_same is)) meets)
stands_more header [] x all one (suc n) script other is meets = absurd cc
stands_more header (y ∷ loaded) x all one zero script other is meets = all zero script other is meets
stands_more header (y ∷ loaded) x all one (suc n) script other is meets =
    stands_more header loaded x (λ m s o e. all (suc m) s o e) one n script other is meets

-- the same by how the list is now
module _ (loaded now : List Loaded) (x : Loaded) (is : now ≡ loaded ++ x ∷ []) where
  pub meets_on : (header : EngineTable) → AllMeet header (scripts_of loaded) (tables_of loaded) → MeetsRules header x.code.code (kept_table x.code)
      → AllMeet header (scripts_of now) (tables_of now)
  meets_on header all one = subst (λ l. AllMeet header (scripts_of l) (tables_of l)) (sym is) (meets_more header loaded x all one)

  pub stands_on : (header : EngineTable) → AllStand header (scripts_of loaded) (tables_of loaded)
      → ((other : ShapeTable) → MeetsRules header x.code.code other → StoredStand (kept_table x.code) other)
      → AllStand header (scripts_of now) (tables_of now)
  stands_on header all one = subst (λ l. AllStand header (scripts_of l) (tables_of l)) (sym is) (stands_more header loaded x all one)

  -- the names go on with that of the next line
  pub names_on : (lines : List ScriptLine) (i : ℕ) (line d : ScriptLine) → i < length lines → line ≡ get_or lines i d → x.name ≡ line.name
      → loaded_names loaded ≡ line_names (take i lines) → loaded_names now ≡ line_names (take (i + 1) lines)
  names_on lines i line d lt at same so =
      let more : line_names (take (i + 1) lines) ≡ line_names (take i lines) ++ line.name ∷ [] =
      ap line_names (take_more lines i d lt) ∙ (map_push (λ (l : ScriptLine). l.name) (take i lines) (get_or lines i d)
      ∙ ap (λ (l : ScriptLine). line_names (take i lines) ++ l.name ∷ []) (sym at)) in
      ap loaded_names is ∙ (map_push (λ (l : Loaded). l.name) loaded x
      ∙ (ap (λ n. loaded_names loaded ++ n ∷ []) same ∙ (ap (λ ns. ns ++ line.name ∷ []) so ∙ sym more)))

  pub scripts_on : scripts_of now ≡ scripts_of loaded ++ script_of x ∷ []
  scripts_on = ap scripts_of is ∙ scripts_more loaded x

  pub count_on : (i : ℕ) → length loaded ≡ i → length now ≡ i + 1
  count_on i count = omega (arith, ap length is, length-append loaded (x ∷ []), count)

pub none_meet : (header : EngineTable) → AllMeet header [] (tables_of [])
none_meet header n script is = absurd cc

pub none_stand : (header : EngineTable) → AllStand header [] (tables_of [])
none_stand header n script other is meets = absurd cc

-- ---- names

pub own_file : (lines : List ScriptLine) (i : ℕ) (line d : ScriptLine) (name : List ℕ) → i < length lines → line ≡ get_or lines i d → IsOwnFile line name
    → IsSourceFile lines name
own_file [] i line d name lt is own = absurd (omega (arith, lt))
own_file (l ∷ lines) zero line d name lt is own = inl (subst (λ x. IsOwnFile x name) is own)
own_file (l ∷ lines) (suc i) line d name lt is own = inr (own_file lines i line d name (omega (arith, lt)) is own)

pub keeps_on : (lines : List ScriptLine) (i : ℕ) (line d : ScriptLine) (c0 c c1 : Contents) → i < length lines → line ≡ get_or lines i d
    → KeepsBut (IsSourceFile lines) c0 c → KeepsBut (IsOwnFile line) c c1 → KeepsBut (IsSourceFile lines) c0 c1
keeps_on lines i line d c0 c c1 lt is before now =
    keeps_then (IsSourceFile lines) c0 c c1 before (keeps_fewer (IsOwnFile line) (IsSourceFile lines) c c1 (λ name. own_file lines i line d name lt is) now)

-- each line names a script
pub named_at : (lines : List ScriptLine) (i : ℕ) (line d : ScriptLine) → AreListed lines → i < length lines → line ≡ get_or lines i d → IsTrue (is_script_name line.name)
named_at [] i line d all lt is = absurd (omega (arith, lt))
named_at (l ∷ lines) zero line d all lt is = subst (λ (x : ScriptLine). IsTrue (is_script_name x.name)) (sym is) all.0
named_at (l ∷ lines) (suc i) line d all lt is = named_at lines i line d all.2 (omega (arith, lt)) is
