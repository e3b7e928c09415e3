-- The scripts of a plan, which a state may have.
use Rattle.std.proofs.lemmas.Cmp.{nat_list_eq_equiv}
use Rattle.std.proofs.Common.{arith, ◌≡◌, ◌<◌, ◌≤◌, ◌^◌, ℕ, Bool, true, false, List, [], ◌∷◌, length, refl, sym, ◌∙◌, subst}
use Rattle.std.specs.Prelude.{IsTrue, ◌||◌}
use Rattle.std.specs.List.{AllByRecursion, IsDistinct}
use Rattle.std.specs.Str.{bytes_eq}
use Rattle.nwq_value.specs.Limits.{script_limit}
use Rattle.nwq_text.specs.Names.{is_script_name}
use Rattle.plan_text.specs.declared.plan.Script.{Script as ScriptLine}
use Rattle.plan_text.specs.declared.plan.Plan.{Plan}
use Rattle.plan_text.specs.Plans.{is_listed, AreListed, IsPlan}
use Rattle.stack_rules.specs.Laws.{AllMeet}
use Rattle.ncs_machine.specs.declared.scripts.Loaded.{Loaded}
use Rattle.ncs_machine.specs.Host.{scripts_of, tables_of}
use Rattle.play_inputs.specs.Listings.{line_names, loaded_names}
use Rattle.play_save.specs.Rules.{IsHeaderOf}
use Rattle.play_save.specs.States.{MayList}
use Rattle.stack_check.specs.Checked.{AllStand}
use Rattle.command_save.specs.declared.inputs.HeaderFile.{HeaderFile}

-- ---- names

neither : (a b : Bool) → (a || b) ≡ false → (a ≡ false) × (b ≡ false)
neither true b e = absurd cc
neither false b e = (refl, e)

none_listed : (name : List ℕ) (lines : List ScriptLine) → is_listed name lines ≡ false
    → AllByRecursion (λ (m : List ℕ). bytes_eq name m ≡ false) (line_names lines)
none_listed name [] e = tt
none_listed name (line ∷ lines) e =
    let both = neither (bytes_eq line.name name) (is_listed name lines) e in
    (nat_list_eq_equiv.symm name line.name ∙ both.0, none_listed name lines both.1)

distinct_lines : (lines : List ScriptLine) → AreListed lines → IsDistinct bytes_eq (line_names lines)
unfolding IsDistinct
distinct_lines [] all = tt
distinct_lines (line ∷ lines) all = (none_listed line.name lines all.1, distinct_lines lines all.2)

named_lines : (lines : List ScriptLine) → AreListed lines → AllByRecursion (λ (name : List ℕ). IsTrue (is_script_name name)) (line_names lines)
named_lines [] all = tt
named_lines (line ∷ lines) all = (all.0, named_lines lines all.2)

named_all : (scripts : List Loaded) → AllByRecursion (λ (name : List ℕ). IsTrue (is_script_name name)) (loaded_names scripts)
    → AllByRecursion (λ (l : Loaded). IsTrue (is_script_name l.name)) scripts
named_all [] all = tt
named_all (l ∷ scripts) all = (all.0, named_all scripts all.1)

-- ---- all of it

pub may_list : (header : HeaderFile) (plan : Plan) (lines : List ScriptLine) (scripts : List Loaded) → IsHeaderOf header.text header.table → IsPlan plan → lines ≡ plan.scripts
    → length scripts ≡ length lines → loaded_names scripts ≡ line_names lines → AllMeet header.table (scripts_of scripts) (tables_of scripts)
    → AllStand header.table (scripts_of scripts) (tables_of scripts) → MayList header.text scripts
may_list header plan lines scripts headed kept same count names meets stand =
    let listed : AreListed lines = subst AreListed (sym same) kept.scripts in
    let few : length lines ≤ script_limit = subst (λ (l : List ScriptLine). length l ≤ script_limit) (sym same) kept.few_scripts in
    record {
      table = header.table;
      headed = headed;
      few = omega (arith, count, few);
      names = named_all scripts (subst (AllByRecursion (λ (name : List ℕ). IsTrue (is_script_name name))) (sym names) (named_lines lines listed));
      distinct = subst (IsDistinct bytes_eq) (sym names) (distinct_lines lines listed);
      meets = meets;
      stand = stand;
    }

pub few_listed : (plan : Plan) (kept : IsPlan plan) (lines : List ScriptLine) (scripts : List Loaded) → lines ≡ plan.scripts → length scripts ≡ length lines
    → length scripts < 2 ^ 32
few_listed plan kept lines scripts same count =
    let few : length lines ≤ script_limit = subst (λ (l : List ScriptLine). length l ≤ script_limit) (sym same) kept.few_scripts in
    omega (arith, few, count)
