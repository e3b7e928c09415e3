-- The one script that is listed.
use Rattle.std.proofs.Common.{◌≡◌, ℕ, zero, suc, List, [], ◌∷◌, length, Some, subst, sym, ap, ◌∙◌}
use Rattle.std.specs.Prelude.{take}
use Rattle.nwq_value.specs.Engine.{EngineTable}
use Rattle.nwq_value.specs.Limits.{text_limit}
use Rattle.stack_rules.specs.Rules.{MeetsRules}
use Rattle.stack_rules.specs.Laws.{AllMeet}
use Rattle.stack_check.specs.Checked.{CheckedCode, kept_table}
use Rattle.ncs_machine.specs.Host.{scripts_of, tables_of}
use Rattle.ncs_machine.specs.declared.scripts.Loaded.{Loaded}
use Rattle.command_plays.specs.Scripts.{listed}

pub one_listed : (name text : List ℕ) (code : CheckedCode) (scripts : List Loaded) → text ≡ take text_limit name → scripts ≡ record { name = text; code = code } ∷ []
    → scripts_of scripts ≡ listed name code.code
one_listed name text code scripts same is = ap scripts_of is ∙ ap (λ t. record { name = t; code = code.code } ∷ []) same

one_meets : (header : EngineTable) (text : List ℕ) (code : CheckedCode) → MeetsRules header code.code (kept_table code)
    → AllMeet header (scripts_of (record { name = text; code = code } ∷ [])) (tables_of (record { name = text; code = code } ∷ []))
one_meets header text code meets zero script is = subst (λ s. MeetsRules header s.code (kept_table code)) (some_same is) meets
  where
    some_same : {A : Type 0} {x y : A} → Some x ≡ Some y → x ≡ y
    some_same e = cc
one_meets header text code meets (suc n) script is = absurd cc

pub list_meets : (header : EngineTable) (text : List ℕ) (code : CheckedCode) (scripts : List Loaded) → scripts ≡ record { name = text; code = code } ∷ []
    → MeetsRules header code.code (kept_table code) → AllMeet header (scripts_of scripts) (tables_of scripts)
list_meets header text code scripts is meets = subst (λ s. AllMeet header (scripts_of s) (tables_of s)) (sym is) (one_meets header text code meets)

pub list_few : (text : List ℕ) (code : CheckedCode) (scripts : List Loaded) → scripts ≡ record { name = text; code = code } ∷ [] → length scripts ≡ 1
list_few text code scripts is = ap length is

pub ruleset lists = (one_listed, list_meets, list_few)
