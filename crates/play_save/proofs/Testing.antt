-- Which rule is the first that is broken.
use Rattle.std.proofs.Common.{◌≡◌, ◌≤◌, ℕ, List, length, refl, sym, ap, ◌∙◌, subst, inl, inr}
use Rattle.nwq_value.specs.Engine.{EngineTable}
use Rattle.nwq_value.specs.Limits.{script_limit}
use Rattle.area_rules.specs.Area.{PlainArea, area_of}
use Rattle.state_format.specs.declared.parts.Script.{Script}
use Rattle.state_format.specs.declared.parts.Parts.{Parts}
use Rattle.play_save.specs.declared.fault.StateFault.{StateFault}
use Rattle.play_save.specs.declared.fault.StateFault.TheVariants as fault
use Rattle.play_save.specs.Rules.{IsUnfit, IsAccepted, IsHeaderOf, HasHeader, HasScripts, HasArea, KeepsLimits, HasAgenda, HasStates, HasTurns}
use Rattle.play_save.specs.Breaking.{Breaks, BreaksFirst, BreaksLast, AreSound, IsReadFrom, IsPreparedFor}
use Rattle.engine_table.specs.Headers.{OneHeader}
use Rattle.play_save.proofs.CapturedLemmas.{one_table}
use Rattle.play_save.specs.declared.prepare.Prepared.{Prepared}

pub breaks_at : (n : ℕ) (s : Parts) (e : StateFault) (Kept : Type 0) → Breaks n Kept e → ((Kept → ⊥) → IsUnfit n s) → BreaksFirst s e
breaks_at n s (fault.Place at) Kept b f = b
breaks_at n s (fault.Unfit m) Kept b f = subst (λ k. IsUnfit k s) (sym b.0) (f b.1)
breaks_at n s fault.NoMemory Kept b f = tt

-- ---- what is prepared keeps the first three rules

pub prepared_header : (s : Parts) (p : Prepared) → IsPreparedFor s p → HasHeader s
prepared_header s p is = (p.table, is.header)

pub prepared_scripts : (s : Parts) (p : Prepared) → IsPreparedFor s p → HasScripts s
prepared_scripts s p is = record { table = p.table; header = is.header; scripts = is.scripts.sound }

pub prepared_area : (s : Parts) (p : Prepared) → IsPreparedFor s p → HasArea s
prepared_area s p is = record { tree = is.area.tree; area = is.area.of; counted = is.area.counted ∙ ap (λ (a : PlainArea). length a.objects) is.area.area }

pub few_of : (s : Parts) → KeepsLimits s → length s.scripts ≤ script_limit
few_of s limits = limits.bounds.scripts

-- ---- the rule that a test broke

pub breaks_limits : (s : Parts) (p : Prepared) (e : StateFault) → IsPreparedFor s p → Breaks 4 (KeepsLimits s) e → BreaksFirst s e
breaks_limits s p e is b = breaks_at 4 s e (KeepsLimits s) b (λ never. (prepared_header s p is, (prepared_scripts s p is, (prepared_area s p is, never))))

pub breaks_agenda : (s : Parts) (p : Prepared) (e : StateFault) → IsPreparedFor s p → KeepsLimits s → Breaks 5 (HasAgenda s) e → BreaksFirst s e
breaks_agenda s p e is limits b = breaks_at 5 s e (HasAgenda s) b (λ never. (prepared_header s p is, (prepared_scripts s p is, (prepared_area s p is, (limits, never)))))

pub breaks_last : (s : Parts) (p : Prepared) (e : StateFault) → IsPreparedFor s p → KeepsLimits s → HasAgenda s → BreaksLast s e → BreaksFirst s e
breaks_last s p (fault.Place at) is limits agenda b = b
breaks_last s p (fault.Unfit n) is limits agenda (inl broken) =
    subst (λ k. IsUnfit k s) (sym broken.0) (prepared_header s p is, (prepared_scripts s p is, (prepared_area s p is, (limits, (agenda, broken.1)))))
breaks_last s p (fault.Unfit n) is limits agenda (inr broken) =
    subst (λ k. IsUnfit k s) (sym broken.0) (prepared_header s p is, (prepared_scripts s p is, (prepared_area s p is, (limits, (agenda, (broken.1.0, broken.1.1))))))
breaks_last s p fault.NoMemory is limits agenda b = tt

pub all_kept : (s : Parts) (p : Prepared) → IsPreparedFor s p → KeepsLimits s → HasAgenda s → HasStates s → HasTurns s → IsAccepted s
all_kept s p is limits agenda states turns =
    (prepared_header s p is, (prepared_scripts s p is, (prepared_area s p is, (limits, (agenda, (states, (turns, tt)))))))

pub last_states : (s : Parts) (e : StateFault) → Breaks 6 (HasStates s) e → BreaksLast s e
last_states s (fault.Place at) b = b
last_states s (fault.Unfit n) b = inl b
last_states s fault.NoMemory b = tt

pub last_turns : (s : Parts) (e : StateFault) → HasStates s → Breaks 7 (HasTurns s) e → BreaksLast s e
last_turns s (fault.Place at) states b = b
last_turns s (fault.Unfit n) states b = inr (b.0, (states, b.1))
last_turns s fault.NoMemory states b = tt

pub breaks_header : (s : Parts) (e : StateFault) → Breaks 1 ((table : EngineTable) × IsHeaderOf s.header table) e → BreaksFirst s e
breaks_header s e b = breaks_at 1 s e ((table : EngineTable) × IsHeaderOf s.header table) b (λ never. never)

pub breaks_scripts : (s : Parts) (table : EngineTable) (e : StateFault) → OneHeader → IsHeaderOf s.header table
    → Breaks 2 (AreSound table s.scripts) e → BreaksFirst s e
breaks_scripts s table e one header b =
    breaks_at 2 s e (AreSound table s.scripts) b
    (λ never. ((table, header), λ has. never (subst (λ t. AreSound t s.scripts) (one_table s.header has.table table one has.header header) has.scripts)))

pub breaks_area : (s : Parts) (table : EngineTable) (parts : List Script) (e : StateFault) (bytes : List ℕ) (objects : ℕ) → IsHeaderOf s.header table
    → parts ≡ s.scripts → AreSound table parts → bytes ≡ s.area → objects ≡ length s.objects
    → Breaks 3 ((area : PlainArea) × IsReadFrom bytes objects area) e → BreaksFirst s e
breaks_area s table parts e bytes objects header listed are own count b =
    let scripts : AreSound table s.scripts = subst (λ (l : List Script). AreSound table l) listed are in
    let broken : Breaks 3 ((area : PlainArea) × IsReadFrom s.area (length s.objects) area) e =
    subst (λ n. Breaks 3 ((area : PlainArea) × IsReadFrom s.area n area) e) count (subst (λ l. Breaks 3 ((area : PlainArea) × IsReadFrom l objects area) e) own b) in
    breaks_at 3 s e ((area : PlainArea) × IsReadFrom s.area (length s.objects) area) broken
    (λ never. (
      (table, header),
      (
        record { table = table; header = header; scripts = scripts },
        λ has. never (area_of has.tree, record { tree = has.tree; of = has.area; area = refl; counted = has.counted }),
      ),
    ))
