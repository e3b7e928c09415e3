-- A unit that is spelled by tokens has one least fault.
use Rattle.std.proofs.Common.{◌≡◌, ◌≤◌, ℕ, List, Option, None, Some, refl, ap, ◌∙◌}
use Rattle.std.proofs.Math.Nat.{le_antisymm}
use Rattle.nwq_value.specs.Engine.{EngineTable}
use Rattle.nss_tree.specs.Source.{SourceTree}
use Rattle.nss_symbols.specs.Symbols.{Symbol}
use Rattle.nss_parser.specs.Sentence.{Parses}
use Rattle.typing_rules.specs.declared.fault.Fault.{Fault}
use Rattle.typing_rules.specs.Nodes.{kept, IsLeast}
use Rattle.typing_rules.specs.Sight.{start}
use Rattle.typing_rules.specs.Verdicts.{entry_verdict, heads, items_faults, unit_faults}
use Rattle.typing_rules.specs.Meaning.{FaultInUnit}
use Rattle.typing_rules.specs.Laws.{FaultsAreListed, LeastIsKept, NoneKeptIsTyped, TypedIsFaultless, VerdictsAreRight}
use Rattle.typing_laws.specs.FaultLaws.{LeastIsTheKept, OneFaultAtEachToken, OneLeastFault}
use Rattle.typing_laws.proofs.Counting.{fault_count, once_is_one, once_with_end}
use Rattle.typing_laws.proofs.Nodes.{within_items}

unit_once : (table : EngineTable) (tokens : List Symbol) (u : SourceTree) → Parses tokens u → (n : ℕ) → fault_count n (unit_faults table u) ≤ 1
unit_once table tokens u p =
    once_with_end tokens u.count (items_faults (heads table u.items) (start table) u.items) (entry_verdict (heads table u.items)) p.count
    (within_items (heads table u.items) (start table) p.items)

pub one_at_each : FaultsAreListed → OneFaultAtEachToken
one_at_each listed table tokens u f g p h k e =
    once_is_one (unit_faults table u) f g (unit_once table tokens u p) ((listed table u f).1 h) ((listed table u g).1 k) e

pub one_least : FaultsAreListed → OneLeastFault
one_least listed table tokens u f g p h k = one_at_each listed table tokens u f g p h.is k.is (le_antisymm (h.least g k.is) (k.least f h.is))

module _ (typed : VerdictsAreRight) (faultless : TypedIsFaultless) (listed : FaultsAreListed) (least : LeastIsKept) (settled : NoneKeptIsTyped) where
  least_kept : (table : EngineTable) (tokens : List Symbol) (u : SourceTree) (f : Fault) → Parses tokens u → IsLeast (FaultInUnit table u) f
      → kept None (unit_faults table u) ≡ Some f
  least_kept table tokens u f p h = by (kept None (unit_faults table u)) refl
    where
      by : (o : Option Fault) → kept None (unit_faults table u) ≡ o → kept None (unit_faults table u) ≡ Some f
      by None e = let t = settled table u e in absurd (faultless table u t.0 f ((typed table u t.0).0 t.1) h.is)
      by (Some g) e = e ∙ ap Some (one_least listed table tokens u g f p (least table u g e) h)

  pub least_is_the_kept : LeastIsTheKept
  least_is_the_kept table tokens u f p = (least table u f, least_kept table tokens u f p)
