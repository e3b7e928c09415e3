use Rattle.std.proofs.Common.{◌≡◌, ◌∙◌, ◌≤◌, ◌-◌, ap, ap₂, refl, arith, ℕ, Bool, true, false, ltb, ltb-true, cond, List, Some, None}
use Rattle.nss_tree.specs.declared.units.Item.{Item}
use Rattle.nwq_value.specs.declared.value.Ty.{Ty}
use Rattle.nwq_value.specs.declared.engine.Const.{Const}
use Rattle.typing_rules.specs.declared.expressions.Expression.{Expression}
use Rattle.typing_rules.specs.declared.places.Variable.{Variable}
use Rattle.typing_rules.specs.declared.units.Typed.{Typed}
use Rattle.typing_rules.specs.UnitReading.{typed_items, typed_unit}
use Rattle.emission_rules.specs.Layout.{Layout, layout_of}
use Rattle.emission_rules.specs.Units.{has_globals}
use Rattle.code_places.specs.declared.seek.Seek.{Seek}
use Rattle.code_places.specs.declared.seek.Seek.TheVariants.{Ahead}
use Rattle.code_places.specs.Numbers.{Number}
use Rattle.code_places.specs.Marks.{functions_marks, start_marks, unit_marks}
use Rattle.code_places.specs.Seeking.{node_found, sought}
use Rattle.code_places.proofs.Seeking.{parts}
use Rattle.code_places.proofs.units.node_at.Goals as goal

unit_gone : (u : Typed) (l : Layout) (xs : List (Item Expression Const Ty Variable)) (s a b : Seek) → l ≡ layout_of (typed_unit u) → xs ≡ u.items
    → a ≡ sought (start_marks l (has_globals (typed_items xs)) (typed_items xs) u.entry) s → b ≡ sought (functions_marks l (Some 0) (typed_items xs)) a
    → b ≡ sought (unit_marks (typed_unit u)) s
unit_gone u l xs s a b laid items e f =
    parts s (start_marks (layout_of (typed_unit u)) (has_globals (typed_items u.items)) (typed_items u.items) u.entry)
    (functions_marks (layout_of (typed_unit u)) (Some 0) (typed_items u.items))
    (e ∙ ap₂ (λ m ys. sought (start_marks m (has_globals (typed_items ys)) (typed_items ys) u.entry) s) laid items)
    (f ∙ ap₂ (λ m ys. sought (functions_marks m (Some 0) (typed_items ys)) a) laid items)

behind_header : (place : ℕ) (x : Number) → 13 ≤ place → x ≡ cond (ltb place 13) None x
behind_header place x le = on (ltb place 13) refl
  where
    on : (b : Bool) → ltb place 13 ≡ b → x ≡ cond b None x
    on true is = let lt = ltb-true place 13 is in absurd (omega (arith, le, lt))
    on false is = refl

pub returns : goal.returns
returns c = record {
  node =
      c.node_of.ensures
      ∙ (ap node_found (unit_gone c.args.unit.now c.args.layout.now c.as_slice-items.result.now (Ahead (c.args.place - 13)) c.seek_start-seek.result c.seek_functions.result
      c.requires.laid c.as_slice-items.ensures.items c.seek_start-seek.ensures c.seek_functions.ensures)
      ∙ behind_header c.args.place _ c.if-place-lt13.false);
}
