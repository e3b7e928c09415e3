-- Each function of a unit stands at its label.
use Rattle.std.proofs.Common.{arith, ◌≡◌, ◌+◌, ℕ, zero, suc, List, [], ◌∷◌, None, Some, sym, subst}
use Rattle.std.specs.Prelude.{slice_get}
use Rattle.nss_tree.specs.Units.{structure, constant, global, function}
use Rattle.ncs_code.specs.Plain.{PlainOp}
use Rattle.ncs_emit.specs.Labelled.{lines_size, place_of_label, program}
use Rattle.ncs_emit.specs.Standing.{LinesStand}
use Rattle.typing_rules.specs.Typed.{TypedItem}
use Rattle.emission_rules.specs.Laws.{CodeStands}
use Rattle.emission_rules.specs.Layout.{Layout, layout_of}
use Rattle.emission_rules.specs.Statements.{all_stmt_labels}
use Rattle.emission_rules.specs.Units.{body_count, has_globals, start_labels, emit_start, emit_function, emit_functions, unit_code}
use Rattle.source_meaning.specs.Scripts.{Function, functions}
use Rattle.source_laws.specs.Placing.{FunctionsStand}
use Rattle.source_laws.proofs.Steps.{both_stand}

-- where a function stands among others
record Stands (ops : List PlainOp) (places : ℕ → ℕ) (l : Layout) (f : ℕ) (fn : Function) : Type 0 where
  label : ℕ
  stands : LinesStand ops places (places f) (emit_function l label f fn.parameters fn.body)

among : (ops : List PlainOp) (places : ℕ → ℕ) (l : Layout) (items : List TypedItem) (place n first : ℕ) → LinesStand ops places place (emit_functions l n first items)
    → (i : ℕ) (fn : Function) → slice_get (functions items) i ≡ Some fn → Stands ops places l (first + i) fn
among ops places l [] place n first lines i fn is = absurd cc
among ops places l (structure m x ls ∷ is) place n first lines i fn found = among ops places l is place n first lines i fn found
among ops places l (constant m t x k ∷ is) place n first lines i fn found = among ops places l is place n first lines i fn found
among ops places l (global m t ds ∷ is) place n first lines i fn found = among ops places l is place n first lines i fn found
among ops places l (function m t x ps None ∷ is) place n first lines i fn found = among ops places l is place n first lines i fn found
among ops places l (function m t x ps (Some body) ∷ is) place n first lines zero fn found =
    let b = both_stand ops places place (emit_function l n first ps body) (emit_functions l (n + all_stmt_labels body) (first + 1) is) lines in
    let one : Function = record { result = t; parameters = ps; body = body } in
    let same : one ≡ fn = cc in
    let here : first ≡ first + 0 = omega arith in
    subst (λ g. Stands ops places l (first + 0) g) same
    (subst (λ k. Stands ops places l k one) here
    (record { label = n; stands = subst (λ z. LinesStand ops places z (emit_function l n first ps body)) (sym b.0.0) b.0 }))
among ops places l (function m t x ps (Some body) ∷ is) place n first lines (suc i) fn found =
    let b = both_stand ops places place (emit_function l n first ps body) (emit_functions l (n + all_stmt_labels body) (first + 1) is) lines in
    let next : first + 1 + i ≡ first + suc i = omega arith in
    subst (λ k. Stands ops places l k fn) next
    (among ops places l is (place + lines_size (emit_function l n first ps body)) (n + all_stmt_labels body) (first + 1) b.1 i fn found)

from_none : (f : ℕ) → 0 + f ≡ f
from_none f = omega arith

pub functions_stand : CodeStands → FunctionsStand
functions_stand stand u f fn found =
    let l = layout_of u in
    let ops = program (unit_code u).lines in
    let places = place_of_label (unit_code u).lines in
    let start = emit_start l (body_count u.items) (has_globals u.items) u.items u.entry in
    let next = body_count u.items + start_labels (has_globals u.items) u.items in
    let b = both_stand ops places 13 start (emit_functions l next 0 u.items) (stand u) in
    let s = among ops places l u.items (13 + lines_size start) next 0 b.1 f fn found in
    let t = subst (λ k. Stands ops places l k fn) (from_none f) s in
    record { label = t.label; stands = t.stands }
