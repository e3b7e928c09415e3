-- The script's start, with nothing on the stack.
use Rattle.std.proofs.Common.{◌≡◌, List, [], None, ◌∙◌, ap, refl}
use Rattle.nwq_value.specs.Engine.{EngineTable}
use Rattle.ncs_code.specs.Plain.{PlainOp}
use Rattle.stack_shape.specs.declared.shape.Slot.{Slot}
use Rattle.stack_shape.specs.declared.shape.Shape.{Shape}
use Rattle.stack_shape.specs.declared.shape.Entry.TheVariants.{Start}
use Rattle.stack_shape.specs.Rule.{top_first}
use Rattle.stack_rules.specs.Tables.{empty_shape}
use Rattle.stack_reasons.specs.declared.home.Home.{Home}
use Rattle.stack_reasons.specs.Walks.{IsHome}
use Rattle.stack_reasons.proofs.Walking.{start_home}

abbrev shape_of : (cells under : List Slot) (saved : List (List Slot)) → Shape
shape_of cells under saved = record { cells = cells; under = under; saved = saved; pending = 0 }

none_top : (cells under : List Slot) (saved : List (List Slot)) → cells ≡ [] → under ≡ [] → saved ≡ [] → top_first (shape_of cells under saved) ≡ empty_shape
none_top cells under saved c u s =
    ap (λ c. top_first (shape_of c under saved)) c ∙ ap (λ u. top_first (shape_of [] u saved)) u ∙ ap (λ s. top_first (shape_of [] [] s)) s

pub nothing_home : (header : EngineTable) (code : List PlainOp) (cells under : List Slot) (saved : List (List Slot)) → cells ≡ [] → under ≡ [] → saved ≡ []
    → IsHome header code
    (record { entry = Start; called_at = None; at = 13; first = record { cells = cells; under = under; saved = saved; pending = 0 } })
nothing_home header code cells under saved c u s =
    start_home header code (record { entry = Start; called_at = None; at = 13; first = shape_of cells under saved }) refl refl refl
    (none_top cells under saved c u s)
