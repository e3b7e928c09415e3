-- Steps, from an instruction's act.
use Rattle.std.proofs.Common.{arith, ◌≡◌, ◌≢◌, ◌≤◌, ◌+◌, ◌-◌, ◌++◌, ◌∷◌, ℕ, List, length, take, replicate, Option, Some, None, inl, inr, sym, subst, ap, ◌∙◌, refl}
use Rattle.std.specs.Prelude.{slice_get, IfSome}
use Rattle.std.specs.Option.{option_map, option_and_then}
use Rattle.std.proofs.lemmas.Option.{slice_get-map}
use Rattle.std.proofs.lemmas.Bool.{cases_lt}
use Rattle.std.proofs.lemmas.List.{append-nil, length-append, length-replicate, length-take-le, take_all, take_at}
use Rattle.nwq_value.specs.Limits.{file_limit, text_limit}
use Rattle.nwq_value.specs.declared.value.Value.TheVariants.{Text as TextValue}
use Rattle.nwq_value.specs.Engine.{EngineTable}
use Rattle.ncs_code.specs.Plain.{PlainOp, Const, Text}
use Rattle.ncs_code.specs.Spelling.{op_size}
use Rattle.ncs_code.specs.File.{IsCode, op_at}
use Rattle.ncs_code.specs.Laws.{PlaceLaws}
use Rattle.decoded_code.specs.declared.step.Step.{Step}
use Rattle.decoded_code.specs.Steps.{kept, op_of}
use Rattle.saved_state.specs.declared.cell.Cell.TheVariants.{Value as Holds}
use Rattle.saved_state.specs.declared.saved.Saved.{Saved}
use Rattle.machine_rules.specs.Frames.{Frame}
use Rattle.machine_rules.specs.Act.{Act, Moves, Divides, act, cells_after}
use Rattle.machine_rules.specs.Machine.{Script, Host, State, Next, Goes, Divided, followed, next_op, step}
use Rattle.world_rules.specs.World.{World}
use Rattle.ncs_machine.specs.declared.scripts.Loaded.{Loaded}
use Rattle.ncs_machine.specs.Host.{EngineView, host, script_of, scripts_of}
use Rattle.ncs_machine.specs.Steps.{Frames, GoesWell, IsHalfway, Untouched, state, world_behind}

some_act : (o : Option Act) (a : Act) (P : Act → Type 0) → o ≡ Some a → P a → IfSome o P
some_act o a P e p = subst (λ o. IfSome o P) (sym e) p

-- the running frame moves on
pub act_moves : (h : Host (World Saved)) (m : Frames) (w : World Saved) (o : Option Act) (f : Frame) → o ≡ Some (Moves f)
    → IfSome o (λ a. followed h (state m w) a ≡ Goes (state (record m { running = f }) w))
act_moves h m w o f e = some_act o (Moves f) (λ a. followed h (state m w) a ≡ Goes (state (record m { running = f }) w)) e refl

-- a divisor is 0
pub act_divides : (h : Host (World Saved)) (m : Frames) (w : World Saved) (o : Option Act) → o ≡ Some Divides
    → IfSome o (λ a. followed h (state m w) a ≡ Divided)
act_divides h m w o e = some_act o Divides (λ a. followed h (state m w) a ≡ Divided) e refl

-- nothing was done to the world
pub untouched : (w behind : World Saved) → IsHalfway w behind w
untouched w behind = Untouched refl

pub ruleset act_lemmas = (act_moves, act_divides, untouched)

-- ---- the instruction at the frame's place

op_is : (scripts : List Loaded) (f : Frame) (l : Loaded) → slice_get scripts f.script ≡ Some l → next_op (scripts_of scripts) f ≡ op_at l.code.code f.place
op_is scripts f l e = ap (option_and_then (λ (script : Script). op_at script.code f.place)) (slice_get-map script_of scripts f.script ∙ ap (option_map script_of) e)

step_at : (scripts : List Loaded) (e : EngineView) (s : State (World Saved)) (o : Option PlainOp) → next_op (scripts_of scripts) s.running ≡ o
    → step (host (scripts_of scripts) e) s ≡ option_and_then (λ op. option_map (followed (host (scripts_of scripts) e) s) (act e.table op s.running)) o
unfolding step host
step_at scripts e s o h = ap (option_and_then (λ op. option_map (followed (host (scripts_of scripts) e) s) (act e.table op s.running))) h

not_well : {n : Option (Next (World Saved))} → n ≡ None → GoesWell n → ⊥
not_well e w = subst GoesWell e w

pub not_listed : (scripts : List Loaded) (e : EngineView) (m : Frames) (w : World Saved) → slice_get scripts m.running.script ≡ None
    → GoesWell (step (host (scripts_of scripts) e) (state m w)) → ⊥
not_listed scripts e m w h well = not_well (step_at scripts e (state m w) None none) well
  where
    none : next_op (scripts_of scripts) m.running ≡ None
    none = ap (option_and_then (λ (script : Script). op_at script.code m.running.place)) (slice_get-map script_of scripts m.running.script ∙ ap (option_map script_of) h)

pub no_instruction : (scripts : List Loaded) (e : EngineView) (m : Frames) (w : World Saved) (l : Loaded) → slice_get scripts m.running.script ≡ Some l → op_at l.code.code m.running.place ≡ None
    → GoesWell (step (host (scripts_of scripts) e) (state m w)) → ⊥
no_instruction scripts e m w l h none well = not_well (step_at scripts e (state m w) None (op_is scripts m.running l h ∙ none)) well

pub act_step : (scripts : List Loaded) (e : EngineView) (m : Frames) (w : World Saved) (l : Loaded) (op : PlainOp) → slice_get scripts m.running.script ≡ Some l
    → op_at l.code.code m.running.place ≡ Some op
    → step (host (scripts_of scripts) e) (state m w) ≡ option_map (followed (host (scripts_of scripts) e) (state m w)) (act e.table op m.running)
act_step scripts e m w l op h stands = step_at scripts e (state m w) (Some op) (op_is scripts m.running l h ∙ stands)

pub act_case : (scripts : List Loaded) (e : EngineView) (m : Frames) (w : World Saved) (l : Loaded) (op : PlainOp) → slice_get scripts m.running.script ≡ Some l
    → op_at l.code.code m.running.place ≡ Some op → GoesWell (step (host (scripts_of scripts) e) (state m w)) → act e.table op m.running ≢ None
act_case scripts e m w l op h stands well none =
    not_well (act_step scripts e m w l op h stands ∙ ap (option_map (followed (host (scripts_of scripts) e) (state m w))) none) well

pub act_deep : (scripts : List Loaded) (e : EngineView) (m : Frames) (w : World Saved) (l : Loaded) (op : PlainOp) (f : Frame) → slice_get scripts m.running.script ≡ Some l
    → op_at l.code.code m.running.place ≡ Some op → GoesWell (step (host (scripts_of scripts) e) (state m w)) → act e.table op m.running ≡ Some (Moves f)
    → f.stack.bp ≤ length f.stack.cells
act_deep scripts e m w l op f h stands well moves =
    subst GoesWell (act_step scripts e m w l op h stands ∙ ap (option_map (followed (host (scripts_of scripts) e) (state m w))) moves) well

pub act_small : (laws : PlaceLaws) (code : List PlainOp) (at size : ℕ) (op : PlainOp) → IsCode code → op_at code at ≡ Some op → size ≡ op_size op → at + size ≤ file_limit
act_small laws code at size op c stands e =
    let l = (laws.lies code at op stands).1 in
    let b = c.bounded in
    omega arith

from_some : {A : Type 0} (o : Option A) (P : A → Type 0) → o ≢ None → IfSome o P → (a : A) × (o ≡ Some a) × P a
from_some None P h p = absurd (h refl)
from_some (Some a) P h p = (a, refl, p)

pub act_next : (scripts : List Loaded) (e : EngineView) (m : Frames) (w : World Saved) (l : Loaded) (op : PlainOp) (n : Next (World Saved)) → slice_get scripts m.running.script ≡ Some l
    → op_at l.code.code m.running.place ≡ Some op → GoesWell (step (host (scripts_of scripts) e) (state m w))
    → IfSome (act e.table op m.running) (λ a. followed (host (scripts_of scripts) e) (state m w) a ≡ n)
    → step (host (scripts_of scripts) e) (state m w) ≡ Some n
act_next scripts e m w l op n h stands well is =
    let a = from_some (act e.table op m.running) (λ a. followed (host (scripts_of scripts) e) (state m w) a ≡ n) (act_case scripts e m w l op h stands well) is in
    act_step scripts e m w l op h stands ∙ ap (option_map (followed (host (scripts_of scripts) e) (state m w))) a.1 ∙ ap Some a.2

-- ---- the decoded instruction

padded_length : (bytes : List ℕ) → length (take text_limit bytes ++ replicate (length bytes - text_limit) 0) ≡ length bytes
padded_length bytes =
    let joined : length (take text_limit bytes ++ replicate (length bytes - text_limit) 0) ≡ length (take text_limit bytes) + (length bytes - text_limit)
    = length-append (take text_limit bytes) (replicate (length bytes - text_limit) 0)
    ∙ ap (λ (n : ℕ). length (take text_limit bytes) + n) (length-replicate (length bytes - text_limit) 0) in
    elim (cases_lt (length bytes) text_limit) [
      | inl short ↦
          let all = ap length (take_all text_limit bytes (omega (arith, short))) in
          omega (arith, joined, all, short)
      | inr long ↦
          let full = length-take-le text_limit bytes long in
          omega (arith, joined, full, long)
    ]

padded_text : (bytes : List ℕ) → take text_limit (take text_limit bytes ++ replicate (length bytes - text_limit) 0) ≡ take text_limit bytes
padded_text bytes = elim (cases_lt (length bytes) text_limit) [
  | inl short ↦
      let none : length bytes - text_limit ≡ 0 = omega (arith, short) in
      let all = take_all text_limit bytes (omega (arith, short)) in
      ap (λ (n : ℕ). take text_limit (take text_limit bytes ++ replicate n 0)) none
      ∙ ap (take text_limit) (append-nil (take text_limit bytes) ∙ all)
  | inr long ↦ take_at (take text_limit bytes) (replicate (length bytes - text_limit) 0) text_limit (length-take-le text_limit bytes long)
]

-- the bytes that no text has change nothing
act_kept : (table : EngineTable) (op : PlainOp) (f : Frame) → act table (kept op) f ≡ act table op f
unfolding act cells_after
act_kept table (Const (Text bytes)) f =
    ap (λ (n : ℕ). Some (Moves (record f {
      place = f.place + (2 + (2 + n));
      stack = record f.stack {
        cells = Holds (TextValue (take text_limit (take text_limit bytes ++ replicate (length bytes - text_limit) 0))) ∷ f.stack.cells;
      };
    })))
    (padded_length bytes)
    ∙ ap (λ (t : List ℕ). Some (Moves (record f { place = f.place + (2 + (2 + length bytes)); stack = record f.stack { cells = Holds (TextValue t) ∷ f.stack.cells } })))
    (padded_text bytes)
act_kept table op f = refl

size_kept : (op : PlainOp) → op_size (kept op) ≡ op_size op
size_kept (Const (Text bytes)) = ap (λ (n : ℕ). 2 + (2 + n)) (padded_length bytes)
size_kept op = refl

-- the instruction at a place, decoded
pub record IsNext (l : Loaded) (at : ℕ) (step : Step) : Type 0 where
  pub op : PlainOp
  pub stands : op_at l.code.code at ≡ Some op
  pub is : op_of step ≡ kept op

pub next_is : (l : Loaded) (at : ℕ) (step : Step) → op_at l.code.code at ≢ None → IfSome (op_at l.code.code at) (λ op. op_of step ≡ kept op) → IsNext l at step
next_is l at step some there =
    let found = from_some (op_at l.code.code at) (λ op. op_of step ≡ kept op) some there in
    record { op = found.0; stands = found.1; is = found.2 }

same_act : (table : EngineTable) (l : Loaded) (at : ℕ) (step : Step) (f : Frame) (next : IsNext l at step) → act table (op_of step) f ≡ act table next.op f
same_act table l at step f next = ap (λ (op : PlainOp). act table op f) next.is ∙ act_kept table next.op f

pub begins_here : (scripts : List Loaded) (e : EngineView) (m : Frames) (w : World Saved) (l : Loaded) → slice_get scripts m.running.script ≡ Some l
    → GoesWell (step (host (scripts_of scripts) e) (state m w)) → op_at l.code.code m.running.place ≢ None
begins_here scripts e m w l h well none = no_instruction scripts e m w l h none well

pub decoded_case : (scripts : List Loaded) (e : EngineView) (m : Frames) (w : World Saved) (l : Loaded) (decoded : Step) → slice_get scripts m.running.script ≡ Some l
    → IsNext l m.running.place decoded → GoesWell (step (host (scripts_of scripts) e) (state m w)) → act e.table (op_of decoded) m.running ≢ None
decoded_case scripts e m w l decoded h next well none =
    act_case scripts e m w l next.op h next.stands well (sym (same_act e.table l m.running.place decoded m.running next) ∙ none)

pub decoded_deep : (scripts : List Loaded) (e : EngineView) (m : Frames) (w : World Saved) (l : Loaded) (decoded : Step) (f : Frame) → slice_get scripts m.running.script ≡ Some l
    → IsNext l m.running.place decoded → GoesWell (step (host (scripts_of scripts) e) (state m w)) → act e.table (op_of decoded) m.running ≡ Some (Moves f)
    → f.stack.bp ≤ length f.stack.cells
decoded_deep scripts e m w l decoded f h next well moves =
    act_deep scripts e m w l next.op f h next.stands well (sym (same_act e.table l m.running.place decoded m.running next) ∙ moves)

pub decoded_small : (laws : PlaceLaws) (l : Loaded) (at : ℕ) (decoded : Step) → IsCode l.code.code → IsNext l at decoded → at + op_size (op_of decoded) ≤ file_limit
decoded_small laws l at decoded c next =
    act_small laws l.code.code at (op_size (op_of decoded)) next.op c next.stands (ap op_size next.is ∙ size_kept next.op)

pub decoded_next : (scripts : List Loaded) (e : EngineView) (m : Frames) (w : World Saved) (l : Loaded) (decoded : Step) (n : Next (World Saved)) → slice_get scripts m.running.script ≡ Some l
    → IsNext l m.running.place decoded → GoesWell (step (host (scripts_of scripts) e) (state m w))
    → IfSome (act e.table (op_of decoded) m.running) (λ a. followed (host (scripts_of scripts) e) (state m w) a ≡ n)
    → step (host (scripts_of scripts) e) (state m w) ≡ Some n
decoded_next scripts e m w l decoded n h next well is =
    act_next scripts e m w l next.op n h next.stands well
    (subst (λ (o : Option Act). IfSome o (λ a. followed (host (scripts_of scripts) e) (state m w) a ≡ n)) (same_act e.table l m.running.place decoded m.running next) is)

-- what is left of a step that was cut short, from what is left of its act
pub decoded_cut : (scripts : List Loaded) (e : EngineView) (m : Frames) (w v : World Saved) (l : Loaded) (decoded : Step) → slice_get scripts m.running.script ≡ Some l
    → IsNext l m.running.place decoded
    → IsHalfway w (world_behind (option_map (followed (host (scripts_of scripts) e) (state m w)) (act e.table (op_of decoded) m.running)) w) v
    → IsHalfway w (world_behind (step (host (scripts_of scripts) e) (state m w)) w) v
decoded_cut scripts e m w v l decoded h next half =
    subst (λ o. IsHalfway w (world_behind o w) v)
    (sym (act_step scripts e m w l next.op h next.stands ∙ ap (option_map (followed (host (scripts_of scripts) e) (state m w))) (sym (same_act e.table l m.running.place decoded m.running next))))
    half

pub is_listed : (scripts : List Loaded) (e : EngineView) (m : Frames) (w : World Saved) → GoesWell (step (host (scripts_of scripts) e) (state m w)) → slice_get scripts m.running.script ≢ None
is_listed scripts e m w well none = not_listed scripts e m w none well
