-- A state that is captured in a listed script carries the call.
use Rattle.std.proofs.Common.{arith, ◌≡◌, ◌-◌, ℕ, List, [], ◌∷◌, ◌++◌, length, take, drop, reverse, sym, subst, ◌∙◌, ap, refl, append_assoc}
use Rattle.std.proofs.lemmas.List.{length-append, length-reverse, reverse-reverse, take_at, take_all, drop_at}
use Rattle.nwq_value.specs.Engine.{EngineTable}
use Rattle.ncs_code.specs.Plain as ops
use Rattle.ncs_code.specs.File.{resume_place}
use Rattle.ncs_emit.specs.Labelled.{Instruction}
use Rattle.ncs_emit.specs.Standing.{LinesStand}
use Rattle.typing_rules.specs.declared.places.Place.TheVariants.{Local, Global, Const as IsConst}
use Rattle.typing_rules.specs.Typed.{TypedExpr, TypedExprs, TypedUnit, literal, name, call, member, prefix, postfix, binary, assign, no_typed, more_typed}
use Rattle.saved_state.specs.declared.cell.Cell.{Cell}
use Rattle.saved_state.specs.Cells.{cells_beneath}
use Rattle.emission_rules.specs.Expressions.{emit}
use Rattle.machine_rules.specs.Frames.{Frame}
use Rattle.source_meaning.specs.Evaluation.{Variables}
use Rattle.source_meaning.specs.Scripts.{Function, functions}
use Rattle.source_laws.specs.Kept.{AreHeld, Vars}
use Rattle.source_laws.specs.Fine.{IsFine, AreFine}
use Rattle.source_laws.specs.Carries.{unit_site}
use Rattle.source_laws.specs.Laws.{CapturesAreCarried}
use Rattle.source_laws.proofs.Cells.{held_over, stands_over}
use Rattle.source_laws.proofs.Places.{above_globals}

module _ (script : ℕ) (u : TypedUnit) (self : ℕ) (waiting : List Frame) (other : ℕ) (others : List Frame) where
  -- what is fine in a script is so whatever object it runs as, and whatever waits for it
  mutual
    fine_elsewhere : (table : EngineTable) (fs : List Function) (scope : List ℕ) (e : TypedExpr)
        → IsFine table fs (unit_site script u self waiting) scope e
        → IsFine table fs (unit_site script u other others) scope e
    fine_elsewhere table fs scope (literal k) h = h
    fine_elsewhere table fs scope (name t (Local n)) h = h
    fine_elsewhere table fs scope (name t (Global n)) h = h
    fine_elsewhere table fs scope (name t (IsConst k)) h = h
    fine_elsewhere table fs scope (call t f es ks) h = (h.0, all_elsewhere table fs scope es h.1)
    fine_elsewhere table fs scope (member t e before) h = (fine_elsewhere table fs scope e h.0, h.1, h.2)
    fine_elsewhere table fs scope (prefix t o e) h = (fine_elsewhere table fs scope e h.0, h.1, h.2, h.3)
    fine_elsewhere table fs scope (postfix t o e) h = (fine_elsewhere table fs scope e h.0, h.1, h.2, h.3)
    fine_elsewhere table fs scope (binary t o d e) h = (fine_elsewhere table fs scope d h.0, fine_elsewhere table fs scope e h.1, h.2)
    fine_elsewhere table fs scope (assign t o d e) h = (fine_elsewhere table fs scope d h.0, fine_elsewhere table fs scope e h.1, h.2, h.3)

    all_elsewhere : (table : EngineTable) (fs : List Function) (scope : List ℕ) (es : TypedExprs)
        → AreFine table fs (unit_site script u self waiting) scope es
        → AreFine table fs (unit_site script u other others) scope es
    all_elsewhere table fs scope no_typed h = tt
    all_elsewhere table fs scope (more_typed e es) h = (fine_elsewhere table fs scope e h.0, record { made = h.1.made; value = h.1.value }, all_elsewhere table fs scope es h.2)

  -- variables that stand on cells stand there, with other cells on top
  vars_elsewhere : (scope : List ℕ) (cells more : List Cell) (variables : Variables)
      → Vars (unit_site script u self waiting) scope cells variables
      → Vars (unit_site script u other others) scope (more ++ cells) variables
  vars_elsewhere scope cells more variables v = record { value = λ n i. stands_over cells more _ (variables n) (v.value n i); typed = v.typed; apart = v.apart }

pub captures_are_carried : CapturesAreCarried
captures_are_carried s host tables execute script self waiting l same is scope size n depth place e p K temps between fine stands deep held full =
    let x = unit_site script l.unit self waiting in
    let cells = temps ++ (K.frame ++ (between ++ K.under)) in
    let frame = K.frame_size in
    let under = K.under_size in
    let both = length-append temps K.frame in
    let size_is : length (temps ++ K.frame) ≡ depth = omega (arith, both, frame, deep) in
    let top : take depth cells ≡ temps ++ K.frame =
    ap (take depth) (sym (append_assoc temps K.frame (between ++ K.under))) ∙ take_at (temps ++ K.frame) (between ++ K.under) depth size_is in
    let locals_are : reverse (reverse (take depth cells)) ≡ temps ++ K.frame = reverse-reverse (take depth cells) ∙ top in
    let whole = above_globals temps K.frame between K.under in
    let long = ap length whole in
    let parts = length-append (temps ++ (K.frame ++ between)) K.under in
    let beneath : cells_beneath x.bp cells
    ≡ K.under = ap (drop (length cells - x.bp)) whole
    ∙ drop_at (temps ++ (K.frame ++ between)) K.under (length cells - x.bp) (omega (arith, long, parts, under)) in
    let bottom : take x.layout.globals (cells_beneath x.bp cells) ≡ K.under = ap (take x.layout.globals) beneath ∙ take_all x.layout.globals K.under (omega (arith, under, full)) in
    let globals_are : reverse (reverse (take x.layout.globals (cells_beneath x.bp cells))) ≡ K.under = reverse-reverse (take x.layout.globals (cells_beneath x.bp cells)) ∙ bottom in
    let count : length (reverse (take depth cells)) ≡ depth = length-reverse (take depth cells) ∙ ap length top ∙ size_is in
    record {
      script = refl;
      listed = l;
      is = is;
      label = n;
      stands = subst (λ d. LinesStand x.code x.places (resume_place place) (emit x.layout n d e ++ Instruction ops.Retn ∷ [])) (sym count) stands;
      fine = λ other others. fine_elsewhere script l.unit self waiting other others s.table (functions l.unit.items) scope e
          (subst (λ t. IsFine t (functions l.unit.items) x scope e) same fine);
      locals = λ other others. subst (λ t. Vars (unit_site script l.unit other others) scope t p.locals) (sym locals_are)
          (vars_elsewhere script l.unit self waiting other others scope K.frame temps p.locals K.local_values);
      globals = λ other others. subst (λ t. Vars (unit_site script l.unit other others) x.globals t p.globals) (sym globals_are)
          (vars_elsewhere script l.unit self waiting other others x.globals K.under [] p.globals K.global_values);
      size = length-reverse (take x.layout.globals (cells_beneath x.bp cells)) ∙ ap length bottom ∙ under ∙ sym full;
      locals_held = subst AreHeld (sym locals_are) (held_over temps K.frame held K.frame_held);
      globals_held = subst AreHeld (sym globals_are) K.under_held;
    }
