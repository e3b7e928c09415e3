-- Code with labels of its own that flows: put together from its parts.
use Rattle.std.proofs.Common.{arith, ◌≡◌, ◌<◌, ◌+◌, ℕ, List, [], ◌∷◌, ◌++◌, length, Option, Some, sym, refl, subst}
use Rattle.std.specs.Prelude.{ℤ}
use Rattle.std.proofs.lemmas.List.{length-append}
use Rattle.nwq_value.specs.Engine.{EngineTable}
use Rattle.ncs_code.specs.Plain.{PlainOp}
use Rattle.ncs_code.specs.Plain as ops
use Rattle.ncs_code.specs.Spelling.{op_size}
use Rattle.ncs_emit.specs.declared.jump.Jump.{Jump}
use Rattle.ncs_emit.specs.declared.jump.Jump.TheVariants.{Jmp, Jsr}
use Rattle.ncs_emit.specs.Labelled.{Line, Instruction, JumpTo, Label, jump_over, lines_size}
use Rattle.stack_shape.specs.declared.store.StoredTypes.{StoredTypes}
use Rattle.stack_shape.specs.Stored.{TopShape, stored_types, stored_shape}
use Rattle.stack_shape.specs.Rule.{rule}
use Rattle.stack_rules.specs.Tables.{Callee}
use Rattle.emission_laws.specs.Spots.{Way, Resumes, Spot, GoesStraight, IsTest, Ends, CallsAt, Flow}
use Rattle.emission_laws.proofs.Walks.{flow_then}

-- labels in a row, from this one on, have these spots
abbrev pub Labelled : (ℕ → Spot) → ℕ → List Spot → Type 0
Labelled spot_of n [] = Unit {0}
Labelled spot_of n (s ∷ ss) = (spot_of n ≡ s) × Labelled spot_of (n + 1) ss

pub labelled_both : (spot_of : ℕ → Spot) (n : ℕ) (xs ys : List Spot) → Labelled spot_of n (xs ++ ys) → Labelled spot_of n xs × Labelled spot_of (n + length xs) ys
labelled_both spot_of n [] ys h = (tt, subst (λ m. Labelled spot_of m ys) (omega arith) h)
labelled_both spot_of n (x ∷ xs) ys h =
    let rest = labelled_both spot_of (n + 1) xs ys h.1 in
    ((h.0, rest.0), subst (λ m. Labelled spot_of m ys) (omega arith) rest.1)

module _ (header : EngineTable) (total : ℕ) (callee_of : ℕ → Option Callee) where
  -- Lines that flow where this holds of the labels' spots, once their own labels, so many from this
  -- one on, have some spots.
  pub record Flows (P : (ℕ → Spot) → Type 0) (n count place : ℕ) (spot out : Option Spot) (lines : List Line) : Type 0 where
    pub spots : List Spot
    pub many : length spots ≡ count
    pub flow : (spot_of : ℕ → Spot) → Labelled spot_of n spots → P spot_of → Flow header total callee_of spot_of place spot lines out

  pub both : {P : (ℕ → Spot) → Type 0} {n k a b c place : ℕ} {spot middle out : Option Spot} {xs ys : List Line}
      → Flows P n a place spot middle xs → Flows P k b (place + lines_size xs) middle out ys → k ≡ n + a → c ≡ a + b → Flows P n c place spot out (xs ++ ys)
  both {P = P} {n = n} {k = k} {a = a} {b = b} {c = c} {place = place} {spot = spot} {middle = middle} {out = out} {xs = xs} {ys = ys} f g is sum = record {
    spots = f.spots ++ g.spots;
    many = omega (arith, length-append f.spots g.spots, f.many, g.many);
    flow = λ spot_of labels holds. (
        let parts = labelled_both spot_of n f.spots g.spots labels in
        let second : Labelled spot_of k g.spots = subst (λ m. Labelled spot_of m g.spots) (omega (arith, f.many)) parts.1 in
        flow_then header total callee_of spot_of place (place + lines_size xs) spot middle out xs ys refl
        (f.flow spot_of parts.0 holds) (g.flow spot_of second holds));
  }

  none_labelled : (spot_of : ℕ → Spot) (n : ℕ) (ss : List Spot) → length ss ≡ 0 → Labelled spot_of n ss
  none_labelled spot_of n [] none = tt
  none_labelled spot_of n (s ∷ ss) none = absurd (omega (arith, none))

  -- a part that has no label of its own
  pub and_line : {P : (ℕ → Spot) → Type 0} {n a place : ℕ} {spot middle out : Option Spot} {xs ys : List Line}
      → Flows P n a place spot middle xs → Flows P n 0 (place + lines_size xs) middle out ys → Flows P n a place spot out (xs ++ ys)
  and_line {n = n} {place = place} {spot = spot} {middle = middle} {out = out} {xs = xs} {ys = ys} f g = record {
    spots = f.spots;
    many = f.many;
    flow = λ spot_of labels holds. flow_then header total callee_of spot_of place (place + lines_size xs) spot middle out xs ys refl
        (f.flow spot_of labels holds) (g.flow spot_of (none_labelled spot_of n g.spots g.many) holds);
  }

  pub line_and : {P : (ℕ → Spot) → Type 0} {n a place : ℕ} {spot middle out : Option Spot} {xs ys : List Line}
      → Flows P n 0 place spot middle xs → Flows P n a (place + lines_size xs) middle out ys → Flows P n a place spot out (xs ++ ys)
  line_and {n = n} {place = place} {spot = spot} {middle = middle} {out = out} {xs = xs} {ys = ys} f g = record {
    spots = g.spots;
    many = g.many;
    flow = λ spot_of labels holds. flow_then header total callee_of spot_of place (place + lines_size xs) spot middle out xs ys refl
        (f.flow spot_of (none_labelled spot_of n f.spots f.many) holds) (g.flow spot_of labels holds);
  }

  module _ {P : (ℕ → Spot) → Type 0} {n place : ℕ} where
    pub nothing : {spot : Option Spot} → Flows P n 0 place spot spot []
    nothing {spot = spot} = record { spots = []; many = refl; flow = λ spot_of labels holds. Flow.ends place spot }

    pub one : {way : Way} {before after : TopShape} (op : PlainOp) → GoesStraight op → rule header op before ≡ Some after
        → Flows P n 0 place (Some (record { way = way; shape = before })) (Some (record { way = way; shape = after })) (Instruction op ∷ [])
    one {way = way} {before = before} {after = after} op on rules = record {
      spots = [];
      many = refl;
      flow = λ spot_of labels holds. Flow.goes place way before after op []
          (Some (record { way = way; shape = after })) on rules
          (Flow.ends (place + op_size op) (Some (record { way = way; shape = after })));
    }

    pub back : {way : Way} {before : TopShape} {next : Option Spot} → Ends header total callee_of way before
        → Flows P n 0 place (Some (record { way = way; shape = before })) next (Instruction ops.Retn ∷ [])
    back {way = way} {before = before} {next = next} e = record {
      spots = [];
      many = refl;
      flow = λ spot_of labels holds. Flow.returns place way before next [] next e (Flow.ends (place + 2) next);
    }

    pub jump : {spot : Spot} {next : Option Spot} (label : ℕ) → ((spot_of : ℕ → Spot) → P spot_of → spot_of label ≡ spot) → label < total
        → Flows P n 0 place (Some spot) next (JumpTo Jmp label ∷ [])
    jump {spot = spot} {next = next} label is lt = record {
      spots = [];
      many = refl;
      flow = λ spot_of labels holds. Flow.jumps place spot next label [] next (is spot_of holds) lt (Flow.ends (place + 6) next);
    }

    pub test : {way : Way} {before after : TopShape} (kind : Jump) (label : ℕ) → IsTest kind → ((offset : ℤ) → rule header (jump_over kind offset) before ≡ Some after)
        → ((spot_of : ℕ → Spot) → P spot_of → spot_of label ≡ record { way = way; shape = after }) → label < total
        → Flows P n 0 place (Some (record { way = way; shape = before })) (Some (record { way = way; shape = after })) (JumpTo kind label ∷ [])
    test {way = way} {before = before} {after = after} kind label t rules is lt = record {
      spots = [];
      many = refl;
      flow = λ spot_of labels holds. Flow.tests place way before after kind label []
          (Some (record { way = way; shape = after })) t rules (is spot_of holds) lt
          (Flow.ends (place + 6) (Some (record { way = way; shape = after })));
    }

    pub call : {way : Way} {before after : TopShape} (label : ℕ) → CallsAt header total callee_of label before after
        → Flows P n 0 place (Some (record { way = way; shape = before })) (Some (record { way = way; shape = after })) (JumpTo Jsr label ∷ [])
    call {way = way} {before = before} {after = after} label c = record {
      spots = [];
      many = refl;
      flow = λ spot_of labels holds. Flow.calls place way before after label [] (Some (record { way = way; shape = after })) c (Flow.ends (place + 6) (Some (record { way = way; shape = after })));
    }

    pub mark : {spot : Spot} (label : ℕ) → ((spot_of : ℕ → Spot) → P spot_of → spot_of label ≡ spot) → Flows P n 0 place (Some spot) (Some spot) (Label label ∷ [])
    mark {spot = spot} label is = record {
      spots = [];
      many = refl;
      flow = λ spot_of labels holds. Flow.marks place spot label [] (Some spot) (is spot_of holds) (Flow.ends (place + 0) (Some spot));
    }

    pub store : {way : Way} {before : TopShape} (globals locals label : ℕ) (types : StoredTypes) → stored_types globals locals before.under before.cells ≡ Some types
        → ((spot_of : ℕ → Spot) → P spot_of → spot_of label ≡ record { way = way; shape = record before { pending = before.pending + 1 } }) → label < total
        → Flows P n 0 place (Some (record { way = way; shape = before })) (Some (record { way = Resumes place; shape = stored_shape types }))
        (Instruction (ops.StoreState globals locals) ∷ JumpTo Jmp label ∷ [])
    store {way = way} {before = before} globals locals label types found is lt = record {
      spots = [];
      many = refl;
      flow = λ spot_of labels holds. Flow.stores place way before globals locals label types [] _ found (is spot_of holds) lt
          (Flow.ends (place + 10 + 6) (Some (record { way = Resumes place; shape = stored_shape types })));
    }

  -- ---- labels of its own

  pub with_label : {P : (ℕ → Spot) → Type 0} {n k a c place : ℕ} {spot out : Option Spot} {lines : List Line} (own : Spot)
      → Flows (λ spot_of. P spot_of × (spot_of n ≡ own)) k a place spot out lines → k ≡ n + 1 → c ≡ 1 + a → Flows P n c place spot out lines
  with_label {n = n} {k = k} own f is sum = record {
    spots = own ∷ f.spots;
    many = omega (arith, f.many);
    flow = λ spot_of labels holds. f.flow spot_of (subst (λ m. Labelled spot_of m f.spots) (sym is) labels.1) (holds, labels.0);
  }

  pub with_two : {P : (ℕ → Spot) → Type 0} {n k a c place : ℕ} {spot out : Option Spot} {lines : List Line} (first second : Spot)
      → Flows (λ spot_of. P spot_of × (spot_of n ≡ first) × (spot_of (n + 1) ≡ second)) k a place spot out lines → k ≡ n + 2 → c ≡ 2 + a
      → Flows P n c place spot out lines
  with_two {n = n} {k = k} first second f is sum = record {
    spots = first ∷ second ∷ f.spots;
    many = omega (arith, f.many);
    flow = λ spot_of labels holds. f.flow spot_of (subst (λ m. Labelled spot_of m f.spots) (omega (arith, is)) labels.1.1) (holds, labels.0, labels.1.0);
  }

  pub with_three : {P : (ℕ → Spot) → Type 0} {n k a c place : ℕ} {spot out : Option Spot} {lines : List Line} (first second third : Spot)
      → Flows (λ spot_of. P spot_of × (spot_of n ≡ first) × (spot_of (n + 1) ≡ second) × (spot_of (n + 2) ≡ third)) k a place spot out lines → k ≡ n + 3 → c ≡ 3 + a
      → Flows P n c place spot out lines
  with_three {n = n} {k = k} first second third f is sum = record {
    spots = first ∷ second ∷ third ∷ f.spots;
    many = omega (arith, f.many);
    flow = λ spot_of labels holds. (
        let two : n + 1 + 1 ≡ n + 2 = omega arith in
        f.flow spot_of (subst (λ m. Labelled spot_of m f.spots) (omega (arith, is)) labels.1.1.1) (holds, labels.0, labels.1.0, subst (λ m. spot_of m ≡ third) two labels.1.1.0));
  }
