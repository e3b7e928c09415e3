-- The instruction that a byte lies in.
use Rattle.std.proofs.Common.{◌≡◌, ◌∙◌, ◌<◌, ◌≤◌, ap, sym, refl, ℕ, suc, ◌+◌, ◌-◌, Bool, true, false, ltb, cond, ltb-true, ltb-false, List, [], ◌∷◌, ◌++◌, map, length, arith, None, Some}
use Rattle.ncs_code.specs.File.{header_size}
use Rattle.ncs_emit.specs.Labelled.{Line, Instruction, JumpTo, Label, line_size, lines_size}
use Rattle.typing_rules.specs.Typed.{TypedUnit}
use Rattle.emission_rules.specs.Layout.{layout_of}
use Rattle.emission_rules.specs.Units.{unit_code}
use Rattle.code_places.specs.declared.seek.Seek.TheVariants.{Ahead, Found}
use Rattle.code_places.specs.Nodes.{unit_nodes}
use Rattle.code_places.specs.Marks.{Mark, unit_marks}
use Rattle.code_places.specs.Seeking.{node_found, sought}
use Rattle.code_places.specs.Laws.{HasCode, LiesIn, PlacesHold, StandsIn, count, instructions, owner}
use Rattle.code_places.proofs.Owned.{size_of}
use Rattle.code_places.proofs.Seeking.{sought_more, sought_none, still_found}
use Rattle.code_places.proofs.Whole.{owners_hold, unit_marked}

-- A line that so many bytes stand before, from the first line on, and whose owner is this one.
record Held (lines : List Line) (ms : List Mark) (left j : ℕ) : Type 0 where
  before : List Line
  line : Line
  behind : List Line
  whole : lines ≡ before ++ line ∷ behind
  from : lines_size before ≤ left
  to : left < lines_size before + line_size line
  owned : owner ms (count before) ≡ Some j

module _ (line : Line) (leads : (lines : List Line) → instructions (line ∷ lines) ≡ line ∷ instructions lines) (lines : List Line) (m : Mark) (ms : List Mark)
    (size : m.size ≡ line_size line) (left j : ℕ) where
  here : left < m.size → m.node ≡ Some j → Held (line ∷ lines) (m ∷ ms) left j
  here lt is = record {
    before = [];
    line = line;
    behind = lines;
    whole = refl;
    from = omega arith;
    to = omega (arith, lt, size);
    owned = is;
  }

  later : m.size ≤ left → Held lines ms (left - m.size) j → Held (line ∷ lines) (m ∷ ms) left j
  later le r =
      let from = r.from in
      let to = r.to in
      let many : count (line ∷ r.before) ≡ suc (count r.before) = ap length (leads r.before) in
      record {
        before = line ∷ r.before;
        line = r.line;
        behind = r.behind;
        whole = ap (λ xs. line ∷ xs) r.whole;
        from = omega (arith, from, le, size);
        to = omega (arith, to, le, size);
        owned = ap (owner (m ∷ ms)) many ∙ r.owned;
      }

  stepped : ((rest : ℕ) → node_found (sought ms (Ahead rest)) ≡ Some j → Held lines ms rest j)
      → node_found (sought (m ∷ ms) (Ahead left)) ≡ Some j → Held (line ∷ lines) (m ∷ ms) left j
  stepped next h = by (ltb left m.size) refl (sym (ap node_found (sought_more m ms (Ahead left))) ∙ h)
    where
      by : (b : Bool) → ltb left m.size ≡ b → node_found (sought ms (cond b (Found m.node) (Ahead (left - m.size)))) ≡ Some j
          → Held (line ∷ lines) (m ∷ ms) left j
      by true is e = here (ltb-true left m.size is) (sym (ap node_found (still_found ms m.node)) ∙ e)
      by false is e = later (ltb-false left m.size is) (next (left - m.size) e)

labelled : (n : ℕ) (lines : List Line) (ms : List Mark) (left j : ℕ) → Held lines ms left j → Held (Label n ∷ lines) ms left j
labelled n lines ms left j r =
    let from = r.from in
    let to = r.to in
    record {
      before = Label n ∷ r.before;
      line = r.line;
      behind = r.behind;
      whole = ap (λ xs. Label n ∷ xs) r.whole;
      from = omega (arith, from);
      to = omega (arith, to);
      owned = r.owned;
    }

no_mark : (left j : ℕ) → node_found (sought [] (Ahead left)) ≡ Some j → ⊥
no_mark left j h = absurd (none (sym (ap node_found (sought_none (Ahead left))) ∙ h))
  where
    none : None ≡ Some j → ⊥
    none e = absurd cc

pub first_of_two : {A : Type 0} {x y : A} {xs ys : List A} (d : A) → x ∷ xs ≡ y ∷ ys → x ≡ y
first_of_two d e = ap (first d) e
  where
    first : {A : Type 0} → A → List A → A
    first d [] = d
    first d (x ∷ xs) = x

pub others_of_two : {A : Type 0} {x y : A} {xs ys : List A} → x ∷ xs ≡ y ∷ ys → xs ≡ ys
others_of_two e = ap others e
  where
    others : {A : Type 0} → List A → List A
    others [] = []
    others (x ∷ xs) = xs

held : (lines : List Line) (ms : List Mark) (left j : ℕ) → map size_of ms ≡ map line_size (instructions lines)
    → node_found (sought ms (Ahead left)) ≡ Some j → Held lines ms left j
held [] [] left j same h = absurd (no_mark left j h)
held [] (m ∷ ms) left j same h = absurd cc
held (Label n ∷ lines) ms left j same h = labelled n lines ms left j (held lines ms left j same h)
held (Instruction op ∷ lines) [] left j same h = absurd cc
held (Instruction op ∷ lines) (m ∷ ms) left j same h =
    stepped (Instruction op) (λ xs. refl) lines m ms (first_of_two 0 same) left j (λ rest e. held lines ms rest j (others_of_two same) e) h
held (JumpTo kind n ∷ lines) [] left j same h = absurd cc
held (JumpTo kind n ∷ lines) (m ∷ ms) left j same h =
    stepped (JumpTo kind n) (λ xs. refl) lines m ms (first_of_two 0 same) left j (λ rest e. held lines ms rest j (others_of_two same) e) h

abbrev Answer : TypedUnit → ℕ → ℕ → Type 0
Answer u place j = (i : ℕ) × (LiesIn (unit_code u).lines place i × StandsIn (HasCode (layout_of u) (unit_nodes u)) (unit_code u).lines i j)

pub places_hold : PlacesHold
places_hold u place j h = by (ltb place header_size) refl h
  where
    told : header_size ≤ place → Held (unit_code u).lines (unit_marks u) (place - header_size) j → Answer u place j
    told le r =
        let from = r.from in
        let to = r.to in (
          count r.before,
          (
            record {
              before = r.before;
              line = r.line;
              behind = r.behind;
              whole = r.whole;
              number = refl;
              from = omega (arith, from, le);
              to = omega (arith, to, le);
            },
            owners_hold u (count r.before) j r.owned,
          ),
        )

    by : (b : Bool) → ltb place header_size ≡ b → cond b None (node_found (sought (unit_marks u) (Ahead (place - header_size)))) ≡ Some j → Answer u place j
    by true is e = absurd cc
    by false is e = told (ltb-false place header_size is) (held (unit_code u).lines (unit_marks u) (place - header_size) j (unit_marked u).sizes e)
