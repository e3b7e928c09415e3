-- The function that a byte lies in.
use Rattle.std.proofs.Common.{◌≡◌, ◌∙◌, ◌<◌, ◌≤◌, ap, sym, refl, ℕ, zero, suc, ◌+◌, ◌-◌, Bool, true, false, ltb, cond, ltb-true, ltb-false, List, [], ◌∷◌, ◌++◌, map, length, drop, slice_get}
use Rattle.std.proofs.Common.{arith, subst, None, Some, ◌⊎◌, inl, inr, append_assoc}
use Rattle.std.proofs.lemmas.List.{append-nil}
use Rattle.std.proofs.lemmas.Option.{same_Some}
use Rattle.nss_tree.specs.Units.{structure, constant, global, function}
use Rattle.nwq_value.specs.declared.value.Ty.{Ty}
use Rattle.ncs_code.specs.File.{header_size}
use Rattle.ncs_emit.specs.Labelled.{Line, Instruction, JumpTo, Label, line_size, lines_size}
use Rattle.typing_rules.specs.Typed.{TypedItem, TypedParameter, TypedStmts, TypedUnit}
use Rattle.emission_rules.specs.Layout.{Layout, layout_of}
use Rattle.emission_rules.specs.Statements.{all_stmt_labels}
use Rattle.emission_rules.specs.Units.{body_count, emit_function, emit_functions, emit_start, has_globals, start_labels, unit_code}
use Rattle.code_places.specs.declared.seek.Seek.{Seek}
use Rattle.code_places.specs.declared.seek.Seek.TheVariants.{Ahead, Found}
use Rattle.code_places.specs.Nodes.{nodes_item, nodes_items, unit_nodes}
use Rattle.code_places.specs.Numbers.{Number, behind_item}
use Rattle.code_places.specs.Marks.{Mark, function_marks, item_marks, start_marks}
use Rattle.code_places.specs.Seeking.{is_found, sought}
use Rattle.code_places.specs.Laws.{LiesIn, StandsIn, count, instructions}
use Rattle.code_places.specs.Functions.{FunctionsHold, IsFunctionCode, function_among, function_behind}
use Rattle.code_places.proofs.Found.{first_of_two, others_of_two}
use Rattle.code_places.proofs.Inside.{from_pad, pad}
use Rattle.code_places.proofs.Owned.{count_add, size_of}
use Rattle.code_places.proofs.Owners.{From, function_marked, start_marked}
use Rattle.code_places.proofs.Seeking.{sought_more, sought_none, still_found}

sizes_add : (a b : List Line) → lines_size (a ++ b) ≡ lines_size a + lines_size b
sizes_add [] b = omega arith
sizes_add (x ∷ a) b = let e = sizes_add a b in omega (arith, e)

-- A line that so many bytes stand before, from the first line on.
record Met (lines : List Line) (left : ℕ) : Type 0 where
  before : List Line
  line : Line
  behind : List Line
  whole : lines ≡ before ++ line ∷ behind
  from : lines_size before ≤ left
  to : left < lines_size before + line_size line
  inside : count before < count lines

-- The byte was met in these lines, or stands behind them.
record IsMet (lines : List Line) (ms : List Mark) (left : ℕ) : Type 0 where
  found : is_found (sought ms (Ahead left)) ≡ true
  there : Met lines left

record IsGone (lines : List Line) (ms : List Mark) (left : ℕ) : Type 0 where
  least : lines_size lines ≤ left
  ahead : sought ms (Ahead left) ≡ Ahead (left - lines_size lines)

abbrev Walked : List Line → List Mark → ℕ → Type 0
Walked lines ms left = IsMet lines ms left ⊎ IsGone lines ms left

labelled : (n : ℕ) (lines : List Line) (ms : List Mark) (left : ℕ) → Walked lines ms left → Walked (Label n ∷ lines) ms left
labelled n lines ms left (inr g) =
    let least = g.least in
    inr (record { least = omega (arith, least); ahead = g.ahead ∙ ap Ahead (omega arith) })
labelled n lines ms left (inl r) =
    let from = r.there.from in
    let to = r.there.to in
    inl (record {
      found = r.found;
      there = record {
        before = Label n ∷ r.there.before;
        line = r.there.line;
        behind = r.there.behind;
        whole = ap (λ xs. Label n ∷ xs) r.there.whole;
        from = omega (arith, from);
        to = omega (arith, to);
        inside = r.there.inside;
      };
    })

module _ (line : Line) (leads : (lines : List Line) → instructions (line ∷ lines) ≡ line ∷ instructions lines) (lines : List Line) (m : Mark) (ms : List Mark)
    (size : m.size ≡ line_size line) (left : ℕ) where
  more : (xs : List Line) → count (line ∷ xs) ≡ suc (count xs)
  more xs = ap length (leads xs)

  here : left < m.size → sought (m ∷ ms) (Ahead left) ≡ sought ms (Found m.node) → Walked (line ∷ lines) (m ∷ ms) left
  here lt is = let many = more lines in inl (record {
    found = ap is_found (is ∙ still_found ms m.node);
    there = record {
      before = [];
      line = line;
      behind = lines;
      whole = refl;
      from = omega arith;
      to = omega (arith, lt, size);
      inside = omega (arith, many);
    };
  })

  later : m.size ≤ left → sought (m ∷ ms) (Ahead left) ≡ sought ms (Ahead (left - m.size)) → Walked lines ms (left - m.size) → Walked (line ∷ lines) (m ∷ ms) left
  later le is (inr g) =
      let least = g.least in
      inr (record {
        least = omega (arith, least, le, size);
        ahead = is ∙ (g.ahead ∙ ap Ahead (omega (arith, least, le, size)));
      })
  later le is (inl r) =
      let from = r.there.from in
      let to = r.there.to in
      let inside = r.there.inside in
      let many = more r.there.before in
      let all = more lines in
      inl (record {
        found = ap is_found is ∙ r.found;
        there = record {
          before = line ∷ r.there.before;
          line = r.there.line;
          behind = r.there.behind;
          whole = ap (λ xs. line ∷ xs) r.there.whole;
          from = omega (arith, from, le, size);
          to = omega (arith, to, le, size);
          inside = omega (arith, inside, many, all);
        };
      })

  stepped : ((rest : ℕ) → Walked lines ms rest) → Walked (line ∷ lines) (m ∷ ms) left
  stepped next = by (ltb left m.size) refl (sought_more m ms (Ahead left))
    where
      by : (b : Bool) → ltb left m.size ≡ b → sought (m ∷ ms) (Ahead left) ≡ sought ms (cond b (Found m.node) (Ahead (left - m.size))) → Walked (line ∷ lines) (m ∷ ms) left
      by true is e = here (ltb-true left m.size is) e
      by false is e = later (ltb-false left m.size is) e (next (left - m.size))

walked : (lines : List Line) (ms : List Mark) (left : ℕ) → map size_of ms ≡ map line_size (instructions lines) → Walked lines ms left
walked [] [] left same = inr (record { least = omega arith; ahead = sought_none (Ahead left) ∙ ap Ahead (omega arith) })
walked [] (m ∷ ms) left same = absurd cc
walked (Label n ∷ lines) ms left same = labelled n lines ms left (walked lines ms left same)
walked (Instruction op ∷ lines) [] left same = absurd cc
walked (Instruction op ∷ lines) (m ∷ ms) left same =
    stepped (Instruction op) (λ xs. refl) lines m ms (first_of_two 0 same) left (λ rest. walked lines ms rest (others_of_two same))
walked (JumpTo kind n ∷ lines) [] left same = absurd cc
walked (JumpTo kind n ∷ lines) (m ∷ ms) left same =
    stepped (JumpTo kind n) (λ xs. refl) lines m ms (first_of_two 0 same) left (λ rest. walked lines ms rest (others_of_two same))

function_sizes : (l : Layout) (n f : ℕ) (k : Number) (m : ℕ) (t : Ty) (x : List ℕ) (ps : List TypedParameter) (body : TypedStmts)
    → map size_of (function_marks l k ps body) ≡ map line_size (instructions (emit_function l n f ps body))
function_sizes l n f None m t x ps body = (function_marked l [] n f None m t x ps body [] (record { is = λ j e. absurd cc })).sizes
function_sizes l n f (Some k) m t x ps body =
    (function_marked l (pad k (nodes_item (function m t x ps (Some body)) ++ [])) n f (Some k) m t x ps body [] (from_pad k (nodes_item (function m t x ps (Some body))))).sizes

-- The byte was met in the code of the function of this number.
record Lies (l : Layout) (items : List TypedItem) (lines : List Line) (left number : ℕ) : Type 0 where
  met : Met lines left
  stands : StandsIn (IsFunctionCode l items) lines (count met.before) number

module _ (l : Layout) (items : List TypedItem) where
  first_item : (j : ℕ) (xs : List TypedItem) (i : TypedItem) (is : List TypedItem) → drop j xs ≡ i ∷ is → slice_get xs j ≡ Some i
  first_item j [] i is e = on j e
    where
      on : (j : ℕ) → drop j [] ≡ i ∷ is → slice_get [] j ≡ Some i
      on zero e = absurd cc
      on (suc j) e = absurd cc
  first_item zero (x ∷ xs) i is e = ap Some cc
  first_item (suc j) (x ∷ xs) i is e = first_item j xs i is e

  next_items : (j : ℕ) (xs : List TypedItem) (i : TypedItem) (is : List TypedItem) → drop j xs ≡ i ∷ is → drop (j + 1) xs ≡ is
  next_items j [] i is e = on j e
    where
      on : (j : ℕ) → drop j [] ≡ i ∷ is → drop (j + 1) [] ≡ is
      on zero e = absurd cc
      on (suc j) e = absurd cc
  next_items zero (x ∷ xs) i is e = others_of_two e
  next_items (suc j) (x ∷ xs) i is e = let one : suc j + 1 ≡ suc (j + 1) = omega arith in ap (λ n. drop n (x ∷ xs)) one ∙ next_items j xs i is e

  -- lines before it
  behind_lines : (a b : List Line) (left number : ℕ) → lines_size a ≤ left → Lies l items b (left - lines_size a) number → Lies l items (a ++ b) left number
  behind_lines a b left number le r =
      let from = r.met.from in
      let to = r.met.to in
      let inside = r.met.inside in
      let size = sizes_add a r.met.before in
      let many = count_add a r.met.before in
      let all = count_add a b in
      let code = count_add a r.stands.before in
      let least = r.stands.from in
      let most = r.stands.to in
      record {
        met = record {
          before = a ++ r.met.before;
          line = r.met.line;
          behind = r.met.behind;
          whole = ap (λ xs. a ++ xs) r.met.whole ∙ sym (append_assoc a r.met.before (r.met.line ∷ r.met.behind));
          from = omega (arith, from, size, le);
          to = omega (arith, to, size, le);
          inside = omega (arith, inside, many, all);
        };
        stands = record {
          before = a ++ r.stands.before;
          code = r.stands.code;
          behind = r.stands.behind;
          whole = ap (λ xs. a ++ xs) r.stands.whole ∙ sym (append_assoc a r.stands.before (r.stands.code ++ r.stands.behind));
          from = omega (arith, least, many, code);
          to = omega (arith, most, many, code);
          is = r.stands.is;
        };
      }

  in_first : (n f j m : ℕ) (t : Ty) (x : List ℕ) (ps : List TypedParameter) (body : TypedStmts) (rest : List Line) (left : ℕ)
      → slice_get items j ≡ Some (function m t x ps (Some body)) → Met (emit_function l n f ps body) left → Lies l items (emit_function l n f ps body ++ rest) left j
  in_first n f j m t x ps body rest left item r =
      let inside = r.inside in
      let all = count_add (emit_function l n f ps body) rest in
      record {
        met = record {
          before = r.before;
          line = r.line;
          behind = r.behind ++ rest;
          whole = ap (λ xs. xs ++ rest) r.whole ∙ append_assoc r.before (r.line ∷ r.behind) rest;
          from = r.from;
          to = r.to;
          inside = omega (arith, inside, all);
        };
        stands = record {
          before = [];
          code = emit_function l n f ps body;
          behind = rest;
          whole = refl;
          from = omega arith;
          to = omega (arith, inside);
          is = record {
            token = m;
            result = t;
            name = x;
            parameters = ps;
            body = body;
            item = item;
            n = n;
            f = f;
            is = refl;
          };
        };
      }

  -- an item without code
  passed_by : (k : Number) (j : ℕ) (i : TypedItem) (is : List TypedItem) (left r : ℕ) → item_marks l k i ≡ []
      → function_among l k j (i ∷ is) (Ahead left) ≡ Some r → function_among l (behind_item k i) (j + 1) is (Ahead left) ≡ Some r
  passed_by k j i is left r none e = sym (ap (λ s. cond (is_found s) (Some j) (function_among l (behind_item k i) (j + 1) is s))
      (ap (λ ms. sought ms (Ahead left)) none ∙ sought_none (Ahead left))) ∙ e

  among : (n f : ℕ) (k : Number) (j : ℕ) (is : List TypedItem) (left r : ℕ) → drop j items ≡ is
      → function_among l k j is (Ahead left) ≡ Some r → Lies l items (emit_functions l n f is) left r
  among n f k j [] left r d e = absurd cc
  among n f k j (structure m x ls ∷ is) left r d e =
      among n f (behind_item k (structure m x ls)) (j + 1) is left r (next_items j items _ is d) (passed_by k j (structure m x ls) is left r refl e)
  among n f k j (constant m t x c ∷ is) left r d e =
      among n f (behind_item k (constant m t x c)) (j + 1) is left r (next_items j items _ is d) (passed_by k j (constant m t x c) is left r refl e)
  among n f k j (global m t ds ∷ is) left r d e =
      among n f (behind_item k (global m t ds)) (j + 1) is left r (next_items j items _ is d) (passed_by k j (global m t ds) is left r refl e)
  among n f k j (function m t x ps None ∷ is) left r d e =
      among n f (behind_item k (function m t x ps None)) (j + 1) is left r (next_items j items _ is d) (passed_by k j (function m t x ps None) is left r refl e)
  among n f k j (function m t x ps (Some body) ∷ is) left r d e =
      by (λ rest h. among (n + all_stmt_labels body) (f + 1) (behind_item k (function m t x ps (Some body))) (j + 1) is rest r (next_items j items _ is d) h)
      (walked (emit_function l n f ps body) (function_marks l k ps body) left (function_sizes l n f k m t x ps body))
    where
      item : slice_get items j ≡ Some (function m t x ps (Some body))
      item = first_item j items _ is d

      numbered : (s : Seek) → is_found s ≡ true → cond (is_found s) (Some j) (function_among l (behind_item k (function m t x ps (Some body))) (j + 1) is s) ≡ Some r → j ≡ r
      numbered s is_true h = same_Some j r (sym (ap (λ b. cond b (Some j) (function_among l (behind_item k (function m t x ps (Some body))) (j + 1) is s)) is_true) ∙ h)

      by : ((rest : ℕ) → function_among l (behind_item k (function m t x ps (Some body))) (j + 1) is (Ahead rest) ≡ Some r
          → Lies l items (emit_functions l (n + all_stmt_labels body) (f + 1) is) rest r)
          → Walked (emit_function l n f ps body) (function_marks l k ps body) left → Lies l items (emit_function l n f ps body ++ emit_functions l (n + all_stmt_labels body) (f + 1) is) left r
      by next (inl w) =
          subst (λ number. Lies l items (emit_function l n f ps body ++ emit_functions l (n + all_stmt_labels body) (f + 1) is) left number)
          (numbered (sought (function_marks l k ps body) (Ahead left)) w.found e)
          (in_first n f j m t x ps body (emit_functions l (n + all_stmt_labels body) (f + 1) is) left item w.there)
      by next (inr w) =
          behind_lines (emit_function l n f ps body) (emit_functions l (n + all_stmt_labels body) (f + 1) is) left r w.least
          (next (left - lines_size (emit_function l n f ps body))
          (sym (ap (λ s. cond (is_found s) (Some j) (function_among l (behind_item k (function m t x ps (Some body))) (j + 1) is s)) w.ahead) ∙ e))

abbrev Answer : TypedUnit → ℕ → ℕ → Type 0
Answer u place r = (i : ℕ) × (LiesIn (unit_code u).lines place i × StandsIn (IsFunctionCode (layout_of u) u.items) (unit_code u).lines i r)

start_sizes : (u : TypedUnit) → map size_of (start_marks (layout_of u) (has_globals u.items) u.items u.entry)
    ≡ map line_size (instructions (emit_start (layout_of u) (body_count u.items) (has_globals u.items) u.items u.entry))
start_sizes u = (start_marked (layout_of u) (unit_nodes u) (body_count u.items) (has_globals u.items) u.items u.entry [] whole).sizes
  where
    whole : From (unit_nodes u) (Some 0) (nodes_items u.items ++ [])
    whole = record { is = λ j e. subst (λ m. drop m (unit_nodes u) ≡ nodes_items u.items ++ []) (same_Some 0 j e) (sym (append-nil (nodes_items u.items))) }

pub functions_hold : FunctionsHold
functions_hold u place r h = by (ltb place header_size) refl h
  where
    l : Layout
    l = layout_of u

    start : List Mark
    start = start_marks (layout_of u) (has_globals u.items) u.items u.entry

    told : header_size ≤ place → Lies (layout_of u) u.items (unit_code u).lines (place - header_size) r → Answer u place r
    told le w =
        let from = w.met.from in
        let to = w.met.to in (
          count w.met.before,
          (
            record {
              before = w.met.before;
              line = w.met.line;
              behind = w.met.behind;
              whole = w.met.whole;
              number = refl;
              from = omega (arith, from, le);
              to = omega (arith, to, le);
            },
            w.stands,
          ),
        )

    no_function : (s : Seek) → is_found s ≡ true → function_behind (layout_of u) u.items s ≡ Some r → ⊥
    no_function s is_true e = none (sym (ap (λ b. cond b None (function_among (layout_of u) (Some 0) 0 u.items s)) is_true) ∙ e)
      where
        none : None ≡ Some r → ⊥
        none e = absurd cc

    behind : (s : Seek) (left : ℕ) → s ≡ Ahead left → function_behind (layout_of u) u.items s ≡ Some r → function_among (layout_of u) (Some 0) 0 u.items (Ahead left) ≡ Some r
    behind s left is e = sym (ap (function_behind (layout_of u) u.items) is) ∙ e

    on : function_behind (layout_of u) u.items (sought (start_marks (layout_of u) (has_globals u.items) u.items u.entry) (Ahead (place - header_size))) ≡ Some r
        → Walked (emit_start (layout_of u) (body_count u.items) (has_globals u.items) u.items u.entry) (start_marks (layout_of u) (has_globals u.items) u.items u.entry) (place - header_size)
        → Lies (layout_of u) u.items (unit_code u).lines (place - header_size) r
    on e (inl w) = absurd (no_function _ w.found e)
    on e (inr w) =
        behind_lines (layout_of u) u.items (emit_start (layout_of u) (body_count u.items) (has_globals u.items) u.items u.entry)
        (emit_functions (layout_of u) (body_count u.items + start_labels (has_globals u.items) u.items) 0 u.items) (place - header_size) r w.least
        (among (layout_of u) u.items (body_count u.items + start_labels (has_globals u.items) u.items) 0 (Some 0) 0 u.items _ r refl
        (behind _ _ w.ahead e))

    by : (b : Bool) → ltb place header_size ≡ b
        → cond b None (function_behind (layout_of u) u.items (sought (start_marks (layout_of u) (has_globals u.items) u.items u.entry) (Ahead (place - header_size)))) ≡ Some r
        → Answer u place r
    by true is e = absurd cc
    by false is e =
        told (ltb-false place header_size is)
        (on e (walked (emit_start (layout_of u) (body_count u.items) (has_globals u.items) u.items u.entry)
        (start_marks (layout_of u) (has_globals u.items) u.items u.entry) (place - header_size) (start_sizes u)))

-- One item after another.
pub past : (l : Layout) (k m : Number) (j : ℕ) (i : TypedItem) (is : List TypedItem) (s t : Seek) → t ≡ sought (item_marks l k i) s → is_found t ≡ false
    → m ≡ behind_item k i → function_among l k j (i ∷ is) s ≡ function_among l m (j + 1) is t
past l k m j i is s t walks missed numbered =
    ap (λ z. cond (is_found z) (Some j) (function_among l (behind_item k i) (j + 1) is z)) (sym walks)
    ∙ (ap (λ b. cond b (Some j) (function_among l (behind_item k i) (j + 1) is t)) missed ∙ ap (λ n. function_among l n (j + 1) is t) (sym numbered))
