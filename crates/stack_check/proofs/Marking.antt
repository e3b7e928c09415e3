-- Each call that is kept is of a row of its own.
use Rattle.std.proofs.Common.{arith, ◌≡◌, ◌≢◌, ◌≤◌, ◌<◌, ◌+◌, ℕ, zero, suc, ℤ, List, [], ◌∷◌, ◌++◌, length, Some, slice_get, inl, inr, sym, subst, ◌∙◌, ap, refl}
use Rattle.std.specs.Prelude.{get_or, min}
use Rattle.std.proofs.lemmas.Bool.{cases_eq}
use Rattle.std.proofs.lemmas.List.{length-append}
use Rattle.ncs_code.specs.Plain.{PlainOp}
use Rattle.ncs_code.specs.Plain as ops
use Rattle.ncs_code.specs.File.{jump_place, op_at}
use Rattle.stack_lists.specs.declared.held.Held.{Held}
use Rattle.stack_lists.specs.declared.lists.Node.{Node}
use Rattle.stack_lists.specs.declared.rows.ShapeRow.{ShapeRow}
use Rattle.stack_lists.specs.declared.todo.Call.{Call}
use Rattle.stack_lists.specs.declared.todo.Spot.{Spot}
use Rattle.stack_lists.specs.Shared.{read}
use Rattle.stack_lists.specs.Growth.{read_empty}
use Rattle.stack_lists.specs.Rows.{IsNumberOf, row_in}
use Rattle.stack_lists.specs.Worklist.{CallKept, IsMarked, IsMarkedAnew, IsTop, SameCalls, Worklist}
use Rattle.stack_check.specs.Inference.{CallsAreOfRows, IsCall, IsCallOf, marked}
use Rattle.stack_check.proofs.Keeping.{get_kept}

some_is : {A : Type 0} (a b : A) → Some a ≡ Some b → a ≡ b
some_is a b h = cc

top_is : (a b : Call) (x y : List Call) → a ∷ x ≡ b ∷ y → a ≡ b
top_is a b x y h = cc

no_top : (call : Call) (older : List Call) → [] ≡ call ∷ older → ⊥
no_top call older h = absurd cc

fits : {A : Type 0} (xs : List A) (n : ℕ) (x : A) → slice_get xs n ≡ Some x → n < length xs
fits [] n x h = absurd cc
fits (y ∷ xs) zero x h = omega arith
fits (y ∷ xs) (suc n) x h = omega (arith, fits xs n x h)

-- ---- how many marks there are

marked_none : (marks : List ℕ) (n : ℕ) → get_or marks n 0 ≡ 0 → marked marks (suc n) ≡ marked marks n
marked_none marks n e = ap (λ k. marked marks n + min k 1) e ∙ none (marked marks n)
  where
    none : (a : ℕ) → a + min 0 1 ≡ a
    none a = omega arith

marked_same : (a b : List ℕ) (n : ℕ) → ((k : ℕ) → k < n → get_or b k 0 ≡ get_or a k 0) → marked b n ≡ marked a n
marked_same a b zero h = refl
marked_same a b (suc n) h =
    ap (λ z. z + min (get_or b n 0) 1) (marked_same a b n (λ k l. h k (omega (arith, l)))) ∙ ap (λ g. marked a n + min g 1) (h n (omega arith))

one_here : (p q g h : ℕ) → q ≡ p → g ≡ 0 → h ≢ 0 → q + min h 1 ≡ (p + min g 1) + 1
one_here p q g h e f ne = omega (arith, e, f, ne)

one_below : (p q g h : ℕ) → q ≡ p + 1 → h ≡ g → q + min h 1 ≡ (p + min g 1) + 1
one_below p q g h e f = omega (arith, e, f)

marked_more : (a b : List ℕ) (row n : ℕ) → row < n → ((k : ℕ) → k ≢ row → get_or b k 0 ≡ get_or a k 0) → get_or a row 0 ≡ 0 → get_or b row 0 ≢ 0
    → marked b n ≡ marked a n + 1
marked_more a b row zero l others z ne = absurd (omega (arith, l))
marked_more a b row (suc n) l others z ne = elim (cases_eq n row) [
  | inl e ↦ one_here (marked a n) (marked b n) (get_or a n 0) (get_or b n 0) (marked_same a b n (λ k m. others k (λ i. omega (arith, m, e, i))))
      (ap (λ k. get_or a k 0) e ∙ z) (λ i. ne (ap (λ k. get_or b k 0) (sym e) ∙ i))
  | inr other ↦ one_below (marked a n) (marked b n) (get_or a n 0) (get_or b n 0) (marked_more a b row n (omega (arith, l, other)) others z ne) (others n other)
]

one_more : (a g n : ℕ) → a ≤ n → a + min g 1 ≤ suc n
one_more a g n h = omega (arith, h)

marked_few : (marks : List ℕ) (n : ℕ) → marked marks n ≤ n
marked_few marks zero = omega arith
marked_few marks (suc n) = one_more (marked marks n) (get_or marks n 0) n (marked_few marks n)

marked_nothing : (marks : List ℕ) (n : ℕ) → ((k : ℕ) → get_or marks k 0 ≡ 0) → marked marks n ≡ 0
marked_nothing marks zero h = refl
marked_nothing marks (suc n) h = marked_none marks n (h n) ∙ marked_nothing marks n h

-- so there are no more calls than rows
pub calls_few : (code : List PlainOp) (rows : List ShapeRow) (w : Worklist) → CallsAreOfRows code rows w → length w.calls ≤ length rows
calls_few code rows w c = let l = marked_few w.marks (length rows) in let k = c.count in omega (arith, l, k)

-- ---- the same calls, and a row more

pub marks_same : (code : List PlainOp) (rows : List ShapeRow) (a b : Worklist) → SameCalls a b → CallsAreOfRows code rows a → CallsAreOfRows code rows b
marks_same code rows a b s c = record {
  inside = λ n ne. c.inside n (λ e. ne (ap (λ (ms : List ℕ). get_or ms n 0) s.marks ∙ e));
  of = λ n call top. c.of n call (subst (λ (ms : List ℕ). IsTop a.calls (get_or ms n 0) call) s.marks
      (subst (λ (cs : List (Node Call)). IsTop cs (get_or b.marks n 0) call) s.calls top));
  count = ap (λ (cs : List (Node Call)). length cs) s.calls ∙ c.count ∙ ap (λ (ms : List ℕ). marked ms (length rows)) (sym s.marks);
}

pub marks_rows_same : (code : List PlainOp) (before after : List ShapeRow) (a b : Worklist) → after ≡ before → SameCalls a b → CallsAreOfRows code before a
    → CallsAreOfRows code after b
marks_rows_same code before after a b e s c = subst (λ rows. CallsAreOfRows code rows b) (sym e) (marks_same code before a b s c)

pub marks_row : (code : List PlainOp) (before after : List ShapeRow) (row : ShapeRow) (w : Worklist) → after ≡ before ++ row ∷ []
    → CallsAreOfRows code before w → CallsAreOfRows code after w
marks_row code before after row w e c =
    let more : length (before ++ row ∷ []) ≡ suc (length before) = (let l = length-append before (row ∷ []) in omega (arith, l)) in
    let free : get_or w.marks (length before) 0 ≡ 0 = elim (cases_eq (get_or w.marks (length before) 0) 0) [
      | inl z ↦ z
      | inr ne ↦ absurd (let l = c.inside (length before) ne in omega (arith, l))
    ] in
    subst (λ rows. CallsAreOfRows code rows w) (sym e) (record {
      inside = λ n ne. let l = c.inside n ne in omega (arith, l, more);
      of = λ n call top. let o = c.of n call top in record { row = o.row; has = get_kept before row o.row n o.has; spot = o.spot; calls = o.calls };
      count = c.count ∙ sym (ap (marked w.marks) more ∙ marked_none w.marks (length before) free);
    })

none_there : (k : ℕ) → get_or (let xs : List ℕ = [] in xs) k 0 ≡ 0
none_there zero = refl
none_there (suc k) = refl

-- where no call is kept yet
pub marks_begin : (code : List PlainOp) (rows : List ShapeRow) (w : Worklist) → w.calls ≡ [] → w.marks ≡ [] → CallsAreOfRows code rows w
marks_begin code rows w c m =
    let none : (k : ℕ) → get_or w.marks k 0 ≡ 0 = λ k. ap (λ (ms : List ℕ). get_or ms k 0) m ∙ none_there k in
    record {
      inside = λ n ne. absurd (ne (none n));
      of = λ n call top. absurd (no_top call top.older (sym (ap (read w.calls) (none n) ∙ read_empty w.calls) ∙ top.is));
      count = ap (λ (cs : List (Node Call)). length cs) c ∙ sym (marked_nothing w.marks (length rows) none);
    }

-- ---- a call is kept

offset_is : (i j : ℤ) → ops.Jsr i ≡ ops.Jsr j → i ≡ j
offset_is i j h = cc

pub same_target : (code : List PlainOp) (place x y : ℕ) → IsCall code place x → IsCall code place y → x ≡ y
same_target code place x y a b =
    sym a.leads ∙ ap (jump_place place) (offset_is a.offset b.offset (some_is (ops.Jsr a.offset) (ops.Jsr b.offset) (sym a.stands ∙ b.stands))) ∙ b.leads

pub marks_kept : (code : List PlainOp) (rows : List ShapeRow) (v w : Worklist) (number target : ℕ) (spot : Spot) (held : Held)
    → row_in rows spot.trial spot.place ≡ Some held → IsNumberOf rows spot.trial spot.place number → IsCall code spot.place target
    → CallKept v w number (record { spot = spot; target = target }) → CallsAreOfRows code rows v → CallsAreOfRows code rows w
marks_kept code rows v w number target spot held r n call kept c = elim kept.anew [
  | inl same ↦ subst (λ w. CallsAreOfRows code rows w) (sym same) c
  | inr m ↦ anew m
]
  where
    here : slice_get rows number ≡ Some (record { trial = spot.trial; place = spot.place; held = held })
    here = n held r

    mine : Call
    mine = record { spot = spot; target = target }

    own : IsCallOf code rows number mine
    own = record { row = record { trial = spot.trial; place = spot.place; held = held }; has = here; spot = refl; calls = call }

    same_call : (other : Call) → IsCallOf code rows number other → other ≡ mine
    same_call other o =
        let row : o.row ≡ record { trial = spot.trial; place = spot.place; held = held } = some_is _ _ (sym o.has ∙ here) in
        let s : other.spot ≡ spot = o.spot ∙ ap (λ (r : ShapeRow). let s : Spot = record { trial = r.trial; place = r.place } in s) row in
        let t = same_target code spot.place other.target target (subst (λ (s : Spot). IsCall code s.place other.target) s o.calls) call in
        ap (λ s. let k : Call = record { spot = s; target = other.target } in k) s ∙ ap (λ t. let k : Call = record { spot = spot; target = t } in k) t

    fresh : IsMarkedAnew v w number mine → get_or v.marks number 0 ≡ 0
    fresh m = elim m.had [
      | inl e ↦ e
      | inr o ↦ absurd (o.differs (same_call o.other (c.of number o.other o.marked)))
    ]

    has_mark : get_or w.marks number 0 ≢ 0
    has_mark z = no_top mine kept.marked.older (sym (ap (read w.calls) z ∙ read_empty w.calls) ∙ kept.marked.is)

    anew : IsMarkedAnew v w number mine → CallsAreOfRows code rows w
    anew m =
        let l = fits rows number _ here in
        let more = marked_more v.marks w.marks number (length rows) l m.others (fresh m) has_mark in
        record {
          inside = λ k ne. elim (cases_eq k number) [
            | inl e ↦ omega (arith, e, l)
            | inr other ↦ c.inside k (λ z. ne (m.others k other ∙ z))
          ];
          of = λ k other top. elim (cases_eq k number) [
            | inl e ↦
                let is : mine ≡ other = top_is mine other kept.marked.older top.older
                (sym kept.marked.is ∙ ap (λ n. read w.calls (get_or w.marks n 0)) (sym e) ∙ top.is) in
                subst (λ k. IsCallOf code rows k other) (sym e) (subst (λ c. IsCallOf code rows number c) is own)
            | inr ne ↦ c.of k other (m.tops k other ne top)
          ];
          count = let x = m.more in let y = c.count in omega (arith, x, y, more);
        }
