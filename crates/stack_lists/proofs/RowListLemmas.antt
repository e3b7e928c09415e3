-- Rows in short: what is added leaves those that were there as they were.
use Rattle.std.proofs.Common.{arith, ◌≡◌, ◌<◌, ℕ, zero, suc, List, [], ◌∷◌, ◌++◌, length, None, Some, slice_get, inl, inr, ◌⊎◌, sym, subst, ◌∙◌, ap, refl}
use Rattle.std.specs.Prelude.{Result, Ok, Err, OnOk, OnErr}
use Rattle.std.specs.Option.{option_map}
use Rattle.std.proofs.lemmas.List.{length-append, length-map}
use Rattle.std.proofs.lemmas.Option.{slice_get-map, slice_get_within}
use Rattle.stack_lists.specs.declared.rows.ShapeRow.{ShapeRow}
use Rattle.stack_lists.specs.declared.row_list.Setting.{Setting}
use Rattle.stack_lists.specs.declared.row_list.ShortRow.{ShortRow}
use Rattle.stack_lists.specs.RowLists.{HaveSettings, StillThere, row_of, rows_of, with_setting}

none_some : {A : Type 0} (a : A) → None ≡ Some a → ⊥
none_some a h = absurd cc

some_is : {A : Type 0} (a b : A) → Some a ≡ Some b → a ≡ b
some_is a b h = cc

-- ---- one row

pub row_is : (settings : List Setting) (short : ShortRow) (setting : Setting) → Some setting ≡ slice_get settings short.setting
    → with_setting short (Some setting) ≡ row_of settings short
row_is settings short setting e = ap (with_setting short) e

pub get_past : {A : Type 0} (xs : List A) (k : ℕ) → None ≡ slice_get xs k → k < length xs → ⊥
get_past [] k e l = absurd (omega (arith, l))
get_past (x ∷ xs) zero e l = none_some x e
get_past (x ∷ xs) (suc k) e l = get_past xs k e (omega (arith, l))

pub ruleset filling = (row_is)

-- ---- numbers of settings

pub still_same : (settings : List Setting) → StillThere settings settings
still_same settings = record { by = λ k s e. e; longer = omega arith }

get_more : (xs : List Setting) (x y : Setting) (k : ℕ) → slice_get xs k ≡ Some y → slice_get (xs ++ x ∷ []) k ≡ Some y
get_more [] x y k e = absurd cc
get_more (z ∷ xs) x y zero e = e
get_more (z ∷ xs) x y (suc k) e = get_more xs x y k e

get_last : (xs : List Setting) (x : Setting) → slice_get (xs ++ x ∷ []) (length xs) ≡ Some x
get_last [] x = refl
get_last (z ∷ xs) x = get_last xs x

pub still_more : (settings more : List Setting) (setting : Setting) → more ≡ settings ++ setting ∷ [] → StillThere settings more
still_more settings more setting e = subst (λ s. StillThere settings s) (sym e) (record {
  by = λ k s h. get_more settings setting s k h;
  longer = let l = length-append settings (setting ∷ []) in omega (arith, l);
})

pub last_is : (settings more : List Setting) (setting : Setting) (number : ℕ) → more ≡ settings ++ setting ∷ [] → number ≡ length settings
    → slice_get more number ≡ Some setting
last_is settings more setting number e n = ap (slice_get more) n ∙ ap (λ s. slice_get s (length settings)) e ∙ get_last settings setting

pub still_err : (settings more : List Setting) → more ≡ settings → StillThere settings more
still_err settings more e = subst (λ s. StillThere settings s) (sym e) (still_same settings)

pub ruleset numbering = (still_same, still_more, still_err, last_is)

-- ---- all rows

pub none_have : (settings : List Setting) (rows : List ShortRow) → rows ≡ [] → HaveSettings settings rows
none_have settings rows e = subst (λ rows. HaveSettings settings rows) (sym e) (record { by = λ k s h. absurd cc })

pub no_rows : (settings : List Setting) (rows : List ShortRow) → rows ≡ [] → rows_of settings rows ≡ []
no_rows settings rows e = ap (rows_of settings) e

pub ruleset beginning = (none_have, no_rows)

pub rows_length : (settings : List Setting) (rows : List ShortRow) → length rows ≡ length (rows_of settings rows)
rows_length settings rows = sym (length-map rows (row_of settings))

pub ruleset counting = (rows_length)

pub get_none : (settings : List Setting) (rows : List ShortRow) (k : ℕ) → None ≡ slice_get rows k → None ≡ slice_get (rows_of settings rows) k
get_none settings rows k e = ap (option_map (row_of settings)) e ∙ sym (slice_get-map (row_of settings) rows k)

pub get_some : (settings : List Setting) (rows : List ShortRow) (k : ℕ) (short : ShortRow) → Some short ≡ slice_get rows k
    → Some (row_of settings short) ≡ slice_get (rows_of settings rows) k
get_some settings rows k short e = ap (option_map (row_of settings)) e ∙ sym (slice_get-map (row_of settings) rows k)

pub has_setting : (settings : List Setting) (rows : List ShortRow) (k : ℕ) (short : ShortRow) → HaveSettings settings rows → Some short ≡ slice_get rows k
    → short.setting < length settings
has_setting settings rows k short have e = have.by k short (sym e)

pub ruleset getting = (get_none, get_some, has_setting)

-- ---- a row more

there : (settings : List Setting) (k : ℕ) → k < length settings → (setting : Setting) × (slice_get settings k ≡ Some setting)
there [] k l = absurd (omega (arith, l))
there (s ∷ settings) zero l = (s, refl)
there (s ∷ settings) (suc k) l = there settings k (omega (arith, l))

row_same : (before after : List Setting) (short : ShortRow) → StillThere before after → short.setting < length before → row_of after short ≡ row_of before short
row_same before after short still l = let s = there before short.setting l in
    ap (with_setting short) (still.by short.setting s.0 s.1 ∙ sym s.1)

pub rows_same : (before after : List Setting) (rows : List ShortRow) → StillThere before after → HaveSettings before rows
    → rows_of after rows ≡ rows_of before rows
rows_same before after [] still have = refl
rows_same before after (r ∷ rows) still have =
    ap (λ x. x ∷ rows_of after rows) (row_same before after r still (have.by 0 r refl))
    ∙ ap (λ xs. row_of before r ∷ xs) (rows_same before after rows still (record { by = λ k s e. have.by (suc k) s e }))

rows_end : (settings : List Setting) (rows : List ShortRow) (short : ShortRow)
    → rows_of settings (rows ++ short ∷ []) ≡ rows_of settings rows ++ row_of settings short ∷ []
rows_end settings [] short = refl
rows_end settings (r ∷ rows) short = ap (λ xs. row_of settings r ∷ xs) (rows_end settings rows short)

pub have_still : (before after : List Setting) (rows : List ShortRow) → StillThere before after → HaveSettings before rows → HaveSettings after rows
have_still before after rows still have = record { by = λ k s e. let h = have.by k s e in let l = still.longer in omega (arith, h, l) }

get_end : (xs : List ShortRow) (x y : ShortRow) (k : ℕ) → slice_get (xs ++ x ∷ []) k ≡ Some y → (slice_get xs k ≡ Some y) ⊎ (y ≡ x)
get_end [] x y zero h = inr (some_is y x (sym h))
get_end [] x y (suc k) h = absurd cc
get_end (z ∷ xs) x y zero h = inl h
get_end (z ∷ xs) x y (suc k) h = get_end xs x y k h

have_more : (settings : List Setting) (rows more : List ShortRow) (short : ShortRow) (setting : Setting) → HaveSettings settings rows
    → slice_get settings short.setting ≡ Some setting → more ≡ rows ++ short ∷ [] → HaveSettings settings more
have_more settings rows more short setting have s e = subst (λ rows. HaveSettings settings rows) (sym e) (record {
  by = λ k r h. elim (get_end rows short r k h) [
    | inl old ↦ have.by k r old
    | inr is ↦ subst (λ (r : ShortRow). r.setting < length settings) (sym is) (slice_get_within settings short.setting setting s)
  ];
})

-- the row is added, or there was no memory for it
pub have_pushed : {E O : Type 0} (before after : List Setting) (rows more : List ShortRow) (short : ShortRow) (setting : Setting) (r : Result O E)
    → HaveSettings before rows → StillThere before after → slice_get after short.setting ≡ Some setting
    → OnOk r (more ≡ rows ++ short ∷ []) → OnErr r (more ≡ rows) → HaveSettings after more
have_pushed before after rows more short setting (Ok o) have still s ok err =
    have_more after rows more short setting (have_still before after rows still have) s ok
have_pushed before after rows more short setting (Err x) have still s ok err =
    subst (λ rows. HaveSettings after rows) (sym err) (have_still before after rows still have)

pub pushed_ok : {E O : Type 0} (before after : List Setting) (rows more : List ShortRow) (short : ShortRow) (setting : Setting) (row : ShapeRow) (r : Result O E)
    → HaveSettings before rows → StillThere before after → slice_get after short.setting ≡ Some setting → with_setting short (Some setting) ≡ row
    → OnOk r (more ≡ rows ++ short ∷ []) → OnOk r (rows_of after more ≡ rows_of before rows ++ row ∷ [])
pushed_ok before after rows more short setting row (Ok o) have still s is ok =
    ap (rows_of after) ok ∙ rows_end after rows short
    ∙ ap (λ xs. xs ++ row_of after short ∷ []) (rows_same before after rows still have)
    ∙ ap (λ x. rows_of before rows ++ x ∷ []) (ap (with_setting short) s ∙ is)
pushed_ok before after rows more short setting row (Err x) have still s is ok = tt

pub pushed_err : {E O : Type 0} (before after : List Setting) (rows more : List ShortRow) (r : Result O E) → HaveSettings before rows → StillThere before after
    → OnErr r (more ≡ rows) → OnErr r (rows_of after more ≡ rows_of before rows)
pushed_err before after rows more (Ok o) have still err = tt
pushed_err before after rows more (Err x) have still err = ap (rows_of after) err ∙ rows_same before after rows still have

pub ruleset pushing = (rows_same, have_still, have_pushed, pushed_ok, pushed_err)
