-- Going on by lines, the first three lines, and that a file gives one thing.
use Rattle.std.proofs.Common.{◌≡◌, ◌≢◌, ℕ, ◌+◌, ◌⊎◌, inl, inr, length, drop, codes, IsTrue, ◌↔◌, MatchBool, true≢false, Bool, true, false, List, [], ◌∷◌, ◌++◌, Result, Ok, Err, IfOk, IfErr, refl}
use Rattle.std.proofs.Common.{sym, ap, ◌∙◌, subst}
use Rattle.nwq_text.specs.Lines.{lines_of}
use Rattle.table_2da.specs.declared.fault.TableFault.{TableFault}
use Rattle.table_2da.specs.declared.fault.TableFault.TheVariants.{Line as BadLine, NoMemory}
use Rattle.table_2da.specs.declared.words.Part.TheVariants.{Columns}
use Rattle.table_2da.specs.Table.{PlainTable}
use Rattle.table_2da.specs.Words.{AreBlanks}
use Rattle.table_2da.specs.Grammar.{Adds, Baffles, Follow, whole, goes, stops, IsHeading, IsSecond, IsColumns, HasColumns, FirstIs, with_columns, Gives, headless, no_second, no_columns, headed}
use Rattle.table_2da.specs.Grammar.{GivesOf, HasTable, IsFaulty, OneTable}
use Rattle.table_2da.specs.Steps.{ReadsOn, TableStopsAt, ThirdOn, SecondOn, Comes}
use Rattle.table_2da.proofs.RowLemmas.{one_addition, one_saying}

-- ---- going on

pub no_lines : (width n : ℕ) (rows : List (List (List ℕ))) (left : List (List ℕ)) → left ≡ [] → Follow width n rows left (Ok rows)
no_lines width n rows left e = subst (λ ls. Follow width n rows ls (Ok rows)) (sym e) (whole n rows)

pub more_lines : (width read number now : ℕ) (rows next : List (List (List ℕ))) (line : List ℕ) (left lines : List (List ℕ))
    (end : Result (List (List (List ℕ))) ℕ) → left ≡ line ∷ lines → number ≡ read + 1 → now ≡ number → Adds width rows line next
    → Follow width (now + 1) next lines end → Follow width (read + 1) rows left end
more_lines width read number now rows next line left lines end e counted is adds on =
    subst (λ ls. Follow width (read + 1) rows ls end) (sym e)
    (goes (read + 1) rows next line lines end adds (subst (λ n. Follow width (n + 1) next lines end) (is ∙ counted) on))

pub bad_line : (width read number : ℕ) (rows : List (List (List ℕ))) (line : List ℕ) (left lines : List (List ℕ)) → left ≡ line ∷ lines
    → number ≡ read + 1 → Baffles width rows line → Follow width (read + 1) rows left (Err number)
bad_line width read number rows line left lines e is baffles =
    subst (λ ls. Follow width (read + 1) rows ls (Err number)) (sym e)
    (subst (λ n. Follow width (read + 1) rows (line ∷ lines) (Err n)) (sym is) (stops (read + 1) rows line lines baffles))

-- ---- headings and defaults

pub heading_by : (line rest : List ℕ) (t : Bool) → line ≡ codes "2DA V2.0" ++ rest → IsTrue t ↔ AreBlanks rest
    → MatchBool t (IsHeading line) (IsHeading line → ⊥)
heading_by line rest true is test = record { blanks = rest; blank = test.0 refl; is = is }
heading_by line rest false is test = λ h.
    let same : rest ≡ h.blanks = ap (drop 8) (sym is ∙ h.is) in true≢false (sym (test.1 (subst AreBlanks (sym same) h.blank)))

pub no_heading : (line : List ℕ) → ((rest : List ℕ) → line ≢ codes "2DA V2.0" ++ rest) → IsHeading line → ⊥
no_heading line other h = other h.blanks h.is

pub second_by : (line : List ℕ) (t : Bool) → ((rest : List ℕ) → line ≢ codes "DEFAULT:" ++ rest) → IsTrue t ↔ AreBlanks line
    → MatchBool t (IsSecond line) (IsSecond line → ⊥)
second_by line true other test = inl (test.0 refl)
second_by line false other test = λ s. neither s
  where
    neither : IsSecond line → ⊥
    neither (inl blank) = true≢false (sym (test.1 blank))
    neither (inr h) = other h.0 h.1

-- ---- the third line

pub third_missing : (left : List (List ℕ)) → left ≡ [] → ThirdOn left (Err 3)
third_missing left e heading second h s = no_columns heading second left h s (λ b. subst (FirstIs HasColumns) e b)

pub third_bad : (left lines : List (List ℕ)) (line : List ℕ) → left ≡ line ∷ lines → ((columns : List (List ℕ)) → IsColumns line columns → ⊥)
    → ThirdOn left (Err 3)
third_bad left lines line e never heading second h s =
    no_columns heading second left h s (λ b. let has = subst (FirstIs HasColumns) e b in never has.0 has.1)

third_end : (left lines : List (List ℕ)) (line : List ℕ) (columns : List (List ℕ)) (end : Result (List (List (List ℕ))) ℕ) → left ≡ line ∷ lines
    → IsColumns line columns → Follow (length columns) 4 [] lines end → ThirdOn left (with_columns columns end)
third_end left lines line columns end e are on heading second h s =
    subst (λ ls. Gives (heading ∷ second ∷ ls) (with_columns columns end)) (sym e) (headed heading second line lines columns end h s are on)

pub third_rows : (left lines : List (List ℕ)) (line : List ℕ) (columns : List (List ℕ)) (rows : List (List (List ℕ))) → left ≡ line ∷ lines
    → IsColumns line columns → ReadsOn (length columns) lines rows → ThirdOn left (Ok (record { columns = columns; rows = rows }))
third_rows left lines line columns rows e are on = third_end left lines line columns (Ok rows) e are on

pub third_fault : (left lines : List (List ℕ)) (line : List ℕ) (columns : List (List ℕ)) (fault : TableFault) → left ≡ line ∷ lines
    → IsColumns line columns → TableStopsAt (length columns) lines fault → Comes (ThirdOn left) (Err fault)
third_fault left lines line columns (BadLine n) e are on = third_end left lines line columns (Err n) e are on
third_fault left lines line columns NoMemory e are on = tt

-- ---- the second line

pub second_missing : (left : List (List ℕ)) → left ≡ [] → SecondOn left (Err 2)
second_missing left e heading h = no_second heading left h (λ b. subst (FirstIs IsSecond) e b)

pub second_bad : (left lines : List (List ℕ)) (line : List ℕ) → left ≡ line ∷ lines → (IsSecond line → ⊥) → SecondOn left (Err 2)
second_bad left lines line e never heading h = no_second heading left h (λ b. never (subst (FirstIs IsSecond) e b))

second_on : (left lines : List (List ℕ)) (line : List ℕ) (end : Result PlainTable ℕ) → left ≡ line ∷ lines → IsSecond line → ThirdOn lines end
    → SecondOn left end
second_on left lines line end e is on heading h = subst (λ ls. Gives (heading ∷ ls) end) (sym e) (on heading line h is)

pub second_comes : (left lines : List (List ℕ)) (line : List ℕ) (r : Result PlainTable TableFault) → left ≡ line ∷ lines → IsSecond line
    → Comes (ThirdOn lines) r → Comes (SecondOn left) r
second_comes left lines line (Ok table) e is on = second_on left lines line (Ok table) e is on
second_comes left lines line (Err (BadLine n)) e is on = second_on left lines line (Err n) e is on
second_comes left lines line (Err NoMemory) e is on = tt

-- ---- the first line

pub first_missing : (bytes : List ℕ) → lines_of bytes ≡ [] → GivesOf bytes (Err 1)
first_missing bytes e = headless (lines_of bytes) (λ b. subst (FirstIs IsHeading) e b)

pub first_bad : (bytes line : List ℕ) (lines : List (List ℕ)) → lines_of bytes ≡ line ∷ lines → (IsHeading line → ⊥) → GivesOf bytes (Err 1)
first_bad bytes line lines e never = headless (lines_of bytes) (λ b. never (subst (FirstIs IsHeading) e b))

first_on : (bytes line : List ℕ) (lines : List (List ℕ)) (end : Result PlainTable ℕ) → lines_of bytes ≡ line ∷ lines → IsHeading line
    → SecondOn lines end → GivesOf bytes end
first_on bytes line lines end e is on = subst (λ ls. Gives ls end) (sym e) (on line is)

pub first_table : (bytes line : List ℕ) (lines : List (List ℕ)) (r : Result PlainTable TableFault) → lines_of bytes ≡ line ∷ lines
    → IsHeading line → Comes (SecondOn lines) r → IfOk r (λ table. HasTable bytes table)
first_table bytes line lines (Ok table) e is on = first_on bytes line lines (Ok table) e is on
first_table bytes line lines (Err fault) e is on = tt

pub first_fault : (bytes line : List ℕ) (lines : List (List ℕ)) (r : Result PlainTable TableFault) → lines_of bytes ≡ line ∷ lines
    → IsHeading line → Comes (SecondOn lines) r → IfErr r (IsFaulty bytes)
first_fault bytes line lines (Ok table) e is on = tt
first_fault bytes line lines (Err (BadLine n)) e is on = first_on bytes line lines (Err n) e is on
first_fault bytes line lines (Err NoMemory) e is on = tt

-- ---- one end of all rows

abbrev FollowBy : ℕ → ℕ → List (List (List ℕ)) → List (List ℕ) → Result (List (List (List ℕ))) ℕ → Type 0
FollowBy width n rows [] end = end ≡ Ok rows
FollowBy width n rows (line ∷ lines) end =
    ((next : List (List (List ℕ))) × Adds width rows line next × Follow width (n + 1) next lines end) ⊎ (Baffles width rows line × (end ≡ Err n))

follow_by : (width n : ℕ) (rows : List (List (List ℕ))) (lines : List (List ℕ)) (end : Result (List (List (List ℕ))) ℕ) → Follow width n rows lines end
    → FollowBy width n rows lines end
follow_by width n rows lines end (whole m r) = refl
follow_by width n rows lines end (goes m r next line rest f adds on) = inl (next, adds, on)
follow_by width n rows lines end (stops m r line rest baffles) = inr (baffles, refl)

one_step : (width n : ℕ) (rows : List (List (List ℕ))) (line : List ℕ) (lines : List (List ℕ)) (e f : Result (List (List (List ℕ))) ℕ)
    → ((next : List (List (List ℕ))) → Follow width (n + 1) next lines e → Follow width (n + 1) next lines f → e ≡ f)
    → FollowBy width n rows (line ∷ lines) e → FollowBy width n rows (line ∷ lines) f → e ≡ f
one_step width n rows line lines e f same (inl x) (inl y) =
    same x.0 x.2 (subst (λ m. Follow width (n + 1) m lines f) (one_addition width rows y.0 x.0 line y.1 x.1) y.2)
one_step width n rows line lines e f same (inl x) (inr y) = absurd (y.0 x.0 x.1)
one_step width n rows line lines e f same (inr x) (inl y) = absurd (x.0 y.0 y.1)
one_step width n rows line lines e f same (inr x) (inr y) = x.1 ∙ sym y.1

one_end : (width n : ℕ) (rows : List (List (List ℕ))) (lines : List (List ℕ)) (e f : Result (List (List (List ℕ))) ℕ) → Follow width n rows lines e
    → Follow width n rows lines f → e ≡ f
one_end width n rows [] e f x y = follow_by width n rows [] e x ∙ sym (follow_by width n rows [] f y)
one_end width n rows (line ∷ lines) e f x y =
    one_step width n rows line lines e f (λ next. one_end width (n + 1) next lines e f) (follow_by width n rows (line ∷ lines) e x)
    (follow_by width n rows (line ∷ lines) f y)

-- ---- one table

-- how lines give an end, by how many there are
abbrev ThirdBy : List (List ℕ) → Result PlainTable ℕ → Type 0
ThirdBy [] end = end ≡ Err 3
ThirdBy (line ∷ lines) end =
    ((columns : List (List ℕ)) × (e : Result (List (List (List ℕ))) ℕ) × IsColumns line columns × Follow (length columns) 4 [] lines e
    × (end ≡ with_columns columns e)) ⊎ ((HasColumns line → ⊥) × (end ≡ Err 3))

abbrev SecondBy : List (List ℕ) → Result PlainTable ℕ → Type 0
SecondBy [] end = end ≡ Err 2
SecondBy (line ∷ lines) end = (IsSecond line × ThirdBy lines end) ⊎ ((IsSecond line → ⊥) × (end ≡ Err 2))

abbrev FirstBy : List (List ℕ) → Result PlainTable ℕ → Type 0
FirstBy [] end = end ≡ Err 1
FirstBy (line ∷ lines) end = (IsHeading line × SecondBy lines end) ⊎ ((IsHeading line → ⊥) × (end ≡ Err 1))

first_by_none : (lines : List (List ℕ)) → (FirstIs IsHeading lines → ⊥) → FirstBy lines (Err 1)
first_by_none [] never = refl
first_by_none (line ∷ lines) never = inr (never, refl)

second_by_none : (lines : List (List ℕ)) → (FirstIs IsSecond lines → ⊥) → SecondBy lines (Err 2)
second_by_none [] never = refl
second_by_none (line ∷ lines) never = inr (never, refl)

third_by_none : (lines : List (List ℕ)) → (FirstIs HasColumns lines → ⊥) → ThirdBy lines (Err 3)
third_by_none [] never = refl
third_by_none (line ∷ lines) never = inr (never, refl)

first_by : (lines : List (List ℕ)) (end : Result PlainTable ℕ) → Gives lines end → FirstBy lines end
first_by lines end (headless ls never) = first_by_none ls never
first_by lines end (no_second h ls is never) = inl (is, second_by_none ls never)
first_by lines end (no_columns h s ls is also never) = inl (is, inl (also, third_by_none ls never))
first_by lines end (headed h s line ls columns e is also are on) = inl (is, inl (also, inl (columns, e, are, on, refl)))

one_third : (lines : List (List ℕ)) (e f : Result PlainTable ℕ) → ThirdBy lines e → ThirdBy lines f → e ≡ f
one_third [] e f x y = x ∙ sym y
one_third (line ∷ lines) e f (inl x) (inl y) =
    let same : x.0 ≡ y.0 = one_saying Columns line x.0 y.0 x.2.says y.2.says in
    let ends : x.1 ≡ y.1 = one_end (length y.0) 4 [] lines x.1 y.1 (subst (λ c. Follow (length c) 4 [] lines x.1) same x.3) y.3 in
    x.4 ∙ ap (λ c. with_columns c x.1) same ∙ ap (with_columns y.0) ends ∙ sym y.4
one_third (line ∷ lines) e f (inl x) (inr y) = absurd (y.0 (x.0, x.2))
one_third (line ∷ lines) e f (inr x) (inl y) = absurd (x.0 (y.0, y.2))
one_third (line ∷ lines) e f (inr x) (inr y) = x.1 ∙ sym y.1

one_second : (lines : List (List ℕ)) (e f : Result PlainTable ℕ) → SecondBy lines e → SecondBy lines f → e ≡ f
one_second [] e f x y = x ∙ sym y
one_second (line ∷ lines) e f (inl x) (inl y) = one_third lines e f x.1 y.1
one_second (line ∷ lines) e f (inl x) (inr y) = absurd (y.0 x.0)
one_second (line ∷ lines) e f (inr x) (inl y) = absurd (x.0 y.0)
one_second (line ∷ lines) e f (inr x) (inr y) = x.1 ∙ sym y.1

one_first : (lines : List (List ℕ)) (e f : Result PlainTable ℕ) → FirstBy lines e → FirstBy lines f → e ≡ f
one_first [] e f x y = x ∙ sym y
one_first (line ∷ lines) e f (inl x) (inl y) = one_second lines e f x.1 y.1
one_first (line ∷ lines) e f (inl x) (inr y) = absurd (y.0 x.0)
one_first (line ∷ lines) e f (inr x) (inl y) = absurd (x.0 y.0)
one_first (line ∷ lines) e f (inr x) (inr y) = x.1 ∙ sym y.1

one_given : (bytes : List ℕ) (e f : Result PlainTable ℕ) → GivesOf bytes e → GivesOf bytes f → e ≡ f
one_given bytes e f x y = one_first (lines_of bytes) e f (first_by (lines_of bytes) e x) (first_by (lines_of bytes) f y)

same_table : (a b : PlainTable) → ◌≡◌ {A = Result PlainTable ℕ} (Ok a) (Ok b) → a ≡ b
same_table a b e = cc

same_line : (n m : ℕ) → ◌≡◌ {A = Result PlainTable ℕ} (Err n) (Err m) → n ≡ m
same_line n m e = cc

not_same : (a : PlainTable) (n : ℕ) → ◌≡◌ {A = Result PlainTable ℕ} (Ok a) (Err n) → ⊥
not_same a n e = cc

pub one_table : OneTable
one_table = record {
  one_table = λ bytes a b x y. same_table a b (one_given bytes (Ok a) (Ok b) x y);
  one_fault = λ bytes n m x y. same_line n m (one_given bytes (Err n) (Err m) x y);
  not_both = λ bytes a n x y. not_same a n (one_given bytes (Ok a) (Err n) x y);
}
