-- What the words of a line say, and what lines add to the rows.
use Rattle.std.proofs.Common.{◌≡◌, ℕ, ◌+◌, ◌<◌, ◌≤◌, length, Bool, true, false, not, ◌&&◌, ◌||◌, nat_lt, nat_le, true≢false, List, [], ◌∷◌, ◌++◌, map, Result, Ok, Err, IfOk, refl, sym, ap, ◌∙◌}
use Rattle.std.proofs.Common.{subst, arith, append_assoc, append-nil, length-append}
use Rattle.std.proofs.lemmas.Bool.Decides.{nat_tests}
use Rattle.std.proofs.lemmas.List.{length-map}
use Rattle.std.specs.List.{list_any}
use Rattle.table_2da.specs.declared.words.Part.{Part}
use Rattle.table_2da.specs.declared.words.Part.TheVariants.{Columns, Row}
use Rattle.table_2da.specs.Words.{AreBlanks, PlainWord, BeginsWith, Words, none, more, text_in, Says}
use Rattle.table_2da.specs.Fronts.{IsOpen}
use Rattle.table_2da.specs.Grammar.{AddsCells, Adds, nothing, row, row_limit, column_limit, are_distinct, are_columns, IsColumns}
use Rattle.table_2da.specs.Ranges.{bytes_at, cells_at, rows_at, StandsAt, SaysFew}
use Rattle.table_2da.specs.declared.range.Range.{Range}
use Rattle.table_2da.specs.Look.{same_name}
use Rattle.table_2da.specs.Steps.{Took}
use Rattle.table_2da.proofs.FrontLemmas.{blanks_begin, open_begins, open_blanks, one_front}

-- ---- words so far

-- words of a line that begins with so many others
pub record Further (rest : List ℕ) (before : ℕ) (words : List PlainWord) : Type 0 where
  pub further : List PlainWord
  pub are : Words rest further
  pub count : length words ≡ before + length further

-- Words further on are words of the whole line, behind those whose texts were read; and a line that
-- is made of words is made of some further on.
pub record SaysSoFar (part : Part) (line rest : List ℕ) (texts : List (List ℕ)) : Type 0 where
  pub goes : (words : List PlainWord) → Words rest words → Says part line (texts ++ map (text_in part) words)
  pub back : (words : List PlainWord) → Words line words → Further rest (length texts) words

pub says_nothing_yet : (part : Part) (line : List ℕ) → SaysSoFar part line line []
says_nothing_yet part line = record {
  goes = λ words w. record { words = words; are = w; say = refl };
  back = λ words w. record { further = words; are = w; count = omega arith };
}

-- the words behind the first
rest_by : (line rest after : List ℕ) (v w : PlainWord) (words : List PlainWord) → BeginsWith line v rest → BeginsWith line w after → Words after words
    → Words rest words
rest_by line rest after v w words a b more_words = subst (λ r. Words r words) (sym (one_front line v w rest after a b).rests) more_words

words_behind : (line : List ℕ) (words : List PlainWord) (rest : List ℕ) (word : PlainWord) → BeginsWith line word rest → Words line words
    → Further rest 1 words
words_behind line words rest word begins (none l blank) = absurd (blanks_begin line word rest blank begins)
words_behind line words rest word begins (more l r w ws b on) =
    record { further = ws; are = rest_by line rest r word w ws begins b on; count = omega arith }

one_longer : (texts : List (List ℕ)) (text : List ℕ) → length (texts ++ text ∷ []) ≡ length texts + 1
one_longer texts text = omega (arith, length-append texts (text ∷ []))

pub says_on : (part : Part) (line rest after : List ℕ) (word : PlainWord) (texts : List (List ℕ)) (text : List ℕ) → BeginsWith rest word after
    → text ≡ text_in part word → SaysSoFar part line rest texts → SaysSoFar part line after (texts ++ text ∷ [])
says_on part line rest after word texts text begins is so = record {
  goes = λ words w.
      let whole : Says part line (texts ++ map (text_in part) (word ∷ words)) = so.goes (word ∷ words) (more rest after word words begins w) in
      let same : (texts ++ text ∷ []) ++ map (text_in part) words ≡ texts ++ map (text_in part) (word ∷ words)
      = append_assoc texts (text ∷ []) (map (text_in part) words) ∙ ap (λ t. texts ++ t ∷ map (text_in part) words) is
      in record { words = whole.words; are = whole.are; say = same ∙ whole.say };
  back = λ words w.
      let more_words = so.back words w in
      let behind = words_behind rest more_words.further after word begins more_words.are in
      record { further = behind.further; are = behind.are; count = omega (arith, more_words.count, behind.count, one_longer texts text) };
}

pub says_all : (part : Part) (line rest : List ℕ) (texts : List (List ℕ)) → AreBlanks rest → SaysSoFar part line rest texts → Says part line texts
says_all part line rest texts blank so =
    let whole = so.goes [] (none rest blank) in record { words = whole.words; are = whole.are; say = sym (append-nil texts) ∙ whole.say }

-- a line has no more words than were asked for, if it has so many already and one more
pub says_many : (part : Part) (most : ℕ) (line rest after : List ℕ) (word : PlainWord) (texts said : List (List ℕ)) → BeginsWith rest word after
    → most ≤ length texts → SaysSoFar part line rest texts → SaysFew part most line said → ⊥
says_many part most line rest after word texts said begins many so says =
    let more_words = so.back says.says.words says.says.are in
    let behind = words_behind rest more_words.further after word begins more_words.are in
    let count = ap length says.says.say ∙ length-map says.says.words (text_in part) in
    absurd (omega (arith, more_words.count, behind.count, count, says.few, many))

open_words : (line : List ℕ) (words : List PlainWord) → IsOpen line → Words line words → ⊥
open_words line words o (none l blank) = open_blanks line o blank
open_words line words o (more l r w ws b on) = open_begins line w r o b

pub says_none : (part : Part) (line rest : List ℕ) (texts said : List (List ℕ)) → IsOpen rest → SaysSoFar part line rest texts → Says part line said → ⊥
says_none part line rest texts said o so says =
    let more_words = so.back says.words says.are in open_words rest more_words.further o more_words.are

-- ---- one list of words

pub one_words : (line : List ℕ) (a b : List PlainWord) → Words line a → Words line b → a ≡ b
one_words line a b (none l blank) (none k also) = refl
one_words line a b (none l blank) (more k r w ws begins on) = absurd (blanks_begin line w r blank begins)
one_words line a b (more l r w ws begins on) (none k blank) = absurd (blanks_begin line w r blank begins)
one_words line a b (more l r v vs begins on) (more k s w ws also further) =
    let same = one_front line v w r s begins also in
    ap (λ x. x ∷ vs) same.words ∙ ap (λ xs. w ∷ xs) (one_words r vs ws on (subst (λ x. Words x ws) (sym same.rests) further))

pub one_saying : (part : Part) (line : List ℕ) (a b : List (List ℕ)) → Says part line a → Says part line b → a ≡ b
one_saying part line a b x y = x.say ∙ ap (map (text_in part)) (one_words line x.words y.words x.are y.are) ∙ sym y.say

-- ---- columns

named_at : (file name : List ℕ) (ranges : List Range)
    → list_any (λ range. same_name (bytes_at file range) name) ranges ≡ list_any (λ other. same_name other name) (cells_at file ranges)
named_at file name [] = refl
named_at file name (r ∷ ranges) = ap (λ t. same_name (bytes_at file r) name || t) (named_at file name ranges)

pub distinct_more : (file : List ℕ) (rest others names : List Range) (name : Range) (given : List ℕ) (t : Bool) → rest ≡ name ∷ others
    → given ≡ bytes_at file name → t ≡ list_any (λ column. same_name (bytes_at file column) given) others → t ≡ false
    → are_distinct (cells_at file rest) ≡ are_distinct (cells_at file names) → are_distinct (cells_at file others) ≡ are_distinct (cells_at file names)
unfolding are_distinct
distinct_more file rest others names name given t is same test other so =
    let apart : list_any (λ o. same_name o (bytes_at file name)) (cells_at file others) ≡ false
    = ap (λ n. list_any (λ o. same_name o n) (cells_at file others)) (sym same) ∙ sym (named_at file given others) ∙ sym test ∙ other
    in sym (ap (λ rs. are_distinct (cells_at file rs)) is ∙ ap (λ b. not b && are_distinct (cells_at file others)) apart) ∙ so

pub distinct_stop : (file : List ℕ) (rest others names : List Range) (name : Range) (given : List ℕ) (t : Bool) → rest ≡ name ∷ others
    → given ≡ bytes_at file name → t ≡ list_any (λ column. same_name (bytes_at file column) given) others → t ≡ true
    → are_distinct (cells_at file rest) ≡ are_distinct (cells_at file names) → false ≡ are_distinct (cells_at file names)
unfolding are_distinct
distinct_stop file rest others names name given t is same test found so =
    let again : list_any (λ o. same_name o (bytes_at file name)) (cells_at file others) ≡ true
    = ap (λ n. list_any (λ o. same_name o n) (cells_at file others)) (sym same) ∙ sym (named_at file given others) ∙ sym test ∙ found
    in sym (ap (λ rs. are_distinct (cells_at file rs)) is ∙ ap (λ b. not b && are_distinct (cells_at file others)) again) ∙ so

pub distinct_end : (file : List ℕ) (rest names : List Range) → length rest ≡ 0
    → are_distinct (cells_at file rest) ≡ are_distinct (cells_at file names) → true ≡ are_distinct (cells_at file names)
unfolding are_distinct
distinct_end file [] names e so = so
distinct_end file (name ∷ rest) names e so = absurd (omega arith)

few_by : (a b c : Bool) → (a && b && c) ≡ true → b ≡ true
few_by true true c e = refl
few_by true false c e = absurd cc
few_by false b c e = absurd cc

-- columns are few
columns_few : (names : List (List ℕ)) → are_columns names ≡ true → length names ≤ column_limit
unfolding are_columns
columns_few names e =
    let test : nat_le (length names) column_limit ≡ true = few_by (nat_lt 0 (length names)) (nat_le (length names) column_limit) (are_distinct names) e
    in grind (arith, nat_tests)

pub columns_unsaid : (line : List ℕ) → ((t : List (List ℕ)) → SaysFew Columns column_limit line t → ⊥) → (columns : List (List ℕ)) → IsColumns line columns → ⊥
columns_unsaid line never columns is = never columns (record { says = is.says; few = columns_few columns is.are })

pub columns_refused : (line : List ℕ) (names columns : List (List ℕ)) → Says Columns line names → are_columns names ≡ false → IsColumns line columns → ⊥
columns_refused line names columns says e is =
    true≢false (sym is.are ∙ ap are_columns (one_saying Columns line columns names is.says says) ∙ e)

-- ---- rows

pub one_adding : (width : ℕ) (rows a b : List (List (List ℕ))) (line : List ℕ) → AddsCells width rows line a → AddsCells width rows line b → a ≡ b
one_adding width rows a b line x y =
    x.is ∙ ap (λ cells. rows ++ cells ∷ []) (one_saying Row line x.cells y.cells x.says y.says) ∙ sym y.is

pub one_addition : (width : ℕ) (rows a b : List (List (List ℕ))) (line : List ℕ) → Adds width rows line a → Adds width rows line b → a ≡ b
one_addition width rows a b line (nothing l blank) (nothing k also) = refl
one_addition width rows a b line (nothing l blank) (row k r w x begins adds) = absurd (blanks_begin line w r blank begins)
one_addition width rows a b line (row l r w x begins adds) (nothing k blank) = absurd (blanks_begin line w r blank begins)
one_addition width rows a b line (row l r v x begins adds) (row k s w y also more_adds) =
    one_adding width rows a b r adds (subst (λ z. AddsCells width rows z b) (sym (one_front line v w r s begins also).rests) more_adds)

-- a line whose cells can't be added adds nothing
pub adds_none : (width : ℕ) (rows after : List (List (List ℕ))) (line rest : List ℕ) (word : PlainWord) → BeginsWith line word rest
    → ((a : List (List (List ℕ))) → AddsCells width rows rest a → ⊥) → Adds width rows line after → ⊥
adds_none width rows after line rest word begins never (nothing l blank) = blanks_begin line word rest blank begins
adds_none width rows after line rest word begins never (row l s w x also adds) =
    never after (subst (λ z. AddsCells width rows z after) (sym (one_front line word w rest s begins also).rests) adds)

pub open_adds : (width : ℕ) (rows after : List (List (List ℕ))) (line : List ℕ) → IsOpen line → Adds width rows line after → ⊥
open_adds width rows after line o (nothing l blank) = open_blanks line o blank
open_adds width rows after line o (row l s w x begins adds) = open_begins line w s o begins

pub cells_unsaid : (width : ℕ) (rows after : List (List (List ℕ))) (line : List ℕ) → ((t : List (List ℕ)) → SaysFew Row width line t → ⊥)
    → AddsCells width rows line after → ⊥
cells_unsaid width rows after line never adds = never adds.cells (record { says = adds.says; few = adds.few })

pub rows_full : (width : ℕ) (rows after : List (List (List ℕ))) (line : List ℕ) → row_limit ≤ length rows → AddsCells width rows line after → ⊥
rows_full width rows after line full adds = let room = adds.room in absurd (omega (arith, room, full))

pub cells_added : (width : ℕ) (rows after : List (List (List ℕ))) (line : List ℕ) (cells : List (List ℕ)) → SaysFew Row width line cells
    → length rows < row_limit → after ≡ rows ++ cells ∷ [] → AddsCells width rows line after
cells_added width rows after line cells said room is = record { cells = cells; says = said.says; few = said.few; room = room; is = is }

pub cells_count : (file : List ℕ) (ranges : List Range) → length (cells_at file ranges) ≡ length ranges
cells_count file ranges = length-map ranges (bytes_at file)

pub rows_count : (file : List ℕ) (rows : List (List Range)) → length (rows_at file rows) ≡ length rows
rows_count file rows = length-map rows (cells_at file)

pub rows_last : (file : List ℕ) (rows : List (List Range)) (cells : List Range) → rows_at file (rows ++ cells ∷ []) ≡ rows_at file rows ++ cells_at file cells ∷ []
rows_last file [] cells = refl
rows_last file (r ∷ rows) cells = ap (λ rs. cells_at file r ∷ rs) (rows_last file rows cells)

-- what could be done with the cells behind a row's first word could be done with its line
took_by : (width : ℕ) (rows new : List (List (List ℕ))) (line rest : List ℕ) (word : PlainWord) (took : Bool)
    → BeginsWith line word rest → Took (AddsCells width rows rest) took new → Took (Adds width rows line) took new
took_by width rows new line rest word true begins took = row line rest word new begins took
took_by width rows new line rest word false begins took = λ after adds. adds_none width rows after line rest word begins took adds

-- what could be done in each file in which the row's cells stand further on could be done in each
-- in which its line stands
pub row_took : {E : Type 0} (width place further : ℕ) (rows new : List (List Range)) (line rest : List ℕ) (word : PlainWord) (r : Result Bool E)
    → BeginsWith line word rest → ((file : List ℕ) → StandsAt file place line → StandsAt file further rest)
    → IfOk r (λ took. (file : List ℕ) → StandsAt file further rest → Took (AddsCells width (rows_at file rows) rest) took (rows_at file new))
    → IfOk r (λ took. (file : List ℕ) → StandsAt file place line → Took (Adds width (rows_at file rows) line) took (rows_at file new))
row_took width place further rows new line rest word (Ok took) begins behind h =
    λ file s. took_by width (rows_at file rows) (rows_at file new) line rest word took begins (h file (behind file s))
row_took width place further rows new line rest word (Err e) begins behind h = tt
