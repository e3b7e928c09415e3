-- What can follow the entries of an open body depends neither on them nor on what stands before.
use Rattle.std.proofs.Common.{◌≡◌, ◌≢◌, ◌∙◌, ℕ, zero, suc, ◌+◌, ◌-◌, ◌<◌, ◌≤◌, ◌⊎◌, Bool, true, false, List, [], ◌∷◌, ◌++◌, length, length-append, append_assoc, append-nil, Option, Some, refl, sym, ap, subst, arith}
use Rattle.nss_tree.specs.Source.{SourceItem, SourceItems, SourceParameter, SourceStmt, SourceStmts}
use Rattle.nss_tree.specs.declared.constants.TypeName.{TypeName}
use Rattle.nss_tree.specs.Statements as stmt
use Rattle.nss_tree.specs.Statements.{joined_stmts}
use Rattle.nss_tree.specs.Units as unit
use Rattle.nss_symbols.specs.declared.terminal.Terminal.TheVariants as terminal
use Rattle.nss_symbols.specs.Symbols as symbol
use Rattle.nss_symbols.specs.Symbols.{Symbol, Numbered, at, fixed, numbered_from}
use Rattle.nss_symbols.specs.Outcome.{Outcome, Got, Stuck, Deep, Parser, and_then, pure, same_terminal, sees, first, take}
use Rattle.nss_parser.specs.Grammar.{TypeTokens, Entry, Entries}
use Rattle.nss_parser.specs.Grammar as grammar
use Rattle.nss_parser.specs.Unit.{Parameters, Item, Items}
use Rattle.nss_parser.specs.Unit as spelled
use Rattle.nss_parser.specs.ReadStatement.{entries_from, entries, statement}
use Rattle.nss_parser.specs.ReadUnit.{parameters, body, function, item}
use Rattle.nss_parser.specs.Sentence.{IsPrefix}
use Rattle.nss_parser.specs.Front.{IsOpenBody, OpenBodiesAlike}
use Rattle.nss_parser.proofs.Right.{RightOf, Viable, terminal_same, numbered_append}
use Rattle.nss_parser.proofs.ExpressionFacts.{starts_append}
use Rattle.nss_parser.proofs.DeclarationComplete.{no_fixed}
use Rattle.nss_parser.proofs.StatementComplete.{begins_entry, starts_entry, complete_entry, next_entry}
use Rattle.nss_parser.proofs.StatementRight.{Braced, braced, right_statement, right_entries_from}
use Rattle.nss_parser.proofs.UnitComplete.{complete_item, complete_parameter_list, opens_function, type_item}
use Rattle.nss_parser.proofs.Whole.{body_reads}
use Rattle.nss_parser.proofs.Behind.{items_join, items_rest}

-- ---- the last token of a list

last_same : (a xs : List Numbered) (l s : Numbered) → a ++ l ∷ [] ≡ xs ++ s ∷ [] → (a ≡ xs) × (l ≡ s)
last_same [] [] l s e = (refl, cc)
last_same [] (x ∷ xs) l s e = absurd (let n = ap length e in let m = length-append xs (s ∷ []) in omega arith)
last_same (a ∷ more) [] l s e = absurd (let n = ap length e in let m = length-append more (l ∷ []) in omega arith)
last_same (a ∷ more) (x ∷ xs) l s e =
    let tail : more ++ l ∷ [] ≡ xs ++ s ∷ [] = cc in
    let head : a ≡ x = cc in
    let (same, last) = last_same more xs l s tail in (cc, last)

last_of : (r : Numbered) (rs : List Numbered) → (start : List Numbered) × (l : Numbered) × (r ∷ rs ≡ start ++ l ∷ [])
last_of r [] = ([], r, refl)
last_of r (q ∷ qs) = let (start, l, is) = last_of q qs in (r ∷ start, l, ap (λ (z : List Numbered). r ∷ z) is)

record Ends (zs : List Numbered) (l : Numbered) : Type 0 where
  pub start : List Numbered
  pub is : zs ≡ start ++ l ∷ []

ends_one : (l : Numbered) → Ends (l ∷ []) l
ends_one l = record { start = []; is = refl }

ends_behind : (x : Numbered) {zs : List Numbered} {l : Numbered} → Ends zs l → Ends (x ∷ zs) l
ends_behind x e = record { start = x ∷ e.start; is = ap (λ (z : List Numbered). x ∷ z) e.is }

ends_after : (xs : List Numbered) {zs : List Numbered} {l : Numbered} → Ends zs l → Ends (xs ++ zs) l
ends_after xs {l = l} e = record { start = xs ++ e.start; is = ap (λ (z : List Numbered). xs ++ z) e.is ∙ sym (append_assoc xs e.start (l ∷ [])) }

no_brace : {zs : List Numbered} (k : ℕ) (xs : List Numbered) (s : Numbered) → Ends zs (fixed k terminal.Semicolon) → zs ≡ xs ++ s ∷ []
    → s.symbol ≡ symbol.Fixed terminal.CloseBrace → ⊥
no_brace k xs s end e h =
    let (start, last) = last_same end.start xs (fixed k terminal.Semicolon) s (sym end.is ∙ e) in
    let bad : symbol.Fixed terminal.Semicolon ≡ symbol.Fixed terminal.CloseBrace = ap (λ (z : Numbered). z.symbol) last ∙ h in cc

-- ---- a function up to the `{` of its body

record Opening : Type 0 where
  pub number : ℕ
  pub name_number : ℕ
  pub open_number : ℕ
  pub close_number : ℕ
  pub brace_number : ℕ
  pub name : List ℕ
  pub kind : TypeName
  pub kind_tokens : List Numbered
  pub typed : TypeTokens number kind kind_tokens
  pub all : List SourceParameter
  pub tokens : List Numbered
  pub parameters_are : Parameters all tokens

abbrev behind_name : Opening → List Numbered → List Numbered
behind_name o i = o.tokens ++ fixed o.close_number terminal.Close ∷ fixed o.brace_number terminal.OpenBrace ∷ i

abbrev opens : Opening → List Numbered → List Numbered
opens o i = o.kind_tokens ++ at o.name_number (symbol.Name o.name) ∷ fixed o.open_number terminal.Open ∷ behind_name o i

opens_append : (o : Opening) (x y : List Numbered) → opens o (x ++ y) ≡ opens o x ++ y
opens_append o x y = sym (
    append_assoc o.kind_tokens (at o.name_number (symbol.Name o.name) ∷ fixed o.open_number terminal.Open ∷ behind_name o x) y
    ∙ ap (λ (z : List Numbered). o.kind_tokens ++ at o.name_number (symbol.Name o.name) ∷ fixed o.open_number terminal.Open ∷ z)
    (append_assoc o.tokens (fixed o.close_number terminal.Close ∷ fixed o.brace_number terminal.OpenBrace ∷ x) y))

function_of : (o : Opening) {all : SourceStmts} {xs : List Numbered} → Braced false all xs
    → Item (unit.function o.name_number o.kind o.name o.all (Some all)) (opens o xs)
function_of o (braced k h) = spelled.function o.number o.name_number o.open_number o.close_number o.name o.typed o.parameters_are (spelled.block o.brace_number k h)

-- ---- tokens that are whole items with a `}` behind them

record IsOpen (xs : List Numbered) : Type 0 where
  pub front : List Numbered
  pub items : SourceItems
  pub before : Items items front
  pub opening : Opening
  pub stmts : SourceStmts
  pub body : List Numbered
  pub entries : Entries false stmts body
  pub is : xs ≡ front ++ opens opening body

open_item : {x : SourceItem} {zs : List Numbered} → Item x zs → (xs : List Numbered) (s : Numbered) → zs ≡ xs ++ s ∷ []
    → s.symbol ≡ symbol.Fixed terminal.CloseBrace → IsOpen xs
open_item (spelled.structure {xs = ls} a n b c d f hs) xs s e h =
    let end = ends_behind (fixed a terminal.Struct) (ends_behind (at n (symbol.Name f)) (ends_behind (fixed b terminal.OpenBrace)
    (ends_after ls (ends_behind (fixed c terminal.CloseBrace) (ends_one (fixed d terminal.Semicolon)))))) in
    absurd (no_brace d xs s end e h)
open_item (spelled.constant {ts = ts} {cs = cs} a n k b d f typ hs) xs s e h =
    let end = ends_behind (fixed a terminal.Const) (ends_after ts (ends_behind (at k (symbol.Name f)) (ends_behind (fixed b terminal.Assign)
    (ends_after cs (ends_one (fixed d terminal.Semicolon)))))) in
    absurd (no_brace d xs s end e h)
open_item (spelled.global {ts = ts} {xs = ns} n k typ hs) xs s e h =
    absurd (no_brace k xs s (ends_after ts (ends_after ns (ends_one (fixed k terminal.Semicolon)))) e h)
open_item (spelled.function {ts = ts} {xs = ps} n k a b f typ hs (spelled.prototype c)) xs s e h =
    let end = ends_after ts (ends_behind (at k (symbol.Name f)) (ends_behind (fixed a terminal.Open)
    (ends_after ps (ends_behind (fixed b terminal.Close) (ends_one (fixed c terminal.Semicolon)))))) in
    absurd (no_brace c xs s end e h)
open_item (spelled.function {t = t} {all = all} {ts = ts} {xs = ps} n k a b f typ hs (spelled.block {all = stmts} {xs = inner} c d es)) xs s e h =
    let o : Opening = record {
      number = n;
      name_number = k;
      open_number = a;
      close_number = b;
      brace_number = c;
      name = f;
      kind = t;
      kind_tokens = ts;
      typed = typ;
      all = all;
      tokens = ps;
      parameters_are = hs;
    } in
    let (same, last) = last_same (opens o inner) xs (fixed d terminal.CloseBrace) s (sym (opens_append o inner (fixed d terminal.CloseBrace ∷ [])) ∙ e) in
    record { front = []; items = []; before = spelled.none; opening = o; stmts = stmts; body = inner; entries = es; is = sym same }

by_rest : {x : SourceItem} {one : List Numbered} → Item x one → (rest xs : List Numbered) (s : Numbered) → one ++ rest ≡ xs ++ s ∷ []
    → s.symbol ≡ symbol.Fixed terminal.CloseBrace
    → ((start : List Numbered) (l : Numbered) → rest ≡ start ++ l ∷ [] → l.symbol ≡ symbol.Fixed terminal.CloseBrace → IsOpen start) → IsOpen xs
by_rest {one = one} p [] xs s e h next = open_item p xs s (sym (append-nil one) ∙ e) h
by_rest {x = x} {one = one} p (r ∷ rs) xs s e h next =
    let (start, l, whole) = last_of r rs in
    let (same, last) = last_same (one ++ start) xs l s (append_assoc one start (l ∷ []) ∙ ap (λ (z : List Numbered). one ++ z) (sym whole) ∙ e) in
    let inner = next start l whole (ap (λ (z : Numbered). z.symbol) last ∙ h) in
    record {
      front = one ++ inner.front;
      items = x ∷ inner.items;
      before = spelled.more p inner.before;
      opening = inner.opening;
      stmts = inner.stmts;
      body = inner.body;
      entries = inner.entries;
      is = sym same ∙ ap (λ (z : List Numbered). one ++ z) inner.is ∙ sym (append_assoc one inner.front (opens inner.opening inner.body));
    }

last_open : {all : SourceItems} {zs : List Numbered} → Items all zs → (xs : List Numbered) (s : Numbered) → zs ≡ xs ++ s ∷ []
    → s.symbol ≡ symbol.Fixed terminal.CloseBrace → IsOpen xs
last_open spelled.none xs s e h = absurd (let n = ap length e in let m = length-append xs (s ∷ []) in omega arith)
last_open (spelled.more {ys = rest} p ps) xs s e h = by_rest p rest xs s e h (λ start l whole last. last_open ps start l whole last)

-- ---- reading behind entries

no_else_behind : {labels : Bool} {all : SourceStmts} {xs : List Numbered} → Entries labels all xs → (i : List Numbered) → sees terminal.Else i ≡ false → sees terminal.Else (xs ++ i) ≡ false
no_else_behind grammar.none i shut = shut
no_else_behind (grammar.more {xs = xs} {ys = ys} e es) i shut =
    no_fixed begins_entry terminal.Else refl ((xs ++ ys) ++ i) (starts_append begins_entry (xs ++ ys) i (starts_append begins_entry xs ys (starts_entry e)))

-- what a body has behind some entries
record Rest (labels : Bool) (i rest : List Numbered) : Type 0 where
  pub tokens : List Numbered
  pub stmts : SourceStmts
  pub is : i ≡ tokens ++ rest
  pub braced : Braced labels stmts tokens

rest_got : (e t : ℕ) (labels : Bool) (before : SourceStmts) (i : List Numbered) (x : SourceStmts) (rest : List Numbered)
    → entries_from e (statement e) labels t before i ≡ Got x rest → Rest labels i rest
rest_got e t labels before i x rest got =
    let (ys, is, p) = subst (λ (o : Outcome SourceStmts). RightOf (λ all xs rest. (more : SourceStmts) × (all ≡ joined_stmts before more) × Braced labels more xs) (Viable (Braced labels)) ((t ≤ length i) ⊎ (e ≤ suc (length i))) i o)
    got (right_entries_from e (statement e) (λ k. right_statement e k) labels t before i).by in
    let (more, same, h) = p in
    record { tokens = ys; stmts = more; is = is; braced = h }

rest_read : {labels : Bool} {all : SourceStmts} {xs : List Numbered} → Entries labels all xs → (e t : ℕ) (before : SourceStmts) (i : List Numbered) (x : SourceStmts) (rest : List Numbered)
    → sees terminal.Else i ≡ false → suc (length (xs ++ i)) < e → entries_from e (statement e) labels t before (xs ++ i) ≡ Got x rest → Rest labels i rest
rest_read (grammar.none {labels = labels}) e t before i x rest shut lt got = rest_got e t labels before i x rest got
rest_read (grammar.more h es) e zero before i x rest shut lt got = absurd (let bad : Deep ≡ Got x rest = got in cc)
rest_read (grammar.more {labels = labels} {s = s} {all = all} {xs = xs} {ys = ys} h es) e (suc t) before i x rest shut lt got =
    let regroup = append_assoc xs ys i in
    let again = ap length regroup in
    let long = length-append xs (ys ++ i) in
    let step : entries_from e (statement e) labels (suc t) before (xs ++ (ys ++ i)) ≡ entries_from e (statement e) labels t (joined_stmts before (stmt.more_stmts s stmt.no_stmt)) (ys ++ i) =
    next_entry e (statement e) labels t before s (xs ++ (ys ++ i)) (ys ++ i)
    (no_fixed begins_entry terminal.CloseBrace refl (xs ++ (ys ++ i)) (starts_append begins_entry xs (ys ++ i) (starts_entry h)))
    (complete_entry h e (ys ++ i) (no_else_behind es i shut) (omega (arith, again))) in
    rest_read es e t (joined_stmts before (stmt.more_stmts s stmt.no_stmt)) i x rest shut (omega (arith, again, long))
    (sym step ∙ ap (entries_from e (statement e) labels (suc t) before) (sym regroup) ∙ got)

-- ---- reading of a function

got_of : {A B : Type 0} (o : Outcome B) (f : B → A) (y : A) (rest : List Numbered) → and_then o (λ b. pure (f b)) ≡ Got y rest → (b : B) × (o ≡ Got b rest)
got_of (Got b left) f y rest e = let same : left ≡ rest = cc in (b, ap (Got b) same)
got_of (Stuck left) f y rest e = absurd (let bad : Stuck left ≡ Got y rest = e in cc)
got_of Deep f y rest e = absurd (let bad : Deep ≡ Got y rest = e in cc)

body_got : (d n : ℕ) (inner : Parser SourceStmts) (i : List Numbered) (x : Option SourceStmts) (rest : List Numbered)
    → body d inner (fixed n terminal.OpenBrace ∷ i) ≡ Got x rest → (all : SourceStmts) × (inner i ≡ Got all rest)
unfolding body first take same_terminal
body_got d n inner i x rest e = got_of (inner i) Some x rest e

function_got : (d a n : ℕ) (inner : Parser SourceStmts) (t : TypeName) (k : ℕ) (f : List ℕ) (all : List SourceParameter) (i j : List Numbered) (x : SourceItem) (rest : List Numbered)
    → parameters d i ≡ Got all (fixed n terminal.OpenBrace ∷ j)
    → function d inner t (record { token = k; name = f }) (fixed a terminal.Open ∷ i) ≡ Got x rest
    → (stmts : SourceStmts) × (inner j ≡ Got stmts rest)
unfolding function take
function_got d a n inner t k f all i j x rest ps e =
    let whole : and_then (body d inner (fixed n terminal.OpenBrace ∷ j)) (λ b. pure (unit.function k t f all b)) ≡ Got x rest =
    sym (ap (λ (o : Outcome (List SourceParameter)). and_then o (λ all i. and_then (body d inner i) (λ b. pure (unit.function k t f all b)))) ps) ∙ e in
    let (b, is) = got_of (body d inner (fixed n terminal.OpenBrace ∷ j)) (unit.function k t f all) x rest whole in
    body_got d n inner j b rest is

opened : (o : Opening) (d : ℕ) (i : List Numbered) (x : SourceItem) (rest : List Numbered) → suc (length (opens o i)) < d
    → item d (entries d (statement d) false) (opens o i) ≡ Got x rest → (all : SourceStmts) × (entries d (statement d) false i ≡ Got all rest)
opened o d i x rest lt e =
    let inner = entries d (statement d) false in
    let long = length-append o.kind_tokens (at o.name_number (symbol.Name o.name) ∷ fixed o.open_number terminal.Open ∷ behind_name o i) in
    let ps : parameters d (behind_name o i) ≡ Got o.all (fixed o.brace_number terminal.OpenBrace ∷ i) =
    complete_parameter_list o.parameters_are d o.close_number (fixed o.brace_number terminal.OpenBrace ∷ i) (omega (arith, long)) in
    let one = type_item d (d - 1) (omega arith) (entries d (statement d) false) (body_reads d) o.typed o.name_number o.name (fixed o.open_number terminal.Open ∷ behind_name o i) in
    let two = opens_function d (d - 1) (omega arith) (entries d (statement d) false) (body_reads d) o.number o.name_number o.open_number o.kind o.name (behind_name o i) in
    function_got d o.open_number o.brace_number (entries d (statement d) false) o.kind o.name_number o.name o.all (behind_name o i) i x rest ps (sym (one ∙ two) ∙ e)

-- what an open body and the items behind it have behind its entries
record Left (i : List Numbered) : Type 0 where
  pub left : List Numbered
  pub items : SourceItems
  pub are_items : Items items left
  pub rest : Rest false i left

entries_got : (d : ℕ) {all : SourceStmts} {xs : List Numbered} → Entries false all xs → (i : List Numbered) (x : SourceStmts) (rest : List Numbered)
    → sees terminal.Else i ≡ false → suc (length (xs ++ i)) < d → entries d (statement d) false (xs ++ i) ≡ Got x rest → Rest false i rest
unfolding entries
entries_got d es i x rest shut lt got = rest_read es d d stmt.no_stmt i x rest shut lt got

open_rest : (o : Opening) {stmts : SourceStmts} {xs : List Numbered} → Entries false stmts xs → (i : List Numbered) → sees terminal.Else i ≡ false
    → {all : SourceItems} {zs : List Numbered} → Items all zs → zs ≡ opens o (xs ++ i) → Left i
open_rest o {xs = xs} es i shut spelled.none e =
    absurd (let n = ap length e in let m = length-append o.kind_tokens (at o.name_number (symbol.Name o.name) ∷ fixed o.open_number terminal.Open ∷ behind_name o (xs ++ i)) in omega (arith, n, m))
open_rest o {xs = xs} es i shut (spelled.more {x = x} {all = all} {xs = one} {ys = js} p ps) e =
    let d = suc (suc (suc (length (one ++ js)))) in
    let n : length (one ++ js) ≡ length (opens o (xs ++ i)) = ap length e in
    let m = length-append o.kind_tokens (at o.name_number (symbol.Name o.name) ∷ fixed o.open_number terminal.Open ∷ behind_name o (xs ++ i)) in
    let l = length-append o.tokens (fixed o.close_number terminal.Close ∷ fixed o.brace_number terminal.OpenBrace ∷ (xs ++ i)) in
    let a : item d (entries d (statement d) false) (one ++ js) ≡ Got x js =
    complete_item d (d - 1) (omega arith) (entries d (statement d) false) (body_reads d) p js (omega arith) in
    let (stmts, got) = opened o d (xs ++ i) x js (omega (arith, n)) (ap (item d (entries d (statement d) false)) (sym e) ∙ a) in
    record { left = js; items = all; are_items = ps; rest = entries_got d es i stmts js shut (omega (arith, n, m, l)) got }

-- ---- one open body for another

braced_behind : {labels : Bool} {all : SourceStmts} {xs : List Numbered} → Entries labels all xs → {more : SourceStmts} {ys : List Numbered} → Braced labels more ys
    → (whole : SourceStmts) × Braced labels whole (xs ++ ys)
braced_behind grammar.none {more = more} b = (more, b)
braced_behind {labels = labels} (grammar.more {s = s} {all = all} {xs = xs} {ys = ys} h es) {ys = zs} b =
    let (whole, w) = braced_behind es b in
    (stmt.more_stmts s whole, subst (λ (l : List Numbered). Braced labels (stmt.more_stmts s whole) l) (sym (append_assoc xs ys zs)) (braced_more h w))
  where
    braced_more : {labels : Bool} {s : SourceStmt} {xs : List Numbered} → Entry labels s xs
        → {all : SourceStmts} {ys : List Numbered} → Braced labels all ys → Braced labels (stmt.more_stmts s all) (xs ++ ys)
    braced_more {labels = labels} {s = s} {xs = xs} h (braced {all = all} {xs = ws} k es) =
        subst (λ (z : List Numbered). Braced labels (stmt.more_stmts s all) z) (append_assoc xs ws (fixed k terminal.CloseBrace ∷ [])) (braced k (grammar.more h es))

-- tokens behind the `{` of an open body, and what stands before it, stand behind the whole
regroup : (o : Opening) (front inner xs : List Numbered) → xs ≡ front ++ opens o inner → (i : List Numbered) → front ++ opens o (inner ++ i) ≡ xs ++ i
regroup o front inner xs is i =
    ap (λ (l : List Numbered). front ++ l) (opens_append o inner i) ∙ sym (append_assoc front (opens o inner) i) ∙ ap (λ (l : List Numbered). l ++ i) (sym is)

regroup_rest : (o : Opening) (inner tokens left i : List Numbered) → i ≡ tokens ++ left → opens o (inner ++ tokens) ++ left ≡ opens o (inner ++ i)
regroup_rest o inner tokens left i is =
    sym (opens_append o (inner ++ tokens) left) ∙ ap (opens o) (append_assoc inner tokens left ∙ ap (λ (l : List Numbered). inner ++ l) (sym is))

-- items with these tokens behind an open body are items with them behind another
other_body : {xs ys : List Numbered} → IsOpen xs → IsOpen ys → (i : List Numbered) → sees terminal.Else i ≡ false → {all : SourceItems} → Items all (xs ++ i)
    → (more : SourceItems) × Items more (ys ++ i)
other_body {xs} {ys} one other i shut {all = all} h =
    let whole : xs ++ i ≡ one.front ++ opens one.opening (one.body ++ i) = sym (regroup one.opening one.front one.body xs one.is i) in
    let (rest, hs) = items_rest one.before all (opens one.opening (one.body ++ i)) (subst (λ (l : List Numbered). Items all l) whole h) in
    let b = open_rest one.opening one.entries i shut hs refl in
    let (stmts, w) = braced_behind other.entries b.rest.braced in
    by_parts other.opening other.before other.body ys other.is i b.rest.tokens b.left b.rest.is (function_of other.opening w) b.are_items
  where
    by_parts : (o : Opening) {items more : SourceItems} {x : SourceItem} {front : List Numbered} → Items items front → (inner ys : List Numbered) → ys ≡ front ++ opens o inner
        → (i tokens left : List Numbered) → i ≡ tokens ++ left → Item x (opens o (inner ++ tokens)) → Items more left → (all : SourceItems) × Items all (ys ++ i)
    by_parts o {items} {more} {x} {front} before inner ys is i tokens left ends p ps =
        let same : front ++ (opens o (inner ++ tokens) ++ left) ≡ ys ++ i =
        ap (λ (l : List Numbered). front ++ l) (regroup_rest o inner tokens left i ends) ∙ regroup o front inner ys is i in
        (items ++ x ∷ more, subst (λ (l : List Numbered). Items (items ++ x ∷ more) l) same (items_join before (spelled.more p ps)))

no_else : (k : ℕ) (s : Symbol) (r : List Numbered) → s ≢ symbol.Fixed terminal.Else → sees terminal.Else (at k s ∷ r) ≡ false
unfolding first
no_else k (symbol.Fixed m) r h = by_test (same_terminal terminal.Else m) refl
  where
    by_test : (b : Bool) → same_terminal terminal.Else m ≡ b → same_terminal terminal.Else m ≡ false
    by_test false e = e
    by_test true e = absurd (h (ap symbol.Fixed (sym (terminal_same terminal.Else m e))))
no_else k (symbol.Name f) r h = refl
no_else k (symbol.Int v) r h = refl
no_else k symbol.Float r h = refl
no_else k (symbol.Text bytes) r h = refl
no_else k symbol.Unknown r h = refl

is_open : (tokens : List Symbol) → IsOpenBody tokens → IsOpen (numbered_from 0 tokens)
is_open tokens (all, h) =
    last_open h (numbered_from 0 tokens) (fixed (0 + length tokens) terminal.CloseBrace) (numbered_append 0 tokens (symbol.Fixed terminal.CloseBrace ∷ [])) refl

prefix_behind : (one other : List Symbol) → IsOpenBody one → IsOpenBody other → length one ≡ length other → (next : Symbol) → next ≢ symbol.Fixed terminal.Else
    → (more : List Symbol) → IsPrefix (one ++ next ∷ more) → IsPrefix (other ++ next ∷ more)
prefix_behind one other o p many next shut more h =
    let whole : (l : List Symbol) → numbered_from 0 ((l ++ next ∷ more) ++ h.more) ≡ numbered_from 0 l ++ numbered_from (0 + length l) (next ∷ (more ++ h.more)) =
    λ l. ap (numbered_from 0) (append_assoc l (next ∷ more) h.more) ∙ numbered_append 0 l (next ∷ (more ++ h.more)) in
    let (items, hs) = other_body (is_open one o) (is_open other p) (numbered_from (0 + length one) (next ∷ (more ++ h.more)))
    (no_else (0 + length one) next (numbered_from (0 + length one + 1) (more ++ h.more)) shut)
    (subst (λ (l : List Numbered). Items h.tree.items l) (whole one) h.parses.items) in
    let same : numbered_from 0 other ++ numbered_from (0 + length one) (next ∷ (more ++ h.more)) ≡ numbered_from 0 ((other ++ next ∷ more) ++ h.more) =
    ap (λ (n : ℕ). numbered_from 0 other ++ numbered_from (0 + n) (next ∷ (more ++ h.more))) many ∙ sym (whole other) in
    record {
      more = h.more;
      spelled = h.spelled;
      tree = record { items = items; count = length ((other ++ next ∷ more) ++ h.more) };
      parses = record { items = subst (λ (l : List Numbered). Items items l) same hs; count = refl };
    }

pub open_bodies_alike : OpenBodiesAlike
open_bodies_alike one other o p many next shut more =
    (prefix_behind one other o p many next shut more, prefix_behind other one p o (sym many) next shut more)
