-- The tokens of a text, one after another.
use Rattle.std.proofs.Common.{◌≡◌, ◌≢◌, ℕ, ◌-◌, ◌<◌, ◌≤◌, List, [], ◌∷◌, length, Option, Some, None, Result, Ok, Err, IfOk, IfErr, sym, ap, subst, ◌∙◌, arith}
use Rattle.nss_lexer.specs.Splitting.{Lexeme, Found, AtEnd, BadAt, IsFirst, Splits, AreTokens, whole, broken, token}
use Rattle.nwq_value.specs.Engine.{EngineTable}
use Rattle.engine_table.specs.Known.{Known}
use Rattle.engine_table.specs.declared.fault.HeaderFault.{HeaderFault}
use Rattle.engine_table.specs.declared.fault.HeaderFault.TheVariants.{Bad, Header, Twice, Many, NoMemory}
use Rattle.engine_table.specs.declared.known.Known.{Known as KnownLines}
use Rattle.engine_table.specs.declared.stage.Stage.{Stage}
use Rattle.engine_table.specs.declared.stage.Stage.TheVariants as stage
use Rattle.engine_table.specs.declared.stage.Turn.{Turn}
use Rattle.engine_table.specs.declared.stage.Turn.TheVariants.{Goes, Gives}
use Rattle.engine_table.specs.Symbols.{Placed, at, placed_of, placed_all}
use Rattle.engine_table.specs.Headers as header
use Rattle.engine_table.specs.Headers.{HeaderFails, Comes, HasTable, IsFaulty, IsRefused, IsAnswer, after, nothing}
use Rattle.engine_table.specs.Turns.{TurnResult, known_of, turn_at, ended, run_by, declarations_read, Leads, Follows, Answers, KeepsStage, HasTokens, HasTokensUpTo, depth_of}
use Rattle.engine_table.specs.Held.{IsCounted}
use Rattle.engine_table.proofs.DepthLemmas.{follows_depth}
use Rattle.engine_table.proofs.Whole.{right, IsClash, clash_is}

-- ---- the search for a bad byte

pub record SomeTokens (bytes : List ℕ) (from : ℕ) (ending : Option ℕ) : Type 0 where
  pub tokens : List Lexeme
  pub are : Splits bytes 0 from tokens ending

-- whatever tokens come from here on, the text has tokens that end so
pub record IsPassed (bytes : List ℕ) (from at : ℕ) : Type 0 where
  pub within : at ≤ length bytes
  pub leads : (ts : List Lexeme) (ending : Option ℕ) → Splits bytes 0 at ts ending → SomeTokens bytes from ending

pub passed_more : (bytes : List ℕ) (from at : ℕ) (t : Lexeme) → IsPassed bytes from at → IsFirst bytes 0 at (Found t) → IsPassed bytes from t.end
passed_more bytes from at t so first = record { within = first.within; leads = λ ts ending s. so.leads (t ∷ ts) ending (token at t ts ending first s) }

pub passed_all : (bytes : List ℕ) (from at : ℕ) → IsPassed bytes from at → IsFirst bytes 0 at AtEnd → HasTokens bytes from
passed_all bytes from at so first = let some = so.leads [] None (whole at first) in record { tokens = some.tokens; are = some.are }

pub passed_bad : (bytes : List ℕ) (from at place : ℕ) → IsPassed bytes from at → IsFirst bytes 0 at (BadAt place) → HasTokensUpTo bytes from place
passed_bad bytes from at place so first = let some = so.leads [] (Some place) (broken at place first) in record { tokens = some.tokens; are = some.are }

pub falls : (bytes : List ℕ) (at : ℕ) (t : Lexeme) → IsFirst bytes 0 at (Found t) → length bytes - t.end < length bytes - at
falls bytes at t first = omega (arith, first.from, first.some, first.within)

-- ---- reading

-- a header while it is read: what its lines made known, and how far the line has come that is read
pub record Reader : Type 0 where
  pub known : KnownLines
  pub stage : Stage

-- with these tokens left, the text has tokens that come to what these come to from here on
pub record ReadsOn (bytes : List ℕ) (r : Reader) (left : List Lexeme) (ending : Option ℕ) : Type 0 where
  pub all : List Lexeme
  pub are : Splits bytes 0 0 all ending
  pub same : declarations_read (length bytes) nothing stage.Start (placed_all all) ≡ declarations_read (length bytes) (known_of r.known) r.stage (placed_all left)

-- whatever tokens are left, the text has tokens that come to what these come to
pub record IsRead (bytes : List ℕ) (at : ℕ) (r : Reader) : Type 0 where
  pub within : at ≤ length bytes
  pub leads : (left : List Lexeme) (ending : Option ℕ) → Splits bytes 0 at left ending → ReadsOn bytes r left ending
  pub keeps : KeepsStage (known_of r.known) r.stage
  pub counted : IsCounted r.known
  pub inside : depth_of r.stage ≤ at

pub read_none : (bytes : List ℕ) (r : Reader) → (known_of r.known) ≡ nothing → r.stage ≡ stage.Start → IsCounted r.known → IsRead bytes 0 r
read_none bytes r known start counted = record {
  within = omega arith;
  leads = λ left ending split. record {
    all = left;
    are = split;
    same = ap (λ (z : Known). declarations_read (length bytes) z stage.Start (placed_all left)) (sym known)
        ∙ ap (λ (z : Stage). declarations_read (length bytes) (known_of r.known) z (placed_all left)) (sym start);
  };
  keeps = subst (KeepsStage (known_of r.known)) (sym start) tt;
  counted = counted;
  inside = (let none = ap depth_of start in omega (arith, none));
}

led : (end : ℕ) (k : Known) (xs : List Placed) (what : Turn) (k' : Known) (s' : Stage) → Leads k what k' s'
    → run_by (Ok what) (λ n. declarations_read end k n xs) (λ g. declarations_read end (after k g) stage.Start xs) ≡ declarations_read end k' s' xs
led end k xs (Goes n) k' s' leads = ap (λ (z : Stage). declarations_read end k z xs) (sym leads.1) ∙ ap (λ (z : Known). declarations_read end z s' xs) (sym leads.0)
led end k xs (Gives d new) k' s' leads = ap (λ (z : Known). declarations_read end z stage.Start xs) (sym leads.0) ∙ ap (λ (z : Stage). declarations_read end k' z xs) (sym leads.1)

followed : (end : ℕ) (k : Known) (s : Stage) (x : Placed) (xs : List Placed) (k' : Known) (s' : Stage) → Follows k s x k' s' → declarations_read end k s (x ∷ xs) ≡ declarations_read end k' s' xs
unfolding declarations_read
followed end k s x xs k' s' f =
    ap (λ (z : TurnResult). run_by z (λ n. declarations_read end k n xs) (λ g. declarations_read end (after k g) stage.Start xs)) f.is ∙ led end k xs f.what k' s' f.leads

pub read_more : (bytes : List ℕ) (at : ℕ) (r next : Reader) (t : Lexeme) → IsRead bytes at r → IsFirst bytes 0 at (Found t)
    → Follows (known_of r.known) r.stage (placed_of t) (known_of next.known) next.stage → KeepsStage (known_of next.known) next.stage → IsCounted next.known
    → IsRead bytes t.end next
read_more bytes at r next t so first follows keeps counted = record {
  within = first.within;
  leads = λ left ending split. let on = so.leads (t ∷ left) ending (token at t left ending first split) in record {
    all = on.all;
    are = on.are;
    same = on.same ∙ followed (length bytes) (known_of r.known) r.stage (placed_of t) (placed_all left) (known_of next.known) next.stage follows;
  };
  keeps = keeps;
  counted = counted;
  inside =
      (let deeper = follows_depth (known_of r.known) r.stage (placed_of t) (known_of next.known) next.stage follows in
      omega (arith, deeper, so.inside, first.from, first.some));
}

-- ---- what is answered

abbrev IsToken_fault : HeaderFault → Type 0
IsToken_fault (Header p) = Unit {0}
IsToken_fault (Twice p) = Unit {0}
IsToken_fault (Many p) = Unit {0}
IsToken_fault _ = ⊥

clash_fault : (f : HeaderFault) → IsClash f → IsToken_fault f
clash_fault (Twice p) h = tt
clash_fault (Many p) h = tt
clash_fault (Header p) h = absurd h
clash_fault (Bad p) h = absurd h
clash_fault NoMemory h = absurd h

fails_fault : (end : ℕ) (k : Known) (f : HeaderFault) (xs : List Placed) → HeaderFails end k f xs → IsToken_fault f
fails_fault end k f xs (header.later j d g ys zs is clear rest) = fails_fault end (after k d) f zs rest
fails_fault end k f xs (header.clash j g ys zs clash) = clash_fault f (clash_is k f ys clash)
fails_fault end k f xs (header.misfit j ys x zs m) = tt
fails_fault end k f xs (header.short j ys some inside) = tt

refused_by : (bytes : List ℕ) (f : HeaderFault) → IsToken_fault f → IsFaulty bytes f → IsRefused bytes f
refused_by bytes (Header p) h is = is
refused_by bytes (Twice p) h is = is
refused_by bytes (Many p) h is = is
refused_by bytes (Bad p) h is = absurd h
refused_by bytes NoMemory h is = tt

answer_ok : (bytes : List ℕ) (all : List Lexeme) (table : EngineTable) → AreTokens bytes 0 all → declarations_read (length bytes) nothing stage.Start (placed_all all) ≡ Ok table → HasTable bytes table
answer_ok bytes all table are e = (all, are, subst (Comes (length bytes) nothing (placed_all all)) e (right (length bytes) nothing (placed_all all)))

answer_err : (bytes : List ℕ) (all : List Lexeme) (f : HeaderFault) → AreTokens bytes 0 all → declarations_read (length bytes) nothing stage.Start (placed_all all) ≡ Err f → IsRefused bytes f
answer_err bytes all f are e =
    let fails : HeaderFails (length bytes) nothing f (placed_all all) = subst (Comes (length bytes) nothing (placed_all all)) e (right (length bytes) nothing (placed_all all)) in
    refused_by bytes f (fails_fault (length bytes) nothing f (placed_all all) fails) (all, are, fails)

-- a text that ends here
pub read_all_ok : (bytes : List ℕ) (at : ℕ) (r : Reader) (result : Result EngineTable HeaderFault) → IsRead bytes at r → IsFirst bytes 0 at AtEnd
    → result ≡ ended (length bytes) (known_of r.known) r.stage → IfOk result (HasTable bytes)
unfolding declarations_read
read_all_ok bytes at r (Ok table) so first is = let on = so.leads [] None (whole at first) in answer_ok bytes on.all table on.are (on.same ∙ sym is)
read_all_ok bytes at r (Err f) so first is = tt

pub read_all_err : (bytes : List ℕ) (at : ℕ) (r : Reader) (result : Result EngineTable HeaderFault) → IsRead bytes at r → IsFirst bytes 0 at AtEnd
    → result ≡ ended (length bytes) (known_of r.known) r.stage → IfErr result (IsRefused bytes)
unfolding declarations_read
read_all_err bytes at r (Ok table) so first is = tt
read_all_err bytes at r (Err f) so first is = let on = so.leads [] None (whole at first) in answer_err bytes on.all f on.are (on.same ∙ sym is)

-- a bad byte
pub read_bad : (bytes : List ℕ) (at place : ℕ) (r : Reader) → IsRead bytes at r → IsFirst bytes 0 at (BadAt place) → IsRefused bytes (Bad place)
read_bad bytes at place r so first = let on = so.leads [] (Some place) (broken at place first) in (on.all, on.are)

-- a bad byte behind a token at which it breaks
pub read_bad_behind : (bytes : List ℕ) (at place : ℕ) (r : Reader) (t : Lexeme) → IsRead bytes at r → IsFirst bytes 0 at (Found t)
    → HasTokensUpTo bytes t.end place → IsRefused bytes (Bad place)
read_bad_behind bytes at place r t so first has =
    let on = so.leads (t ∷ has.tokens) (Some place) (token at t has.tokens (Some place) first has.are) in (on.all, on.are)

broken_at : (bytes : List ℕ) (at : ℕ) (r : Reader) (t : Lexeme) (f : HeaderFault) → IsRead bytes at r → IsFirst bytes 0 at (Found t)
    → HasTokens bytes t.end → turn_at (known_of r.known) r.stage (placed_of t) ≡ Err f → IsRefused bytes f
unfolding declarations_read
broken_at bytes at r t f so first has e =
    let on = so.leads (t ∷ has.tokens) None (token at t has.tokens None first has.are) in
    let rest = placed_all has.tokens in
    answer_err bytes on.all f on.are
    (on.same ∙ ap (λ (z : TurnResult). run_by z (λ n. declarations_read (length bytes) (known_of r.known) n rest)
    (λ g. declarations_read (length bytes) (after (known_of r.known) g) stage.Start rest)) e)

-- a token at which it breaks, with no bad byte behind it
pub read_broken : (bytes : List ℕ) (at : ℕ) (r : Reader) (t : Lexeme) (f : HeaderFault) → IsRead bytes at r → IsFirst bytes 0 at (Found t)
    → HasTokens bytes t.end → Answers (turn_at (known_of r.known) r.stage (placed_of t)) (Err f) → IsRefused bytes f
read_broken bytes at r t (Bad p) so first has e = broken_at bytes at r t (Bad p) so first has e
read_broken bytes at r t (Header p) so first has e = broken_at bytes at r t (Header p) so first has e
read_broken bytes at r t (Twice p) so first has e = broken_at bytes at r t (Twice p) so first has e
read_broken bytes at r t (Many p) so first has e = broken_at bytes at r t (Many p) so first has e
read_broken bytes at r t NoMemory so first has e = tt

-- ---- each text has an answer

abbrev pub SomeSplit : Type 0
SomeSplit = (bytes : List ℕ) (file at : ℕ) → (tokens : List Lexeme) × (ending : Option ℕ) × Splits bytes file at tokens ending

not_memory : (f : HeaderFault) → IsToken_fault f → f ≢ NoMemory
not_memory (Header p) h = λ e. cc
not_memory (Twice p) h = λ e. cc
not_memory (Many p) h = λ e. cc
not_memory (Bad p) h = absurd h
not_memory NoMemory h = absurd h

answered : (bytes : List ℕ) (ts : List Lexeme) (o : Result EngineTable HeaderFault) → AreTokens bytes 0 ts → Comes (length bytes) nothing (placed_all ts) o → IsAnswer bytes o
answered bytes ts (Ok table) are comes = (ts, are, comes)
answered bytes ts (Err f) are fails =
    let is = fails_fault (length bytes) nothing f (placed_all ts) fails in (not_memory f is, refused_by bytes f is (ts, are, fails))

some_by : (bytes : List ℕ) (ts : List Lexeme) (ending : Option ℕ) → Splits bytes 0 0 ts ending → (answer : Result EngineTable HeaderFault) × IsAnswer bytes answer
some_by bytes ts None are =
    let o = declarations_read (length bytes) nothing stage.Start (placed_all ts) in (o, answered bytes ts o are (right (length bytes) nothing (placed_all ts)))
some_by bytes ts (Some place) are = (Err (Bad place), ((λ e. cc), (ts, are)))

pub some_answer : SomeSplit → (bytes : List ℕ) → (answer : Result EngineTable HeaderFault) × IsAnswer bytes answer
some_answer split bytes = let (ts, ending, are) = split bytes 0 0 in some_by bytes ts ending are
