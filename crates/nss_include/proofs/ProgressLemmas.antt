use Rattle.std.proofs.Common.{◌≡◌, ℕ, ◌+◌, ◌<◌, ◌≤◌, Bool, true, false, nat_lt, nat_le, List, [], ◌∷◌, ◌++◌, length, Option, Some, None, IsSomeAnd, IsTrue, take, refl, sym, ap, subst, ◌∙◌, arith}
use Rattle.std.proofs.Common.{append_assoc, append-nil, length-append, lit<, zero, suc, get_or, map as list_map, ◌&&◌, codes, Err}
use Rattle.std.proofs.lemmas.Bool.Decides.{nat_tests}
use Rattle.std.proofs.lemmas.Option.{same_Some, none-some}
use Rattle.std.proofs.lemmas.List.{take_all, length-map}
use Rattle.std.specs.Char.{to_ascii_lowercase}
use Rattle.std.proofs.lemmas.Str.{IsUtf8-from_ascii}
use Rattle.std.specs.List.{slice_get, list_all, AllByRecursion}
use Rattle.std.specs.Str.{IsUtf8}
use Rattle.nwq_value.specs.Limits.{file_limit, text_limit, token_limit}
use Rattle.nss_lexer.specs.Bytes.{is_name_byte}
use Rattle.std.specs.Option.{option_map}
use Rattle.nss_lexer.specs.Splitting.{Lexeme, OneFirst, SomeSplit}
use Rattle.nss_include.specs.declared.fault.GatherFault.{GatherFault}
use Rattle.nss_include.specs.declared.fault.GatherFault.TheVariants.{Missing, Fault, Long, Bad, Tokens, Include, NoMemory}
use Rattle.nss_include.specs.declared.fault.Spot.{Spot}
use Rattle.nss_include.specs.declared.file.Source.{Source}
use Rattle.nss_include.specs.declared.opened.Open.{Open}
use Rattle.nss_include.specs.declared.gatherer.Gatherer.{Gatherer}
use Rattle.nss_include.specs.declared.step.Span.{Span}
use Rattle.nss_include.specs.declared.step.Step.{Step}
use Rattle.nss_include.specs.declared.step.Step.TheVariants as step
use Rattle.nss_include.specs.Names.{file_name, is_include_name, spot_in}
use Rattle.nss_include.specs.Steps.{IsStep, IsWithin, lexeme_in}
use Rattle.nss_include.specs.Units.{Lookup, reading_fault, is_among, source, HaveDistinctNames, IsUnit, unread, is_read}
use Rattle.nss_include.specs.Walks.{Walks, step_fault, ends, fails, gives, again, breaks_off, includes}
use Rattle.nss_include.specs.View.{lexeme_of, bytes_of}
use Rattle.nss_include.proofs.PieceLemmas.{reads, of_file}
use Rattle.nss_include.proofs.UnitLemmas.{bytes_stay, all_map, all_push, distinct_more}
use Rattle.nwq_outside.specs.declared.counts.FileCounts.{FileCounts}
use Rattle.nss_include.specs.Gather.{HoldsFiles, Claims, CountsGathered}
use Rattle.nss_include.specs.Progress.{Rest, closed, stops, goes, Ends, Leads, Stops, HasStep, Explains, ExplainsRead, IsReadFault, ReadFails, Includes, IsOpen, IsOrderly, IsOwnFault}
use Rattle.nss_include.specs.Progress.{BeginsWithScript, ComesTo, Extends, RunSoFar, Advances, StopsBy, Halts, passed, reopened}

-- an open file at a place
abbrev pub file_at : ℕ → ℕ → Open
file_at file at = record { file = file; at = at }

pub rest-ends : (lookup : Lookup) (number at : ℕ) (stack : List Open) (files : List Source) (count : ℕ) (file : Source)
    (tokens : List Lexeme) (last : List Source) (total : ℕ) (ending : Option GatherFault)
    → slice_get files number ≡ Some file → IsStep file.bytes number at step.Ends
    → Rest lookup stack files count tokens last total ending
    → Rest lookup (file_at number at ∷ stack) files count tokens last total ending
rest-ends lookup number at stack files count file tokens last total ending is here rest =
    goes (file_at number at) stack files count [] files count tokens last total ending (ends number at files count file is here) rest

pub rest-fails : (lookup : Lookup) (number at : ℕ) (stack : List Open) (files : List Source) (count : ℕ) (file : Source) (s : Step)
    (fault : GatherFault) → slice_get files number ≡ Some file → IsStep file.bytes number at s → step_fault lookup files count file s ≡ Some fault
    → Rest lookup (file_at number at ∷ stack) files count [] files count (Some fault)
rest-fails lookup number at stack files count file s fault is here failing =
    stops (file_at number at) stack files count [] files count fault (fails number at files count file s fault is here failing)

pub rest-gives : (lookup : Lookup) (number at : ℕ) (stack : List Open) (files : List Source) (count : ℕ) (file : Source) (span : Span)
    (tokens : List Lexeme) (last : List Source) (total : ℕ) (ending : Option GatherFault)
    → slice_get files number ≡ Some file → IsStep file.bytes number at (step.Gives span) → step_fault lookup files count file (step.Gives span) ≡ None
    → Rest lookup (file_at number span.end ∷ stack) files (count + 1) tokens last total ending
    → Rest lookup (file_at number at ∷ stack) files count (lexeme_in file.bytes span ∷ tokens) last total ending
rest-gives lookup number at stack files count file span tokens last total ending is here fine (stops h o f c ts l t fault unfolds) =
    stops (file_at number at) stack files count (lexeme_in file.bytes span ∷ tokens) last total fault
    (gives number at files count file span tokens last total (Some fault) is here fine unfolds)
rest-gives lookup number at stack files count file span tokens last total ending is here fine (goes h o f c inner between counted ts l t e unfolds rest) =
    goes (file_at number at) stack files count (lexeme_in file.bytes span ∷ inner) between counted ts last total ending
    (gives number at files count file span inner between counted None is here fine unfolds) rest

pub rest-again : (lookup : Lookup) (number at : ℕ) (stack : List Open) (files : List Source) (count : ℕ) (file : Source) (hash : ℕ)
    (name : List ℕ) (after : ℕ) (tokens : List Lexeme) (last : List Source) (total : ℕ) (ending : Option GatherFault)
    → slice_get files number ≡ Some file → IsStep file.bytes number at (step.Mentions hash name after)
    → step_fault lookup files count file (step.Mentions hash name after) ≡ None → is_among files (file_name name) ≡ true
    → Rest lookup (file_at number after ∷ stack) files (count + 3) tokens last total ending
    → Rest lookup (file_at number at ∷ stack) files count tokens last total ending
rest-again lookup number at stack files count file hash name after tokens last total ending is here fine known (stops h o f c ts l t fault unfolds) =
    stops (file_at number at) stack files count tokens last total fault
    (again number at files count file hash name after tokens last total (Some fault) is here fine known unfolds)
rest-again lookup number at stack files count file hash name after tokens last total ending is here fine known
    (goes h o f c inner between counted ts l t e unfolds rest) =
    goes (file_at number at) stack files count inner between counted ts last total ending
    (again number at files count file hash name after inner between counted None is here fine known unfolds) rest

-- behind an included file its includer goes on
rest-behind : (lookup : Lookup) (number at : ℕ) (stack : List Open) (files : List Source) (count : ℕ) (file : Source) (hash : ℕ)
    (name : List ℕ) (after : ℕ) (bytes : List ℕ) (inner : List Lexeme) (between : List Source) (counted : ℕ)
    (tokens : List Lexeme) (last : List Source) (total : ℕ) (ending : Option GatherFault)
    → slice_get files number ≡ Some file → IsStep file.bytes number at (step.Mentions hash name after)
    → step_fault lookup files count file (step.Mentions hash name after) ≡ None → is_among files (file_name name) ≡ false
    → lookup (file_name name) ≡ Some bytes
    → Walks lookup (length files) 0 (files ++ source (file_name name) bytes ∷ []) (count + 3) inner between counted None
    → Rest lookup (file_at number after ∷ stack) between counted tokens last total ending
    → Rest lookup (file_at number at ∷ stack) files count (inner ++ tokens) last total ending
rest-behind lookup number at stack files count file hash name after bytes inner between counted tokens last total ending is here fine new read unfolds
    (stops h o f c ts l t fault behind) =
    stops (file_at number at) stack files count (inner ++ tokens) last total fault
    (includes number at files count file hash name after bytes inner between counted tokens last total (Some fault) is here fine new read unfolds behind)
rest-behind lookup number at stack files count file hash name after bytes inner between counted tokens last total ending is here fine new read unfolds
    (goes h o f c more between2 counted2 ts l t e behind rest) =
    subst (λ tokens. Rest lookup (file_at number at ∷ stack) files count tokens last total ending) (append_assoc inner more ts)
    (goes (file_at number at) stack files count (inner ++ more) between2 counted2 ts last total ending
    (includes number at files count file hash name after bytes inner between counted more between2 counted2 None is here fine new read unfolds behind) rest)

pub rest-includes : (lookup : Lookup) (number at : ℕ) (stack : List Open) (files : List Source) (count : ℕ) (file : Source) (hash : ℕ)
    (name : List ℕ) (after : ℕ) (bytes : List ℕ) (tokens : List Lexeme) (last : List Source) (total : ℕ) (ending : Option GatherFault)
    → slice_get files number ≡ Some file → IsStep file.bytes number at (step.Mentions hash name after)
    → step_fault lookup files count file (step.Mentions hash name after) ≡ None → is_among files (file_name name) ≡ false
    → lookup (file_name name) ≡ Some bytes
    → Rest lookup (file_at (length files) 0 ∷ file_at number after ∷ stack) (files ++ source (file_name name) bytes ∷ []) (count + 3)
    tokens last total ending
    → Rest lookup (file_at number at ∷ stack) files count tokens last total ending
rest-includes lookup number at stack files count file hash name after bytes tokens last total ending is here fine new read (stops h o f c ts l t fault unfolds) =
    stops (file_at number at) stack files count tokens last total fault
    (breaks_off number at files count file hash name after bytes tokens last total fault is here fine new read unfolds)
rest-includes lookup number at stack files count file hash name after bytes tokens last total ending is here fine new read
    (goes h o f c inner between counted ts l t e unfolds rest) =
    rest-behind lookup number at stack files count file hash name after bytes inner between counted ts last total ending is here fine new read unfolds rest

-- a stack, files and a count under other names
rest_at : (lookup : Lookup) (stack stack' : List Open) (files files' : List Source) (count count' : ℕ) (tokens : List Lexeme)
    (last : List Source) (total : ℕ) (ending : Option GatherFault) → stack ≡ stack' → files ≡ files' → count ≡ count'
    → Rest lookup stack files count tokens last total ending → Rest lookup stack' files' count' tokens last total ending
rest_at lookup stack stack' files files' count count' tokens last total ending hs hf hc rest =
    subst (λ s. Rest lookup s files' count' tokens last total ending) hs
    (subst (λ f. Rest lookup stack f count' tokens last total ending) hf
    (subst (λ n. Rest lookup stack files n tokens last total ending) hc rest))

-- ---- readings

spot_is : (files : List Source) (i at : ℕ) (file : Source) (spot : Spot) → slice_get files i ≡ Some file
    → option_map (λ f. spot_in f at) (slice_get files i) ≡ Some spot → spot_in file at ≡ spot
spot_is files i at file spot is h = same_Some (spot_in file at) spot (ap (option_map (λ f. spot_in f at)) (sym is) ∙ h)

-- a reading stops with what a step fails with
pub stops-fault : (lookup : Lookup) (r : Gatherer) (here : Open) (s : Step) (h : HasStep r here s) (fault : GatherFault)
    → step_fault lookup r.unit.files r.count h.file s ≡ Some fault → Stops lookup (reopened here r) fault
stops-fault lookup r here s h fault failing = record {
  left = [];
  parts = sym (append-nil r.unit.tokens);
  rest = rest-fails lookup here.file here.at r.stack r.unit.files r.count h.file s fault h.is h.step failing;
}

pub stops-breaks : (r : Gatherer) (here : Open) (place : ℕ) (h : HasStep r here (step.Breaks place)) (spot : Spot)
    → option_map (λ f. spot_in f place) (slice_get r.unit.files here.file) ≡ Some spot → (lookup : Lookup) → Stops lookup (reopened here r) (Bad spot)
stops-breaks r here place h spot is lookup =
    stops-fault lookup r here (step.Breaks place) h (Bad spot) (ap (λ s. Some (Bad s)) (spot_is r.unit.files here.file place h.file spot h.is is))

pub stops-misses : (r : Gatherer) (here : Open) (place : ℕ) (h : HasStep r here (step.Misses place)) (spot : Spot)
    → option_map (λ f. spot_in f place) (slice_get r.unit.files here.file) ≡ Some spot → (lookup : Lookup) → Stops lookup (reopened here r) (Include spot)
stops-misses r here place h spot is lookup =
    stops-fault lookup r here (step.Misses place) h (Include spot) (ap (λ s. Some (Include s)) (spot_is r.unit.files here.file place h.file spot h.is is))

pub stops-gives : (r : Gatherer) (here : Open) (span : Span) (h : HasStep r here (step.Gives span)) (spot : Spot) → r.count ≡ token_limit
    → option_map (λ f. spot_in f span.start) (slice_get r.unit.files here.file) ≡ Some spot → (lookup : Lookup) → Stops lookup (reopened here r) (Tokens spot)
stops-gives r here span h spot full is lookup =
    let over : nat_lt r.count token_limit ≡ false = grind (arith, nat_tests)
    in stops-fault lookup r here (step.Gives span) h (Tokens spot)
    (rw over (ap (λ s. Some (Tokens s)) (spot_is r.unit.files here.file span.start h.file spot h.is is)))

pub stops-mentions : (r : Gatherer) (here : Open) (hash : ℕ) (name : List ℕ) (after : ℕ) (h : HasStep r here (step.Mentions hash name after)) (spot : Spot)
    → token_limit < r.count + 3 → option_map (λ f. spot_in f hash) (slice_get r.unit.files here.file) ≡ Some spot
    → (lookup : Lookup) → Stops lookup (reopened here r) (Tokens spot)
stops-mentions r here hash name after h spot full is lookup =
    let over : nat_lt token_limit (r.count + 3) ≡ true = grind (arith, nat_tests)
    in stops-fault lookup r here (step.Mentions hash name after) h (Tokens spot)
    (rw over (ap (λ s. Some (Tokens s)) (spot_is r.unit.files here.file hash h.file spot h.is is)))

-- a token leads on
pub leads-gives : (old new : Gatherer) (here : Open) (span : Span) (h : HasStep old here (step.Gives span)) → old.count < token_limit
    → new.unit ≡ record { files = old.unit.files; tokens = old.unit.tokens ++ lexeme_of old.unit.files span ∷ [] }
    → new.stack ≡ file_at here.file span.end ∷ old.stack → new.count ≡ old.count + 1 → (lookup : Lookup) → Leads lookup (reopened here old) new
leads-gives old new here span h room unit stack count lookup tokens last total ending e =
    let below : nat_lt old.count token_limit ≡ true = grind (arith, nat_tests)
    in let fine : step_fault lookup old.unit.files old.count h.file (step.Gives span) ≡ None = rw below refl
    in let token : lexeme_of old.unit.files span ≡ lexeme_in h.file.bytes span
    = ap (λ i. lexeme_in (bytes_of (slice_get old.unit.files i)) span) h.within.0 ∙ ap (λ o. lexeme_in (bytes_of o) span) h.is
    in record {
      left = lexeme_in h.file.bytes span ∷ e.left;
      parts = e.parts ∙ ap (λ u. u.tokens ++ e.left) unit ∙ append_assoc old.unit.tokens (lexeme_of old.unit.files span ∷ []) e.left
          ∙ ap (λ t. old.unit.tokens ++ t ∷ e.left) token;
      rest = rest-gives lookup here.file here.at old.stack old.unit.files old.count h.file span e.left last total ending h.is h.step fine
          (rest_at lookup new.stack (file_at here.file span.end ∷ old.stack) new.unit.files old.unit.files new.count (old.count + 1) e.left last total ending
          stack (ap (λ u. u.files) unit) count e.rest);
    }

-- so does the end of a file
pub leads-ends : (old : Gatherer) (here : Open) (h : HasStep old here step.Ends) → (lookup : Lookup) → Leads lookup (reopened here old) old
leads-ends old here h lookup tokens last total ending e = record {
  left = e.left;
  parts = e.parts;
  rest = rest-ends lookup here.file here.at old.stack old.unit.files old.count h.file e.left last total ending h.is h.step e.rest;
}

-- and an include of a file that is in the unit
pub leads-again : (old new : Gatherer) (here : Open) (hash : ℕ) (name : List ℕ) (after : ℕ) (h : HasStep old here (step.Mentions hash name after))
    → old.count + 3 ≤ token_limit → is_among old.unit.files (file_name name) ≡ true
    → new.unit ≡ old.unit → new.stack ≡ file_at here.file after ∷ old.stack → new.count ≡ old.count + 3
    → (lookup : Lookup) → Leads lookup (reopened here old) new
leads-again old new here hash name after h room known unit stack count lookup tokens last total ending e =
    let below : nat_lt token_limit (old.count + 3) ≡ false = grind (arith, nat_tests)
    in let fine : step_fault lookup old.unit.files old.count h.file (step.Mentions hash name after) ≡ None = rw (below, known) refl
    in record {
      left = e.left;
      parts = e.parts ∙ ap (λ u. u.tokens ++ e.left) unit;
      rest = rest-again lookup here.file here.at old.stack old.unit.files old.count h.file hash name after e.left last total ending h.is h.step fine known
          (rest_at lookup new.stack (file_at here.file after ∷ old.stack) new.unit.files old.unit.files new.count (old.count + 3) e.left last total ending
          stack (ap (λ u. u.files) unit) count e.rest);
    }

-- and an include of another
pub leads-includes : (old new : Gatherer) (here : Open) (hash : ℕ) (name : List ℕ) (after : ℕ) (h : HasStep old here (step.Mentions hash name after))
    (bytes : List ℕ) → old.count + 3 ≤ token_limit → is_among old.unit.files (file_name name) ≡ false → length bytes ≤ file_limit
    → new.unit ≡ record { files = old.unit.files ++ source (file_name name) bytes ∷ []; tokens = old.unit.tokens }
    → new.stack ≡ file_at (length old.unit.files) 0 ∷ file_at here.file after ∷ old.stack → new.count ≡ old.count + 3
    → (lookup : Lookup) → lookup (file_name name) ≡ Some bytes → Leads lookup (reopened here old) new
leads-includes old new here hash name after h bytes room new_file size unit stack count lookup read tokens last total ending e =
    let below : nat_lt token_limit (old.count + 3) ≡ false = grind (arith, nat_tests)
    in let fits : nat_le (length bytes) file_limit ≡ true = grind (arith, nat_tests)
    in let fine : step_fault lookup old.unit.files old.count h.file (step.Mentions hash name after) ≡ None = rw (below, new_file, read, fits) refl
    in record {
      left = e.left;
      parts = e.parts ∙ ap (λ u. u.tokens ++ e.left) unit;
      rest = rest-includes lookup here.file here.at old.stack old.unit.files old.count h.file hash name after bytes e.left last total ending
          h.is h.step fine new_file read
          (rest_at lookup new.stack (file_at (length old.unit.files) 0 ∷ file_at here.file after ∷ old.stack) new.unit.files
          (old.unit.files ++ source (file_name name) bytes ∷ []) new.count (old.count + 3) e.left last total ending
          stack (ap (λ u. u.files) unit) count e.rest);
    }

-- ---- includes

both : (a b : Bool) → (a && b) ≡ true → (a ≡ true) × (b ≡ true)
both true b h = (refl, h)
both false b h = absurd cc

list_all-short : (p : ℕ → Bool) (xs : List ℕ) (n : ℕ) → ((x : ℕ) → p x ≡ true → x < n) → list_all p xs ≡ true → AllByRecursion (λ x. x < n) xs
list_all-short p [] n f h = tt
list_all-short p (x ∷ xs) n f h = let parts = both (p x) (list_all p xs) h in (f x parts.0, list_all-short p xs n f parts.1)

small_at : (n : ℕ) (xs : List ℕ) → 0 < n → AllByRecursion (λ x. x < n) xs → (i : ℕ) → get_or xs i 0 < n
small_at n [] h all i = h
small_at n (x ∷ xs) h all zero = all.0
small_at n (x ∷ xs) h all (suc i) = small_at n xs h all.1 i

name_small : (b : ℕ) → is_name_byte b ≡ true → b < 128
name_small b h = grind (arith, nat_tests)

pub IsUtf8-name : (name : List ℕ) → is_include_name name ≡ true → IsUtf8 name
unfolding is_include_name
IsUtf8-name name h =
    let letters = both (nat_lt 0 (length name) && nat_le (length name) 16) (list_all is_name_byte name) h
    in IsUtf8-from_ascii name (small_at 128 name (lit< tt) (list_all-short is_name_byte name 128 name_small letters.1))

-- the name of an include's file is no longer than a text
length-file_name : (name : List ℕ) → is_include_name name ≡ true → length (file_name name) ≤ text_limit
unfolding is_include_name file_name
length-file_name name h =
    let parts = both (nat_lt 0 (length name) && nat_le (length name) 16) (list_all is_name_byte name) h
    in let short = both (nat_lt 0 (length name)) (nat_le (length name) 16) parts.0
    in let few : length name ≤ 16 = grind (arith, nat_tests, short.1)
    in omega (arith, few, length-append (list_map to_ascii_lowercase name) (codes ".nss"), length-map name to_ascii_lowercase)

uncut : (given name : List ℕ) → given ≡ file_name name → is_include_name name ≡ true → take text_limit given ≡ file_name name
uncut given name is h = ap (take text_limit) is ∙ take_all text_limit (file_name name) (length-file_name name h)

long_fault : (name : List ℕ) (content : Option (List ℕ)) → IsSomeAnd content (λ bytes. file_limit < length bytes)
    → reading_fault name content ≡ Some (Long (take text_limit name))
long_fault name None h = absurd h
long_fault name (Some bytes) h = let over : nat_le (length bytes) file_limit ≡ false = grind (arith, nat_tests) in rw over refl

include_fails : (lookup : Lookup) (r : Gatherer) (here : Open) (hash : ℕ) (name : List ℕ) (after : ℕ)
    (h : HasStep r here (step.Mentions hash name after)) (fault : GatherFault) → r.count + 3 ≤ token_limit → is_among r.unit.files (file_name name) ≡ false
    → reading_fault (file_name name) (lookup (file_name name)) ≡ Some fault → Stops lookup (reopened here r) fault
include_fails lookup r here hash name after h fault room new failing =
    let below : nat_lt token_limit (r.count + 3) ≡ false = grind (arith, nat_tests)
    in stops-fault lookup r here (step.Mentions hash name after) h fault (rw (below, new) failing)

pub stops-include : (r : Gatherer) (here : Open) (hash : ℕ) (name : List ℕ) (after : ℕ) (h : HasStep r here (step.Mentions hash name after))
    → r.count + 3 ≤ token_limit → is_among r.unit.files (file_name name) ≡ false → (given : List ℕ) → given ≡ file_name name
    → (fault : GatherFault) → IsReadFault given fault
    → Claims fault ((lookup : Lookup) → Explains lookup fault → Stops lookup (reopened here r) fault)
stops-include r here hash name after h room new given is (Missing n) cut = λ lookup none.
    let named : n ≡ file_name name = cut ∙ uncut given name is h.within.2
    in include_fails lookup r here hash name after h (Missing n) room new
    (ap (reading_fault (file_name name)) (ap lookup (sym named) ∙ none) ∙ ap (λ m. Some (Missing m)) (ap (take text_limit) (sym is) ∙ sym cut))
stops-include r here hash name after h room new given is (Long n) cut = λ lookup long.
    let named : n ≡ file_name name = cut ∙ uncut given name is h.within.2
    in include_fails lookup r here hash name after h (Long n) room new
    (long_fault (file_name name) (lookup (file_name name)) (subst (λ m. IsSomeAnd (lookup m) (λ bytes. file_limit < length bytes)) named long)
    ∙ ap (λ m. Some (Long m)) (ap (take text_limit) (sym is) ∙ sym cut))
stops-include r here hash name after h room new given is Fault cut = tt
stops-include r here hash name after h room new given is (Bad spot) cut = absurd cut
stops-include r here hash name after h room new given is (Tokens spot) cut = absurd cut
stops-include r here hash name after h room new given is (Include spot) cut = absurd cut
stops-include r here hash name after h room new given is NoMemory cut = tt

-- what explains a fault of reading an include explains it by the name that it tells
pub explains-include : (lookup : Lookup) (given name : List ℕ) → given ≡ file_name name → is_include_name name ≡ true
    → (fault : GatherFault) → IsReadFault given fault → ExplainsRead lookup given fault → Explains lookup fault
explains-include lookup given name is h (Missing n) cut e = ap lookup (cut ∙ uncut given name is h ∙ sym is) ∙ e
explains-include lookup given name is h (Long n) cut e =
    subst (λ m. IsSomeAnd (lookup m) (λ bytes. file_limit < length bytes)) (sym (cut ∙ uncut given name is h ∙ sym is)) e
explains-include lookup given name is h Fault cut e = tt
explains-include lookup given name is h (Bad spot) cut e = tt
explains-include lookup given name is h (Tokens spot) cut e = tt
explains-include lookup given name is h (Include spot) cut e = tt
explains-include lookup given name is h NoMemory cut e = tt

-- an open file stays one where the unit grows
open_stays : (files more : List Source) (here : Open) → IsOpen files here → IsOpen (files ++ more) here
open_stays files more here h = record {
  file = omega (arith, h.file, length-append files more);
  place = subst (λ bytes. here.at ≤ length bytes) (sym (bytes_stay files more here.file h.file)) h.place;
}

pub ready-includes : (tells : Bool) (outside : Lookup) (old new : Gatherer) (here : Open) (name : List ℕ) (after : ℕ) → IsOrderly (reopened here old) → Includes tells outside old new here name after
    → after ≤ length (bytes_of (slice_get old.unit.files here.file)) → old.count + 3 ≤ token_limit → is_among old.unit.files name ≡ false → IsOrderly new
ready-includes tells outside old new here name after ready i place room alone =
    let more = source name i.reads.opens.bytes ∷ []
    in let files : new.unit.files ≡ old.unit.files ++ more = ap (λ u. u.files) i.reads.opens.is
    in let grown : length new.unit.files ≡ length old.unit.files + 1 = ap length files ∙ length-append old.unit.files more
    in let behind : IsOpen old.unit.files (file_at here.file after) = record { file = ready.places.0.file; place = place }
    in record {
      places = subst (λ s. AllByRecursion (IsOpen new.unit.files) s) (sym i.stack)
          (subst (λ f. AllByRecursion (IsOpen f) (file_at (length old.unit.files) 0 ∷ file_at here.file after ∷ old.stack)) (sym files) (
            record { file = omega (arith, length-append old.unit.files more); place = omega arith },
            (
              open_stays old.unit.files more (file_at here.file after) behind,
              all_map (IsOpen old.unit.files) (IsOpen (old.unit.files ++ more)) old.stack (open_stays old.unit.files more) ready.places.1,
            ),
          ));
      few = omega (arith, i.count, room);
      counted = omega (arith, ap (λ u. length u.tokens) i.reads.opens.is, i.count, ready.counted);
      paid = omega (arith, i.count, grown, ready.paid);
      distinct = subst HaveDistinctNames (sym files) (distinct_more old.unit.files name i.reads.opens.bytes alone ready.distinct);
    }

-- behind a directive one is inside the file
pub place-behind : (r : Gatherer) (here : Open) (hash : ℕ) (name : List ℕ) (after : ℕ) → HasStep r here (step.Mentions hash name after)
    → after ≤ length (bytes_of (slice_get r.unit.files here.file))
place-behind r here hash name after h = subst (λ o. after ≤ length (bytes_of o)) (sym h.is) h.within.1

holds-last : (lookup : Lookup) (files : List Source) (name bytes : List ℕ) → HoldsFiles lookup (files ++ source name bytes ∷ [])
    → lookup name ≡ Some bytes
holds-last lookup [] name bytes h = h.0
holds-last lookup (f ∷ files) name bytes h = holds-last lookup files name bytes h.1

-- an include of a file that is new to the unit leads on
pub leads-include : (tells : Bool) (outside : Lookup) (old new : Gatherer) (here : Open) (hash : ℕ) (name : List ℕ) (after : ℕ) (h : HasStep old here (step.Mentions hash name after))
    → old.count + 3 ≤ token_limit → is_among old.unit.files (file_name name) ≡ false → (given : List ℕ) → given ≡ file_name name
    → Includes tells outside old new here given after → (lookup : Lookup) → HoldsFiles lookup new.unit.files → Leads lookup (reopened here old) new
leads-include tells outside old new here hash name after h room new_file given is i lookup holds =
    let unit : new.unit ≡ record { files = old.unit.files ++ source (file_name name) i.reads.opens.bytes ∷ []; tokens = old.unit.tokens }
    = i.reads.opens.is ∙ ap (λ n. record { files = old.unit.files ++ source n i.reads.opens.bytes ∷ []; tokens = old.unit.tokens }) is
    in let read : lookup (file_name name) ≡ Some i.reads.opens.bytes
    = holds-last lookup old.unit.files (file_name name) i.reads.opens.bytes (subst (HoldsFiles lookup) (ap (λ u. u.files) unit) holds)
    in leads-includes old new here hash name after h i.reads.opens.bytes room new_file i.reads.opens.size unit i.stack i.count lookup read

-- ---- a whole reading

has_step_by : (r : Gatherer) (here : Open) (s : Step) (bytes : List ℕ) (o : Option Source) → slice_get r.unit.files here.file ≡ o
    → option_map (λ f. f.bytes) o ≡ Some bytes → IsStep bytes here.file here.at s → IsWithin bytes here.file s → HasStep r here s
has_step_by r here s bytes None e h is within = absurd (none-some bytes h)
has_step_by r here s bytes (Some file) e h is within =
    let same : bytes ≡ file.bytes = sym (same_Some file.bytes bytes h)
    in record {
      file = file;
      is = e;
      step = subst (λ b. IsStep b here.file here.at s) same is;
      within = subst (λ b. IsWithin b here.file s) same within;
    }

pub has_step : (r : Gatherer) (here : Open) (s : Step) (bytes : List ℕ) → option_map (λ f. f.bytes) (slice_get r.unit.files here.file) ≡ Some bytes
    → IsStep bytes here.file here.at s → IsWithin bytes here.file s → HasStep r here s
has_step r here s bytes h is within = has_step_by r here s bytes (slice_get r.unit.files here.file) refl h is within

pub extends_more : (files more most : List Source) → Extends files more → Extends more most → Extends files most
extends_more files more most (xs, is) (ys, so) = (xs ++ ys, so ∙ ap (λ fs. fs ++ ys) is ∙ append_assoc files xs ys)

pub run-more : (tells : Bool) (outside : Lookup) (first now popped new : Gatherer) (here : Open) → RunSoFar tells outside first now
    → now ≡ reopened here popped → RunSoFar tells outside (reopened here popped) new → RunSoFar tells outside first new
run-more tells outside first now popped new here so is on =
    let next : RunSoFar tells outside now new = subst (λ r. RunSoFar tells outside r new) (sym is) on
    in record {
      ready = next.ready;
      leads = λ lookup held tokens last total ending e.
          so.leads lookup (next.keeps lookup held) tokens last total ending (next.leads lookup held tokens last total ending e);
      keeps = λ lookup held. so.keeps lookup (next.keeps lookup held);
      holds = λ told held. next.holds told (so.holds told held);
      grows = extends_more first.unit.files now.unit.files new.unit.files so.grows next.grows;
    }

-- ---- steps

-- the end of a file
pub advances-ends : (tells : Bool) (outside : Lookup) (old : Gatherer) (here : Open) → IsOrderly (reopened here old) → HasStep old here step.Ends
    → Advances tells outside (reopened here old) old
advances-ends tells outside old here ready h = record {
  so = record {
    ready = record { places = ready.places.1; few = ready.few; counted = ready.counted; paid = ready.paid; distinct = ready.distinct };
    leads = λ lookup held. leads-ends old here h lookup;
    keeps = λ lookup held. held;
    holds = λ told held. held;
    grows = ([], sym (append-nil old.unit.files));
  };
  falls = omega arith;
}

-- a token
pub advances-gives : (old new : Gatherer) (here : Open) (span : Span) → IsOrderly (reopened here old) → HasStep old here (step.Gives span)
    → old.count < token_limit
    → new.unit ≡ record { files = old.unit.files; tokens = old.unit.tokens ++ lexeme_of old.unit.files span ∷ [] }
    → new.stack ≡ file_at here.file span.end ∷ old.stack → new.count ≡ old.count + 1 → (tells : Bool) (outside : Lookup)
    → Advances tells outside (reopened here old) new
advances-gives old new here span ready h room unit stack count tells outside =
    let on : Gatherer = record {
      unit = record { files = old.unit.files; tokens = old.unit.tokens ++ lexeme_of old.unit.files span ∷ [] };
      stack = file_at here.file span.end ∷ old.stack;
      count = old.count + 1;
    }
    in let is : new ≡ on = ap (λ u. record { unit = u; stack = new.stack; count = new.count }) unit
    ∙ ap (λ s. record { unit = on.unit; stack = s; count = new.count }) stack
    ∙ ap (λ n. record { unit = on.unit; stack = on.stack; count = n }) count
    in let longer = length-append old.unit.tokens (lexeme_of old.unit.files span ∷ [])
    in let place : span.end ≤ length (bytes_of (slice_get old.unit.files here.file))
    = subst (λ o. span.end ≤ length (bytes_of o)) (sym h.is) h.within.2
    in let made : Advances tells outside (reopened here old) on = record {
      so = record {
        ready = record {
          places = (record { file = ready.places.0.file; place = place }, ready.places.1);
          few = omega (arith, room);
          counted = omega (arith, longer, ready.counted);
          paid = omega (arith, ready.paid);
          distinct = ready.distinct;
        };
        leads = λ lookup held. leads-gives old on here span h room refl refl refl lookup;
        keeps = λ lookup held. held;
        holds = λ told held. held;
        grows = ([], sym (append-nil old.unit.files));
      };
      falls = omega (arith, room);
    }
    in subst (λ r. Advances tells outside (reopened here old) r) (sym is) made

-- an include of a file that is in the unit
pub advances-again : (tells : Bool) (outside : Lookup) (old new : Gatherer) (here : Open) (hash : ℕ) (name : List ℕ) (after : ℕ)
    → IsOrderly (reopened here old) → HasStep old here (step.Mentions hash name after) → old.count + 3 ≤ token_limit
    → is_among old.unit.files (file_name name) ≡ true → new ≡ passed old here after → Advances tells outside (reopened here old) new
advances-again tells outside old new here hash name after ready h room known is =
    let made : Advances tells outside (reopened here old) (passed old here after) = record {
      so = record {
        ready = record {
          places = (record { file = ready.places.0.file; place = place-behind old here hash name after h }, ready.places.1);
          few = room;
          counted = omega (arith, ready.counted);
          paid = omega (arith, ready.paid);
          distinct = ready.distinct;
        };
        leads = λ lookup held. leads-again old (passed old here after) here hash name after h room known refl refl refl lookup;
        keeps = λ lookup held. held;
        holds = λ told held. held;
        grows = ([], sym (append-nil old.unit.files));
      };
      falls = omega (arith, room);
    }
    in subst (λ r. Advances tells outside (reopened here old) r) (sym is) made

holds-first : (lookup : Lookup) (files more : List Source) → HoldsFiles lookup (files ++ more) → HoldsFiles lookup files
holds-first lookup [] more h = tt
holds-first lookup (f ∷ files) more h = (h.0, holds-first lookup files more h.1)

-- an include of a file that is new to the unit
pub advances-include : (tells : Bool) (outside : Lookup) (old new : Gatherer) (here : Open) (hash : ℕ) (name : List ℕ) (after : ℕ)
    → IsOrderly (reopened here old) → HasStep old here (step.Mentions hash name after) → old.count + 3 ≤ token_limit → (given : List ℕ)
    → given ≡ file_name name → is_among old.unit.files given ≡ false → Includes tells outside old new here given after
    → Advances tells outside (reopened here old) new
advances-include tells outside old new here hash name after ready h room given is alone i =
    let more : List Source = source given i.reads.opens.bytes ∷ []
    in let files : new.unit.files ≡ old.unit.files ++ more = ap (λ u. u.files) i.reads.opens.is
    in record {
      so = record {
        ready = ready-includes tells outside old new here given after ready i (place-behind old here hash name after h) room alone;
        leads = leads-include tells outside old new here hash name after h room (ap (is_among old.unit.files) (sym is) ∙ alone) given is i;
        keeps = λ lookup held. holds-first lookup old.unit.files more (subst (HoldsFiles lookup) files held);
        holds = λ told held. subst (HoldsFiles outside) (sym files)
            (all_push (λ f. outside f.name ≡ Some f.bytes) old.unit.files (source given i.reads.opens.bytes) held (i.reads.told told));
        grows = (more, files);
      };
      falls = omega (arith, i.count, ap length i.stack, room);
    }

-- what a step fails with
pub halts-breaks : (tells : Bool) (outside : Lookup) (r : Gatherer) (here : Open) (place : ℕ) (h : HasStep r here (step.Breaks place)) (spot : Spot)
    → option_map (λ f. spot_in f place) (slice_get r.unit.files here.file) ≡ Some spot → Halts tells outside (reopened here r) (Bad spot)
halts-breaks tells outside r here place h spot is = record { stops = λ lookup e. stops-breaks r here place h spot is lookup; told = λ told. tt }

pub halts-misses : (tells : Bool) (outside : Lookup) (r : Gatherer) (here : Open) (place : ℕ) (h : HasStep r here (step.Misses place)) (spot : Spot)
    → option_map (λ f. spot_in f place) (slice_get r.unit.files here.file) ≡ Some spot → Halts tells outside (reopened here r) (Include spot)
halts-misses tells outside r here place h spot is = record { stops = λ lookup e. stops-misses r here place h spot is lookup; told = λ told. tt }

pub halts-mentions : (tells : Bool) (outside : Lookup) (r : Gatherer) (here : Open) (hash : ℕ) (name : List ℕ) (after : ℕ)
    (h : HasStep r here (step.Mentions hash name after)) (spot : Spot) → token_limit < r.count + 3
    → option_map (λ f. spot_in f hash) (slice_get r.unit.files here.file) ≡ Some spot → Halts tells outside (reopened here r) (Tokens spot)
halts-mentions tells outside r here hash name after h spot full is = record {
  stops = λ lookup e. stops-mentions r here hash name after h spot full is lookup;
  told = λ told. tt;
}

-- a fault that is neither of the files nor of a directive
pub halts-own : (tells : Bool) (outside : Lookup) (r : Gatherer) (fault : GatherFault) → IsOwnFault fault → StopsBy r fault → Halts tells outside r fault
halts-own tells outside r (Tokens spot) own halted = record { stops = halted; told = λ told. tt }
halts-own tells outside r NoMemory own _ = record { stops = tt; told = λ told. tt }
halts-own tells outside r (Missing name) own _ = absurd own
halts-own tells outside r (Long name) own _ = absurd own
halts-own tells outside r Fault own _ = absurd own
halts-own tells outside r (Bad spot) own _ = absurd own
halts-own tells outside r (Include spot) own _ = absurd own

pub counts-own : (A : Type 0) (fault : GatherFault) (counts : FileCounts) → IsOwnFault fault → CountsGathered {A = A} (Err fault) counts counts
counts-own A (Tokens spot) counts own = refl
counts-own A NoMemory counts own = refl
counts-own A (Missing name) counts own = absurd own
counts-own A (Long name) counts own = absurd own
counts-own A Fault counts own = absurd own
counts-own A (Bad spot) counts own = absurd own
counts-own A (Include spot) counts own = absurd own

-- a fault of reading an include
pub halts-include : (tells : Bool) (outside : Lookup) (r : Gatherer) (here : Open) (hash : ℕ) (name : List ℕ) (after : ℕ)
    (h : HasStep r here (step.Mentions hash name after)) → r.count + 3 ≤ token_limit → (given : List ℕ) → given ≡ file_name name
    → is_among r.unit.files given ≡ false → (fault : GatherFault)
    → ReadFails tells outside given fault → Halts tells outside (reopened here r) fault
halts-include tells outside r here hash name after h room given is alone fault failed = record {
  stops = stops-include r here hash name after h room (ap (is_among r.unit.files) (sym is) ∙ alone) given is fault failed.is;
  told = λ told. explains-include outside given name is h.within.2 fault failed.is (failed.told told);
}

claims-map : (fault : GatherFault) (P Q : Type 0) → Claims fault P → (P → Q) → Claims fault Q
claims-map (Missing name) P Q p f = f p
claims-map (Long name) P Q p f = f p
claims-map Fault P Q p f = tt
claims-map (Bad spot) P Q p f = f p
claims-map (Tokens spot) P Q p f = f p
claims-map (Include spot) P Q p f = f p
claims-map NoMemory P Q p f = tt

-- where a step fails, the whole reading comes to its fault
pub run-stops : (tells : Bool) (outside : Lookup) (first now popped : Gatherer) (here : Open) (fault : GatherFault) → RunSoFar tells outside first now
    → now ≡ reopened here popped → IsTrue tells → HoldsFiles outside first.unit.files
    → Claims fault ((lookup : Lookup) → Explains lookup fault → Stops lookup (reopened here popped) fault) → Explains outside fault
    → Claims fault (ComesTo outside first fault)
run-stops tells outside first now popped here fault so is told held halts explained =
    claims-map fault ((lookup : Lookup) → Explains lookup fault → Stops lookup (reopened here popped) fault) (ComesTo outside first fault) halts
    (λ stop. record {
      tokens = popped.unit.tokens;
      last = popped.unit.files;
      total = popped.count;
      ends = so.leads outside (so.holds told held) popped.unit.tokens popped.unit.files popped.count (Some fault)
          (subst (λ r. Ends outside r popped.unit.tokens popped.unit.files popped.count (Some fault)) (sym is) (stop outside explained));
    })

-- where no file is open any more, a reading ends with what it has
pub run-whole : (tells : Bool) (outside : Lookup) (first now : Gatherer) → RunSoFar tells outside first now → now.stack ≡ []
    → (lookup : Lookup) → HoldsFiles lookup now.unit.files → Ends lookup first now.unit.tokens now.unit.files now.count None
run-whole tells outside first now so empty lookup held =
    so.leads lookup held now.unit.tokens now.unit.files now.count None (record {
      left = [];
      parts = sym (append-nil now.unit.tokens);
      rest = subst (λ s. Rest lookup s now.unit.files now.count [] now.unit.files now.count None) (sym empty) (closed now.unit.files now.count);
    })

rest_done : (lookup : Lookup) (number at : ℕ) (files : List Source) (count : ℕ) (inner : List Lexeme) (between : List Source) (counted : ℕ)
    (tokens : List Lexeme) (last : List Source) (total : ℕ) (ending : Option GatherFault)
    → Walks lookup number at files count inner between counted None → Rest lookup [] between counted tokens last total ending
    → Walks lookup number at files count (inner ++ tokens) last total ending
rest_done lookup number at files count inner between counted tokens last total ending unfolds (closed f c) =
    subst (λ ts. Walks lookup number at files count ts between counted None) (sym (append-nil inner)) unfolds

rest_one : (lookup : Lookup) (number at : ℕ) (files : List Source) (count : ℕ) (tokens : List Lexeme) (last : List Source) (total : ℕ)
    (ending : Option GatherFault) → Rest lookup (file_at number at ∷ []) files count tokens last total ending
    → Walks lookup number at files count tokens last total ending
rest_one lookup number at files count tokens last total ending (stops h s f c ts l t failing unfolds) = unfolds
rest_one lookup number at files count tokens last total ending (goes h s f c inner between counted ts l t e unfolds rest) =
    rest_done lookup number at files count inner between counted ts last total ending unfolds rest

-- what a reading from the beginning ends with is the unit of the script
pub begins-unit : (one : OneFirst) (some : SomeSplit) (tells : Bool) (outside lookup : Lookup) (script : List ℕ) (r : Gatherer) (tokens : List Lexeme) (files : List Source)
    (total : ℕ) (ending : Option GatherFault) → BeginsWithScript tells outside r script → HoldsFiles lookup r.unit.files
    → Ends lookup r tokens files total ending → IsUnit lookup script tokens files ending
begins-unit one some tells outside lookup script r tokens files total ending b held e =
    let first : List Source = source (file_name script) b.bytes ∷ []
    in let have : HoldsFiles lookup first = subst (HoldsFiles lookup) (ap (λ u. u.files) b.unit) held
    in let walks : Walks lookup 0 0 first 0 e.left files total ending
    = rest_one lookup 0 0 first 0 e.left files total ending
    (rest_at lookup r.stack (file_at 0 0 ∷ []) r.unit.files first r.count 0 e.left files total ending b.stack (ap (λ u. u.files) b.unit)
    b.count e.rest)
    in let all : e.left ≡ tokens = sym (e.parts ∙ ap (λ u. u.tokens ++ e.left) b.unit)
    in let read = of_file lookup (source (file_name script) b.bytes) 0 0 first 0 e.left files total ending
    (reads one some lookup 0 0 first 0 e.left files total ending walks) refl
    in subst (λ ts. IsUnit lookup script ts files ending) all
    (is_read b.bytes read.all e.left (record { files = files; count = total }) ending have.0 b.size read.has read.unfolds)

-- a script that is not read has no more than that fault
pub begins-fails : (lookup : Lookup) (script : List ℕ) (fault : GatherFault) → IsReadFault (file_name script) fault
    → ExplainsRead lookup (file_name script) fault
    → Claims fault ((tokens : List Lexeme) × (files : List Source) × IsUnit lookup script tokens files (Some fault))
begins-fails lookup script (Missing n) cut e =
    ([], [], unread (Missing n) (ap (reading_fault (file_name script)) e ∙ ap (λ m. Some (Missing m)) (sym cut)))
begins-fails lookup script (Long n) cut e =
    ([], [], unread (Long n) (long_fault (file_name script) (lookup (file_name script)) e ∙ ap (λ m. Some (Long m)) (sym cut)))
begins-fails lookup script Fault cut e = tt
begins-fails lookup script (Bad spot) cut e = absurd cut
begins-fails lookup script (Tokens spot) cut e = absurd cut
begins-fails lookup script (Include spot) cut e = absurd cut
begins-fails lookup script NoMemory cut e = tt

pub begins-stops : (one : OneFirst) (some : SomeSplit) (tells : Bool) (outside lookup : Lookup) (script : List ℕ) (r : Gatherer) (fault : GatherFault) → BeginsWithScript tells outside r script
    → HoldsFiles lookup r.unit.files → Claims fault (ComesTo lookup r fault)
    → Claims fault ((tokens : List Lexeme) × (files : List Source) × IsUnit lookup script tokens files (Some fault))
begins-stops one some tells outside lookup script r fault b held claims =
    claims-map fault (ComesTo lookup r fault) ((tokens : List Lexeme) × (files : List Source) × IsUnit lookup script tokens files (Some fault)) claims
    (λ c. (c.tokens, c.last, begins-unit one some tells outside lookup script r c.tokens c.last c.total (Some fault) b held c.ends))
