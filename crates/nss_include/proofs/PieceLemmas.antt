-- From steps to pieces: what a file goes on with at a place are its pieces there, and what its
-- steps come to, its pieces come to.
use Rattle.std.proofs.Common.{◌≡◌, ℕ, zero, suc, ◌+◌, Bool, true, false, ◌&&◌, List, [], ◌∷◌, ◌++◌, length, Option, Some, None, refl, sym, ap, subst, ◌∙◌, append_assoc, append-nil}
use Rattle.std.proofs.lemmas.Option.{same_Some, none-some}
use Rattle.std.specs.List.{slice_get}
use Rattle.nss_lexer.specs.Splitting.{Lexeme, First, Found, AtEnd, BadAt, IsFirst, Splits, whole, broken, token, OneFirst, SomeSplit}
use Rattle.nss_lexer.specs.Strings.{string_value}
use Rattle.nss_include.specs.declared.fault.GatherFault.{GatherFault}
use Rattle.nss_include.specs.declared.file.Source.{Source}
use Rattle.nss_include.specs.declared.step.Step.{Step}
use Rattle.nss_include.specs.declared.step.Step.TheVariants as step
use Rattle.nss_include.specs.Names.{file_name, is_include_name}
use Rattle.nss_include.specs.Pieces.{Piece, Token, Directive, BadDirective, BadByte, is_hash, is_include, is_string, directive, pieces, HasPieces}
use Rattle.nss_include.specs.Steps.{IsStep, lexeme_in, begins_include, named_step, directive_step, ends as step_ends, breaks, other, sign, begins}
use Rattle.nss_include.specs.Units.{Lookup, Held, source, Unfolds, ends as no_piece, fails as piece_fails, gives as piece_gives, again as piece_again, breaks_off as piece_breaks_off}
use Rattle.nss_include.specs.Units.{includes as piece_includes}
use Rattle.nss_include.specs.Walks.{Walks, step_fault, ends, fails, gives, again, breaks_off, includes}

-- ---- the pieces at a step

abbrev goes_on : Lexeme → List Lexeme → Bool
goes_on t [] = false
goes_on t (u ∷ us) = is_hash t && is_include u

token_piece : (t : Lexeme) (ts : List Lexeme) (ending : Option ℕ) → goes_on t ts ≡ false → pieces (t ∷ ts) ending ≡ Token t ∷ pieces ts ending
token_piece t [] ending h = refl
token_piece t (u ∷ []) ending h = rw h refl
token_piece t (u ∷ v ∷ ts) ending h = rw h refl

no_hash : (t : Lexeme) (ts : List Lexeme) → is_hash t ≡ false → goes_on t ts ≡ false
no_hash t [] h = refl
no_hash t (u ∷ us) h = rw h refl

and_no : (x y : Bool) → y ≡ false → (x && y) ≡ false
and_no true y h = h
and_no false y h = refl

no_include : (one : OneFirst) (bytes : List ℕ) (file at : ℕ) (t : Lexeme) (x : First) (ts : List Lexeme) (ending : Option ℕ) → IsFirst bytes file at x
    → begins_include x ≡ false → Splits bytes file at ts ending → goes_on t ts ≡ false
no_include one bytes file at t x ts ending h differs (whole a first) = refl
no_include one bytes file at t x ts ending h differs (broken a place first) = refl
no_include one bytes file at t x ts ending h differs (token a u us e first rest) =
    and_no (is_hash t) (is_include u) (ap begins_include (one bytes file at (Found u) x first h) ∙ differs)

-- what the pieces at a place are, by the step there
abbrev pub StepPieces : List ℕ → ℕ → ℕ → Step → Type 0
StepPieces bytes file at step.Ends = HasPieces bytes file at []
StepPieces bytes file at (step.Breaks place) = HasPieces bytes file at (BadByte place ∷ [])
StepPieces bytes file at (step.Gives span) =
    (ps : List Piece) → HasPieces bytes file span.end ps → HasPieces bytes file at (Token (lexeme_in bytes span) ∷ ps)
StepPieces bytes file at (step.Mentions hash name after) =
    (ps : List Piece) → HasPieces bytes file after ps → HasPieces bytes file at (Directive hash name ∷ ps)
StepPieces bytes file at (step.Misses hash) = (ps : List Piece) × HasPieces bytes file at (BadDirective hash ∷ ps)

token_pieces : (bytes : List ℕ) (file at : ℕ) (t : Lexeme) (ps : List Piece) (p : HasPieces bytes file t.end ps) → IsFirst bytes file at (Found t)
    → goes_on t p.tokens ≡ false → HasPieces bytes file at (Token t ∷ ps)
token_pieces bytes file at t ps p first plain = record {
  tokens = t ∷ p.tokens;
  ending = p.ending;
  splits = token at t p.tokens p.ending first p.splits;
  is = ap (λ qs. Token t ∷ qs) p.is ∙ sym (token_piece t p.tokens p.ending plain);
}

-- a directive of three tokens
three : (bytes : List ℕ) (file at : ℕ) (t u v : Lexeme) (ps : List Piece) (piece : Piece) → HasPieces bytes file v.end ps
    → IsFirst bytes file at (Found t) → is_hash t ≡ true → IsFirst bytes file t.end (Found u) → is_include u ≡ true
    → IsFirst bytes file u.end (Found v) → directive t.start v ≡ piece → HasPieces bytes file at (piece ∷ ps)
three bytes file at t u v ps piece p first hash second word third is = record {
  tokens = t ∷ u ∷ v ∷ p.tokens;
  ending = p.ending;
  splits = token at t (u ∷ v ∷ p.tokens) p.ending first
      (token t.end u (v ∷ p.tokens) p.ending second (token u.end v p.tokens p.ending third p.splits));
  is = rw (hash, word) (ap (λ q. q ∷ ps) (sym is) ∙ ap (λ qs. directive t.start v ∷ qs) p.is);
}

-- the pieces from a place on, whatever they are
some_pieces : (some : SomeSplit) (bytes : List ℕ) (file at : ℕ) → (ps : List Piece) × HasPieces bytes file at ps
some_pieces some bytes file at =
    let s = some bytes file at
    in (pieces s.0 s.1, record { tokens = s.0; ending = s.1; splits = s.2; is = refl })

string_pieces : (some : SomeSplit) (bytes : List ℕ) (file at : ℕ) (t u v : Lexeme) (b c : Bool) → is_string v.kind ≡ b → is_include_name (string_value v.text) ≡ c
    → IsFirst bytes file at (Found t) → is_hash t ≡ true → IsFirst bytes file t.end (Found u) → is_include u ≡ true
    → IsFirst bytes file u.end (Found v) → StepPieces bytes file at (directive_step t.start (Found v))
unfolding named_step
string_pieces some bytes file at t u v true true string name first hash second word third =
    rw (string, name) (λ ps p. three bytes file at t u v ps (Directive t.start (string_value v.text)) p first hash second word third (rw (string, name) refl))
string_pieces some bytes file at t u v true false string name first hash second word third =
    let rest = some_pieces some bytes file v.end
    in rw (string, name) (rest.0, three bytes file at t u v rest.0 (BadDirective t.start) rest.1 first hash second word third (rw (string, name) refl))
string_pieces some bytes file at t u v false c string name first hash second word third =
    let rest = some_pieces some bytes file v.end
    in rw string (rest.0, three bytes file at t u v rest.0 (BadDirective t.start) rest.1 first hash second word third (rw string refl))

-- a directive by what stands first behind its `include`
directive_pieces : (some : SomeSplit) (bytes : List ℕ) (file at : ℕ) (t u : Lexeme) (x : First)
    → IsFirst bytes file at (Found t) → is_hash t ≡ true → IsFirst bytes file t.end (Found u) → is_include u ≡ true
    → IsFirst bytes file u.end x → StepPieces bytes file at (directive_step t.start x)
directive_pieces some bytes file at t u AtEnd first hash second word third = (
  [],
  record {
    tokens = t ∷ u ∷ [];
    ending = None;
    splits = token at t (u ∷ []) None first (token t.end u [] None second (whole u.end third));
    is = rw (hash, word) refl;
  },
)
directive_pieces some bytes file at t u (BadAt place) first hash second word third = record {
  tokens = t ∷ u ∷ [];
  ending = Some place;
  splits = token at t (u ∷ []) (Some place) first (token t.end u [] (Some place) second (broken u.end place third));
  is = rw (hash, word) refl;
}
directive_pieces some bytes file at t u (Found v) first hash second word third =
    string_pieces some bytes file at t u v (is_string v.kind) (is_include_name (string_value v.text)) refl refl first hash second word third

pub step_pieces : (one : OneFirst) (some : SomeSplit) (bytes : List ℕ) (file at : ℕ) (s : Step) → IsStep bytes file at s → StepPieces bytes file at s
step_pieces one some bytes file at s (step_ends a first) = record { tokens = []; ending = None; splits = whole a first; is = refl }
step_pieces one some bytes file at s (breaks a place first) = record { tokens = []; ending = Some place; splits = broken a place first; is = refl }
step_pieces one some bytes file at s (other a span first plain) =
    λ ps p. token_pieces bytes file a (lexeme_in bytes span) ps p first (no_hash (lexeme_in bytes span) p.tokens plain)
step_pieces one some bytes file at s (sign a span x first behind differs) =
    λ ps p. token_pieces bytes file a (lexeme_in bytes span) ps p first
    (no_include one bytes file span.end (lexeme_in bytes span) x p.tokens p.ending behind differs p.splits)
step_pieces one some bytes file at s (begins a t u x r first hash second word behind is) =
    subst (StepPieces bytes file a) (sym is) (directive_pieces some bytes file a t u x first hash second word behind)

-- ---- what the steps come to, the pieces come to

abbrev held : List Source → ℕ → Held
held files count = record { files = files; count = count }

-- from a place of this file on, its pieces come to this
pub record ReadsAs (lookup : Lookup) (file : Source) (number at : ℕ) (files : List Source) (count : ℕ) (tokens : List Lexeme) (last : List Source)
    (total : ℕ) (ending : Option GatherFault) : Type 0 where
  pub all : List Piece
  pub has : HasPieces file.bytes number at all
  pub unfolds : Unfolds lookup file all (held files count) tokens (held last total) ending

pub record Reads (lookup : Lookup) (number at : ℕ) (files : List Source) (count : ℕ) (tokens : List Lexeme) (last : List Source) (total : ℕ)
    (ending : Option GatherFault) : Type 0 where
  pub file : Source
  pub is : slice_get files number ≡ Some file
  pub here : ReadsAs lookup file number at files count tokens last total ending
  pub more : List Source
  pub grows : last ≡ files ++ more

slice_get-grows : {A : Type 0} (xs ys : List A) (i : ℕ) (x : A) → slice_get xs i ≡ Some x → slice_get (xs ++ ys) i ≡ Some x
slice_get-grows [] ys i x h = absurd (none-some x h)
slice_get-grows (z ∷ xs) ys zero x h = h
slice_get-grows (z ∷ xs) ys (suc i) x h = slice_get-grows xs ys i x h

slice_get-last : {A : Type 0} (xs : List A) (x : A) → slice_get (xs ++ x ∷ []) (length xs) ≡ Some x
slice_get-last [] x = refl
slice_get-last (y ∷ xs) x = slice_get-last xs x

-- what is read of the file of this number is read of this file
pub of_file : (lookup : Lookup) (file : Source) (number at : ℕ) (files : List Source) (count : ℕ) (tokens : List Lexeme) (last : List Source)
    (total : ℕ) (ending : Option GatherFault) (r : Reads lookup number at files count tokens last total ending) → slice_get files number ≡ Some file
    → ReadsAs lookup file number at files count tokens last total ending
of_file lookup file number at files count tokens last total ending r is =
    subst (λ f. ReadsAs lookup f number at files count tokens last total ending) (same_Some r.file file (sym r.is ∙ is)) r.here

-- a file stops at a step that fails
fails_at : (one : OneFirst) (some : SomeSplit) (lookup : Lookup) (number at : ℕ) (files : List Source) (count : ℕ) (file : Source) (s : Step)
    (fault : GatherFault) → slice_get files number ≡ Some file → IsStep file.bytes number at s
    → step_fault lookup files count file s ≡ Some fault → ReadsAs lookup file number at files count [] files count (Some fault)
fails_at one some lookup number at files count file step.Ends fault is stands h = absurd (none-some fault h)
fails_at one some lookup number at files count file (step.Breaks place) fault is stands h = record {
  all = BadByte place ∷ [];
  has = step_pieces one some file.bytes number at (step.Breaks place) stands;
  unfolds = piece_fails file (BadByte place) [] (held files count) fault h;
}
fails_at one some lookup number at files count file (step.Gives span) fault is stands h =
    let rest = some_pieces some file.bytes number span.end
    in record {
      all = Token (lexeme_in file.bytes span) ∷ rest.0;
      has = step_pieces one some file.bytes number at (step.Gives span) stands rest.0 rest.1;
      unfolds = piece_fails file (Token (lexeme_in file.bytes span)) rest.0 (held files count) fault h;
    }
fails_at one some lookup number at files count file (step.Mentions hash name after) fault is stands h =
    let rest = some_pieces some file.bytes number after
    in record {
      all = Directive hash name ∷ rest.0;
      has = step_pieces one some file.bytes number at (step.Mentions hash name after) stands rest.0 rest.1;
      unfolds = piece_fails file (Directive hash name) rest.0 (held files count) fault h;
    }
fails_at one some lookup number at files count file (step.Misses hash) fault is stands h =
    let there = step_pieces one some file.bytes number at (step.Misses hash) stands
    in record { all = BadDirective hash ∷ there.0; has = there.1; unfolds = piece_fails file (BadDirective hash) there.0 (held files count) fault h }

-- a file that is new to the unit, by its own pieces
inner_of : (lookup : Lookup) (files : List Source) (count : ℕ) (name bytes : List ℕ) (tokens : List Lexeme) (last : List Source)
    (total : ℕ) (ending : Option GatherFault) → Reads lookup (length files) 0 (files ++ source name bytes ∷ []) count tokens last total ending
    → ReadsAs lookup (source name bytes) (length files) 0 (files ++ source name bytes ∷ []) count tokens last total ending
inner_of lookup files count name bytes tokens last total ending r =
    of_file lookup (source name bytes) (length files) 0 (files ++ source name bytes ∷ []) count tokens last total ending r
    (slice_get-last files (source name bytes))

pub reads : (one : OneFirst) (some : SomeSplit) (lookup : Lookup) (number at : ℕ) (files : List Source) (count : ℕ) (tokens : List Lexeme)
    (last : List Source) (total : ℕ) (ending : Option GatherFault) → Walks lookup number at files count tokens last total ending
    → Reads lookup number at files count tokens last total ending
reads one some lookup number at files count tokens last total ending (ends n a fs c file is stands) = record {
  file = file;
  is = is;
  here = record { all = []; has = step_pieces one some file.bytes n a step.Ends stands; unfolds = no_piece file (held fs c) };
  more = [];
  grows = sym (append-nil fs);
}
reads one some lookup number at files count tokens last total ending (fails n a fs c file s fault is stands h) = record {
  file = file;
  is = is;
  here = fails_at one some lookup n a fs c file s fault is stands h;
  more = [];
  grows = sym (append-nil fs);
}
reads one some lookup number at files count tokens last total ending (gives n a fs c file span ts l t e is stands h w) =
    let r = reads one some lookup n span.end fs (c + 1) ts l t e w
    in let rest = of_file lookup file n span.end fs (c + 1) ts l t e r is
    in record {
      file = file;
      is = is;
      here = record {
        all = Token (lexeme_in file.bytes span) ∷ rest.all;
        has = step_pieces one some file.bytes n a (step.Gives span) stands rest.all rest.has;
        unfolds = piece_gives file (lexeme_in file.bytes span) rest.all (held fs c) ts (held l t) e h rest.unfolds;
      };
      more = r.more;
      grows = r.grows;
    }
reads one some lookup number at files count tokens last total ending (again n a fs c file hash name after ts l t e is stands h known w) =
    let r = reads one some lookup n after fs (c + 3) ts l t e w
    in let rest = of_file lookup file n after fs (c + 3) ts l t e r is
    in record {
      file = file;
      is = is;
      here = record {
        all = Directive hash name ∷ rest.all;
        has = step_pieces one some file.bytes n a (step.Mentions hash name after) stands rest.all rest.has;
        unfolds = piece_again file hash name rest.all (held fs c) ts (held l t) e h known rest.unfolds;
      };
      more = r.more;
      grows = r.grows;
    }
reads one some lookup number at files count tokens last total ending (breaks_off n a fs c file hash name after bytes ts l t f is stands h new content w) =
    let r = reads one some lookup (length fs) 0 (fs ++ source (file_name name) bytes ∷ []) (c + 3) ts l t (Some f) w
    in let inner = inner_of lookup fs (c + 3) (file_name name) bytes ts l t (Some f) r
    in let rest = some_pieces some file.bytes n after
    in record {
      file = file;
      is = is;
      here = record {
        all = Directive hash name ∷ rest.0;
        has = step_pieces one some file.bytes n a (step.Mentions hash name after) stands rest.0 rest.1;
        unfolds = piece_breaks_off file hash name rest.0 (held fs c) bytes inner.all ts (held l t) f h new content inner.has inner.unfolds;
      };
      more = source (file_name name) bytes ∷ r.more;
      grows = r.grows ∙ append_assoc fs (source (file_name name) bytes ∷ []) r.more;
    }
reads one some lookup number at files count tokens last total ending
    (includes n a fs c file hash name after bytes first between counted ts l t e is stands h new content v w) =
    let r = reads one some lookup (length fs) 0 (fs ++ source (file_name name) bytes ∷ []) (c + 3) first between counted None v
    in let inner = inner_of lookup fs (c + 3) (file_name name) bytes first between counted None r
    in let q = reads one some lookup n after between counted ts l t e w
    in let grown : between ≡ fs ++ source (file_name name) bytes ∷ r.more = r.grows ∙ append_assoc fs (source (file_name name) bytes ∷ []) r.more
    in let there : slice_get between n ≡ Some file =
    ap (λ xs. slice_get xs n) grown ∙ slice_get-grows fs (source (file_name name) bytes ∷ r.more) n file is
    in let rest = of_file lookup file n after between counted ts l t e q there
    in record {
      file = file;
      is = is;
      here = record {
        all = Directive hash name ∷ rest.all;
        has = step_pieces one some file.bytes n a (step.Mentions hash name after) stands rest.all rest.has;
        unfolds = piece_includes file hash name rest.all (held fs c) bytes inner.all first (held between counted) ts (held l t) e h new content
            inner.has inner.unfolds rest.unfolds;
      };
      more = (source (file_name name) bytes ∷ r.more) ++ q.more;
      grows = q.grows ∙ ap (λ xs. xs ++ q.more) grown ∙ append_assoc fs (source (file_name name) bytes ∷ r.more) q.more;
    }
