-- What comes of a script's unit, of whatever files: each file is split into tokens, includes come
-- to an end by the count of tokens, and the grammar has a tree or a place.
use Rattle.std.proofs.Common.{◌≡◌, ◌⊎◌, inl, inr, ℕ, zero, suc, ◌+◌, ◌<◌, ◌≤◌, nat_lt, nat_le, Bool, true, false, List, [], ◌∷◌, ◌++◌, length, take, Option, Some, None, refl, subst, arith}
use Rattle.std.specs.Prelude.{if◌then◌else◌, slice_index}
use Rattle.std.proofs.lemmas.Bool.Decides.{nat_tests}
use Rattle.nwq_value.specs.Limits.{token_limit, file_limit, text_limit, nest_limit}
use Rattle.nss_lexer.specs.Splitting.{Lexeme, SomeSplit}
use Rattle.nss_symbols.specs.Symbols.{Symbol}
use Rattle.nss_symbols.specs.Nest.{nests, IsFirstOver, IsWithinNest}
use Rattle.nss_include.specs.declared.fault.GatherFault.{GatherFault}
use Rattle.nss_include.specs.declared.fault.GatherFault.TheVariants as fault
use Rattle.nss_include.specs.declared.file.Source.{Source}
use Rattle.nss_include.specs.Names.{file_name, spot_in}
use Rattle.nss_include.specs.Pieces.{Piece, Token, Directive, BadDirective, BadByte, pieces, HasPieces}
use Rattle.nss_include.specs.Units.{Lookup, Held, Unfolds, IsUnit, piece_fault, include_fault, reading_fault, is_among, source, with_token, with_directive, with_file, script_alone, ends, fails, gives}
use Rattle.nss_include.specs.Units.{again, breaks_off, includes, unread, is_read}

-- ---- faults that are told

-- the fault is one of the text's or of its files
abbrev pub IsTold : Option GatherFault → Type 0
IsTold None = Unit {0}
IsTold (Some (fault.Missing name)) = Unit {0}
IsTold (Some (fault.Long name)) = Unit {0}
IsTold (Some fault.Fault) = ⊥
IsTold (Some (fault.Bad spot)) = Unit {0}
IsTold (Some (fault.Tokens spot)) = Unit {0}
IsTold (Some (fault.Include spot)) = Unit {0}
IsTold (Some fault.NoMemory) = ⊥

told_unless : (b : Bool) (f : GatherFault) → IsTold (Some f) → IsTold (if b then None else Some f)
told_unless true f h = tt
told_unless false f h = h

told_where : (b : Bool) (f : GatherFault) (other : Option GatherFault) → IsTold (Some f) → IsTold other → IsTold (if b then Some f else other)
told_where true f other h k = h
told_where false f other h k = k

told_where_not : (b : Bool) (other : Option GatherFault) → IsTold other → IsTold (if b then None else other)
told_where_not true other h = tt
told_where_not false other h = h

reading_told : (name : List ℕ) (content : Option (List ℕ)) → IsTold (reading_fault name content)
reading_told name None = tt
reading_told name (Some bytes) = told_unless (nat_le (length bytes) file_limit) (fault.Long (take text_limit name)) tt

piece_told : (lookup : Lookup) (held : Held) (file : Source) (piece : Piece) → IsTold (piece_fault lookup held file piece)
piece_told lookup held file (Token t) = told_unless (nat_lt held.count token_limit) (fault.Tokens (spot_in file t.start)) tt
piece_told lookup held file (Directive hash name) =
    told_where (nat_lt token_limit (held.count + 3)) (fault.Tokens (spot_in file hash))
    (if is_among held.files (file_name name) then None else reading_fault (file_name name) (lookup (file_name name))) tt
    (told_where_not (is_among held.files (file_name name)) (reading_fault (file_name name) (lookup (file_name name))) (reading_told (file_name name) (lookup (file_name name))))
piece_told lookup held file (BadDirective hash) = tt
piece_told lookup held file (BadByte place) = tt

-- ---- directives without a fault

-- there is room for it, and its file is in the unit or can be read
record IsRoomy (lookup : Lookup) (held : Held) (name : List ℕ) : Type 0 where
  room : held.count + 3 ≤ token_limit
  file : is_among held.files name ≡ false → reading_fault name (lookup name) ≡ None

roomy_by : (lookup : Lookup) (held : Held) (file : Source) (hash : ℕ) (name : List ℕ) (over among : Bool) → nat_lt token_limit (held.count + 3) ≡ over
    → is_among held.files name ≡ among
    → (if over then Some (fault.Tokens (spot_in file hash)) else (if among then None else reading_fault name (lookup name))) ≡ None → IsRoomy lookup held name
roomy_by lookup held file hash name true among e f h = absurd cc
roomy_by lookup held file hash name false true e f h = record { room = grind (arith, nat_tests); file = λ new. absurd cc }
roomy_by lookup held file hash name false false e f h = record { room = grind (arith, nat_tests); file = λ new. h }

roomy : (lookup : Lookup) (held : Held) (file : Source) (hash : ℕ) (name : List ℕ) → include_fault lookup held file hash name ≡ None → IsRoomy lookup held name
roomy lookup held file hash name h = roomy_by lookup held file hash name (nat_lt token_limit (held.count + 3)) (is_among held.files name) refl refl h

-- the bytes of a file that can be read
record CanRead (content : Option (List ℕ)) : Type 0 where
  bytes : List ℕ
  is : content ≡ Some bytes
  small : length bytes ≤ file_limit

can_read_by : (name bytes : List ℕ) (b : Bool) → nat_le (length bytes) file_limit ≡ b → (if b then None else Some (fault.Long (take text_limit name))) ≡ None → CanRead (Some bytes)
can_read_by name bytes true e h = record { bytes = bytes; is = refl; small = grind (arith, nat_tests) }
can_read_by name bytes false e h = absurd cc

can_read : (name : List ℕ) (content : Option (List ℕ)) → reading_fault name content ≡ None → CanRead content
can_read name None h = absurd cc
can_read name (Some bytes) h = can_read_by name bytes (nat_le (length bytes) file_limit) refl h

-- ---- all pieces

module _ (some : SomeSplit) (lookup : Lookup) where
  pieces_of : (bytes : List ℕ) (file : ℕ) → (ps : List Piece) × HasPieces bytes file 0 ps
  pieces_of bytes file =
      let s = some bytes file 0 in (pieces s.0 s.1, record { tokens = s.0; ending = s.1; splits = s.2; is = refl })

  -- the pieces come to this
  record Unfolded (file : Source) (ps : List Piece) (held : Held) : Type 0 where
    tokens : List Lexeme
    after : Held
    ending : Option GatherFault
    unfolds : Unfolds lookup file ps held tokens after ending
    told : IsTold ending
    grows : held.count ≤ after.count

  -- what comes of the files that are included, each of which has room for a token less
  abbrev Deeper : ℕ → Type 0
  Deeper n = (file : Source) (ps : List Piece) (held : Held) → held.count ≤ token_limit → token_limit + 2 < held.count + n → Unfolded file ps held

  failed : (file : Source) (piece : Piece) (more : List Piece) (held : Held) (f : GatherFault) → piece_fault lookup held file piece ≡ Some f → Unfolded file (piece ∷ more) held
  failed file piece more held f is = record {
    tokens = [];
    after = held;
    ending = Some f;
    unfolds = fails file piece more held f is;
    told = subst IsTold is (piece_told lookup held file piece);
    grows = omega arith;
  }

  module _ (n : ℕ) (deeper : Deeper n) where
    included : (file : Source) (hash : ℕ) (name : List ℕ) (more : List Piece) (held : Held) (bytes : List ℕ) (inner : List Piece)
        → piece_fault lookup held file (Directive hash name) ≡ None → is_among held.files (file_name name) ≡ false → lookup (file_name name) ≡ Some bytes
        → HasPieces bytes (length held.files) 0 inner → (first : Unfolded (source (file_name name) bytes) inner (with_file held (file_name name) bytes))
        → ((between : Held) → held.count ≤ between.count → Unfolded file more between)
        → (ending : Option GatherFault) → first.ending ≡ ending → Unfolded file (Directive hash name ∷ more) held
    included file hash name more held bytes inner fine new is has first next (Some f) e = record {
      tokens = first.tokens;
      after = first.after;
      ending = Some f;
      unfolds = breaks_off file hash name more held bytes inner first.tokens first.after f fine new is has
          (subst (λ x. Unfolds lookup (source (file_name name) bytes) inner (with_file held (file_name name) bytes) first.tokens first.after x) e first.unfolds);
      told = subst IsTold e first.told;
      grows = omega (arith, first.grows);
    }
    included file hash name more held bytes inner fine new is has first next None e =
        let rest = next first.after (omega (arith, first.grows)) in
        record {
          tokens = first.tokens ++ rest.tokens;
          after = rest.after;
          ending = rest.ending;
          unfolds = includes file hash name more held bytes inner first.tokens first.after rest.tokens rest.after rest.ending fine new is has
              (subst (λ x. Unfolds lookup (source (file_name name) bytes) inner (with_file held (file_name name) bytes) first.tokens first.after x) e first.unfolds) rest.unfolds;
          told = rest.told;
          grows = omega (arith, first.grows, rest.grows);
        }

    abbrev From : Source → List Piece → Type 0
    From file more = (held : Held) → token_limit < held.count + n → Unfolded file more held

    token_by : (file : Source) (t : Lexeme) (more : List Piece) (held : Held) → token_limit < held.count + n → From file more
        → (o : Option GatherFault) → piece_fault lookup held file (Token t) ≡ o → Unfolded file (Token t ∷ more) held
    token_by file t more held room next (Some f) e = failed file (Token t) more held f e
    token_by file t more held room next None e =
        let rest = next (with_token held) (omega (arith, room)) in
        record {
          tokens = t ∷ rest.tokens;
          after = rest.after;
          ending = rest.ending;
          unfolds = gives file t more held rest.tokens rest.after rest.ending e rest.unfolds;
          told = rest.told;
          grows = omega (arith, rest.grows);
        }

    fresh : (file : Source) (hash : ℕ) (name : List ℕ) (more : List Piece) (held : Held) → token_limit < held.count + n → From file more
        → piece_fault lookup held file (Directive hash name) ≡ None → IsRoomy lookup held (file_name name) → is_among held.files (file_name name) ≡ false
        → CanRead (lookup (file_name name)) → Unfolded file (Directive hash name ∷ more) held
    fresh file hash name more held room next fine roomy new read =
        let inner = pieces_of read.bytes (length held.files) in
        let first = deeper (source (file_name name) read.bytes) inner.0 (with_file held (file_name name) read.bytes) roomy.room (omega (arith, room)) in
        included file hash name more held read.bytes inner.0 fine new read.is inner.1 first (λ between grows. next between (omega (arith, room, grows))) first.ending refl

    directive_by : (file : Source) (hash : ℕ) (name : List ℕ) (more : List Piece) (held : Held) → token_limit < held.count + n → From file more
        → piece_fault lookup held file (Directive hash name) ≡ None → IsRoomy lookup held (file_name name)
        → (among : Bool) → is_among held.files (file_name name) ≡ among → Unfolded file (Directive hash name ∷ more) held
    directive_by file hash name more held room next fine roomy true e =
        let rest = next (with_directive held) (omega (arith, room)) in
        record {
          tokens = rest.tokens;
          after = rest.after;
          ending = rest.ending;
          unfolds = again file hash name more held rest.tokens rest.after rest.ending fine e rest.unfolds;
          told = rest.told;
          grows = omega (arith, rest.grows);
        }
    directive_by file hash name more held room next fine roomy false e =
        fresh file hash name more held room next fine roomy e (can_read (file_name name) (lookup (file_name name)) (roomy.file e))

    include_by : (file : Source) (hash : ℕ) (name : List ℕ) (more : List Piece) (held : Held) → token_limit < held.count + n → From file more
        → (o : Option GatherFault) → piece_fault lookup held file (Directive hash name) ≡ o → Unfolded file (Directive hash name ∷ more) held
    include_by file hash name more held room next (Some f) e = failed file (Directive hash name) more held f e
    include_by file hash name more held room next None e =
        directive_by file hash name more held room next e (roomy lookup held file hash (file_name name) e) (is_among held.files (file_name name)) refl

    along : (file : Source) (ps : List Piece) → From file ps
    along file [] held room = record { tokens = []; after = held; ending = None; unfolds = ends file held; told = tt; grows = omega arith }
    along file (Token t ∷ more) held room = token_by file t more held room (along file more) (piece_fault lookup held file (Token t)) refl
    along file (Directive hash name ∷ more) held room =
        include_by file hash name more held room (along file more) (piece_fault lookup held file (Directive hash name)) refl
    along file (BadDirective hash ∷ more) held room = failed file (BadDirective hash) more held (fault.Include (spot_in file hash)) refl
    along file (BadByte place ∷ more) held room = failed file (BadByte place) more held (fault.Bad (spot_in file place)) refl

  unfolded : (n : ℕ) (file : Source) (ps : List Piece) (held : Held) → token_limit < held.count + n → Unfolded file ps held
  unfolded zero file ps held room = along zero (λ f qs h few more. absurd (omega (arith, few, more))) file ps held room
  unfolded (suc n) file ps held room = along (suc n) (λ f qs h few more. unfolded n f qs h (omega (arith, more))) file ps held room

  -- ---- a unit

  -- the unit of a script, whatever the files are
  pub record UnitComes (script : List ℕ) : Type 0 where
    pub tokens : List Lexeme
    pub files : List Source
    pub ending : Option GatherFault
    pub is : IsUnit lookup script tokens files ending
    pub told : IsTold ending

  unit_by : (script : List ℕ) (o : Option GatherFault) → reading_fault (file_name script) (lookup (file_name script)) ≡ o → UnitComes script
  unit_by script (Some f) e = record {
    tokens = [];
    files = [];
    ending = Some f;
    is = unread f e;
    told = subst IsTold e (reading_told (file_name script) (lookup (file_name script)));
  }
  unit_by script None e =
      let read = can_read (file_name script) (lookup (file_name script)) e in
      let all = pieces_of read.bytes 0 in
      let u = unfolded (token_limit + 1) (source (file_name script) read.bytes) all.0 (script_alone (file_name script) read.bytes) (omega arith) in
      record {
        tokens = u.tokens;
        files = u.after.files;
        ending = u.ending;
        is = is_read read.bytes all.0 u.tokens u.after u.ending read.is read.small all.1 u.unfolds;
        told = u.told;
      }

  pub unit_comes : (script : List ℕ) → UnitComes script
  unit_comes script = unit_by script (reading_fault (file_name script) (lookup (file_name script))) refl

-- ---- how deep tokens nest

-- a first number over a limit, or none
abbrev FirstOver : List ℕ → Type 0
FirstOver xs = ((k : ℕ) → slice_index xs k ≤ nest_limit) ⊎ ((i : ℕ) × (nest_limit < slice_index xs i) × ((k : ℕ) → k < i → slice_index xs k ≤ nest_limit))

none_over : (x : ℕ) (xs : List ℕ) → x ≤ nest_limit → ((k : ℕ) → slice_index xs k ≤ nest_limit) → (k : ℕ) → slice_index (x ∷ xs) k ≤ nest_limit
none_over x xs small h zero = small
none_over x xs small h (suc k) = h k

none_before : (x i : ℕ) (xs : List ℕ) → x ≤ nest_limit → ((k : ℕ) → k < i → slice_index xs k ≤ nest_limit) → (k : ℕ) → k < suc i → slice_index (x ∷ xs) k ≤ nest_limit
none_before x i xs small h zero lt = small
none_before x i xs small h (suc k) lt = h k (omega (arith, lt))

first_by : (x : ℕ) (xs : List ℕ) → FirstOver xs → (b : Bool) → nat_lt nest_limit x ≡ b → FirstOver (x ∷ xs)
first_by x xs rest true e = inr (0, grind (arith, nat_tests), λ k lt. absurd (omega (arith, lt)))
first_by x xs (inl all) false e = inl (none_over x xs (grind (arith, nat_tests)) all)
first_by x xs (inr (i, over, before)) false e = inr (suc i, over, none_before x i xs (grind (arith, nat_tests)) before)

first_over : (xs : List ℕ) → FirstOver xs
first_over [] = inl (λ k. omega arith)
first_over (x ∷ xs) = first_by x xs (first_over xs) (nat_lt nest_limit x) refl

pub nest_comes : (tokens : List Symbol) → IsWithinNest tokens ⊎ ((i : ℕ) × IsFirstOver tokens i)
nest_comes tokens = by_first (first_over (nests tokens))
  where
    by_first : FirstOver (nests tokens) → IsWithinNest tokens ⊎ ((i : ℕ) × IsFirstOver tokens i)
    by_first (inl all) = inl all
    by_first (inr h) = inr (h.0, record { over = h.1; before = h.2 })
