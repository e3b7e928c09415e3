-- A script has one unit, or one first fault.
use Rattle.std.proofs.Common.{◌≡◌, ℕ, ◌≤◌, nat_le, arith, Bool, true, false, List, [], ◌∷◌, ◌++◌, length, Option, Some, None, refl, sym, ap, subst, ◌∙◌}
use Rattle.std.proofs.lemmas.Option.{same_Some, none-some}
use Rattle.std.proofs.lemmas.Bool.Decides.{nat_tests}
use Rattle.nwq_value.specs.Limits.{file_limit}
use Rattle.nss_lexer.specs.Splitting.{Lexeme, OneSplit}
use Rattle.nss_include.specs.declared.fault.GatherFault.{GatherFault}
use Rattle.nss_include.specs.declared.file.Source.{Source}
use Rattle.nss_include.specs.Names.{file_name}
use Rattle.nss_include.specs.Pieces.{Piece, Token, Directive, pieces, HasPieces}
use Rattle.nss_include.specs.Units.{Lookup, Held, Unfolds, piece_fault, reading_fault, is_among, source, with_token, with_directive, with_file, script_alone, ends, fails, gives, again}
use Rattle.nss_include.specs.Units.{breaks_off, includes, unread, is_read, OneUnit}

one_pieces : (one : OneSplit) (bytes : List ℕ) (file at : ℕ) (ps qs : List Piece) → HasPieces bytes file at ps → HasPieces bytes file at qs → ps ≡ qs
one_pieces one bytes file at ps qs p q =
    let same = one bytes file at p.tokens q.tokens p.ending q.ending p.splits q.splits
    in p.is ∙ ap (λ ts. pieces ts p.ending) same.0 ∙ ap (pieces q.tokens) same.1 ∙ sym q.is

-- what the first piece of a file leads to
data Next (lookup : Lookup) (file : Source) (piece : Piece) (more : List Piece) (held : Held) (tokens : List Lexeme) (after : Held)
    (ending : Option GatherFault) : Type 0 where
  n_fails : (f : GatherFault) → piece_fault lookup held file piece ≡ Some f → tokens ≡ [] → after ≡ held → ending ≡ Some f
      → Next lookup file piece more held tokens after ending
  n_gives : (t : Lexeme) (ts : List Lexeme) → piece ≡ Token t → piece_fault lookup held file piece ≡ None → tokens ≡ t ∷ ts
      → Unfolds lookup file more (with_token held) ts after ending → Next lookup file piece more held tokens after ending
  n_again : (hash : ℕ) (name : List ℕ) → piece ≡ Directive hash name → piece_fault lookup held file piece ≡ None
      → is_among held.files (file_name name) ≡ true → Unfolds lookup file more (with_directive held) tokens after ending
      → Next lookup file piece more held tokens after ending
  n_breaks : (hash : ℕ) (name bytes : List ℕ) (inner : List Piece) (f : GatherFault) → piece ≡ Directive hash name
      → piece_fault lookup held file piece ≡ None → is_among held.files (file_name name) ≡ false
      → lookup (file_name name) ≡ Some bytes → HasPieces bytes (length held.files) 0 inner → ending ≡ Some f
      → Unfolds lookup (source (file_name name) bytes) inner (with_file held (file_name name) bytes) tokens after (Some f)
      → Next lookup file piece more held tokens after ending
  n_includes : (hash : ℕ) (name bytes : List ℕ) (inner : List Piece) (first ts : List Lexeme) (between : Held) → piece ≡ Directive hash name
      → piece_fault lookup held file piece ≡ None → is_among held.files (file_name name) ≡ false
      → lookup (file_name name) ≡ Some bytes → HasPieces bytes (length held.files) 0 inner → tokens ≡ first ++ ts
      → Unfolds lookup (source (file_name name) bytes) inner (with_file held (file_name name) bytes) first between None
      → Unfolds lookup file more between ts after ending
      → Next lookup file piece more held tokens after ending

abbrev Turn : Lookup → Source → List Piece → Held → List Lexeme → Held → Option GatherFault → Type 0
Turn lookup file [] held tokens after ending = (tokens ≡ []) × (after ≡ held) × (ending ≡ None)
Turn lookup file (piece ∷ more) held tokens after ending = Next lookup file piece more held tokens after ending

turn : (lookup : Lookup) (file : Source) (ps : List Piece) (held : Held) (tokens : List Lexeme) (after : Held) (ending : Option GatherFault)
    → Unfolds lookup file ps held tokens after ending → Turn lookup file ps held tokens after ending
turn lookup file ps held tokens after ending (ends f h) = (refl, refl, refl)
turn lookup file ps held tokens after ending (fails fi piece more h fault is) = n_fails fault is refl refl refl
turn lookup file ps held tokens after ending (gives fi t more h ts a e fine u) = n_gives t ts refl fine refl u
turn lookup file ps held tokens after ending (again fi hash name more h ts a e fine known u) = n_again hash name refl fine known u
turn lookup file ps held tokens after ending (breaks_off fi hash name more h bytes inner ts a f fine new content has u) =
    n_breaks hash name bytes inner f refl fine new content has refl u
turn lookup file ps held tokens after ending (includes fi hash name more h bytes inner first between ts a e fine new content has u v) =
    n_includes hash name bytes inner first ts between refl fine new content has refl u v

-- two ends of one unfolding
record Same (ts us : List Lexeme) (after other : Held) (x y : Option GatherFault) : Type 0 where
  tokens : ts ≡ us
  held : after ≡ other
  ending : x ≡ y

-- what is the same as this unfolding, however it ends
abbrev AsThis : Lookup → Source → List Piece → Held → List Lexeme → Held → Option GatherFault → Type 0
AsThis lookup file ps before ts after x =
    (us : List Lexeme) (other : Held) (y : Option GatherFault) → Unfolds lookup file ps before us other y → Same ts us after other x y

unlike : (b : Bool) → b ≡ false → b ≡ true → ⊥
unlike b h k = let e : false ≡ true = sym h ∙ k in cc

none_some : {A : Type 0} (o : Option A) (x : A) → o ≡ None → o ≡ Some x → ⊥
none_some o x h k = none-some x (sym h ∙ k)

some_same : {A : Type 0} (o : Option A) (x y : A) → o ≡ Some x → o ≡ Some y → x ≡ y
some_same o x y h k = same_Some x y (sym h ∙ k)

token_same : (t u : Lexeme) → Token t ≡ Token u → t ≡ u
token_same t u e = cc

name_same : (hash other : ℕ) (name called : List ℕ) → Directive hash name ≡ Directive other called → called ≡ name
name_same hash other name called e = cc

at_fault : (lookup : Lookup) (file : Source) (piece : Piece) (more : List Piece) (before : Held) (f : GatherFault) (us : List Lexeme) (other : Held)
    (y : Option GatherFault) → piece_fault lookup before file piece ≡ Some f → Next lookup file piece more before us other y
    → Same [] us before other (Some f) y
at_fault lookup file piece more before f us other y failing (n_fails g h t l e) =
    record { tokens = sym t; held = sym l; ending = ap Some (some_same (piece_fault lookup before file piece) f g failing h) ∙ sym e }
at_fault lookup file piece more before f us other y failing (n_gives t ts e h q u) = absurd (none_some (piece_fault lookup before file piece) f h failing)
at_fault lookup file piece more before f us other y failing (n_again hash name e h k u) = absurd (none_some (piece_fault lookup before file piece) f h failing)
at_fault lookup file piece more before f us other y failing (n_breaks hash name bytes inner g e h k c p q u) =
    absurd (none_some (piece_fault lookup before file piece) f h failing)
at_fault lookup file piece more before f us other y failing (n_includes hash name bytes inner first ts between e h k c p q u v) =
    absurd (none_some (piece_fault lookup before file piece) f h failing)

at_token : (lookup : Lookup) (file : Source) (t : Lexeme) (more : List Piece) (before : Held) (ts us : List Lexeme) (after other : Held)
    (x y : Option GatherFault) → piece_fault lookup before file (Token t) ≡ None → AsThis lookup file more (with_token before) ts after x
    → Next lookup file (Token t) more before us other y → Same (t ∷ ts) us after other x y
at_token lookup file t more before ts us after other x y fine rest (n_fails f h q l e) = absurd (none_some (piece_fault lookup before file (Token t)) f fine h)
at_token lookup file t more before ts us after other x y fine rest (n_gives s us' e h q u) =
    let same = rest us' other y u
    in record { tokens = ap (λ v. v ∷ ts) (token_same t s e) ∙ ap (λ vs. s ∷ vs) same.tokens ∙ sym q; held = same.held; ending = same.ending }
at_token lookup file t more before ts us after other x y fine rest (n_again hash name e h k u) = absurd cc
at_token lookup file t more before ts us after other x y fine rest (n_breaks hash name bytes inner g e h k c p q u) = absurd cc
at_token lookup file t more before ts us after other x y fine rest (n_includes hash name bytes inner first us' between e h k c p q u v) = absurd cc

at_known : (lookup : Lookup) (file : Source) (hash : ℕ) (name : List ℕ) (more : List Piece) (before : Held) (ts us : List Lexeme) (after other : Held)
    (x y : Option GatherFault) → piece_fault lookup before file (Directive hash name) ≡ None → is_among before.files (file_name name) ≡ true
    → AsThis lookup file more (with_directive before) ts after x
    → Next lookup file (Directive hash name) more before us other y → Same ts us after other x y
at_known lookup file hash name more before ts us after other x y fine known rest (n_fails f h q l e) =
    absurd (none_some (piece_fault lookup before file (Directive hash name)) f fine h)
at_known lookup file hash name more before ts us after other x y fine known rest (n_gives s us' e h q u) = absurd cc
at_known lookup file hash name more before ts us after other x y fine known rest (n_again hash' name' e h k u) = rest us other y u
at_known lookup file hash name more before ts us after other x y fine known rest (n_breaks hash' name' bytes inner g e h k c p q u) =
    absurd (unlike (is_among before.files (file_name name)) (ap (λ n. is_among before.files (file_name n)) (sym (name_same hash hash' name name' e)) ∙ k) known)
at_known lookup file hash name more before ts us after other x y fine known rest (n_includes hash' name' bytes inner first us' between e h k c p q u v) =
    absurd (unlike (is_among before.files (file_name name)) (ap (λ n. is_among before.files (file_name n)) (sym (name_same hash hash' name name' e)) ∙ k) known)

-- an included file unfolds as it does, by whichever name, bytes and pieces it is told
inner_same : (one : OneSplit) (lookup : Lookup) (before : Held) (name name' bytes bytes' : List ℕ) (inner inner' : List Piece) (us : List Lexeme)
    (other : Held) (y : Option GatherFault) → name' ≡ name → lookup (file_name name) ≡ Some bytes → lookup (file_name name') ≡ Some bytes'
    → HasPieces bytes (length before.files) 0 inner → HasPieces bytes' (length before.files) 0 inner'
    → Unfolds lookup (source (file_name name') bytes') inner' (with_file before (file_name name') bytes') us other y
    → Unfolds lookup (source (file_name name) bytes) inner (with_file before (file_name name) bytes) us other y
inner_same one lookup before name name' bytes bytes' inner inner' us other y is has has' p q u =
    let content : bytes' ≡ bytes = some_same (lookup (file_name name)) bytes' bytes (ap (λ n. lookup (file_name n)) (sym is) ∙ has') has
    in let all : inner' ≡ inner = one_pieces one bytes (length before.files) 0 inner' inner (subst (λ b. HasPieces b (length before.files) 0 inner') content q) p
    in subst (λ ps. Unfolds lookup (source (file_name name) bytes) ps (with_file before (file_name name) bytes) us other y) all
    (subst (λ b. Unfolds lookup (source (file_name name) b) inner' (with_file before (file_name name) b) us other y) content
    (subst (λ n. Unfolds lookup (source (file_name n) bytes') inner' (with_file before (file_name n) bytes') us other y) is u))

at_break : (one : OneSplit) (lookup : Lookup) (file : Source) (hash : ℕ) (name bytes : List ℕ) (inner more : List Piece) (before : Held) (f : GatherFault)
    (ts us : List Lexeme) (after other : Held) (y : Option GatherFault) → piece_fault lookup before file (Directive hash name) ≡ None
    → is_among before.files (file_name name) ≡ false → lookup (file_name name) ≡ Some bytes → HasPieces bytes (length before.files) 0 inner
    → AsThis lookup (source (file_name name) bytes) inner (with_file before (file_name name) bytes) ts after (Some f)
    → Next lookup file (Directive hash name) more before us other y → Same ts us after other (Some f) y
at_break one lookup file hash name bytes inner more before f ts us after other y fine new content has first (n_fails g h q l e) =
    absurd (none_some (piece_fault lookup before file (Directive hash name)) g fine h)
at_break one lookup file hash name bytes inner more before f ts us after other y fine new content has first (n_gives s us' e h q u) = absurd cc
at_break one lookup file hash name bytes inner more before f ts us after other y fine new content has first (n_again hash' name' e h k u) =
    absurd (unlike (is_among before.files (file_name name)) new (ap (λ n. is_among before.files (file_name n)) (sym (name_same hash hash' name name' e)) ∙ k))
at_break one lookup file hash name bytes inner more before f ts us after other y fine new content has first (n_breaks hash' name' bytes' inner' g e h k c p q u) =
    let same = first us other (Some g)
    (inner_same one lookup before name name' bytes bytes' inner inner' us other (Some g) (name_same hash hash' name name' e) content c has p u)
    in record { tokens = same.tokens; held = same.held; ending = same.ending ∙ sym q }
at_break one lookup file hash name bytes inner more before f ts us after other y fine new content has first
    (n_includes hash' name' bytes' inner' us' us'' between e h k c p q u v) =
    let same = first us' between None
    (inner_same one lookup before name name' bytes bytes' inner inner' us' between None (name_same hash hash' name name' e) content c has p u)
    in absurd (none-some f (sym same.ending))

at_include : (one : OneSplit) (lookup : Lookup) (file : Source) (hash : ℕ) (name bytes : List ℕ) (inner more : List Piece) (before between : Held)
    (begun ts us : List Lexeme) (after other : Held) (x y : Option GatherFault) → piece_fault lookup before file (Directive hash name) ≡ None
    → is_among before.files (file_name name) ≡ false → lookup (file_name name) ≡ Some bytes → HasPieces bytes (length before.files) 0 inner
    → AsThis lookup (source (file_name name) bytes) inner (with_file before (file_name name) bytes) begun between None
    → AsThis lookup file more between ts after x
    → Next lookup file (Directive hash name) more before us other y → Same (begun ++ ts) us after other x y
at_include one lookup file hash name bytes inner more before between begun ts us after other x y fine new content has first rest (n_fails g h q l e) =
    absurd (none_some (piece_fault lookup before file (Directive hash name)) g fine h)
at_include one lookup file hash name bytes inner more before between begun ts us after other x y fine new content has first rest (n_gives s us' e h q u) = absurd cc
at_include one lookup file hash name bytes inner more before between begun ts us after other x y fine new content has first rest (n_again hash' name' e h k u) =
    absurd (unlike (is_among before.files (file_name name)) new (ap (λ n. is_among before.files (file_name n)) (sym (name_same hash hash' name name' e)) ∙ k))
at_include one lookup file hash name bytes inner more before between begun ts us after other x y fine new content has first rest
    (n_breaks hash' name' bytes' inner' g e h k c p q u) =
    let same = first us other (Some g)
    (inner_same one lookup before name name' bytes bytes' inner inner' us other (Some g) (name_same hash hash' name name' e) content c has p u)
    in absurd (none-some g same.ending)
at_include one lookup file hash name bytes inner more before between begun ts us after other x y fine new content has first rest
    (n_includes hash' name' bytes' inner' begun' us' between' e h k c p q u v) =
    let same = first begun' between' None
    (inner_same one lookup before name name' bytes bytes' inner inner' begun' between' None (name_same hash hash' name name' e) content c has p u)
    in let behind = rest us' other y (subst (λ b. Unfolds lookup file more b us' other y) (sym same.held) v)
    in record {
      tokens = ap (λ vs. vs ++ ts) same.tokens ∙ ap (λ vs. begun' ++ vs) behind.tokens ∙ sym q;
      held = behind.held;
      ending = behind.ending;
    }

one_unfolding : (one : OneSplit) (lookup : Lookup) (file : Source) (ps : List Piece) (before : Held) (ts : List Lexeme) (after : Held)
    (x : Option GatherFault) → Unfolds lookup file ps before ts after x → AsThis lookup file ps before ts after x
one_unfolding one lookup file ps before ts after x (ends fi h) us other y v =
    let t = turn lookup file [] before us other y v
    in record { tokens = sym t.0; held = sym t.1; ending = sym t.2 }
one_unfolding one lookup file ps before ts after x (fails fi piece more h f is) us other y v =
    at_fault lookup file piece more before f us other y is (turn lookup file (piece ∷ more) before us other y v)
one_unfolding one lookup file ps before ts after x (gives fi t more h tl a e fine u) us other y v =
    at_token lookup file t more before tl us after other x y fine (one_unfolding one lookup file more (with_token before) tl after x u)
    (turn lookup file (Token t ∷ more) before us other y v)
one_unfolding one lookup file ps before ts after x (again fi hash name more h tl a e fine known u) us other y v =
    at_known lookup file hash name more before ts us after other x y fine known
    (one_unfolding one lookup file more (with_directive before) ts after x u)
    (turn lookup file (Directive hash name ∷ more) before us other y v)
one_unfolding one lookup file ps before ts after x (breaks_off fi hash name more h bytes inner tl a f fine new content has u) us other y v =
    at_break one lookup file hash name bytes inner more before f ts us after other y fine new content has
    (one_unfolding one lookup (source (file_name name) bytes) inner (with_file before (file_name name) bytes) ts after (Some f) u)
    (turn lookup file (Directive hash name ∷ more) before us other y v)
one_unfolding one lookup file ps before ts after x (includes fi hash name more h bytes inner first between tl a e fine new content has u w) us other y v =
    at_include one lookup file hash name bytes inner more before between first tl us after other x y fine new content has
    (one_unfolding one lookup (source (file_name name) bytes) inner (with_file before (file_name name) bytes) first between None u)
    (one_unfolding one lookup file more between tl after x w)
    (turn lookup file (Directive hash name ∷ more) before us other y v)

within_size : (name : List ℕ) (o : Option (List ℕ)) (bytes : List ℕ) (f : GatherFault) → o ≡ Some bytes → length bytes ≤ file_limit
    → reading_fault name o ≡ Some f → ⊥
within_size name o bytes f has size failing =
    let fits : nat_le (length bytes) file_limit ≡ true = grind (arith, nat_tests)
    in let fine : reading_fault name (Some bytes) ≡ None = rw fits refl
    in none_some (reading_fault name o) f (ap (reading_fault name) has ∙ fine) failing

pub one_unit : (one : OneSplit) → OneUnit
one_unit one lookup script ts us fs gs x y (unread f h) (unread g k) =
    (refl, refl, ap Some (some_same (reading_fault (file_name script) (lookup (file_name script))) f g h k))
one_unit one lookup script ts us fs gs x y (unread f h) (is_read bytes all tl a e has size p u) =
    absurd (within_size (file_name script) (lookup (file_name script)) bytes f has size h)
one_unit one lookup script ts us fs gs x y (is_read bytes all tl a e has size p u) (unread f h) =
    absurd (within_size (file_name script) (lookup (file_name script)) bytes f has size h)
one_unit one lookup script ts us fs gs x y (is_read bytes all tl a e has size p u) (is_read bytes' all' tl' a' e' has' size' p' v) =
    let content : bytes' ≡ bytes = some_same (lookup (file_name script)) bytes' bytes has' has
    in let same_all : all' ≡ all = one_pieces one bytes 0 0 all' all (subst (λ b. HasPieces b 0 0 all') content p') p
    in let same = one_unfolding one lookup (source (file_name script) bytes) all (script_alone (file_name script) bytes) ts a x u us a' y
    (subst (λ ps. Unfolds lookup (source (file_name script) bytes) ps (script_alone (file_name script) bytes) us a' y) same_all
    (subst (λ b. Unfolds lookup (source (file_name script) b) all' (script_alone (file_name script) b) us a' y) content v))
    in (same.tokens, ap (λ (h : Held). h.files) same.held, same.ending)
