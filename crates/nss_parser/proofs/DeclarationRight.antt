-- What is read as a type, a constant or declared names is spelled so, what stops is a prefix, and
-- the depth lasts.
use Rattle.std.proofs.Common.{◌≡◌, ℕ, zero, suc, ◌≤◌, Bool, true, false, ◌⊎◌, inl, inr, List, [], ◌∷◌, ◌++◌, length, append_assoc, append-nil, Option, None, Some, refl, sym, ap, subst, arith}
use Rattle.std.specs.Int.{cast_signed, w32}
use Rattle.nss_tree.specs.Source.{SourceDeclared}
use Rattle.nss_tree.specs.declared.constants.TypeName.{TypeName}
use Rattle.nss_tree.specs.declared.constants.TypeName.TheVariants as type
use Rattle.nss_tree.specs.declared.constants.Constant.TheVariants as constant
use Rattle.nss_tree.specs.declared.units.Identifier.{Identifier}
use Rattle.nss_symbols.specs.declared.terminal.Terminal.{Terminal}
use Rattle.nss_symbols.specs.declared.terminal.Terminal.TheVariants as terminal
use Rattle.nss_symbols.specs.Symbols as symbol
use Rattle.nss_symbols.specs.Symbols.{Symbol, Numbered, at, fixed}
use Rattle.nss_parser.specs.Operators.{type_word}
use Rattle.nss_symbols.specs.Outcome.{Got, Parser, and_then, ◌>>=◌, branch, same_terminal, first, here, take, name, pure, stuck}
use Rattle.nss_parser.specs.Grammar.{Expression, TypeTokens, ConstantTokens, Declared, DeclaredNames}
use Rattle.nss_parser.specs.Grammar as grammar
use Rattle.nss_parser.specs.ReadExpression.{level}
use Rattle.nss_parser.specs.ReadDeclaration.{type_by, type_name, typed, negated_by, constant_value, identifier, declared_after, declared, more_declared, declared_names}
use Rattle.nss_parser.proofs.Right.{Right, right_got, right_pure, right_stuck, right_deep, further, then, right_as, right_choice, after_take, terminal_same, Viable, viable_as, viable_under}
use Rattle.nss_parser.proofs.Right.{rest_length}
use Rattle.nss_parser.proofs.ExpressionRight.{right_level}
use Rattle.nss_parser.proofs.Completions.{by_name, by_zero, some_name}

identifier_at : {A : Type 0} (Q : A → List Numbered → List Numbered → Type 0) (W : List Numbered → Type 0) (E : Type 0) (f : Identifier → Parser A) (n : ℕ) (s : Symbol) (r : List Numbered)
    → ((k : ℕ) (bytes : List ℕ) (z : List Numbered) → at n s ∷ r ≡ at k (symbol.Name bytes) ∷ z
    → Right (λ y ys end. Q y (at k (symbol.Name bytes) ∷ ys) end) (λ ys. W (at k (symbol.Name bytes) ∷ ys)) E z (f (record { token = k; name = bytes }) z))
    → W [] → Right Q W E (at n s ∷ r) (and_then (identifier (at n s ∷ r)) f)
unfolding identifier here first take
identifier_at Q W E f n (symbol.Name bytes) r go prefixes = further (at n (symbol.Name bytes) ∷ []) refl (go n bytes r refl)
identifier_at Q W E f n (symbol.Fixed k) r go prefixes = right_stuck prefixes
identifier_at Q W E f n (symbol.Int v) r go prefixes = right_stuck prefixes
identifier_at Q W E f n symbol.Float r go prefixes = right_stuck prefixes
identifier_at Q W E f n (symbol.Text v) r go prefixes = right_stuck prefixes
identifier_at Q W E f n symbol.Unknown r go prefixes = right_stuck prefixes

-- a name with its number that must come next
pub then_identifier : {A : Type 0} {Q : A → List Numbered → List Numbered → Type 0} {W : List Numbered → Type 0} {E : Type 0} (f : Identifier → Parser A) (i : List Numbered)
    → ((k : ℕ) (bytes : List ℕ) (r : List Numbered) → i ≡ at k (symbol.Name bytes) ∷ r
    → Right (λ y ys end. Q y (at k (symbol.Name bytes) ∷ ys) end) (λ ys. W (at k (symbol.Name bytes) ∷ ys)) E r (f (record { token = k; name = bytes }) r))
    → W [] → Right Q W E i (and_then (identifier i) f)
unfolding identifier here
then_identifier f [] go prefixes = right_stuck prefixes
then_identifier {Q = Q} {W = W} {E = E} f (s ∷ r) go prefixes = identifier_at Q W E f s.number s.symbol r go prefixes

-- what was read of a type that stops: nothing, or the word `struct`
abbrev pub TypeFront : List Numbered → Type 0
TypeFront xs = (xs ≡ []) ⊎ ((n : ℕ) × (xs ≡ fixed n terminal.Struct ∷ []))

abbrev TypeAt : ℕ × TypeName → List Numbered → List Numbered → Type 0
TypeAt p ts rest = TypeTokens p.0 p.1 ts

struct_name : (n m : ℕ) (s : Symbol) (r : List Numbered)
    → Right TypeAt TypeFront ⊥ (fixed n terminal.Struct ∷ at m s ∷ r) (and_then (and_then (name (at m s ∷ r)) (λ f j. Got (type.Struct f) j)) (λ t j. Got (n, t) j))
unfolding first take
struct_name n m (symbol.Name f) r = right_got (fixed n terminal.Struct ∷ at m (symbol.Name f) ∷ []) refl (grammar.structure n m f)
struct_name n m (symbol.Fixed k) r = record { by = (fixed n terminal.Struct ∷ [], refl, inr (n, refl)) }
struct_name n m (symbol.Int v) r = record { by = (fixed n terminal.Struct ∷ [], refl, inr (n, refl)) }
struct_name n m symbol.Float r = record { by = (fixed n terminal.Struct ∷ [], refl, inr (n, refl)) }
struct_name n m (symbol.Text v) r = record { by = (fixed n terminal.Struct ∷ [], refl, inr (n, refl)) }
struct_name n m symbol.Unknown r = record { by = (fixed n terminal.Struct ∷ [], refl, inr (n, refl)) }

struct_type : (n : ℕ) (r : List Numbered) → Right TypeAt TypeFront ⊥ (fixed n terminal.Struct ∷ r) (and_then (and_then (name r) (λ f j. Got (type.Struct f) j)) (λ t j. Got (n, t) j))
unfolding first
struct_type n [] = record { by = (fixed n terminal.Struct ∷ [], refl, inr (n, refl)) }
struct_type n (s ∷ r) = struct_name n s.number s.symbol r

type_at : (n : ℕ) (m : Terminal) (r : List Numbered) (o : Option TypeName) → type_word m ≡ o → Right TypeAt TypeFront ⊥ (fixed n m ∷ r) (and_then (type_by o (fixed n m ∷ r)) (λ t j. Got (n, t) j))
unfolding first take
type_at n m r (Some t) e = right_got (fixed n m ∷ []) refl (grammar.word n m t e)
type_at n m r None e = by_test (same_terminal terminal.Struct m) refl
  where
    by_test : (b : Bool) → same_terminal terminal.Struct m ≡ b
        → Right TypeAt TypeFront ⊥ (fixed n m ∷ r) (and_then (and_then (branch b take stuck (fixed n m ∷ r)) (λ k. name >>= λ f. pure (type.Struct f))) (λ t j. Got (n, t) j))
    by_test true same = subst
        (λ (z : Terminal). Right TypeAt TypeFront ⊥ (fixed n z ∷ r)
        (and_then (and_then (name r) (λ f j. Got (type.Struct f) j)) (λ t j. Got (n, t) j)))
        (terminal_same terminal.Struct m same) (struct_type n r)
    by_test false other = right_stuck (inl refl)

typed_at : (n : ℕ) (s : Symbol) (r : List Numbered) → Right TypeAt TypeFront ⊥ (at n s ∷ r) (typed (at n s ∷ r))
unfolding typed type_name here first
typed_at n (symbol.Fixed m) r = type_at n m r (type_word m) refl
typed_at n (symbol.Name f) r = right_stuck (inl refl)
typed_at n (symbol.Int v) r = right_stuck (inl refl)
typed_at n symbol.Float r = right_stuck (inl refl)
typed_at n (symbol.Text v) r = right_stuck (inl refl)
typed_at n symbol.Unknown r = right_stuck (inl refl)

right_typed : (i : List Numbered) → Right TypeAt TypeFront ⊥ i (typed i)
unfolding typed here
right_typed [] = right_stuck (inl refl)
right_typed (s ∷ r) = typed_at s.number s.symbol r

-- a type that must come next
pub then_typed : {A : Type 0} {Q : A → List Numbered → List Numbered → Type 0} {W : List Numbered → Type 0} {E : Type 0} (f : ℕ × TypeName → Parser A) (i : List Numbered)
    → ((n : ℕ) (t : TypeName) (ts rest : List Numbered) → TypeTokens n t ts → i ≡ ts ++ rest → Right (λ y ys end. Q y (ts ++ ys) end) (λ ys. W (ts ++ ys)) E rest (f (n, t) rest))
    → W [] → ((n : ℕ) → W (fixed n terminal.Struct ∷ [])) → Right Q W E i (and_then (typed i) f)
then_typed {Q = Q} {W = W} {E = E} f i go none struct =
    then {Q = Q} {W = W} {E = E} {f = f} (right_typed i)
    (λ p ts rest h e. go p.0 p.1 ts rest h e)
    (λ xs v. elim v [ inl e ↦ subst (λ (z : List Numbered). W z) (sym e) none | inr w ↦ subst (λ (z : List Numbered). W z) (sym w.1) (struct w.0) ])
    (λ deep. absurd deep)

int_constant : Viable ConstantTokens []
int_constant j = (by_zero ∷ [], constant.Int j false (cast_signed w32 0), grammar.int j 0)

negated_at : (n k : ℕ) (s : Symbol) (r : List Numbered) → Right (λ c cs rest. ConstantTokens c cs) (Viable ConstantTokens) ⊥ (fixed n terminal.Minus ∷ at k s ∷ r) (negated_by (Some s) (at k s ∷ r))
unfolding take
negated_at n k (symbol.Int v) r = right_got (fixed n terminal.Minus ∷ at k (symbol.Int v) ∷ []) refl (grammar.minus_int n k v)
negated_at n k symbol.Float r = right_got (fixed n terminal.Minus ∷ at k symbol.Float ∷ []) refl (grammar.minus_float n k)
negated_at n k s r = record { by = (fixed n terminal.Minus ∷ [], refl, λ j. (by_zero ∷ [], constant.Int j true (cast_signed w32 0), grammar.minus_int n j 0)) }

constant_at : (n : ℕ) (s : Symbol) (r : List Numbered) → Right (λ c cs rest. ConstantTokens c cs) (Viable ConstantTokens) ⊥ (at n s ∷ r) (constant_value (at n s ∷ r))
unfolding constant_value first take
constant_at n (symbol.Int v) r = right_got (at n (symbol.Int v) ∷ []) refl (grammar.int n v)
constant_at n symbol.Float r = right_got (at n symbol.Float ∷ []) refl (grammar.float n)
constant_at n (symbol.Text bytes) r = right_got (at n (symbol.Text bytes) ∷ []) refl (grammar.text n bytes)
constant_at n (symbol.Name f) r = right_got (at n (symbol.Name f) ∷ []) refl (grammar.name n f)
constant_at n (symbol.Fixed terminal.ObjectSelf) r = right_got (fixed n terminal.ObjectSelf ∷ []) refl (grammar.object_self n)
constant_at n (symbol.Fixed terminal.ObjectInvalid) r = right_got (fixed n terminal.ObjectInvalid ∷ []) refl (grammar.object_invalid n)
constant_at n (symbol.Fixed terminal.Minus) [] = record { by = (fixed n terminal.Minus ∷ [], refl, λ j. (by_zero ∷ [], constant.Int j true (cast_signed w32 0), grammar.minus_int n j 0)) }
constant_at n (symbol.Fixed terminal.Minus) (s ∷ r) = negated_at n s.number s.symbol r
constant_at n s r = right_stuck int_constant

pub right_constant : (i : List Numbered) → Right (λ c cs rest. ConstantTokens c cs) (Viable ConstantTokens) ⊥ i (constant_value i)
unfolding constant_value first
right_constant [] = right_stuck int_constant
right_constant (s ∷ r) = constant_at s.number s.symbol r

-- a declared name whose name was read
pub right_declared_after : (d k : ℕ) (f : List ℕ) (i : List Numbered)
    → Right (λ y ys rest. Declared y (at k (symbol.Name f) ∷ ys)) (λ ys. Viable Declared (at k (symbol.Name f) ∷ ys)) (d ≤ length i) i (declared_after d (record { token = k; name = f }) i)
unfolding declared_after
right_declared_after d k f i =
    right_choice terminal.Assign i _ _
    (λ n r is. after_take (λ n. level d 0 >>= λ x. pure (record { token = k; name = f; value = Some x })) n (symbol.Fixed terminal.Assign) r is
    (then (right_level d 0 (omega arith) r)
    (λ y ys rest h e. right_pure
    (subst (λ (z : List Numbered). Declared (record { token = k; name = f; value = Some y })
    (at k (symbol.Name f) ∷ fixed n terminal.Assign ∷ z)) (sym (append-nil ys)) (grammar.valued k n f h.0)))
    (λ ys v. viable_as Expression (λ y zs. Declared y (at k (symbol.Name f) ∷ fixed n terminal.Assign ∷ zs)) ys v (λ y zs h. (record { token = k; name = f; value = Some y }, grammar.valued k n f h)))
    (λ deep. let shorter : length i ≡ suc (length r) = ap length is in omega arith)))
    (λ other. right_pure (grammar.bare k f))

pub right_declared : (d : ℕ) (i : List Numbered) → Right (λ y ys rest. Declared y ys) (Viable Declared) (d ≤ length i) i (declared d i)
unfolding declared
right_declared d i =
    then_identifier (declared_after d) i
    (λ k f r is. right_as (right_declared_after d k f r) (λ y ys rest h. h) (λ ys v. v) (λ deep. let shorter : length i ≡ suc (length r) = ap length is in omega arith))
    (λ j. (by_name ∷ [], record { token = j; name = some_name; value = None }, grammar.bare j some_name))

-- one more declared name at the end
pub names_push : {all : List SourceDeclared} {y : SourceDeclared} {xs ys : List Numbered} (n : ℕ) → DeclaredNames all xs
    → Declared y ys → DeclaredNames (all ++ y ∷ []) (xs ++ fixed n terminal.Comma ∷ ys)
names_push n (grammar.one h) last = grammar.more n h (grammar.one last)
names_push {y = y} {ys = ys} n (grammar.more {d = x} {all = all} {xs = xs} {ys = zs} m h hs) last =
    subst (λ (z : List Numbered). DeclaredNames (x ∷ (all ++ y ∷ [])) z) (sym (append_assoc xs (fixed m terminal.Comma ∷ zs) (fixed n terminal.Comma ∷ ys))) (grammar.more m h (names_push n hs last))

pub right_more_declared : (d t : ℕ) (all : List SourceDeclared) (ps i : List Numbered) → DeclaredNames all ps
    → Right (λ z zs rest. DeclaredNames z (ps ++ zs)) (λ zs. Viable DeclaredNames (ps ++ zs)) ((t ≤ length i) ⊎ (d ≤ length i)) i (more_declared d t all i)
right_more_declared d zero all ps i names = right_deep (inl (omega arith))
right_more_declared d (suc t) all ps i names =
    right_choice terminal.Comma i _ _
    (λ n r is. after_take (λ n. declared d >>= λ x. more_declared d t (all ++ x ∷ [])) n (symbol.Fixed terminal.Comma) r is
    (then (right_declared d r)
    (λ x xs rest h e.
    right_as (right_more_declared d t (all ++ x ∷ []) (ps ++ fixed n terminal.Comma ∷ xs) rest (names_push n names h))
    (λ z zs end q. subst (λ (w : List Numbered). DeclaredNames z w) (append_assoc ps (fixed n terminal.Comma ∷ xs) zs) q)
    (λ zs v. subst (λ (w : List Numbered). Viable DeclaredNames w) (append_assoc ps (fixed n terminal.Comma ∷ xs) zs) v)
    (λ deep. let shorter : length i ≡ suc (length r) = ap length is in let lengths = rest_length r xs rest e in elim deep [ inl a ↦ inl (omega arith) | inr b ↦ inr (omega arith) ]))
    (λ xs v. viable_under DeclaredNames ps (fixed n terminal.Comma ∷ xs)
    (viable_as Declared (λ y zs. DeclaredNames y (ps ++ fixed n terminal.Comma ∷ zs)) xs v (λ y zs h. (all ++ y ∷ [], names_push n names h))))
    (λ deep. let shorter : length i ≡ suc (length r) = ap length is in inr (omega arith))))
    (λ other. right_pure (subst (λ (z : List Numbered). DeclaredNames all z) (sym (append-nil ps)) names))

pub right_declared_names : (d : ℕ) (i : List Numbered) → Right (λ z zs rest. DeclaredNames z zs) (Viable DeclaredNames) (d ≤ length i) i (declared_names d i)
unfolding declared_names
right_declared_names d i =
    then (right_declared d i)
    (λ x xs rest h e. right_as (right_more_declared d d (x ∷ []) xs rest (grammar.one h)) (λ z zs end q. q) (λ zs v. v)
    (λ deep. let lengths = rest_length i xs rest e in elim deep [ inl a ↦ omega arith | inr b ↦ omega arith ]))
    (λ xs v. viable_as Declared DeclaredNames xs v (λ y zs h. (y ∷ [], grammar.one h)))
    (λ deep. deep)
