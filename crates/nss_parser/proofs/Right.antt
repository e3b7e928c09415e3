-- What is read is spelled so, what stops is a prefix, and where the depth runs out.
use Rattle.std.proofs.Common.{◌≡◌, ℕ, suc, ◌+◌, Bool, true, false, List, [], ◌∷◌, ◌++◌, length, Some, refl, sym, ap, subst, ◌∙◌, append_assoc, append-nil, length-append, arith, rules}
use denote.Enum.Bare.{same_true}
use Rattle.nss_symbols.specs.contracts.terminal.Terminal.{the_type}
use Rattle.nss_symbols.specs.Symbols as symbol
use Rattle.nss_symbols.specs.Symbols.{Symbol, Numbered, at, fixed, numbered_from}
use Rattle.nss_symbols.specs.declared.terminal.Terminal.{Terminal}
use Rattle.nss_symbols.specs.Outcome.{Outcome, Got, Stuck, Deep, Parser, and_then, ◌>>=◌, first, take, same_terminal, is_terminal, sees, branch, choice, stuck, expect, name, name_by}
use Rattle.nss_parser.proofs.Completions.{Completion, symbols, symbols_append}

-- P of what was read, its tokens and what follows; V of the tokens before the place that stopped; D
-- where the depth ran out.
abbrev pub RightOf : {A : Type 0} → (A → List Numbered → List Numbered → Type 0) → (List Numbered → Type 0) → Type 0 → List Numbered → Outcome A → Type 0
RightOf P V D i (Got x rest) = (xs : List Numbered) × (i ≡ xs ++ rest) × P x xs rest
RightOf P V D i (Stuck left) = (xs : List Numbered) × (i ≡ xs ++ left) × V xs
RightOf P V D i Deep = D

pub record Right {A : Type 0} (P : A → List Numbered → List Numbered → Type 0) (V : List Numbered → Type 0) (D : Type 0) (i : List Numbered) (o : Outcome A) : Type 0 where
  pub by : RightOf P V D i o

pub right_got : {A : Type 0} {P : A → List Numbered → List Numbered → Type 0} {V : List Numbered → Type 0} {D : Type 0} {i : List Numbered} {x : A} {rest : List Numbered}
    (xs : List Numbered) → i ≡ xs ++ rest → P x xs rest → Right P V D i (Got x rest)
right_got xs e p = record { by = (xs, e, p) }

pub right_pure : {A : Type 0} {P : A → List Numbered → List Numbered → Type 0} {V : List Numbered → Type 0} {D : Type 0} {i : List Numbered} {x : A} → P x [] i → Right P V D i (Got x i)
right_pure p = record { by = ([], refl, p) }

pub right_stuck : {A : Type 0} {P : A → List Numbered → List Numbered → Type 0} {V : List Numbered → Type 0} {D : Type 0} {i : List Numbered} → V [] → Right {A = A} P V D i (Stuck i)
right_stuck v = record { by = ([], refl, v) }

pub right_deep : {A : Type 0} {P : A → List Numbered → List Numbered → Type 0} {V : List Numbered → Type 0} {D : Type 0} {i : List Numbered} → D → Right {A = A} P V D i Deep
right_deep d = record { by = d }

further_of : {A : Type 0} (Q : A → List Numbered → List Numbered → Type 0) (W : List Numbered → Type 0) (E : Type 0) (i xs rest : List Numbered) (o : Outcome A) → i ≡ xs ++ rest
    → RightOf (λ y ys end. Q y (xs ++ ys) end) (λ ys. W (xs ++ ys)) E rest o → RightOf Q W E i o
further_of Q W E i xs rest (Got y end) e (ys, e', q) = (xs ++ ys, e ∙ ap (λ r. xs ++ r) e' ∙ sym (append_assoc xs ys end), q)
further_of Q W E i xs rest (Stuck left) e (ys, e', w) = (xs ++ ys, e ∙ ap (λ r. xs ++ r) e' ∙ sym (append_assoc xs ys left), w)
further_of Q W E i xs rest Deep e d = d

-- reading goes on after the tokens xs
pub further : {A : Type 0} {Q : A → List Numbered → List Numbered → Type 0} {W : List Numbered → Type 0} {E : Type 0} {i rest : List Numbered} {o : Outcome A} (xs : List Numbered) → i ≡ xs ++ rest
    → Right (λ y ys end. Q y (xs ++ ys) end) (λ ys. W (xs ++ ys)) E rest o → Right Q W E i o
further {Q = Q} {W = W} {E = E} {i = i} {rest = rest} {o = o} xs e r = record { by = further_of Q W E i xs rest o e r.by }

-- one reader after another: the first part, the rest after each answer of it, how a prefix of the
-- part is a prefix of the whole, and the depth
then_of : {A B : Type 0} (P : A → List Numbered → List Numbered → Type 0) (V : List Numbered → Type 0) (D : Type 0)
    (Q : B → List Numbered → List Numbered → Type 0) (W : List Numbered → Type 0) (E : Type 0)
    (i : List Numbered) (o : Outcome A) (f : A → Parser B) → RightOf P V D i o
    → ((x : A) (xs rest : List Numbered) → P x xs rest → i ≡ xs ++ rest → Right (λ y ys end. Q y (xs ++ ys) end) (λ ys. W (xs ++ ys)) E rest (f x rest))
    → ((xs : List Numbered) → V xs → W xs) → (D → E) → Right Q W E i (and_then o f)
then_of P V D Q W E i (Got x rest) f (xs, e, p) go prefixes depth = further xs e (go x xs rest p e)
then_of P V D Q W E i (Stuck left) f (xs, e, v) go prefixes depth = record { by = (xs, e, prefixes xs v) }
then_of P V D Q W E i Deep f d go prefixes depth = record { by = depth d }

pub then : {A B : Type 0} {P : A → List Numbered → List Numbered → Type 0} {V : List Numbered
    → Type 0} {D : Type 0} {Q : B → List Numbered → List Numbered → Type 0} {W : List Numbered → Type 0} {E : Type 0}
    {i : List Numbered} {o : Outcome A} {f : A → Parser B} → Right P V D i o
    → ((x : A) (xs rest : List Numbered) → P x xs rest → i ≡ xs ++ rest → Right (λ y ys end. Q y (xs ++ ys) end) (λ ys. W (xs ++ ys)) E rest (f x rest))
    → ((xs : List Numbered) → V xs → W xs) → (D → E) → Right Q W E i (and_then o f)
then {P = P} {V = V} {D = D} {Q = Q} {W = W} {E = E} {i = i} {o = o} {f = f} r go prefixes depth = then_of P V D Q W E i o f r.by go prefixes depth

as_of : {A : Type 0} (P Q : A → List Numbered → List Numbered → Type 0) (V W : List Numbered → Type 0) (D E : Type 0) (i : List Numbered) (o : Outcome A) → RightOf P V D i o
    → ((x : A) (xs rest : List Numbered) → P x xs rest → Q x xs rest) → ((xs : List Numbered) → V xs → W xs) → (D → E) → RightOf Q W E i o
as_of P Q V W D E i (Got x rest) (xs, e, p) got prefixes depth = (xs, e, got x xs rest p)
as_of P Q V W D E i (Stuck left) (xs, e, v) got prefixes depth = (xs, e, prefixes xs v)
as_of P Q V W D E i Deep d got prefixes depth = depth d

pub right_as : {A : Type 0} {P Q : A → List Numbered → List Numbered → Type 0} {V W : List Numbered → Type 0} {D E : Type 0} {i : List Numbered} {o : Outcome A} → Right P V D i o
    → ((x : A) (xs rest : List Numbered) → P x xs rest → Q x xs rest) → ((xs : List Numbered) → V xs → W xs) → (D → E) → Right Q W E i o
right_as {P = P} {Q = Q} {V = V} {W = W} {D = D} {E = E} {i = i} {o = o} r got prefixes depth = record { by = as_of P Q V W D E i o r.by got prefixes depth }

-- a reader at another outcome that is the same
pub right_same : {A : Type 0} {P : A → List Numbered → List Numbered → Type 0} {V : List Numbered
    → Type 0} {D : Type 0} {i : List Numbered} {o o' : Outcome A} → o' ≡ o → Right P V D i o → Right P V D i o'
right_same {P = P} {V = V} {D = D} {i = i} e r = subst (λ (z : Outcome _). Right P V D i z) (sym e) r

-- two terminals that test as the same are the same
pub terminal_same : (m k : Terminal) → same_terminal m k ≡ true → m ≡ k
unfolding same_terminal
terminal_same m k e = same_true the_type (search rules) m k e

fixed_at : (m : Terminal) (n : ℕ) (s : Symbol) (r : List Numbered) → is_terminal m (Some s) ≡ true → at n s ∷ r ≡ fixed n m ∷ r
fixed_at m n (symbol.Fixed k) r e = ap (λ (z : Terminal). fixed n z ∷ r) (sym (terminal_same m k e))
fixed_at m n (symbol.Name f) r e = cc
fixed_at m n (symbol.Int v) r e = cc
fixed_at m n symbol.Float r e = cc
fixed_at m n (symbol.Text v) r e = cc
fixed_at m n symbol.Unknown r e = cc

-- the token that is seen is there
pub seen : (m : Terminal) (i : List Numbered) → sees m i ≡ true → (k : ℕ) × (r : List Numbered) × (i ≡ fixed k m ∷ r)
unfolding first
seen m [] e = cc
seen m (s ∷ r) e = (s.number, r, fixed_at m s.number s.symbol r e)

choice_of : {A : Type 0} (Q : A → List Numbered → List Numbered → Type 0) (W : List Numbered → Type 0) (E : Type 0) (m : Terminal) (i : List Numbered) (p q : Parser A) (b : Bool) → sees m i ≡ b
    → ((k : ℕ) (r : List Numbered) → i ≡ fixed k m ∷ r → Right Q W E i (p i)) → (sees m i ≡ false → Right Q W E i (q i)) → Right Q W E i (branch b p q i)
choice_of Q W E m i p q true e seen_so other = let (k, r, is) = seen m i e in seen_so k r is
choice_of Q W E m i p q false e seen_so other = other e

-- a choice by whether a token comes next
pub right_choice : {A : Type 0} {Q : A → List Numbered → List Numbered → Type 0} {W : List Numbered → Type 0} {E : Type 0} (m : Terminal) (i : List Numbered) (p q : Parser A)
    → ((k : ℕ) (r : List Numbered) → i ≡ fixed k m ∷ r → Right Q W E i (p i)) → (sees m i ≡ false → Right Q W E i (q i)) → Right Q W E i (choice (is_terminal m) p q i)
right_choice {Q = Q} {W = W} {E = E} m i p q seen_so other = choice_of Q W E m i p q (sees m i) refl seen_so other

-- `take` at a token that is there, and then the rest
pub after_take : {A : Type 0} {Q : A → List Numbered → List Numbered → Type 0} {W : List Numbered
    → Type 0} {E : Type 0} {i : List Numbered} (f : ℕ → Parser A) (k : ℕ) (s : Symbol) (r : List Numbered)
    → i ≡ at k s ∷ r
    → Right (λ y ys end. Q y (at k s ∷ ys) end) (λ ys. W (at k s ∷ ys)) E r (f k r) → Right Q W E i (and_then (take i) f)
unfolding take
after_take {Q = Q} {W = W} {E = E} {i = i} f k s r e h = subst (λ (z : List Numbered). Right Q W E z (and_then (take z) f)) (sym e) (further (at k s ∷ []) refl h)

-- a terminal that must come next
pub then_expect : {A : Type 0} {Q : A → List Numbered → List Numbered → Type 0} {W : List Numbered → Type 0} {E : Type 0} {f : ℕ → Parser A} (m : Terminal) (i : List Numbered)
    → ((k : ℕ) (r : List Numbered) → i ≡ fixed k m ∷ r → Right (λ y ys end. Q y (fixed k m ∷ ys) end) (λ ys. W (fixed k m ∷ ys)) E r (f k r)) → W [] → Right Q W E i (and_then (expect m i) f)
then_expect {Q = Q} {W = W} {E = E} {f = f} m i go prefixes = expect_at (sees m i) refl
  where
    expect_at : (b : Bool) → sees m i ≡ b → Right Q W E i (and_then (branch b take stuck i) f)
    expect_at true e = let (k, r, is) = seen m i e in after_take f k (symbol.Fixed m) r is (go k r is)
    expect_at false e = right_stuck prefixes

then_name_at : {A : Type 0} (Q : A → List Numbered → List Numbered → Type 0) (W : List Numbered → Type 0) (E : Type 0) (f : List ℕ → Parser A) (n : ℕ) (s : Symbol) (r : List Numbered)
    → ((k : ℕ) (bytes : List ℕ) (z : List Numbered) → at n s ∷ r ≡ at k (symbol.Name bytes) ∷ z
    → Right (λ y ys end. Q y (at k (symbol.Name bytes) ∷ ys) end) (λ ys. W (at k (symbol.Name bytes) ∷ ys)) E z
    (f bytes z))
    → W [] → Right Q W E (at n s ∷ r) (and_then (name_by (Some s) (at n s ∷ r)) f)
unfolding take
then_name_at Q W E f n (symbol.Name bytes) r go prefixes = further (at n (symbol.Name bytes) ∷ []) refl (go n bytes r refl)
then_name_at Q W E f n (symbol.Fixed k) r go prefixes = right_stuck prefixes
then_name_at Q W E f n (symbol.Int v) r go prefixes = right_stuck prefixes
then_name_at Q W E f n symbol.Float r go prefixes = right_stuck prefixes
then_name_at Q W E f n (symbol.Text v) r go prefixes = right_stuck prefixes
then_name_at Q W E f n symbol.Unknown r go prefixes = right_stuck prefixes

-- a name that must come next
pub then_name : {A : Type 0} {Q : A → List Numbered → List Numbered → Type 0} {W : List Numbered → Type 0} {E : Type 0} {f : List ℕ → Parser A} (i : List Numbered)
    → ((k : ℕ) (bytes : List ℕ) (r : List Numbered) → i ≡ at k (symbol.Name bytes) ∷ r
    → Right (λ y ys end. Q y (at k (symbol.Name bytes) ∷ ys) end) (λ ys. W (at k (symbol.Name bytes) ∷ ys)) E r
    (f bytes r))
    → W [] → Right Q W E i (and_then (name i) f)
unfolding first
then_name [] go prefixes = right_stuck prefixes
then_name {Q = Q} {W = W} {E = E} {f = f} (s ∷ r) go prefixes = then_name_at Q W E f s.number s.symbol r go prefixes

-- Some tokens after these make a tree, whatever number they begin with.
abbrev pub Viable : {A : Type 0} → (A → List Numbered → Type 0) → List Numbered → Type 0
Viable {A} N xs = (n : ℕ) → (more : List Completion) × (x : A) × N x (xs ++ numbered_from n (symbols more))

pub numbered_append : (n : ℕ) (a b : List Symbol) → numbered_from n (a ++ b) ≡ numbered_from n a ++ numbered_from (n + length a) b
numbered_append n [] b = ap (λ k. numbered_from k b) (let e : n ≡ n + 0 = omega arith in e)
numbered_append n (s ∷ a) b = ap (λ r. at n s ∷ r)
    (numbered_append (n + 1) a b
    ∙ ap (λ k. numbered_from (n + 1) a ++ numbered_from k b)
    (let e : n + 1 + length a ≡ n + suc (length a) = omega arith in e))

-- a completed part, and then known tokens, complete the whole
pub viable_then : {A B : Type 0} (N : A → List Numbered → Type 0) (M : B → List Numbered → Type 0) (xs : List Numbered) (tail : List Completion) → Viable N xs
    → ((x : A) (ys : List Numbered) (n : ℕ) → N x ys → (y : B) × M y (ys ++ numbered_from n (symbols tail))) → Viable M xs
viable_then N M xs tail v h n =
    let (more, x, p) = v n in
    let (y, q) = h x (xs ++ numbered_from n (symbols more)) (n + length (symbols more)) p in (
      more ++ tail,
      y,
      subst (λ (z : List Numbered). M y z)
          (append_assoc xs (numbered_from n (symbols more)) (numbered_from (n + length (symbols more)) (symbols tail))
          ∙ ap (λ r. xs ++ r) (sym (numbered_append n (symbols more) (symbols tail)) ∙ ap (λ r. numbered_from n r) (sym (symbols_append more tail))))
          q,
    )

pub viable_as : {A B : Type 0} (N : A → List Numbered → Type 0) (M : B → List Numbered → Type 0) (xs : List Numbered) → Viable N xs
    → ((x : A) (ys : List Numbered) → N x ys → (y : B) × M y ys) → Viable M xs
viable_as N M xs v h n = let (more, x, p) = v n in let (y, q) = h x (xs ++ numbered_from n (symbols more)) p in (more, y, q)

-- what stands whole is a prefix of itself
pub viable_done : {A : Type 0} (N : A → List Numbered → Type 0) (x : A) (xs : List Numbered) → N x xs → Viable N xs
viable_done N x xs p n = ([], x, subst (λ (z : List Numbered). N x z) (sym (append-nil xs)) p)

-- a prefix after the tokens ps
pub viable_under : {A : Type 0} (N : A → List Numbered → Type 0) (ps xs : List Numbered) → Viable (λ x ys. N x (ps ++ ys)) xs → Viable N (ps ++ xs)
viable_under N ps xs v n = let (more, x, p) = v n in (more, x, subst (λ (z : List Numbered). N x z) (sym (append_assoc ps xs (numbered_from n (symbols more)))) p)

-- A part, and then a terminal: how what the part needs for its tokens to be a prefix shows the
-- whole's.
pub then_fixed : {A B : Type 0} {P : A → List Numbered → List Numbered → Type 0} {V : List Numbered
    → Type 0} {D : Type 0} {Q : B → List Numbered → List Numbered → Type 0} {W : List Numbered → Type 0} {E : Type 0}
    {i : List Numbered} {o : Outcome A} {f : A → ℕ → Parser B} (m : Terminal) → Right P V D i o
    → ((x : A) (xs rest : List Numbered) (k : ℕ) (r : List Numbered) → P x xs rest → rest ≡ fixed k m ∷ r
    → i ≡ xs ++ rest → Right (λ y ys end. Q y (xs ++ fixed k m ∷ ys) end) (λ ys. W (xs ++ fixed k m ∷ ys)) E r
    (f x k r))
    → ((x : A) (xs rest : List Numbered) → P x xs rest → V xs) → ((xs : List Numbered) → V xs → W xs) → (D → E) → Right Q W E i (and_then o (λ x. expect m >>= λ k. f x k))
then_fixed {A = A} {P = P} {V = V} {D = D} {Q = Q} {W = W} {E = E} {i = i} {o = o} {f = f} m r go done prefixes depth =
    then {Q = Q} {W = W} {E = E} r
    (λ x xs rest p e. then_expect {Q = λ y ys end. Q y (xs ++ ys) end} {W = λ ys. W (xs ++ ys)} {E = E} {f = λ k. f x k} m rest (λ k r' e'. go x xs rest k r' p e' e)
    (subst (λ (z : List Numbered). W z) (sym (append-nil xs)) (prefixes xs (done x xs rest p))))
    prefixes depth

-- what a list of tokens leaves is shorter
pub rest_length : (i xs rest : List Numbered) → i ≡ xs ++ rest → length i ≡ length xs + length rest
rest_length i xs rest e = ap length e ∙ length-append xs rest
