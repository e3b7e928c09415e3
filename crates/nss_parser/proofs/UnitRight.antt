-- What is read as an item of a unit is spelled so, what stops is a prefix, and the depth lasts.
use Rattle.std.proofs.Common.{◌≡◌, ◌∙◌, ℕ, zero, suc, ◌+◌, ◌<◌, ◌≤◌, false, ◌⊎◌, inl, inr, List, [], ◌∷◌, ◌++◌, length, append_assoc, append-nil, Option, None, Some, refl, sym, ap, subst, arith}
use Rattle.std.specs.Int.{cast_signed, w32}
use Rattle.nss_tree.specs.Source.{SourceItem, SourceItems, SourceLine, SourceParameter, SourceStmts}
use Rattle.nss_tree.specs.declared.constants.TypeName.{TypeName}
use Rattle.nss_tree.specs.declared.constants.TypeName.TheVariants as type
use Rattle.nss_tree.specs.declared.constants.Constant.TheVariants as constant
use Rattle.nss_tree.specs.declared.units.Identifier.{Identifier}
use Rattle.nss_tree.specs.Units as unit
use Rattle.nss_symbols.specs.declared.terminal.Terminal.{Terminal}
use Rattle.nss_symbols.specs.declared.terminal.Terminal.TheVariants as terminal
use Rattle.nss_symbols.specs.Symbols as symbol
use Rattle.nss_symbols.specs.Symbols.{Numbered, at, fixed}
use Rattle.nss_symbols.specs.Outcome.{Parser, and_then, ◌>>=◌, is_terminal, first, choice, expect, pure, name}
use Rattle.nss_parser.specs.Grammar.{TypeTokens, ConstantTokens, Declared, DeclaredNames, Entries}
use Rattle.nss_parser.specs.Grammar as grammar
use Rattle.nss_parser.specs.Unit.{FieldNames, Field, Fields, ParameterTokens, ParameterList, Parameters, Body, Item, Items}
use Rattle.nss_parser.specs.Unit as spelled
use Rattle.nss_parser.specs.ReadDeclaration.{typed, constant_value, identifier}
use Rattle.nss_parser.specs.ReadUnit.{more_fields, field, fields_from, structure, constant_line, default, parameter, parameters_from, parameters, global, body, function, after_type, after_struct}
use Rattle.nss_parser.specs.ReadUnit.{item, items_from, items}
use Rattle.nss_parser.proofs.Right.{Right, right_pure, right_deep, then, then_fixed, then_expect, then_name, right_as, right_choice, after_take, Viable, viable_then, viable_as, viable_done}
use Rattle.nss_parser.proofs.Right.{viable_under, rest_length}
use Rattle.nss_parser.proofs.Closed.{Closed, closed_prefix, closed_after}
use Rattle.nss_parser.proofs.DeclarationRight.{then_identifier, then_typed, right_constant, right_declared_after, right_more_declared}
use Rattle.nss_parser.proofs.Completions.{by_name, by_terminal, by_zero, some_name}

-- a type that must come next, where every type is a prefix
then_type : {A B : Type 0} {Q : A → List Numbered → List Numbered → Type 0} {E : Type 0} (N : B → List Numbered → Type 0) (f : ℕ × TypeName → Parser A) (i : List Numbered)
    → ((n : ℕ) (t : TypeName) (ts rest : List Numbered) → TypeTokens n t ts → i ≡ ts ++ rest → Right (λ y ys end. Q y (ts ++ ys) end) (λ ys. Viable N (ts ++ ys)) E rest (f (n, t) rest))
    → ((n : ℕ) (t : TypeName) (ts : List Numbered) → TypeTokens n t ts → Viable N ts) → Right Q (Viable N) E i (and_then (typed i) f)
then_type {Q = Q} {E = E} N f i go prefixes =
    then_typed {Q = Q} {W = Viable N} {E = E} f i go
    (λ j. let (more, x, p) = prefixes j type.Int (fixed j terminal.Int ∷ []) (grammar.word j terminal.Int type.Int refl) (j + 1) in (by_terminal terminal.Int ∷ more, x, p))
    (λ n. λ j. let (more, x, p) = prefixes n (type.Struct some_name) (fixed n terminal.Struct ∷ at j (symbol.Name some_name) ∷ []) (grammar.structure n j some_name) (j + 1) in (by_name ∷ more, x, p))

-- names of fields
fields_push : {all : List Identifier} {xs : List Numbered} → FieldNames all xs → (c n : ℕ) (f : List ℕ)
    → FieldNames (all ++ record { token = n; name = f } ∷ []) (xs ++ fixed c terminal.Comma ∷ at n (symbol.Name f) ∷ [])
fields_push (spelled.one m g) c n f = spelled.more m c g (spelled.one n f)
fields_push (spelled.more m b g hs) c n f = spelled.more m b g (fields_push hs c n f)

right_more_fields : (t : ℕ) (all : List Identifier) (ps i : List Numbered) → FieldNames all ps
    → Right (λ z zs rest. FieldNames z (ps ++ zs)) (λ zs. Viable FieldNames (ps ++ zs)) (t ≤ length i) i (more_fields t all i)
right_more_fields zero all ps i names = right_deep (omega arith)
right_more_fields (suc t) all ps i names =
    right_choice terminal.Comma i _ _
    (λ n r is. after_take (λ n. identifier >>= λ x. more_fields t (all ++ x ∷ [])) n (symbol.Fixed terminal.Comma) r is
    (then_identifier (λ x. more_fields t (all ++ x ∷ [])) r
    (λ k f z is'. right_as (right_more_fields t (all ++ record { token = k; name = f } ∷ []) (ps ++ fixed n terminal.Comma ∷ at k (symbol.Name f) ∷ []) z (fields_push names n k f))
    (λ y ys end q. subst (λ (w : List Numbered). FieldNames y w) (append_assoc ps (fixed n terminal.Comma ∷ at k (symbol.Name f) ∷ []) ys) q)
    (λ ys v. subst (λ (w : List Numbered). Viable FieldNames w) (append_assoc ps (fixed n terminal.Comma ∷ at k (symbol.Name f) ∷ []) ys) v)
    (λ deep. let one : length i ≡ suc (length r) = ap length is in let two : length r ≡ suc (length z) = ap length is' in omega arith))
    (viable_under FieldNames ps (fixed n terminal.Comma ∷ []) (λ j. (by_name ∷ [], all ++ record { token = j; name = some_name } ∷ [], fields_push names n j some_name)))))
    (λ other. right_pure (subst (λ (z : List Numbered). FieldNames all z) (sym (append-nil ps)) names))

right_field : (d : ℕ) (i : List Numbered) → Right (λ f xs rest. Field f xs) (Viable Field) (d ≤ length i) i (field d i)
unfolding field
right_field d i =
    then_type Field (λ p. identifier >>= λ x. more_fields d (x ∷ []) >>= λ names. expect terminal.Semicolon >>= λ k. pure (record { token = p.0; ty = p.1; names = names })) i
    (λ n t ts rest typ e. then_identifier (λ x. more_fields d (x ∷ []) >>= λ names. expect terminal.Semicolon >>= λ k. pure (record { token = n; ty = t; names = names })) rest
    (λ k f r is. then_fixed terminal.Semicolon (right_more_fields d (record { token = k; name = f } ∷ []) (at k (symbol.Name f) ∷ []) r (spelled.one k f))
    (λ names ns rest' m z h is' e'. right_pure (spelled.line n m typ h))
    (λ names ns rest' h. viable_done FieldNames names (at k (symbol.Name f) ∷ ns) h)
    (λ ns v. viable_under Field ts (at k (symbol.Name f) ∷ ns)
    (viable_then FieldNames (λ y zs. Field y (ts ++ zs)) (at k (symbol.Name f) ∷ ns)
    (by_terminal terminal.Semicolon ∷ []) v
    (λ names zs m h. (record { token = n; ty = t; names = names }, spelled.line n m typ h))))
    (λ deep. let one : length rest ≡ suc (length r) = ap length is in omega (arith, rest_length i ts rest e)))
    (viable_under Field ts []
    (λ j. (
      by_name ∷ by_terminal terminal.Semicolon ∷ [],
      record { token = n; ty = t; names = record { token = j; name = some_name } ∷ [] },
      spelled.line n (j + 1) typ
          (spelled.one j some_name),
    ))))
    (λ n t ts typ j. (
      by_name ∷ by_terminal terminal.Semicolon ∷ [],
      record { token = n; ty = t; names = record { token = j; name = some_name } ∷ [] },
      spelled.line n (j + 1) typ
          (spelled.one j some_name),
    ))

some_field : {f : SourceLine} {xs : List Numbered} → Field f xs → 0 < length xs
some_field (spelled.line {ts = ts} {ns = ns} n k typ hs) = type_some typ (ns ++ fixed k terminal.Semicolon ∷ [])
  where
    type_some : {n : ℕ} {t : TypeName} {ts : List Numbered} → TypeTokens n t ts → (r : List Numbered) → 0 < length (ts ++ r)
    type_some (grammar.word n m t is) r = omega arith
    type_some (grammar.structure n k f) r = omega arith

-- a list up to its closing terminal, after what was read before
abbrev Until : {A : Type 0} → (List A → List Numbered → Type 0) → Terminal → List A → List A → List Numbered → Type 0
Until {A} N m before all xs = (more : List A) × (all ≡ before ++ more) × Closed N m more xs

right_fields_from : (d t : ℕ) (before : List SourceLine) (i : List Numbered)
    → Right (λ all xs rest. Until Fields terminal.CloseBrace before all xs) (Viable (Closed Fields terminal.CloseBrace)) ((t ≤ length i) ⊎ (d ≤ length i)) i (fields_from d t before i)
right_fields_from d zero before i = right_deep (inl (omega arith))
right_fields_from d (suc t) before i =
    then (right_field d i)
    (λ f xs rest h e. right_choice terminal.CloseBrace rest _ _
    (λ k r is. after_take (λ k. pure (before ++ f ∷ [])) k (symbol.Fixed terminal.CloseBrace) r is
    (right_pure (f ∷ [], refl, record { tokens = xs; number = k; is = refl; holds = spelled.one h })))
    (λ other. right_as (right_fields_from d t (before ++ f ∷ []) rest)
    (λ all ys end q. let (more, is, c) = q in (f ∷ more, is ∙ append_assoc before (f ∷ []) more, closed_after xs (f ∷ more) (λ zs hs. spelled.more h hs) c))
    (λ ys v. viable_under (Closed Fields terminal.CloseBrace) xs ys
    (viable_as (Closed Fields terminal.CloseBrace) (λ all zs. Closed Fields terminal.CloseBrace all (xs ++ zs)) ys v (λ all zs c. (f ∷ all, closed_after xs (f ∷ all) (λ ws hs. spelled.more h hs) c))))
    (λ deep. let some = some_field h in let lengths = rest_length i xs rest e in elim deep [ inl a ↦ inl (omega arith) | inr b ↦ inr (omega arith) ])))
    (λ xs v. closed_prefix Field Fields terminal.CloseBrace xs v (λ f ys h. (f ∷ [], spelled.one h)))
    (λ deep. inr deep)

struct_spelled : (a n b m : ℕ) (f : List ℕ) {all : List SourceLine} {xs : List Numbered} → Closed Fields terminal.CloseBrace all xs
    → Item (unit.structure n f all) (fixed a terminal.Struct ∷ at n (symbol.Name f) ∷ fixed b terminal.OpenBrace ∷ (xs ++ fixed m terminal.Semicolon ∷ []))
struct_spelled a n b m f {all = all} c =
    subst (λ (z : List Numbered). Item (unit.structure n f all) (fixed a terminal.Struct ∷ at n (symbol.Name f) ∷ fixed b terminal.OpenBrace ∷ z))
    (sym (ap (λ z. z ++ fixed m terminal.Semicolon ∷ []) c.is ∙ append_assoc c.tokens (fixed c.number terminal.CloseBrace ∷ []) (fixed m terminal.Semicolon ∷ [])))
    (spelled.structure a n b c.number m f c.holds)

right_structure : (d a n b : ℕ) (f : List ℕ) (i r : List Numbered) → i ≡ fixed b terminal.OpenBrace ∷ r
    → Right (λ y ys rest. Item y (fixed a terminal.Struct ∷ at n (symbol.Name f) ∷ ys))
    (λ ys. Viable Item (fixed a terminal.Struct ∷ at n (symbol.Name f) ∷ ys)) (d ≤ suc (length i)) i
    (structure d (record { token = n; name = f }) i)
unfolding structure
right_structure d a n b f i r is =
    after_take (λ b. fields_from d d [] >>= λ all. expect terminal.Semicolon >>= λ k. pure (unit.structure n f all)) b (symbol.Fixed terminal.OpenBrace) r is
    (then_fixed terminal.Semicolon (right_fields_from d d [] r)
    (λ all xs rest m z h is' e. let (more, same, c) = h in right_pure
    (subst (λ (w : List SourceLine). Item (unit.structure n f w)
    (fixed a terminal.Struct ∷ at n (symbol.Name f) ∷ fixed b terminal.OpenBrace ∷
    (xs ++ fixed m terminal.Semicolon ∷ []))) (sym same) (struct_spelled a n b m f c)))
    (λ all xs rest h. let (more, same, c) = h in viable_done (Closed Fields terminal.CloseBrace) more xs c)
    (λ xs v. viable_then (Closed Fields terminal.CloseBrace)
    (λ y zs. Item y (fixed a terminal.Struct ∷ at n (symbol.Name f) ∷ fixed b terminal.OpenBrace ∷ zs)) xs
    (by_terminal terminal.Semicolon ∷ []) v
    (λ all zs m c. (unit.structure n f all, struct_spelled a n b m f c)))
    (λ deep. let one : length i ≡ suc (length r) = ap length is in elim deep [ inl x ↦ omega arith | inr y ↦ omega arith ]))

right_constant_line : (a : ℕ) (i r : List Numbered) (E : Type 0) → i ≡ fixed a terminal.Const ∷ r → Right (λ y ys rest. Item y ys) (Viable Item) E i (constant_line i)
unfolding constant_line
right_constant_line a i r E is =
    after_take (λ a. typed >>= λ p. identifier >>= λ x. expect terminal.Assign >>= λ b. constant_value >>= λ c. expect terminal.Semicolon >>= λ k. pure (unit.constant p.0 p.1 x c)) a
    (symbol.Fixed terminal.Const) r is
    (then_type (λ x ys. Item x (fixed a terminal.Const ∷ ys))
    (λ p. identifier >>= λ x. expect terminal.Assign >>= λ b. constant_value >>= λ c. expect terminal.Semicolon >>= λ k. pure (unit.constant p.0 p.1 x c)) r
    (λ n t ts rest typ e. then_identifier (λ x. expect terminal.Assign >>= λ b. constant_value >>= λ c. expect terminal.Semicolon >>= λ k. pure (unit.constant n t x c)) rest
    (λ k f z is'. then_expect terminal.Assign z
    (λ b w is''. then_fixed terminal.Semicolon (right_constant w)
    (λ c cs rest' m u h e' e''. right_pure (spelled.constant a n k b m f typ h))
    (λ c cs rest' h. viable_done ConstantTokens c cs h)
    (λ cs v. viable_under (λ x ys. Item x (fixed a terminal.Const ∷ ys)) ts (at k (symbol.Name f) ∷ fixed b terminal.Assign ∷ cs)
    (viable_then ConstantTokens (λ y zs. Item y (fixed a terminal.Const ∷ (ts ++ at k (symbol.Name f) ∷ fixed b terminal.Assign ∷ zs))) cs (by_terminal terminal.Semicolon ∷ []) v
    (λ c zs m h. (unit.constant n t (record { token = k; name = f }) c, spelled.constant a n k b m f typ h))))
    (λ deep. absurd deep))
    (viable_under (λ x ys. Item x (fixed a terminal.Const ∷ ys)) ts (at k (symbol.Name f) ∷ [])
    (λ j. (
      by_terminal terminal.Assign ∷ by_zero ∷ by_terminal terminal.Semicolon ∷ [],
      unit.constant n t (record { token = k; name = f }) (constant.Int (j + 1) false (cast_signed w32 0)),
      spelled.constant a n k j (j + 1 + 1) f typ (grammar.int (j + 1) 0),
    ))))
    (viable_under (λ x ys. Item x (fixed a terminal.Const ∷ ys)) ts []
    (λ j. (
      by_name ∷ by_terminal terminal.Assign ∷ by_zero ∷ by_terminal terminal.Semicolon ∷ [],
      unit.constant n t (record { token = j; name = some_name }) (constant.Int (j + 1 + 1) false (cast_signed w32 0)),
      spelled.constant a n j (j + 1) (j + 1 + 1 + 1) some_name typ (grammar.int (j + 1 + 1) 0),
    ))))
    (λ n t ts typ j. (
      by_name ∷ by_terminal terminal.Assign ∷ by_zero ∷ by_terminal terminal.Semicolon ∷ [],
      unit.constant n t (record { token = j; name = some_name }) (constant.Int (j + 1 + 1) false (cast_signed w32 0)),
      spelled.constant a n j (j + 1) (j + 1 + 1 + 1) some_name typ (grammar.int (j + 1 + 1) 0),
    )))

-- a parameter, whose type and name were read
right_default : (n k : ℕ) (t : TypeName) (f : List ℕ) (ts i : List Numbered) → TypeTokens n t ts
    → Right (λ p ys rest. ParameterTokens p (ts ++ at k (symbol.Name f) ∷ ys)) (λ ys. Viable ParameterTokens (ts ++ at k (symbol.Name f) ∷ ys)) ⊥ i (default n t f i)
unfolding default
right_default n k t f ts i typ =
    right_choice terminal.Assign i _ _
    (λ a r is. after_take (λ a. constant_value >>= λ c. pure (record { token = n; ty = t; name = f; default = Some c })) a (symbol.Fixed terminal.Assign) r is
    (then (right_constant r)
    (λ c cs rest h e. right_pure
    (subst (λ (z : List Numbered). ParameterTokens (record { token = n; ty = t; name = f; default = Some c })
    (ts ++ at k (symbol.Name f) ∷ fixed a terminal.Assign ∷ z)) (sym (append-nil cs))
    (spelled.valued n k a f typ h)))
    (λ cs v. viable_under ParameterTokens ts (at k (symbol.Name f) ∷ fixed a terminal.Assign ∷ cs)
    (viable_as ConstantTokens
    (λ y zs. ParameterTokens y (ts ++ at k (symbol.Name f) ∷ fixed a terminal.Assign ∷ zs)) cs v
    (λ c zs h. (record { token = n; ty = t; name = f; default = Some c }, spelled.valued n k a f typ h))))
    (λ deep. absurd deep)))
    (λ other. right_pure (spelled.bare n k f typ))

right_parameter : (i : List Numbered) → Right (λ p xs rest. ParameterTokens p xs) (Viable ParameterTokens) ⊥ i (parameter i)
unfolding parameter
right_parameter i =
    then_type ParameterTokens (λ p. name >>= λ f. default p.0 p.1 f) i
    (λ n t ts rest typ e. then_name rest (λ k f r is. right_default n k t f ts r typ)
    (viable_under ParameterTokens ts [] (λ j. (by_name ∷ [], record { token = n; ty = t; name = some_name; default = None }, spelled.bare n j some_name typ))))
    (λ n t ts typ j. (by_name ∷ [], record { token = n; ty = t; name = some_name; default = None }, spelled.bare n j some_name typ))

some_parameter : {p : SourceParameter} {xs : List Numbered} → ParameterTokens p xs → 0 < length xs
some_parameter (spelled.bare {ts = ts} n k f typ) = type_some typ (at k (symbol.Name f) ∷ [])
  where
    type_some : {n : ℕ} {t : TypeName} {ts : List Numbered} → TypeTokens n t ts → (r : List Numbered) → 0 < length (ts ++ r)
    type_some (grammar.word n m t is) r = omega arith
    type_some (grammar.structure n k f) r = omega arith
some_parameter (spelled.valued {ts = ts} {cs = cs} n k a f typ h) = type_some typ (at k (symbol.Name f) ∷ fixed a terminal.Assign ∷ cs)
  where
    type_some : {n : ℕ} {t : TypeName} {ts : List Numbered} → TypeTokens n t ts → (r : List Numbered) → 0 < length (ts ++ r)
    type_some (grammar.word n m t is) r = omega arith
    type_some (grammar.structure n k f) r = omega arith

right_parameters_from : (t : ℕ) (before : List SourceParameter) (i : List Numbered)
    → Right (λ all xs rest. Until ParameterList terminal.Close before all xs) (Viable (Closed ParameterList terminal.Close)) (t ≤ length i) i (parameters_from t before i)
right_parameters_from zero before i = right_deep (omega arith)
right_parameters_from (suc t) before i =
    then (right_parameter i)
    (λ p xs rest h e. right_choice terminal.Comma rest _ _
    (λ n r is. after_take (λ n. parameters_from t (before ++ p ∷ [])) n (symbol.Fixed terminal.Comma) r is
    (right_as (right_parameters_from t (before ++ p ∷ []) r)
    (λ all ys end q. let (more, same, c) = q in (
      p ∷ more,
      same ∙ append_assoc before (p ∷ []) more,
      subst (λ (z : List Numbered). Closed ParameterList terminal.Close (p ∷ more) z) (append_assoc xs (fixed n terminal.Comma ∷ []) ys)
          (closed_after (xs ++ fixed n terminal.Comma ∷ []) (p ∷ more)
          (λ zs hs. subst (λ (z : List Numbered). ParameterList (p ∷ more) z)
          (sym (append_assoc xs (fixed n terminal.Comma ∷ []) zs)) (spelled.more n h hs)) c),
    ))
    (λ ys v. viable_under (Closed ParameterList terminal.Close) xs (fixed n terminal.Comma ∷ ys)
    (viable_as (Closed ParameterList terminal.Close) (λ all zs. Closed ParameterList terminal.Close all (xs ++ fixed n terminal.Comma ∷ zs)) ys v (λ all zs c. (
      p ∷ all,
      subst (λ (z : List Numbered). Closed ParameterList terminal.Close (p ∷ all) z) (append_assoc xs (fixed n terminal.Comma ∷ []) zs)
          (closed_after (xs ++ fixed n terminal.Comma ∷ []) (p ∷ all)
          (λ ws hs. subst (λ (z : List Numbered). ParameterList (p ∷ all) z)
          (sym (append_assoc xs (fixed n terminal.Comma ∷ []) ws)) (spelled.more n h hs)) c),
    ))))
    (λ deep. let one : length rest ≡ suc (length r) = ap length is in omega (arith, rest_length i xs rest e))))
    (λ other. then_expect terminal.Close rest
    (λ k r is. right_pure (p ∷ [], refl, record { tokens = xs; number = k; is = refl; holds = spelled.one h }))
    (subst (λ (z : List Numbered). Viable (Closed ParameterList terminal.Close) z) (sym (append-nil xs))
    (closed_prefix ParameterTokens ParameterList terminal.Close xs (viable_done ParameterTokens p xs h) (λ q ys h'. (q ∷ [], spelled.one h'))))))
    (λ xs v. closed_prefix ParameterTokens ParameterList terminal.Close xs v (λ q ys h. (q ∷ [], spelled.one h)))
    (λ deep. absurd deep)

right_parameters : (d : ℕ) (i : List Numbered) → Right (λ all xs rest. Closed Parameters terminal.Close all xs) (Viable (Closed Parameters terminal.Close)) (d ≤ length i) i (parameters d i)
unfolding parameters
right_parameters d i =
    right_choice terminal.Close i _ _
    (λ k r is. after_take (λ k. pure []) k (symbol.Fixed terminal.Close) r is (right_pure (record { tokens = []; number = k; is = refl; holds = spelled.absent })))
    (λ other. right_as (right_parameters_from d [] i)
    (λ all xs rest q. let (more, same, c) = q in subst
    (λ (w : List SourceParameter). Closed Parameters terminal.Close w xs) (sym same)
    (record { tokens = c.tokens; number = c.number; is = c.is; holds = spelled.present c.holds }))
    (λ xs v. viable_as (Closed ParameterList terminal.Close) (Closed Parameters terminal.Close) xs v
    (λ all ys c. (
      all,
      record {
        tokens = c.tokens;
        number = c.number;
        is = c.is;
        holds = spelled.present c.holds;
      },
    )))
    (λ deep. deep))

function_spelled : (n k a : ℕ) (t : TypeName)
    (f : List ℕ) {ts : List Numbered} {all : List SourceParameter} {b : Option SourceStmts} {xs bs : List Numbered}
    → TypeTokens n t ts → Closed Parameters terminal.Close all xs → Body b bs
    → Item (unit.function k t f all b) (ts ++ at k (symbol.Name f) ∷ fixed a terminal.Open ∷ (xs ++ bs))
function_spelled n k a t f {ts = ts} {all = all} {b = b} {bs = bs} typ c h =
    subst (λ (z : List Numbered). Item (unit.function k t f all b) (ts ++ at k (symbol.Name f) ∷ fixed a terminal.Open ∷ z))
    (sym (ap (λ z. z ++ bs) c.is ∙ append_assoc c.tokens (fixed c.number terminal.Close ∷ []) bs))
    (spelled.function n k a c.number f typ c.holds h)

-- a global's line, whose type and first name were read
right_global : (d n k : ℕ) (t : TypeName) (f : List ℕ) (ts i : List Numbered) → TypeTokens n t ts
    → Right (λ y ys rest. Item y (ts ++ at k (symbol.Name f) ∷ ys)) (λ ys. Viable Item (ts ++ at k (symbol.Name f) ∷ ys)) (d ≤ suc (length i)) i (global d n t (record { token = k; name = f }) i)
unfolding global
right_global d n k t f ts i typ =
    then (right_declared_after d k f i)
    (λ y ys rest h e. then_fixed terminal.Semicolon (right_more_declared d d (y ∷ []) (at k (symbol.Name f) ∷ ys) rest (grammar.one h))
    (λ all zs rest' m r names is e'. right_pure
    (subst (λ (w : List Numbered). Item (unit.global n t all) (ts ++ at k (symbol.Name f) ∷ w)) (append_assoc ys zs (fixed m terminal.Semicolon ∷ [])) (spelled.global n m typ names)))
    (λ all zs rest' names. viable_done DeclaredNames all (at k (symbol.Name f) ∷ (ys ++ zs)) names)
    (λ zs v. viable_under Item ts (at k (symbol.Name f) ∷ (ys ++ zs))
    (viable_then DeclaredNames (λ x ws. Item x (ts ++ ws)) (at k (symbol.Name f) ∷ (ys ++ zs))
    (by_terminal terminal.Semicolon ∷ []) v
    (λ all ws m names. (unit.global n t all, spelled.global n m typ names))))
    (λ deep. let lengths = rest_length i ys rest e in elim deep [ inl a ↦ omega arith | inr b ↦ omega arith ]))
    (λ ys v. viable_under Item ts (at k (symbol.Name f) ∷ ys)
    (viable_then Declared (λ x ws. Item x (ts ++ ws)) (at k (symbol.Name f) ∷ ys)
    (by_terminal terminal.Semicolon ∷ []) v
    (λ y ws m h. (unit.global n t (y ∷ []), spelled.global n m typ (grammar.one h)))))
    (λ deep. omega arith)

module _ (d : ℕ) (entries : Parser SourceStmts)
    (right_entries : (i : List Numbered)
    → Right (λ all xs rest. Closed (Entries false) terminal.CloseBrace all xs)
    (Viable (Closed (Entries false) terminal.CloseBrace)) (d ≤ suc (length i)) i (entries i)) where
  block_spelled : (n : ℕ) (all : SourceStmts) (xs : List Numbered) → Closed (Entries false) terminal.CloseBrace all xs → Body (Some all) (fixed n terminal.OpenBrace ∷ xs)
  block_spelled n all xs c = subst (λ (z : List Numbered). Body (Some all) (fixed n terminal.OpenBrace ∷ z)) (sym c.is) (spelled.block n c.number c.holds)

  right_body : (i : List Numbered) → Right (λ b bs rest. Body b bs) (Viable Body) (d ≤ suc (length i)) i (body d entries i)
  unfolding body
  right_body i =
      right_choice terminal.Semicolon i _ _
      (λ k r is. after_take (λ k. pure None) k (symbol.Fixed terminal.Semicolon) r is (right_pure (spelled.prototype k)))
      (λ other. then_expect terminal.OpenBrace i
      (λ n r is. then (right_entries r)
      (λ all xs rest c e. right_pure (subst (λ (z : List Numbered). Body (Some all) (fixed n terminal.OpenBrace ∷ z)) (sym (append-nil xs)) (block_spelled n all xs c)))
      (λ xs v. viable_as (Closed (Entries false) terminal.CloseBrace) (λ b zs. Body b (fixed n terminal.OpenBrace ∷ zs)) xs v (λ all zs c. (Some all, block_spelled n all zs c)))
      (λ deep. let one : length i ≡ suc (length r) = ap length is in omega arith))
      (λ j. (by_terminal terminal.Semicolon ∷ [], None, spelled.prototype j)))

  right_function : (n k a : ℕ) (t : TypeName) (f : List ℕ) (ts i r : List Numbered) → TypeTokens n t ts → i ≡ fixed a terminal.Open ∷ r
      → Right (λ y ys rest. Item y (ts ++ at k (symbol.Name f) ∷ ys))
      (λ ys. Viable Item (ts ++ at k (symbol.Name f) ∷ ys)) (d ≤ suc (length i)) i
      (function d entries t (record { token = k; name = f }) i)
  unfolding function
  right_function n k a t f ts i r typ is =
      after_take (λ a. parameters d >>= λ all. body d entries >>= λ b. pure (unit.function k t f all b)) a (symbol.Fixed terminal.Open) r is
      (then (right_parameters d r)
      (λ all xs rest c e. then (right_body rest)
      (λ b bs rest' h e'. right_pure
      (subst (λ (z : List Numbered). Item (unit.function k t f all b)
      (ts ++ at k (symbol.Name f) ∷ fixed a terminal.Open ∷ (xs ++ z))) (sym (append-nil bs))
      (function_spelled n k a t f typ c h)))
      (λ bs v. viable_under Item ts (at k (symbol.Name f) ∷ fixed a terminal.Open ∷ (xs ++ bs))
      (viable_under (λ x ws. Item x (ts ++ at k (symbol.Name f) ∷ fixed a terminal.Open ∷ ws)) xs bs
      (viable_as Body (λ x ws. Item x (ts ++ at k (symbol.Name f) ∷ fixed a terminal.Open ∷ (xs ++ ws))) bs v (λ b ws h. (unit.function k t f all b, function_spelled n k a t f typ c h)))))
      (λ deep. let one : length i ≡ suc (length r) = ap length is in omega (arith, rest_length r xs rest e)))
      (λ xs v. viable_under Item ts (at k (symbol.Name f) ∷ fixed a terminal.Open ∷ xs)
      (viable_then (Closed Parameters terminal.Close) (λ x ws. Item x (ts ++ at k (symbol.Name f) ∷ fixed a terminal.Open ∷ ws)) xs (by_terminal terminal.Semicolon ∷ []) v
      (λ all ws m c. (unit.function k t f all None, function_spelled n k a t f typ c (spelled.prototype m)))))
      (λ deep. let one : length i ≡ suc (length r) = ap length is in omega arith))

  right_after_type : (n : ℕ) (t : TypeName) (ts i : List Numbered) → TypeTokens n t ts
      → Right (λ y ys rest. Item y (ts ++ ys)) (λ ys. Viable Item (ts ++ ys)) (d ≤ suc (length i)) i (after_type d entries n t i)
  unfolding after_type
  right_after_type n t ts i typ =
      then_identifier (λ x. choice (is_terminal terminal.Open) (function d entries t x) (global d n t x)) i
      (λ k f r is. right_as
      (right_choice terminal.Open r (function d entries t (record { token = k; name = f })) (global d n t (record { token = k; name = f }))
      (λ a z is'. right_function n k a t f ts r z typ is')
      (λ other. right_global d n k t f ts r typ))
      (λ y ys rest q. q) (λ ys v. v) (λ deep. let one : length i ≡ suc (length r) = ap length is in omega arith))
      (viable_under Item ts [] (λ j. (
        by_name ∷ by_terminal terminal.Semicolon ∷ [],
        unit.global n t
            (record { token = j; name = some_name; value = None } ∷ []),
        spelled.global n (j + 1) typ
            (grammar.one (grammar.bare j some_name)),
      )))

  right_after_struct : (a : ℕ) (i r : List Numbered) → i ≡ fixed a terminal.Struct ∷ r → Right (λ y ys rest. Item y ys) (Viable Item) (d ≤ suc (length i)) i (after_struct d entries i)
  unfolding after_struct
  right_after_struct a i r is =
      after_take (λ a. identifier >>= λ x. choice (is_terminal terminal.OpenBrace) (structure d x) (after_type d entries a (type.Struct x.name))) a (symbol.Fixed terminal.Struct) r is
      (then_identifier (λ x. choice (is_terminal terminal.OpenBrace) (structure d x) (after_type d entries a (type.Struct x.name))) r
      (λ n f z is'. right_as
      (right_choice terminal.OpenBrace z (structure d (record { token = n; name = f })) (after_type d entries a (type.Struct f))
      (λ b w is''. right_structure d a n b f z w is'')
      (λ other. right_after_type a (type.Struct f) (fixed a terminal.Struct ∷ at n (symbol.Name f) ∷ []) z (grammar.structure a n f)))
      (λ y ys rest q. q) (λ ys v. v)
      (λ deep. let one : length i ≡ suc (length r) = ap length is in let two : length r ≡ suc (length z) = ap length is' in omega arith))
      (λ j. (
        by_name ∷ by_name ∷ by_terminal terminal.Semicolon ∷ [],
        unit.global a (type.Struct some_name) (record { token = j + 1; name = some_name; value = None } ∷ []),
        spelled.global a (j + 1 + 1) (grammar.structure a j some_name) (grammar.one (grammar.bare (j + 1) some_name)),
      )))

  pub right_item : (i : List Numbered) → Right (λ y ys rest. Item y ys) (Viable Item) (d ≤ suc (length i)) i (item d entries i)
  unfolding item
  right_item i =
      right_choice terminal.Struct i (after_struct d entries) (choice (is_terminal terminal.Const) constant_line (typed >>= λ p. after_type d entries p.0 p.1))
      (λ a r is. right_after_struct a i r is)
      (λ other. right_choice terminal.Const i constant_line (typed >>= λ p. after_type d entries p.0 p.1)
      (λ a r is. right_constant_line a i r (d ≤ suc (length i)) is)
      (λ other'. then_type Item (λ p. after_type d entries p.0 p.1) i
      (λ n t ts rest typ e. right_as (right_after_type n t ts rest typ) (λ y ys end q. q) (λ ys v. v) (λ deep. omega (arith, rest_length i ts rest e)))
      (λ n t ts typ j. (
        by_name ∷ by_terminal terminal.Semicolon ∷ [],
        unit.global n t
            (record { token = j; name = some_name; value = None } ∷ []),
        spelled.global n (j + 1) typ
            (grammar.one (grammar.bare j some_name)),
      ))))

  some_tokens : {x : SourceItem} {xs : List Numbered} → Item x xs → 0 < length xs
  some_tokens (spelled.structure a n b c e f h) = omega arith
  some_tokens (spelled.constant a n k b e f typ h) = omega arith
  some_tokens (spelled.global {xs = xs} n k typ h) = type_some typ (xs ++ fixed k terminal.Semicolon ∷ [])
    where
      type_some : {n : ℕ} {t : TypeName} {ts : List Numbered} → TypeTokens n t ts → (r : List Numbered) → 0 < length (ts ++ r)
      type_some (grammar.word n m t is) r = omega arith
      type_some (grammar.structure n k f) r = omega arith
  some_tokens (spelled.function {xs = xs} {bs = bs} n k a c f typ ps h) = type_some typ (at k (symbol.Name f) ∷ fixed a terminal.Open ∷ (xs ++ fixed c terminal.Close ∷ bs))
    where
      type_some : {n : ℕ} {t : TypeName} {ts : List Numbered} → TypeTokens n t ts → (r : List Numbered) → 0 < length (ts ++ r)
      type_some (grammar.word n m t is) r = omega arith
      type_some (grammar.structure n k f) r = omega arith

  one_item : {x : SourceItem} {ys : List Numbered} → Item x ys → Items (x ∷ []) ys
  one_item {x = x} {ys = ys} h = subst (λ (z : List Numbered). Items (x ∷ []) z) (append-nil ys) (spelled.more h spelled.none)

  right_items_from : (t : ℕ) (before : SourceItems) (i : List Numbered)
      → Right (λ all xs rest. (more : SourceItems) × (all ≡ before ++ more) × (rest ≡ []) × Items more xs) (Viable Items) ((t ≤ length i) ⊎ (d ≤ suc (length i))) i (items_from d entries t before i)
  unfolding first
  right_items_from zero before i = right_deep (inl (omega arith))
  right_items_from (suc t) before [] = right_pure ([], sym (append-nil before), refl, spelled.none)
  right_items_from (suc t) before (s ∷ r) =
      then (right_item (s ∷ r))
      (λ x xs rest h e. right_as (right_items_from t (before ++ x ∷ []) rest)
      (λ all ys end q. let (more, same, ended, hs) = q in (x ∷ more, same ∙ append_assoc before (x ∷ []) more, ended, spelled.more h hs))
      (λ ys v. viable_under Items xs ys (viable_as Items (λ all zs. Items all (xs ++ zs)) ys v (λ all zs hs. (x ∷ all, spelled.more h hs))))
      (λ deep. let some = some_tokens h in let lengths = rest_length (s ∷ r) xs rest e in elim deep [ inl a ↦ inl (omega arith) | inr b ↦ inr (omega arith) ]))
      (λ xs v. viable_as Item Items xs v (λ x ys h. (x ∷ [], one_item h)))
      (λ deep. inr deep)

  -- the whole unit
  pub right_items : (i : List Numbered) → Right (λ all xs rest. Items all xs × (rest ≡ [])) (Viable Items) (d ≤ suc (length i)) i (items d entries i)
  unfolding items
  right_items i =
      right_as (right_items_from d [] i)
      (λ all xs rest q. let (more, same, ended, hs) = q in (subst (λ (w : SourceItems). Items w xs) (sym same) hs, ended))
      (λ xs v. v)
      (λ deep. elim deep [ inl a ↦ omega arith | inr b ↦ b ])
