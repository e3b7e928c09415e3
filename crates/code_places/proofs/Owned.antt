-- Lines with marks, part by part.
use Rattle.std.proofs.Common.{◌≡◌, ◌∙◌, ◌<◌, ap, sym, refl, ℕ, zero, suc, ◌+◌, List, [], ◌∷◌, ◌++◌, map, length, append_assoc, arith, None, Some, ◌⊎◌, inl, inr}
use Rattle.std.proofs.lemmas.List.{append-nil}
use Rattle.ncs_code.specs.Plain.{PlainOp}
use Rattle.ncs_code.specs.Spelling.{op_size}
use Rattle.ncs_emit.specs.declared.jump.Jump.{Jump}
use Rattle.ncs_emit.specs.Labelled.{Line, Instruction, JumpTo, Label, line_size}
use Rattle.code_places.specs.Numbers.{Number}
use Rattle.code_places.specs.Marks.{Mark, mark}
use Rattle.code_places.specs.Laws.{instructions, count, owner, StandsIn}

abbrev pub size_of : Mark → ℕ
size_of m = m.size

pub instructions_add : (a b : List Line) → instructions (a ++ b) ≡ instructions a ++ instructions b
instructions_add [] b = refl
instructions_add (Instruction op ∷ a) b = ap (λ xs. Instruction op ∷ xs) (instructions_add a b)
instructions_add (JumpTo j n ∷ a) b = ap (λ xs. JumpTo j n ∷ xs) (instructions_add a b)
instructions_add (Label n ∷ a) b = instructions_add a b

pub length_add : {A : Type 0} (a b : List A) → length (a ++ b) ≡ length a + length b
length_add [] b = omega arith
length_add (x ∷ a) b = let e = length_add a b in omega (arith, e)

pub count_add : (a b : List Line) → count (a ++ b) ≡ count a + count b
count_add a b = ap length (instructions_add a b) ∙ length_add (instructions a) (instructions b)

map_add : {A B : Type 0} (f : A → B) (a b : List A) → map f (a ++ b) ≡ map f a ++ map f b
map_add f [] b = refl
map_add f (x ∷ a) b = ap (λ xs. f x ∷ xs) (map_add f a b)

map_length : {A B : Type 0} (f : A → B) (a : List A) → length (map f a) ≡ length a
map_length f [] = refl
map_length f (x ∷ a) = let e = map_length f a in omega (arith, e)

-- an owner of two parts together is one of either
pub owner_split : (a b : List Mark) (i j : ℕ) → owner (a ++ b) i ≡ Some j
    → (owner a i ≡ Some j) ⊎ ((m : ℕ) × ((i ≡ length a + m) × (owner b m ≡ Some j)))
owner_split [] b i j h = inr (i, (omega arith, h))
owner_split (m ∷ a) b zero j h = inl h
owner_split (m ∷ a) b (suc i) j h = on (owner_split a b i j h)
  where
    on : (owner a i ≡ Some j) ⊎ ((k : ℕ) × ((i ≡ length a + k) × (owner b k ≡ Some j)))
        → (owner a i ≡ Some j) ⊎ ((k : ℕ) × ((suc i ≡ suc (length a) + k) × (owner b k ≡ Some j)))
    on (inl e) = inl e
    on (inr (k, (e, f))) = inr (k, (omega (arith, e), f))

owner_inside : (a : List Mark) (i j : ℕ) → owner a i ≡ Some j → i < length a
owner_inside [] i j h = absurd cc
owner_inside (m ∷ a) zero j h = omega arith
owner_inside (m ∷ a) (suc i) j h = let e = owner_inside a i j h in omega (arith, e)

module _ (Code : ℕ → List Line → Type 0) where
  -- Each instruction has a mark; its owner is `own`, or a node in whose code it stands.
  pub record Marked (own : Number) (lines : List Line) (ms : List Mark) : Type 0 where
    pub sizes : map size_of ms ≡ map line_size (instructions lines)
    pub owners : (i j : ℕ) → owner ms i ≡ Some j → (own ≡ Some j) ⊎ StandsIn Code lines i j

  pub as_many : {own : Number} {lines : List Line} {ms : List Mark} → Marked own lines ms → length ms ≡ count lines
  as_many {lines = lines} {ms = ms} f =
      sym (map_length size_of ms) ∙ (ap length f.sizes ∙ map_length line_size (instructions lines))

  wider : (a b : List Line) (i j : ℕ) → StandsIn Code a i j → StandsIn Code (a ++ b) i j
  wider a b i j r = record {
    before = r.before;
    code = r.code;
    behind = r.behind ++ b;
    whole = ap (λ xs. xs ++ b) r.whole ∙ (append_assoc r.before (r.code ++ r.behind) b
        ∙ ap (λ xs. r.before ++ xs) (append_assoc r.code r.behind b));
    from = r.from;
    to = r.to;
    is = r.is;
  }

  later : (a b : List Line) (i m j : ℕ) → i ≡ count a + m → StandsIn Code b m j → StandsIn Code (a ++ b) i j
  later a b i m j is r =
      let e = count_add a r.before in
      record {
        before = a ++ r.before;
        code = r.code;
        behind = r.behind;
        whole = ap (λ xs. a ++ xs) r.whole ∙ sym (append_assoc a r.before (r.code ++ r.behind));
        from = omega (arith, e, is, r.from);
        to = omega (arith, e, is, r.to);
        is = r.is;
      }

  pub both : {own : Number} {a b : List Line} {ma mb : List Mark} → Marked own a ma → Marked own b mb
      → Marked own (a ++ b) (ma ++ mb)
  both {own = own} {a = a} {b = b} {ma = ma} {mb = mb} f g = record {
    sizes = map_add size_of ma mb ∙ (ap (λ xs. xs ++ map size_of mb) f.sizes
        ∙ (ap (λ xs. map line_size (instructions a) ++ xs) g.sizes
        ∙ (sym (map_add line_size (instructions a) (instructions b)) ∙ ap (map line_size) (sym (instructions_add a b)))));
    owners = λ i j h. on i j (owner_split ma mb i j h);
  }
    where
      first : (i j : ℕ) → (own ≡ Some j) ⊎ StandsIn Code a i j → (own ≡ Some j) ⊎ StandsIn Code (a ++ b) i j
      first i j (inl e) = inl e
      first i j (inr r) = inr (wider a b i j r)

      second : (i m j : ℕ) → i ≡ count a + m → (own ≡ Some j) ⊎ StandsIn Code b m j → (own ≡ Some j) ⊎ StandsIn Code (a ++ b) i j
      second i m j is (inl e) = inl e
      second i m j is (inr r) = inr (later a b i m j is r)

      on : (i j : ℕ) → (owner ma i ≡ Some j) ⊎ ((m : ℕ) × ((i ≡ length ma + m) × (owner mb m ≡ Some j)))
          → (own ≡ Some j) ⊎ StandsIn Code (a ++ b) i j
      on i j (inl h) = first i j (f.owners i j h)
      on i j (inr (m, (is, h))) = let e = as_many f in second i m j (omega (arith, is, e)) (g.owners m j h)

  pub none : {own : Number} → Marked own [] []
  none = record { sizes = refl; owners = λ i j h. absurd cc }

  pub label : {own : Number} (n : ℕ) → Marked own (Label n ∷ []) []
  label n = record { sizes = refl; owners = λ i j h. absurd cc }

  alone : (own : Number) (size i j : ℕ) (lines : List Line) → owner (mark size own ∷ []) i ≡ Some j → (own ≡ Some j) ⊎ StandsIn Code lines i j
  alone own size zero j lines h = inl h
  alone own size (suc i) j lines h = absurd cc

  pub one : {own : Number} (op : PlainOp) → Marked own (Instruction op ∷ []) (mark (op_size op) own ∷ [])
  one {own = own} op = record { sizes = refl; owners = λ i j h. alone own (op_size op) i j (Instruction op ∷ []) h }

  pub jump : {own : Number} (kind : Jump) (n : ℕ) → Marked own (JumpTo kind n ∷ []) (mark 6 own ∷ [])
  jump {own = own} kind n = record { sizes = refl; owners = λ i j h. alone own 6 i j (JumpTo kind n ∷ []) h }

  -- what has no owner of its own has none of another part's
  pub part : {own : Number} {lines : List Line} {ms : List Mark} → Marked None lines ms → Marked own lines ms
  part {own = own} {lines = lines} f = record { sizes = f.sizes; owners = λ i j h. on i j (f.owners i j h) }
    where
      on : (i j : ℕ) → (None ≡ Some j) ⊎ StandsIn Code lines i j → (own ≡ Some j) ⊎ StandsIn Code lines i j
      on i j (inl e) = absurd cc
      on i j (inr r) = inr r

  -- the code of a node
  pub node : {own : Number} {lines : List Line} {ms : List Mark} → ((j : ℕ) → own ≡ Some j → Code j lines) → Marked own lines ms
      → Marked None lines ms
  node {own = own} {lines = lines} {ms = ms} code f = record { sizes = f.sizes; owners = λ i j h. on i j h (f.owners i j h) }
    where
      on : (i j : ℕ) → owner ms i ≡ Some j → (own ≡ Some j) ⊎ StandsIn Code lines i j → (None ≡ Some j) ⊎ StandsIn Code lines i j
      on i j h (inr r) = inr r
      on i j h (inl e) =
          let inside = owner_inside ms i j h in
          let many = as_many f in
          inr (record {
            before = [];
            code = lines;
            behind = [];
            whole = sym (append-nil lines);
            from = omega arith;
            to = omega (arith, inside, many);
            is = code j e;
          })
