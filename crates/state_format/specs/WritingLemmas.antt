-- What was put before, and what is put behind it. No contract speaks of these lemmas: they serve the
-- proofs here and of the crates above that put a state's fields.
use Rattle.std.proofs.Common.{◌≡◌, ℕ, List, [], ◌∷◌, ◌++◌, length, refl, sym, ap, ◌∙◌, append_assoc}
use Rattle.std.specs.List.{flat_map}
use Rattle.std.proofs.lemmas.List.{append-nil}
use Rattle.state_format.specs.declared.parts.Captured.{Captured}
use Rattle.state_format.specs.declared.parts.Parts.{Parts}
use Rattle.state_format.specs.Fields.{Fields, joined, number, blob, magic, list_of, number_fields, blob_fields, maybe_fields, cell_fields, captured_fields, script_fields, count_fields, object_fields, entry_fields, first_fields, last_fields, parts_fields}

pub joined_append : (x y : Fields) → joined (x ++ y) ≡ joined x ++ joined y
joined_append [] y = refl
joined_append (f ∷ x) y = ap (λ (l : List ℕ). f ++ l) (joined_append x y)
    ∙ sym (append_assoc f (joined x) (joined y))

-- the fields of one member more
pub fields_behind : {A : Type 0} (f : A → Fields) (ps : List A) (p : A)
    → joined (flat_map f (ps ++ p ∷ [])) ≡ joined (flat_map f ps) ++ joined (f p)
fields_behind f [] p = ap joined (append-nil (f p))
fields_behind f (q ∷ ps) p =
    joined_append (f q) (flat_map f (ps ++ p ∷ []))
    ∙ ap (λ (l : List ℕ). joined (f q) ++ l) (fields_behind f ps p)
    ∙ sym (append_assoc (joined (f q)) (joined (flat_map f ps)) (joined (f p)))
    ∙ ap (λ (l : List ℕ). l ++ joined (f p)) (sym (joined_append (f q) (flat_map f ps)))

-- one field, and fields behind others
pub put_one : (old new field : List ℕ) → new ≡ old ++ field → new ≡ old ++ joined (field ∷ [])
put_one old new field e = e ∙ ap (λ (l : List ℕ). old ++ l) (sym (append-nil field))

pub put_then : (f g : Fields) (old now new : List ℕ) → now ≡ old ++ joined f → new ≡ now ++ joined g
    → new ≡ old ++ joined (f ++ g)
put_then f g old now new one other =
    other ∙ ap (λ (l : List ℕ). l ++ joined g) one ∙ append_assoc old (joined f) (joined g)
    ∙ ap (λ (l : List ℕ). old ++ l) (sym (joined_append f g))

-- members behind their count
pub put_listed : {A : Type 0} (f : A → Fields) (ps : List A) (n : ℕ) (old counted new : List ℕ)
    → counted ≡ old ++ number 4 n → n ≡ length ps
    → new ≡ counted ++ joined (flat_map f ps) → new ≡ old ++ joined (list_of f ps)
put_listed f ps n old counted new one count all =
    all ∙ ap (λ (l : List ℕ). l ++ joined (flat_map f ps))
    (one ∙ ap (λ (k : ℕ). old ++ number 4 k) count)
    ∙ append_assoc old (number 4 (length ps)) (joined (flat_map f ps))

pub captured_put : (s : Captured) (old a b c new : List ℕ) → a ≡ old ++ number 4 s.script
    → b ≡ a ++ number 4 s.place → c ≡ b ++ joined (list_of cell_fields s.globals)
    → new ≡ c ++ joined (list_of cell_fields s.locals) → new ≡ old ++ joined (captured_fields s)
captured_put s old a b c new e1 e2 e3 e4 =
    put_then (number_fields 4 s.script)
    (number_fields 4 s.place ++
    (list_of cell_fields s.globals ++ list_of cell_fields s.locals)) old a new
    (put_one old a (number 4 s.script) e1)
    (put_then (number_fields 4 s.place)
    (list_of cell_fields s.globals ++ list_of cell_fields s.locals) a b new
    (put_one a b (number 4 s.place) e2)
    (put_then (list_of cell_fields s.globals) (list_of cell_fields s.locals) b c new e3 e4))

pub first_put : (s : Parts) (old a b c d new : List ℕ) → a ≡ old ++ magic
    → b ≡ a ++ joined (maybe_fields blob_fields s.header)
    → c ≡ b ++ joined (list_of script_fields s.scripts)
    → d ≡ c ++ blob s.area → new ≡ d ++ joined (count_fields s)
    → new ≡ old ++ joined (first_fields s)
first_put s old a b c d new e1 e2 e3 e4 e5 =
    put_then (magic ∷ []) (maybe_fields blob_fields s.header
    ++ (list_of script_fields s.scripts ++ (blob_fields s.area ++ count_fields s))) old a new
    (put_one old a magic e1)
    (put_then (maybe_fields blob_fields s.header)
    (list_of script_fields s.scripts ++ (blob_fields s.area ++ count_fields s)) a b new e2
    (put_then (list_of script_fields s.scripts) (blob_fields s.area ++ count_fields s) b c new e3
    (put_then (blob_fields s.area) (count_fields s) c d new (put_one c d (blob s.area) e4) e5)))

pub last_put : (s : Parts) (old a b new : List ℕ)
    → a ≡ old ++ joined (list_of (number_fields 4) s.random)
    → b ≡ a ++ joined (list_of object_fields s.objects)
    → new ≡ b ++ joined (list_of entry_fields s.agenda) → new ≡ old ++ joined (last_fields s)
last_put s old a b new e1 e2 e3 =
    put_then (list_of (number_fields 4) s.random)
    (list_of object_fields s.objects ++ list_of entry_fields s.agenda) old a new e1
    (put_then (list_of object_fields s.objects) (list_of entry_fields s.agenda) a b new e2 e3)

pub parts_put : (s : Parts) (old now new : List ℕ) → now ≡ old ++ joined (first_fields s)
    → new ≡ now ++ joined (last_fields s) → new ≡ old ++ joined (parts_fields s)
unfolding parts_fields
parts_put s old now new e1 e2 = put_then (first_fields s) (last_fields s) old now new e1 e2
