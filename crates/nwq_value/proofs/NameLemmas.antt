-- What the look-ups by name tell.
use Rattle.std.proofs.Common.{◌≡◌, ◌≢◌, ℕ, zero, suc, Bool, true, false, if◌then◌else◌, List, [], ◌∷◌, Option, None, Some, slice_get, refl, sym, subst, ◌∙◌, true≢false}
use Rattle.std.specs.Cmp.Lexicographic.{bytes_decides}
use Rattle.std.specs.Option.{option_map}
use Rattle.std.specs.Str.{bytes_eq}
use Rattle.nwq_value.specs.declared.engine.Const.{Const}
use Rattle.nwq_value.specs.declared.engine.Routine.{Routine}
use Rattle.nwq_value.specs.Engine.{Constant, routine_named, constant_named, NumberIsOfName, NoNumberNoName, ConstantIsOfName, NoConstantNoName}
use Rattle.nwq_value.specs.TableLemmas.{routine_cons, constant_cons}

differ : (a b : List ℕ) → bytes_eq a b ≡ false → b ≢ a
differ a b e is = true≢false (sym ((bytes_decides a b).1 (sym is)) ∙ e)

record IsAt (name : List ℕ) (routines : List Routine) (n : ℕ) : Type 0 where
  routine : Routine
  at : slice_get routines n ≡ Some routine
  named : routine.name ≡ name

number_at : (name : List ℕ) (rs : List Routine) (n : ℕ) → routine_named name rs ≡ Some n → IsAt name rs n
unfolding routine_named
number_at name [] n e = cc
number_at name (r ∷ rs) n e = by (bytes_eq name r.name) refl (routine_named name rs) e (number_at name rs)
  where
    by : (b : Bool) → bytes_eq name r.name ≡ b → (o : Option ℕ) → (if b then Some 0 else option_map suc o) ≡ Some n
        → ((k : ℕ) → o ≡ Some k → IsAt name rs k) → IsAt name (r ∷ rs) n
    by true is o e rest =
        let first : 0 ≡ n = cc in
        subst (IsAt name (r ∷ rs)) first (record { routine = r; at = refl; named = sym ((bytes_decides name r.name).0 is) })
    by false is None e rest = cc
    by false is (Some k) e rest =
        let next : suc k ≡ n = cc in
        let found = rest k refl in
        subst (IsAt name (r ∷ rs)) next (record { routine = found.routine; at = found.at; named = found.named })

pub number_is_of_name : NumberIsOfName
number_is_of_name name routines n e = let found = number_at name routines n e in (found.routine, found.at, found.named)

pub no_number_no_name : NoNumberNoName
no_number_no_name name [] none n r at = cc
no_number_no_name name (x ∷ xs) none zero r at =
    let is : x ≡ r = cc in subst (λ y. y.name ≢ name) is (differ name x.name (routine_cons name x xs none).0)
no_number_no_name name (x ∷ xs) none (suc n) r at = no_number_no_name name xs (routine_cons name x xs none).1 n r at

record IsConstantAt (name : List ℕ) (constants : List Constant) (value : Const) : Type 0 where
  number : ℕ
  at : slice_get constants number ≡ Some (record { name = name; value = value })

constant_at : (name : List ℕ) (cs : List Constant) (value : Const) → constant_named name cs ≡ Some value → IsConstantAt name cs value
unfolding constant_named
constant_at name [] value e = cc
constant_at name (c ∷ cs) value e = by (bytes_eq name c.name) refl e (constant_at name cs value)
  where
    by : (b : Bool) → bytes_eq name c.name ≡ b → (if b then Some c.value else constant_named name cs) ≡ Some value
        → (constant_named name cs ≡ Some value → IsConstantAt name cs value) → IsConstantAt name (c ∷ cs) value
    by true is e rest =
        let named : c.name ≡ name = sym ((bytes_decides name c.name).0 is) in
        let same : c.value ≡ value = cc in
        record { number = 0; at = λ k. Some (record { name = named k; value = same k }) }
    by false is e rest = let found = rest e in record { number = suc found.number; at = found.at }

pub constant_is_of_name : ConstantIsOfName
constant_is_of_name name constants value e = let found = constant_at name constants value e in (found.number, found.at)

pub no_constant_no_name : NoConstantNoName
no_constant_no_name name [] none n c at = cc
no_constant_no_name name (x ∷ xs) none zero c at =
    let is : x ≡ c = cc in subst (λ y. y.name ≢ name) is (differ name x.name (constant_cons name x xs none).0)
no_constant_no_name name (x ∷ xs) none (suc n) c at = no_constant_no_name name xs (constant_cons name x xs none).1 n c at
