-- The functions by number, and the hooks that stand for them.
use Rattle.std.proofs.Common.{◌≡◌, ℕ, zero, suc, ◌+◌, ◌≤◌, List, [], ◌∷◌, ◌++◌, length, take, Some, Result, Ok, Err, OnOk, refl, sym, ap, subst, ◌∙◌, arith}
use Rattle.std.specs.List.{slice_get}
use Rattle.nwq_value.specs.Limits.{text_limit}
use Rattle.nwq_value.specs.declared.value.Ty.{Ty}
use Rattle.nwq_value.specs.declared.value.Value.{Value}
use Rattle.table_2da.specs.declared.tables.Named.{Named}
use Rattle.hook_table.specs.Served.{AreFirst, FirstGrow}
use Rattle.hook_table.specs.Standard.{standard, function_numbered, pure_named, IsAnswer}
use Rattle.hook_table.specs.declared.hook.Known.{Known}
use Rattle.world_core.specs.Calls.{tables_of, tables_of_hook, AreServing}

-- a function's name is no longer than a text
pub name_kept : (n : ℕ) → take text_limit (function_numbered n).name ≡ (function_numbered n).name
name_kept zero = refl
name_kept (suc zero) = refl
name_kept (suc (suc zero)) = refl
name_kept (suc (suc (suc zero))) = refl
name_kept (suc (suc (suc (suc zero)))) = refl
name_kept (suc (suc (suc (suc (suc zero))))) = refl
name_kept (suc (suc (suc (suc (suc (suc zero)))))) = refl
name_kept (suc (suc (suc (suc (suc (suc (suc zero))))))) = refl
name_kept (suc (suc (suc (suc (suc (suc (suc (suc zero)))))))) = refl
name_kept (suc (suc (suc (suc (suc (suc (suc (suc (suc zero))))))))) = refl
name_kept (suc (suc (suc (suc (suc (suc (suc (suc (suc (suc n)))))))))) = refl

numbered : (n : ℕ) → n ≤ 9 → slice_get standard n ≡ Some (function_numbered n)
numbered zero few = refl
numbered (suc zero) few = refl
numbered (suc (suc zero)) few = refl
numbered (suc (suc (suc zero))) few = refl
numbered (suc (suc (suc (suc zero)))) few = refl
numbered (suc (suc (suc (suc (suc zero))))) few = refl
numbered (suc (suc (suc (suc (suc (suc zero)))))) few = refl
numbered (suc (suc (suc (suc (suc (suc (suc zero))))))) few = refl
numbered (suc (suc (suc (suc (suc (suc (suc (suc zero)))))))) few = refl
numbered (suc (suc (suc (suc (suc (suc (suc (suc (suc zero))))))))) few = refl
numbered (suc (suc (suc (suc (suc (suc (suc (suc (suc (suc n)))))))))) few = absurd (omega arith)

-- with a hook for the next function there is one more
pub next_first : (law : FirstGrow) (n : ℕ) (old new : List Known) (h : Known) → n ≤ 9 → AreFirst n old → new ≡ old ++ h ∷ []
    → h.name ≡ (function_numbered n).name → h.params ≡ (function_numbered n).params → h.result ≡ (function_numbered n).result → AreFirst (n + 1) new
next_first law n old new h few first is name params result =
    subst (λ hooks. AreFirst (n + 1) hooks) (sym is)
    (law n (function_numbered n) old h (numbered n few) first (record { name = name; params = params; result = result }))

-- one for each function serves
pub ten_serve : (hooks : List Known) → AreFirst 10 hooks → AreServing hooks
ten_serve hooks first = record { begin = first.begin; cells = λ h at. sym (ap tables_of_hook at) }

-- an answer of the same function over no tables
pub same_answer : (tables : List Named) (name same : List ℕ) (gives type : Ty) (args : List Value) (v : Value) → tables ≡ [] → name ≡ same → gives ≡ type
    → IsAnswer [] same type args v → IsAnswer tables name gives args v
same_answer tables name same gives type args v none named gives_so answer = record {
  value = ap (λ t. pure_named t name args) none ∙ (ap (λ m. pure_named [] m args) named ∙ answer.value);
  ty = answer.ty ∙ sym gives_so;
}

-- an answer of the same function over the same tables
pub like_answer : (tables : List Named) (name same : List ℕ) (gives type : Ty) (args : List Value) (v : Value) → name ≡ same → gives ≡ type
    → IsAnswer tables same type args v → IsAnswer tables name gives args v
like_answer tables name same gives type args v named gives_so answer =
    subst (λ n. IsAnswer tables n gives args v) (sym named) (subst (λ t. IsAnswer tables same t args v) (sym gives_so) answer)

-- the hook that is put behind so many is found by their number
at_last : (old : List Known) (h : Known) (n : ℕ) → length old ≡ n → slice_get (old ++ h ∷ []) n ≡ Some h
at_last [] h zero count = refl
at_last [] h (suc n) count = absurd (omega (arith, count))
at_last (x ∷ old) h zero count = absurd (omega (arith, count))
at_last (x ∷ old) h (suc n) count = at_last old h n (omega (arith, count))

-- with the tenth hook there are ten, and the tables are its own
module _ {A E : Type 0} where
  pub cell_first : (law : FirstGrow) (r : Result A E) (old new : List Known) (h : Known) → AreFirst 9 old → OnOk r (new ≡ old ++ h ∷ [])
      → h.name ≡ (function_numbered 9).name → h.params ≡ (function_numbered 9).params → h.result ≡ (function_numbered 9).result → OnOk r (AreFirst 10 new)
  cell_first law (Ok done) old new h first is name params result = next_first law 9 old new h (omega arith) first is name params result
  cell_first law (Err e) old new h first is name params result = tt

  pub cell_tables : (r : Result A E) (old new : List Known) (h : Known) (tables : List Named) → AreFirst 9 old → OnOk r (new ≡ old ++ h ∷ [])
      → h.tables ≡ tables → OnOk r (tables_of new ≡ tables)
  cell_tables (Ok done) old new h tables first is same = ap tables_of is ∙ (ap tables_of_hook (at_last old h 9 first.count) ∙ same)
  cell_tables (Err e) old new h tables first is same = tt
