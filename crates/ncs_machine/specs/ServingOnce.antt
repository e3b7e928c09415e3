-- Hooks serve in one way, so that a setting can carry that they do.
use Rattle.std.specs.Prelude.{◌≡◌, ℕ, List, [], ◌∷◌, refl}
use Rattle.std.specs.Coded.{Coded, Coded-set, code_by, coded_list, coded_ℕ, coded×, ×_prop}
use Rattle.nwq_value.specs.declared.value.Ty.{Ty}
use Rattle.table_2da.specs.declared.tables.Named.{Named}
use Rattle.hook_table.specs.Served.{AreStandard, BeginWith, StandsFor}
use Rattle.hook_table.specs.Sets.{answer_sets, ty_code}
use Rattle.hook_table.specs.Standard.{Function, standard}
use Rattle.hook_table.specs.declared.hook.Known.{Known}
use Rattle.world_core.specs.Calls.{AreServing, tables_of}

-- ---- what equations between the parts of a hook are

abbrev Rows : Type 0
Rows = List (List (List ℕ))

named_code : Coded Named
named_code =
    code_by (List ℕ × (List (List ℕ) × Rows))
    (coded× (coded_list coded_ℕ)
    (coded× (coded_list (coded_list coded_ℕ)) (coded_list (coded_list (coded_list coded_ℕ)))))
    (λ t. (t.name, (t.table.columns, t.table.rows)))
    (λ p. record { name = p.0; table = record { columns = p.1.0; rows = p.1.1 } })
    (λ _. refl)

tables_set : (x y : List Named) → IsProp (x ≡ y)
tables_set x y = Coded-set (coded_list named_code) x y

types_set : (x y : List Ty) → IsProp (x ≡ y)
types_set x y = Coded-set (coded_list ty_code) x y

bytes_set : (x y : List ℕ) → IsProp (x ≡ y)
bytes_set x y = Coded-set (coded_list coded_ℕ) x y

-- ---- hooks that stand for functions

stands_once : (f : Function) (h : Known) → IsProp (StandsFor f h)
stands_once f h = Prim.hlevel (types_set, bytes_set, answer_sets)

begin_once : (fs : List Function) (hooks : List Known) → IsProp (BeginWith fs hooks)
begin_once [] hooks = Prim.hlevel
begin_once (f ∷ fs) [] = Prim.hlevel
begin_once (f ∷ fs) (h ∷ hooks) = ×_prop (stands_once f h) (begin_once fs hooks)

standard_once : (hooks : List Known) (tables : List Named) → IsProp (AreStandard hooks tables)
standard_once hooks tables = Prim.hlevel (begin_once standard hooks, tables_set)

pub serving_once : (hooks : List Known) → IsProp (AreServing hooks)
serving_once hooks = standard_once hooks (tables_of hooks)
