-- What a table holds, line after line.
use Rattle.std.proofs.Common.{◌≡◌, ℕ, ◌+◌, ◌≤◌, List, [], ◌∷◌, ◌++◌, Result, Ok, Err, OnOk, ap, arith}
use Rattle.nwq_value.specs.declared.memory.NoMemory.{NoMemory}
use Rattle.nwq_value.specs.declared.engine.Routine.{Routine}
use Rattle.nwq_value.specs.Engine.{Constant, EngineTable}
use Rattle.engine_table.specs.declared.known.Known.{Known}
use Rattle.engine_table.specs.Held.{IsCounted, const_held, params_held, routines_held, constants_held, held, held_limit}

routines_more : (rs : List Routine) (r : Routine) → routines_held (rs ++ r ∷ []) ≡ routines_held rs + params_held r.params
routines_more [] r = omega arith
routines_more (first ∷ rs) r = omega (arith, routines_more rs r)

constants_more : (cs : List Constant) (c : Constant) → constants_held (cs ++ c ∷ []) ≡ constants_held cs + const_held c.value
constants_more [] c = omega arith
constants_more (first ∷ cs) c = omega (arith, constants_more cs c)

-- a routine more
pub routine_counted : (words : List (List ℕ)) (old : Known) (table : EngineTable) (text : ℕ) (r : Routine) (result : Result (Unit {0}) NoMemory) → IsCounted old
    → text ≡ old.text + params_held r.params → text ≤ held_limit → OnOk result (table ≡ record old.table { routines = old.table.routines ++ r ∷ [] })
    → OnOk result (IsCounted (record { words = words; table = table; text = text }))
routine_counted words old table text r (Ok u) counted more few is =
    let sum = routines_more old.table.routines r in
    let all = ap held is in
    record { exact = omega (arith, counted.exact, more, sum, all); few = few }
routine_counted words old table text r (Err e) counted more few is = tt

-- a constant more
pub constant_counted : (words : List (List ℕ)) (old : Known) (table : EngineTable) (text : ℕ) (c : Constant) (result : Result (Unit {0}) NoMemory) → IsCounted old
    → text ≡ old.text + const_held c.value → text ≤ held_limit → OnOk result (table ≡ record old.table { constants = old.table.constants ++ c ∷ [] })
    → OnOk result (IsCounted (record { words = words; table = table; text = text }))
constant_counted words old table text c (Ok u) counted more few is =
    let sum = constants_more old.table.constants c in
    let all = ap held is in
    record { exact = omega (arith, counted.exact, more, sum, all); few = few }
constant_counted words old table text c (Err e) counted more few is = tt
