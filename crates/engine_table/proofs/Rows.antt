-- Texts by their tokens, and what they come to.
use Rattle.std.proofs.Common.{◌≡◌, ℕ, [], ◌∷◌, codes, pos, Ok, Err, refl}
use Rattle.nwq_value.specs.declared.engine.Const.TheVariants as const
use Rattle.nwq_value.specs.Engine.{routine_named, constant_named}
use Rattle.engine_table.specs.declared.fault.HeaderFault.TheVariants.{Header, Twice}
use Rattle.engine_table.specs.declared.symbol.Word.{Word}
use Rattle.engine_table.specs.declared.symbol.Word.TheVariants as word
use Rattle.engine_table.specs.declared.symbol.Sign.TheVariants as sign
use Rattle.engine_table.specs.declared.symbol.Symbol.TheVariants as symbol
use Rattle.engine_table.specs.declared.stage.Stage.TheVariants as stage
use Rattle.engine_table.specs.Symbols.{Placed, at}
use Rattle.engine_table.specs.Grammar.{sign_at, structure_of}
use Rattle.engine_table.specs.Headers.{nothing, function_fault, constant_fault, value_fault, same_const}
use Rattle.engine_table.specs.Turns.{turn, declarations_read}

abbrev word_at : ℕ → Word → Placed
word_at p w = at p (symbol.Word w)

abbrev a_at : ℕ → Placed
a_at p = at p (symbol.Name (codes "A"))

-- int A(); int A();
twice : declarations_read 17 nothing stage.Start
    (word_at 0 word.Int ∷ a_at 4 ∷ sign_at 5 sign.Open ∷ sign_at 6 sign.Close ∷ sign_at 7 sign.Semicolon
    ∷ word_at 9 word.Int ∷ a_at 13 ∷ sign_at 14 sign.Open ∷ sign_at 15 sign.Close ∷ sign_at 16 sign.Semicolon ∷ []) ≡ Err (Twice 13)
unfolding declarations_read turn function_fault routine_named constant_named
twice = refl

-- float A = ;
forgotten : declarations_read 11 nothing stage.Start
    (word_at 0 word.OtherType ∷ a_at 6 ∷ sign_at 8 sign.Equals ∷ sign_at 10 sign.Semicolon ∷ []) ≡ Ok (nothing.table)
unfolding declarations_read turn constant_fault value_fault routine_named constant_named
forgotten = refl

-- int A=1; int A=1;
equal : declarations_read 17 nothing stage.Start
    (word_at 0 word.Int ∷ a_at 4 ∷ sign_at 5 sign.Equals ∷ at 6 (symbol.Int 1) ∷ sign_at 7 sign.Semicolon
    ∷ word_at 9 word.Int ∷ a_at 13 ∷ sign_at 14 sign.Equals ∷ at 15 (symbol.Int 1) ∷ sign_at 16 sign.Semicolon ∷ [])
    ≡ Ok (record { routines = []; constants = record { name = codes "A"; value = const.Int (pos 1) } ∷ [] })
unfolding declarations_read turn constant_fault value_fault same_const routine_named constant_named
equal = refl

-- #define ENGINE_STRUCTURE_1 effect
refused : declarations_read 33 nothing stage.Start
    (sign_at 0 sign.Hash ∷ at 1 (symbol.Name (codes "define")) ∷ at 8 (symbol.Name (codes "ENGINE_STRUCTURE_1")) ∷ word_at 27 word.Effect ∷ [])
    ≡ Err (Header 27)
unfolding declarations_read turn structure_of
refused = refl
