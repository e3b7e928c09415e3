-- Units of which some items are read already.
use Rattle.std.specs.Prelude.{◌≡◌, ◌≢◌, ℕ, Bool, ◌↔◌, IsTrue, List, [], ◌∷◌, ◌++◌, length}
use Rattle.nss_tree.specs.Source.{SourceItems}
use Rattle.nss_symbols.specs.declared.terminal.Terminal.TheVariants.{CloseBrace, Else}
use Rattle.nss_symbols.specs.Symbols.{Symbol, Fixed, numbered_from}
use Rattle.nss_parser.specs.Unit.{Items}
use Rattle.nss_parser.specs.Sentence.{IsPrefix}

-- the tokens are whole items of a unit
abbrev pub AreItems : List Symbol → Type 0
AreItems tokens = (items : SourceItems) × Items items (numbered_from 0 tokens)

-- Whether tokens can be completed to a unit behind whole items, as many tokens as told, whichever
-- these are.
abbrev pub TellsPrefix : ℕ → List Symbol → Bool → Type 0
TellsPrefix count rest can =
    (front : List Symbol) → AreItems front → length front ≡ count
    → (IsTrue can) ↔ IsPrefix (front ++ rest)

-- The tokens end in the body of a function, behind whole entries: with its `}` they are whole items.
abbrev pub IsOpenBody : List Symbol → Type 0
IsOpenBody tokens = AreItems (tokens ++ Fixed CloseBrace ∷ [])

-- What can follow in such a body depends neither on its entries nor on what stands before it: of
-- two with as many tokens, one can be gone on with as the other, but for an `else`.
abbrev pub OpenBodiesAlike : Type 0
OpenBodiesAlike =
    (one other : List Symbol) → IsOpenBody one → IsOpenBody other → length one ≡ length other
    → (next : Symbol) → next ≢ Fixed Else → (more : List Symbol)
    → IsPrefix (one ++ next ∷ more) ↔ IsPrefix (other ++ next ∷ more)
