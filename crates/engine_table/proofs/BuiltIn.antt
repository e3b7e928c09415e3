-- The text of the built-in header has the table of its data: its tokens and what they come to are
-- computed.
use Rattle.std.proofs.Common.{◌≡◌, ◌≢◌, List, length, Option, Some, None, Result, Ok, Err, refl, subst}
use Rattle.nwq_value.specs.Engine.{EngineTable, routine_named, constant_named}
use Rattle.nwq_value.specs.Header.{header_text, header_constants, header_routines}
use Rattle.nwq_value.specs.HeaderTable.{header_table}
use Rattle.nwq_value.specs.Roles.{engine_role, role_of_row, role_without_row, has_signature, ty_eq, tys_eq}
use Rattle.nss_lexer.specs.Computed.{tokens_in, ComputedAreTokens}
use Rattle.nss_lexer.specs.Lexemes.{is_word}
use Rattle.nss_lexer.specs.Reading.{pass, form}
use Rattle.nss_lexer.specs.Splitting.{Lexeme}
use Rattle.engine_table.specs.declared.fault.HeaderFault.{HeaderFault}
use Rattle.engine_table.specs.declared.fault.HeaderFault.TheVariants.{Bad, Header, Twice, Many, NoMemory}
use Rattle.engine_table.specs.declared.stage.Stage.TheVariants as stage
use Rattle.engine_table.specs.Symbols.{placed_all}
use Rattle.engine_table.specs.Grammar.{structure_of}
use Rattle.engine_table.specs.Headers.{HasTable, IsRefused, OneHeader, Comes, nothing, function_fault, constant_fault, value_fault, same_const}
use Rattle.engine_table.specs.Laws.{BuiltInHasTable}
use Rattle.engine_table.specs.Turns.{turn, declarations_read}
use Rattle.engine_table.proofs.Whole.{right}

abbrev come_to : Option (List Lexeme) → Result EngineTable HeaderFault
come_to None = Err NoMemory
come_to (Some ts) = declarations_read (length header_text) nothing stage.Start (placed_all ts)

computed : come_to (tokens_in 6000 0 header_text) ≡ Ok header_table
unfolding tokens_in pass form is_word header_text header_table header_constants header_routines declarations_read turn structure_of function_fault constant_fault value_fault same_const
    routine_named constant_named engine_role role_of_row role_without_row has_signature ty_eq tys_eq
computed = refl

none_come : ◌≡◌ {A = Result EngineTable HeaderFault} (Err NoMemory) (Ok header_table) → ⊥
none_come e = cc

table_of : ComputedAreTokens → (o : Option (List Lexeme)) → tokens_in 6000 0 header_text ≡ o → come_to o ≡ Ok header_table → HasTable header_text header_table
table_of computed_are None is e = absurd (none_come e)
table_of computed_are (Some ts) is e = (
  ts,
  computed_are header_text 6000 ts is,
  subst (Comes (length header_text) nothing (placed_all ts)) e (right (length header_text) nothing (placed_all ts)),
)

-- the built-in header's text has the table of its data
pub has_table : ComputedAreTokens → BuiltInHasTable
has_table computed_are = table_of computed_are (tokens_in 6000 0 header_text) refl computed

none_else : BuiltInHasTable → OneHeader → (f : HeaderFault) → f ≢ NoMemory → IsRefused header_text f → ⊥
none_else table one f some refused = one.not_both header_text header_table f some table refused

-- and no fault
pub only_memory : BuiltInHasTable → OneHeader → (f : HeaderFault) → IsRefused header_text f → f ≡ NoMemory
only_memory table one NoMemory h = refl
only_memory table one (Bad p) h = absurd (none_else table one (Bad p) (λ e. cc) h)
only_memory table one (Header p) h = absurd (none_else table one (Header p) (λ e. cc) h)
only_memory table one (Twice p) h = absurd (none_else table one (Twice p) (λ e. cc) h)
only_memory table one (Many p) h = absurd (none_else table one (Many p) (λ e. cc) h)
