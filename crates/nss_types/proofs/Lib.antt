pub mod ParameterRows
pub mod JudgedParameter
pub mod FunctionLemmas
pub mod FieldRows
pub mod ItemRows
pub mod UnitLemmas
pub mod FieldCells
