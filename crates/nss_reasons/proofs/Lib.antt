pub mod FunctionScope
pub mod JudgedNames
pub mod NodeRows
