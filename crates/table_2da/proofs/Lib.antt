mod LookLemmas
mod PrefixLemmas
mod RangeLemmas
mod FrontLemmas
mod RowLemmas
mod TableLemmas
mod Examples
