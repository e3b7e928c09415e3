mod NameLemmas
mod PathLemmas
mod WritingLemmas
mod RealLemmas
