mod ByteLemmas
mod DriveLemmas
mod EachLemmas
mod MapLemmas
mod PathLemmas
mod TreeLemmas
