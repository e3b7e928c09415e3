mod EntryLemmas
mod HeaderLemmas
mod Rows
mod RunLemmas
mod SavedLemmas
mod StackLemmas
mod StepLemmas
