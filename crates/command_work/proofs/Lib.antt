mod Tallied
mod FileLemmas
