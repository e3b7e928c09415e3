mod WordLemmas
mod Rows
