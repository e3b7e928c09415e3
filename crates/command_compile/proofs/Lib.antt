mod OneScript
mod Steps
mod TypingLemmas
mod FileLemmas
