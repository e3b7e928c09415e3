-- What the answers of a read and of a write do, in the words of their own clauses.
use Rattle.std.proofs.Common.{◌≡◌, ℕ, ◌<◌, ◌≤◌, inl, inr, List, length, Option, Some, None, IsSomeAnd, Ok, Err, refl, sym, subst}
use Rattle.nwq_value.specs.Limits.{file_limit}
use Rattle.nwq_outside.specs.Outside.{Contents, KeepsOthers, with_content, content}
use Rattle.command_work.specs.declared.status.Status.{Status}
use Rattle.command_work.specs.Refusal.{Absent, TooLong}
use Rattle.command_work.specs.Work.{CutsShort, Does, file_named, writes}
use Rattle.command_work.specs.Parts.{Refuses, cut_here, may_read}
use Rattle.command_work.specs.Reading.{IsUnread, absent, long}
use Rattle.command_work.specs.Comes.{read_does, unread_refuses}

module _ (name : List ℕ) where
  pub wrote : (bytes : List ℕ) (c c' : Contents) (t : List ℕ) → c' ≡ with_content c name bytes → Does (writes name bytes) c t (Ok tt) c' t
  unfolding writes
  wrote bytes c c' t left = inr (refl, (left, refl))

  pub write_cut : (bytes : List ℕ) (e : Status) (c c' : Contents) (t : List ℕ) → CutsShort e → KeepsOthers name c c'
      → Does (writes name bytes) c t (Err e) c' t
  unfolding writes
  write_cut bytes e c c' t cut keeps = inl (cut, keeps, refl)

  pub read_bytes : (bytes : List ℕ) (c c' : Contents) (t : List ℕ) → content c name ≡ Some bytes → length bytes ≤ file_limit → c' ≡ c
      → Does (file_named name) c t (Ok bytes) c' t
  read_bytes bytes c c' t held small same =
      subst (λ d. Does (file_named name) c t (Ok bytes) d t) (sym same) (read_does c t name bytes (record { held = held; small = small }))

  pub read_absent : (answer : Status) (c c' : Contents) (t t' : List ℕ) → content c name ≡ None → c' ≡ c → Refuses (Absent name) t answer t'
      → Does (file_named name) c t (Err answer) c' t'
  read_absent answer c c' t t' held same h =
      subst (λ d. Does (file_named name) c t (Err answer) d t') (sym same) (unread_refuses c t name (Absent name) answer t' (absent held) h)

  long_held : (c : Contents) (found : Option (List ℕ)) → content c name ≡ found → IsSomeAnd found (λ bytes. file_limit < length bytes)
      → IsUnread c name (TooLong name)
  long_held c None held more = absurd more
  long_held c (Some bytes) held more = long bytes held more

  pub read_long : (answer : Status) (c c' : Contents) (t t' : List ℕ) → IsSomeAnd (content c name) (λ bytes. file_limit < length bytes) → c' ≡ c
      → Refuses (TooLong name) t answer t' → Does (file_named name) c t (Err answer) c' t'
  read_long answer c c' t t' more same h =
      subst (λ d. Does (file_named name) c t (Err answer) d t') (sym same)
      (unread_refuses c t name (TooLong name) answer t' (long_held c (content c name) refl more) h)

  pub read_cut : (e : Status) (c c' : Contents) (t t' : List ℕ) → CutsShort e → c' ≡ c → t' ≡ t → Does (file_named name) c t (Err e) c' t'
  read_cut e c c' t t' cut p q = cut_here (file_named name) e c c' t t' (may_read name) cut p q

pub ruleset reads = (read_bytes, read_absent, read_long, read_cut)
