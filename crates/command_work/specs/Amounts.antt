-- What a work writes and puts where no call fails, as one list of writes and one text.
use Rattle.std.specs.Prelude.{◌≡◌, ℕ, ◌⊎◌, List, [], ◌∷◌, ◌++◌, Result, Ok, Err}
use Rattle.nwq_outside.specs.Outside.{Contents, with_content, KeepsOthers, TookPrefix}
use Rattle.command_work.specs.declared.status.Status.{Status}
use Rattle.command_work.specs.Refusal.{line_of, status_of}
use Rattle.command_work.specs.Work.{Work, Gives, Refused, Ends, Writes, Puts, Finds, Found}

-- a file that is written, by its name and bytes
pub record Write : Type 0 where
  pub name : List ℕ
  pub bytes : List ℕ

-- the files after writes in order
abbrev pub written : List Write → Contents → Contents
written [] c = c
written (w ∷ writes) c = written writes (with_content c w.name w.bytes)

-- so, or after a front of them: every other name than that of the next one is as it was then, and
-- under that may be anything
abbrev pub IsAfterFront : List Write → Contents → Contents → Type 0
IsAfterFront [] c c' = c' ≡ c
IsAfterFront (w ∷ writes) c c' = KeepsOthers w.name c c'
    ⊎ IsAfterFront writes (with_content c w.name w.bytes) c'

-- this write is the first of them, and what follows goes on so
pub record IsFirst (w : Write) (writes : List Write) (Goes : List Write → Type 0) : Type 0 where
  pub rest : List Write
  pub is : writes ≡ w ∷ rest
  pub goes : Goes rest

-- the text begins with this piece, and what follows goes on so
pub record BeginsWith (piece text : List ℕ) (Goes : List ℕ → Type 0) : Type 0 where
  pub rest : List ℕ
  pub is : text ≡ piece ++ rest
  pub goes : Goes rest

-- From contents c, where no call fails, the work answers r, and has then made these writes, in
-- this order, and put this text.
abbrev pub AmountsTo : {A : Type 0} → Work A → Contents → Result A Status → List Write → List ℕ
    → Type 0
AmountsTo (Gives a) c r writes text = (r ≡ Ok a) × ((writes ≡ []) × (text ≡ []))
AmountsTo (Refused refusal) c r writes text = (r ≡ Err (status_of refusal))
    × ((writes ≡ []) × (text ≡ line_of refusal))
AmountsTo (Ends status) c r writes text = (r ≡ Err status) × ((writes ≡ []) × (text ≡ []))
AmountsTo (Writes name bytes next) c r writes text =
    IsFirst (record { name = name; bytes = bytes }) writes
    (λ rest. AmountsTo next (with_content c name bytes) r rest text)
AmountsTo (Puts piece next) c r writes text = BeginsWith piece text
    (λ rest. AmountsTo next c r writes rest)
AmountsTo (Finds P next) c r writes text = Found (P c) (λ b. AmountsTo (next b) c r writes text)

-- what a work amounts to that did this
pub record Amount {A : Type 0} (w : Work A) (c : Contents) (t : List ℕ) (r : Result A Status)
    (c' : Contents) (t' : List ℕ) : Type 0 where
  pub writes : List Write
  pub text : List ℕ
  pub is : AmountsTo w c r writes text
  pub left : c' ≡ written writes c
  pub taken : t' ≡ t ++ text

-- what a work leaves and has put, where it was cut or not, is a front of these writes and a prefix
-- of this text
pub record IsFront (writes : List Write) (text : List ℕ) (c : Contents) (t : List ℕ) (c' : Contents)
    (t' : List ℕ) : Type 0 where
  pub files : IsAfterFront writes c c'
  pub taken : TookPrefix text t t'
