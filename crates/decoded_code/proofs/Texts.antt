-- A string's bytes, where some are left out.
use Rattle.std.proofs.Common.{◌≡◌, ◌<◌, ◌≤◌, ◌+◌, ◌-◌, ◌++◌, ℕ, List, length, take, replicate, Bool, true, false, inl, inr, ap, ◌∙◌, arith}
use Rattle.std.specs.Prelude.{nat_lt, if◌then◌else◌}
use Rattle.std.proofs.lemmas.Bool.{cases_lt}
use Rattle.std.proofs.lemmas.Bool.Decides.{nat_tests}
use Rattle.std.proofs.lemmas.List.{length-append, length-replicate, length-take-le, take_all}
use Rattle.nwq_value.specs.Limits.{text_limit}
use Rattle.ncs_code.specs.Plain.{Const, Text}
use Rattle.ncs_code.specs.Spelling.{op_size}
use Rattle.decoded_code.specs.Steps.{kept, whole}

abbrev cut : List ℕ → ℕ → ℕ
cut text left_out = if nat_lt (length text) text_limit then 0 else left_out

cut_short : (text : List ℕ) (left_out : ℕ) → length text < text_limit → cut text left_out ≡ 0
cut_short text left_out less =
    let test : nat_lt (length text) text_limit ≡ true = grind (arith, nat_tests) in
    ap (λ (t : Bool). if t then 0 else left_out) test

cut_full : (text : List ℕ) (left_out : ℕ) → text_limit ≤ length text → cut text left_out ≡ left_out
cut_full text left_out full =
    let test : nat_lt (length text) text_limit ≡ false = grind (arith, nat_tests) in
    ap (λ (t : Bool). if t then 0 else left_out) test

cut_is : (bytes : List ℕ) → cut (take text_limit bytes) (length bytes - text_limit) ≡ length bytes - text_limit
cut_is bytes = elim (cases_lt (length bytes) text_limit) [
  | inl short ↦
      let all : take text_limit bytes ≡ bytes = take_all text_limit bytes (omega (arith, short)) in
      let less : length (take text_limit bytes) < text_limit = omega (arith, short, ap length all) in
      cut_short (take text_limit bytes) (length bytes - text_limit) less ∙ omega (arith, short)
  | inr long ↦
      let full : length (take text_limit bytes) ≡ text_limit = length-take-le text_limit bytes long in
      cut_full (take text_limit bytes) (length bytes - text_limit) (omega (arith, full))
]

pub text_kept : (bytes text : List ℕ) (size left_out : ℕ) → text ≡ take text_limit bytes → size ≡ 4 + length bytes
    → left_out ≡ size - 4 - 8192 → Const (Text (whole text left_out)) ≡ kept (Const (Text bytes))
text_kept bytes text size left_out is counted left =
    let all : left_out ≡ length bytes - text_limit = omega (arith, counted, left) in
    ap (λ (t : List ℕ). Const (Text (whole t left_out))) is
    ∙ ap (λ (n : ℕ). Const (Text (whole (take text_limit bytes) n))) all
    ∙ ap (λ (n : ℕ). Const (Text (take text_limit bytes ++ replicate n 0))) (cut_is bytes)

whole_length : (text : List ℕ) (left_out : ℕ) → length (whole text left_out) ≡ length text + cut text left_out
whole_length text left_out =
    length-append text (replicate (cut text left_out) 0) ∙ ap (λ (n : ℕ). length text + n) (length-replicate (cut text left_out) 0)

pub size_short : (text : List ℕ) (left_out : ℕ) → length text < text_limit → op_size (Const (Text (whole text left_out))) ≡ 4 + length text
size_short text left_out less =
    let count = whole_length text left_out in
    let none = cut_short text left_out less in
    omega (arith, count, none)

pub size_full : (text : List ℕ) (left_out : ℕ) → text_limit ≤ length text → op_size (Const (Text (whole text left_out))) ≡ 4 + length text + left_out
size_full text left_out full =
    let count = whole_length text left_out in
    let all = cut_full text left_out full in
    omega (arith, count, all)

pub ruleset text_lemmas = (text_kept)

pub ruleset size_lemmas = (size_short, size_full)
