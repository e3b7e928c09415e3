-- What stands at a place of a list of bytes, and how a number of four bytes is read again.
use Rattle.std.proofs.Common.{◌≡◌, ◌<◌, ◌+◌, ◌%◌, ℕ, List, [], ◌++◌, length, take, drop, sym, ap, subst, ◌∙◌, append_assoc, arith}
use Rattle.std.proofs.lemmas.List.{append-nil, drop-drop, length-append}
use Rattle.std.proofs.Math.Seq.{drop-append_seam, take-append_seam}
use Rattle.byteorder.specs.Numbers.{little_number-reads_back, length-bytes_low_first}
use Rattle.byteorder.specs.Endian.{little_number}
use Rattle.gff_bytes.specs.File.{word_at}
use Rattle.gff_read.specs.Rows.{number_in}
use Rattle.gff_write.specs.Flat.{word, wide}

-- these bytes begin at a place
pub record At (bytes : List ℕ) (place : ℕ) (xs : List ℕ) : Type 0 where
  pub rest : List ℕ
  pub is : drop place bytes ≡ xs ++ rest

pub whole_at : (bytes : List ℕ) → At bytes 0 bytes
whole_at bytes = record { rest = []; is = sym (append-nil bytes) }

pub front_at : {bytes : List ℕ} {place : ℕ} (xs ys : List ℕ) → At bytes place (xs ++ ys) → At bytes place xs
front_at xs ys s = record { rest = ys ++ s.rest; is = s.is ∙ append_assoc xs ys s.rest }

pub moved : {bytes : List ℕ} {place : ℕ} {xs : List ℕ} (now : ℕ) → place ≡ now → At bytes place xs → At bytes now xs
moved {bytes = bytes} {xs = xs} now same s = subst (λ (p : ℕ). At bytes p xs) same s

pub behind_at : {bytes : List ℕ} {place : ℕ} (xs ys : List ℕ) → At bytes place (xs ++ ys) → At bytes (place + length xs) ys
behind_at {bytes = bytes} {place = place} xs ys s = record {
  rest = s.rest;
  is = sym (drop-drop (length xs) place bytes) ∙ (ap (drop (length xs)) (s.is ∙ append_assoc xs ys s.rest) ∙ drop-append_seam xs (ys ++ s.rest));
}

-- what stands behind the first bytes, at a place told otherwise
pub next_at : {bytes : List ℕ} {place : ℕ} (now : ℕ) (xs ys : List ℕ) → place + length xs ≡ now → At bytes place (xs ++ ys) → At bytes now ys
next_at now xs ys same s = moved now same (behind_at xs ys s)

pub taken_at : {bytes : List ℕ} {place : ℕ} (count : ℕ) (xs : List ℕ) → length xs ≡ count → At bytes place xs → take count (drop place bytes) ≡ xs
taken_at {bytes = bytes} {place = place} count xs long s =
    ap (λ (n : ℕ). take n (drop place bytes)) (sym long) ∙ (ap (take (length xs)) s.is ∙ take-append_seam xs s.rest)

pub word_length : (n : ℕ) → length (word n) ≡ 4
unfolding word
word_length n = length-bytes_low_first 0 4 (n % 4294967296)

pub wide_length : (n : ℕ) → length (wide n) ≡ 8
unfolding wide
wide_length n = length-bytes_low_first 0 8 n

pub word_reads : (n : ℕ) (rest : List ℕ) → number_in 4 (word n ++ rest) ≡ n % 4294967296
unfolding word number_in
word_reads n rest =
    let low : n % 4294967296 < 4294967296 = omega arith in
    little_number-reads_back 4 (n % 4294967296) rest low

pub wide_reads : (n : ℕ) → n < 18446744073709551616 → number_in 8 (wide n) ≡ n
unfolding wide number_in
wide_reads n low = ap (little_number 8) (sym (append-nil (wide n))) ∙ little_number-reads_back 8 n [] low

pub word_stands : {bytes : List ℕ} {place : ℕ} (n : ℕ) → At bytes place (word n) → word_at bytes place ≡ n % 4294967296
unfolding word_at number_in
word_stands n s = ap (number_in 4) s.is ∙ word_reads n s.rest

pub low_is : (n : ℕ) → n < 4294967296 → n % 4294967296 ≡ n
low_is n low = omega arith

-- three numbers in a row
pub words_stand : {bytes : List ℕ} {place : ℕ} (a b c : ℕ) → At bytes place (word a ++ word b ++ word c) →
    (word_at bytes place ≡ a % 4294967296) × (word_at bytes (place + 4) ≡ b % 4294967296) × (word_at bytes (place + 8) ≡ c % 4294967296)
words_stand {place = place} a b c s =
    let two = front_at (word a ++ word b) (word c) s in (
      word_stands a (front_at (word a) (word b) two),
      word_stands b (next_at (place + 4) (word a) (word b) (omega (arith, word_length a)) two),
      word_stands c (next_at (place + 8) (word a ++ word b) (word c) (omega (arith, length-append (word a) (word b), word_length a, word_length b)) s),
    )
