-- Bytes are those of one state, or stop being those of a state at one place.
use Rattle.std.proofs.Common.{◌≡◌, ◌<◌, ◌≤◌, inl, inr, ℕ, zero, suc, ◌+◌, ◌-◌, slice_index, List, [], ◌∷◌, ◌++◌, length, Result, Ok, Err, sym, ap, subst, ◌∙◌, arith}
use Rattle.std.proofs.lemmas.List.{append-nil, length-append}
use Rattle.state_format.specs.declared.parts.Parts.{Parts}
use Rattle.state_format.specs.Parts.{AreStateBytes}
use Rattle.state_format.specs.Fields.{joined, parts_fields, parts_bytes}
use Rattle.state_format.specs.Place.{StateOf, BeginsWith, StateStopsAt}
use Rattle.state_format.specs.Reading.{◌>>=◌, parts_at, whole, state_at}
use Rattle.state_format.proofs.Readers.{answered, done, ok_is, err_is, left_of, within}
use Rattle.state_format.proofs.PartReaders.{parts-reader}

-- what is read of the parts and the bytes behind them, where all is read
whole_ok : (x : Parts × List ℕ) (s : Parts) → whole x ≡ Ok s → x ≡ (s, [])
whole_ok (t, []) s e = let same : t ≡ s = ok_is t s e in ap (λ (u : Parts). (u, [])) same
whole_ok (t, b ∷ rest) s e = absurd cc

whole_err : (x : Parts × List ℕ) (left : ℕ) → whole x ≡ Err left → length x.1 ≡ left
whole_err (t, []) left e = absurd cc
whole_err (t, b ∷ rest) left e = err_is Parts _ _ e

pub state_read : (bytes : List ℕ) (s : Parts) → StateOf bytes s → state_at bytes ≡ Ok s
unfolding state_at parts_bytes
state_read bytes s of =
    let same : bytes ≡ joined (parts_fields s) ++ [] = of.is ∙ sym (append-nil (joined (parts_fields s))) in
    let read : parts_at bytes ≡ Ok (s, []) = ap parts_at same ∙ parts-reader.again s [] of.form in
    ap (λ (r : Result (Parts × List ℕ) ℕ). r >>= whole) read

pub state_sound : (bytes : List ℕ) (s : Parts) → AreStateBytes bytes → state_at bytes ≡ Ok s → StateOf bytes s
unfolding state_at parts_bytes
state_sound bytes s h e = elim (answered (parts_at bytes)) [
  | inl y ↦
      let there : whole y.0 ≡ Ok s = sym (ap (λ (r : Result (Parts × List ℕ) ℕ). r >>= whole) y.1) ∙ e in
      let read : parts_at bytes ≡ Ok (s, []) = y.1 ∙ ap (λ (x : Parts × List ℕ). done x) (whole_ok y.0 s there) in
      let sound = parts-reader.sound bytes (s, []) h read in
      record { form = sound.0; is = sound.1 ∙ append-nil (joined (parts_fields s)) }
  | inr y ↦ let no : Err y.0 ≡ done s = sym (ap (λ (r : Result (Parts × List ℕ) ℕ). r >>= whole) y.1) ∙ e in absurd cc
]

pub one_state : (bytes : List ℕ) (s t : Parts) → StateOf bytes s → StateOf bytes t → s ≡ t
one_state bytes s t one other = ok_is s t (sym (state_read bytes s one) ∙ state_read bytes t other)

-- the place before so many bytes is the farthest one
farthest_is : (bytes : List ℕ) (left : ℕ) → AreStateBytes bytes → left_of (parts_at bytes) ≡ left → (further : ℕ) → BeginsWith bytes further → further ≤ length bytes - left
farthest_is bytes left h e further b =
    let begins : AreStateBytes (joined b.front ++ b.rest) = subst AreStateBytes b.begins h in
    let less = parts-reader.front b.state b.front b.back b.rest b.form b.fields begins in
    let same : left_of (parts_at (joined b.front ++ b.rest)) ≡ left = ap (λ (l : List ℕ). left_of (parts_at l)) (sym b.begins) ∙ e in
    let size : length bytes ≡ length (joined b.front) + length b.rest = ap length b.begins ∙ length-append _ _ in
    let ends = b.ends in
    omega (arith, less, same, size, ends)

ends_at : (bytes : List ℕ) (front rest : List ℕ) (left : ℕ) → bytes ≡ front ++ rest → length rest ≡ left → length front ≡ length bytes - left
ends_at bytes front rest left e l =
    let size : length bytes ≡ length front + length rest = ap length e ∙ length-append _ _ in
    omega (arith, size, l)

pub state_stops : (bytes : List ℕ) (left : ℕ) → AreStateBytes bytes → state_at bytes ≡ Err left → StateStopsAt bytes (length bytes - left)
unfolding state_at
state_stops bytes left h e = elim (answered (parts_at bytes)) [
  | inl y ↦
      let there : whole y.0 ≡ Err left = sym (ap (λ (r : Result (Parts × List ℕ) ℕ). r >>= whole) y.1) ∙ e in
      let sound = parts-reader.sound bytes y.0 h y.1 in
      let behind : length y.0.1 ≡ left = whole_err y.0 left there in
      record {
        none = none;
        begins = record {
          state = y.0.0;
          form = sound.0;
          front = parts_fields y.0.0;
          back = [];
          rest = y.0.1;
          fields = sym (append-nil (parts_fields y.0.0));
          begins = sound.1;
          ends = ends_at bytes _ y.0.1 left sound.1 behind;
        };
        farthest = farthest_is bytes left h (ap left_of y.1 ∙ behind);
      }
  | inr y ↦
      let there : Err y.0 ≡ Err left = sym (ap (λ (r : Result (Parts × List ℕ) ℕ). r >>= whole) y.1) ∙ e in
      let same : y.0 ≡ left = err_is Parts _ _ there in
      let s = parts-reader.reach bytes left h (y.1 ∙ ap Err same) in
      record {
        none = none;
        begins = record { state = s.value; form = s.has; front = s.front; back = s.back; rest = s.rest; fields = s.fields; begins = s.begins; ends = ends_at bytes _ s.rest left s.begins s.ends };
        farthest = farthest_is bytes left h (ap left_of y.1 ∙ same);
      }
]
  where
    none : (s : Parts) → StateOf bytes s → ⊥
    none s of = let no : done s ≡ Err left = sym (state_read bytes s of) ∙ e in cc

-- what is left is no more than what there was
pub state_left : (bytes : List ℕ) (left : ℕ) → AreStateBytes bytes → state_at bytes ≡ Err left → left ≤ length bytes
unfolding state_at
state_left bytes left h e = elim (answered (parts_at bytes)) [
  | inl y ↦
      let there : whole y.0 ≡ Err left = sym (ap (λ (r : Result (Parts × List ℕ) ℕ). r >>= whole) y.1) ∙ e in
      let less = within parts-reader bytes h in
      let same : left_of (parts_at bytes) ≡ length y.0.1 = ap left_of y.1 in
      let behind = whole_err y.0 left there in
      omega (arith, less, same, behind)
  | inr y ↦
      let there : Err y.0 ≡ Err left = sym (ap (λ (r : Result (Parts × List ℕ) ℕ). r >>= whole) y.1) ∙ e in
      let less = within parts-reader bytes h in
      let same : left_of (parts_at bytes) ≡ y.0 = ap left_of y.1 in
      let behind = err_is Parts _ _ there in
      omega (arith, less, same, behind)
]

pub are_bytes : (bytes : List ℕ) → ((k : ℕ) → slice_index bytes k < 256) → AreStateBytes bytes
are_bytes [] h = tt
are_bytes (b ∷ bytes) h = (h zero, are_bytes bytes (λ k. h (suc k)))
