-- Going over marks, part by part.
use Rattle.std.proofs.Common.{◌≡◌, ◌∙◌, ap, sym, refl, ℕ, zero, suc, ltb, lt-ltb, arith, ◌+◌, ◌<◌, ◌||◌, Bool, true, false, List, [], ◌∷◌, ◌++◌}
use Rattle.code_places.specs.declared.seek.Seek.{Seek}
use Rattle.code_places.specs.declared.seek.Seek.TheVariants.{Found}
use Rattle.code_places.specs.Numbers.{Number}
use Rattle.code_places.specs.Marks.{Mark, some}
use Rattle.code_places.specs.Seeking.{passed, sought}

pub sought_none : (s : Seek) → sought [] s ≡ s
unfolding sought
sought_none s = refl

pub sought_more : (m : Mark) (ms : List Mark) (s : Seek) → sought (m ∷ ms) s ≡ sought ms (passed m s)
unfolding sought
sought_more m ms s = refl

pub sought_append : (a b : List Mark) (s : Seek) → sought (a ++ b) s ≡ sought b (sought a s)
unfolding sought
sought_append [] b s = refl
sought_append (m ∷ a) b s = sought_append a b (passed m s)

pub still_found : (ms : List Mark) (n : Number) → sought ms (Found n) ≡ Found n
unfolding sought
still_found [] n = refl
still_found (m ∷ ms) n = still_found ms n

pub ruleset seek_laws = (sought_none, sought_more, sought_append)

-- one after another
pub parts : (s : Seek) {t u : Seek} (a b : List Mark) → t ≡ sought a s → u ≡ sought b t → u ≡ sought (a ++ b) s
parts s a b e f = f ∙ (ap (sought b) e ∙ sym (sought_append a b s))

pub one_more : (s : Seek) {t u : Seek} (m : Mark) (b : List Mark) → t ≡ passed m s → u ≡ sought b t → u ≡ sought (m ∷ b) s
one_more s m b e f = f ∙ (ap (sought b) e ∙ sym (sought_more m b s))

pub nothing : (s : Seek) → s ≡ sought [] s
nothing s = sym (sought_none s)

pub last : (s : Seek) {t : Seek} (m : Mark) → t ≡ passed m s → t ≡ sought (m ∷ []) s
last s {t = t} m e = one_more s m [] e (nothing t)

pub more_than_none : (n : ℕ) → ltb 0 n ≡ some n
more_than_none zero = refl
more_than_none (suc n) = rw (more n) refl
  where
    more : (n : ℕ) → ltb 0 (suc n) ≡ true
    more n = lt-ltb 0 (suc n) (omega arith)

-- ---- cells of several together

some_both : (a b : ℕ) → some (a + b) ≡ some a || some b
some_both zero b = ap some (omega arith)
some_both (suc a) b = on (suc a + b) (omega arith)
  where
    on : (n : ℕ) → 0 < n → some n ≡ true
    on zero h = absurd (omega (arith, h))
    on (suc n) h = refl

pub one_of : (any one now : Bool) (a b : ℕ) → one ≡ some a → now ≡ any || one → any || some (a + b) ≡ now || some b
one_of any one now a b e f =
    ap (λ z. any || z) (some_both a b ∙ ap (λ z. z || some b) (sym e)) ∙ (assoc any one (some b) ∙ ap (λ z. z || some b) (sym f))
  where
    assoc : (x y z : Bool) → x || (y || z) ≡ (x || y) || z
    assoc true y z = refl
    assoc false y z = refl

pub or_none : (b : Bool) → b || some 0 ≡ b
or_none true = refl
or_none false = refl
