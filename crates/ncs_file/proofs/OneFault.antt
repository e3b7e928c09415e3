-- That bytes fail for one reason at most.
use Rattle.std.proofs.Common.{◌≡◌, ◌≢◌, ◌++◌, ◌∷◌, [], ℕ, List, length, take, drop, sym, ◌∙◌, ap, arith, refl, subst, append_assoc, Some, None}
use Rattle.std.specs.List.{AllByRecursion}
use Rattle.std.proofs.lemmas.List.{drop_at, take-take}
use Rattle.ncs_code.specs.declared.fault.CodeFault.{CodeFault}
use Rattle.ncs_code.specs.Plain.{PlainOp}
use Rattle.ncs_code.specs.Spelling.{spelling, IsOp, fault_of}
use Rattle.ncs_code.specs.File.{magic, spellings, file_bytes, file_length, IsFirstBad, IsCode}
use Rattle.ncs_code.specs.Laws.{SpellingLaws, SizeLaws, PlaceLaws, OneFirstBad}
use Rattle.ncs_file.specs.declared.fault.LoadFault.{LoadFault}
use Rattle.ncs_file.specs.declared.fault.LoadFault.TheVariants.{Magic, Length, At, Target, NoMemory}
use Rattle.ncs_file.specs.Loading.{LoadFails, HasHeader, LoadStopsAt, LeadsAstray}
use Rattle.ncs_file.proofs.Lists.{magic_front}
use Rattle.ncs_file.proofs.Loaded.{has_header, stops_nowhere, refused}
use Rattle.ncs_file.proofs.Scanning.{listing_is}

some_fault : (x y : CodeFault) → Some x ≡ Some y → x ≡ y
some_fault x y same = cc

-- what has its header begins as a file must
begins_well : (bytes : List ℕ) → HasHeader bytes → take 9 bytes ≡ magic
begins_well bytes header = sym (take-take 9 13 bytes (omega arith)) ∙ ap (take 9) header ∙ magic_front (length bytes)

module _ (spells : SpellingLaws) (sizes : SizeLaws) (one_bad : OneFirstBad) where
  -- where an instruction stands there is no such fault
  spelled_well : (op : PlainOp) (rest behind : List ℕ) (why : CodeFault) → IsOp op → rest ≡ spelling op ++ behind → fault_of rest ≡ Some why → ⊥
  spelled_well op rest behind why is_op is fault =
      let none_some : None ≡ Some why = sym (spells.sound op behind is_op) ∙ ap fault_of (sym is) ∙ fault in
      absurd cc

  -- the instructions up to a place where none is spelled are the same
  same_until : (xs ys : List PlainOp) (rest left : List ℕ) (why because : CodeFault) → AllByRecursion IsOp xs → AllByRecursion IsOp ys
      → spellings xs ++ rest ≡ spellings ys ++ left → fault_of rest ≡ Some why → fault_of left ≡ Some because → xs ≡ ys
  same_until [] [] rest left why because f g same at there = refl
  same_until [] (y ∷ ys) rest left why because f g same at there =
      absurd (spelled_well y rest (spellings ys ++ left) why g.0 (same ∙ append_assoc (spelling y) (spellings ys) left) at)
  same_until (x ∷ xs) [] rest left why because f g same at there =
      absurd (spelled_well x left (spellings xs ++ rest) because f.0 (sym same ∙ append_assoc (spelling x) (spellings xs) rest) there)
  same_until (x ∷ xs) (y ∷ ys) rest left why because f g same at there =
      let whole : spelling x ++ (spellings xs ++ rest) ≡ spelling y ++ (spellings ys ++ left) =
      sym (append_assoc (spelling x) (spellings xs) rest) ∙ same ∙ append_assoc (spelling y) (spellings ys) left in
      let is : x ≡ y = spells.none x y (spellings xs ++ rest) (spellings ys ++ left) f.0 g.0 whole in
      let n : ℕ = length (spelling x) in
      let others : spellings xs ++ rest ≡ spellings ys ++ left =
      sym (drop_at (spelling x) (spellings xs ++ rest) n refl) ∙ ap (drop n) whole ∙ drop_at (spelling y) (spellings ys ++ left) n (ap (λ o. length (spelling o)) (sym is)) in
      let behind : xs ≡ ys = same_until xs ys rest left why because f.1 g.1 others at there in
      cc

  one_stop : (p q : ℕ) (why because : CodeFault) (bytes : List ℕ) → LoadStopsAt p why bytes → LoadStopsAt q because bytes → At p why ≡ At q because
  one_stop p q why because bytes f g =
      let ops : f.ops ≡ g.ops = same_until f.ops g.ops (drop p bytes) (drop q bytes) why because f.each g.each (sym f.before ∙ g.before) f.reason g.reason in
      let place : p ≡ q = f.stands ∙ ap file_length ops ∙ sym g.stands in
      let reason : why ≡ because = some_fault why because (sym f.reason ∙ ap (λ n. fault_of (drop n bytes)) place ∙ g.reason) in
      cc

  one_target : (p q : ℕ) (bytes : List ℕ) → LeadsAstray p bytes → LeadsAstray q bytes → Target p ≡ Target q
  one_target p q bytes f g =
      let ops : g.ops ≡ f.ops = sym (listing_is spells sizes bytes g.ops g.each g.spelled) ∙ listing_is spells sizes bytes f.ops f.each f.spelled in
      let other : IsFirstBad f.ops g.index q = subst (λ os. IsFirstBad os g.index q) ops g.first in
      ap Target (one_bad f.ops f.index g.index p q f.first other).1

  pub one_fault : (bytes : List ℕ) (one other : LoadFault) → LoadFails one bytes → LoadFails other bytes → one ≢ NoMemory → other ≢ NoMemory → one ≡ other
  one_fault bytes NoMemory other f g some more = absurd (some refl)
  one_fault bytes one NoMemory f g some more = absurd (more refl)
  one_fault bytes Magic Magic f g some more = refl
  one_fault bytes Magic Length f g some more = absurd (f g.0)
  one_fault bytes Magic (At q because) f g some more = absurd (f (begins_well bytes g.header))
  one_fault bytes Magic (Target q) f g some more = absurd (f (begins_well bytes (has_header sizes bytes g.ops g.spelled)))
  one_fault bytes Length Magic f g some more = absurd (g f.0)
  one_fault bytes Length Length f g some more = refl
  one_fault bytes Length (At q because) f g some more = absurd (f.1 g.header)
  one_fault bytes Length (Target q) f g some more = absurd (f.1 (has_header sizes bytes g.ops g.spelled))
  one_fault bytes (At p why) Magic f g some more = absurd (g (begins_well bytes f.header))
  one_fault bytes (At p why) Length f g some more = absurd (g.1 f.header)
  one_fault bytes (At p why) (At q because) f g some more = one_stop p q why because bytes f g
  one_fault bytes (At p why) (Target q) f g some more = absurd (stops_nowhere spells sizes p why bytes g.ops f g.each g.spelled)
  one_fault bytes (Target p) Magic f g some more = absurd (g (begins_well bytes (has_header sizes bytes f.ops f.spelled)))
  one_fault bytes (Target p) Length f g some more = absurd (g.1 (has_header sizes bytes f.ops f.spelled))
  one_fault bytes (Target p) (At q because) f g some more = absurd (stops_nowhere spells sizes q because bytes f.ops g f.each f.spelled)
  one_fault bytes (Target p) (Target q) f g some more = one_target p q bytes f g

pub no_fault_in_code : SpellingLaws → SizeLaws → PlaceLaws → (ops : List PlainOp) (fault : LoadFault) → IsCode ops → LoadFails fault (file_bytes ops) → fault ≡ NoMemory
no_fault_in_code spells sizes places ops fault code fails = refused spells sizes places fault (file_bytes ops) fails ops code refl
