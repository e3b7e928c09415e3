-- What the two passes over a file keep.
use Rattle.std.proofs.Common.{◌≡◌, ◌<◌, ◌≤◌, ◌+◌, ◌++◌, ◌-◌, ◌∷◌, [], ℕ, List, length, drop, sym, ◌∙◌, ap, arith, refl, subst, true, false, replicate, append_assoc, Bool, Some, inl, inr}
use Rattle.std.specs.List.{AllByRecursion}
use Rattle.std.proofs.lemmas.List.{drop-drop, length-append, length-drop, length-take, take-append-drop, flat_map_more, drop_at, append-nil}
use Rattle.std.proofs.lemmas.Bool.{cases_lt}
use Rattle.ncs_code.specs.declared.fault.CodeFault.{CodeFault}
use Rattle.ncs_code.specs.Plain.{PlainOp}
use Rattle.ncs_code.specs.Spelling.{spelling, op_size, four, IsOp, Spells, fault_of}
use Rattle.ncs_code.specs.Reading.{ops_of}
use Rattle.ncs_code.specs.File.{magic, spellings, file_bytes, file_length, op_at, leads_well, AllLeadWell}
use Rattle.ncs_code.specs.Laws.{SpellingLaws, SizeLaws, PlaceLaws}
use Rattle.ncs_file.specs.Loading.{HasHeader, LoadStopsAt, LeadsAstray}
use Rattle.ncs_file.specs.Marks.{mark, marks, listing, IsScanned}
use Rattle.ncs_file.proofs.Places.{drop_header}

each_more : (ops : List PlainOp) (op : PlainOp) → AllByRecursion IsOp ops → IsOp op → AllByRecursion IsOp (ops ++ op ∷ [])
each_more [] op each is_op = (is_op, tt)
each_more (x ∷ ops) op each is_op = (each.0, each_more ops op each.1 is_op)

empty : {A : Type 0} (xs : List A) → length xs ≤ 0 → xs ≡ []
empty [] h = refl
empty (x ∷ xs) h = absurd (omega arith)

none_left : (bytes : List ℕ) (at : ℕ) → length bytes ≤ at → drop at bytes ≡ []
none_left bytes at h = empty (drop at bytes) (omega (arith, length-drop at bytes))

header_long : (bytes : List ℕ) → HasHeader bytes → 13 ≤ length bytes
unfolding four
header_long bytes header = omega (arith, ap length header, length-take 13 bytes)

-- the instructions of a file are those that it spells
pub listing_is : SpellingLaws → SizeLaws → (bytes : List ℕ) (ops : List PlainOp) → AllByRecursion IsOp ops → bytes ≡ file_bytes ops → listing bytes ≡ ops
listing_is spells sizes bytes ops each spelled =
    let rest : drop 13 bytes ≡ spellings ops = ap (drop 13) spelled ∙ drop_header ops in
    ap (ops_of (length bytes)) rest ∙ spells.listed (length bytes) ops each (omega (arith, ap length spelled, sizes.file ops, sizes.ops ops))

-- ---- the first pass

-- instructions fill the bytes up to `at`
pub record SoFar (bytes : List ℕ) (table : List Bool) (at count : ℕ) : Type 0 where
  pub ops : List PlainOp
  pub each : AllByRecursion IsOp ops
  pub before : drop 13 bytes ≡ spellings ops ++ drop at bytes
  pub stands : at ≡ file_length ops
  pub marked : table ≡ marks ops
  pub number : count ≡ length ops
  pub few : count + 13 ≤ at
  pub inside : at ≤ length bytes

pub scan_begins : (bytes : List ℕ) (table : List Bool) → HasHeader bytes → table ≡ replicate 13 false → SoFar bytes table 13 0
scan_begins bytes table header is = record {
  ops = [];
  each = tt;
  before = refl;
  stands = refl;
  marked = is ∙ sym (append-nil (replicate 13 false));
  number = refl;
  few = omega arith;
  inside = header_long bytes header;
}

pub scan_goes_on : SizeLaws → (bytes : List ℕ) (table more : List Bool) (at count size : ℕ) (op : PlainOp) → SoFar bytes table at count → at < length bytes
    → Spells op size (drop at bytes) → more ≡ table ++ true ∷ replicate (size - 1) false → SoFar bytes more (at + size) (count + 1)
scan_goes_on sizes bytes table more at count size op so_far lt spells is =
    let ops = so_far.ops in
    let here : drop at bytes ≡ spelling op ++ drop (at + size) bytes = spells.prefix ∙ ap (λ (rest : List ℕ). spelling op ++ rest) (drop-drop size at bytes) in
    let spelled : spellings ops ++ spelling op ≡ spellings (ops ++ op ∷ []) = flat_map_more spelling [] ops op in
    let long : length (drop at bytes) ≡ length (spelling op) + length (drop (at + size) bytes) = ap length here ∙ length-append (spelling op) (drop (at + size) bytes) in
    record {
      ops = ops ++ op ∷ [];
      each = each_more ops op so_far.each spells.is_op;
      before = so_far.before ∙ ap (λ (rest : List ℕ). spellings ops ++ rest) here
          ∙ sym (append_assoc (spellings ops) (spelling op) (drop (at + size) bytes))
          ∙ ap (λ (text : List ℕ). text ++ drop (at + size) bytes) spelled;
      stands = omega (arith, so_far.stands, spells.size, sizes.add ops (op ∷ []));
      marked = is ∙ ap (λ n. table ++ true ∷ replicate (n - 1) false) spells.size ∙ ap (λ (t : List Bool). t ++ mark op) so_far.marked ∙ flat_map_more mark (replicate 13 false) ops op;
      number = omega (arith, so_far.number, length-append ops (op ∷ []));
      few = omega (arith, so_far.few, spells.size, sizes.some op);
      inside = omega (arith, long, spells.size, sizes.op op, length-drop at bytes, lt);
    }

pub scan_ends : SpellingLaws → SizeLaws → (bytes : List ℕ) (table : List Bool) (at count : ℕ) → SoFar bytes table at count → length bytes ≤ at → HasHeader bytes → IsScanned bytes table count
scan_ends spells sizes bytes table at count so_far end header =
    let ops = so_far.ops in
    let size : length bytes ≡ file_length ops = omega (arith, so_far.inside, so_far.stands, end) in
    let rest : drop 13 bytes ≡ spellings ops = so_far.before ∙ ap (λ (rest : List ℕ). spellings ops ++ rest) (none_left bytes at end) ∙ append-nil (spellings ops) in
    let whole : bytes ≡ (magic ++ four (file_length ops)) ++ spellings ops =
    sym (take-append-drop 13 bytes)
    ∙ ap (λ (header : List ℕ). header ++ drop 13 bytes) (header ∙ ap (λ n. magic ++ four n) size)
    ∙ ap (λ (text : List ℕ). (magic ++ four (file_length ops)) ++ text) rest in
    let spelled : bytes ≡ file_bytes ops = whole ∙ append_assoc magic (four (file_length ops)) (spellings ops) in
    let is : ops ≡ listing bytes = sym (listing_is spells sizes bytes ops so_far.each spelled) in
    record {
      each = subst (AllByRecursion IsOp) is so_far.each;
      spelled = spelled ∙ ap file_bytes is;
      table = so_far.marked ∙ ap marks is;
      number = so_far.number ∙ ap length is;
    }

pub scan_stops : (bytes : List ℕ) (table : List Bool) (at count : ℕ) (fault : CodeFault) → SoFar bytes table at count → at < length bytes → HasHeader bytes
    → fault_of (drop at bytes) ≡ Some fault → LoadStopsAt at fault bytes
scan_stops bytes table at count fault so_far lt header reason = record {
  ops = so_far.ops;
  each = so_far.each;
  header = header;
  before = so_far.before;
  stands = so_far.stands;
  inside = lt;
  reason = reason;
}

-- what the proof of the first pass uses
pub ruleset scan_lemmas = (scan_begins, scan_goes_on, scan_ends, scan_stops)

-- ---- the second pass

-- the instructions before `at` lead well
pub record Passed (bytes : List ℕ) (at : ℕ) : Type 0 where
  pub met : List PlainOp
  pub others : List PlainOp
  pub each : AllByRecursion IsOp others
  pub both : listing bytes ≡ met ++ others
  pub place : at ≡ file_length met
  pub rest : drop at bytes ≡ spellings others
  pub well : (n : ℕ) (op : PlainOp) → n < at → op_at (listing bytes) n ≡ Some op → leads_well (listing bytes) n op ≡ true

pub pass_begins : PlaceLaws → (bytes : List ℕ) (table : List Bool) (count : ℕ) → IsScanned bytes table count → Passed bytes 13
pass_begins places bytes table count scanned = record {
  met = [];
  others = listing bytes;
  each = scanned.each;
  both = refl;
  place = refl;
  rest = ap (drop 13) scanned.spelled ∙ drop_header (listing bytes);
  well = λ n op lt is. absurd (omega (arith, lt, (places.lies (listing bytes) n op is).0));
}

-- what stands at a place that is passed next
record Next (others : List PlainOp) : Type 0 where
  op : PlainOp
  behind : List PlainOp
  both : others ≡ op ∷ behind

next_op : (bytes : List ℕ) (at : ℕ) (others : List PlainOp) → drop at bytes ≡ spellings others → at < length bytes → Next others
next_op bytes at [] rest lt = absurd (omega (arith, ap length rest, length-drop at bytes, lt))
next_op bytes at (op ∷ behind) rest lt = record { op = op; behind = behind; both = refl }

-- an instruction is spelled at a place that is passed next
pub record Waits (bytes : List ℕ) (at : ℕ) : Type 0 where
  pub op : PlainOp
  pub is_op : IsOp op
  pub rest : List ℕ
  pub prefix : drop at bytes ≡ spelling op ++ rest

pub waits : (bytes : List ℕ) (at : ℕ) → Passed bytes at → at < length bytes → Waits bytes at
waits bytes at passed lt =
    let next = next_op bytes at passed.others passed.rest lt in
    let each : AllByRecursion IsOp (next.op ∷ next.behind) = subst (AllByRecursion IsOp) next.both passed.each in
    record { op = next.op; is_op = each.0; rest = spellings next.behind; prefix = passed.rest ∙ ap spellings next.both }

-- the answer of the decoder, where it is an instruction
abbrev pub Decodes : PlainOp → ℕ → ℕ → List ℕ → Type 0
Decodes op size at bytes = (o : PlainOp) (rest : List ℕ) → IsOp o → drop at bytes ≡ spelling o ++ rest → (op ≡ o) × (size ≡ op_size o)

-- the second pass with the next instruction in view
record Meets (bytes : List ℕ) (met : List PlainOp) (at size : ℕ) (op : PlainOp) : Type 0 where
  behind : List PlainOp
  each : AllByRecursion IsOp behind
  both : listing bytes ≡ met ++ op ∷ behind
  prefix : drop at bytes ≡ spelling op ++ spellings behind
  size_is : size ≡ op_size op

meet : (bytes : List ℕ) (met : List PlainOp) (at size : ℕ) (op o : PlainOp) (behind : List PlainOp)
    → AllByRecursion IsOp (o ∷ behind) → listing bytes ≡ met ++ o ∷ behind → drop at bytes ≡ spellings (o ∷ behind)
    → (op ≡ o) × (size ≡ op_size o) → Meets bytes met at size op
meet bytes met at size op o behind each both rest found =
    let M : PlainOp → Type 0 = λ x. Meets bytes met at size x in
    subst M (sym found.0) (record { behind = behind; each = each.1; both = both; prefix = rest; size_is = found.1 })

meets : (bytes : List ℕ) (at size : ℕ) (op : PlainOp) (passed : Passed bytes at) → at < length bytes → Decodes op size at bytes → Meets bytes passed.met at size op
meets bytes at size op passed lt decodes =
    let next = next_op bytes at passed.others passed.rest lt in
    let each : AllByRecursion IsOp (next.op ∷ next.behind) = subst (AllByRecursion IsOp) next.both passed.each in
    let rest : drop at bytes ≡ spellings (next.op ∷ next.behind) = passed.rest ∙ ap spellings next.both in
    let both : listing bytes ≡ passed.met ++ next.op ∷ next.behind = passed.both ∙ ap (λ (os : List PlainOp). passed.met ++ os) next.both in
    meet bytes passed.met at size op next.op next.behind each both rest (decodes next.op (spellings next.behind) each.0 rest)

-- it begins at the place in view
begins_here : PlaceLaws → (bytes : List ℕ) (at size : ℕ) (op : PlainOp) (passed : Passed bytes at) → Meets bytes passed.met at size op → op_at (listing bytes) at ≡ Some op
begins_here places bytes at size op passed m = ap (λ os. op_at os at) m.both ∙ ap (op_at (passed.met ++ op ∷ m.behind)) passed.place ∙ places.begins passed.met m.behind op

same_op : (x y : PlainOp) → Some x ≡ Some y → x ≡ y
same_op x y same = cc

-- where one leads well, all up to its end do
well_on : PlaceLaws → (ops : List PlainOp) (at : ℕ) (op : PlainOp) → op_at ops at ≡ Some op
    → leads_well ops at op ≡ true → ((n : ℕ) (o : PlainOp) → n < at → op_at ops n ≡ Some o → leads_well ops n o ≡ true)
    → (n : ℕ) (o : PlainOp) → n < at + op_size op → op_at ops n ≡ Some o → leads_well ops n o ≡ true
well_on places ops at op is well before n o lt there =
    elim (cases_lt n at) [
      | inl less ↦ before n o less there
      | inr more ↦ elim (cases_lt at n) [
        | inl less ↦ absurd (omega (arith, lt, places.apart ops at n op o is there less))
        | inr le ↦
            let place : n ≡ at = omega (arith, more, le) in
            let same : o ≡ op = same_op o op (sym there ∙ ap (op_at ops) place ∙ is) in
            ap (λ p. leads_well ops p o) place ∙ ap (leads_well ops at) same ∙ well
      ]
    ]

pub pass_goes_on : SizeLaws → PlaceLaws → (bytes : List ℕ) (at size : ℕ) (op : PlainOp) → Passed bytes at → at < length bytes → Decodes op size at bytes
    → leads_well (listing bytes) at op ≡ true → Passed bytes (at + size)
pass_goes_on sizes places bytes at size op passed lt decodes well =
    let m = meets bytes at size op passed lt decodes in
    let here = begins_here places bytes at size op passed m in
    let long : length (spelling op) ≡ size = sym (m.size_is ∙ sizes.op op) in
    record {
      met = passed.met ++ op ∷ [];
      others = m.behind;
      each = m.each;
      both = m.both ∙ sym (append_assoc passed.met (op ∷ []) m.behind);
      place = omega (arith, passed.place, m.size_is, sizes.add passed.met (op ∷ []));
      rest = sym (drop-drop size at bytes) ∙ ap (drop size) m.prefix ∙ drop_at (spelling op) (spellings m.behind) size long;
      well = λ n o less there. well_on places (listing bytes) at op here well passed.well n o (omega (arith, less, m.size_is)) there;
    }

pub pass_stops : PlaceLaws → (bytes : List ℕ) (table : List Bool) (count at size : ℕ) (op : PlainOp) → IsScanned bytes table count → Passed bytes at → at < length bytes → Decodes op size at bytes
    → leads_well (listing bytes) at op ≡ false → LeadsAstray at bytes
pass_stops places bytes table count at size op scanned passed lt decodes ill =
    let m = meets bytes at size op passed lt decodes in
    let found = places.listed (listing bytes) at op (begins_here places bytes at size op passed m) in
    record {
      ops = listing bytes;
      each = scanned.each;
      spelled = scanned.spelled;
      index = found.0;
      first = record { op = op; stands = found.1; bad = ill; before = passed.well };
    }

pub pass_ends : SizeLaws → PlaceLaws → (bytes : List ℕ) (table : List Bool) (count at : ℕ) → IsScanned bytes table count → Passed bytes at → length bytes ≤ at → AllLeadWell (listing bytes)
pass_ends sizes places bytes table count at scanned passed end n op is =
    passed.well n op (omega (arith, (places.lies (listing bytes) n op is).1, sizes.some op, ap length scanned.spelled, sizes.file (listing bytes), end)) is
