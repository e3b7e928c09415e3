-- What a loaded file is, and that nothing else could have been loaded.
use Rattle.std.proofs.Common.{◌≡◌, ◌<◌, ◌≤◌, ◌++◌, ◌∷◌, [], ℕ, List, length, take, drop, get_or, sym, ◌∙◌, ap, arith, refl, subst, true, false, append_assoc, Bool, Option, Some, None, inl, inr}
use Rattle.std.specs.Prelude.{is_some}
use Rattle.std.specs.List.{AllByRecursion}
use Rattle.std.proofs.lemmas.List.{length-append, length-drop, drop_at, get_or_past}
use Rattle.std.proofs.lemmas.Bool.{cases_lt}
use Rattle.ncs_code.specs.declared.fault.CodeFault.{CodeFault}
use Rattle.ncs_code.specs.Plain.{PlainOp}
use Rattle.ncs_code.specs.Spelling.{spelling, four, IsOp, fault_of}
use Rattle.ncs_code.specs.File.{magic, spellings, file_bytes, file_length, op_at, leads_well, AllLeadWell, IsCode}
use Rattle.ncs_code.specs.Laws.{SpellingLaws, SizeLaws, PlaceLaws}
use Rattle.nwq_value.specs.Limits.{file_limit}
use Rattle.ncs_file.specs.declared.fault.LoadFault.{LoadFault}
use Rattle.ncs_file.specs.declared.fault.LoadFault.TheVariants.{Magic, Length, At, Target, NoMemory}
use Rattle.ncs_file.specs.Loading.{LoadFails, HasHeader, LeadsAstray, LoadStopsAt}
use Rattle.ncs_file.specs.Marks.{listing, IsLoaded, IsScanned}
use Rattle.ncs_file.proofs.Places.{drop_header, length_marks, marked, found_at}
use Rattle.ncs_file.proofs.Scanning.{listing_is}

pub loaded_code : SizeLaws → (bytes : List ℕ) (starts : List Bool) (count : ℕ) → IsLoaded bytes starts count → IsCode (listing bytes)
loaded_code sizes bytes starts count loaded = record {
  each = loaded.scanned.each;
  leads = loaded.leads;
  bounded = omega (arith, loaded.bounded, ap length loaded.scanned.spelled, sizes.file (listing bytes));
}

-- the parts agree, where both passes went well
pub is_loaded : (items first second : List ℕ) (table : List Bool) (count : ℕ) → first ≡ items → second ≡ items → IsScanned first table count → AllLeadWell (listing second)
    → length items ≤ file_limit → IsLoaded items table count
is_loaded items first second table count same again scanned leads bounded = record {
  scanned = subst (λ (b : List ℕ). IsScanned b table count) same scanned;
  leads = subst (λ (b : List ℕ). AllLeadWell (listing b)) again leads;
  bounded = bounded;
}

pub is_file : SizeLaws → (items first second : List ℕ) (table : List Bool) (count : ℕ) → first ≡ items → second ≡ items → IsScanned first table count → AllLeadWell (listing second)
    → length items ≤ file_limit → IsCode (listing items) × (items ≡ file_bytes (listing items))
is_file sizes items first second table count same again scanned leads bounded =
    let loaded = is_loaded items first second table count same again scanned leads bounded in
    (loaded_code sizes items table count loaded, loaded.scanned.spelled)

-- ---- looking up

-- an instruction of the file stands there
pub record Stands (view : List PlainOp) (bytes : List ℕ) (at : ℕ) : Type 0 where
  pub op : PlainOp
  pub is : op_at view at ≡ Some op
  pub is_op : IsOp op
  pub rest : List ℕ
  pub prefix : drop at bytes ≡ spelling op ++ rest
  pub inside : at < length bytes

is_none : (o : Option PlainOp) → is_some o ≡ false → o ≡ None
is_none None h = refl
is_none (Some x) h = absurd cc

record Known (o : Option PlainOp) : Type 0 where
  op : PlainOp
  is : o ≡ Some op

known : (o : Option PlainOp) → is_some o ≡ true → Known o
known None h = absurd cc
known (Some x) h = record { op = x; is = refl }

table_is : SizeLaws → (bytes : List ℕ) (starts : List Bool) (count at : ℕ) → IsLoaded bytes starts count → get_or starts at false ≡ is_some (op_at (listing bytes) at)
table_is sizes bytes starts count at loaded = ap (λ (t : List Bool). get_or t at false) loaded.scanned.table ∙ marked sizes (listing bytes) at

pub none_there : SizeLaws → (view : List PlainOp) (bytes : List ℕ) (starts table : List Bool) (count at : ℕ) (test : Bool) → IsLoaded bytes starts count → listing bytes ≡ view
    → table ≡ starts → test ≡ get_or table at false → test ≡ false → op_at view at ≡ None
none_there sizes view bytes starts table count at test loaded view_is same is absent =
    let entry : get_or starts at false ≡ false = ap (λ (t : List Bool). get_or t at false) (sym same) ∙ sym is ∙ absent in
    ap (λ (v : List PlainOp). op_at v at) (sym view_is) ∙ is_none _ (sym (table_is sizes bytes starts count at loaded) ∙ entry)

inside_there : SizeLaws → (bytes : List ℕ) (starts : List Bool) (count at : ℕ) → IsLoaded bytes starts count → get_or starts at false ≡ true → at < length bytes
inside_there sizes bytes starts count at loaded test =
    elim (cases_lt at (length bytes)) [
      | inl lt ↦ lt
      | inr le ↦
          let long : length starts ≤ at = omega (arith, ap length loaded.scanned.table, length_marks sizes (listing bytes), ap length loaded.scanned.spelled, sizes.file (listing bytes), le) in
          let past : false ≡ true = sym (get_or_past starts at false long) ∙ test in
          absurd cc
    ]

stands_here : SizeLaws → PlaceLaws → (bytes : List ℕ) (starts : List Bool) (count at : ℕ) → IsLoaded bytes starts count → get_or starts at false ≡ true → Stands (listing bytes) bytes at
stands_here sizes places bytes starts count at loaded entry =
    let k = known (op_at (listing bytes) at) (sym (table_is sizes bytes starts count at loaded) ∙ entry) in
    let found = found_at sizes places (listing bytes) at k.op loaded.scanned.each k.is in
    record {
      op = k.op;
      is = k.is;
      is_op = found.is_op;
      rest = found.rest;
      prefix = ap (drop at) loaded.scanned.spelled ∙ found.prefix;
      inside = inside_there sizes bytes starts count at loaded entry;
    }

pub one_there : SizeLaws → PlaceLaws → (view : List PlainOp) (bytes text : List ℕ) (starts table : List Bool) (count at : ℕ) (test : Bool) → IsLoaded bytes starts count → listing bytes ≡ view
    → text ≡ bytes → table ≡ starts → test ≡ get_or table at false → test ≡ true → Stands view text at
one_there sizes places view bytes text starts table count at test loaded view_is text_is same is present =
    let entry : get_or starts at false ≡ true = ap (λ (t : List Bool). get_or t at false) (sym same) ∙ sym is ∙ present in
    let here = stands_here sizes places bytes starts count at loaded entry in
    let there : Stands view bytes at = subst (λ (v : List PlainOp). Stands v bytes at) view_is here in
    subst (λ (b : List ℕ). Stands view b at) (sym text_is) there

-- ---- nothing else

-- instructions that are left
record Left (rest : List ℕ) : Type 0 where
  ops : List PlainOp
  each : AllByRecursion IsOp ops
  is : rest ≡ spellings ops

header_is : (ops : List PlainOp) → take 13 (file_bytes ops) ≡ magic ++ four (file_length ops)
unfolding four
header_is ops = refl

-- the bytes of instructions have their header
pub has_header : SizeLaws → (bytes : List ℕ) (ops : List PlainOp) → bytes ≡ file_bytes ops → HasHeader bytes
has_header sizes bytes ops is =
    let size : file_length ops ≡ length bytes = sym (sizes.file ops) ∙ ap length (sym is) in
    ap (take 13) is ∙ header_is ops ∙ ap (λ n. magic ++ four n) size

module _ (spells : SpellingLaws) (sizes : SizeLaws) where
  left : (xs ys : List PlainOp) (rest : List ℕ) → AllByRecursion IsOp xs → AllByRecursion IsOp ys → spellings xs ++ rest ≡ spellings ys → Left rest
  left [] ys rest f g same = record { ops = ys; each = g; is = same }
  left (x ∷ xs) [] rest f g same =
      absurd (omega (arith, ap length same, length-append (spellings (x ∷ xs)) rest, length-append (spelling x) (spellings xs), sizes.op x, sizes.some x))
  left (x ∷ xs) (y ∷ ys) rest f g same =
      let whole : spelling x ++ (spellings xs ++ rest) ≡ spelling y ++ spellings ys = sym (append_assoc (spelling x) (spellings xs) rest) ∙ same in
      let is : x ≡ y = spells.none x y (spellings xs ++ rest) (spellings ys) f.0 g.0 whole in
      let n : ℕ = length (spelling x) in
      let others : spellings xs ++ rest ≡ spellings ys =
      sym (drop_at (spelling x) (spellings xs ++ rest) n refl) ∙ ap (drop n) whole ∙ drop_at (spelling y) (spellings ys) n (ap (λ o. length (spelling o)) (sym is)) in
      left xs ys rest f.1 g.1 others

  -- where an instruction stands there is no fault
  no_fault : (rest : List ℕ) (ops : List PlainOp) → AllByRecursion IsOp ops → rest ≡ spellings ops → 1 ≤ length rest → fault_of rest ≡ None
  no_fault rest [] each is some = absurd (omega (arith, ap length is, some))
  no_fault rest (op ∷ ops) each is some = ap fault_of is ∙ spells.sound op (spellings ops) each.0

  -- in the bytes of instructions there is no place where none is spelled
  pub stops_nowhere : (place : ℕ) (why : CodeFault) (bytes : List ℕ) (ops : List PlainOp) → LoadStopsAt place why bytes → AllByRecursion IsOp ops → bytes ≡ file_bytes ops → ⊥
  stops_nowhere place why bytes ops stops each is =
      let same : spellings stops.ops ++ drop place bytes ≡ spellings ops = sym stops.before ∙ ap (drop 13) is ∙ drop_header ops in
      let l = left stops.ops ops (drop place bytes) stops.each each same in
      let none = no_fault (drop place bytes) l.ops l.each l.is (omega (arith, length-drop place bytes, stops.inside)) in
      let none_some : None ≡ Some why = sym none ∙ stops.reason in
      absurd cc

  -- a file leads nowhere astray
  leads_nowhere : PlaceLaws → (place : ℕ) (bytes : List ℕ) (ops : List PlainOp) → LeadsAstray place bytes → IsCode ops → bytes ≡ file_bytes ops → ⊥
  leads_nowhere places place bytes ops astray code is =
      let same : astray.ops ≡ ops = sym (listing_is spells sizes bytes astray.ops astray.each astray.spelled) ∙ listing_is spells sizes bytes ops code.each is in
      let bad = astray.first in
      let begins = places.placed astray.ops astray.index place bad.op bad.stands in
      let well : leads_well astray.ops place bad.op ≡ true = ap (λ os. leads_well os place bad.op) same ∙ code.leads place bad.op (ap (λ os. op_at os place) (sym same) ∙ begins) in
      let both : true ≡ false = sym well ∙ bad.bad in
      absurd cc

  -- a file is refused only for want of memory
  pub refused : PlaceLaws → (fault : LoadFault) (bytes : List ℕ) → LoadFails fault bytes → (ops : List PlainOp) → IsCode ops → bytes ≡ file_bytes ops → fault ≡ NoMemory
  refused places Magic bytes fails ops code is = absurd (fails (ap (take 9) is))
  refused places Length bytes fails ops code is = absurd (fails.1 (has_header sizes bytes ops is))
  refused places (At place why) bytes fails ops code is = absurd (stops_nowhere place why bytes ops fails code.each is)
  refused places (Target place) bytes fails ops code is = absurd (leads_nowhere places place bytes ops fails code is)
  refused places NoMemory bytes fails ops code is = refl

-- what the proof of `load` uses
pub ruleset load_lemmas = (loaded_code, refused, listing_is)
