-- What comes of bytes as a file of bytecode: they are one, or a test fails.
use Rattle.std.proofs.Common.{◌≡◌, ◌≢◌, ◌⊎◌, inl, inr, ℕ, zero, suc, ◌<◌, ◌≤◌, Bool, true, false, List, [], ◌∷◌, ◌++◌, length, take, drop, Option, Some, None, refl, sym, ap, subst, ◌∙◌, arith}
use Rattle.std.proofs.Common.{take-append-drop, length-append, drop_at, drop-drop, length-drop, append_assoc}
use Rattle.std.specs.List.{AllByRecursion}
use Rattle.std.specs.Str.{bytes_eq}
use Rattle.std.proofs.lemmas.Option.{same_Some, none-some}
use Rattle.std.proofs.lemmas.Slice.Eq.{bytes_eq-Decides}
use Rattle.nwq_value.specs.Limits.{file_limit}
use Rattle.ncs_code.specs.declared.fault.CodeFault.{CodeFault}
use Rattle.ncs_code.specs.Plain.{PlainOp}
use Rattle.ncs_code.specs.Spelling.{spelling, four, fault_of, IsOp, IsByte}
use Rattle.ncs_code.specs.File.{magic, spellings, ops_size, file_length, file_bytes, op_at, leads_well, IsFirstBad, IsCode}
use Rattle.ncs_code.specs.Laws.{SizeLaws, PlaceLaws}
use Rattle.ncs_file.specs.declared.fault.LoadFault.{LoadFault}
use Rattle.ncs_file.specs.declared.fault.LoadFault.TheVariants as load
use Rattle.ncs_file.specs.Loading.{HasHeader, LoadFails}
use Rattle.nwq_top.proofs.Undeniable.{Least, search_below}
use Rattle.nwq_top.proofs.Decoding.{Spelled, begins_spelled}

abbrev Bytes : List ℕ → Type 0
Bytes xs = AllByRecursion IsByte xs

bytes_behind : (xs ys : List ℕ) → Bytes (xs ++ ys) → Bytes ys
bytes_behind [] ys h = h
bytes_behind (x ∷ xs) ys h = bytes_behind xs ys h.1

-- ---- instructions in a row

-- all are spelled, or one place has none
data Row (bytes : List ℕ) : Type 0 where
  whole : (ops : List PlainOp) → AllByRecursion IsOp ops → bytes ≡ spellings ops → Row bytes
  stops : (ops : List PlainOp) (rest : List ℕ) (fault : CodeFault) → AllByRecursion IsOp ops → bytes ≡ spellings ops ++ rest → rest ≢ [] → fault_of rest ≡ Some fault → Row bytes

one_more : (bytes : List ℕ) (s : Spelled bytes) → Row s.rest → Row bytes
one_more bytes s (whole ops each is) = whole (s.op ∷ ops) (s.is_op, each) (s.is ∙ ap (λ xs. spelling s.op ++ xs) is)
one_more bytes s (stops ops rest fault each is some broken) =
    stops (s.op ∷ ops) rest fault (s.is_op, each) (s.is ∙ ap (λ xs. spelling s.op ++ xs) is ∙ sym (append_assoc (spelling s.op) (spellings ops) rest)) some broken

module _ (sizes : SizeLaws) where
  shorter : (bytes : List ℕ) (s : Spelled bytes) (n : ℕ) → length bytes < suc n → length s.rest < n
  shorter bytes s n fits =
      omega (arith, fits, ap length s.is, length-append (spelling s.op) s.rest, sizes.op s.op, sizes.some s.op)

  rest_by : (n : ℕ) (b : ℕ) (bytes : List ℕ) → Bytes (b ∷ bytes) → length (b ∷ bytes) < suc n
      → ((s : Spelled (b ∷ bytes)) → Row s.rest) → (o : Option CodeFault) → fault_of (b ∷ bytes) ≡ o → Row (b ∷ bytes)
  rest_by n b bytes held fits next (Some fault) e = stops [] (b ∷ bytes) fault tt refl (λ same. absurd cc) e
  rest_by n b bytes held fits next None e = let s = begins_spelled (b ∷ bytes) held e in one_more (b ∷ bytes) s (next s)

  row_by : (n : ℕ) (bytes : List ℕ) → Bytes bytes → length bytes < n → Row bytes
  row_by zero bytes held fits = absurd (omega (arith, fits))
  row_by (suc n) [] held fits = whole [] tt refl
  row_by (suc n) (b ∷ bytes) held fits =
      rest_by n b bytes held fits (λ s. row_by n s.rest (bytes_behind (spelling s.op) s.rest (subst Bytes s.is held)) (shorter (b ∷ bytes) s n fits)) (fault_of (b ∷ bytes)) refl

-- ---- where instructions lead

module _ (ops : List PlainOp) where
  -- an instruction begins there, and leads to no beginning of one
  pub record LeadsBadly (place : ℕ) : Type 0 where
    pub op : PlainOp
    pub is : op_at ops place ≡ Some op
    pub bad : leads_well ops place op ≡ false

  pub well : (at : ℕ) (op : PlainOp) → (LeadsBadly at → ⊥) → op_at ops at ≡ Some op → leads_well ops at op ≡ true
  well at op none is = by_case (leads_well ops at op) refl
    where
      by_case : (b : Bool) → leads_well ops at op ≡ b → leads_well ops at op ≡ true
      by_case true e = e
      by_case false e = absurd (none (record { op = op; is = is; bad = e }))

  bad_or_not : (place : ℕ) (o : Option PlainOp) → op_at ops place ≡ o → LeadsBadly place ⊎ (LeadsBadly place → ⊥)
  bad_or_not place None e = inr (λ bad. none-some bad.op (sym e ∙ bad.is))
  bad_or_not place (Some op) e = by_case (leads_well ops place op) refl
    where
      by_case : (b : Bool) → leads_well ops place op ≡ b → LeadsBadly place ⊎ (LeadsBadly place → ⊥)
      by_case true f = inr (λ bad.
          let same : op ≡ bad.op = same_Some op bad.op (sym e ∙ bad.is) in
          let apart : true ≡ false = sym f ∙ ap (λ x. leads_well ops place x) same ∙ bad.bad in cc)
      by_case false f = inl (record { op = op; is = e; bad = f })

  -- there is a first that does, or none before a bound
  pub search_bad : (n : ℕ) → ((place : ℕ) → place < n → LeadsBadly place → ⊥) ⊎ Least LeadsBadly
  search_bad n = search_below LeadsBadly (λ place. bad_or_not place (op_at ops place) refl) n

  -- the first that does
  first_bad : PlaceLaws → (l : Least LeadsBadly) → (index : ℕ) × IsFirstBad ops index l.number
  first_bad places l =
      let k = places.listed ops l.number l.is.op l.is.is in
      (k.0, record { op = l.is.op; stands = k.1; bad = l.is.bad; before = λ at other lt is. well at other (l.below at lt) is })

-- ---- a file

-- the bytes are those of instructions, or a test fails that isn't want of memory
pub data CodeComes (bytes : List ℕ) : Type 0 where
  code : (ops : List PlainOp) → IsCode ops → bytes ≡ file_bytes ops → CodeComes bytes
  broken : (fails : LoadFault) → fails ≢ load.NoMemory → LoadFails fails bytes → CodeComes bytes

header_length : (n : ℕ) → length (magic ++ four n) ≡ 13
unfolding four
header_length n = refl

module _ (sizes : SizeLaws) (places : PlaceLaws) (bytes : List ℕ) (held : Bytes bytes) (small : length bytes ≤ file_limit) where
  whole_is : (ops : List PlainOp) → HasHeader bytes → drop 13 bytes ≡ spellings ops → bytes ≡ file_bytes ops
  whole_is ops header is =
      let parts : bytes ≡ (magic ++ four (length bytes)) ++ spellings ops =
      sym (take-append-drop 13 bytes) ∙ ap (λ xs. xs ++ drop 13 bytes) header ∙ ap (λ xs. (magic ++ four (length bytes)) ++ xs) is in
      let size : length bytes ≡ file_length ops =
      omega (arith, ap length parts, length-append (magic ++ four (length bytes)) (spellings ops), header_length (length bytes), sizes.ops ops) in
      parts ∙ ap (λ n. (magic ++ four n) ++ spellings ops) size ∙ append_assoc magic (four (file_length ops)) (spellings ops)

  inside_file : (ops : List PlainOp) (at : ℕ) (op : PlainOp) → op_at ops at ≡ Some op → at < file_length ops
  inside_file ops at op h = omega (arith, (places.lies ops at op h).1, sizes.some op)

  fits_file : (ops : List PlainOp) → bytes ≡ file_bytes ops → file_length ops ≤ file_limit
  fits_file ops is = omega (arith, small, ap length is, sizes.file ops)

  leads_by : (ops : List PlainOp) → AllByRecursion IsOp ops → bytes ≡ file_bytes ops
      → ((place : ℕ) → place < file_length ops → LeadsBadly ops place → ⊥) ⊎ Least (LeadsBadly ops) → CodeComes bytes
  leads_by ops each is (inr l) =
      let k = first_bad ops places l in
      broken (load.Target l.number) (λ same. absurd cc) (record { ops = ops; each = each; spelled = is; index = k.0; first = k.1 })
  leads_by ops each is (inl fine) =
      code ops (record { each = each; leads = λ at op h. well ops at op (fine at (inside_file ops at op h)) h; bounded = fits_file ops is }) is

  row_comes : HasHeader bytes → Row (drop 13 bytes) → CodeComes bytes
  row_comes header (whole ops each is) =
      leads_by ops each (whole_is ops header is) (search_bad ops (file_length ops))
  row_comes header (stops ops rest fault each is some reason) =
      let behind : drop (file_length ops) bytes ≡ rest =
      sym (drop-drop (ops_size ops) 13 bytes) ∙ ap (drop (ops_size ops)) is ∙ drop_at (spellings ops) rest (ops_size ops) (sym (sizes.ops ops)) in
      let long : file_length ops < length bytes = inside ops rest behind some in
      broken (load.At (file_length ops) fault) (λ same. absurd cc) (record {
        ops = ops;
        each = each;
        header = header;
        before = is ∙ ap (λ xs. spellings ops ++ xs) (sym behind);
        stands = refl;
        inside = long;
        reason = ap fault_of behind ∙ reason;
      })
    where
      inside : (os : List PlainOp) (more : List ℕ) → drop (file_length os) bytes ≡ more → more ≢ [] → file_length os < length bytes
      inside os [] e none = absurd (none refl)
      inside os (b ∷ bs) e none = omega (arith, ap length e, length-drop (file_length os) bytes)

  bytes_behind_header : Bytes (drop 13 bytes)
  bytes_behind_header = bytes_behind (take 13 bytes) (drop 13 bytes) (subst Bytes (sym (take-append-drop 13 bytes)) held)

  header_by : take 9 bytes ≡ magic → (b : Bool) → bytes_eq (take 13 bytes) (magic ++ four (length bytes)) ≡ b → CodeComes bytes
  header_by e true f =
      row_comes ((bytes_eq-Decides (take 13 bytes) (magic ++ four (length bytes))).0 f)
      (row_by sizes (suc (length (drop 13 bytes))) (drop 13 bytes) bytes_behind_header (omega arith))
  header_by e false f =
      broken load.Length (λ same. absurd cc)
      (e, λ same. let apart : false ≡ true = sym f ∙ (bytes_eq-Decides (take 13 bytes) (magic ++ four (length bytes))).1 same in cc)

  magic_by : (b : Bool) → bytes_eq (take 9 bytes) magic ≡ b → CodeComes bytes
  magic_by true e =
      header_by ((bytes_eq-Decides (take 9 bytes) magic).0 e) (bytes_eq (take 13 bytes) (magic ++ four (length bytes))) refl
  magic_by false e =
      broken load.Magic (λ same. absurd cc) (λ same. let apart : false ≡ true = sym e ∙ (bytes_eq-Decides (take 9 bytes) magic).1 same in cc)

  pub code_comes : CodeComes bytes
  code_comes = magic_by (bytes_eq (take 9 bytes) magic) refl
