-- What an index has under a name, by the tree of hashes and the tree of names behind it.
use Rattle.std.proofs.Common.{◌≡◌, ◌∙◌, ℕ, Bool, true, false, cond, if◌then◌else◌, Vec, List, [], ◌∷◌, ◌++◌, map, Option, None, Some, IsSome, refl, sym, ap, subst}
use Rattle.std.proofs.lemmas.Bool.{false≢true}
use Rattle.std.proofs.lemmas.Cmp.{nat_cmp_total, tied_itself, eq_by_cmp_equiv}
use Rattle.std.proofs.lemmas.Map.{lookup-none}
use Rattle.std.proofs.lemmas.Map.Entries.{none_below_head, none_past_head, lookup_head, lookup_tail}
use Rattle.std.proofs.lemmas.Option.{none-some, same_Some}
use Rattle.std.proofs.lemmas.Map.Keys.{sorted_tail, IsDistinct-from_sorted}
use Rattle.std.proofs.lemmas.Map.Lookups.{exact_unsigned}
use Rattle.std.specs.declared.alloc.Global.{Global}
use Rattle.std.specs.BTreeMap.{BTreeMap, get, insert_entry, is_at, IsOrdered}
use Rattle.std.specs.Cmp.Lexicographic.{bytes_decides}
use Rattle.std.specs.List.Sorted.{IsStrictlySortedBy}
use Rattle.std.specs.Map.{lookup, keys_of}
use Rattle.std.specs.Option.{IfSome, MatchOption, is_some, option_or}
use Rattle.std.specs.declared.cmp.Ordering.{Ordering}
use Rattle.std.specs.declared.cmp.Ordering.TheVariants.{Less, Equal, Greater}
use Rattle.std.specs.Ordering.{is_eq, match_ordering, nat_cmp}
use Rattle.std.specs.Str.{bytes_eq}
use Rattle.nwq_value.specs.declared.index.Numbered.{Numbered}
use Rattle.nwq_value.specs.Hashed.{hash_of, number_in, is_free, numbered, names_of, first_of, AreHashed, IsTaken, PutsFirst}
use Rattle.nwq_value.specs.Index.{entry, number_under, Puts}

-- ---- a hash among the keys

equal_hash : (h q : ℕ) → is_at (nat_cmp h) q ≡ true → h ≡ q
equal_hash h q is = exact_unsigned h q (by (nat_cmp h q) is)
  where
    by : (o : Ordering) → is_eq o ≡ true → o ≡ Equal
    by Equal e = refl
    by Less e = absurd (false≢true e)
    by Greater e = absurd (false≢true e)

own_hash : (h : ℕ) → is_at (nat_cmp h) h ≡ true
own_hash h = ap is_eq (tied_itself nat_cmp_total h)

-- ---- names among the entries

-- a hash that is the first key's is no other key
none_more : (e : ℕ × Numbered) (es : List (ℕ × Numbered)) → IsStrictlySortedBy nat_cmp (keys_of (e ∷ es))
    → (q : ℕ) → is_at (nat_cmp q) e.0 ≡ true → lookup (is_at (nat_cmp q)) es ≡ None
none_more e es sorted q is = lookup-none (is_at (nat_cmp q)) es
    (none_past_head (eq_by_cmp_equiv nat_cmp_total) q e es (IsDistinct-from_sorted nat_cmp (keys_of (e ∷ es)) sorted) is)

-- each name of the entries stands under its hash
abbrev AreIn : List (ℕ × Numbered) → Type 0
AreIn es = (q : ℕ) → IfSome (lookup (is_at (nat_cmp q)) es) (λ held. hash_of held.name.items ≡ q)

rest_hashed : (e : ℕ × Numbered) (es : List (ℕ × Numbered)) → IsStrictlySortedBy nat_cmp (keys_of (e ∷ es)) → AreIn (e ∷ es) → AreIn es
rest_hashed e es sorted hashed q = by (is_at (nat_cmp q) e.0) refl
  where
    by : (b : Bool) → is_at (nat_cmp q) e.0 ≡ b → IfSome (lookup (is_at (nat_cmp q)) es) (λ held. hash_of held.name.items ≡ q)
    by true is = subst (λ o. IfSome o (λ held. hash_of held.name.items ≡ q)) (sym (none_more e es sorted q is)) tt
    by false is = subst (λ o. IfSome o (λ held. hash_of held.name.items ≡ q)) (lookup_tail (is_at (nat_cmp q)) e es is) (hashed q)

module _ (x : List ℕ) where
  in_entries : (es : List (ℕ × Numbered)) → IsStrictlySortedBy nat_cmp (keys_of es) → AreIn es
      → number_under x (map numbered es) ≡ number_in x (lookup (is_at (nat_cmp (hash_of x))) es)
  in_entries [] sorted hashed = refl
  in_entries (e ∷ es) sorted hashed =
      by (in_entries es (sorted_tail nat_cmp e.0 (keys_of es) sorted) (rest_hashed e es sorted hashed)) (is_at (nat_cmp (hash_of x)) e.0) refl
    where
      test : ℕ → Bool
      test = is_at (nat_cmp (hash_of x))

      own : hash_of e.1.name.items ≡ e.0
      own = subst (λ o. IfSome o (λ held. hash_of held.name.items ≡ e.0)) (lookup_head (is_at (nat_cmp e.0)) e es (own_hash e.0)) (hashed e.0)

      apart : test e.0 ≡ false → (b : Bool) → bytes_eq x e.1.name.items ≡ b → b ≡ false
      apart other true is = absurd (false≢true (sym other ∙ ap (is_at (nat_cmp (hash_of x))) (sym own ∙ ap hash_of (sym ((bytes_decides x e.1.name.items).0 is))) ∙ own_hash (hash_of x)))
      apart other false is = refl

      by : number_under x (map numbered es) ≡ number_in x (lookup test es) → (b : Bool) → test e.0 ≡ b
          → number_under x (map numbered (e ∷ es)) ≡ number_in x (lookup test (e ∷ es))
      by rest true is = ap (cond (bytes_eq x e.1.name.items) (Some e.1.number)) (rest ∙ ap (number_in x) (none_more e es sorted (hash_of x) is))
          ∙ sym (ap (number_in x) (lookup_head test e es is))
      by rest false is = ap (λ b. cond b (Some e.1.number) (number_under x (map numbered es))) (apart is (bytes_eq x e.1.name.items) refl)
          ∙ rest ∙ sym (ap (number_in x) (lookup_tail test e es is))

  in_append : (es fs : List (List ℕ × ℕ)) → number_under x (es ++ fs) ≡ option_or (number_under x es) (number_under x fs)
  in_append [] fs = refl
  in_append (e ∷ es) fs = ap (cond (bytes_eq x e.0) (Some e.1)) (in_append es fs) ∙ by (bytes_eq x e.0)
    where
      by : (b : Bool) → cond b (Some e.1) (option_or (number_under x es) (number_under x fs)) ≡ option_or (cond b (Some e.1) (number_under x es)) (number_under x fs)
      by true = refl
      by false = refl

  pub in_both : (first : BTreeMap ℕ Numbered) (others : BTreeMap (Vec ℕ Global) ℕ) → AreHashed first
      → number_under x (names_of first others) ≡ option_or (first_of first x) (number_under x (map entry others.entries))
  in_both first others hashed = in_append (map numbered first.entries) (map entry others.entries)
      ∙ ap (λ o. option_or o (number_under x (map entry others.entries))) (in_entries first.entries hashed.0 hashed.1)

-- the same of the index as a caller has it
pub in_index : (name : List ℕ) (first : BTreeMap ℕ Numbered) (others : BTreeMap (Vec ℕ Global) ℕ) (view : List (List ℕ × ℕ)) (o : Option ℕ)
    → names_of first others ≡ view → AreHashed first → o ≡ first_of first name
    → option_or o (number_under name (map entry others.entries)) ≡ number_under name view
in_index name first others view o is hashed own = ap (λ u. option_or u (number_under name (map entry others.entries))) own
    ∙ sym (in_both name first others hashed) ∙ ap (number_under name) is

-- ---- a change under one name

-- an answer that changes under one name
abbrev pub Changes : List ℕ → Option ℕ → (List ℕ → Option ℕ) → (List ℕ → Option ℕ) → Type 0
Changes name w old new = (x : List ℕ) → new x ≡ (if bytes_eq x name then w else old x)

pub changes_own : (name : List ℕ) (w : Option ℕ) (old new : List ℕ → Option ℕ) → Changes name w old new → new name ≡ w
changes_own name w old new changes = changes name ∙ ap (λ b. if b then w else old name) ((bytes_decides name name).1 refl)

-- both trees change under one name, or each keeps what it has under each other name
pub puts_in : (name : List ℕ) (u v w : Option ℕ) (old new : BTreeMap ℕ Numbered) (others after : BTreeMap (Vec ℕ Global) ℕ) (view : List (List ℕ × ℕ))
    → names_of old others ≡ view → AreHashed old → PutsFirst name u old new
    → Puts name v (map entry others.entries) (map entry after.entries) → option_or u v ≡ w
    → Puts name w view (names_of new after)
puts_in name u v w old new others after view is before first puts own x = in_both x new after first.0
    ∙ ap (λ o. option_or o (number_under x (map entry after.entries))) (first.1 x)
    ∙ ap (option_or (if bytes_eq x name then u else first_of old x)) (puts x)
    ∙ by (bytes_eq x name)
    ∙ ap (λ o. if bytes_eq x name then w else o) (sym (in_both x old others before) ∙ ap (number_under x) is)
  where
    by : (b : Bool) → option_or (if b then u else first_of old x) (if b then v else number_under x (map entry others.entries))
        ≡ (if b then w else option_or (first_of old x) (number_under x (map entry others.entries)))
    by true = own
    by false = refl

-- what stays has under the name what it had
pub same_puts : (name : List ℕ) (index : List (List ℕ × ℕ)) → Puts name (number_under name index) index index
same_puts name index x = by (bytes_eq x name) refl
  where
    by : (b : Bool) → bytes_eq x name ≡ b → number_under x index ≡ (if b then number_under name index else number_under x index)
    by true same = ap (λ y. number_under y index) ((bytes_decides x name).0 same)
    by false apart = refl

pub same_first : (name : List ℕ) (first : BTreeMap ℕ Numbered) → AreHashed first → PutsFirst name (first_of first name) first first
same_first name first hashed = (hashed, λ x. by x (bytes_eq x name) refl)
  where
    by : (x : List ℕ) (b : Bool) → bytes_eq x name ≡ b → first_of first x ≡ (if b then first_of first name else first_of first x)
    by x true same = ap (first_of first) ((bytes_decides x name).0 same)
    by x false apart = refl

-- a name that stands under its hash has no other one there
pub free_where_in : (name : List ℕ) (o : Option Numbered) → IsSome (number_in name o) → is_free name o ≡ true
free_where_in name None there = refl
free_where_in name (Some held) there = by (bytes_eq name held.name.items) there
  where
    by : (b : Bool) → IsSome (if b then Some held.number else None) → b ≡ true
    by true t = refl
    by false t = absurd (false≢true t)

-- a hash that is another name's has no number of this one
pub none_where_taken : (name : List ℕ) (o : Option Numbered) → is_free name o ≡ false → number_in name o ≡ None
none_where_taken name None taken = refl
none_where_taken name (Some held) taken = ap (λ b. if b then Some held.number else None) taken

-- nor has the hash of a name a number of another name
none_where_free : (name : List ℕ) (o : Option Numbered) (x : List ℕ) → is_free name o ≡ true → bytes_eq x name ≡ false → number_in x o ≡ None
none_where_free name None x free apart = refl
none_where_free name (Some held) x free apart =
    ap (λ b. if b then Some held.number else None) (ap (bytes_eq x) (sym ((bytes_decides name held.name.items).0 free)) ∙ apart)

-- what stands under the hash of a name is changed, and is of this name before and after
module _ (name : List ℕ) (old new : BTreeMap ℕ Numbered) (v : Option Numbered) (before : AreHashed old) (sorted : IsOrdered nat_cmp new)
    (was : is_free name (get nat_cmp old (hash_of name)) ≡ true) (is : is_free name v ≡ true)
    (updates : (q : ℕ) → get nat_cmp new q ≡ cond (is_at (nat_cmp (hash_of name)) q) v (get nat_cmp old q)) where
  hash_is : (q : ℕ) → hash_of name ≡ q → (o : Option Numbered) → is_free name o ≡ true → IfSome o (λ held. hash_of held.name.items ≡ q)
  hash_is q at None free = tt
  hash_is q at (Some held) free = ap hash_of (sym ((bytes_decides name held.name.items).0 free)) ∙ at

  stays_hashed : AreHashed new
  stays_hashed = (sorted, λ q. subst (λ o. IfSome o (λ held. hash_of held.name.items ≡ q)) (sym (updates q)) (by q (is_at (nat_cmp (hash_of name)) q) refl))
    where
      by : (q : ℕ) (b : Bool) → is_at (nat_cmp (hash_of name)) q ≡ b → IfSome (cond b v (get nat_cmp old q)) (λ held. hash_of held.name.items ≡ q)
      by q true at = hash_is q (equal_hash (hash_of name) q at) v is
      by q false at = before.1 q

  first_is : (x : List ℕ) (b : Bool) → bytes_eq x name ≡ b → first_of new x ≡ (if b then number_in name v else first_of old x)
  first_is x true same = ap (first_of new) ((bytes_decides x name).0 same)
      ∙ ap (number_in name) (updates (hash_of name) ∙ ap (λ b. cond b v (get nat_cmp old (hash_of name))) (own_hash (hash_of name)))
  first_is x false apart = ap (number_in x) (updates (hash_of x)) ∙ by (is_at (nat_cmp (hash_of name)) (hash_of x)) refl
    where
      by : (b : Bool) → is_at (nat_cmp (hash_of name)) (hash_of x) ≡ b → number_in x (cond b v (get nat_cmp old (hash_of x))) ≡ first_of old x
      by true at = none_where_free name v x is apart
          ∙ sym (ap (λ h. number_in x (get nat_cmp old h)) (sym (equal_hash (hash_of name) (hash_of x) at)) ∙ none_where_free name (get nat_cmp old (hash_of name)) x was apart)
      by false at = refl

  pub puts_first : PutsFirst name (number_in name v) old new
  puts_first = (stays_hashed, λ x. first_is x (bytes_eq x name) refl)

-- the same where the hash has a name of its own
pub updates_first : (name : List ℕ) (h : ℕ) (v : Option Numbered) (old new : BTreeMap ℕ Numbered) → h ≡ hash_of name → AreHashed old → IsOrdered nat_cmp new
    → is_free name (get nat_cmp old h) ≡ true → is_free name v ≡ true
    → ((q : ℕ) → get nat_cmp new q ≡ cond (is_at (nat_cmp h) q) v (get nat_cmp old q)) → PutsFirst name (number_in name v) old new
updates_first name h v old new at before sorted was is updates =
    subst (λ k. is_free name (get nat_cmp old k) ≡ true → ((q : ℕ) → get nat_cmp new q ≡ cond (is_at (nat_cmp k) q) v (get nat_cmp old q)) → PutsFirst name (number_in name v) old new)
    (sym at) (λ free all. puts_first name old new v before sorted free is all) was updates

-- another number is put under a name that is there
pub renumbers : (name : List ℕ) (h number : ℕ) (held : Numbered) (old new : BTreeMap ℕ Numbered) → h ≡ hash_of name → AreHashed old
    → IsSome (first_of old name) → Some held ≡ get nat_cmp old h → IsOrdered nat_cmp new
    → ((q : ℕ) → get nat_cmp new q ≡ cond (is_at (nat_cmp h) q) (Some (record { name = held.name; number = number })) (get nat_cmp old q))
    → PutsFirst name (Some number) old new
renumbers name h number held old new at before there is sorted updates =
    let own : bytes_eq name held.name.items ≡ true = ap (is_free name) (is ∙ ap (get nat_cmp old) at) ∙ free_where_in name (get nat_cmp old (hash_of name)) there in
    let was : is_free name (get nat_cmp old h) ≡ true = ap (is_free name) (sym is) ∙ own in
    subst (λ u. PutsFirst name u old new) (ap (λ b. if b then Some number else None) own)
    (updates_first name h (Some (record { name = held.name; number = number })) old new at before sorted was own updates)

-- a name that is there isn't missing under its hash
pub not_missing : {P : Type 0} (name : List ℕ) (h : ℕ) (old : BTreeMap ℕ Numbered) → h ≡ hash_of name → IsSome (first_of old name) → None ≡ get nat_cmp old h → P
not_missing name h old at there none =
    let nowhere : IsSome (number_in name None) = subst (λ o. IsSome (number_in name o)) (sym (none ∙ ap (get nat_cmp old) at)) there in absurd (false≢true nowhere)

-- what isn't there
pub none_from_not_some : (o : Option ℕ) → is_some o ≡ false → o ≡ None
none_from_not_some None is = refl
none_from_not_some (Some n) is = absurd (false≢true (sym is))

-- a name that isn't under its hash stays out
pub stays_out : (name : List ℕ) (first : BTreeMap ℕ Numbered) → AreHashed first → first_of first name ≡ None → PutsFirst name None first first
stays_out name first hashed none = subst (λ u. PutsFirst name u first first) none (same_first name first hashed)

-- ---- a name that comes back

-- what stands under a hash is exchanged, and put back
insert_back : (h : ℕ) (v w : Numbered) (es : List (ℕ × Numbered)) → IsStrictlySortedBy nat_cmp (keys_of es) → lookup (is_at (nat_cmp h)) es ≡ Some v
    → insert_entry nat_cmp (insert_entry nat_cmp es h w) h v ≡ es
insert_back h v w [] sorted there = absurd (none-some v there)
insert_back h v w (e ∷ es) sorted there = by (insert_back h v w es (sorted_tail nat_cmp e.0 (keys_of es) sorted)) (nat_cmp h e.0) refl
  where
    test : ℕ → Bool
    test = is_at (nat_cmp h)

    by : (lookup test es ≡ Some v → insert_entry nat_cmp (insert_entry nat_cmp es h w) h v ≡ es) → (o : Ordering) → nat_cmp h e.0 ≡ o
        → insert_entry nat_cmp (match_ordering o ((h, w) ∷ e ∷ es) ((e.0, w) ∷ es) (e ∷ insert_entry nat_cmp es h w)) h v ≡ e ∷ es
    by more Less is = absurd (none-some v (sym (lookup-none test (e ∷ es) (none_below_head nat_cmp_total h e es sorted is)) ∙ there))
    by more Equal is = ap (λ o. match_ordering o ((h, v) ∷ (e.0, w) ∷ es) ((e.0, v) ∷ es) ((e.0, w) ∷ insert_entry nat_cmp es h v)) is
        ∙ ap (λ x. (e.0, x) ∷ es) (sym (same_Some e.1 v (sym (lookup_head test e es (ap is_eq is)) ∙ there)))
    by more Greater is = ap (λ o. match_ordering o ((h, v) ∷ e ∷ insert_entry nat_cmp es h w) ((e.0, v) ∷ insert_entry nat_cmp es h w)
        (e ∷ insert_entry nat_cmp (insert_entry nat_cmp es h w) h v)) is
        ∙ ap (λ fs. e ∷ fs) (more (sym (lookup_tail test e es (ap is_eq is)) ∙ there))

-- so nothing changed
pub taken_back : (name : List ℕ) (h : ℕ) (v w : Numbered) (old mid new : BTreeMap ℕ Numbered) → h ≡ hash_of name → AreHashed old
    → Some v ≡ get nat_cmp old h → bytes_eq v.name.items name ≡ false
    → mid.entries ≡ insert_entry nat_cmp old.entries h w → new.entries ≡ insert_entry nat_cmp mid.entries h v → IsOrdered nat_cmp new
    → IsTaken name old new
taken_back name h v w old mid new at before was apart first back sorted = record { taken = taken; same = same; hashed = (sorted, hashed) }
  where
    same : new.entries ≡ old.entries
    same = back ∙ ap (λ es. insert_entry nat_cmp es h v) first ∙ insert_back h v w old.entries before.0 (sym was)

    hashed : (q : ℕ) → IfSome (get nat_cmp new q) (λ held. hash_of held.name.items ≡ q)
    hashed q = subst (λ es. IfSome (lookup (is_at (nat_cmp q)) es) (λ held. hash_of held.name.items ≡ q)) (sym same) (before.1 q)

    other : (b : Bool) → bytes_eq name v.name.items ≡ b → b ≡ false
    other true is = absurd (false≢true (sym apart ∙ (bytes_decides v.name.items name).1 (sym ((bytes_decides name v.name.items).0 is))))
    other false is = refl

    taken : is_free name (get nat_cmp old (hash_of name)) ≡ false
    taken = ap (is_free name) (ap (get nat_cmp old) (sym at) ∙ sym was) ∙ other (bytes_eq name v.name.items) refl

pub taken_out : (name : List ℕ) (old new : BTreeMap ℕ Numbered) → AreHashed old → IsTaken name old new → PutsFirst name None old new
taken_out name old new before t = (
  t.hashed,
  λ x. ap (λ es. number_in x (lookup (is_at (nat_cmp (hash_of x))) es)) t.same
      ∙ (stays_out name old before (none_where_taken name (get nat_cmp old (hash_of name)) t.taken)).1 x,
)

-- what an answer says where it is one of the two
pub where_none : (P : Type 0) (Q : Numbered → Type 0) (o : Option Numbered) → o ≡ None → MatchOption o P Q → P
where_none P Q o is h = subst (λ u. MatchOption u P Q) is h

pub where_some : (P : Type 0) (Q : Numbered → Type 0) (o : Option Numbered) (x : Numbered) → o ≡ Some x → MatchOption o P Q → Q x
where_some P Q o x is h = subst (λ u. MatchOption u P Q) is h

pub ruleset put_lemmas = (updates_first, none_where_taken)
