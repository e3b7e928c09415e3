-- What is found among an object's variables, put there, written and taken out.
use Rattle.std.proofs.Common.{◌≡◌, if◌then◌else◌, ◌≤◌, ◌+◌, ◌==◌, ℕ, ℤ, zero, suc, Bool, true, false, not, ◌||◌, List, [], ◌∷◌, ◌++◌, filter, drop, length, slice_get, Option, None, Some, is_some}
use Rattle.std.proofs.Common.{Result, Ok, Err, refl, sym, ap, subst, ◌∙◌, arith}
use Rattle.std.specs.List.{list_any, IsDistinct}
use Rattle.std.specs.Option.{option_map, option_or}
use Rattle.std.specs.Result.{OnOk}
use Rattle.std.specs.Cmp.Lexicographic.{bytes_decides}
use Rattle.std.specs.Str.{bytes_eq}
use Rattle.std.proofs.lemmas.Bool.{eq-eqb}
use Rattle.std.proofs.lemmas.Map.Keys.{IsDistinct-push}
use Rattle.stamped_slots.specs.Stamps.{at, replaced, without, Rise, AreUnder}
use Rattle.stamped_slots.specs.StampLemmas.{not_same, none_above, under_last, under_without}
use Rattle.nwq_value.specs.declared.memory.NoMemory.{NoMemory}
use Rattle.nwq_value.specs.Index.{number_under, Puts}
use Rattle.local_variables.specs.declared.held.Held.{Held}
use Rattle.local_variables.specs.declared.held.Content.{Content}
use Rattle.local_variables.specs.declared.held.Content.TheVariants.{Int, Text}
use Rattle.local_variables.specs.Variables.{Variable, IntVar, TextVar, is_int, is_text, same_variable, first, put}
use Rattle.local_variables.specs.Kept.{named, variable_in, seen, held_at, rewritten, stamp_of, AreKept}
use Rattle.local_variables.proofs.VariableLaws.{apart, same_equiv, put_distinct, filter_distinct, without_first, filter_without, int_like, text_like}

-- a variable with another content
abbrev pub with_content : Content → Held → Held
with_content content h = record { name = h.name; content = content }

pub long_seen : (es : List (ℕ × Held)) → length (seen es) ≡ length es
long_seen [] = refl
long_seen (e ∷ es) = ap suc (long_seen es)

-- ---- the stamp of the variable that passes a test

not_before : (test : Variable → Bool) (low : ℕ) (es : List (ℕ × Held)) (s : ℕ) → Rise low es → stamp_of test es ≡ Some s → low ≤ s
not_before test low [] s up is = absurd cc
not_before test low (e ∷ es) s up is = by (test (variable_in e.1)) is (not_before test (e.0 + 1) es s up.1)
  where
    by : (b : Bool) → (if b then Some e.0 else stamp_of test es) ≡ Some s → (stamp_of test es ≡ Some s → e.0 + 1 ≤ s) → low ≤ s
    by true at more = let same : e.0 ≡ s = cc in omega (arith, same, up.0)
    by false at more = let above = more at in omega (arith, up.0, above)

-- the first of these passes, and the stamp is its own; or it is that of one behind it
step : {G : Type 0} (test : Variable → Bool) (e : ℕ × Held) (es : List (ℕ × Held)) (s : ℕ) → Rise (e.0 + 1) es → stamp_of test (e ∷ es) ≡ Some s
    → (test (variable_in e.1) ≡ true → (e.0 == s) ≡ true → G)
    → (test (variable_in e.1) ≡ false → (e.0 == s) ≡ false → stamp_of test es ≡ Some s → G) → G
step {G} test e es s up is here behind = by (test (variable_in e.1)) refl is
  where
    by : (b : Bool) → test (variable_in e.1) ≡ b → (if b then Some e.0 else stamp_of test es) ≡ Some s → G
    by true passes at = here passes (let same : e.0 ≡ s = cc in eq-eqb e.0 s same)
    by false fails at =
        let above = not_before test (e.0 + 1) es s up at in
        behind fails (not_same e.0 s (λ same. omega (arith, above, same))) at

found_at : (test : Variable → Bool) (low : ℕ) (es : List (ℕ × Held)) (s : ℕ) → Rise low es → stamp_of test es ≡ Some s → option_map variable_in (at s es) ≡ first test (seen es)
found_at test low [] s up is = absurd cc
found_at test low (e ∷ es) s up is = step test e es s up.1 is
    (λ passes same. rw (same, passes) refl)
    (λ fails other more. rw (other, fails) (found_at test (e.0 + 1) es s up.1 more))

known : (test : Variable → Bool) (es : List (ℕ × Held)) → is_some (stamp_of test es) ≡ list_any test (seen es)
known test [] = refl
known test (e ∷ es) = by (test (variable_in e.1)) (known test es)
  where
    by : (b : Bool) → is_some (stamp_of test es) ≡ list_any test (seen es) → is_some (if b then Some e.0 else stamp_of test es) ≡ (b || list_any test (seen es))
    by true more = refl
    by false more = more

none_first : (test : Variable → Bool) (vars : List Variable) → list_any test vars ≡ false → None ≡ first test vars
none_first test [] none = refl
none_first test (v ∷ vars) none = let parts = apart (test v) (list_any test vars) none in rw parts.0 (none_first test vars parts.1)

found : (test : Variable → Bool) (es : List (ℕ × Held)) → Rise 0 es → option_map variable_in (held_at (stamp_of test es) es) ≡ first test (seen es)
found test es up = by (stamp_of test es) refl
  where
    by : (o : Option ℕ) → stamp_of test es ≡ o → option_map variable_in (held_at o es) ≡ first test (seen es)
    by None is = none_first test (seen es) (sym (known test es) ∙ ap is_some is)
    by (Some s) is = found_at test 0 es s up is

-- ---- what is put last

stamp_last : (test : Variable → Bool) (es : List (ℕ × Held)) (s : ℕ) (h : Held)
    → stamp_of test (es ++ (s, h) ∷ []) ≡ option_or (stamp_of test es) (if test (variable_in h) then Some s else None)
stamp_last test [] s h = refl
stamp_last test (e ∷ es) s h = by (test (variable_in e.1)) (stamp_last test es s h)
  where
    by : (b : Bool) → stamp_of test (es ++ (s, h) ∷ []) ≡ option_or (stamp_of test es) (if test (variable_in h) then Some s else None)
        → (if b then Some e.0 else stamp_of test (es ++ (s, h) ∷ [])) ≡ option_or (if b then Some e.0 else stamp_of test es) (if test (variable_in h) then Some s else None)
    by true more = refl
    by false more = more

seen_last : (es : List (ℕ × Held)) (s : ℕ) (h : Held) → seen (es ++ (s, h) ∷ []) ≡ seen es ++ variable_in h ∷ []
seen_last [] s h = refl
seen_last (e ∷ es) s h = ap (λ vars. variable_in e.1 ∷ vars) (seen_last es s h)

or_none : (o : Option ℕ) → o ≡ option_or o None
or_none None = refl
or_none (Some s) = refl

-- a stamp that is above all stands under no variable, so one is put last under it
pub new_stamp : {T : Type 0} (stamp : ℕ) (es : List (ℕ × T)) → AreUnder stamp es → at stamp es ≡ None
new_stamp stamp es under = none_above stamp stamp es (omega arith) under

-- what was put last is taken out again
pub taken_back : {T : Type 0} (stamp : ℕ) (x : T) (es : List (ℕ × T)) → AreUnder stamp es → without stamp (es ++ (stamp, x) ∷ []) ≡ es
taken_back stamp x [] under = rw (eq-eqb stamp stamp refl) refl
taken_back stamp x (e ∷ es) under = rw (not_same e.0 stamp (λ same. omega (arith, same, under.0))) (ap (λ t. e ∷ t) (taken_back stamp x es under.1))

-- ---- what is written

-- the variable is taken out, and put back with another content
pub twice_replaced : (content : Content) (s : ℕ) (h other : Held) (es : List (ℕ × Held)) → at s es ≡ Some h
    → replaced s (with_content content h) (replaced s other es) ≡ rewritten content s es
twice_replaced content s h other [] is = refl
twice_replaced content s h other (e ∷ es) is = by (e.0 == s) refl is (twice_replaced content s h other es)
  where
    by : (b : Bool) → (e.0 == s) ≡ b → (if b then Some e.1 else at s es) ≡ Some h
        → (at s es ≡ Some h → replaced s (with_content content h) (replaced s other es) ≡ rewritten content s es)
        → replaced s (with_content content h) (if b then (e.0, other) ∷ es else e ∷ replaced s other es)
        ≡ (if b then (e.0, with_content content e.1) ∷ es else e ∷ rewritten content s es)
    by true same here more = let own : h ≡ e.1 = cc in rw same (ap (λ (k : Held). (e.0, with_content content k) ∷ es) own)
    by false same here more = rw same (ap (λ t. e ∷ t) (more here))

pub not_rewritten : (content : Content) (s : ℕ) (other : Held) (es : List (ℕ × Held)) → at s es ≡ None → replaced s other es ≡ rewritten content s es
not_rewritten content s other [] is = refl
not_rewritten content s other (e ∷ es) is = by (e.0 == s) is (not_rewritten content s other es)
  where
    by : (b : Bool) → (if b then Some e.1 else at s es) ≡ None → (at s es ≡ None → replaced s other es ≡ rewritten content s es)
        → (if b then (e.0, other) ∷ es else e ∷ replaced s other es) ≡ (if b then (e.0, with_content content e.1) ∷ es else e ∷ rewritten content s es)
    by true here more = absurd cc
    by false here more = ap (λ t. e ∷ t) (more here)

under_rewritten : (content : Content) (next s : ℕ) (es : List (ℕ × Held)) → AreUnder next es → AreUnder next (rewritten content s es)
under_rewritten content next s [] under = tt
under_rewritten content next s (e ∷ es) under = by (e.0 == s) (under_rewritten content next s es under.1)
  where
    by : (b : Bool) → AreUnder next (rewritten content s es) → AreUnder next (if b then (e.0, with_content content e.1) ∷ es else e ∷ rewritten content s es)
    by true more = under
    by false more = (under.0, more)

seen_rewritten : (v : Variable) (content : Content) (low s : ℕ) (es : List (ℕ × Held))
    → ((h : Held) → same_variable v (variable_in h) ≡ true → variable_in (with_content content h) ≡ v)
    → Rise low es → stamp_of (same_variable v) es ≡ Some s → seen (rewritten content s es) ≡ put v (seen es)
seen_rewritten v content low s [] becomes up is = absurd cc
seen_rewritten v content low s (e ∷ es) becomes up is = step (same_variable v) e es s up.1 is
    (λ passes same. rw (same, passes) (ap (λ w. w ∷ seen es) (becomes e.1 passes)))
    (λ fails other more. rw (other, fails) (ap (λ vars. variable_in e.1 ∷ vars) (seen_rewritten v content (e.0 + 1) s es becomes up.1 more)))

stamp_rewritten : (own test : Variable → Bool) (content : Content) (low s : ℕ) (es : List (ℕ × Held))
    → ((h : Held) → own (variable_in h) ≡ true → test (variable_in (with_content content h)) ≡ test (variable_in h))
    → Rise low es → stamp_of own es ≡ Some s → stamp_of test (rewritten content s es) ≡ stamp_of test es
stamp_rewritten own test content low s [] alike up is = absurd cc
stamp_rewritten own test content low s (e ∷ es) alike up is = step own e es s up.1 is
    (λ passes same. rw (same, alike e.1 passes) refl)
    (λ fails other more. rw other (ap (λ (o : Option ℕ). if test (variable_in e.1) then Some e.0 else o) (stamp_rewritten own test content (e.0 + 1) s es alike up.1 more)))

-- ---- what is taken out

seen_without : (test : Variable → Bool) (low s : ℕ) (es : List (ℕ × Held)) → Rise low es → stamp_of test es ≡ Some s → seen (without s es) ≡ without_first test (seen es)
seen_without test low s [] up is = absurd cc
seen_without test low s (e ∷ es) up is = step test e es s up.1 is
    (λ passes same. rw (same, passes) refl)
    (λ fails other more. rw (other, fails) (ap (λ vars. variable_in e.1 ∷ vars) (seen_without test (e.0 + 1) s es up.1 more)))

stamp_without : (own test : Variable → Bool) (low s : ℕ) (es : List (ℕ × Held)) → ((v : Variable) → own v ≡ true → test v ≡ false)
    → Rise low es → stamp_of own es ≡ Some s → stamp_of test (without s es) ≡ stamp_of test es
stamp_without own test low s [] lacks up is = absurd cc
stamp_without own test low s (e ∷ es) lacks up is = step own e es s up.1 is
    (λ passes same. rw (same, lacks (variable_in e.1) passes) refl)
    (λ fails other more. rw other (ap (λ (o : Option ℕ). if test (variable_in e.1) then Some e.0 else o) (stamp_without own test (e.0 + 1) s es lacks up.1 more)))

none_left : (test : Variable → Bool) (vars : List Variable) → list_any test (filter (λ v. not (test v)) vars) ≡ false
none_left test [] = refl
none_left test (v ∷ vars) = by (test v) refl (none_left test vars)
  where
    by : (b : Bool) → test v ≡ b → list_any test (filter (λ w. not (test w)) vars) ≡ false
        → list_any test (if not b then v ∷ filter (λ w. not (test w)) vars else filter (λ w. not (test w)) vars) ≡ false
    by true is more = more
    by false is more = rw is more

no_stamp : (o : Option ℕ) → is_some o ≡ false → None ≡ o
no_stamp None e = refl
no_stamp (Some s) e = absurd cc

none_out : (test : Variable → Bool) (vars : List Variable) → list_any test vars ≡ false → vars ≡ filter (λ v. not (test v)) vars
none_out test [] none = refl
none_out test (v ∷ vars) none = let parts = apart (test v) (list_any test vars) none in rw parts.0 (ap (λ vs. v ∷ vs) (none_out test vars parts.1))

-- ---- ints and strings

-- what is to be known of the test for variables of one type, and of that for the others
pub record IsKind (is other : List ℕ → Variable → Bool) : Type 0 where
  pub names : (name x : List ℕ) (v : Variable) → is name v ≡ true → is x v ≡ bytes_eq x name
  pub parts : (name x : List ℕ) (v : Variable) → is name v ≡ true → other x v ≡ false
  pub like : (name : List ℕ) (v w : Variable) → is name v ≡ true → same_variable v w ≡ is name w

int_names : (name x : List ℕ) (v : Variable) → is_int name v ≡ true → is_int x v ≡ bytes_eq x name
int_names name x (IntVar own n) e = ap (bytes_eq x) (sym ((bytes_decides name own).0 e))
int_names name x (TextVar own text) e = absurd cc

text_names : (name x : List ℕ) (v : Variable) → is_text name v ≡ true → is_text x v ≡ bytes_eq x name
text_names name x (IntVar own n) e = absurd cc
text_names name x (TextVar own text) e = ap (bytes_eq x) (sym ((bytes_decides name own).0 e))

not_text : (name x : List ℕ) (v : Variable) → is_int name v ≡ true → is_text x v ≡ false
not_text name x (IntVar own n) e = refl
not_text name x (TextVar own text) e = absurd cc

not_int : (name x : List ℕ) (v : Variable) → is_text name v ≡ true → is_int x v ≡ false
not_int name x (IntVar own n) e = absurd cc
not_int name x (TextVar own text) e = refl

pub ints : IsKind is_int is_text
ints = record { names = int_names; parts = not_text; like = int_like }

pub texts : IsKind is_text is_int
texts = record { names = text_names; parts = not_int; like = text_like }

pub int_becomes : {m : ℤ} (name : List ℕ) (n : ℤ) → m ≡ n → (h : Held) → is_int name (variable_in h) ≡ true → variable_in (with_content (Int m) h) ≡ IntVar name n
int_becomes {m} name n same h e = by h.content e
  where
    by : (content : Content) → is_int name (named h.name content) ≡ true → IntVar h.name m ≡ IntVar name n
    by (Int old) here = ap (λ own. IntVar own m) (sym ((bytes_decides name h.name).0 here)) ∙ ap (IntVar name) same
    by (Text text) here = absurd cc

pub text_becomes : (name text : List ℕ) (h : Held) → is_text name (variable_in h) ≡ true → variable_in (with_content (Text text) h) ≡ TextVar name text
text_becomes name text h e = by h.content e
  where
    by : (content : Content) → is_text name (named h.name content) ≡ true → TextVar h.name text ≡ TextVar name text
    by (Int m) here = absurd cc
    by (Text old) here = ap (λ own. TextVar own text) (sym ((bytes_decides name h.name).0 here))

-- ---- what is read, and what a change leaves

-- what is kept, seen from the other type
pub turned : {is other : List ℕ → Variable → Bool} {next : ℕ} {es : List (ℕ × Held)} {stamps others : List (List ℕ × ℕ)} → AreKept is other next es stamps others → AreKept other is next es
    others stamps
turned kept = record { under = kept.under; leads = kept.leads_other; leads_other = kept.leads; distinct = kept.distinct }

-- what a change leaves: the facts, and the variables in their order
pub record Left (is other : List ℕ → Variable → Bool) (next : ℕ) (es : List (ℕ × Held)) (stamps others : List (List ℕ × ℕ)) (vars : List Variable) : Type 0 where
  pub kept : AreKept is other next es stamps others
  pub view : seen es ≡ vars

module _ {is other : List ℕ → Variable → Bool} (kind : IsKind is other) (name : List ℕ) {next : ℕ} {es : List (ℕ × Held)} {stamps others : List (List ℕ × ℕ)}
    (kept : AreKept is other next es stamps others) {vars : List Variable} (view : seen es ≡ vars) where
  pub is_there : is_some (number_under name stamps) ≡ list_any (is name) vars
  is_there = ap is_some (kept.leads name) ∙ known (is name) es ∙ ap (list_any (is name)) view

  pub not_there : None ≡ number_under name stamps → list_any (is name) vars ≡ false
  not_there none = sym is_there ∙ ap is_some (sym none)

  pub stays : None ≡ number_under name stamps → vars ≡ filter (λ v. not (is name v)) vars
  stays none = none_out (is name) vars (not_there none)

  pub reads : Rise 0 es → option_map variable_in (held_at (number_under name stamps) es) ≡ first (is name) vars
  reads up = ap (λ o. option_map variable_in (held_at o es)) (kept.leads name) ∙ found (is name) es up ∙ ap (first (is name)) view

  pub pushed : {v : Variable} {more : ℕ} (h : Held) {now : List (ℕ × Held)} {new : List (List ℕ × ℕ)} → is name v ≡ true → variable_in h ≡ v → next + 1 ≡ more
      → now ≡ es ++ (next, h) ∷ [] → list_any (is name) vars ≡ false → Puts name (Some next) stamps new → Left is other more now new others (vars ++ v ∷ [])
  pushed {v} {more} h {now} {new} own becomes higher grows lacks puts = rw grows (record {
    kept = record {
      under = under_last next more h es (omega (arith, higher)) kept.under;
      leads = λ x. puts x ∙ by_name x (bytes_eq x name) refl ∙ sym (stamp_last (is x) es next h);
      leads_other = λ x. kept.leads_other x ∙ sym (stamp_last (other x) es next h ∙ rw (kind.parts name x (variable_in h) here) (sym (or_none (stamp_of (other x) es))));
      distinct = subst (IsDistinct same_variable) (sym (seen_last es next h)) (IsDistinct-push same_equiv (seen es) (variable_in h) kept.distinct (alike ∙ none));
    };
    view = seen_last es next h ∙ (λ j. view j ++ becomes j ∷ []);
  })
    where
      here : is name (variable_in h) ≡ true
      here = ap (is name) becomes ∙ own

      none : list_any (is name) (seen es) ≡ false
      none = ap (list_any (is name)) view ∙ lacks

      alike : list_any (same_variable (variable_in h)) (seen es) ≡ list_any (is name) (seen es)
      alike = λ j. list_any (λ w. kind.like name (variable_in h) w here j) (seen es)

      no_other : (o : Option ℕ) → is_some o ≡ false → Some next ≡ option_or o (Some next)
      no_other None e = refl
      no_other (Some s) e = absurd cc

      by_name : (x : List ℕ) (b : Bool) → bytes_eq x name ≡ b → (if b then Some next else number_under x stamps) ≡ option_or (stamp_of (is x) es) (if is x (variable_in h) then Some next else None)
      by_name x true e = rw (kind.names name x (variable_in h) here, e) (no_other (stamp_of (is x) es) (known (is x) es ∙ ap (λ y. list_any (is y) (seen es)) ((bytes_decides x name).0 e) ∙ none))
      by_name x false e = rw (kind.names name x (variable_in h) here, e) (kept.leads x ∙ or_none (stamp_of (is x) es))

  pub written : {v : Variable} (content : Content) {s : ℕ} {now : List (ℕ × Held)} → is name ≡ same_variable v
      → ((h : Held) → is name (variable_in h) ≡ true → variable_in (with_content content h) ≡ v)
      → Rise 0 es → Some s ≡ number_under name stamps → now ≡ rewritten content s es → Left is other next now stamps others (put v vars)
  written {v} content {s} {now} same becomes up at change = rw change (record {
    kept = record {
      under = under_rewritten content next s es kept.under;
      leads = λ x. kept.leads x ∙ sym (stamp_rewritten (is name) (is x) content 0 s es
          (λ h here. ap (is x) (becomes h here) ∙ kind.names name x v own ∙ sym (kind.names name x (variable_in h) here)) up stands);
      leads_other = λ x. kept.leads_other x ∙ sym (stamp_rewritten (is name) (other x) content 0 s es
          (λ h here. ap (other x) (becomes h here) ∙ kind.parts name x v own ∙ sym (kind.parts name x (variable_in h) here)) up stands);
      distinct = subst (IsDistinct same_variable) (sym puts) (put_distinct v (seen es) kept.distinct);
    };
    view = puts ∙ ap (put v) view;
  })
    where
      own : is name v ≡ true
      own = ap (λ (test : Variable → Bool). test v) same ∙ same_equiv.refl v

      stands : stamp_of (is name) es ≡ Some s
      stands = sym (at ∙ kept.leads name)

      puts : seen (rewritten content s es) ≡ put v (seen es)
      puts = seen_rewritten v content 0 s es (λ h here. becomes h (ap (λ (test : Variable → Bool). test (variable_in h)) same ∙ here)) up
          (ap (λ (test : Variable → Bool). stamp_of test es) (sym same) ∙ stands)

  pub removed : {s : ℕ} {now : List (ℕ × Held)} {new : List (List ℕ × ℕ)} → Rise 0 es → Some s ≡ number_under name stamps → Puts name None stamps new → now ≡ without s es
      → Left is other next now new others (filter (λ v. not (is name v)) vars)
  removed {s} {now} {new} up at puts change = rw change (record {
    kept = record {
      under = under_without next s es kept.under;
      leads = λ x. puts x ∙ by_name x (bytes_eq x name) refl;
      leads_other = λ x. kept.leads_other x ∙ sym (stamp_without (is name) (other x) 0 s es (kind.parts name x) up stands);
      distinct = subst (IsDistinct same_variable) (sym out) (filter_distinct (λ v. not (is name v)) (seen es) kept.distinct);
    };
    view = out ∙ ap (filter (λ v. not (is name v))) view;
  })
    where
      stands : stamp_of (is name) es ≡ Some s
      stands = sym (at ∙ kept.leads name)

      out : seen (without s es) ≡ filter (λ v. not (is name v)) (seen es)
      out = seen_without (is name) 0 s es up stands ∙ filter_without (is name) (seen es) (kind.like name) kept.distinct

      none : list_any (is name) (seen (without s es)) ≡ false
      none = ap (list_any (is name)) out ∙ none_left (is name) (seen es)

      by_name : (x : List ℕ) (b : Bool) → bytes_eq x name ≡ b → (if b then None else number_under x stamps) ≡ stamp_of (is x) (without s es)
      by_name x true e = no_stamp (stamp_of (is x) (without s es)) (known (is x) (without s es) ∙ ap (λ y. list_any (is y) (seen (without s es))) ((bytes_decides x name).0 e) ∙ none)
      by_name x false e = kept.leads x ∙ sym (stamp_without (is name) (is x) 0 s es (λ v here. kind.names name x v here ∙ e) up stands)

pub kept_none : {es : List (ℕ × Held)} {stamps others : List (List ℕ × ℕ)} → es ≡ [] → stamps ≡ [] → others ≡ [] → AreKept is_int is_text 0 es stamps others
unfolding IsDistinct
kept_none p q r = rw (p, q, r) (record { under = tt; leads = λ name. refl; leads_other = λ name. refl; distinct = tt })

pub put_ok : (new longer changed : List Variable) (r : Result (Unit {0}) NoMemory) → changed ≡ longer → OnOk r (new ≡ longer) → OnOk r (new ≡ changed)
put_ok new longer changed (Ok u) is e = e ∙ sym is
put_ok new longer changed (Err e) is h = tt

-- ---- a walk

pub seen_first : (es : List (ℕ × Held)) (s : ℕ) (h : Held) → slice_get es 0 ≡ Some (s, h) → slice_get (seen es) 0 ≡ Some (variable_in h)
seen_first [] s h is = absurd cc
seen_first (e ∷ es) s h is = let same : e ≡ (s, h) = cc in ap (λ (x : ℕ × Held). Some (variable_in x.1)) same

pub seen_rest : (es : List (ℕ × Held)) → seen (drop 1 es) ≡ drop 1 (seen es)
seen_rest [] = refl
seen_rest (e ∷ es) = refl

drop_next : {X : Type 0} (n : ℕ) (xs : List X) → drop 1 (drop n xs) ≡ drop (suc n) xs
drop_next zero xs = refl
drop_next (suc n) [] = refl
drop_next (suc n) (x ∷ xs) = drop_next n xs

pub drop_more : {X : Type 0} (n : ℕ) (xs : List X) → drop 1 (drop n xs) ≡ drop (n + 1) xs
drop_more n xs = let next : suc n ≡ n + 1 = omega arith in drop_next n xs ∙ ap (λ k. drop k xs) next

pub first_of_rest : {X : Type 0} (n : ℕ) (xs : List X) → slice_get (drop n xs) 0 ≡ slice_get xs n
first_of_rest zero xs = refl
first_of_rest (suc n) [] = refl
first_of_rest (suc n) (x ∷ xs) = first_of_rest n xs

-- ---- no variables

pub none_left_is : (vars : List Variable) → length vars ≡ 0 → [] ≡ vars
none_left_is [] none = refl
none_left_is (v ∷ vars) none = absurd (omega (arith, none))

pub none_distinct : (vars : List Variable) → [] ≡ vars → IsDistinct same_variable vars
unfolding IsDistinct
none_distinct vars none = subst (IsDistinct same_variable) none tt
