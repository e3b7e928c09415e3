-- Plans by their lines.
use Rattle.std.proofs.Common.{◌≡◌, ◌≢◌, ℕ, ◌+◌, ◌⊎◌, inl, inr, Bool, true, false, cond, List, [], ◌∷◌, Option, Some, None, Result, Ok, Err, refl, sym, ap, ◌∙◌, subst}
use Rattle.std.proofs.lemmas.Option.{none-some, same_Some}
use Rattle.std.proofs.lemmas.Slice.Eq.{bytes_eq-Decides}
use Rattle.std.specs.Str.{bytes_eq}
use Rattle.nwq_text.specs.Lines.{lines_of}
use Rattle.plan_text.specs.declared.fault.PlanFault.{PlanFault}
use Rattle.plan_text.specs.declared.fault.PlanFault.TheVariants.{Line as BadLine, NoMemory}
use Rattle.plan_text.specs.declared.plan.Plan.{Plan}
use Rattle.plan_text.specs.Plans.{Draft, Reads, Baffles, Comes, whole, more, stops, Gives, headed, headless, IsHeaded, IsVersion, heading, HasPlan, IsFaulty, plan_of}
use Rattle.plan_text.specs.Steps.{version_in, ReadsOn, PlanStopsAt}

-- ---- going on

pub no_lines : (n : ℕ) (d : Draft) (left : List (List ℕ)) → left ≡ [] → Comes n d left (Ok d)
no_lines n d left e = subst (λ ls. Comes n d ls (Ok d)) (sym e) (whole n d)

pub more_lines : (read number now : ℕ) (d next : Draft) (line : List ℕ) (left lines : List (List ℕ)) (end : Result Draft ℕ) → left ≡ line ∷ lines
    → number ≡ read + 1 → now ≡ number → Reads d line next → Comes (now + 1) next lines end → Comes (read + 1) d left end
more_lines read number now d next line left lines end e is counted r on =
    subst (λ ls. Comes (read + 1) d ls end) (sym e)
    (more (read + 1) d next line lines end r (subst (λ n. Comes (n + 1) next lines end) (counted ∙ is) on))

pub bad_line : (read number : ℕ) (d : Draft) (line : List ℕ) (left lines : List (List ℕ)) → left ≡ line ∷ lines → number ≡ read + 1 → Baffles d line
    → Comes (read + 1) d left (Err number)
bad_line read number d line left lines e is baffles =
    subst (λ ls. Comes (read + 1) d ls (Err number)) (sym e)
    (subst (λ n. Comes (read + 1) d (line ∷ lines) (Err n)) (sym is) (stops (read + 1) d line lines baffles))

-- ---- the first line of a plan

-- no heading stands first
abbrev pub IsOther : List ℕ → Type 0
IsOther line = (version : ℕ) → IsVersion version → line ≢ heading version

pub headless_nothing : (bytes : List ℕ) → lines_of bytes ≡ [] → Gives bytes (Err 1)
headless_nothing bytes e = headless (λ h. subst IsHeaded e h)

pub headless_other : (bytes line : List ℕ) (lines : List (List ℕ)) → lines_of bytes ≡ line ∷ lines → IsOther line → Gives bytes (Err 1)
headless_other bytes line lines e other = headless (λ h. let head = subst IsHeaded e h in other head.0 head.1 head.2)

gives_headed : (version : ℕ) (bytes line : List ℕ) (lines : List (List ℕ)) → lines_of bytes ≡ line ∷ lines → line ≡ heading version
    → lines_of bytes ≡ heading version ∷ lines
gives_headed version bytes line lines e is = e ∙ ap (λ l. l ∷ lines) is

-- a fault behind the first line is the text's
pub faulty : (version : ℕ) (bytes line : List ℕ) (lines : List (List ℕ)) (fault : PlanFault) → lines_of bytes ≡ line ∷ lines → IsVersion version
    → line ≡ heading version → PlanStopsAt version lines fault → IsFaulty bytes fault
faulty version bytes line lines (BadLine n) e known is stops_at =
    headed version lines (Err n) known (gives_headed version bytes line lines e is) stops_at
faulty version bytes line lines NoMemory e known is stops_at = tt

pub has_plan : (version : ℕ) (bytes line : List ℕ) (lines : List (List ℕ)) (d : Draft) (plan : Plan) → lines_of bytes ≡ line ∷ lines
    → IsVersion version → line ≡ heading version → ReadsOn version lines d → plan ≡ plan_of d → HasPlan bytes plan
has_plan version bytes line lines d plan e known is on same =
    (d, headed version lines (Ok d) known (gives_headed version bytes line lines e is) on, same)

-- ---- headings

abbrev by_tests : Bool → Bool → Option ℕ
by_tests a b = cond a (Some 1) (cond b (Some 2) None)

chosen : (a b : Bool) (version : ℕ) → by_tests a b ≡ Some version
    → ((a ≡ true) × (version ≡ 1)) ⊎ ((b ≡ true) × (version ≡ 2))
chosen true b version e = inl (refl, sym (same_Some 1 version e))
chosen false true version e = inr (refl, sym (same_Some 2 version e))
chosen false false version e = absurd (none-some version e)

known_heading : (line : List ℕ) (version : ℕ) → ((bytes_eq line (heading 1) ≡ true) × (version ≡ 1)) ⊎ ((bytes_eq line (heading 2) ≡ true) × (version ≡ 2))
    → IsVersion version × (line ≡ heading version)
known_heading line version (inl h) = (inl h.1, (bytes_eq-Decides line (heading 1)).0 h.0 ∙ ap heading (sym h.1))
known_heading line version (inr h) = (inr h.1, (bytes_eq-Decides line (heading 2)).0 h.0 ∙ ap heading (sym h.1))

pub is_heading : (line : List ℕ) (version : ℕ) → version_in line ≡ Some version → IsVersion version × (line ≡ heading version)
unfolding version_in
is_heading line version e = known_heading line version (chosen (bytes_eq line (heading 1)) (bytes_eq line (heading 2)) version e)

neither : (a b : Bool) → by_tests a b ≡ None → (a ≡ false) × (b ≡ false)
neither true b e = absurd (none-some 1 (sym e))
neither false true e = absurd (none-some 2 (sym e))
neither false false e = (refl, refl)

other_heading : (line : List ℕ) (v : ℕ) → bytes_eq line (heading v) ≡ false → line ≢ heading v
other_heading line v e is = let t : true ≡ false = sym ((bytes_eq-Decides line (heading v)).1 is) ∙ e in cc

pub is_other : (line : List ℕ) → version_in line ≡ None → IsOther line
unfolding version_in
is_other line e version (inl h) is =
    other_heading line 1 (neither (bytes_eq line (heading 1)) (bytes_eq line (heading 2)) e).0 (is ∙ ap heading h)
is_other line e version (inr h) is =
    other_heading line 2 (neither (bytes_eq line (heading 1)) (bytes_eq line (heading 2)) e).1 (is ∙ ap heading h)
