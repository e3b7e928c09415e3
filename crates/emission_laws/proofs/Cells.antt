-- What each instruction's rule says of types on top of other slots.
use Rattle.std.proofs.Common.{arith, ◌≡◌, ◌≤◌, ◌<◌, ◌+◌, ◌-◌, cond, ℕ, List, [], ◌∷◌, ◌++◌, length, map, take, drop, reverse, Option, Some, None, sym, ◌∙◌, ap, refl, append_assoc, option_map}
use Rattle.std.proofs.lemmas.Bool.Decides.{nat_tests}
use Rattle.std.proofs.lemmas.List.{reverse-append, length-reverse, length-append, take-append-drop, length-take-le, take_at, drop_at}
use Rattle.nwq_value.specs.declared.value.Ty.{Ty}
use Rattle.nwq_value.specs.declared.value.Ty.TheVariants.{Int}
use Rattle.emission_rules.specs.Operations.{beneath, bytes_of}
use Rattle.stack_shape.specs.declared.shape.Slot.{Slot}
use Rattle.stack_shape.specs.declared.shape.Slot.TheVariants.{Of}
use Rattle.stack_shape.specs.declared.effect.StackEffect.{StackEffect}
use Rattle.stack_shape.specs.Ranges.{cell_count, depth_of, range_at}
use Rattle.stack_shape.specs.TopFirst.{types_on, types_at}
use Rattle.stack_shape.specs.StackEffects.{no_effect, where_alike, exchange, copied, written, range_int_changed, removed, kept_of, kept, runs}
use Rattle.stack_shape.specs.Stored.{TopShape, stored_types}
use Rattle.stack_shape.specs.Rule.{affected}
use Rattle.emission_laws.specs.Spots.{Way, Spot}
use Rattle.source_laws.specs.RangeLemmas.{count_of, depth_beneath, range_there, tys_same}

-- ---- types on other slots

-- what a routine stands on: the slots beneath its types, those beneath BP, and what each SAVEBP has
-- put aside
pub record Ground : Type 0 where
  pub way : Way
  pub mid : List Slot
  pub under : List Slot
  pub saved : List (List Slot)

abbrev pub over : Ground → ℕ → List Ty → TopShape
over g p ts = record { cells = map Of ts ++ g.mid; under = g.under; saved = g.saved; pending = p }

abbrev pub spot_over : Ground → ℕ → List Ty → Spot
spot_over g p ts = record { way = g.way; shape = over g p ts }

pub types_there : (us ts : List Ty) (mid : List Slot) → types_on (length us) (map Of (us ++ ts) ++ mid) ≡ Some us
types_there [] ts mid = refl
types_there (u ∷ us) ts mid = ap (option_map (λ (types : List Ty). u ∷ types)) (types_there us ts mid)

pub drop_there : (us ts : List Ty) (mid : List Slot) → drop (length us) (map Of (us ++ ts) ++ mid) ≡ map Of ts ++ mid
drop_there [] ts mid = refl
drop_there (u ∷ us) ts mid = drop_there us ts mid

pub on_top : (vs ts : List Ty) (mid : List Slot) → map Of vs ++ (map Of ts ++ mid) ≡ map Of (vs ++ ts) ++ mid
on_top [] ts mid = refl
on_top (v ∷ vs) ts mid = ap (λ (rest : List Slot). Of v ∷ rest) (on_top vs ts mid)

pub affects : (g : Ground) (p : ℕ) (us vs ts : List Ty) (effect : Option StackEffect) → effect ≡ Some (record { pops = length us; pushes = vs })
    → affected effect (over g p (us ++ ts)) ≡ Some (over g p (vs ++ ts))
affects g p us vs ts effect e =
    ap (λ o. affected o (over g p (us ++ ts))) e
    ∙ ap (λ (cells : List Slot). Some (record (over g p ts) { cells = cells }))
    (ap (λ (rest : List Slot). map Of vs ++ rest) (drop_there us ts g.mid) ∙ on_top vs ts g.mid)

pub alike : (ts : List Ty) (e : StackEffect) → where_alike (Some ts) (Some ts) e ≡ Some e
alike ts e = ap (λ b. cond b (Some e) None) (tys_same ts)

pub exchanged : (us vs ts : List Ty) (mid : List Slot) → exchange us vs (map Of (us ++ ts) ++ mid) ≡ Some (record { pops = length us; pushes = vs })
unfolding exchange
exchanged us vs ts mid = ap (λ o. where_alike o (Some us) (record { pops = length us; pushes = vs })) (types_there us ts mid) ∙ alike us _

-- ---- places

-- These types stand among others, over so many.
pub record Seen (ts : List Ty) (place : ℕ) (us : List Ty) : Type 0 where
  pub above : List Ty
  pub below : List Ty
  pub is : ts ≡ above ++ (us ++ below)
  pub at : length below ≡ place

pub seen_over : (vs ts : List Ty) (place : ℕ) (us : List Ty) → Seen ts place us → Seen (vs ++ ts) place us
seen_over vs ts place us s = record { above = vs ++ s.above; below = s.below; is = ap (λ (l : List Ty). vs ++ l) s.is ∙ sym (append_assoc vs s.above (us ++ s.below)); at = s.at }

pub seen_deep : {ts : List Ty} {place : ℕ} {us : List Ty} (s : Seen ts place us) → length s.above + length us + place ≡ length ts
seen_deep {ts = ts} {us = us} s =
    let e = ap length s.is in
    omega (arith, e, s.at, length-append s.above (us ++ s.below), length-append us s.below)

pub seen_range : {ts : List Ty} {place : ℕ} {us : List Ty} (s : Seen ts place us) → 0 < length us
    → range_at (beneath (length ts - place)) (bytes_of (length us)) ≡ Some (record { above = length s.above; count = length us })
seen_range {ts = ts} {place = place} {us = us} s some = range_there (length ts - place) (length s.above) (length us) some (omega (arith, seen_deep s))

pub seen_types : {ts : List Ty} {place : ℕ} {us : List Ty} (s : Seen ts place us) (mid : List Slot)
    → types_at (record { above = length s.above; count = length us }) (map Of ts ++ mid) ≡ Some us
seen_types {us = us} s mid =
    ap (λ (l : List Ty). types_on (length us) (drop (length s.above) (map Of l ++ mid))) s.is
    ∙ ap (types_on (length us)) (drop_there s.above (us ++ s.below) mid)
    ∙ types_there us s.below mid

module _ {ts : List Ty} {place : ℕ} {us : List Ty} (s : Seen ts place us) (mid : List Slot) (some : 0 < length us) where
  pub copied_there : copied (range_at (beneath (length ts - place)) (bytes_of (length us))) (map Of ts ++ mid) ≡ Some (record { pops = 0; pushes = us })
  copied_there =
      ap (λ o. copied o (map Of ts ++ mid)) (seen_range s some)
      ∙ ap (option_map (λ (types : List Ty). record { pops = 0; pushes = types })) (seen_types s mid)

  pub written_there : (cells : List Slot) → types_on (length us) cells ≡ Some us
      → written (range_at (beneath (length ts - place)) (bytes_of (length us))) cells (map Of ts ++ mid) ≡ Some no_effect
  written_there cells h =
      ap (λ o. written o cells (map Of ts ++ mid)) (seen_range s some)
      ∙ ap (λ o. where_alike o (types_at (record { above = length s.above; count = length us }) (map Of ts ++ mid)) no_effect) h
      ∙ ap (λ o. where_alike (Some us) o no_effect) (seen_types s mid)
      ∙ alike us no_effect

pub counted_there : {ts : List Ty} {place : ℕ} (s : Seen ts place (Int ∷ [])) (mid : List Slot) → range_int_changed (range_at (beneath (length ts - place)) 4) (map Of ts ++ mid) ≡ Some no_effect
counted_there {ts = ts} s mid =
    ap (λ o. range_int_changed o (map Of ts ++ mid)) (seen_range s (omega arith))
    ∙ ap (λ o. where_alike o (Some (Int ∷ [])) no_effect) (seen_types s mid)
    ∙ alike (Int ∷ []) no_effect

pub removed_there : (us ts : List Ty) (mid : List Slot) → removed (depth_of (beneath (length us))) (map Of (us ++ ts) ++ mid) ≡ Some (record { pops = length us; pushes = [] })
removed_there us ts mid =
    ap (λ o. removed o (map Of (us ++ ts) ++ mid)) (depth_beneath (length us))
    ∙ ap (option_map (λ (types : List Ty). record { pops = length us; pushes = [] })) (types_there us ts mid)

-- parts of cells, counted from the lowest one
kept_types : (all : List Ty) (before : ℕ) (parts : List Ty) → take (length parts) (drop before all) ≡ parts → before + length parts ≤ length all
    → take (length parts) (drop (length all - (before + length parts)) (reverse all)) ≡ reverse parts
kept_types all before parts are inside =
    let low : List Ty = take before all in
    let rest : List Ty = drop (length parts) (drop before all) in
    let whole : all ≡ low ++ (parts ++ rest) =
    sym (take-append-drop before all) ∙ ap (λ (l : List Ty). low ++ l) (sym (take-append-drop (length parts) (drop before all)) ∙ ap (λ (l : List Ty). l ++ rest) are) in
    let turned : reverse all ≡ reverse rest ++ (reverse parts ++ reverse low) =
    ap reverse whole ∙ reverse-append low (parts ++ rest) ∙ ap (λ (l : List Ty). l ++ reverse low) (reverse-append parts rest) ∙ append_assoc (reverse rest) (reverse parts) (reverse low) in
    let few : length (reverse rest) ≡ length all - (before + length parts) =
    omega (arith, ap length whole, length-append low (parts ++ rest), length-append parts rest, length-reverse rest, length-take-le before all (omega (arith, inside))) in
    ap (λ (l : List Ty). take (length parts) (drop (length all - (before + length parts)) l)) turned
    ∙ ap (take (length parts)) (drop_at (reverse rest) (reverse parts ++ reverse low) (length all - (before + length parts)) few)
    ∙ take_at (reverse parts) (reverse low) (length parts) (length-reverse parts)

-- a part of what is seen is seen
pub seen_part : (ts : List Ty) (place : ℕ) (all : List Ty) (before : ℕ) (parts : List Ty) → Seen ts place (reverse all)
    → take (length parts) (drop before all) ≡ parts → before + length parts ≤ length all → Seen ts (place + before) (reverse parts)
seen_part ts place all before parts s are inside =
    let low : List Ty = take before all in
    let rest : List Ty = drop (length parts) (drop before all) in
    let whole : all ≡ low ++ (parts ++ rest) =
    sym (take-append-drop before all) ∙ ap (λ (l : List Ty). low ++ l) (sym (take-append-drop (length parts) (drop before all)) ∙ ap (λ (l : List Ty). l ++ rest) are) in
    let turned : reverse all ≡ reverse rest ++ (reverse parts ++ reverse low) =
    ap reverse whole ∙ reverse-append low (parts ++ rest) ∙ ap (λ (l : List Ty). l ++ reverse low) (reverse-append parts rest) ∙ append_assoc (reverse rest) (reverse parts) (reverse low) in
    record {
      above = s.above ++ reverse rest;
      below = reverse low ++ s.below;
      is = s.is
          ∙ ap (λ (l : List Ty). s.above ++ l) (ap (λ (l : List Ty). l ++ s.below) turned ∙ append_assoc (reverse rest) (reverse parts ++ reverse low) s.below
          ∙ ap (λ (l : List Ty). reverse rest ++ l) (append_assoc (reverse parts) (reverse low) s.below))
          ∙ sym (append_assoc s.above (reverse rest) (reverse parts ++ (reverse low ++ s.below)));
      at = omega (arith, length-append (reverse low) s.below, length-reverse low, length-take-le before all (omega (arith, inside)), s.at);
    }

kept_numbers : (total before count : ℕ) (cells : List Slot) → kept (bytes_of total) (bytes_of before) (bytes_of count) cells ≡ kept_of total before count cells
unfolding kept
kept_numbers total before count cells = rw (count_of total, count_of before, count_of count) refl

kept_if : (total before count : ℕ) (cells : List Slot) (types : List Ty) → before + count ≤ total → types_on total cells ≡ Some types
    → kept_of total before count cells ≡ Some (record { pops = total; pushes = take count (drop (total - (before + count)) types) })
kept_if total before count cells types less h = rw h (grind (arith, nat_tests))

pub kept_there : (all : List Ty) (before : ℕ) (parts ts : List Ty) (mid : List Slot) → take (length parts) (drop before all) ≡ parts → before + length parts ≤ length all
    → kept (bytes_of (length all)) (bytes_of before) (bytes_of (length parts)) (map Of (reverse all ++ ts) ++ mid) ≡ Some (record { pops = length (reverse all); pushes = reverse parts })
kept_there all before parts ts mid are inside =
    kept_numbers (length all) before (length parts) (map Of (reverse all ++ ts) ++ mid)
    ∙ kept_if (length all) before (length parts) (map Of (reverse all ++ ts) ++ mid) (reverse all) inside
    (ap (λ n. types_on n (map Of (reverse all ++ ts) ++ mid)) (sym (length-reverse all)) ∙ types_there (reverse all) ts mid)
    ∙ ap (λ (n : ℕ). Some (record { pops = n; pushes = take (length parts) (drop (length all - (before + length parts)) (reverse all)) })) (sym (length-reverse all))
    ∙ ap (λ (l : List Ty). Some (record { pops = length (reverse all); pushes = l })) (kept_types all before parts are inside)

-- two values of one type
pub runs_there : (us ts : List Ty) (mid : List Slot) → runs (cell_count (bytes_of (length us))) (map Of (us ++ (us ++ ts)) ++ mid) ≡ Some (record { pops = length (us ++ us); pushes = Int ∷ [] })
runs_there us ts mid =
    let cells : List Slot = map Of (us ++ (us ++ ts)) ++ mid in
    let effect : StackEffect = record { pops = length us + length us; pushes = Int ∷ [] } in
    ap (λ o. runs o cells) (count_of (length us))
    ∙ ap (λ o. where_alike o (types_on (length us) (drop (length us) cells)) effect) (types_there us (us ++ ts) mid)
    ∙ ap (λ o. where_alike (Some us) o effect) (ap (types_on (length us)) (drop_there us (us ++ ts) mid) ∙ types_there us ts mid)
    ∙ alike us effect
    ∙ ap (λ (n : ℕ). Some (record { pops = n; pushes = Int ∷ [] })) (sym (length-append us us))

pub stored_there : (gs us ts : List Ty) (mid : List Slot)
    → stored_types (bytes_of (length gs)) (bytes_of (length us)) (map Of gs) (map Of (us ++ ts) ++ mid)
    ≡ Some (record { globals = gs; locals = us })
unfolding stored_types
stored_there gs us ts mid =
    let whole : types_on (length gs) (map Of gs) ≡ Some gs = all_there gs in
    rw (count_of (length gs), count_of (length us), whole, types_there us ts mid) refl
  where
    all_there : (gs : List Ty) → types_on (length gs) (map Of gs) ≡ Some gs
    all_there [] = refl
    all_there (g ∷ gs) = ap (option_map (λ (types : List Ty). g ∷ types)) (all_there gs)
