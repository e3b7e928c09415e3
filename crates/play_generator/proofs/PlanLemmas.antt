-- The plan as the pieces that are appended.
use Rattle.std.proofs.Common.{◌≡◌, ℕ, ◌+◌, List, [], ◌∷◌, ◌++◌, map, codes, Result, Ok, Err, refl, sym, ap, ◌∙◌, append_assoc, arith}
use Rattle.std.specs.List.{flat_map}
use Rattle.std.specs.Result.{OnOk}
use Rattle.std.proofs.lemmas.Grind.{flat_map-append}
use Rattle.std.proofs.lemmas.List.{flat_map_more}
use Rattle.std.proofs.lemmas.List.FromFn.{map-range_with_len_more}
use Rattle.std.proofs.lemmas.List.Folds.{flat_map-map}
use Rattle.play_generator.specs.Made.{below, ended, event_line, lines_text, round_lines, plan_text}

same : (xs : List ℕ) → map (λ x. x) xs ≡ xs
same [] = refl
same (x ∷ xs) = ap (λ l. x ∷ l) (same xs)

next_below : (n : ℕ) → below (n + 1) ≡ below n ++ n ∷ []
next_below n = sym (same (below (n + 1))) ∙ map-range_with_len_more (λ x. x) 0 n n (omega arith) ∙ ap (λ l. l ++ n ∷ []) (same (below n))

-- one more number's text
pub one_more : (text : ℕ → List ℕ) (n : ℕ) (before out now : List ℕ) → out ≡ before ++ flat_map text (below n) → now ≡ out ++ text n
    → now ≡ before ++ flat_map text (below (n + 1))
one_more text n before out now so e =
    e ∙ ap (λ l. l ++ text n) so ∙ flat_map_more text before (below n) n ∙ ap (λ l. before ++ flat_map text l) (sym (next_below n))

-- a round's text, event by event
pub whole_round : (creatures round : ℕ) → flat_map (λ creature. ended (event_line round creature)) (below creatures) ≡ lines_text (round_lines creatures round)
whole_round creatures round = sym (flat_map-map ended (event_line round) (below creatures))

rounds_text : (creatures : ℕ) (rounds : List ℕ) → flat_map (λ round. lines_text (round_lines creatures round)) rounds ≡ lines_text (flat_map (round_lines creatures) rounds)
rounds_text creatures [] = refl
rounds_text creatures (round ∷ rounds) =
    ap (λ l. lines_text (round_lines creatures round) ++ l) (rounds_text creatures rounds)
    ∙ sym (flat_map-append ended (round_lines creatures round) (flat_map (round_lines creatures) rounds))

abbrev pub head : List ℕ
head = codes "NWQ PLAN 1\nentries 1000000\nuntil 4294967295\nscript beat\n"

pub whole_plan : (rounds creatures : ℕ) (out : List ℕ)
    → (out ++ head) ++ flat_map (λ round. lines_text (round_lines creatures round)) (below rounds) ≡ out ++ plan_text rounds creatures
unfolding plan_text
whole_plan rounds creatures out = append_assoc out head _ ∙ ap (λ l. out ++ (head ++ l)) (rounds_text creatures (below rounds))

-- what both calls appended
pub plan_grown : {T E : Type 0} (rounds creatures : ℕ) (out first now : List ℕ) (result : Result T E) → first ≡ out ++ head
    → OnOk result (now ≡ first ++ flat_map (λ round. lines_text (round_lines creatures round)) (below rounds)) → OnOk result (now ≡ out ++ plan_text rounds creatures)
plan_grown rounds creatures out first now (Ok x) a b = b ∙ ap (λ l. l ++ flat_map (λ round. lines_text (round_lines creatures round)) (below rounds)) a ∙ whole_plan rounds creatures out
plan_grown rounds creatures out first now (Err e) a b = tt
