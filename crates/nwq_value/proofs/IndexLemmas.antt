-- What an index has under a name, by the map behind it.
use Rattle.std.proofs.Common.{◌≡◌, ◌∙◌, ℕ, Bool, true, false, cond, if◌then◌else◌, Vec, List, [], ◌∷◌, map, Option, None, Some, IsSome, refl, sym, ap, subst}
use Rattle.std.proofs.lemmas.Map.Text.{is_eq-slice_cmp}
use Rattle.std.specs.declared.alloc.Global.{Global}
use Rattle.std.specs.BTreeMap.{BTreeMap, UpdatesBy}
use Rattle.std.specs.Cmp.Lexicographic.{nat_list_eq_equiv, bytes_decides, slice_cmp}
use Rattle.std.specs.Map.{lookup}
use Rattle.std.specs.Ordering.{is_eq, nat_cmp}
use Rattle.std.specs.Str.{bytes_eq}
use Rattle.nwq_value.specs.Index.{entry, number_under, Puts}

-- the test that finds a name among the keys
abbrev is_name : List ℕ → Vec ℕ Global → Bool
is_name name k = is_eq (slice_cmp nat_cmp name k.items)

pub found : (name : List ℕ) (es : List (Vec ℕ Global × ℕ)) → lookup (is_name name) es ≡ number_under name (map entry es)
found name [] = refl
found name (e ∷ es) =
    ap (λ b. cond b (Some e.1) (lookup (is_name name) es)) (is_eq-slice_cmp name e.0.items)
    ∙ ap (cond (bytes_eq name e.0.items) (Some e.1)) (found name es)

module _ (name : List ℕ) (m n : BTreeMap (Vec ℕ Global) ℕ) (w : Option ℕ)
    (h : UpdatesBy (λ a b. slice_cmp nat_cmp a.items b.items) (λ k. slice_cmp nat_cmp name k.items) m n w) where
  other : (x : List ℕ) → bytes_eq x name ≡ false → lookup (is_name x) n.entries ≡ lookup (is_name x) m.entries
  unfolding Rattle.std.specs.Map.KeepsOthers
  other x apart = h.3 (is_name x)
      (λ a b one. is_eq-slice_cmp x b.items
      ∙ nat_list_eq_equiv.congr x a.items b.items (sym (is_eq-slice_cmp x a.items) ∙ one)
      ∙ sym (is_eq-slice_cmp a.items b.items))
      (λ k is. is_eq-slice_cmp x k.items
      ∙ ap (bytes_eq x) (sym ((bytes_decides name k.items).0 (sym (is_eq-slice_cmp name k.items) ∙ is))) ∙ apart)

  pub puts : Puts name w (map entry m.entries) (map entry n.entries)
  puts x = by (bytes_eq x name) refl
    where
      by : (b : Bool) → bytes_eq x name ≡ b → number_under x (map entry n.entries) ≡ (if b then w else number_under x (map entry m.entries))
      by true is = ap (λ y. number_under y (map entry n.entries)) ((bytes_decides x name).0 is) ∙ sym (found name n.entries) ∙ h.1
      by false is = sym (found x n.entries) ∙ other x is ∙ found x m.entries

  -- the same of the name and of the index as a caller has them
  pub puts_in : (own : List ℕ) (old : List (List ℕ × ℕ)) → name ≡ own → map entry m.entries ≡ old → Puts own w old (map entry n.entries)
  puts_in own old is view x = puts x ∙ ap (λ k. if bytes_eq x k then w else number_under x (map entry m.entries)) is
      ∙ ap (λ o. if bytes_eq x own then w else number_under x o) view

-- a name that the map lacks has no number
pub not_there : {P : Type 0} (name : List ℕ) (es : List (Vec ℕ Global × ℕ)) → None ≡ lookup (is_name name) es → IsSome (number_under name (map entry es)) → P
not_there name es none there =
    let nowhere : IsSome {T = ℕ} None = subst IsSome (sym (found name es) ∙ sym none) there in cc
