-- What a tree of names holds once something was put or taken out.
use Rattle.std.proofs.Common.{◌≡◌, ◌∙◌, ℕ, Bool, true, false, cond, Vec, List, [], ◌∷◌, map, Option, None, Some, refl, sym, ap}
use Rattle.std.proofs.lemmas.Cmp.{nat_list_cmp_total}
use Rattle.std.proofs.lemmas.Map.Lookups.{exact_bytes}
use Rattle.std.proofs.lemmas.Map.Text.{is_eq-slice_cmp}
use Rattle.std.specs.declared.alloc.Global.{Global}
use Rattle.std.specs.BTreeMap.{BTreeMap, Updates, UpdatesBy, get_by, is_at}
use Rattle.std.specs.Cmp.Lexicographic.{nat_list_eq_equiv, bytes_decides, slice_cmp}
use Rattle.std.specs.FinMap.{get, insert, remove, find, same_map, get-from_entries}
use Rattle.std.specs.Map.{lookup}
use Rattle.std.specs.Ordering.{is_eq, nat_cmp}
use Rattle.std.specs.Str.{bytes_eq}
use Rattle.memory_disk.proofs.MapLemmas.{get_put, get_out}
use Rattle.memory_disk.specs.Drive.{Nodes}
use Rattle.memory_disk.specs.Tree.{nodes_of}
use Rattle.memory_disk.specs.declared.node.Node.{Node}

abbrev is_name : List ℕ → Vec ℕ Global → Bool
is_name name k = is_eq (slice_cmp nat_cmp name k.items)

find_held : (es : List (Vec ℕ Global × Node)) (name : List ℕ)
    → find (slice_cmp nat_cmp) name (map (λ (e : Vec ℕ Global × Node). (e.0.items, e.1)) es) ≡ lookup (is_name name) es
find_held [] name = refl
find_held (e ∷ es) name = ap (cond (is_name name e.0) (Some e.1)) (find_held es name)

-- what a name has is what the tree has under it
pub get_held : (held : BTreeMap (Vec ℕ Global) Node) (name : List ℕ) → get (nodes_of held) name ≡ get_by (λ k. slice_cmp nat_cmp name k.items) held
get_held held name = get-from_entries nat_list_cmp_total _ name ∙ find_held held.entries name

module _ (name : List ℕ) (m n : BTreeMap (Vec ℕ Global) Node) (w : Option Node)
    (h : UpdatesBy (λ a b. slice_cmp nat_cmp a.items b.items) (λ k. slice_cmp nat_cmp name k.items) m n w) where
  other : (x : List ℕ) → bytes_eq x name ≡ false → lookup (is_name x) n.entries ≡ lookup (is_name x) m.entries
  unfolding Rattle.std.specs.Map.KeepsOthers
  other x apart = h.3 (is_name x)
      (λ a b one. is_eq-slice_cmp x b.items
      ∙ nat_list_eq_equiv.congr x a.items b.items (sym (is_eq-slice_cmp x a.items) ∙ one)
      ∙ sym (is_eq-slice_cmp a.items b.items))
      (λ k is. is_eq-slice_cmp x k.items
      ∙ ap (bytes_eq x) (sym ((bytes_decides name k.items).0 (sym (is_eq-slice_cmp name k.items) ∙ is))) ∙ apart)

  found : (x : List ℕ) → lookup (is_name x) n.entries ≡ cond (bytes_eq x name) w (lookup (is_name x) m.entries)
  found x = by (bytes_eq x name) refl
    where
      by : (b : Bool) → bytes_eq x name ≡ b → lookup (is_name x) n.entries ≡ cond b w (lookup (is_name x) m.entries)
      by true is = ap (λ y. lookup (is_name y) n.entries) ((bytes_decides x name).0 is) ∙ h.1
      by false is = other x is

  pub get_after : (x : List ℕ) → get (nodes_of n) x ≡ cond (bytes_eq x name) w (get (nodes_of m) x)
  get_after x = get_held n x ∙ found x ∙ ap (cond (bytes_eq x name) w) (sym (get_held m x))

-- an entry that is put into the tree is put into what it holds
pub insert_held : (before after : BTreeMap (Vec ℕ Global) Node) (key : Vec ℕ Global) (name : List ℕ) (node : Node) → key.items ≡ name
    → Updates (λ a b. slice_cmp nat_cmp a.items b.items) before after key (Some node) → nodes_of after ≡ insert (nodes_of before) name node
insert_held before after key name node is put =
    same_map nat_list_cmp_total exact_bytes (nodes_of after) (insert (nodes_of before) key.items node)
    (λ q. get_after key.items before after (Some node) put q ∙ sym (get_put (nodes_of before) key.items node q))
    ∙ ap (λ k. insert (nodes_of before) k node) is

pub remove_held : (before after : BTreeMap (Vec ℕ Global) Node) (name : List ℕ)
    → UpdatesBy (λ a b. slice_cmp nat_cmp a.items b.items) (λ k. slice_cmp nat_cmp name k.items) before after None → nodes_of after ≡ remove (nodes_of before) name
remove_held before after name out =
    same_map nat_list_cmp_total exact_bytes (nodes_of after) (remove (nodes_of before) name)
    (λ q. get_after name before after None out q ∙ sym (get_out (nodes_of before) name q))
