-- What is so of the names of a disk, once something was put or taken out.
use Rattle.std.proofs.Common.{◌≡◌, ◌≢◌, ◌∙◌, ℕ, Bool, true, false, cond, List, [], ◌∷◌, map, Option, None, Some, is_some, refl, sym, ap}
use Rattle.std.proofs.lemmas.Cmp.{nat_list_cmp_total}
use Rattle.std.proofs.lemmas.Map.Lookups.{exact_bytes}
use Rattle.std.specs.Cmp.Lexicographic.{bytes_decides, slice_cmp}
use Rattle.std.specs.FinMap as names
use Rattle.std.specs.FinMap.{FinMap, find, insert, remove, entries, same_map, get-from_entries, get-retain_keys, get-entries}
use Rattle.std.specs.Option.{option_map, option_and_then, unwrap_or}
use Rattle.std.specs.Ordering.{nat_cmp, is_eq, eq_by_cmp}
use Rattle.std.specs.Str.{bytes_eq}
use Rattle.memory_disk.proofs.MapLemmas.{get_put, get_out, not_taken, taken, apart_of, same_of}
use Rattle.memory_disk.specs.Drive.{Nodes, each, bytes_in, mode_in, text_in, files_of, modes_of, links_of}
use Rattle.memory_disk.specs.declared.node.Node.{Node}

cond_map : {A B : Type 0} (f : A → B) (b : Bool) (x : A) (o : Option A) → cond b (Some (f x)) (option_map f o) ≡ option_map f (cond b (Some x) o)
cond_map f true x o = refl
cond_map f false x o = refl

cond_then : {A B : Type 0} (f : A → Option B) (b : Bool) (o r : Option A) → option_and_then f (cond b o r) ≡ cond b (option_and_then f o) (option_and_then f r)
cond_then f true o r = refl
cond_then f false o r = refl

kept : {X : Type 0} (other : X) (g : Option X) → cond (is_some g) (Some (unwrap_or g other)) None ≡ g
kept other None = refl
kept other (Some x) = refl

chosen : {X : Type 0} (get : Node → Option X) (other : X) (o : Option Node)
    → cond (is_some (option_and_then get o)) (option_map (λ n. unwrap_or (get n) other) o) None ≡ option_and_then get o
chosen get other None = refl
chosen get other (Some n) = kept other (get n)

module _ {X : Type 0} (get : Node → Option X) (other : X) where
  find_each : (es : List (List ℕ × Node)) (q : List ℕ)
      → find (slice_cmp nat_cmp) q (map (λ (e : List ℕ × Node). (e.0, unwrap_or (get e.1) other)) es) ≡ option_map (λ n. unwrap_or (get n) other) (find (slice_cmp nat_cmp) q es)
  find_each [] q = refl
  find_each (e ∷ es) q =
      ap (cond (eq_by_cmp (slice_cmp nat_cmp) q e.0) (Some (unwrap_or (get e.1) other))) (find_each es q)
      ∙ cond_map (λ n. unwrap_or (get n) other) (eq_by_cmp (slice_cmp nat_cmp) q e.0) e.1 (find (slice_cmp nat_cmp) q es)

  pub get_each : (nodes : Nodes) (q : List ℕ) → names.get (each get other nodes) q ≡ option_and_then get (names.get nodes q)
  unfolding each
  get_each nodes q =
      get-retain_keys _ (λ name. is_some (option_and_then get (names.get nodes name))) q
      (λ x tie. ap (λ name. is_some (option_and_then get (names.get nodes name))) (sym (exact_bytes q x tie)))
      ∙ ap (λ o. cond (is_some (option_and_then get (names.get nodes q))) o None)
      (get-from_entries nat_list_cmp_total _ q ∙ find_each (entries nodes) q ∙ ap (option_map (λ n. unwrap_or (get n) other)) (sym (get-entries nodes q)))
      ∙ chosen get other (names.get nodes q)

  module _ (nodes : Nodes) (name : List ℕ) where
    pub each_put : (node : Node) (q : List ℕ) → names.get (each get other (insert nodes name node)) q ≡ cond (bytes_eq q name) (get node) (names.get (each get other nodes) q)
    each_put node q =
        get_each (insert nodes name node) q
        ∙ ap (option_and_then get) (get_put nodes name node q)
        ∙ cond_then get (bytes_eq q name) (Some node) (names.get nodes q)
        ∙ ap (cond (bytes_eq q name) (get node)) (sym (get_each nodes q))

    pub each_out : (q : List ℕ) → names.get (each get other (remove nodes name)) q ≡ cond (bytes_eq q name) None (names.get (each get other nodes) q)
    each_out q =
        get_each (remove nodes name) q
        ∙ ap (option_and_then get) (get_out nodes name q)
        ∙ cond_then get (bytes_eq q name) None (names.get nodes q)
        ∙ ap (cond (bytes_eq q name) None) (sym (get_each nodes q))

    -- what is put under a name is so of that name, and each other name is as it was
    pub put_at : (node : Node) → names.get (each get other (insert nodes name node)) name ≡ get node
    put_at node = each_put node name ∙ taken (bytes_eq name name) _ _ (same_of name)

    pub put_apart : (node : Node) (q : List ℕ) → q ≢ name → names.get (each get other (insert nodes name node)) q ≡ names.get (each get other nodes) q
    put_apart node q apart = each_put node q ∙ not_taken (bytes_eq q name) _ _ (apart_of q name apart)

    pub out_at : names.get (each get other (remove nodes name)) name ≡ None
    out_at = each_out name ∙ taken (bytes_eq name name) _ _ (same_of name)

    pub out_apart : (q : List ℕ) → q ≢ name → names.get (each get other (remove nodes name)) q ≡ names.get (each get other nodes) q
    out_apart q apart = each_out q ∙ not_taken (bytes_eq q name) _ _ (apart_of q name apart)

    pub put_inserts : (node : Node) (x : X) → get node ≡ Some x → each get other (insert nodes name node) ≡ insert (each get other nodes) name x
    put_inserts node x is =
        same_map nat_list_cmp_total exact_bytes _ _
        (λ q. each_put node q ∙ ap (λ o. cond (bytes_eq q name) o (names.get (each get other nodes) q)) is ∙ sym (get_put (each get other nodes) name x q))

    -- of a name of which the same was so before, nothing changes
    unchanged : (o : Option X) → o ≡ names.get (each get other nodes) name → (q : List ℕ)
        → cond (bytes_eq q name) o (names.get (each get other nodes) q) ≡ names.get (each get other nodes) q
    unchanged o same q = by (bytes_eq q name) refl
      where
        by : (b : Bool) → bytes_eq q name ≡ b → cond b o (names.get (each get other nodes) q) ≡ names.get (each get other nodes) q
        by true is = same ∙ ap (names.get (each get other nodes)) (sym ((bytes_decides q name).0 is))
        by false is = refl

    pub put_same : (node : Node) → get node ≡ names.get (each get other nodes) name → each get other (insert nodes name node) ≡ each get other nodes
    put_same node same = same_map nat_list_cmp_total exact_bytes _ _ (λ q. each_put node q ∙ unchanged (get node) same q)

    pub out_same : None ≡ names.get (each get other nodes) name → each get other (remove nodes name) ≡ each get other nodes
    out_same same = same_map nat_list_cmp_total exact_bytes _ _ (λ q. each_out q ∙ unchanged None same q)

pub bytes_at : (nodes : Nodes) (name : List ℕ) → names.get (files_of nodes) name ≡ option_and_then bytes_in (names.get nodes name)
bytes_at nodes name = get_each bytes_in [] nodes name

pub mode_at : (nodes : Nodes) (name : List ℕ) → names.get (modes_of nodes) name ≡ option_and_then mode_in (names.get nodes name)
mode_at nodes name = get_each mode_in 0 nodes name

pub link_at : (nodes : Nodes) (name : List ℕ) → names.get (links_of nodes) name ≡ option_and_then text_in (names.get nodes name)
link_at nodes name = get_each text_in [] nodes name

pub ruleset looks = (bytes_at, mode_at, link_at)
