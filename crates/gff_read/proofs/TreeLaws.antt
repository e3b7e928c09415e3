-- A file's tree is read exactly where its bytes stand for it, and they stand for no other.
use Rattle.std.proofs.Common.{◌≡◌, ◌<◌, ℕ, true, false, List, [], take, replicate, Ok, refl, sym, subst, ◌∙◌, arith}
use Rattle.std.specs.Prelude.{None}
use Rattle.gff_bytes.specs.File.{open_fault}
use Rattle.gff_tree.specs.Tree.{PlainNode, is_sound, struct_depth_limit}
use Rattle.gff_tree.specs.Whole.{PlainGff}
use Rattle.gff_read.specs.Walk.{Marks, struct_count, node_at, tree_of}
use Rattle.gff_read.specs.Laws.{TreesAreFew, TreesAreSound}
use Rattle.gff_read.specs.Stands.{Stands, OneTree}
use Rattle.gff_read.proofs.Steps.{bind_ok, ok_is}
use Rattle.gff_read.proofs.WalkLaws.{node_agrees, marked_none}
use Rattle.gff_tree.specs.Count.{node_count}
use Rattle.gff_read.proofs.CountLaws.{count_within}
use Rattle.gff_read.proofs.SoundLaws.{top_sound}

pub read_sound : (bytes : List ℕ) (marks : Marks) (node : PlainNode) (after : Marks) → marks ≡ replicate (struct_count bytes) false → node_at 64 bytes 0 marks ≡ Ok (node, after) → is_sound node ≡ true
read_sound bytes marks node after is e =
    let start : node_at 64 bytes 0 (replicate (struct_count bytes) false) ≡ Ok (node, after) = subst (λ (m : Marks). node_at 64 bytes 0 m ≡ Ok (node, after)) is e in
    let s = (node_agrees bytes 64).sound 0 (replicate (struct_count bytes) false) [] node after (marked_none (struct_count bytes)) start in
    top_sound bytes 0 node s.0 s.1

pub read_few : (bytes : List ℕ) (marks : Marks) (node : PlainNode) (after : Marks) → marks ≡ replicate (struct_count bytes) false → node_at 64 bytes 0 marks ≡ Ok (node, after) →
    struct_count bytes < 4294967296 → node_count node < 4294967296
read_few bytes marks node after is e few =
    let start : node_at 64 bytes 0 (replicate (struct_count bytes) false) ≡ Ok (node, after) = subst (λ (m : Marks). node_at 64 bytes 0 m ≡ Ok (node, after)) is e in
    let s = (node_agrees bytes 64).sound 0 (replicate (struct_count bytes) false) [] node after (marked_none (struct_count bytes)) start in
    omega (arith, few, count_within bytes node s.0 s.1 s.2)

pub stands_read : (bytes : List ℕ) (marks : Marks) (node : PlainNode) (after : Marks) (file_type : List ℕ)
    → marks ≡ replicate (struct_count bytes) false → node_at 64 bytes 0 marks ≡ Ok (node, after) →
    open_fault bytes ≡ None → file_type ≡ take 4 bytes → Stands bytes (record { file_type = file_type; top = node })
stands_read bytes marks node after file_type is e clear typed =
    let start : node_at 64 bytes 0 (replicate (struct_count bytes) false) ≡ Ok (node, after) = subst (λ (m : Marks). node_at 64 bytes 0 m ≡ Ok (node, after)) is e in
    let s = (node_agrees bytes 64).sound 0 (replicate (struct_count bytes) false) [] node after (marked_none (struct_count bytes)) start in
    record { uses = s.0; opens = clear; file_type = typed; top = s.1; distinct = s.2 }

pub tree_is : (bytes : List ℕ) (gff : PlainGff) → Stands bytes gff → tree_of bytes ≡ Ok gff
unfolding tree_of
tree_is bytes gff s =
    let r = (node_agrees bytes 64).complete 0 (replicate (struct_count bytes) false) [] gff.top s.uses (marked_none (struct_count bytes)) s.top s.distinct in
    rw (r.1, ← s.file_type) refl

pub one_tree : OneTree
one_tree bytes first second s t = ok_is first second (sym (tree_is bytes first s) ∙ tree_is bytes second t)

pub read_stands : (bytes : List ℕ) (gff : PlainGff) → open_fault bytes ≡ None → tree_of bytes ≡ Ok gff → Stands bytes gff
unfolding tree_of
read_stands bytes gff clear e =
    let b = bind_ok (node_at struct_depth_limit bytes 0 (replicate (struct_count bytes) false)) (λ top. Ok (record { file_type = take 4 bytes; top = top.0 })) gff e in
    let is : record { file_type = take 4 bytes; top = b.0.0 } ≡ gff = ok_is (record { file_type = take 4 bytes; top = b.0.0 }) gff b.2 in
    subst (Stands bytes) is (stands_read bytes (replicate (struct_count bytes) false) b.0.0 b.0.1 (take 4 bytes) refl b.1 clear refl)

pub stood_sound : TreesAreSound
stood_sound bytes gff s = top_sound bytes 0 gff.top s.uses s.top

pub stood_few : TreesAreFew
stood_few bytes gff s = count_within bytes gff.top s.uses s.top s.distinct
