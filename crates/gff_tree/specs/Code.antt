-- By what a proof tells plain trees apart: each is the list of steps that make it.
use Rattle.std.specs.Prelude.{◌≡◌, ℕ, List, [], ◌∷◌}
use Rattle.std.specs.Coded.{Coded, code_by, codes}
use mathlib.Core.Path.{refl, ap, ◌∙◌}
use Rattle.gff_tree.specs.Tree.{Scalar, PlainNode, Struct, PlainFields, NoField, MoreFields, PlainLeaf, Holds, Child, Children, PlainNodes, NoNode, MoreNodes}

-- a step makes a part of a tree from the parts made last
pub data Step : Type 0 where
  MakesStruct : ℕ → Step
  MakesNoField : Step
  MakesField : List ℕ → Step
  MakesScalar : Scalar → Step
  MakesChild : Step
  MakesChildren : Step
  MakesNoNode : Step
  MakesNode : Step

-- the parts that are made, the last ones first
pub record Parts : Type 0 where
  pub nodes : List PlainNode
  pub fields : List PlainFields
  pub leaves : List PlainLeaf
  pub lists : List PlainNodes

abbrev mutual
  pub node_steps : PlainNode → List Step → List Step
  node_steps (Struct kind fields) more = fields_steps fields (MakesStruct kind ∷ more)

  pub fields_steps : PlainFields → List Step → List Step
  fields_steps NoField more = MakesNoField ∷ more
  fields_steps (MoreFields label holds rest) more = leaf_steps holds
      (fields_steps rest (MakesField label ∷ more))

  pub leaf_steps : PlainLeaf → List Step → List Step
  leaf_steps (Holds scalar) more = MakesScalar scalar ∷ more
  leaf_steps (Child node) more = node_steps node (MakesChild ∷ more)
  leaf_steps (Children nodes) more = nodes_steps nodes (MakesChildren ∷ more)

  pub nodes_steps : PlainNodes → List Step → List Step
  nodes_steps NoNode more = MakesNoNode ∷ more
  nodes_steps (MoreNodes node rest) more = node_steps node (nodes_steps rest (MakesNode ∷ more))

abbrev struct_made : ℕ → Parts → List PlainFields → Parts
struct_made kind p [] = p
struct_made kind p (f ∷ fs) = record p { nodes = Struct kind f ∷ p.nodes; fields = fs }

abbrev field_made : List ℕ → Parts → List PlainLeaf → List PlainFields → Parts
field_made label p (l ∷ ls) (f ∷ fs) = record p { leaves = ls; fields = MoreFields label l f ∷ fs }
field_made label p _ _ = p

abbrev child_made : Parts → List PlainNode → Parts
child_made p [] = p
child_made p (n ∷ ns) = record p { nodes = ns; leaves = Child n ∷ p.leaves }

abbrev children_made : Parts → List PlainNodes → Parts
children_made p [] = p
children_made p (l ∷ ls) = record p { lists = ls; leaves = Children l ∷ p.leaves }

abbrev node_made : Parts → List PlainNode → List PlainNodes → Parts
node_made p (n ∷ ns) (l ∷ ls) = record p { nodes = ns; lists = MoreNodes n l ∷ ls }
node_made p _ _ = p

abbrev made : Step → Parts → Parts
made (MakesStruct kind) p = struct_made kind p p.fields
made MakesNoField p = record p { fields = NoField ∷ p.fields }
made (MakesField label) p = field_made label p p.leaves p.fields
made (MakesScalar scalar) p = record p { leaves = Holds scalar ∷ p.leaves }
made MakesChild p = child_made p p.nodes
made MakesChildren p = children_made p p.lists
made MakesNoNode p = record p { lists = NoNode ∷ p.lists }
made MakesNode p = node_made p p.nodes p.lists

abbrev all_made : List Step → Parts → Parts
all_made [] p = p
all_made (s ∷ ss) p = all_made ss (made s p)

mutual
  pub node_back : (x : PlainNode) (more : List Step) (p : Parts)
      → all_made (node_steps x more) p ≡ all_made more (record p { nodes = x ∷ p.nodes })
  node_back (Struct kind fields) more p = fields_back fields (MakesStruct kind ∷ more) p

  fields_back : (x : PlainFields) (more : List Step) (p : Parts)
      → all_made (fields_steps x more) p ≡ all_made more (record p { fields = x ∷ p.fields })
  fields_back NoField more p = refl
  fields_back (MoreFields label holds rest) more p =
      leaf_back holds (fields_steps rest (MakesField label ∷ more)) p
      ∙ fields_back rest (MakesField label ∷ more) (record p { leaves = holds ∷ p.leaves })

  leaf_back : (x : PlainLeaf) (more : List Step) (p : Parts)
      → all_made (leaf_steps x more) p ≡ all_made more (record p { leaves = x ∷ p.leaves })
  leaf_back (Holds scalar) more p = refl
  leaf_back (Child node) more p = node_back node (MakesChild ∷ more) p
  leaf_back (Children nodes) more p = nodes_back nodes (MakesChildren ∷ more) p

  nodes_back : (x : PlainNodes) (more : List Step) (p : Parts)
      → all_made (nodes_steps x more) p ≡ all_made more (record p { lists = x ∷ p.lists })
  nodes_back NoNode more p = refl
  nodes_back (MoreNodes node rest) more p =
      node_back node (nodes_steps rest (MakesNode ∷ more)) p
      ∙ nodes_back rest (MakesNode ∷ more) (record p { nodes = node ∷ p.nodes })

abbrev first_or_none : List PlainNode → PlainNode
first_or_none [] = Struct 0 NoField
first_or_none (x ∷ xs) = x

abbrev none : Parts
none = record { nodes = []; fields = []; leaves = []; lists = [] }

pub steps_code : Coded (List Step)
steps_code = Prim.hlevel codes

abbrev pub node_code : Coded PlainNode
node_code = code_by (List Step) steps_code (λ x. node_steps x [])
    (λ ss. first_or_none (all_made ss none).nodes)
    (λ x. ap (λ p. first_or_none p.nodes) (node_back x [] none))
