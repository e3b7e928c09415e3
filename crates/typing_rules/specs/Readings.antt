-- Laws of the reading of typed expressions: its equation for each variant as code makes it, with
-- its boxes and vectors, and the same for a value that is known to be the variant, as an arm of a
-- `match` knows it.
use Rattle.std.proofs.Common.{◌≡◌, ◌∙◌, ap, refl, ℕ, List, [], ◌∷◌, Vec, Box, Global}
use Rattle.nss_tree.specs.declared.operators.PrefixOperator.{PrefixOperator}
use Rattle.nss_tree.specs.declared.operators.PostfixOperator.{PostfixOperator}
use Rattle.nss_tree.specs.declared.operators.BinaryOperator.{BinaryOperator}
use Rattle.nss_tree.specs.declared.operators.AssignOperator.{AssignOperator}
use Rattle.nwq_value.specs.declared.value.Ty.{Ty}
use Rattle.nwq_value.specs.declared.engine.Const.{Const}
use Rattle.typing_rules.specs.declared.places.Place.{Place}
use Rattle.typing_rules.specs.declared.places.Callee.{Callee}
use Rattle.typing_rules.specs.declared.expressions.Expression.{Expression, Row_of-Expression, end_of-Expression, more_of-Expression, items-the_row-Expression}
use Rattle.typing_rules.specs.declared.expressions.Expression.TheBlock.{hidden-the_row-Expression-0, items_hidden-the_row-Expression-0}
use Rattle.typing_rules.specs.declared.expressions.Expression.TheViews as view
use Rattle.typing_rules.specs.declared.expressions.Expression as expr
use Rattle.typing_rules.specs.Typed.{TypedExprs}
use Rattle.typing_rules.specs.Typed as t
use Rattle.typing_rules.specs.Reading.{plain, plain_all, plain_row}

row_items : {n : _} (xs : Row_of-Expression n)
    → plain_row xs ≡ plain_all (items-the_row-Expression n xs)
unfolding plain_row plain_all
row_items end_of-Expression = refl
row_items (more_of-Expression x xs) = ap (t.more_typed (plain x)) (row_items xs)

vec_items : (xs : Vec Expression Global)
    → plain_row (hidden-the_row-Expression-0 xs) ≡ plain_all xs.items
vec_items xs = row_items (hidden-the_row-Expression-0 xs)
    ∙ ap plain_all (items_hidden-the_row-Expression-0 xs)

pub literal_is : (k : Const) → plain (expr.Literal k) ≡ t.literal k
unfolding plain
literal_is k = refl

pub name_is : (y : Ty) (p : Place) → plain (expr.Name y p) ≡ t.name y p
unfolding plain
name_is y p = refl

pub call_is : (y : Ty) (f : Callee) (xs : Vec Expression Global) (ks : List Const)
    → plain (view.Call y f xs ks) ≡ t.call y f (plain_all xs.items) ks
unfolding plain
call_is y f xs ks = ap (λ (ts : TypedExprs). t.call y f ts ks) (vec_items xs)

pub member_is : (y : Ty) (x : Box Expression Global) (n : ℕ)
    → plain (view.Member y x n) ≡ t.member y (plain x.value) n
unfolding plain
member_is y x n = refl

pub prefix_is : (y : Ty) (o : PrefixOperator) (x : Box Expression Global)
    → plain (view.Prefix y o x) ≡ t.prefix y o (plain x.value)
unfolding plain
prefix_is y o x = refl

pub postfix_is : (y : Ty) (o : PostfixOperator) (x : Box Expression Global)
    → plain (view.Postfix y o x) ≡ t.postfix y o (plain x.value)
unfolding plain
postfix_is y o x = refl

pub binary_is : (y : Ty) (o : BinaryOperator) (x z : Box Expression Global)
    → plain (view.Binary y o x z) ≡ t.binary y o (plain x.value) (plain z.value)
unfolding plain
binary_is y o x z = refl

pub assign_is : (y : Ty) (o : AssignOperator) (x z : Box Expression Global)
    → plain (view.Assign y o x z) ≡ t.assign y o (plain x.value) (plain z.value)
unfolding plain
assign_is y o x z = refl

pub plain_literal : (the : Expression) (k : Const) → the ≡ expr.Literal k → plain the ≡ t.literal k
plain_literal the k is = ap plain is ∙ literal_is k

pub plain_name : (the : Expression) (y : Ty) (p : Place) → the ≡ expr.Name y p
    → plain the ≡ t.name y p
plain_name the y p is = ap plain is ∙ name_is y p

pub plain_call : (the : Expression) (y : Ty) (f : Callee) (xs : Vec Expression Global)
    (ks : List Const) → the ≡ view.Call y f xs ks
    → plain the ≡ t.call y f (plain_all xs.items) ks
plain_call the y f xs ks is = ap plain is ∙ call_is y f xs ks

pub plain_member : (the : Expression) (y : Ty) (x : Box Expression Global) (n : ℕ)
    → the ≡ view.Member y x n → plain the ≡ t.member y (plain x.value) n
plain_member the y x n is = ap plain is ∙ member_is y x n

pub plain_prefix : (the : Expression) (y : Ty) (o : PrefixOperator) (x : Box Expression Global)
    → the ≡ view.Prefix y o x → plain the ≡ t.prefix y o (plain x.value)
plain_prefix the y o x is = ap plain is ∙ prefix_is y o x

pub plain_postfix : (the : Expression) (y : Ty) (o : PostfixOperator) (x : Box Expression Global)
    → the ≡ view.Postfix y o x
    → plain the ≡ t.postfix y o (plain x.value)
plain_postfix the y o x is = ap plain is ∙ postfix_is y o x

pub plain_binary : (the : Expression) (y : Ty) (o : BinaryOperator) (x z : Box Expression Global)
    → the ≡ view.Binary y o x z
    → plain the ≡ t.binary y o (plain x.value) (plain z.value)
plain_binary the y o x z is = ap plain is ∙ binary_is y o x z

pub plain_assign : (the : Expression) (y : Ty) (o : AssignOperator) (x z : Box Expression Global)
    → the ≡ view.Assign y o x z
    → plain the ≡ t.assign y o (plain x.value) (plain z.value)
plain_assign the y o x z is = ap plain is ∙ assign_is y o x z

pub plain_all_none : plain_all [] ≡ t.no_typed
unfolding plain_all
plain_all_none = refl

pub plain_all_more : (x : Expression) (xs : List Expression)
    → plain_all (x ∷ xs) ≡ t.more_typed (plain x) (plain_all xs)
unfolding plain_all
plain_all_more x xs = refl

-- for constructor functions
pub ruleset made = (
  literal_is,
  name_is,
  call_is,
  member_is,
  prefix_is,
  postfix_is,
  binary_is,
  assign_is,
)

-- for a walk that matches
pub ruleset known = (
  plain_literal,
  plain_name,
  plain_call,
  plain_member,
  plain_prefix,
  plain_postfix,
  plain_binary,
  plain_assign,
)
