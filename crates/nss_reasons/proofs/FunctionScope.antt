-- The scope of a function only adds to what is in sight.
use Rattle.std.proofs.Common.{append_assoc, ◌++◌, Option, None, Some, ap, ◌∙◌, List}
use Rattle.nss_tree.specs.Source.{SourceParameter, SourceStmts}
use Rattle.typing_rules.specs.Scopes.{OnlyAdds, ParametersOnlyAdd, StatementsOnlyAdd}
use Rattle.typing_rules.specs.Sight.{Sight}
use Rattle.typing_rules.specs.Verdicts.{after_body, after_params}

adds_both : (e b a : Sight) → OnlyAdds e b → OnlyAdds b a → OnlyAdds e a
adds_both e b a h k = record {
  more = h.more ++ k.more;
  names = k.names ∙ (ap (λ n. n ++ k.more) h.names ∙ append_assoc e.names h.more k.more);
  others = k.others ∙ ap {A = Sight} {B = Sight} (λ x. record x { names = a.names; next = a.next; frame = a.frame; labels = a.labels }) h.others;
}

pub function_adds : ParametersOnlyAdd → StatementsOnlyAdd → (e : Sight) (ps : List SourceParameter) (body : Option SourceStmts) → OnlyAdds e (after_body (after_params e ps) body)
function_adds params stmts e ps None = params e ps
function_adds params stmts e ps (Some xs) = adds_both e (after_params e ps) _ (params e ps) (stmts (after_params e ps) xs)
