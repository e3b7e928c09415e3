-- What is in sight once a function is left.
use Rattle.std.proofs.Common.{append_assoc, ◌≡◌, suc, Bool, true, false, ◌&&◌, List, [], ◌∷◌, ◌++◌, length, Option, None, Some, Result, Ok, Err, is_some, refl, ap, ◌∙◌}
use Rattle.std.specs.Option.{option_map}
use Rattle.std.specs.Result.{OnOk}
use Rattle.nwq_value.specs.Engine.{EngineTable}
use Rattle.nwq_value.specs.declared.engine.Param.{Param}
use Rattle.nss_tree.specs.Source.{SourceParameter, SourceStmts}
use Rattle.typing_rules.specs.Nodes.{asked, three}
use Rattle.typing_rules.specs.Rules.{head_rows, params_of, same_types}
use Rattle.typing_rules.specs.Scopes.{OnlyAdds, ParametersOnlyAdd, StatementsOnlyAdd}
use Rattle.typing_rules.specs.Sight.{Head, Meant, Sight, Signature}
use Rattle.typing_rules.specs.Typed.{TypedParameter}
use Rattle.typing_rules.specs.Types.{same_type}
use Rattle.typing_rules.specs.Verdicts.{after_body, after_params}
use Rattle.nss_scopes.specs.declared.sight.Sight.{Sight as Held}
use Rattle.nss_scopes.specs.Views.{in_sight}
use Rattle.nss_types.specs.Heads.{head_rule_by}

pub unequal_types : (ps : List Param) (qs : List TypedParameter) → (length ps ≡ length qs → ⊥) → false ≡ same_types ps (params_of qs)
unequal_types [] [] h = absurd (h refl)
unequal_types [] (q ∷ qs) h = refl
unequal_types (p ∷ ps) [] h = refl
unequal_types (p ∷ ps) (q ∷ qs) h =
    by (same_type p.ty q.ty) ∙ ap (λ b. same_type p.ty q.ty && b) (unequal_types ps qs (λ e. h (ap suc e)))
  where
    by : (b : Bool) → false ≡ (b && false)
    by true = refl
    by false = refl

adds_both : (e b a : Sight) → OnlyAdds e b → OnlyAdds b a → OnlyAdds e a
adds_both e b a h k = record {
  more = h.more ++ k.more;
  names = k.names ∙ (ap (λ n. n ++ k.more) h.names ∙ append_assoc e.names h.more k.more);
  others = k.others ∙ ap {A = Sight} {B = Sight} (λ x. record x { names = a.names; next = a.next; frame = a.frame; labels = a.labels }) h.others;
}

pub function_adds : ParametersOnlyAdd → StatementsOnlyAdd → (e : Sight) (ps : List SourceParameter) (body : Option SourceStmts) → OnlyAdds e (after_body (after_params e ps) body)
function_adds params stmts e ps None = params e ps
function_adds params stmts e ps (Some xs) = adds_both e (after_params e ps) _ (params e ps) (stmts (after_params e ps) xs)

pub head_is : (a b : Bool) (c d : Bool) (ps qs : Option (List TypedParameter)) (m n : Option Meant) (f g : Option (Option Signature)) → a ≡ b → c ≡ d → ps ≡ qs → m ≡ n → f ≡ g
    → asked head_rows (head_rule_by a c) (three ps m f) ≡ asked head_rows (head_rule_by b d) (three qs n g)
head_is a b c d ps qs m n f g taken second params meant first =
    ap (λ x. asked head_rows (head_rule_by x c) (three ps m f)) taken
    ∙ (ap (λ x. asked head_rows (head_rule_by b x) (three ps m f)) second
    ∙ (ap (λ x. asked head_rows (head_rule_by b d) (three x m f)) params
    ∙ (ap (λ x. asked head_rows (head_rule_by b d) (three qs x f)) meant ∙ ap (λ x. asked head_rows (head_rule_by b d) (three qs n x)) first)))

pub there_is : {A B : Type 0} (f : A → B) (o : Option A) → is_some o ≡ is_some (option_map f o)
there_is f None = refl
there_is f (Some a) = refl

pub seen_after : {A E : Type 0} (r : Result A E) (t : EngineTable) (l k : Held) (s a : Sight) (h i : Head) → in_sight t l ≡ record s { next = a.next }
    → OnOk r (k ≡ record l { seen = l.seen ++ h ∷ [] }) → h ≡ i → OnOk r (in_sight t k ≡ record s { seen = s.seen ++ i ∷ []; next = a.next })
seen_after (Ok x) t l k s a h i left pushed same =
    ap (in_sight t) pushed
    ∙ (ap {A = Sight} {B = Sight} (λ x. record x { seen = x.seen ++ h ∷ [] }) left
    ∙ ap {A = Head} {B = Sight} (λ y. record s { seen = s.seen ++ y ∷ []; next = a.next }) same)
seen_after (Err e) t l k s a h i left pushed same = tt
