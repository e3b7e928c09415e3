use Rattle.std.proofs.Common.{◌≡◌, ◌<◌, ℕ, ◌+◌, List, [], ◌∷◌, ◌++◌, length, get_or, drop, ap, sym, ◌∙◌, append_assoc}
use Rattle.std.proofs.lemmas.List.{drop_more}
use Rattle.nss_lexer.specs.Reading.{step, value_after, value_from}
use Rattle.nss_lexer.specs.declared.string.Escape.{Escape}
use Rattle.nss_lexer.specs.declared.string.Step.{Step}
use Rattle.nss_lexer.specs.declared.string.Step.TheVariants.{Gives, Leads}
use Rattle.nss_lexer.proofs.unquote.value_of.Goals.{in-Gives+in_ok-push-in-Gives, in-Leads}
use Rattle.nss_lexer.proofs.unquote.value_of.Goals as goal

-- what is left is what one more byte does, and then the rest
after_one : (state : Escape) (text : List ℕ) (i : ℕ) (does : Step) → i < length text → does ≡ step state (get_or text i 0)
    → value_from state (drop i text) ≡ value_after does (λ next. value_from next (drop (i + 1) text))
after_one state text i does h is =
    ap (value_from state) (drop_more text i 0 h) ∙ ap (λ d. value_after d (λ next. value_from next (drop (i + 1) text))) (sym is)

given : (bytes text more whole : List ℕ) (c : ℕ) → text ≡ c ∷ more → bytes ++ text ≡ whole → (bytes ++ c ∷ []) ++ more ≡ whole
given bytes text more whole c is so = append_assoc bytes (c ∷ []) more ∙ ap (λ t. bytes ++ t) (sym is) ∙ so

pub loop-b-preserved : goal.loop-b-preserved
loop-b-preserved c =
    let one = λ (does : Step). after_one c.loop-b.state c.args.rest.now c.loop-b.b-index does c.loop-b-test.true
    in elim c.match-step_by.branch [
      | in-Gives+in_ok-push-in-Gives w ↦ rw (w.bytes-is, w.state-is, w.in_ok-push-in-Gives.ensures.items)
          (given c.loop-b.bytes.items _ _ _ w.in-Gives.c (one (Gives w.in-Gives.c) w.in-Gives.ensures.value) c.loop-b.invariant.0, tt)
      | in-Leads w ↦ rw (w.bytes-is, w.state-is)
          (ap (λ t. c.loop-b.bytes.items ++ t) (sym (one (Leads w.in-Leads.next) w.in-Leads.ensures.value)) ∙ c.loop-b.invariant.0, w.in-Leads.ensures.keeps)
    ]
