-- What is in sight once a scope is left.
use Rattle.std.proofs.Common.{◌≡◌, length, take, refl, sym, ap, ◌∙◌}
use Rattle.typing_rules.specs.Scopes.{NamesStandFirst}
use Rattle.nss_scopes.specs.Laws.{ScopesAreLeft}
use Rattle.nss_scopes.specs.Views.{in_sight, left_by}

pub scopes_are_left : NamesStandFirst → ScopesAreLeft
scopes_are_left first t c d l m e a names structs seen table adds leave mark is =
    let kept : take (length c.names) d.names ≡ c.names =
    ap (λ n. take (length n) d.names) (sym names) ∙ (ap (λ s. take (length e.names) s.names) is ∙ (first e a adds ∙ names)) in
    let s : d.structs ≡ c.structs = ap (λ x. x.structs) is ∙ (ap (λ x. x.structs) adds.others ∙ structs) in
    let h : d.seen ≡ c.seen = ap (λ x. x.seen) is ∙ (ap (λ x. x.seen) adds.others ∙ seen) in
    let n : d.next ≡ a.next = ap (λ x. x.next) is in
    ap (in_sight t) (leave ∙ ap (λ k. left_by k d) mark) ∙ rw (kept, s, h, n) refl
