-- The first byte at which bytes are cut.
use Rattle.std.proofs.Common.{◌≡◌, ◌≢◌, ℕ, ◌+◌, ◌-◌, ◌<◌, List, [], ◌∷◌, ◌++◌, length, get_or, take, drop, Some, None, sym, ap, ◌∙◌, subst, arith, length-drop}
use Rattle.std.proofs.lemmas.List.{take_more, drop_more, take_all, take-append-drop}
use Rattle.nwq_text.specs.Cuts.{IsFree, cut_at}
use Rattle.nwq_text.specs.Laws.{cut_free, cut_none}

free-push : (at b : ℕ) (bytes : List ℕ) → IsFree at bytes → b ≢ at → IsFree at (bytes ++ b ∷ [])
free-push at b [] free other = (other, tt)
free-push at b (x ∷ bytes) free other = (free.0, free-push at b bytes free.1 other)

pub cut_here : (at : ℕ) (bytes : List ℕ) (i b : ℕ) → i < length bytes → b ≡ get_or bytes i 0 → b ≡ at → IsFree at (take i bytes)
    → Some (take i bytes, take (length bytes - (i + 1)) (drop (i + 1) bytes)) ≡ cut_at at bytes
cut_here at bytes i b inside is same free =
    let whole : bytes ≡ take i bytes ++ at ∷ drop (i + 1) bytes = sym (take-append-drop i bytes)
    ∙ ap (λ xs. take i bytes ++ xs) (drop_more bytes i 0 inside ∙ ap (λ x. x ∷ drop (i + 1) bytes) (sym is ∙ same))
    in let rest : take (length bytes - (i + 1)) (drop (i + 1) bytes) ≡ drop (i + 1) bytes
    = take_all (length bytes - (i + 1)) (drop (i + 1) bytes) (omega (arith, length-drop (i + 1) bytes))
    in sym (ap (cut_at at) whole ∙ cut_free at (take i bytes) (drop (i + 1) bytes) free ∙ ap (λ xs. Some (take i bytes, xs)) (sym rest))

pub free_more : (at : ℕ) (bytes : List ℕ) (i b : ℕ) → i < length bytes → b ≡ get_or bytes i 0 → b ≢ at → IsFree at (take i bytes)
    → IsFree at (take (i + 1) bytes)
free_more at bytes i b inside is other free =
    subst (IsFree at) (sym (take_more bytes i 0 inside ∙ ap (λ x. take i bytes ++ x ∷ []) (sym is))) (free-push at b (take i bytes) free other)

pub cut_end : (at : ℕ) (bytes : List ℕ) (i : ℕ) → i ≡ length bytes → IsFree at (take i bytes) → cut_at at bytes ≡ None
cut_end at bytes i end free = cut_none at bytes (subst (IsFree at) (take_all i bytes (omega arith)) free)
