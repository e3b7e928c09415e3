-- The text of a file, instruction by instruction.
use Rattle.std.proofs.Common.{◌≡◌, ℕ, ◌+◌, List, [], ◌∷◌, ◌++◌, Some, None, refl, sym, ap, ◌∙◌, arith, append_assoc, append-nil}
use Rattle.std.proofs.lemmas.Option.{none-some}
use Rattle.ncs_code.specs.Plain.{PlainOp}
use Rattle.ncs_code.specs.Spelling.{op_size}
use Rattle.ncs_code.specs.File.{file_length, op_at, ops_size}
use Rattle.ncs_code.specs.Laws.{SizeLaws, PlaceLaws}
use Rattle.ncs_text.specs.Listing.{op_line, listing, listing_from}

-- the lines of the instructions before a place
pub record Listed (code : List PlainOp) (text : List ℕ) (at : ℕ) : Type 0 where
  pub met : List PlainOp
  pub others : List PlainOp
  pub both : code ≡ met ++ others
  pub place : at ≡ file_length met
  pub whole : text ++ listing_from at others ≡ listing code

same_op : (a b : PlainOp) → Some a ≡ Some b → a ≡ b
same_op a b e = cc

-- what stands there is the next
record Next (op : PlainOp) (others : List PlainOp) : Type 0 where
  behind : List PlainOp
  is : others ≡ op ∷ behind

next_op : SizeLaws → PlaceLaws → (code met others : List PlainOp) (at : ℕ) (op : PlainOp) → code ≡ met ++ others → at ≡ file_length met → op_at code at ≡ Some op → Next op others
next_op sizes places code met [] at op both place there =
    absurd (omega (arith, (places.lies code at op there).1, sizes.some op, ap ops_size (both ∙ append-nil met), place))
next_op sizes places code met (o ∷ behind) at op both place there =
    let here : op_at code at ≡ Some o = ap (λ os. op_at os at) both ∙ ap (op_at (met ++ o ∷ behind)) place ∙ places.begins met behind o
    in record { behind = behind; is = ap (λ x. x ∷ behind) (same_op o op (sym here ∙ there)) }

pub listed_more : SizeLaws → PlaceLaws → (code : List PlainOp) (text now : List ℕ) (at size : ℕ) (op : PlainOp) → Listed code text at → op_at code at ≡ Some op → size ≡ op_size op
    → now ≡ text ++ op_line at op → Listed code now (at + size)
listed_more sizes places code text now at size op l there size_is put =
    let n = next_op sizes places code l.met l.others at op l.both l.place there
    in let next_at : at + op_size op ≡ at + size = ap (λ k. at + k) (sym size_is)
    in record {
      met = l.met ++ op ∷ [];
      others = n.behind;
      both = l.both ∙ ap (λ os. l.met ++ os) n.is ∙ sym (append_assoc l.met (op ∷ []) n.behind);
      place = omega (arith, l.place, size_is, sizes.add l.met (op ∷ []));
      whole = ap (λ t. t ++ listing_from (at + size) n.behind) put ∙ append_assoc text (op_line at op) (listing_from (at + size) n.behind)
          ∙ ap (λ k. text ++ (op_line at op ++ listing_from k n.behind)) (sym next_at)
          ∙ ap (λ os. text ++ listing_from at os) (sym n.is) ∙ l.whole;
    }

pub listed_ends : PlaceLaws → (code : List PlainOp) (text : List ℕ) (at : ℕ) → Listed code text at → op_at code at ≡ None → text ≡ listing code
listed_ends places code text at l gone = by_others l.others l.both l.whole
  where
    by_others : (os : List PlainOp) → code ≡ l.met ++ os → text ++ listing_from at os ≡ listing code → text ≡ listing code
    by_others [] both whole = sym (append-nil text) ∙ whole
    by_others (o ∷ os) both whole =
        absurd (none-some o (sym gone ∙ (ap (λ ops. op_at ops at) both ∙ ap (op_at (l.met ++ o ∷ os)) l.place ∙ places.begins l.met os o)))
