-- What a step of a reading gave.
use Rattle.std.proofs.Common.{◌≡◌, ℕ, Bool, true, false, cond, Result, Ok, Err, refl}
use Rattle.gff_bytes.specs.declared.rows.Range.{Range}
use Rattle.gff_read.specs.declared.fault.TreeFault.{TreeFault}
use Rattle.gff_read.specs.Rows.{◌>>=◌, placed, for_field}

-- the value of a step that did not fail
pub bind_ok : {A B : Type 0} (r : Result A TreeFault) (f : A → Result B TreeFault) (y : B) → (r >>= f) ≡ Ok y → (x : A) × (r ≡ Ok x) × (f x ≡ Ok y)
bind_ok (Ok x) f y e = (x, refl, e)
bind_ok (Err d) f y e = absurd cc

-- a test that did not fail
pub guard_ok : {A : Type 0} (b : Bool) (d : TreeFault) (r : Result A TreeFault) (y : A) → cond b (Err d) r ≡ Ok y → (b ≡ false) × (r ≡ Ok y)
guard_ok true d r y e = absurd cc
guard_ok false d r y e = (refl, e)

abbrev given : {A : Type 0} → A → Result A TreeFault
given x = Ok x

pub ok_is : {A : Type 0} (x y : A) → given x ≡ given y → x ≡ y
ok_is x y e = cc

pub placed_ok : {A : Type 0} (r : Result A Range) (x : A) → placed r ≡ Ok x → r ≡ Ok x
placed_ok (Ok y) x e = cc
placed_ok (Err range) x e = absurd cc

pub for_field_ok : {A : Type 0} (field : ℕ) (r : Result A Range) (x : A) → for_field field r ≡ Ok x → r ≡ Ok x
for_field_ok field (Ok y) x e = cc
for_field_ok field (Err range) x e = absurd cc
