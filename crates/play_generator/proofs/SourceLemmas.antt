-- The source as the pieces that are appended.
use Rattle.std.proofs.Common.{◌≡◌, ℕ, List, [], ◌∷◌, ◌++◌, codes, sym, ap, ◌∙◌, append_assoc}
use Rattle.std.specs.Fmt.{decimal}
use Rattle.play_generator.specs.Made.{source_text}

-- what stands between the number and the count
abbrev pub middle : List ℕ
middle = codes ";\nint F(int k) { if (k < 2) return k; return F(k - 1) + F(k - 2); }\nvoid Tell(int k) { PrintInteger(g + k); }\nvoid main() {\nint n = GetLocalInt(OBJECT_SELF, \"n\") + 1;\nSetLocalInt(OBJECT_SELF, \"n\", n);\ng = g + n;\nActionWait(50);\nActionDoCommand(Tell(F(n % 8)));\nDelayCommand(n * 100, Tell(0 - n));\nAssignCommand(GetObjectByTag(\"c\" + IntToString(g % "

-- a number and what stands behind it in its line, and the lines below
behind : (digits rest below : List ℕ) → ((digits ++ rest) ++ 10 ∷ []) ++ below ≡ digits ++ ((rest ++ 10 ∷ []) ++ below)
behind digits rest below = ap (λ l. l ++ below) (append_assoc digits rest (10 ∷ [])) ∙ append_assoc digits (rest ++ 10 ∷ []) below

pub in_pieces : (n creatures : ℕ) → source_text n creatures ≡ codes "int g = " ++ (decimal n ++ (middle ++ (decimal creatures ++ codes ")), Tell(n));\n}\n")))
unfolding source_text
in_pieces n creatures =
    ap (λ l. codes "int g = " ++ l) (behind (decimal n) (codes ";") _ ∙ ap (λ l. decimal n ++ (middle ++ l)) (behind (decimal creatures) (codes ")), Tell(n));") (codes "}\n")))

pub whole_source : (n creatures : ℕ) (out : List ℕ)
    → ((((out ++ codes "int g = ") ++ decimal n) ++ middle) ++ decimal creatures) ++ codes ")), Tell(n));\n}\n" ≡ out ++ source_text n creatures
whole_source n creatures out =
    append_assoc (((out ++ codes "int g = ") ++ decimal n) ++ middle) (decimal creatures) _
    ∙ append_assoc ((out ++ codes "int g = ") ++ decimal n) middle _
    ∙ append_assoc (out ++ codes "int g = ") (decimal n) _
    ∙ append_assoc out (codes "int g = ") _
    ∙ ap (λ l. out ++ l) (sym (in_pieces n creatures))

-- what each of five calls appended
pub grown : (n creatures number count : ℕ) (out first second third fourth now : List ℕ) → number ≡ n → count ≡ creatures
    → first ≡ out ++ codes "int g = " → second ≡ first ++ decimal number → third ≡ second ++ middle → fourth ≡ third ++ decimal count
    → now ≡ fourth ++ codes ")), Tell(n));\n}\n" → now ≡ out ++ source_text n creatures
grown n creatures number count out first second third fourth now same_number same_count a b d e f =
    f ∙ ap (λ l. l ++ codes ")), Tell(n));\n}\n")
    (e ∙ ap (λ m. third ++ decimal m) same_count
    ∙ ap (λ l. l ++ decimal creatures) (d ∙ ap (λ l. l ++ middle) (b ∙ ap (λ m. first ++ decimal m) same_number ∙ ap (λ l. l ++ decimal n) a)))
    ∙ whole_source n creatures out
