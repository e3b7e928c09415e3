-- Forms of words at worked examples, by computing.
use Rattle.std.proofs.Common.{◌≡◌, [], ◌∷◌, None, Some, refl}
use Rattle.std.specs.Prelude.{codes}
use Rattle.nwq_text.specs.Names.{is_script_name}
use Rattle.nwq_text.specs.Number.{number_of}
use Rattle.command_words.specs.Words.{form_of, Run, Compile, Tree, Disassemble, Assemble, Play, Save, Resume, NoForm}

built_in_header : form_of (codes "run" ∷ codes "-" ∷ codes "p" ∷ []) ≡ Run (codes "-") (codes "p")
unfolding is_script_name
built_in_header = refl

header_file : form_of (codes "run" ∷ codes "h.nss" ∷ codes "p" ∷ []) ≡ Run (codes "h.nss") (codes "p")
unfolding is_script_name
header_file = refl

compile_words : form_of (codes "compile" ∷ codes "-" ∷ codes "p" ∷ []) ≡ Compile (codes "-") (codes "p")
unfolding is_script_name
compile_words = refl

short_words : form_of (codes "run" ∷ codes "-" ∷ []) ≡ NoForm
short_words = refl

capital_words : form_of (codes "run" ∷ codes "-" ∷ codes "P" ∷ []) ≡ NoForm
unfolding is_script_name
capital_words = refl

dashed_words : form_of (codes "run" ∷ codes "-h" ∷ codes "p" ∷ []) ≡ NoForm
dashed_words = refl

two_dashes : form_of (codes "run" ∷ codes "--" ∷ codes "p" ∷ []) ≡ NoForm
two_dashes = refl

tree_words : form_of (codes "tree" ∷ codes "a.git" ∷ []) ≡ Tree (codes "a.git")
tree_words = refl

listing_words : form_of (codes "dis" ∷ codes "e.ncs" ∷ codes "-" ∷ []) ≡ Disassemble (codes "e.ncs") (codes "-")
listing_words = refl

assembly_words : form_of (codes "asm" ∷ codes "a.txt" ∷ codes "e.ncs" ∷ []) ≡ Assemble (codes "a.txt") (codes "e.ncs")
assembly_words = refl

play_words : form_of (codes "play" ∷ codes "-" ∷ codes "a.git" ∷ codes "p.plan" ∷ codes "f.git" ∷ [])
    ≡ Play (codes "-") (codes "a.git") (codes "p.plan") (codes "f.git") None
play_words = refl

play_with_tables : form_of (codes "play" ∷ codes "-" ∷ codes "a.git" ∷ codes "p.plan" ∷ codes "f.git" ∷ codes "t.txt" ∷ [])
    ≡ Play (codes "-") (codes "a.git") (codes "p.plan") (codes "f.git") (Some (codes "t.txt"))
play_with_tables = refl

two_lists : form_of (codes "play" ∷ codes "-" ∷ codes "a.git" ∷ codes "p.plan" ∷ codes "f.git" ∷ codes "t.txt" ∷ codes "t.txt" ∷ []) ≡ NoForm
two_lists = refl

save_words : form_of (codes "save" ∷ codes "-" ∷ codes "a.git" ∷ codes "p.plan" ∷ codes "1" ∷ codes "s.nwq" ∷ [])
    ≡ Save (codes "-") (codes "a.git") (codes "p.plan") 1 (codes "s.nwq") None
unfolding number_of
save_words = refl

save_with_tables : form_of (codes "save" ∷ codes "-" ∷ codes "a.git" ∷ codes "p.plan" ∷ codes "1000000" ∷ codes "s.nwq" ∷ codes "t.txt" ∷ [])
    ≡ Save (codes "-") (codes "a.git") (codes "p.plan") 1000000 (codes "s.nwq") (Some (codes "t.txt"))
unfolding number_of
save_with_tables = refl

save_nothing : form_of (codes "save" ∷ codes "-" ∷ codes "a.git" ∷ codes "p.plan" ∷ codes "0" ∷ codes "s.nwq" ∷ []) ≡ NoForm
unfolding number_of
save_nothing = refl

save_too_many : form_of (codes "save" ∷ codes "-" ∷ codes "a.git" ∷ codes "p.plan" ∷ codes "1000001" ∷ codes "s.nwq" ∷ []) ≡ NoForm
unfolding number_of
save_too_many = refl

resume_words : form_of (codes "resume" ∷ codes "s.nwq" ∷ codes "f.git" ∷ []) ≡ Resume (codes "s.nwq") (codes "f.git") None
resume_words = refl

resume_with_tables : form_of (codes "resume" ∷ codes "s.nwq" ∷ codes "f.git" ∷ codes "t.txt" ∷ [])
    ≡ Resume (codes "s.nwq") (codes "f.git") (Some (codes "t.txt"))
resume_with_tables = refl
