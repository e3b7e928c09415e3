-- The work of scripts that a plan lists, computed where a file isn't there, and the order in which
-- a source's file is written.
use Rattle.std.proofs.Common.{◌≡◌, ℕ, inl, inr, List, [], ◌∷◌, ◌++◌, true, None, Ok, Err, refl, sym}
use Rattle.std.specs.Prelude.{codes}
use Rattle.nwq_value.specs.Engine.{EngineTable}
use Rattle.nwq_text.specs.Escape.{escaped, spelling}
use Rattle.nwq_outside.specs.Outside.{Contents, content}
use Rattle.plan_text.specs.declared.plan.Script.{Script as ScriptLine}
use Rattle.command_work.specs.declared.status.Status.TheVariants.{Missing}
use Rattle.command_work.specs.Work.{Does, Writes, file_named, writes}
use Rattle.command_files.specs.Codes.{code_named}
use Rattle.command_files.specs.Checks.{checked_named, loaded_in}
use Rattle.play_inputs.specs.Listings.{writes_loaded, script_in, lists_on, scripts_listed}

-- a plan that lists nothing
nothing : (header : EngineTable) (c : Contents) (t : List ℕ) → Does (scripts_listed header []) c t (Ok []) c t
unfolding scripts_listed lists_on
nothing header c t = (refl, (refl, refl))

abbrev binary : List ℕ → ScriptLine
binary name = record { name = name; binary = true }

-- a binary that isn't there is named, and those behind it are left
missing : (header : EngineTable) (others : List ScriptLine) (c : Contents) (t : List ℕ) → content c (codes "b.ncs") ≡ None
    → Does (scripts_listed header (binary (codes "b") ∷ others)) c t (Err Missing) c (t ++ codes "missing b.ncs\n")
unfolding scripts_listed lists_on script_in checked_named code_named file_named escaped spelling
missing header others c t none = inr (record { found = None; is = sym none; goes = (inl (refl, refl), refl) })

-- a source's file is written at once, and its bytes are loaded after that
written : (header : EngineTable) (file bytes : List ℕ) → writes_loaded header file bytes ≡ Writes file bytes (loaded_in header file bytes)
unfolding writes_loaded writes
written header file bytes = refl
