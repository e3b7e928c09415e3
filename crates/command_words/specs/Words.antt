-- The words of the command line.
use Rattle.std.specs.Prelude.{◌≡◌, ◌≤◌, ℕ, Bool, false, cond, ◌==◌, ◌&&◌, nat_le, List, [], ◌∷◌, codes, bytes_eq, Option, None, Some}
use Rattle.std.specs.List.{list_any}
use Rattle.std.specs.Option.{option_map}
use Rattle.nwq_value.specs.Limits.{entry_limit}
use Rattle.nwq_text.specs.Number.{number_of}
use Rattle.nwq_text.specs.Names.{is_script_name}
use Rattle.play_generator.specs.Made.{number_limit}
use Rattle.command_words.specs.declared.words.Command.{Command}
use Rattle.command_words.specs.declared.words.Command.TheVariants as command

pub data Form : Type 0 where
  Run : (header script : List ℕ) → Form  -- the header is a file's name, or `-` for the built-in one
  Compile : (header script : List ℕ) → Form  -- the header as for `Run`
  Tree : (file : List ℕ) → Form
  Check : (header file : List ℕ) → Form  -- the header as for `Run`
  Disassemble : (file to : List ℕ) → Form
  Assemble : (file to : List ℕ) → Form
  Play : (header area plan to : List ℕ) → (list : Option (List ℕ)) → Form  -- the header as for `Run`, and the list of tables, if there is one
  Generate : (number : ℕ) → Form
  Save : (header area plan : List ℕ) → (entries : ℕ) → (state : List ℕ) → (list : Option (List ℕ)) → Form  -- header and list as for `Play`
  Resume : (state to : List ℕ) → (list : Option (List ℕ)) → Form  -- the list as for `Play`
  NoForm : Form

-- a word that begins with `-` and isn't `-` alone
abbrev pub is_option : List ℕ → Bool
is_option [] = false
is_option (b ∷ []) = false
is_option (b ∷ more) = b == 45

abbrev pub run_form : List ℕ → List ℕ → Form
run_form header script = cond (is_script_name script) (Run header script) NoForm

abbrev pub compile_form : List ℕ → List ℕ → Form
compile_form header script = cond (is_script_name script) (Compile header script) NoForm

-- the play of a number, unless it is too large for one
abbrev pub generate_form : Option ℕ → Form
generate_form None = NoForm
generate_form (Some n) = cond (nat_le n number_limit) (Generate n) NoForm

-- a play that is broken off after so many entries, where a play may have as many
abbrev pub save_form : List ℕ → List ℕ → List ℕ → Option ℕ → List ℕ → Option (List ℕ) → Form
save_form header area plan None state list = NoForm
save_form header area plan (Some n) state list = cond (nat_le 1 n && nat_le n entry_limit)
    (Save header area plan n state list) NoForm

-- a command and one word
abbrev pub one_word_form : List ℕ → List ℕ → Form
one_word_form command word =
    cond (bytes_eq command (codes "tree")) (Tree word)
    (cond (bytes_eq command (codes "generate")) (generate_form (number_of word)) NoForm)

-- a command and two words
abbrev pub two_word_form : List ℕ → List ℕ → List ℕ → Form
two_word_form command first second =
    cond (bytes_eq command (codes "run")) (run_form first second)
    (cond (bytes_eq command (codes "compile")) (compile_form first second)
    (cond (bytes_eq command (codes "check")) (Check first second)
    (cond (bytes_eq command (codes "dis")) (Disassemble first second)
    (cond (bytes_eq command (codes "asm")) (Assemble first second)
    (cond (bytes_eq command (codes "resume")) (Resume first second None) NoForm)))))

-- a command and three words
abbrev pub three_word_form : List ℕ → List ℕ → List ℕ → List ℕ → Form
three_word_form command state to list = cond (bytes_eq command (codes "resume"))
    (Resume state to (Some list)) NoForm

-- a command and four words
abbrev pub four_word_form : List ℕ → List ℕ → List ℕ → List ℕ → List ℕ → Form
four_word_form command header area plan to = cond (bytes_eq command (codes "play"))
    (Play header area plan to None) NoForm

-- a command and five words
abbrev pub five_word_form : List ℕ → List ℕ → List ℕ → List ℕ → List ℕ → List ℕ → Form
five_word_form command header area plan fourth fifth =
    cond (bytes_eq command (codes "play")) (Play header area plan fourth (Some fifth))
    (cond (bytes_eq command (codes "save"))
    (save_form header area plan (number_of fourth) fifth None) NoForm)

-- a command and six words
abbrev pub six_word_form : List ℕ → List ℕ → List ℕ → List ℕ → List ℕ → List ℕ → List ℕ → Form
six_word_form command header area plan entries state list =
    cond (bytes_eq command (codes "save"))
    (save_form header area plan (number_of entries) state (Some list)) NoForm

-- which command these words are, by the first of them
abbrev pub command_form : List (List ℕ) → Form
command_form (command ∷ (file ∷ [])) = one_word_form command file
command_form (command ∷ (first ∷ (second ∷ []))) = two_word_form command first second
command_form (command ∷ (state ∷ (to ∷ (list ∷ [])))) = three_word_form command state to list
command_form (command ∷ (header ∷
    (area ∷ (plan ∷ (to ∷ []))))) = four_word_form command header area plan to
command_form (command ∷ (header ∷
    (area ∷ (plan ∷ (fourth ∷
    (fifth ∷ [])))))) = five_word_form command header area plan fourth fifth
command_form (command ∷ (header ∷
    (area ∷ (plan ∷ (entries ∷
    (state ∷ (list ∷ []))))))) = six_word_form command header area plan entries state list
command_form _ = NoForm

-- which command these words are, if they are one: there are no options
abbrev pub form_of : List (List ℕ) → Form
form_of words = cond (list_any is_option words) NoForm (command_form words)

-- the list of tables that the words give
abbrev pub list_of : Form → Option (List ℕ)
list_of (Play header area plan to list) = list
list_of (Save header area plan entries state list) = list
list_of (Resume state to list) = list
list_of _ = None

-- as many entries as a play may have
abbrev pub IsEntryCount : ℕ → Type 0
IsEntryCount n = (1 ≤ n) × (n ≤ entry_limit)

-- the command that the words are
abbrev pub IsCommand : Command → Form → Type 0
IsCommand command.NoForm form = form ≡ NoForm
IsCommand (command.Run header script) form = form ≡ Run header.now script.now
IsCommand (command.Compile header script) form = form ≡ Compile header.now script.now
IsCommand (command.Tree file) form = form ≡ Tree file.now
IsCommand (command.Check header file) form = form ≡ Check header.now file.now
IsCommand (command.Disassemble file to) form = form ≡ Disassemble file.now to.now
IsCommand (command.Assemble file to) form = form ≡ Assemble file.now to.now
IsCommand (command.Play header area plan to list) form =
    form ≡ Play header.now area.now plan.now to.now (option_map (λ name. name.now) list)
IsCommand (command.Generate number) form = (form ≡ Generate number) × (number ≤ number_limit)
IsCommand (command.Save header area plan entries state list) form =
    (form ≡ Save header.now area.now plan.now entries state.now
    (option_map (λ name. name.now) list)) × IsEntryCount entries
IsCommand (command.Resume state to list) form = form
    ≡ Resume state.now to.now (option_map (λ name. name.now) list)
