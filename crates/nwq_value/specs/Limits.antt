-- The limits of this project by name, each stated once.
use Rattle.std.specs.Prelude.{ℕ}

-- bytes of a file that is read, and of a code file or an area that is made
abbrev pub file_limit : ℕ
file_limit = 16777216

-- bytes of a string, and of a name
abbrev pub text_limit : ℕ
text_limit = 8192

abbrev pub name_limit : ℕ
name_limit = 255

-- routines of a header, and parameters of a routine
abbrev pub routine_limit : ℕ
routine_limit = 65535

abbrev pub parameter_limit : ℕ
parameter_limit = 255

-- tokens of a unit, and how deep its brackets, blocks and operators may nest
abbrev pub token_limit : ℕ
token_limit = 100000

abbrev pub nest_limit : ℕ
nest_limit = 256

-- cells of a struct, of a frame, and of the global variables
abbrev pub struct_cell_limit : ℕ
struct_cell_limit = 64

abbrev pub frame_cell_limit : ℕ
frame_cell_limit = 4000

abbrev pub global_cell_limit : ℕ
global_cell_limit = 4000

-- the instructions of an entry: the greatest limit that may be set, and the one where none is set
abbrev pub instruction_limit : ℕ
instruction_limit = 16777216

abbrev pub default_instruction_limit : ℕ
default_instruction_limit = 131072

-- the entries of a play: the greatest limit that may be set, and the one where none is set
abbrev pub entry_limit : ℕ
entry_limit = 1000000

abbrev pub default_entry_limit : ℕ
default_entry_limit = 10000

-- milliseconds: the greatest time of a plan, and when a play ends where its plan doesn't say
abbrev pub time_limit : ℕ
time_limit = 4294967295

abbrev pub default_until : ℕ
default_until = 60000

-- of a plan: its scripts and binaries, its events and starts, and its random numbers
abbrev pub script_limit : ℕ
script_limit = 256

abbrev pub event_limit : ℕ
event_limit = 65536

abbrev pub random_limit : ℕ
random_limit = 65536
