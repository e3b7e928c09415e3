-- What stops a command is one of its statuses.
use Rattle.command_work.specs.declared.status.Status.{Status}
use Rattle.command_work.specs.declared.status.Status.TheVariants.{Done, Words, Script, Code, Area, Limit, Missing, Fault, Memory, Long}
use Rattle.command_work.specs.Counts.{StopsSource, StopsCode, StopsArea}
use Rattle.command_files.specs.Checks.{StopsCheck}
use Rattle.command_run.specs.Runs.{StopsRun}
use Rattle.command_play.specs.Tellings.{StopsGame}
use Rattle.command_generate.specs.Generated.{StopsGenerate}
use Rattle.command_save.specs.Tellings.{StopsResume}
use Rattle.command_words.specs.Words.{Form, Run, Compile, Tree, Check, Disassemble, Assemble, Play, Generate, Save, Resume, NoForm}
use Rattle.nwq_top.specs.Endings.{EndsRun, EndsCompile, EndsTree, EndsCheck, EndsCode, EndsPlay, EndsGenerate, EndsResume, ComesOf, StopsCommand}

run_ends : (status : Status) → StopsRun status → EndsRun status
run_ends Done h = tt
run_ends Words h = h
run_ends Script h = h
run_ends Code h = h
run_ends Area h = h
run_ends Limit h = h
run_ends Missing h = h
run_ends Fault h = h
run_ends Memory h = h
run_ends Long h = h

compile_ends : (status : Status) → StopsSource status → EndsCompile status
compile_ends Done h = tt
compile_ends Words h = h
compile_ends Script h = h
compile_ends Code h = h
compile_ends Area h = h
compile_ends Limit h = h
compile_ends Missing h = h
compile_ends Fault h = h
compile_ends Memory h = h
compile_ends Long h = h

area_ends : (status : Status) → StopsArea status → EndsTree status
area_ends Done h = tt
area_ends Words h = h
area_ends Script h = h
area_ends Code h = h
area_ends Area h = h
area_ends Limit h = h
area_ends Missing h = h
area_ends Fault h = h
area_ends Memory h = h
area_ends Long h = h

code_ends : (status : Status) → StopsCode status → EndsCode status
code_ends Done h = tt
code_ends Words h = h
code_ends Script h = h
code_ends Code h = h
code_ends Area h = h
code_ends Limit h = h
code_ends Missing h = h
code_ends Fault h = h
code_ends Memory h = h
code_ends Long h = h

check_ends : (status : Status) → StopsCheck status → EndsCheck status
check_ends Done h = tt
check_ends Words h = h
check_ends Script h = h
check_ends Code h = h
check_ends Area h = h
check_ends Limit h = h
check_ends Missing h = h
check_ends Fault h = h
check_ends Memory h = h
check_ends Long h = h

play_ends : (status : Status) → StopsGame status → EndsPlay status
play_ends Done h = tt
play_ends Words h = h
play_ends Script h = h
play_ends Code h = h
play_ends Area h = h
play_ends Limit h = h
play_ends Missing h = h
play_ends Fault h = h
play_ends Memory h = h
play_ends Long h = h

generate_ends : (status : Status) → StopsGenerate status → EndsGenerate status
generate_ends Done h = tt
generate_ends Words h = h
generate_ends Script h = h
generate_ends Code h = h
generate_ends Area h = h
generate_ends Limit h = h
generate_ends Missing h = h
generate_ends Fault h = h
generate_ends Memory h = h
generate_ends Long h = h

resume_ends : (status : Status) → StopsResume status → EndsResume status
resume_ends Done h = tt
resume_ends Words h = h
resume_ends Script h = h
resume_ends Code h = h
resume_ends Area h = h
resume_ends Limit h = h
resume_ends Missing h = h
resume_ends Fault h = h
resume_ends Memory h = h
resume_ends Long h = h

pub stops_come : (form : Form) (status : Status) → StopsCommand form status → ComesOf form status
stops_come (Run header script) status h = run_ends status h
stops_come (Compile header script) status h = compile_ends status h
stops_come (Tree file) status h = area_ends status h
stops_come (Check header file) status h = check_ends status h
stops_come (Disassemble file to) status h = code_ends status h
stops_come (Assemble file to) status h = code_ends status h
stops_come (Play header area plan to list) status h = play_ends status h
stops_come (Generate number) status h = generate_ends status h
stops_come (Save header area plan entries state list) status h = play_ends status h
stops_come (Resume state to list) status h = resume_ends status h
stops_come NoForm status h = h
