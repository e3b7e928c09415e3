use Rattle.trace_lines.proofs.Headers.{header_names_are_plain}
use Rattle.trace_lines.proofs.Names.{built_in_plain}
use Rattle.trace_lines.proofs.Plays.{plays_tell_lines}
use Rattle.trace_lines.proofs.Texts.{newlines_count_lines}
use Rattle.trace_lines.proofs.laws.plays_tell_lines.Goals as goal

pub returns : goal.returns
returns c = record { lines = plays_tell_lines; counted = newlines_count_lines; headers = header_names_are_plain; built_in = built_in_plain }
