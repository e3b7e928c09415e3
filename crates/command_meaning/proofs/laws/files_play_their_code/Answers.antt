use Rattle.command_meaning.proofs.Passing.{files_play_their_code}
use Rattle.command_meaning.proofs.Running.{files_are_not_refused}
use Rattle.command_meaning.proofs.laws.files_play_their_code.Goals as goal

pub returns : goal.returns
returns c =
    let plays = files_play_their_code c.units_pass.ensures.pass c.one_code.ensures.plays in
    record { plays = plays; passes = files_are_not_refused plays }
