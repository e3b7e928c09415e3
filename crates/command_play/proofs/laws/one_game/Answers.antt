use Rattle.command_play.proofs.OneGame.{sure_games, sure_plays}
use Rattle.command_play.proofs.laws.one_game.Goals as goal

pub returns-clause-games : goal.returns-clause-games
returns-clause-games c = sure_games c.one_area.ensures.finals

pub returns-clause-command : goal.returns-clause-command
returns-clause-command c =
    sure_plays c.one_source.ensures.tables c.one_listing.ensures.listed c.one_area.ensures.areas c.one_area.ensures.plans c.one_area.ensures.finals
