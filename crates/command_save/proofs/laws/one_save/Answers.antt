use Rattle.command_save.proofs.OneSave.{sure_saves, sure_resumes}
use Rattle.command_save.proofs.laws.one_save.Goals as goal

pub returns-clause-saves : goal.returns-clause-saves
returns-clause-saves c =
    sure_saves (record { headers = c.one_header.ensures.one; spellings = c.spelling_laws.ensures.spelling; trees = c.one_tree.ensures.one; states = c.one_state.ensures.one })
    c.one_source.ensures.tables c.one_listing.ensures.listed c.one_area.ensures.areas c.one_area.ensures.plans

pub returns-clause-resumes : goal.returns-clause-resumes
returns-clause-resumes c =
    sure_resumes (record { headers = c.one_header.ensures.one; spellings = c.spelling_laws.ensures.spelling; trees = c.one_tree.ensures.one; states = c.one_state.ensures.one })
    c.one_area.ensures.finals
