use Rattle.nwq_top.proofs.Resuming.{resumes_mean}
use Rattle.nwq_top.proofs.word_laws.resumes_mean.Goals as goal

pub returns : goal.returns
returns c = record {
  means = resumes_mean c.one_input.ensures.states c.one_save.ensures.resumes c.one_input.ensures.going c.states_go_safely.ensures.safe
      c.checked_plays_have_no_fault.ensures.goes_on c.saved_plays_go_on.ensures.goes_on c.headers_have_tables.ensures.read c.headers_have_tables.ensures.built_in;
}
