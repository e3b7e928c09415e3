use Rattle.ncs_file.proofs.Loaded.{is_file, is_loaded}
use Rattle.ncs_file.proofs.code.load.Goals as goal

pub invariant_of-result : goal.invariant_of-result
invariant_of-result c =
    is_loaded _ _ _ _ _ c.as_slice-2.ensures.value c.as_slice-3.ensures.value c.in_ok-starts.ensures.scanned c.in_ok-test_targets.ensures c.requires.size

pub returns-clause-loaded : goal.returns-clause-loaded
returns-clause-loaded c =
    is_file c.size_laws.ensures.sizes _ _ _ _ _ c.as_slice-2.ensures.value c.as_slice-3.ensures.value c.in_ok-starts.ensures.scanned c.in_ok-test_targets.ensures c.requires.size
