use Rattle.std.proofs.Common.{sym, ◌∙◌, arith}
use Rattle.ncs_file.specs.Marks.{listing}
use Rattle.ncs_file.proofs.Scanning.{pass_begins, pass_ends, pass_goes_on, pass_stops, waits}
use Rattle.ncs_file.proofs.scan.test_targets.Goals as goal

pub loop-at-init : goal.loop-at-init
loop-at-init c = pass_begins c.place_laws.ensures.places _ _ _ c.requires.scanned

pub unreachable-requires : goal.unreachable-requires
unreachable-requires c =
    let next = waits _ _ c.loop-at.invariant c.loop-at-test.true in
    c.in-Err.ensures.only next.op next.rest next.is_op next.prefix

pub returns-then-not-leads_well : goal.returns-then-not-leads_well
returns-then-not-leads_well c =
    let well = c.leads_well.ensures (listing c.args.bytes.now) (c.as_slice.ensures.value ∙ c.requires.scanned.table) in
    pass_stops c.place_laws.ensures.places _ _ _ _ _ _ c.requires.scanned c.loop-at.invariant c.loop-at-test.true c.in-Ok.ensures.only (sym well ∙ c.if-not-leads_well.true)

pub loop-at-preserved : goal.loop-at-preserved
loop-at-preserved c =
    let well = c.leads_well.ensures (listing c.args.bytes.now) (c.as_slice.ensures.value ∙ c.requires.scanned.table) in
    pass_goes_on c.size_laws.ensures.sizes c.place_laws.ensures.places _ _ _ _ c.loop-at.invariant c.loop-at-test.true c.in-Ok.ensures.only (sym well ∙ c.if-not-leads_well.false)

pub returns : goal.returns
returns c = pass_ends c.size_laws.ensures.sizes c.place_laws.ensures.places _ _ _ _ c.requires.scanned c.loop-at.invariant (omega arith)
