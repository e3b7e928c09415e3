use Rattle.std.proofs.Common.{◌≡◌, ◌≤◌, length, ap, arith}
use Rattle.ncs_code.specs.File.{file_bytes, file_length}
use Rattle.decoded_code.proofs.Filling.{all_decoded}
use Rattle.decoded_code.proofs.steps.steps_of.Goals as goal

pub returns : goal.returns
returns c =
    let whole : length (file_bytes c.args.code.now) ≡ file_length c.args.code.now = c.size_laws.ensures.sizes.file c.args.code.now in
    let past : file_length c.args.code.now ≤ c.loop-at.at = omega (arith, whole, ap length c.store-end.ensures.bytes, c.loop-at-test.false) in
    record {
      steps = all_decoded c.args.code.now c.loop-at.at c.loop-at.steps.items c.place_laws.ensures.places c.size_laws.ensures.sizes
          c.loop-at.invariant past;
    }
