use Rattle.std.proofs.Common.{length, map, refl, ap, ◌∙◌, arith}
use Rattle.nss_lexer.specs.Splitting.{plain}
use Rattle.nss_include.specs.View.{StandsIn}
use Rattle.command_sources.proofs.PlaceLemmas.{token_stands, token_spots, end_spots}
use Rattle.command_sources.proofs.unit.spot_of.Goals as goal

pub spot-requires-clause-file : goal.spot-requires-clause-file
spot-requires-clause-file c =
    (token_stands c.args.unit.now.files c.as_slice.result.now c.args.unit.now.tokens c.args.i c.in-Some.token c.tokens.ensures.placed
    (ap (map plain) c.as_slice.ensures.value ∙ c.in_ok-tokens.ensures.tokens) c.in-Some.ensures).file

pub spot-requires-clause-place : goal.spot-requires-clause-place
spot-requires-clause-place c =
    let stands : StandsIn c.args.unit.now.files (plain c.in-Some.token) =
    token_stands c.args.unit.now.files c.as_slice.result.now c.args.unit.now.tokens c.args.i c.in-Some.token c.tokens.ensures.placed
    (ap (map plain) c.as_slice.ensures.value ∙ c.in_ok-tokens.ensures.tokens) c.in-Some.ensures in
    omega (arith, stands.order, stands.within)

pub returns-in-Some : goal.returns-in-Some
returns-in-Some c =
    token_spots c.args.unit.now.files c.as_slice.result.now c.args.unit.now.tokens c.args.i
    (ap (map plain) c.as_slice.ensures.value ∙ c.in_ok-tokens.ensures.tokens) c.spot.result c.in-Some.token c.in-Some.ensures c.spot.ensures.spot

pub returns : goal.returns
returns c =
    end_spots c.args.unit.now.files c.as_slice.result.now c.args.unit.now.tokens c.args.i
    (ap (map plain) c.as_slice.ensures.value ∙ c.in_ok-tokens.ensures.tokens) c.spot-in-None.result c.file_bytes.result.now (length c.file_bytes.result.now) c.in-None.ensures
    c.file_bytes.ensures.bytes refl c.spot-in-None.ensures.spot
