use Rattle.std.proofs.Common.{◌≤◌, length, map, ap, subst, ◌∙◌, arith}
use Rattle.nss_lexer.specs.Splitting.{plain}
use Rattle.nss_include.specs.View.{StandsIn}
use Rattle.run_places.proofs.Found.{bytes_are, none_found, spot_found, token_stands}
use Rattle.run_places.proofs.spots.spot_of_token.Goals as goal

pub file_name-requires : goal.file_name-requires
file_name-requires c = record {
  file = (token_stands c.args.unit.now.files c.as_slice.result.now c.args.unit.now.tokens c.args.token c.in-Some.token c.tokens.ensures.placed
      (ap (map plain) c.as_slice.ensures.value ∙ c.in_ok-tokens.ensures.tokens) c.in-Some.ensures).file;
}

pub file_bytes-requires : goal.file_bytes-requires
file_bytes-requires c = record {
  file = (token_stands c.args.unit.now.files c.as_slice.result.now c.args.unit.now.tokens c.args.token c.in-Some.token c.tokens.ensures.placed
      (ap (map plain) c.as_slice.ensures.value ∙ c.in_ok-tokens.ensures.tokens) c.in-Some.ensures).file;
}

pub returns-clause-spot : goal.returns-clause-spot
returns-clause-spot c =
    spot_found c.args.unit.now.files c.as_slice.result.now c.args.unit.now.tokens c.args.token c.in-Some.token c.file_name.result.now c.file_bytes.result.now
    (ap (map plain) c.as_slice.ensures.value ∙ c.in_ok-tokens.ensures.tokens) c.in-Some.ensures c.file_name.ensures.name c.file_bytes.ensures.bytes

pub returns-clause-inside : goal.returns-clause-inside
returns-clause-inside c =
    let stands : StandsIn c.args.unit.now.files (plain c.in-Some.token) =
    token_stands c.args.unit.now.files c.as_slice.result.now c.args.unit.now.tokens c.args.token c.in-Some.token c.tokens.ensures.placed
    (ap (map plain) c.as_slice.ensures.value ∙ c.in_ok-tokens.ensures.tokens) c.in-Some.ensures in
    let same = ap length (bytes_are _ c.file_bytes.result.now c.file_bytes.ensures.bytes) in
    omega (arith, stands.order, stands.within, same)
