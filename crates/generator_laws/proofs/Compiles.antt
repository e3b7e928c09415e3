-- The source of a number compiles.
use Rattle.std.proofs.Common.{◌≡◌, ℕ, ◌%◌, ◌^◌, ◌<◌, ◌≤◌, List, [], ◌∷◌, ◌++◌, length, Some, refl, ap, ◌∙◌, sym, subst, arith, codes, length-append}
use Rattle.std.proofs.Math.Nat.{mod-lt}
use Rattle.std.proofs.lemmas.Fmt.{length-decimal-le_succ}
use Rattle.std.specs.Fmt.{decimal}
use Rattle.nwq_value.specs.HeaderTable.{header_table}
use Rattle.nwq_value.specs.Limits.{file_limit}
use Rattle.nwq_outside.specs.Outside.{Contents, content}
use Rattle.ncs_code.specs.Laws.{SizeLaws}
use Rattle.nss_lexer.specs.Computed.{ComputedAreTokens}
use Rattle.nss_symbols.specs.Nest.{IsWithinNest}
use Rattle.nss_symbols.specs.Symbols.{Symbol}
use Rattle.nss_parser.specs.ReadWhole.{ReadingGivesTree}
use Rattle.nss_parser.specs.Sentence.{Parses}
use Rattle.nss_include.specs.Names.{file_name}
use Rattle.nss_include.specs.Units.{source}
use Rattle.typing_rules.specs.Laws.{VerdictsAreRight}
use Rattle.play_generator.specs.Made.{creatures_of, number_limit, source_text}
use Rattle.command_sources.specs.Units.{PlainScript, whole}
use Rattle.generator_laws.specs.Scripts.{BeatCompiles, SourcesCompile}
use Rattle.generator_laws.proofs.Pieces.{front, back}
use Rattle.generator_laws.proofs.Units.{one_file}
use Rattle.generator_laws.proofs.Sources.{between, in_pieces, made_tokens, made_seen, made_plain, made_are_tokens, made_length}
use Rattle.generator_laws.proofs.Nests.{made_nest}
use Rattle.generator_laws.proofs.Trees.{made_tree, made_parses}
use Rattle.generator_laws.proofs.Typing.{made_unit, made_typed}
use Rattle.generator_laws.proofs.Sizes.{made_small}

beat_file : file_name (codes "beat") ≡ codes "beat.nss"
unfolding file_name
beat_file = refl

short_source : (n creatures : ℕ) → n ≤ number_limit → creatures ≤ 1000 → length (source_text n creatures) ≤ file_limit
short_source n creatures few small =
    let all = ap (λ (l : List ℕ). length l) (in_pieces n creatures) in
    let a = length-append front (decimal n ++ (between ++ (decimal creatures ++ back))) in
    let b = length-append (decimal n) (between ++ (decimal creatures ++ back)) in
    let c = length-append between (decimal creatures ++ back) in
    let d = length-append (decimal creatures) back in
    let first = length-decimal-le_succ n (omega (arith, few)) in
    let second = length-decimal-le_succ creatures (omega (arith, small)) in
    omega (arith, all, a, b, c, d, first, second, few, small)

module _ (computed : ComputedAreTokens) (gives : ReadingGivesTree) (right : VerdictsAreRight) (sizes : SizeLaws) (n creatures : ℕ) (few : n ≤ number_limit) (small : creatures ≤ 1000) (c : Contents)
    (found : content c (codes "beat.nss") ≡ Some (source_text n creatures)) where
  fits : n < 2 ^ 32
  fits = omega (arith, few)

  counts : creatures < 2 ^ 32
  counts = omega (arith, small)

  abbrev beat : PlainScript
  beat = record {
    tokens = made_tokens n creatures fits counts;
    files = source (file_name (codes "beat")) (source_text n creatures) ∷ [];
    tree = made_tree n creatures;
  }

  beat_compiles : BeatCompiles c
  beat_compiles = record {
    script = beat;
    is =
        whole beat
        (one_file (content c) (codes "beat") (source_text n creatures) beat.tokens (ap (content c) beat_file ∙ found) (short_source n creatures few small)
        (made_are_tokens n creatures fits counts computed) (made_plain n creatures fits counts)
        (let count = made_length n creatures fits counts in omega (arith, count)))
        (subst IsWithinNest (sym (made_seen n creatures fits counts)) (made_nest n creatures))
        (subst (λ (ss : List Symbol). Parses ss (made_tree n creatures)) (sym (made_seen n creatures fits counts)) (made_parses gives n creatures));
    unit = made_unit n creatures;
    types = (right header_table (made_tree n creatures) (made_unit n creatures)).0 (made_typed n creatures);
    small = made_small sizes n creatures;
  }

pub sources_compile : ComputedAreTokens → ReadingGivesTree → VerdictsAreRight → SizeLaws → SourcesCompile
sources_compile computed gives right sizes n c few found =
    let less : n % 1000 < 1000 = mod-lt n (omega arith) in
    beat_compiles computed gives right sizes n (creatures_of n) few (omega (arith, less)) c found
