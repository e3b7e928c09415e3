-- The source of a number compiles.
use Rattle.std.proofs.Common.{◌≡◌, ℕ, suc, ◌+◌, ◌^◌, ◌<◌, true, ◌&&◌, not, List, [], ◌∷◌, ◌++◌, length, Some, refl, ap, ◌∙◌, sym, subst, codes, append_assoc}
use Rattle.std.specs.List.{AllByRecursion}
use Rattle.std.specs.Fmt.{decimal}
use Rattle.nss_lexer.specs.Computed.{tokens_in, ComputedAreTokens}
use Rattle.nss_lexer.specs.Splitting.{Lexeme, AreTokens}
use Rattle.nss_symbols.specs.Symbols as symbol
use Rattle.nss_symbols.specs.Symbols.{Symbol}
use Rattle.play_generator.specs.Made.{source_text}
use Rattle.command_sources.specs.Units.{grammar_symbols}
use Rattle.generator_laws.proofs.Numbers.{EndsNumber, number_token, number_first, number_plain}
use Rattle.generator_laws.proofs.Pieces.{Piece, IsPlain, are_plain, all_plain, put, put_some, joined, tokens_of, seen_both, plain_both, front_piece, smaller_piece, sum_piece, teller_piece}
use Rattle.generator_laws.proofs.Pieces.{counter_piece, kept_piece, grown_piece, asked_piece, delayed_piece, assigned_piece, front, smaller, sum, teller, counter, kept, grown, asked, delayed}
use Rattle.generator_laws.proofs.Pieces.{assigned, back, front_symbols, smaller_symbols, sum_symbols, teller_symbols, counter_symbols, kept_symbols, grown_symbols, asked_symbols, delayed_symbols}
use Rattle.generator_laws.proofs.Pieces.{assigned_symbols, back_symbols, back_tokens, back_seen, back_plain}
use Rattle.generator_laws.proofs.Trees.{made_symbols}

-- ---- what stands between the numbers

abbrev pub between : List ℕ
between = smaller ++ (sum ++ (teller ++ (counter ++ (kept ++ (grown ++ (asked ++ (delayed ++ assigned)))))))

abbrev pub between_symbols : List Symbol
between_symbols =
    smaller_symbols ++ (sum_symbols ++ (teller_symbols ++ (counter_symbols ++ (kept_symbols ++ (grown_symbols ++ (asked_symbols ++ (delayed_symbols ++ assigned_symbols)))))))

abbrev pub between_piece : Piece between between_symbols
between_piece =
    joined smaller_piece (joined sum_piece (joined teller_piece (joined counter_piece (joined kept_piece (joined grown_piece (joined asked_piece (joined delayed_piece assigned_piece)))))))

-- ---- the text

-- a number and what stands behind it in its line, and the lines below
behind : (digits rest lines : List ℕ) → ((digits ++ rest) ++ 10 ∷ []) ++ lines ≡ digits ++ ((rest ++ 10 ∷ []) ++ lines)
behind digits rest lines = ap (λ l. l ++ lines) (append_assoc digits rest (10 ∷ [])) ∙ append_assoc digits (rest ++ 10 ∷ []) lines

pub in_pieces : (n creatures : ℕ) → source_text n creatures ≡ front ++ (decimal n ++ (between ++ (decimal creatures ++ back)))
unfolding source_text
in_pieces n creatures =
    ap (λ l. front ++ l) (behind (decimal n) (codes ";") _ ∙ ap (λ l. decimal n ++ (between ++ l)) (behind (decimal creatures) (codes ")), Tell(n));") (codes "}\n")))

-- ---- the tokens

semicolon : EndsNumber 59
semicolon = record { digit = refl; point = refl; mark = refl; x = refl }

bracket : EndsNumber 41
bracket = record { digit = refl; point = refl; mark = refl; x = refl }

module _ (n creatures : ℕ) (few : n < 2 ^ 32) (small : creatures < 2 ^ 32) where
  abbrev pub first_at : ℕ
  first_at = front_piece.after 0

  abbrev pub between_at : ℕ
  between_at = first_at + length (decimal n)

  abbrev pub second_at : ℕ
  second_at = between_piece.after between_at

  abbrev pub back_at : ℕ
  back_at = second_at + length (decimal creatures)

  abbrev pub rest_tokens : List Lexeme
  rest_tokens = number_token creatures second_at ∷ tokens_of back back_at

  abbrev pub made_tokens : List Lexeme
  made_tokens = front_piece.tokens 0 ++ number_token n first_at ∷ (between_piece.tokens between_at ++ rest_tokens)

  abbrev steps : ℕ
  steps = front_piece.steps (suc (between_piece.steps (suc 50)))

  rest_read : tokens_in (suc 50) second_at (decimal creatures ++ back) ≡ Some rest_tokens
  rest_read =
      number_first creatures 50 second_at 41 _ bracket small
      ∙ ap (λ o. put (number_token creatures second_at ∷ []) o) (back_tokens back_at)

  between_read : tokens_in (between_piece.steps (suc 50)) between_at (between ++ (decimal creatures ++ back)) ≡ Some (between_piece.tokens between_at ++ rest_tokens)
  between_read =
      between_piece.reads (suc 50) between_at (decimal creatures ++ back)
      ∙ (ap (put (between_piece.tokens between_at)) rest_read
      ∙ put_some (between_piece.tokens between_at) rest_tokens)

  all_read : tokens_in steps 0 (front ++ (decimal n ++ (between ++ (decimal creatures ++ back)))) ≡ Some made_tokens
  all_read =
      front_piece.reads (suc (between_piece.steps (suc 50))) 0 (decimal n ++ (between ++ (decimal creatures ++ back)))
      ∙ (ap (put (front_piece.tokens 0))
      (number_first n (between_piece.steps (suc 50)) first_at 59 _ semicolon few
      ∙ ap (λ o. put (number_token n first_at ∷ []) o) between_read)
      ∙ put_some (front_piece.tokens 0) (number_token n first_at ∷ (between_piece.tokens between_at ++ rest_tokens)))

  -- ---- what the grammar sees of them

  seen_rest : grammar_symbols rest_tokens ≡ symbol.Int creatures ∷ back_symbols
  seen_rest = ap (λ ss. symbol.Int creatures ∷ ss) (back_seen back_at)

  seen_between : grammar_symbols (between_piece.tokens between_at ++ rest_tokens) ≡ between_symbols ++ symbol.Int creatures ∷ back_symbols
  seen_between =
      seen_both (between_piece.tokens between_at) rest_tokens
      ∙ (ap (λ ss. ss ++ grammar_symbols rest_tokens) (between_piece.seen between_at) ∙ ap (λ ss. between_symbols ++ ss) seen_rest)

  pub made_seen : grammar_symbols made_tokens ≡ made_symbols n creatures
  made_seen =
      seen_both (front_piece.tokens 0) (number_token n first_at ∷ (between_piece.tokens between_at ++ rest_tokens))
      ∙ (ap (λ ss. ss ++ symbol.Int n ∷ grammar_symbols (between_piece.tokens between_at ++ rest_tokens)) (front_piece.seen 0)
      ∙ ap (λ ss. front_symbols ++ symbol.Int n ∷ ss) seen_between)

  -- ---- they begin no directive

  with_number : (m at : ℕ) (ts : List Lexeme) → m < 2 ^ 32 → are_plain ts ≡ true → are_plain (number_token m at ∷ ts) ≡ true
  with_number m at ts less h = ap (λ b. not b && are_plain ts) (number_plain m at less) ∙ h

  pub made_plain : AllByRecursion IsPlain made_tokens
  made_plain =
      all_plain made_tokens
      (plain_both (front_piece.tokens 0) (number_token n first_at ∷ (between_piece.tokens between_at ++ rest_tokens)) (front_piece.plain 0)
      (with_number n first_at (between_piece.tokens between_at ++ rest_tokens) few
      (plain_both (between_piece.tokens between_at) rest_tokens (between_piece.plain between_at)
      (with_number creatures second_at (tokens_of back back_at) small (back_plain back_at)))))

  -- ---- and they are the tokens of the source

  whole_text : source_text n creatures ≡ front ++ (decimal n ++ (between ++ (decimal creatures ++ back)))
  whole_text = in_pieces n creatures

  pub made_are_tokens : ComputedAreTokens → AreTokens (source_text n creatures) 0 made_tokens
  made_are_tokens computed =
      subst (λ (bytes : List ℕ). AreTokens bytes 0 made_tokens) (sym whole_text)
      (computed (front ++ (decimal n ++ (between ++ (decimal creatures ++ back)))) steps made_tokens all_read)

  -- of which there are as many as symbols
  seen_length : (ts : List Lexeme) → length (grammar_symbols ts) ≡ length ts
  seen_length [] = refl
  seen_length (t ∷ ts) = ap suc (seen_length ts)

  pub made_length : length made_tokens ≡ 137
  made_length = sym (seen_length made_tokens) ∙ ap (λ (ss : List Symbol). length ss) made_seen
