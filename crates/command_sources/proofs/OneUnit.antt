-- One thing comes of a script.
use Rattle.std.proofs.Common.{◌≡◌, ◌≢◌, ℕ, List, [], Some, None, sym, ap, ◌∙◌, subst}
use Rattle.nwq_outside.specs.Outside.{content}
use Rattle.nss_lexer.specs.Splitting.{Lexeme}
use Rattle.nss_tree.specs.Source.{SourceTree}
use Rattle.nss_symbols.specs.Nest.{IsWithinNest}
use Rattle.nss_parser.specs.declared.fault.ParseFault.{ParseFault}
use Rattle.nss_parser.specs.declared.fault.ParseFault.TheVariants as parse
use Rattle.nss_parser.specs.Fault.{Refuses, OneRefusal, NoRefusalOfTrees}
use Rattle.nss_parser.specs.Sentence.{Parses, OneTree}
use Rattle.nss_include.specs.declared.fault.GatherFault.{GatherFault}
use Rattle.nss_include.specs.declared.fault.GatherFault.TheVariants as fault
use Rattle.nss_include.specs.declared.file.Source.{Source}
use Rattle.nss_include.specs.Units.{Lookup, IsUnit, OneUnit}
use Rattle.command_work.specs.declared.cause.Cause.TheVariants as cause
use Rattle.command_work.specs.Outcomes.{IsSure}
use Rattle.command_sources.specs.Units.{PlainScript, UnitFate, Whole, Lacks, Exceeds, Faulty, IsUnitFate, lacks, exceeds, bad, many, include, nested, syntax, whole, grammar_symbols, spot_at, unit_by}
use Rattle.command_sources.specs.Units.{unit_of}
use Rattle.command_sources.specs.Laws.{SureUnits}

abbrev gathered_fate : GatherFault → UnitFate
gathered_fate (fault.Missing name) = Lacks name
gathered_fate (fault.Long name) = Exceeds name
gathered_fate fault.Fault = Lacks []
gathered_fate (fault.Bad spot) = Faulty cause.Bad spot
gathered_fate (fault.Tokens spot) = Faulty cause.Tokens spot
gathered_fate (fault.Include spot) = Faulty cause.Include spot
gathered_fate fault.NoMemory = Lacks []

abbrev parsed_fate : List Source → List Lexeme → ParseFault → UnitFate
parsed_fate files tokens (parse.Nested i) = Faulty cause.Nested (spot_at files tokens i)
parsed_fate files tokens (parse.Syntax i) = Faulty cause.Syntax (spot_at files tokens i)
parsed_fate files tokens parse.NoMemory = Lacks []

not_nested : (i : ℕ) → parse.Nested i ≢ parse.NoMemory
not_nested i e = let none : ⊥ = cc in none

not_syntax : (i : ℕ) → parse.Syntax i ≢ parse.NoMemory
not_syntax i e = let none : ⊥ = cc in none

same_fault : (f g : GatherFault) → Some f ≡ Some g → f ≡ g
same_fault f g e = cc

some_none : (f : GatherFault) → Some f ≡ None → ⊥
some_none f e = let none : ⊥ = cc in none

abbrev script_of : List Lexeme → List Source → SourceTree → PlainScript
script_of tokens files tree = record { tokens = tokens; files = files; tree = tree }

-- the laws that are joined
record Laws : Type 0 where
  unit : OneUnit
  tree : OneTree
  refusal : OneRefusal
  refuses_none : NoRefusalOfTrees

module _ (lookup : Lookup) (name : List ℕ) where
  -- a fault of the unit, a fault of its tokens, or a tree
  data Comes : UnitFate → Type 0 where
    fails : (tokens : List Lexeme) (files : List Source) (f : GatherFault) → IsUnit lookup name tokens files (Some f) → Comes (gathered_fate f)
    misparses : (tokens : List Lexeme) (files : List Source) (f : ParseFault) → IsUnit lookup name tokens files None → f ≢ parse.NoMemory
        → Refuses (grammar_symbols tokens) f → Comes (parsed_fate files tokens f)
    parses : (tokens : List Lexeme) (files : List Source) (tree : SourceTree) → IsUnit lookup name tokens files None
        → IsWithinNest (grammar_symbols tokens) → Parses (grammar_symbols tokens) tree → Comes (Whole (script_of tokens files tree))

  comes : {fate : UnitFate} → IsUnitFate lookup name fate → Comes fate
  comes (lacks tokens files file h) = fails tokens files (fault.Missing file) h
  comes (exceeds tokens files file h) = fails tokens files (fault.Long file) h
  comes (bad tokens files spot h) = fails tokens files (fault.Bad spot) h
  comes (many tokens files spot h) = fails tokens files (fault.Tokens spot) h
  comes (include tokens files spot h) = fails tokens files (fault.Include spot) h
  comes (nested tokens files i h over) = misparses tokens files (parse.Nested i) h (not_nested i) over
  comes (syntax tokens files i h nest place) = misparses tokens files (parse.Syntax i) h (not_syntax i) (nest, place)
  comes (whole script h nest p) = parses script.tokens script.files script.tree h nest p

  module _ (laws : Laws) where
    one_comes : {a b : UnitFate} → Comes a → Comes b → a ≡ b
    one_comes (fails ts fs f h) (fails us gs g k) = ap gathered_fate (same_fault f g (laws.unit lookup name ts us fs gs (Some f) (Some g) h k).2)
    one_comes (fails ts fs f h) (misparses us gs g k some why) = absurd (some_none f (laws.unit lookup name ts us fs gs (Some f) None h k).2)
    one_comes (fails ts fs f h) (parses us gs x k nest p) = absurd (some_none f (laws.unit lookup name ts us fs gs (Some f) None h k).2)
    one_comes (misparses ts fs f h some why) (fails us gs g k) = absurd (some_none g (sym (laws.unit lookup name ts us fs gs None (Some g) h k).2))
    one_comes (misparses ts fs f h some why) (misparses us gs g k other also) =
        let same = laws.unit lookup name ts us fs gs None None h k in
        let faults : f ≡ g = laws.refusal (grammar_symbols us) f g (subst (λ ts. Refuses (grammar_symbols ts) f) same.0 why) also some other in
        ap (λ files. parsed_fate files ts f) same.1 ∙ (ap (λ tokens. parsed_fate gs tokens f) same.0 ∙ ap (parsed_fate gs us) faults)
    one_comes (misparses ts fs f h some why) (parses us gs x k nest p) =
        let same = laws.unit lookup name ts us fs gs None None h k in
        absurd (some (laws.refuses_none (grammar_symbols us) x f p nest (subst (λ ts. Refuses (grammar_symbols ts) f) same.0 why)))
    one_comes (parses ts fs x h nest p) (fails us gs g k) = absurd (some_none g (sym (laws.unit lookup name ts us fs gs None (Some g) h k).2))
    one_comes (parses ts fs x h nest p) (misparses us gs g k other why) =
        let same = laws.unit lookup name ts us fs gs None None h k in
        absurd (other (laws.refuses_none (grammar_symbols ts) x g p nest (subst (λ us. Refuses (grammar_symbols us) g) (sym same.0) why)))
    one_comes (parses ts fs x h nest p) (parses us gs y k within q) =
        let same = laws.unit lookup name ts us fs gs None None h k in
        let trees : x ≡ y = laws.tree (grammar_symbols us) x y (subst (λ ts. Parses (grammar_symbols ts) x) same.0 p) q in
        ap (λ files. Whole (script_of ts files x)) same.1 ∙ (ap (λ tokens. Whole (script_of tokens gs x)) same.0 ∙ ap (λ tree. Whole (script_of us gs tree)) trees)

sure_by : (fate : UnitFate) → IsSure (unit_by fate)
sure_by (Whole script) = tt
sure_by (Lacks file) = tt
sure_by (Exceeds file) = tt
sure_by (Faulty why spot) = tt

pub sure_units : OneUnit → OneTree → OneRefusal → NoRefusalOfTrees → SureUnits
unfolding unit_of
sure_units unit tree refusal none name =
    let laws : Laws = record { unit = unit; tree = tree; refusal = refusal; refuses_none = none } in
    (λ c a b p q. one_comes (content c) name laws (comes (content c) name p) (comes (content c) name q), sure_by)
