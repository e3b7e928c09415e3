-- What comes of a script's tree does the work of its typed unit.
use Rattle.std.proofs.Common.{◌≡◌, ℕ, List, Result, Ok, Err, refl, subst}
use Rattle.nwq_value.specs.Engine.{EngineTable}
use Rattle.nwq_outside.specs.Outside.{Contents}
use Rattle.typing_rules.specs.declared.fault.Fault.{Fault}
use Rattle.typing_rules.specs.Typed.{TypedUnit}
use Rattle.typing_rules.specs.Meaning.{TypesUnit}
use Rattle.nss_types.specs.Answers.{IsKeptFault}
use Rattle.command_work.specs.declared.status.Status.{Status}
use Rattle.command_work.specs.declared.status.Status.TheVariants.{Memory}
use Rattle.command_work.specs.declared.cause.Cause.{Cause}
use Rattle.command_work.specs.Work.{Does, Refused}
use Rattle.command_work.specs.Parts.{Refuses, cut_here, finds_one, refused}
use Rattle.command_sources.specs.Units.{PlainScript, at_token}
use Rattle.command_compile.specs.Typings.{TypingFate, Whole, Faulty, IsTypingFate, whole, faulty, cause_of, typing_by, typed_in}

module _ (header : EngineTable) (script : PlainScript) (c : Contents) where
  goes : (fate : TypingFate) (r : Result TypedUnit Status) (t t' : List ℕ) → IsTypingFate header script.tree fate → Does (typing_by script fate) c t r c t'
      → Does (typed_in header script) c t r c t'
  unfolding typed_in
  goes fate r t t' is does = finds_one (λ (d : Contents) (f : TypingFate). IsTypingFate header script.tree f) (typing_by script) fate c c t t' r is does

  pub typed_does : (unit : TypedUnit) (t : List ℕ) → TypesUnit header script.tree unit → Does (typed_in header script) c t (Ok unit) c t
  typed_does unit t typed = goes (Whole unit) (Ok unit) t t (whole unit typed) (refl, (refl, refl))

  pub fault_does : (fault : Fault) (why : Cause) (answer : Status) (t t' : List ℕ) → IsKeptFault header script.tree fault → why ≡ cause_of fault.kind
      → Refuses (at_token script fault.token why) t answer t' → Does (typed_in header script) c t (Err answer) c t'
  fault_does fault why answer t t' is same h =
      goes (Faulty fault) (Err answer) t t' (faulty fault is.first)
      (subst (λ x. Does {A = TypedUnit} (Refused (at_token script fault.token x)) c t (Err answer) c t') same
      (refused (at_token script fault.token why) answer c t t' h))

  pub typing_cut : (t : List ℕ) → Does (typed_in header script) c t (Err Memory) c t
  unfolding typed_in
  typing_cut t = cut_here (typed_in header script) Memory c c t t tt tt refl refl

pub ruleset typings = (typed_does, fault_does, typing_cut)
