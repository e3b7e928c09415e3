use Rattle.std.proofs.Common.{◌≡◌, ◌+◌, ◌≤◌, arith, ap, sym, ◌∙◌, true, false}
use Rattle.std.specs.String.{string_bytes}
use Rattle.nwq_value.specs.Limits.{token_limit}
use Rattle.nss_include.specs.Names.{file_name}
use Rattle.nss_include.specs.Units.{is_among}
use Rattle.nss_include.proofs.ReadLemmas.{one_more}
use Rattle.nss_include.proofs.ProgressLemmas.{halts-mentions, halts-include, advances-again, advances-include, IsUtf8-name}
use Rattle.nss_include.proofs.gatherer.Gatherer.mention.Goals as goal

pub returns-then-self-gt-MOST_TOKENS-clause-halts : goal.returns-then-self-gt-MOST_TOKENS-clause-halts
returns-then-self-gt-MOST_TOKENS-clause-halts g c =
    halts-mentions _ _ c.args.self.now c.args.here c.args.hash c.args.name.now c.args.after c.requires.step _ c.if-self-gt-MOST_TOKENS.true
    c.in_ok-spot.ensures.spot

pub file_of-requires : goal.file_of-requires
file_of-requires g c = rw c.bytes.ensures.same (IsUtf8-name c.args.name.now c.requires.step.within.2)

pub returns-then-has-clause-advances : goal.returns-then-has-clause-advances
returns-then-has-clause-advances g c =
    let named : string_bytes c.in_ok-file.file ≡ file_name c.args.name.now = c.in_ok-file.ensures {u = tt} ∙ ap file_name c.bytes.ensures.same
    in let known : is_among c.args.self.now.unit.files (file_name c.args.name.now) ≡ true
    = ap (is_among c.args.self.now.unit.files) (sym (c.as_bytes.ensures.value ∙ named)) ∙ sym c.has.ensures ∙ c.if-has.true
    in let room : c.args.self.now.count + 3 ≤ token_limit = omega arith
    in advances-again _ _ c.args.self.now c.pass.new.self c.args.here c.args.hash c.args.name.now c.args.after c.requires.ready c.requires.step room known
    (c.in_ok-pass.ensures {u = tt})

pub returns-in-Ok-clause-advances : goal.returns-in-Ok-clause-advances
returns-in-Ok-clause-advances g c =
    let named : string_bytes c.in_ok-file.file ≡ file_name c.args.name.now = c.in_ok-file.ensures {u = tt} ∙ ap file_name c.bytes.ensures.same
    in let alone : is_among c.args.self.now.unit.files c.as_str.result.now ≡ false
    = ap (is_among c.args.self.now.unit.files) (c.as_str.ensures.value ∙ sym c.as_bytes.ensures.value) ∙ sym c.has.ensures ∙ c.if-has.false
    in let room : c.args.self.now.count + 3 ≤ token_limit = omega arith
    in advances-include _ _ c.args.self.now c.include.new.self c.args.here c.args.hash c.args.name.now c.args.after c.requires.ready c.requires.step
    room c.as_str.result.now (c.as_str.ensures.value ∙ named) alone c.in-Ok.ensures.includes

pub returns-clause-halts : goal.returns-clause-halts
returns-clause-halts g c =
    let named : string_bytes c.in_ok-file.file ≡ file_name c.args.name.now = c.in_ok-file.ensures {u = tt} ∙ ap file_name c.bytes.ensures.same
    in let alone : is_among c.args.self.now.unit.files c.as_str.result.now ≡ false
    = ap (is_among c.args.self.now.unit.files) (c.as_str.ensures.value ∙ sym c.as_bytes.ensures.value) ∙ sym c.has.ensures ∙ c.if-has.false
    in let room : c.args.self.now.count + 3 ≤ token_limit = omega arith
    in halts-include _ _ c.args.self.now c.args.here c.args.hash c.args.name.now c.args.after c.requires.step room
    c.as_str.result.now (c.as_str.ensures.value ∙ named) alone c.in-Err.fault c.in-Err.ensures.fails

pub returns-in-Ok-clause-once : goal.returns-in-Ok-clause-once
returns-in-Ok-clause-once g c = one_more c.args.self.now.unit c.include.new.self.unit _ _ _ c.in-Ok.ensures.includes.reads.opens c.in-Ok.ensures.once
