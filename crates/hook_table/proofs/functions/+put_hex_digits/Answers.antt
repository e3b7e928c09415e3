use Rattle.hook_table.proofs.NumberLemmas.{digits_put}
use Rattle.hook_table.proofs.functions.+put_hex_digits.Goals as goal

pub returns : goal.returns
returns c d = record {
  ok = digits_put d.args.out.now.items d.put_hex_digits.new.out.items d.push.new.self.items d.args.count d.args.n d.hex_digit.result
      d.in_ok-put_hex_digits.ensures.ok d.hex_digit.ensures.digit d.in_ok-push.ensures.items d.if-count-eq0.false;
}
