use Rattle.std.specs.Option.{option_map}
use Rattle.std.proofs.lemmas.Result.{on_ok_weaker}
use Rattle.play_save.specs.Scripts.{script_parts}
use Rattle.play_save.proofs.Telling.{front_put}
use Rattle.play_save.proofs.put.put_front.Goals as goal

pub returns-clause-put : goal.returns-clause-put
returns-clause-put g c = on_ok_weaker c.put_numbers.result
    (front_put (option_map (λ text. text.items) c.args.header.now) (script_parts c.args.scripts.now) c.args.file.now c.args.numbers _ _ _ _ _ _ c.in_ok-put_magic.ensures.put
    c.in_ok-put_header.ensures.put c.in_ok-put_scripts.ensures.put c.in_ok-put_bytes.ensures.put)
    c.put_numbers.ensures.put

pub returns-clause-told : goal.returns-clause-told
returns-clause-told g c = on_ok_weaker c.put_numbers.result
    (λ done. record {
      header = c.in_ok-put_header.ensures.form;
      scripts = c.in_ok-put_scripts.ensures.form;
      code = c.in_ok-put_scripts.ensures.code;
      file = c.in_ok-put_bytes.ensures.form;
      numbers = c.fit_numbers.ensures.form;
    })
    c.put_numbers.ensures.put
