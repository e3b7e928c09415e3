use Rattle.std.proofs.Common.{◌≡◌, ◌+◌, ◌-◌, ◌∷◌, [], ◌++◌, map, ap, arith}
use Rattle.std.proofs.lemmas.Result.{err_from_is_err_and}
use Rattle.std.proofs.lemmas.List.{map_push}
use Rattle.gff_read.specs.Rows.{rows_of}
use Rattle.gff_read.specs.Charge.{rows_charge}
use Rattle.gff_read.proofs.ChargeLemmas.{rows_charge_push}
use Rattle.gff_read.specs.Held.{plain_row}
use Rattle.gff_read.proofs.RowLemmas.{rows_step, rows_end, rows_stop, labels_step}
use Rattle.gff_read.proofs.row.read_rows.Goals as goal

pub returns-in_err-field-clause-read : goal.returns-in_err-field-clause-read
unfolding rows_of
returns-in_err-field-clause-read c =
    let p = err_from_is_err_and c.from_residual.result c.from_residual.ensures.1 in
    rw (p.1, p.2) (rows_end c.in_err-field.field-0.0 c.args.view.now c.args.entry c.loop-i.i
    (c.args.entry.count - c.loop-i.i) (c.args.entry.count - (c.loop-i.i + 1)) (map plain_row c.loop-i.rows.items) _
    c.loop-i.invariant.read (omega arith) c.in_err-field.ensures.number)

pub returns-in_err-next-clause-read : goal.returns-in_err-next-clause-read
unfolding rows_of
returns-in_err-next-clause-read c =
    let p = err_from_is_err_and c.from_residual-in_err-next.result c.from_residual-in_err-next.ensures.1 in
    rw (p.1, p.2) (rows_stop c.in_err-next.field-0.0 c.args.view.now c.args.entry c.loop-i.i
    (c.args.entry.count - c.loop-i.i) (c.args.entry.count - (c.loop-i.i + 1)) c.in_ok-field.field
    (map plain_row c.loop-i.rows.items) _
    c.loop-i.invariant.read (omega arith) c.in_ok-field.ensures.number (c.in_err-next.ensures.read (map plain_row c.loop-i.rows.items) c.loop-i.invariant.labels))

pub loop-i-preserved : goal.loop-i-preserved
loop-i-preserved c =
    let grown : map plain_row c.push.new.self.items
    ≡ map plain_row c.loop-i.rows.items
    ++ plain_row c.in_ok-next.next ∷ [] = rw c.in_ok-push.ensures.items
    (map_push _ c.loop-i.rows.items c.in_ok-next.next) in
    record {
      read = rows_step c.args.view.now c.args.entry c.loop-i.i (c.args.entry.count - c.loop-i.i)
          (c.args.entry.count - (c.loop-i.i + 1)) c.in_ok-field.field (map plain_row c.loop-i.rows.items) _
          (plain_row c.in_ok-next.next) _
          c.loop-i.invariant.read (omega arith) c.in_ok-field.ensures.number (c.in_ok-next.ensures.read (map plain_row c.loop-i.rows.items) c.loop-i.invariant.labels) grown;
      inside = λ many _. c.in_ok-field.ensures.inside many;
      labels = labels_step c.loop-i.used c.read_row.new.used (map plain_row c.loop-i.rows.items) _ (plain_row c.in_ok-next.next) c.loop-i.invariant.labels c.in_ok-next.ensures.added grown;
      charged = omega (
        arith,
        c.loop-i.invariant.charged,
        c.in_ok-next.ensures.charged,
        c.in_ok-charge.ensures.taken,
        ap rows_charge grown,
        rows_charge_push (map plain_row c.loop-i.rows.items) (plain_row c.in_ok-next.next),
      );
    }
