use Rattle.std.proofs.Common.{◌≡◌, [], ◌∷◌, ◌++◌, Some, ap, subst}
use Rattle.std.specs.Prelude.{OnOk}
use Rattle.stack_lists.specs.declared.row_list.Setting.{Setting}
use Rattle.stack_lists.specs.declared.row_list.ShortRow.{ShortRow}
use Rattle.stack_lists.specs.RowLists.{rows_of, with_setting}
use Rattle.stack_lists.proofs.RowListLemmas.{pushed_ok}
use Rattle.stack_lists.proofs.row_list.RowList.push.Goals as goal

pub returns-clause-ok : goal.returns-clause-ok
returns-clause-ok c =
    let short : ShortRow = record { place = c.args.row.place; cells = c.args.row.held.cells; setting = c.in_ok-setting.setting } in
    subst (λ rows. OnOk c.push.result (rows_of c.number_of.new.settings c.push.new.self ≡ rows ++ c.args.row ∷ [])) c.self.view_is
    (pushed_ok c.self.inside.settings c.number_of.new.settings c.self.inside.rows c.push.new.self short c.setting_of.result c.args.row c.push.result
    c.self.invariant c.number_of.ensures.kept c.in_ok-setting.ensures.is (ap (λ (s : Setting). with_setting short (Some s)) c.setting_of.ensures)
    c.push.ensures.ok)
