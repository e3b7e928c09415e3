-- A play's setting, without what its hooks call.
pub use Rattle.hook_table.specs.InHooks.{known_by}
use Rattle.ncs_machine.specs.Settings.{CodeSetting, code_setting}
use Rattle.ncs_machine.specs.declared.setting.PlaySetting.{PlaySetting}

abbrev pub seen : {X : Type 0} {P : X → Type 0} {C : _} → PlaySetting X P C → CodeSetting
seen s = code_setting s.code (known_by s.hooks.now)
