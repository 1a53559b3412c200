use Rattle.saved_state.specs.State.{parts_refused}
use Rattle.ata_command.specs.Saved.{KeepsSettingsParts, each_setting, put_settings_parts, settings_parts}
use Rattle.ata_command.proofs.settings.saved.SettingsSaved.restore.Goals as goal

pub returns-in-Err : goal.returns-in-Err
returns-in-Err c = parts_refused put_settings_parts KeepsSettingsParts (λ _. Unit {0}) settings_parts each_setting c.args.words.now c.restore.new.words c.in-Err.error c.in-Err.ensures
