use Rattle.saved_state.specs.State.{parts_refused}
use Rattle.disk_pages.specs.Saved.{KeepsProfile, KeepsProfileParts, profile_parts, put_profile_parts}
use Rattle.disk_pages.proofs.profile.saved.ProfileSaved.restore.Goals as goal

pub returns-in-Err : goal.returns-in-Err
returns-in-Err c = parts_refused put_profile_parts KeepsProfileParts KeepsProfile profile_parts (λ v k. k) c.args.words.now c.restore.new.words c.in-Err.error c.in-Err.ensures
