-- A device that sends the frames of a script.
use Rattle.std.specs.Prelude.{ℕ, ◌≡◌, List, ◌∷◌, ◌++◌}
use Rattle.disk_model.specs.Histories.{Happening, Plan, Script, DiskOf, sent_in}

-- the frames of the script, and those that are left to send
pub record Reading : Type 0 where
  pub frames : List (List ℕ)
  pub left : List (List ℕ)

abbrev pub script_of : Reading → Plan
script_of reading = Script reading.frames

-- what was sent, and then what is left, is the script
abbrev pub ScriptStandsFor : Reading → List Happening → Type 0
ScriptStandsFor reading history = sent_in history ++ reading.left ≡ reading.frames

-- the next frame of the script
abbrev pub ScriptMaySend : Plan → List Happening → List ℕ → Type 0
ScriptMaySend (Script frames) history bytes =
    (later : List (List ℕ)) × (sent_in history ++ bytes ∷ later ≡ frames)
ScriptMaySend (DiskOf plan sectors) history bytes = ⊥
