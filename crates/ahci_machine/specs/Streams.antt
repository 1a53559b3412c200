-- The state of a machine as bytes: a mark, the version of the format, and the machine's words.
use Rattle.std.specs.Prelude.{◌≡◌, List, [], ◌∷◌, ℕ, Result, Ok, Err}
use Rattle.saved_state.specs.{Bytes.{AreWords, bytes_of, words_apart}, declared.words.RestoreError.RestoreError}
use Rattle.saved_state.specs.declared.words.RestoreError.TheVariants as damaged
use Rattle.ahci_machine.specs.{Saved.machine_words, States.MachineState, declared.state.StateError.StateError}
use Rattle.ahci_machine.specs.declared.state.StateError.TheVariants as refused

-- `GEFSUNK` and a zero, the lowest byte first; then the version
abbrev pub stream_of : MachineState → List ℕ
stream_of m = 0x004b_4e55_5346_4547 ∷ 1 ∷ machine_words.put m []

abbrev pub damage_of : RestoreError → StateError
damage_of damaged.OutOfMemory = refused.OutOfMemory
damage_of damaged.Short = refused.Short
damage_of damaged.NoSuch = refused.NoSuch
damage_of damaged.Broken = refused.Broken

-- words are the state of this machine, or of none
abbrev pub ReadsState : List ℕ → Result MachineState StateError → Type 0
ReadsState words (Ok m) = (words ≡ stream_of m) × machine_words.keeps m
ReadsState words (Err refused.OutOfMemory) = Unit {0}
ReadsState words (Err other) = (m : MachineState) → machine_words.keeps m → words ≡ stream_of m → ⊥

-- bytes are the state of this machine, or of none that was saved
abbrev pub ReadsStream : List ℕ → Result MachineState StateError → Type 0
ReadsStream bytes (Ok m) = (bytes ≡ bytes_of (stream_of m)) × machine_words.keeps m × AreWords (stream_of m)
ReadsStream bytes (Err refused.OutOfMemory) = Unit {0}
ReadsStream bytes (Err other) = (m : MachineState) → machine_words.keeps m → AreWords (stream_of m) → bytes ≡ bytes_of (stream_of m) → ⊥

-- the bytes of two machines are the same only if the machines are
abbrev pub SavedApart : Type 0
SavedApart = (a b : MachineState) → machine_words.keeps a → machine_words.keeps b → AreWords (stream_of a) → AreWords (stream_of b)
    → bytes_of (stream_of a) ≡ bytes_of (stream_of b) → a ≡ b

pub saved_apart : SavedApart
saved_apart a b k l x y e =
    let words : stream_of a ≡ stream_of b = words_apart (stream_of a) (stream_of b) x y e in
    let own : machine_words.put a [] ≡ machine_words.put b [] = cc in
    (machine_words.apart a b [] [] k l own).0
