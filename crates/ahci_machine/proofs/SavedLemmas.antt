-- Words that are no machine: those that begin as a disk's and are none, and those that begin as no state does, or go on behind one.
use Rattle.std.proofs.Common.{◌≡◌, ◌∙◌, ℕ, List, [], ◌∷◌, Result, Ok, Err, sym, ap, subst}
use Rattle.saved_state.specs.{Bytes.{AreWords, ReadsBytes, bytes_of, words_apart}, State.{NotSaved, Restores}}
use Rattle.saved_state.specs.declared.words.RestoreError.{RestoreError, TheVariants.{OutOfMemory, Short, NoSuch, Broken}}
use Rattle.sata_disk.specs.Saved.{KeepsDisk, put_disk}
use Rattle.ahci_machine.specs.{Saved.{KeepsUnit, machine_words, put_unit}, States.MachineState, Streams.{ReadsState, ReadsStream, damage_of}}
use Rattle.ahci_machine.specs.{Streams.stream_of, declared.state.StateError.StateError}
use Rattle.ahci_machine.specs.declared.state.StateError.TheVariants as refused
use Rattle.ahci_machine.specs.declared.bay.Unit.TheVariants as unit

no_unit : (words mid : List ℕ) → words ≡ 1 ∷ mid → NotSaved put_disk KeepsDisk mid → NotSaved put_unit KeepsUnit words
no_unit words mid is gone unit.Empty rest k e = let both : 1 ∷ mid ≡ 0 ∷ rest = sym is ∙ e in absurd (cc)
no_unit words mid is gone unit.Own rest k e = let both : 1 ∷ mid ≡ 2 ∷ rest = sym is ∙ e in absurd (cc)
no_unit words mid is gone (unit.Disk disk) rest k e =
    let both : 1 ∷ mid ≡ 1 ∷ put_disk disk rest = sym is ∙ e in
    let own : mid ≡ put_disk disk rest = cc in
    gone disk rest k own

pub unit_refused : (words mid new : List ℕ) (e : RestoreError) → words ≡ 1 ∷ mid → Restores put_disk KeepsDisk mid (Err e) new
    → Restores put_unit KeepsUnit words (Err e) new
unit_refused words mid new OutOfMemory is gone = tt
unit_refused words mid new Short is gone = no_unit words mid is gone
unit_refused words mid new NoSuch is gone = no_unit words mid is gone
unit_refused words mid new Broken is gone = no_unit words mid is gone

-- ---- the state of a machine as bytes

pub read_stream : (bytes words : List ℕ) (r : Result MachineState StateError) → (bytes ≡ bytes_of words) × AreWords words
    → ReadsState words r → ReadsStream bytes r
read_stream bytes words (Ok m) are is =
    let P : List ℕ → Type 0 = AreWords in
    (are.0 ∙ ap bytes_of is.0, is.1, subst P is.0 are.1)
read_stream bytes words (Err refused.OutOfMemory) are gone = tt
read_stream bytes words (Err refused.NotAMachine) are gone =
    λ m k w e. gone m k (words_apart words (stream_of m) are.1 w (sym are.0 ∙ e))
read_stream bytes words (Err refused.OtherVersion) are gone =
    λ m k w e. gone m k (words_apart words (stream_of m) are.1 w (sym are.0 ∙ e))
read_stream bytes words (Err refused.Short) are gone = λ m k w e. gone m k (words_apart words (stream_of m) are.1 w (sym are.0 ∙ e))
read_stream bytes words (Err refused.Long) are gone = λ m k w e. gone m k (words_apart words (stream_of m) are.1 w (sym are.0 ∙ e))
read_stream bytes words (Err refused.NoSuch) are gone = λ m k w e. gone m k (words_apart words (stream_of m) are.1 w (sym are.0 ∙ e))
read_stream bytes words (Err refused.Broken) are gone = λ m k w e. gone m k (words_apart words (stream_of m) are.1 w (sym are.0 ∙ e))

pub no_stream : (bytes : List ℕ) (e : RestoreError) → ReadsBytes bytes (Err e) → ReadsStream bytes (Err (damage_of e))
no_stream bytes OutOfMemory gone = tt
no_stream bytes Short gone = λ m k w e. gone (stream_of m) e
no_stream bytes NoSuch gone = λ m k w e. gone (stream_of m) e
no_stream bytes Broken gone = λ m k w e. gone (stream_of m) e

-- words that go on behind a machine
pub goes_on : (words one two three left : List ℕ) (word : ℕ) (machine : MachineState) → words ≡ 0x004b_4e55_5346_4547 ∷ one → one ≡ 1 ∷ two
    → (two ≡ machine_words.put machine three) × machine_words.keeps machine → three ≡ word ∷ left
    → (m : MachineState) → machine_words.keeps m → words ≡ stream_of m → ⊥
goes_on words one two three left word machine a b is c m k e =
    let rest : one ≡ 1 ∷ machine_words.put m [] = cc in
    let own : two ≡ machine_words.put m [] = cc in
    let end : three ≡ [] = (machine_words.apart machine m three [] is.1 k (sym is.0 ∙ own)).1 in
    absurd (cc)
