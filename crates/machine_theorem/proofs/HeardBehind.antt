-- The calls of a disk: what is heard behind a call, the command that is taken by it, and a medium that is honest over the first of them.
use Rattle.std.proofs.Common.{◌≡◌, ℕ, ◌+◌, ◌<◌, ◌≤◌, true, false, List, [], ◌∷◌, ◌++◌, append_assoc, refl, sym, ap, subst, ◌∙◌, inl, inr, arith}
use Rattle.std.proofs.lemmas.Bool.{lt-ltb}
use Rattle.std.specs.Prelude.{Bool, Ok, nat_lt}
use Rattle.fis_view.specs.Seen.{seen}
use Rattle.fis_view.specs.declared.view.Fis.TheVariants as view
use Rattle.block_command.specs.{declared.command.{Command.Command, Protocol.Protocol}, Moments.{is_queued, is_verify}}
use Rattle.block_command.specs.declared.command.Protocol.TheVariants as protocol
use Rattle.block_engine.specs.Laws as engine
use Rattle.ata_front.specs.declared.task.Act.{Act}
use Rattle.ata_front.specs.declared.task.Act.TheVariants as act
use Rattle.disk_pages.specs.declared.profile.Profile.{Profile}
use Rattle.sata_disk.specs.{Hearing.{MayAct, MayHear, register_told}, State.{DiskState, commands, is_taken, new_disk}, declared.out.Out.Out}
use Rattle.sata_disk_laws.specs.{Calls.{AreCalls, Call, Hears, Sends, act_steps, after_call, after_calls, fis_steps, steps_of}, Laws.reached}
use Rattle.sata_disk_media.specs.{Laws.{AreSparing, IsTakenAt, UndisturbedIsSpared}, Media.IsHonest}
use Rattle.machine_theorem.specs.{ReadBack.IsUntouched, Tags.{ended_with, heard_with, hears_with}}
use Rattle.machine_theorem.proofs.TagCounts.{Laws, Since, all_heard, counted, ended_both, first_calls, held_of_taken}

-- ---- where it is heard

abbrev pub first_or : Call → List Call → Call
first_or x [] = x
first_or x (y ∷ ys) = y

abbrev pub rest_of : List Call → List Call
rest_of [] = []
rest_of (y ∷ ys) = ys

-- A FIS with the tag that is heard in a list behind no fewer of them than stand before a call that is sent, is heard behind that call.
pub heard_behind : (tag : ℕ) (bytes : List ℕ) → hears_with tag (Hears bytes) ≡ 1 → (o : Out) (xs ys more rest : List Call)
    → xs ++ Sends o ∷ more ≡ ys ++ Hears bytes ∷ rest
    → heard_with tag xs ≤ heard_with tag ys → (middle : List Call) × (ys ≡ xs ++ Sends o ∷ middle)
heard_behind tag bytes one o [] [] more rest is few = absurd (let same = ap (first_or (Sends o)) is in cc)
heard_behind tag bytes one o [] (y ∷ ys) more rest is few = (ys, ap (λ (x : Call). x ∷ ys) (sym (ap (first_or (Sends o)) is)))
heard_behind tag bytes one o (x ∷ xs) [] more rest is few =
    absurd (let here : hears_with tag x ≡ 1 = ap (hears_with tag) (ap (first_or x) is) ∙ one in omega (arith, here, few))
heard_behind tag bytes one o (x ∷ xs) (y ∷ ys) more rest is few =
    let same : x ≡ y = ap (first_or x) is in
    let alike : hears_with tag x ≡ hears_with tag y = ap (hears_with tag) same in
    let it = heard_behind tag bytes one o xs ys more rest (ap rest_of is) (omega (arith, few, alike)) in
    (it.0, ap (λ (z : Call). z ∷ ys) (sym same) ∙ ap (λ (l : List Call). x ∷ l) it.1)

-- ---- what is taken

takes_by : (d : DiskState) (c : Command) (a : Act) → act_steps d.engine a ≡ engine.Takes c ∷ [] → a ≡ act.Takes c
takes_by d c act.Nothing e = absurd (cc)
takes_by d c (act.Takes k) e = cc
takes_by d c act.Flushes e = absurd (cc)
takes_by d c act.Resets e = absurd (cc)

pub takes_of : (d : DiskState) (bytes fis : List ℕ) (c : Command) → seen bytes ≡ Ok (view.RegH2D fis) → steps_of d (Hears bytes) ≡ engine.Takes c ∷ []
    → (register_told d fis).act ≡ act.Takes c
takes_of d bytes fis c viewed is = takes_by d c (register_told d fis).act (sym (ap (fis_steps d) viewed) ∙ is)

queued_no_verify : (x : Protocol) → is_queued x ≡ true → is_verify x ≡ false
queued_no_verify protocol.Queued e = refl
queued_no_verify other e = absurd (cc)

pub calls_then : (xs ys : List Call) (d : DiskState) → AreCalls d (xs ++ ys) → AreCalls (after_calls d xs) ys
unfolding after_calls
calls_then [] ys d are = are
calls_then (x ∷ xs) ys d are = calls_then xs ys (after_call d x) are.1

module _ (laws : Laws) (p : Profile) (limit : ℕ) (base : List Call) (tag : ℕ) (low : tag < 32)
    (free : is_taken (commands (reached p limit base)) tag ≡ false) where
  -- where no more than one FIS with the tag that was heard has not ended, the place was free as the last one was heard
  was_free : (done : List Call) (c : Command) → AreCalls (new_disk p limit) (base ++ done) → (s : Since p limit base tag done c)
      → heard_with tag done ≤ ended_with tag done + 1
      → (b : Bool) → is_taken (commands (reached p limit (base ++ s.front))) tag ≡ b → b ≡ false
  was_free done c are s few false is = refl
  was_free done c are s few true is =
      let heard : List Call = Hears s.asked.bytes ∷ s.asked.later in
      let same : base ++ done ≡ (base ++ s.front) ++ heard = ap (λ (l : List Call). base ++ l) s.split ∙ sym (append_assoc base s.front heard) in
      let first : AreCalls (new_disk p limit) (base ++ s.front) =
      first_calls (base ++ s.front) heard (new_disk p limit) (subst (AreCalls (new_disk p limit)) same are) in
      let held = held_of_taken _ is in
      let it : Since p limit base tag s.front held.0 = (counted p limit base tag laws low s.front first free).since held.0 held.1 in
      let a = all_heard p limit base tag done c s in
      let b = all_heard p limit base tag s.front held.0 it in
      let e : ended_with tag done ≡ ended_with tag s.front + ended_with tag heard = ap (ended_with tag) s.split ∙ ended_both tag s.front heard in
      let none = s.standing in
      let behind = it.behind in
      absurd (omega (arith, a, b, e, none, behind, few))

  pub taken_at : (done : List Call) (c : Command) → AreCalls (new_disk p limit) (base ++ done) → (s : Since p limit base tag done c)
      → heard_with tag done ≤ ended_with tag done + 1
      → IsTakenAt (reached p limit (base ++ s.front)) s.asked.bytes tag
  taken_at done c are s few = record {
    fis = s.asked.fis;
    viewed = s.asked.viewed;
    command = c;
    takes = takes_of (reached p limit (base ++ s.front)) s.asked.bytes s.asked.fis c s.asked.viewed
        (ap (λ (l : List Call). steps_of (reached p limit l) (Hears s.asked.bytes)) (sym s.behind_base) ∙ s.taken);
    place' = s.place;
    free = was_free done c are s few (is_taken (commands (reached p limit (base ++ s.front))) tag) refl;
  }

  -- a command that is taken under a tag is queued
  pub taken_queued : (done : List Call) (c : Command) → AreCalls (new_disk p limit) (base ++ done) → (s : Since p limit base tag done c)
      → is_verify c.protocol ≡ false
  taken_queued done c are s =
      let heard : List Call = Hears s.asked.bytes ∷ s.asked.later in
      let d : DiskState = reached p limit s.asked.before in
      let all : AreCalls d heard = calls_then s.asked.before heard (new_disk p limit) (subst (AreCalls (new_disk p limit)) s.asked.heard are) in
      let may : MayAct d.engine.stage (register_told d s.asked.fis).front.task (register_told d s.asked.fis).act = subst (MayHear d) s.asked.viewed all.0 in
      let takes = subst (MayAct d.engine.stage (register_told d s.asked.fis).front.task) (takes_of d s.asked.bytes s.asked.fis c s.asked.viewed s.taken) may in
      queued_no_verify c.protocol (takes.2 ∙ ap (λ (n : ℕ). nat_lt n 32) s.place ∙ lt-ltb tag 32 low)

-- ---- its medium

pub spared : UndisturbedIsSpared → (p : Profile) (limit : ℕ) (first later : List Call) (s : ℕ) → AreCalls (new_disk p limit) (first ++ later)
    → IsUntouched p limit first later s → AreSparing (reached p limit first) s later
spared law p limit first later s are (inl sparing) = sparing
spared law p limit first later s are (inr alone) = law p limit first later s are alone

pub honest_first : (p : Profile) (limit : ℕ) (xs ys : List Call) → IsHonest p limit (xs ++ ys) → IsHonest p limit xs
honest_first p limit xs ys honest first middle later r a is = honest first middle (later ++ ys) r a (ap (λ (l : List Call). l ++ ys) is ∙ append_assoc _ _ ys)
