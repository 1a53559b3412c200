-- For `rested_disks_have_done`. The tag of a queued command that was sent is not free as long as the command is issued.
use Rattle.std.proofs.Common.{◌≡◌, ◌==◌, ◌&&◌, ◌+◌, ◌^◌, eqb, ℕ, Bool, true, false, List, [], ◌∷◌, ◌++◌, drop, length, refl, sym, ap, subst, ◌∙◌, inl}
use Rattle.std.proofs.{Common.{inr, Option, Some, None, Ok, Result}, lemmas.Bool.{cases_Bool, eq-eqb, eqb-true, or_parts, true≢false}}
use Rattle.std.proofs.lemmas.{List.Folds.{list_any-append}, Nat.Bits.{bit_at-pow_same}}
use Rattle.std.specs.{Prelude.{◌*◌, ◌||◌, not, filter, if◌then◌else◌, find}, List.list_any}
use Rattle.fis_view.specs.{Table.{Bits, BufferId, EStatus, Offset, Pio, SActive, Setup, field}, declared.view.{Fis.Fis, FisFault.FisFault}}
use Rattle.fis_view.specs.Table as table
use Rattle.fis_view.specs.declared.view.Fis.TheVariants as view
use Rattle.slots.specs.{Slots.{has_bit, match_some}, Work.is_queued}
use Rattle.disk_model.specs.{declared.request.Command.Command, Ends.{IsFree, IsRight, MovesOther, has}, Ledger.{Ledger, Moving, Names, activates}}
use Rattle.disk_model.specs.Ledger.{answered, ends, is_auto, listens_up, moves, sends_data, sets_up, starts_moving, takes_data, with_auto}
use Rattle.disk_model.specs.Between.{opened}
use Rattle.disk_model.proofs.Door.{bits_up}
use Rattle.hba_laws.specs.{Between.NotIssue, History.{Event, History, Transfer, completes, issued, unless}}
use Rattle.hba_laws.specs.History as event
use Rattle.hba_laws.proofs.Door.{issued_before}
use Rattle.disk_simulation.specs.Together.{IsHeard, is_sent, told}

abbrev pub AreTaken : History → Ledger → Type 0
AreTaken past k = (s : ℕ) (t : Transfer) → issued s past ≡ Some t → is_queued t.work.kind ≡ true → is_sent s past ≡ true → IsFree k s → ⊥

-- ---- what is free was free before

free_as : (k x : Ledger) (s : ℕ) → x.outstanding ≡ k.outstanding → x.unanswered ≡ k.unanswered → x.moving ≡ k.moving → IsFree x s → IsFree k s
free_as k x s same left now free = record {
  outstanding = ap (list_any (λ (q : Command). q.tag == s)) (sym same) ∙ free.outstanding;
  unanswered = ap (has s) (sym left) ∙ free.unanswered;
  moving = subst (MovesOther s) now free.moving;
}

moving_free : (k : Ledger) (v w : Moving) (s : ℕ) → w.command ≡ v.command → k.moving ≡ Some v → IsFree (record k { moving = Some w }) s → IsFree k s
moving_free k v w s same now free = record {
  outstanding = free.outstanding;
  unanswered = free.unanswered;
  moving = subst (MovesOther s) (sym now) (ap (λ (c : Command). c.tag == s) (sym same) ∙ free.moving);
}

activates_free : (x : Ledger) (m : Option Moving) (s : ℕ) → x.moving ≡ m → IsFree (activates x m) s → IsFree x s
activates_free x None s is free = free
activates_free x (Some v) s is free = moving_free x v (record v { active = true }) s refl is free

auto_free : (b : Bool) (x : Ledger) (s : ℕ) → IsFree (with_auto b x) s → IsFree x s
auto_free true x s free = activates_free x x.moving s refl free
auto_free false x s free = free

none_free : (k x : Ledger) (s : ℕ) → k.moving ≡ None → x.outstanding ≡ k.outstanding → x.unanswered ≡ k.unanswered → IsFree x s → IsFree k s
none_free k x s none same left free = record {
  outstanding = ap (list_any (λ (q : Command). q.tag == s)) (sym same) ∙ free.outstanding;
  unanswered = ap (has s) (sym left) ∙ free.unanswered;
  moving = subst (MovesOther s) (sym none) tt;
}

starts_free : (k : Ledger) (offset count : ℕ) (o : Option Command) (s : ℕ) → k.moving ≡ None → IsFree (starts_moving k offset count o) s → IsFree k s
starts_free k offset count None s none free = free
starts_free k offset count (Some c) s none free = none_free k (starts_moving k offset count (Some c)) s none refl refl free

setup_free : (k : Ledger) (m : Option Moving) (tag offset count s : ℕ) → k.moving ≡ m → IsFree (sets_up k m tag offset count) s → IsFree k s
setup_free k None tag offset count s is free = starts_free k offset count (find (λ c. c.tag == tag) k.outstanding) s is free
setup_free k (Some v) tag offset count s is free = moving_free k v _ s refl is free

-- ---- data

-- a filter by another tag leaves those with the tag
left_by : (tag s : ℕ) (q : Command) (b : Bool) (rest : List Command) → eqb q.tag tag ≡ b → eqb tag s ≡ false → list_any (λ q. q.tag == s) (if not b then q ∷ rest else rest) ≡ false
    → (eqb q.tag s ≡ false) × (list_any (λ q. q.tag == s) rest ≡ false)
left_by tag s q true rest is other none = (ap (λ (t : ℕ). eqb t s) (eqb-true q.tag tag is) ∙ other, none)
left_by tag s q false rest is other none = or_parts (q.tag == s) (list_any (λ q. q.tag == s) rest) none

left_out : (tag s : ℕ) (qs : List Command) → eqb tag s ≡ false → list_any (λ q. q.tag == s) (filter (λ q. not (q.tag == tag)) qs) ≡ false → list_any (λ q. q.tag == s) qs ≡ false
left_out tag s [] other none = refl
left_out tag s (q ∷ qs) other none =
    let both = left_by tag s q (q.tag == tag) (filter (λ q. not (q.tag == tag)) qs) refl other none in
    ap (λ (b : Bool). b || list_any (λ q. q.tag == s) qs) both.0 ∙ left_out tag s qs other both.1

ended_free : (k x : Ledger) (v : Moving) (tag s : ℕ) → v.command.tag ≡ tag → k.moving ≡ Some v → x.outstanding ≡ filter (λ q. not (q.tag == tag)) k.outstanding → x.unanswered ≡ k.unanswered ++ tag ∷ []
    → IsFree x s → IsFree k s
ended_free k x v tag s own now outstanding unanswered free =
    let parts = or_parts (has s k.unanswered) (has s (tag ∷ [])) (sym (list_any-append (λ (t : ℕ). t == s) k.unanswered (tag ∷ [])) ∙ ap (has s) (sym unanswered) ∙ free.unanswered) in
    let other : eqb tag s ≡ false = (or_parts (tag == s) false parts.1).0 in
    record {
      outstanding = left_out tag s k.outstanding other (ap (list_any (λ (q : Command). q.tag == s)) (sym outstanding) ∙ free.outstanding);
      unanswered = parts.0;
      moving = subst (MovesOther s) (sym now) (ap (λ (t : ℕ). eqb t s) own ∙ other);
    }

ends_free : (k : Ledger) (v w : Moving) (s : ℕ) (write : Bool) → w.command ≡ v.command → k.moving ≡ Some v → IsFree (ends k w write) s → IsFree k s
ends_free k v w s true same now free = ended_free k (ends k w true) v w.command.tag s (ap (λ (c : Command). c.tag) (sym same)) now refl refl free
ends_free k v w s false same now free = ended_free k (ends k w false) v w.command.tag s (ap (λ (c : Command). c.tag) (sym same)) now refl refl free

goes_free : (k : Ledger) (v w : Moving) (s : ℕ) (b : Bool) → w.command ≡ v.command → k.moving ≡ Some v → IsFree (if b then ends k w w.command.write else record k { moving = Some w }) s → IsFree k s
goes_free k v w s true same now free = ends_free k v w s w.command.write same now free
goes_free k v w s false same now free = moving_free k v w s same now free

moves_free : (k : Ledger) (v : Moving) (bytes : List ℕ) (s : ℕ) → k.moving ≡ Some v → IsFree (moves k v bytes) s → IsFree k s
moves_free k v bytes s now free = goes_free k v _ s (v.moved + length bytes == 512 * v.command.count) refl now free

sends_free : (k : Ledger) (bytes : List ℕ) (m : Option Moving) (s : ℕ) → k.moving ≡ m → IsFree (sends_data k m bytes) s → IsFree k s
sends_free k bytes None s is free = free_as k (sends_data k None bytes) s refl refl refl free
sends_free k bytes (Some v) s is free = moves_free k v bytes s is free

takes_free : (k : Ledger) (bytes : List ℕ) (m : Option Moving) (s : ℕ) → k.moving ≡ m → IsFree (takes_data k m bytes) s → IsFree k s
takes_free k bytes None s is free = free
takes_free k bytes (Some v) s is free = by_test (v.active && (length bytes == v.count)) free
  where
    by_test : (b : Bool) → IsFree (if b then moves k v bytes else k) s → IsFree k s
    by_test true free = moves_free k v bytes s is free
    by_test false free = free

-- ---- a tag that ended first and is not named

own_bit : (tag mask : ℕ) → mask ≡ 2 ^ tag → has_bit mask tag ≡ true
own_bit tag mask is = ap (λ (m : ℕ). has_bit m tag) is ∙ eq-eqb _ 1 (bit_at-pow_same tag)

unnamed_free : (k : Ledger) (tags : List ℕ) (mask s : ℕ) → k.unanswered ≡ tags → Names tags mask → has_bit mask s ≡ false → IsFree (record k { unanswered = drop 1 tags }) s → IsFree k s
unnamed_free k [] mask s is names other free = absurd names
unnamed_free k (tag ∷ tags) mask s is names other free = by_tag (tag == s) refl
  where
    by_tag : (b : Bool) → eqb tag s ≡ b → IsFree k s
    by_tag true same = absurd (true≢false (sym (own_bit tag mask names) ∙ ap (has_bit mask) (eqb-true tag s same) ∙ other))
    by_tag false apart = record {
      outstanding = free.outstanding;
      unanswered = ap (has s) is ∙ ap (λ (b : Bool). b || has s tags) apart ∙ free.unanswered;
      moving = free.moving;
    }

-- ---- a command more

opened_free : (k : Ledger) (c : Command) (s : ℕ) → IsFree (opened k c) s → (eqb c.tag s ≡ false) × IsFree k s
opened_free k c s free =
    let parts = or_parts (list_any (λ q. q.tag == s) k.outstanding) (list_any (λ q. q.tag == s) (c ∷ []))
    (sym (list_any-append (λ (q : Command). q.tag == s) k.outstanding (c ∷ [])) ∙ free.outstanding) in
    ((or_parts (c.tag == s) false parts.1).0, record { outstanding = parts.0; unanswered = free.unanswered; moving = free.moving })

-- ---- each event

module _ (past : History) (k : Ledger) (taken : AreTaken past k) where
  later : (e : Event) (x : Ledger) → NotIssue e → ((s : ℕ) → is_sent s (e ∷ past) ≡ is_sent s past) → ((s : ℕ) → IsFree x s → IsFree k s) → AreTaken (e ∷ past) x
  later e x not sent keeps s t here queued was free = taken s t (issued_before s e past t not here) queued (sym (sent s) ∙ was) (keeps s free)

  taken_bits : (f : List ℕ) → IsRight k (Ok (view.SetBits f)) → IsHeard past (Ok (view.SetBits f)) → AreTaken (event.Named (field Bits SActive f) ∷ past) (listens_up k (Ok (view.SetBits f)))
  unfolding NotIssue
  taken_bits f right heard s t here queued was free =
      let mask : ℕ = field Bits SActive f in
      let before : issued s past ≡ Some t = issued_before s (event.Named (field Bits SActive f)) past t tt here in
      let now : IsFree (record k { unanswered = drop 1 k.unanswered }) s = subst (λ (x : Ledger). IsFree x s) (bits_up k f right.fine) free in
      elim (cases_Bool (has_bit (field Bits SActive f) s)) [
        | inl named ↦
            let gone : issued s (event.Named (field Bits SActive f) ∷ past) ≡ None =
            ap (λ (o : Option Transfer). match_some o None (λ u. unless (completes s (event.Named (field Bits SActive f)) past u.work) (Some u))) before
            ∙ ap (λ (b : Bool). unless b (Some t)) (heard s t before queued named) in
            cc (sym gone ∙ here)
        | inr other ↦ taken s t before queued was (unnamed_free k k.unanswered (field Bits SActive f) s refl (right.answers right.fine) other now)
      ]

  pub taken_up : (fis : Result Fis FisFault) → IsRight k fis → IsHeard past fis → AreTaken (told fis ++ past) (listens_up k fis)
  unfolding NotIssue
  taken_up (Ok (view.RegH2D f)) right heard = taken
  taken_up (Ok (view.RegD2H f)) right heard = later event.Answered (answered k) tt (λ s. refl) (λ s. free_as k (answered k) s refl refl refl)
  taken_up (Ok (view.SetBits f)) right heard = taken_bits f right heard
  taken_up (Ok (view.DmaActivate f)) right heard = λ s t here queued was free. taken s t here queued was (activates_free k k.moving s refl free)
  taken_up (Ok (view.DmaSetup f)) right heard =
      later (event.SetUp (field Setup BufferId f) (field Setup Offset f) (field Setup table.Count f) (field Setup table.D f == 1))
      (listens_up k (Ok (view.DmaSetup f))) tt (λ s. refl)
      (λ s free. setup_free k k.moving (field Setup BufferId f) (field Setup Offset f) (field Setup table.Count f) s refl (auto_free (is_auto f) _ s free))
  taken_up (Ok (view.PioSetup f)) right heard =
      later (event.PioSetUp (field Pio table.Transfer f) (field Pio table.D f == 1) (field Pio EStatus f)) (answered k) tt (λ s. refl)
      (λ s. free_as k (answered k) s refl refl refl)
  taken_up (Ok (view.Payload f)) right heard = later (event.Carried (drop 4 f)) (sends_data k k.moving (drop 4 f)) tt (λ s. refl) (λ s. sends_free k (drop 4 f) k.moving s refl)
  taken_up other right heard = taken

  -- the signature that ends a reset
  pub taken_signed : AreTaken past (answered k)
  taken_signed s t here queued was free = taken s t here queued was (free_as k (answered k) s refl refl refl free)

  pub taken_down : (bytes : List ℕ) → AreTaken (event.Carried bytes ∷ past) (takes_data k k.moving bytes)
  unfolding NotIssue
  taken_down bytes = later (event.Carried bytes) (takes_data k k.moving bytes) tt (λ s. refl) (λ s. takes_free k bytes k.moving s refl)

  -- a queued command is sent
  pub taken_sent : (slot : ℕ) (c : Command) → c.tag ≡ slot → AreTaken (event.Sent slot ∷ past) (opened k c)
  unfolding NotIssue
  taken_sent slot c tag s t here queued was free =
      let both = opened_free k c s free in
      let other : eqb slot s ≡ false = ap (λ (n : ℕ). eqb n s) (sym tag) ∙ both.0 in
      taken s t (issued_before s (event.Sent slot) past t tt here) queued (sym (ap (λ (b : Bool). if b then true else is_sent s past) other) ∙ was) both.1
