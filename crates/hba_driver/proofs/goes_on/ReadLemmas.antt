-- For `port_goes_on`. What is issued at the port of a driver has a table that can be used.
use Rattle.std.proofs.Common.{◌≡◌, ℕ, zero, suc, ◌+◌, ◌*◌, ◌<◌, ◌≤◌, ◌⊎◌, Bool, true, false, ◌&&◌, List, length, refl, sym, ◌∙◌, ap, subst, inl, inr, arith, Option, Some, None}
use Rattle.std.specs.Prelude.{◌==◌, if◌then◌else◌, is_none, is_some}
use Rattle.std.proofs.lemmas.Bool.{false≢true, eq-eqb, le-ltb}
use Rattle.host_memory.specs.{Place.total_of, Reading.{prds_at, read_fault}, declared.{table.Prd.Prd, table.PrdError.PrdError}}
use Rattle.hba_commands.specs.{declared.command.Command.Command, Commands.total_if_sound}
use Rattle.slots.specs.{Slots.{Issue, match_some, own_issue, slots_of}, declared.work.Work.Work}
use Rattle.hba_fbs.specs.{Tables.{is_readable, prds_of, sound_command}, Views.last_command}
use Rattle.hba_laws.specs.{Client.own, Delivering.HaveTables, History.{Transfer, issued}}
use Rattle.hba_laws.proofs.Door.{is_own, own_below, own_in, the, the_transfer}
use Rattle.hba_driver.specs.{Effects.{prds_with, table_of}, Events.shared_by, HostTurns.Host, Paths.reads_page}
use Rattle.hba_driver.specs.{Served.{IsIssueOf, IsOrdered, IsRequest, IsStep}, Going.CanBeRead, Between.{HasPage, IsOnWay}}

counted : (s : List ℕ) (at n : ℕ) → length (prds_at s at n) ≡ n
counted s at zero = refl
counted s at (suc n) = ap (λ (k : ℕ). suc k) (counted s (at + 16) n)

-- a table with a known total is not refused
unrefused : (fault : Option PrdError) (total t : ℕ) → total_if_sound fault total ≡ Some t → fault ≡ None
unrefused None total t h = refl
unrefused (Some e) total t h = let bad : None ≡ Some t = h in cc

-- a table without entries is not refused either
empty_read : (s : List ℕ) (len at : ℕ) → at ≤ length s → read_fault s len at 0 ≡ None
empty_read s len at room = rw (le-ltb (length s) (at + 16 * 0) (omega (arith, room))) refl

and_true : (a b : Bool) → a ≡ true → b ≡ true → (a && b) ≡ true
and_true true b h k = k
and_true false b h k = absurd (false≢true h)

then_there : (b : Bool) (c : Command) → b ≡ true → is_some (if b then Some c else None) ≡ true
then_there true c h = refl
then_there false c h = absurd (false≢true h)

module _ (h : Host) (w : IsOnWay h) (tables : HaveTables (shared_by h) w.past) (page : HasPage h.driver h.memory) where
  -- as many entries as the transfer has
  as_many : (t : Transfer) (c : Command) → prds_of h.memory c ≡ t.table → c.count ≡ length t.table
  as_many t c same = sym (counted h.memory.structure (c.table + 128) c.count) ∙ ap (λ (prds : List Prd). length prds) same

  none_read : (s n : ℕ) → s < 32 → n ≡ 0 → read_fault h.memory.structure (length h.memory.client) (table_of s + 128) n ≡ None
  none_read s n below none =
      ap (λ (k : ℕ). read_fault h.memory.structure (length h.memory.client) (table_of s + 128) k) none
      ∙ empty_read h.memory.structure (length h.memory.client) (table_of s + 128) (omega (arith, below, w.sound.memory.structure_len))

  step_read : (d n s : ℕ) (t : Transfer) (st : IsStep h.driver n s t) (b : Bool) → reads_page st.path.stage ≡ b → s < 32 → d ≡ length t.table
      → read_fault h.memory.structure (length h.memory.client) (table_of s + 128) d ≡ None
  step_read d n s t st true is below many =
      let one : d ≡ 1 = many ∙ ap (λ (prds : List Prd). length prds) (st.table ∙ ap prds_with is) in
      subst (λ (k : ℕ). read_fault h.memory.structure (length h.memory.client) (table_of k + 128) d ≡ None) (sym st.slot)
      (ap (λ (k : ℕ). read_fault h.memory.structure (length h.memory.client) (table_of 30 + 128) k) one ∙ page st.path st.goes st.asked is)
  step_read d n s t st false is below many = none_read s d below (many ∙ ap (λ (prds : List Prd). length prds) (st.table ∙ ap prds_with is))

  from_read : (d n s : ℕ) (t : Transfer) → IsRequest h.driver n s t ⊎ (IsStep h.driver n s t ⊎ IsOrdered h.driver n s t) → s < 32 → d ≡ length t.table
      → read_fault h.memory.structure (length h.memory.client) (table_of s + 128) d ≡ None
  from_read d n s t (inl r) below many =
      let whole = w.fit s r.entry r.stands in
      ap (λ (k : ℕ). read_fault h.memory.structure (length h.memory.client) (table_of s + 128) k) (many ∙ ap (λ (prds : List Prd). length prds) r.table)
      ∙ unrefused _ _ _ whole.total
  from_read d n s t (inr (inl st)) below many = step_read d n s t st (reads_page st.path.stage) refl below many
  from_read d n s t (inr (inr o)) below many = none_read s d below (many ∙ ap (λ (prds : List Prd). length prds) o.table)

  readable : (n s : ℕ) (i : Issue) (t : Transfer) (c : Command) → s < 32 → IsIssueOf h.driver n s t → t.work ≡ i.work → prds_of h.memory c ≡ t.table → c.table ≡ table_of s
      → is_readable h.memory i.work.len c ≡ true
  readable n s i t c below of work same at =
      let fault : read_fault h.memory.structure (length h.memory.client) (c.table + 128) c.count ≡ None =
      ap (λ (k : ℕ). read_fault h.memory.structure (length h.memory.client) (k + 128) c.count) at ∙ from_read c.count n s t of.from below (as_many t c same) in
      and_true (is_none (read_fault h.memory.structure (length h.memory.client) (c.table + 128) c.count)) (total_of (prds_of h.memory c) == i.work.len)
      (ap is_none fault)
      (eq-eqb (total_of (prds_of h.memory c)) i.work.len (ap total_of same ∙ of.total ∙ ap (λ (x : Work). x.len) work))

  by_command : (n s : ℕ) (i : Issue) (t : Transfer) (o : Option Command) → n < 16 → s < 32 → own_issue (slots_of n h.port.slots) s ≡ Some i → issued s (own n w.past) ≡ Some t → t.work ≡ i.work
      → last_command h.port.commands s ≡ o → is_some (sound_command h.memory h.port.commands (slots_of n h.port.slots) s) ≡ true
  by_command n s i t None low below at here work last =
      let bad : Some i ≡ None = sym (own_in n s h.port.slots i at).1 ∙ w.sound.ruled.rules.commands s last in
      cc
  by_command n s i t (Some c) low below at here work last =
      let same : prds_of h.memory c ≡ t.table = tables n low s t c here last in
      let has = w.served.tables s c last in
      ap (λ (o : Option Issue). is_some (match_some o None (λ issue. match_some (last_command h.port.commands s) None (λ command. if is_readable h.memory issue.work.len command then Some command else None)))) at
      ∙ ap (λ (o : Option Command). is_some (match_some o None (λ command. if is_readable h.memory i.work.len command then Some command else None))) last
      ∙ then_there (is_readable h.memory i.work.len c) c (readable n s i t c below (w.served.issues n s t here) work same has.table)

  pub can_read : CanBeRead (shared_by h)
  can_read n s low there =
      let i = the (own_issue (slots_of n h.port.slots) s) there in
      let told = w.served.told n low in
      let t = the_transfer (issued s (own n w.past)) (own_issue (slots_of n h.port.slots) s) i.0 i.1 (told.issued s) in
      by_command n s i.0 t.0 (last_command h.port.commands s) low (own_below n s (slots_of n h.port.slots) i.0 (is_own n h.port.slots w.sound.ruled.table) i.1) i.1 t.1 t.2 refl
