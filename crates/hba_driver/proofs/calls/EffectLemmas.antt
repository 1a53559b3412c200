-- For `Driver::tick`. What an order that issues nothing does, and what no effect leaves.
use Rattle.std.proofs.Common.{◌≡◌, ℕ, zero, suc, ◌<◌, Bool, true, false, ◌&&◌, nat_lt, List, [], ◌∷◌, get_or, refl, arith, subst, Option, Some, None, ◌++◌}
use Rattle.std.specs.{Prelude.{◌^◌, ◌+◌, ◌*◌}, List.list_all}
use Rattle.std.proofs.lemmas.{Bool.{and_from, false≢true}, Bool.Decides.nat_tests}
use Rattle.hba_driver.specs.declared.{effect.Effect.Effect, mode.Mode.{Mode, TheVariants.{Switching, CommandBased}}}
use Rattle.hba_driver.specs.declared.order.Order.{Order, TheVariants.{AwaitSignature, Scan, Clear, Watch}}
use Rattle.hba_driver.specs.Effects.{ActsAll, choosing, effects_of, emptying, is_effect, issuing, opening_write, opening_writes, order_effects}
use Rattle.hba_driver.specs.{Effects.{restart_write, restart_writes, sending}, Drivers.IsOrder, Turns.IsAct, declared.turn.Act.Act}
use Rattle.hba_driver.specs.{Orders.{control_port, order_fields}, Paths.{reads_page, stage_fields}, Sights.{px_ci, px_cmd, px_fbs, px_sact, px_sntf}}
use Rattle.hba_driver.specs.declared.effect.Effect.TheVariants as effect
use Rattle.fis_view.specs.declared.build.H2dFields.{H2dFields}
use Rattle.host_memory.specs.Memory.{Memory}
use Rattle.slots.specs.Slots.{match_some}
use Rattle.hba_fbs.specs.Views.{Port}
use Rattle.hba_driver.specs.declared.turn.Act.TheVariants as act

pub no_effects : (mode : Mode) (order : Order) → order_fields order ≡ None → order_effects mode order ≡ []
unfolding order_fields order_effects
no_effects mode AwaitSignature h = refl
no_effects mode Watch h = refl
no_effects mode other h = cc

pub none_acts : (port after : Port) (memory later : Memory) → ActsAll [] port memory after later → (after ≡ port) × (later ≡ memory)
unfolding ActsAll
none_acts port after memory later h = h

pub acts_none : (port : Port) (memory : Memory) → ActsAll [] port memory port memory
unfolding ActsAll
acts_none port memory = (refl, refl)

-- ---- a test of each effect

first_holds : (a b : Bool) → (a && b) ≡ true → a ≡ true
first_holds true b h = refl
first_holds false b h = absurd (false≢true h)

rest_holds : (a b : Bool) → (a && b) ≡ true → b ≡ true
rest_holds true b h = h
rest_holds false b h = absurd (false≢true h)

pub all_at : (test : Effect → Bool) (es : List Effect) (k : ℕ) (e : Effect) → list_all test es ≡ true → test e ≡ true → test (get_or es k e) ≡ true
all_at test [] k e h own = own
all_at test (x ∷ es) zero e h own = first_holds (test x) (list_all test es) h
all_at test (x ∷ es) (suc k) e h own = all_at test es k e (rest_holds (test x) (list_all test es) h) own

-- What holds of each effect holds of the effects of an act. Each part of an act is tried once.
module _ (test : Effect → Bool) (mode : Mode) where
  one_passes : (b : Bool) → b ≡ true → (b && true) ≡ true
  one_passes true h = refl
  one_passes false h = h

  pub opens_pass : (k : ℕ) → list_all test (opening_writes mode) ≡ true → test (effect.Writes px_cmd 0x20011) ≡ true → list_all test (opening_write mode k ∷ []) ≡ true
  unfolding opening_write
  opens_pass k all last = one_passes _ (all_at test (opening_writes mode) k _ all last)

  pub restarts_pass : (k : ℕ) → list_all test restart_writes ≡ true → test (effect.Writes px_cmd 0x20011) ≡ true → list_all test (restart_write k ∷ []) ≡ true
  unfolding restart_write
  restarts_pass k all last = one_passes _ (all_at test restart_writes k _ all last)

  chosen_passes : (m : Mode) (dev : ℕ) (es : List Effect) → (m ≡ Switching → test (effect.Writes px_fbs (256 * dev + 1)) ≡ true) → list_all test es ≡ true → list_all test (choosing m dev ++ es) ≡ true
  chosen_passes Switching dev es chooses h = and_from _ _ (chooses refl) h
  chosen_passes CommandBased dev es chooses h = h

  pub issuing_pass : (slot dev : ℕ) (queued : Bool) → (mode ≡ Switching → test (effect.Writes px_fbs (256 * dev + 1)) ≡ true) → test (effect.Writes px_sact (2 ^ slot)) ≡ true → test (effect.Writes px_ci (2 ^ slot)) ≡ true
      → list_all test (issuing mode slot dev queued) ≡ true
  issuing_pass slot dev true chooses queues issues = chosen_passes mode dev _ chooses (and_from _ _ queues (one_passes _ issues))
  issuing_pass slot dev false chooses queues issues = chosen_passes mode dev _ chooses (one_passes _ issues)

  pub sending_pass : (slot dev : ℕ) (o : Option H2dFields) (buffer : Bool) → ((f : H2dFields) → test (effect.Commands slot f buffer) ≡ true) → list_all test (issuing mode slot dev false) ≡ true
      → list_all test (match_some o [] (λ f. sending mode slot dev f buffer)) ≡ true
  sending_pass slot dev None buffer commands issues = refl
  sending_pass slot dev (Some f) buffer commands issues = and_from _ _ (commands f) issues

  emptied_passes : (m : Mode) (dev : ℕ) (es : List Effect) → test (effect.Empties dev) ≡ true → list_all test es ≡ true → list_all test (emptying m dev ++ es) ≡ true
  emptied_passes Switching dev es empties h = and_from _ _ empties h
  emptied_passes CommandBased dev es empties h = h

  pub order_pass : (order : Order) → test (effect.Writes px_sntf 0x8000) ≡ true → ((port : ℕ) → order ≡ Clear port → (test (effect.Flushes port) ≡ true) × (test (effect.Empties port) ≡ true))
      → ((f : H2dFields) → test (effect.Commands 31 f false) ≡ true) → list_all test (issuing mode 31 control_port false) ≡ true → list_all test (order_effects mode order) ≡ true
  unfolding order_effects
  order_pass Scan scan clears commands issues = and_from _ _ scan (sending_pass 31 control_port (order_fields Scan) false commands issues)
  order_pass (Clear port) scan clears commands issues =
      and_from _ _ (clears port refl).0 (emptied_passes mode port _ (clears port refl).1 (sending_pass 31 control_port (order_fields (Clear port)) false commands issues))
  order_pass order scan clears commands issues = sending_pass 31 control_port (order_fields order) false commands issues

-- ---- each effect is to a device and a slot that exist

below_is : (n m : ℕ) → n < 15 → nat_lt n 16 ≡ true
below_is n m h = grind (arith, nat_tests)

issuing_possible : (mode : Mode) (slot dev : ℕ) (queued : Bool) → list_all is_effect (issuing mode slot dev queued) ≡ true
issuing_possible mode slot dev queued = issuing_pass is_effect mode slot dev queued (λ on. refl) refl refl

pub act_possible : (mode : Mode) (a : Act) → IsAct a → list_all is_effect (effects_of mode a) ≡ true
unfolding effects_of
act_possible mode (act.Opens k) h = opens_pass is_effect mode k refl refl
act_possible mode (act.Restarts k) h = restarts_pass is_effect mode k refl refl
act_possible mode (act.Orders order) h = order_pass is_effect mode order refl (λ port is. let low = below_is port 0 (subst IsOrder is h) in (low, low)) (λ f. refl) (issuing_possible mode 31 control_port false)
act_possible mode (act.Steps dev stage) h = sending_pass is_effect mode 30 dev (stage_fields dev stage) (reads_page stage) (λ f. refl) (issuing_possible mode 30 dev false)
act_possible mode (act.Issues slot dev queued) h = issuing_possible mode slot dev queued
act_possible mode other h = refl
