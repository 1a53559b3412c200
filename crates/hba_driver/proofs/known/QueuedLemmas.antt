-- For `requests_stay_with_their_device`. A request stays with its device from its submit on, and its command is known
-- by its slot.
use Rattle.std.proofs.{Common.{◌≡◌, ℕ, true, false, List, [], ◌∷◌, refl, sym, ◌∙◌, ap, subst, inl, inr, Some}, lemmas.Bool.{cases_Bool, false≢true}}
use Rattle.std.specs.{Prelude.◌||◌, List.list_any}
use Rattle.hba_driver.specs.{declared.slot.Phase.{Phase, TheVariants.{Aside, Ended, Waits}}, Drivers.{Entry, entry_at, has_ended_in, is_issued_in}}
use Rattle.hba_driver.specs.{Drivers.{rephased, waits_in}, Events.opening_host, HostTurns.{Does, DoesAll, Host, HostTurn, Submitted, Ticked, Took}}
use Rattle.hba_driver.specs.{HostTurns.sight_in, Known.is_flushed, Laws.{Goes, flushes}, Queued.{IsQueuedBy, RequestsStay, Stood, Taken}}
use Rattle.hba_driver.specs.{Sights.file_shown, Submits.new_entry, Tended.IsLiveAt, Ticks.{after_tick, effects}, Between.{Fresh, IsOnWay}}
use Rattle.hba_driver.specs.Between.{Stood as StoodOn}
use Rattle.hba_driver.proofs.{accepted.AcceptLemmas.{way_opens, way_turn}, requests.ComeLemmas.comes_from, known.PushedLemmas.plain_at}
use Rattle.hba_driver.proofs.{known.PushedLemmas.request_of_slot, ticks.ServeLemmas.ticks_serve, steady.SteadyTurns.is_ready_dev}

-- ---- a turn

-- what waits or is issued had not ended and was not set aside before
live_goes : (p q : Phase) → Goes p q → (waits_in q || is_issued_in q) ≡ true → (waits_in p || is_issued_in p) ≡ true
live_goes Aside q goes live = absurd (false≢true (sym goes ∙ live))
live_goes (Ended o) q goes live = absurd (false≢true (ap (λ (x : Phase). waits_in x || is_issued_in x) (sym goes) ∙ live))
live_goes other q goes live = refl

live_open : (p : Phase) → (waits_in p || is_issued_in p) ≡ true → has_ended_in p ≡ true → ⊥
live_open (Ended o) live ended = false≢true live
live_open other live ended = false≢true ended

module _ (n s : ℕ) (old : Host) (new : Host) (e : Entry) (live : IsLiveAt n s new.driver.entries e) where
  -- a live request ends in no tick
  unflushed : (turn : HostTurn) → Does old turn new → is_flushed n old turn ≡ false
  unflushed (Ticked acted) does = elim (cases_Bool (list_any (flushes n) (effects (sight_in old) old.driver))) [
    | inr none ↦ none
    | inl flushed ↦
        let here : entry_at (after_tick (sight_in old) (file_shown new.port) old.driver).entries s ≡ Some e = ap (λ d. entry_at d.entries s) (sym does.driver) ∙ live.stands in
        absurd (live_open e.head.phase live.lives (ticks_serve.ends (sight_in old) (file_shown new.port) old.driver n s e flushed here live.of_dev))
  ]
  unflushed other does = refl

  stood : (turn : HostTurn) → Does old turn new → StoodOn old.driver turn s e → IsQueuedBy n s old turn e
  stood turn does it =
      Stood it.entry
      (record {
        stands = it.here;
        of_dev = ap (λ (x : Entry). x.head.dev) (sym it.on.same) ∙ live.of_dev;
        lives = live_goes it.entry.head.phase e.head.phase it.on.goes live.lives;
      })
      (ap (rephased Waits) (sym it.on.same)) (unflushed turn does)

  fresh : (turn : HostTurn) → Does old turn new → Fresh old.driver turn s e → IsQueuedBy n s old turn e
  fresh (Submitted dev request ticket) does it =
      let is : new_entry ticket dev request ≡ e = ap (λ (k : ℕ). new_entry k dev request) does.taken.next ∙ it.1 in
      let of : dev ≡ n = ap (λ (x : Entry). x.head.dev) is ∙ live.of_dev in
      subst (λ (k : ℕ). IsQueuedBy k s old (Submitted dev request ticket) e) of
      (Taken request ticket refl (is_ready_dev old.driver old.memory dev request does.accepted) is refl)
  fresh other does it = absurd it

  queued : (turn : HostTurn) → Does old turn new → IsQueuedBy n s old turn e
  queued turn does = elim (comes_from old turn new does s e live.stands) [
    | inl it ↦ stood turn does it
    | inr it ↦ fresh turn does it
  ]

pub queued_by : (n s : ℕ) (old : Host) (turn : HostTurn) (new : Host) → Does old turn new → (e : Entry) → IsLiveAt n s new.driver.entries e → IsQueuedBy n s old turn e
queued_by n s old turn new does e live = queued n s old new e live turn does

-- ---- over turns

way_run : (old new : Host) (turns : List HostTurn) → DoesAll old turns new → IsOnWay old → IsOnWay new
way_run old new turns run w = by_turns turns old run w
  where
    by_turns : (turns : List HostTurn) (old : Host) → DoesAll old turns new → IsOnWay old → IsOnWay new
    by_turns [] old run w = subst IsOnWay (sym run) w
    by_turns (t ∷ turns) old run w = by_turns turns run.0 run.2 (way_turn old t run.0 run.1 w)

pub requests_stay : RequestsStay
requests_stay = record {
  stays = queued_by;
  goes = λ given start size turns h run frame after does below asks.
      let first : IsOnWay (opening_host given start) = way_opens given start size in
      request_of_slot h after frame (way_run (opening_host given start) h turns run first) (plain_at given start turns h run first) below asks does;
}
