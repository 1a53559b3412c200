-- For `disks_are_watched_to_their_errors`. A disk that is watched, at each happening at either end.
use Rattle.std.proofs.Common.{◌≡◌, ◌≤◌, ◌+◌, ℕ, Bool, length, length-append, arith, true, false, List, [], ◌∷◌, ◌++◌, refl, sym, ap, subst, ◌∙◌, inl}
use Rattle.std.proofs.{Common.inr, lemmas.List.{append-nil}}
use Rattle.std.specs.Prelude.{◌⊎◌}
use Rattle.fis_view.specs.Seen.{seen}
use Rattle.disk_model.specs.{declared.plan.DiskPlan.DiskPlan, Anew.{IsCarefulSince, IsClear, IsLinkedOn}, Ends.reports, Histories.Happening}
use Rattle.disk_model.specs.{Histories.{Received, Sent}, Fronts.IsFront, Ledger.{IsSize, Ledger, Written, ledger}, Runs.IsDiskRun}
use Rattle.disk_model.specs.Anew as link
use Rattle.disk_model.proofs.Door.{ends_agree_anew, host_is_ahead, resting_is_silent}
use Rattle.disk_simulation.specs.{Followed.IsFollowed, Watched.{ArePlain, Erred, Fine, GavePlain, IsErred, IsErredSince, IsLastError, IsPlain}}
use Rattle.disk_simulation.specs.Watched.{IsPlainSince, IsWatched, IsWatchedTo, WatchedIsAhead, WatchesOn}
use Rattle.disk_simulation.proofs.phases.FollowedLemmas.{IsBefore, follows_failed, follows_linked, one_more, run_to, same_first}
use Rattle.disk_simulation.proofs.link.PlainLemmas.{Stays, erred_now, erred_writes, plain_no_reset, stays_gone, stays_received, unheard_now}

-- ## Lists

pub plain_push : (down : List (List ℕ)) (bytes : List ℕ) → ArePlain down → IsPlain (seen bytes) → ArePlain (down ++ bytes ∷ [])
plain_push [] bytes plain one = (one, tt)
plain_push (b ∷ down) bytes plain one = (plain.0, plain_push down bytes plain.1 one)

-- one of them comes
plain_split : (front : List (List ℕ)) (bytes : List ℕ) (back : List (List ℕ)) → ArePlain (front ++ bytes ∷ back)
    → IsPlain (seen bytes) × ArePlain (front ++ back)
plain_split [] bytes back plain = plain
plain_split (b ∷ front) bytes back plain =
    let rest = plain_split front bytes back plain.1 in
    (rest.0, (plain.0, rest.1))

gave_received : (since : List Happening) (bytes : List ℕ) → GavePlain since → IsPlain (seen bytes) → GavePlain (since ++ Received bytes ∷ [])
gave_received [] bytes gave one = (one, tt)
gave_received (Received b ∷ since) bytes gave one = (gave.0, gave_received since bytes gave.1 one)
gave_received (other ∷ since) bytes gave one = gave_received since bytes gave one

gave_sent : (since : List Happening) (bytes : List ℕ) → GavePlain since → GavePlain (since ++ Sent bytes ∷ [])
gave_sent [] bytes gave = tt
gave_sent (Received b ∷ since) bytes gave = (gave.0, gave_sent since bytes gave.1)
gave_sent (other ∷ since) bytes gave = gave_sent since bytes gave

since_given : (base host : List Happening) (bytes : List ℕ) → IsPlain (seen bytes) → IsPlainSince base host
    → IsPlainSince base (host ++ Received bytes ∷ [])
since_given base host bytes plain gave = record {
  since = gave.since ++ Received bytes ∷ [];
  is = one_more base host gave.since (Received bytes) gave.is;
  plain = gave_received gave.since bytes gave.plain plain;
}

since_taken : (base host : List Happening) (bytes : List ℕ) → IsPlainSince base host → IsPlainSince base (host ++ Sent bytes ∷ [])
since_taken base host bytes gave = record {
  since = gave.since ++ Sent bytes ∷ [];
  is = one_more base host gave.since (Sent bytes) gave.is;
  plain = gave_sent gave.since bytes gave.plain;
}

-- ## It is followed

follows_to : (base disk host : List Happening) (down stale up : List (List ℕ)) → IsWatchedTo base disk host down stale up
    → IsFollowed base disk host down stale up
follows_to base disk host down stale up (Fine linked) = follows_linked base disk host down stale up linked
follows_to base disk host down stale up (Erred followed later error below before disk_is up_is fails linked erred) =
    follows_failed base disk host down stale up followed later error before [] below disk_is up_is fails linked

-- ## Each event

begins_clear : (base : List Happening) (stale : List (List ℕ)) → IsClear (ledger base) → IsWatched base base base [] stale []
begins_clear base stale clear = record {
  to_error = Fine (link.begins stale clear);
  plain = tt;
  gave = record { since = []; is = sym (append-nil base); plain = tt };
  held = refl;
}

module _ (base disk host : List Happening) (stale up : List (List ℕ)) (bytes : List ℕ) where
  gives_to : (down : List (List ℕ)) → IsWatchedTo base disk host down stale up
      → IsWatchedTo base disk (host ++ Received bytes ∷ []) (down ++ bytes ∷ []) stale up
  gives_to down (Fine linked) = Fine (link.gives disk host down stale up bytes linked)
  gives_to down (Erred followed later error below before disk_is up_is fails linked erred) =
      Erred followed later error (below ++ bytes ∷ []) before disk_is up_is fails (link.gives followed host below stale before bytes linked) erred

  gives_on : (down : List (List ℕ)) → IsPlain (seen bytes) → IsWatched base disk host down stale up
      → IsWatched base disk (host ++ Received bytes ∷ []) (down ++ bytes ∷ []) stale up
  gives_on down plain w = record {
    to_error = gives_to down w.to_error;
    plain = plain_push down bytes w.plain plain;
    gave = since_given base host bytes plain w.gave;
    held = w.held;
  }

  comes_to : (front back : List (List ℕ)) → IsPlain (seen bytes) → IsWatchedTo base disk host (front ++ bytes ∷ back) stale up
      → IsWatchedTo base (disk ++ Received bytes ∷ []) host (front ++ back) stale up
  comes_to front back plain (Fine linked) = Fine (link.comes disk host front back stale up bytes linked)
  comes_to front back plain (Erred followed later error below before disk_is up_is fails linked erred) =
      Erred followed (later ++ Received bytes ∷ []) error below before (one_more followed disk (Sent error ∷ later) (Received bytes) disk_is) up_is fails linked
      (let same : ledger (disk ++ Received bytes ∷ []) ≡ ledger disk = unheard_now disk bytes erred.now plain in
      record { now = subst IsErred (sym same) erred.now; writes = ap (λ (k : Ledger). k.writes) same ∙ erred.writes })

  comes_on : (front back : List (List ℕ)) → IsWatched base disk host (front ++ bytes ∷ back) stale up
      → IsWatched base (disk ++ Received bytes ∷ []) host (front ++ back) stale up
  comes_on front back w =
      let parts = plain_split front bytes back w.plain in
      let stays : Stays (ledger disk) (ledger (disk ++ Received bytes ∷ [])) = stays_received disk bytes (plain_no_reset (seen bytes) parts.0) in
      record { to_error = comes_to front back parts.0 w.to_error; plain = parts.1; gave = w.gave; held = stays.resetting ∙ w.held }

  sends_to : (down : List (List ℕ)) (b : Bool) → reports (seen bytes) ≡ b → (IsErred (ledger disk) → ⊥) → IsWatchedTo base disk host down stale up
      → IsWatchedTo base (disk ++ Sent bytes ∷ []) host down stale (up ++ bytes ∷ [])
  sends_to down false fine speaks (Fine linked) = Fine (link.sends disk host down stale up bytes fine linked)
  sends_to down true fails speaks (Fine linked) = Erred disk [] bytes down up refl refl fails linked
      (record { now = erred_now disk bytes fails; writes = erred_writes disk bytes fails })
  sends_to down b is speaks (Erred followed later error below before disk_is up_is fails linked erred) = absurd (speaks erred.now)

  sends_on : (plan : DiskPlan) (sectors : ℕ) (down : List (List ℕ)) → IsSize plan sectors → IsDiskRun plan sectors (disk ++ Sent bytes ∷ [])
      → IsWatched base disk host down stale up → IsWatched base (disk ++ Sent bytes ∷ []) host down stale (up ++ bytes ∷ [])
  sends_on plan sectors down size run w = record {
    to_error =
        sends_to down (reports (seen bytes)) refl (λ erred. resting_is_silent plan sectors disk bytes size erred.rests run) w.to_error;
    plain = w.plain;
    gave = w.gave;
    held = (stays_gone disk bytes).resetting ∙ w.held;
  }

drops_to : (base disk host : List Happening) (down stale up : List (List ℕ)) (bytes : List ℕ) → IsWatchedTo base disk host down (bytes ∷ stale) up
    → IsWatchedTo base disk host down stale up
drops_to base disk host down stale up bytes (Fine linked) = Fine (link.drops disk host down stale up bytes linked)
drops_to base disk host down stale up bytes (Erred followed later error below before disk_is up_is fails linked erred) =
    Erred followed later error below before disk_is up_is fails (link.drops followed host below stale before bytes linked) erred

drops_on : (base disk host : List Happening) (down stale up : List (List ℕ)) (bytes : List ℕ) → IsWatched base disk host down (bytes ∷ stale) up
    → IsWatched base disk host down stale up
drops_on base disk host down stale up bytes w =
    record { to_error = drops_to base disk host down stale up bytes w.to_error; plain = w.plain; gave = w.gave; held = w.held }

-- ## What comes next

module _ (base disk host : List Happening) (down up : List (List ℕ)) (bytes : List ℕ) (w : IsWatched base disk host down [] (bytes ∷ up)) where
  abbrev IsTaken : Type 0
  IsTaken = IsWatchedTo base disk (host ++ Sent bytes ∷ []) down [] up

  takes_erred : (followed later : List Happening) (error : List ℕ) (below before : List (List ℕ)) → disk ≡ followed ++ Sent error ∷ later
      → bytes ∷ up ≡ before ++ error ∷ [] → reports (seen error) ≡ true → IsLinkedOn base followed host below [] before → IsErredSince followed disk
      → IsLastError base disk down up bytes ⊎ IsBefore base disk host bytes IsTaken
  takes_erred followed later error below [] disk_is up_is fails linked erred =
      let first = same_first bytes error up [] up_is in
      inl (record {
        fails = subst (λ (x : List ℕ). reports (seen x) ≡ true) first.0 fails;
        erred = erred.now;
        plain = w.plain;
        last = first.1;
        held = w.held;
      })
  takes_erred followed later error below (b ∷ before) disk_is up_is fails linked erred =
      let first = same_first bytes b up (before ++ error ∷ []) up_is in
      let mine : IsLinkedOn base followed host below [] (bytes ∷ before) =
      subst (λ (x : List ℕ). IsLinkedOn base followed host below [] (x ∷ before)) first.0 linked in
      inr (record {
        followed = followed;
        later = Sent error ∷ later;
        before = before;
        below = below;
        disk_is = disk_is;
        linked = mine;
        taken = Erred followed later error below before disk_is first.1 fails (link.takes followed host below before bytes mine) erred;
      })

  takes_to : IsWatchedTo base disk host down [] (bytes ∷ up) → IsLastError base disk down up bytes ⊎ IsBefore base disk host bytes IsTaken
  takes_to (Fine linked) = inr (record {
    followed = disk;
    later = [];
    before = up;
    below = down;
    disk_is = sym (append-nil disk);
    linked = linked;
    taken = Fine (link.takes disk host down up bytes linked);
  })
  takes_to (Erred followed later error below before disk_is up_is fails linked erred) =
      takes_erred followed later error below before disk_is up_is fails linked erred

  -- it is the error, or was sent before it
  pub next_watched : IsLastError base disk down up bytes ⊎ IsBefore base disk host bytes IsTaken
  next_watched = takes_to w.to_error

  pub takes_on : IsLastError base disk down up bytes ⊎ IsWatched base disk (host ++ Sent bytes ∷ []) down [] up
  takes_on = elim next_watched [
    | inl last ↦ inl last
    | inr b ↦ inr (record { to_error = b.taken; plain = w.plain; gave = since_taken base host bytes w.gave; held = w.held })
  ]

-- ## What is told of writes

front_shorter : (front whole : List Written) → IsFront front whole → length front ≤ length whole
front_shorter front whole f =
    let long : length whole ≡ length front + length f.later = ap length f.same ∙ length-append front f.later in
    omega (arith, long)

linked_ahead : (plan : DiskPlan) (sectors : ℕ) (base disk host : List Happening) (down stale up : List (List ℕ)) → IsSize plan sectors
    → IsDiskRun plan sectors disk → IsLinkedOn base disk host down stale up → IsCarefulSince base host
    → length (ledger disk).writes ≤ length (ledger host).writes
linked_ahead plan sectors base disk host down stale up size run linked careful =
    front_shorter (ledger disk).writes (ledger host).writes
    (host_is_ahead sectors disk host down up (ends_agree_anew plan sectors base disk host down stale up size run linked careful))

ahead_by : (plan : DiskPlan) (sectors : ℕ) (base disk host : List Happening) (down stale up : List (List ℕ)) → IsSize plan sectors
    → IsDiskRun plan sectors disk → IsWatchedTo base disk host down stale up → IsCarefulSince base host
    → length (ledger disk).writes ≤ length (ledger host).writes
ahead_by plan sectors base disk host down stale up size run (Fine linked) careful =
    linked_ahead plan sectors base disk host down stale up size run linked careful
ahead_by plan sectors base disk host down stale up size run (Erred followed later error below before disk_is up_is fails linked erred) careful =
    subst (λ (ws : List Written). length ws ≤ length (ledger host).writes) (sym erred.writes)
    (linked_ahead plan sectors base followed host below stale before size (run_to plan sectors disk followed (Sent error ∷ later) disk_is run) linked
    careful)

pub watched_is_ahead : WatchedIsAhead
watched_is_ahead plan sectors base disk host down stale up size run w careful =
    ahead_by plan sectors base disk host down stale up size run w.to_error careful

pub watches_on : WatchesOn
watches_on = record {
  follows = λ base disk host down stale up w. follows_to base disk host down stale up w.to_error;
  begins = begins_clear;
  gives = λ base disk host down stale up bytes plain w. gives_on base disk host stale up bytes down plain w;
  comes = λ base disk host front back stale up bytes w. comes_on base disk host stale up bytes front back w;
  sends = λ plan sectors base disk host down stale up bytes size run w. sends_on base disk host stale up bytes plan sectors down size run w;
  drops = drops_on;
  takes = takes_on;
}
