-- For `lines_lead_to_beginning_anew`. The link of a disk that is set aside, at each happening at either end.
use Rattle.std.proofs.Common.{◌≡◌, ℕ, Bool, true, false, List, [], ◌∷◌, ◌++◌, append_assoc, refl, sym, ap, subst, ◌∙◌, inl, inr, None, Ok, Result}
use Rattle.std.specs.Prelude.{◌⊎◌, ◌&&◌, not, if◌then◌else◌}
use Rattle.fis_view.specs.{Seen.seen, declared.{view.Fis.Fis, view.FisFault.FisFault}}
use Rattle.fis_view.specs.declared.view.Fis.TheVariants as view
use Rattle.hba_fbs.specs.Posting.{is_signature, signs}
use Rattle.disk_model.specs.{declared.{plan.DiskPlan.DiskPlan, request.Command.Command, request.Request.Request}, Anew.IsRequest, Ends.Rests}
use Rattle.disk_model.specs.{Histories.{Happening, Received, Sent}, Laws.{AnswersFirst, AnswersRight}}
use Rattle.disk_model.specs.Ledger.{IsSize, Ledger, LogOf, Reply, ShowsPage, Signs, Wanted, asks, awaits_page, given_up, ledger, listens}
use Rattle.disk_model.specs.{Ledger.{listens_down, mixes, reads_log, restarts}, Runs.IsDiskRun}
use Rattle.disk_model.specs.declared.request.Request.TheVariants as asked
use Rattle.disk_model.proofs.Door.{answers_right, ledger_push, resting_is_silent}
use Rattle.disk_simulation.specs.Line.{Speaks, Asked, Both, BothBegin, ComesTo, EachReply, Failed, GoesUp, Held, IsAsked, IsBoth, IsFailed, IsHeld}
use Rattle.disk_simulation.specs.Line.{IsLoose, IsNoSignature, IsReleasing, IsResting, IsTaken, IsUnsigned, Line, LinesGoOn, Loose, NoneSigns, OnLine}
use Rattle.disk_simulation.specs.{Line.{Releasing, Resting, StandsAt}, Watched.{ArePlain, IsErred, IsPlain}}
use Rattle.disk_simulation.proofs.phases.FollowedLemmas.{same_first}
use Rattle.disk_simulation.proofs.{link.PlainLemmas.{Stays, plain_no_reset, stays_gone, stays_received, unheard_now}, anew.SignsLemmas.signs_first}

-- ## Signatures

-- an answer that is awaited is no signature where none is
signs_none : (xs : List Reply) (f : List ℕ) (b : Bool) → is_signature f ≡ b → AnswersFirst xs f → EachReply IsNoSignature xs → b ≡ false
signs_none xs f false is answers none = refl
signs_none xs f true is answers none =
    let first = signs_first xs f answers is in
    let bad : EachReply IsNoSignature (Signs ∷ first.0) = subst (EachReply IsNoSignature) first.1 none in
    absurd bad.0

pub unsigned_by : (k : Ledger) (r : Result Fis FisFault) → AnswersRight k r → IsUnsigned k → signs r ≡ false
unsigned_by k (Ok (view.RegD2H f)) answers none = signs_none k.awaited f (is_signature f) refl answers none
unsigned_by k other answers none = refl

pub none_signs_push : (up : List (List ℕ)) (bytes : List ℕ) → NoneSigns up → signs (seen bytes) ≡ false → NoneSigns (up ++ bytes ∷ [])
none_signs_push [] bytes quiet one = (one, tt)
none_signs_push (b ∷ up) bytes quiet one = (quiet.0, none_signs_push up bytes quiet.1 one)

-- ## Lists

pub no_end : {X : Type 0} (front : List X) (x : X) (back : List X) → front ++ x ∷ back ≡ [] → ⊥
no_end [] x back e = cc e
no_end (y ∷ front) x back e = cc e

-- one of those that come down comes, and those ahead of it never do
plain_behind : (front : List (List ℕ)) (bytes : List ℕ) (back : List (List ℕ)) → ArePlain (front ++ bytes ∷ back)
    → IsPlain (seen bytes) × ArePlain back
plain_behind [] bytes back plain = plain
plain_behind (b ∷ front) bytes back plain = plain_behind front bytes back plain.1

-- it is one of the plain ones ahead of the tail, or one of the tail
data IsSplit (tail : List (List ℕ)) (bytes : List ℕ) (back : List (List ℕ)) : Type 0 where
  Ahead : (rest : List (List ℕ)) → IsPlain (seen bytes) → ArePlain rest → back ≡ rest ++ tail → IsSplit tail bytes back
  Behind : (mid : List (List ℕ)) → tail ≡ mid ++ bytes ∷ back → IsSplit tail bytes back

splits : (ahead tail front : List (List ℕ)) (bytes : List ℕ) (back : List (List ℕ)) → ahead ++ tail ≡ front ++ bytes ∷ back → ArePlain ahead
    → IsSplit tail bytes back
splits [] tail front bytes back e plain = Behind front e
splits (a ∷ ahead) tail [] bytes back e plain =
    let first = same_first a bytes (ahead ++ tail) back e in
    Ahead ahead (subst (λ (x : List ℕ). IsPlain (seen x)) (sym first.0) plain.0) plain.1 (sym first.1)
splits (a ∷ ahead) tail (f ∷ front) bytes back e plain =
    let first = same_first a f (ahead ++ tail) (front ++ bytes ∷ back) e in
    splits ahead tail front bytes back first.1 plain.1

-- it is the one of the tail
one_behind : (mid : List (List ℕ)) (last bytes : List ℕ) (back : List (List ℕ)) → last ∷ [] ≡ mid ++ bytes ∷ back → (bytes ≡ last) × (back ≡ [])
one_behind [] last bytes back e =
    let first = same_first last bytes [] back e in
    (first.0, sym first.1)
one_behind (m ∷ mid) last bytes back e =
    let first = same_first last m [] (mid ++ bytes ∷ back) e in
    absurd (no_end mid bytes back (sym first.1))

-- or one of the two
two_behind : (mid : List (List ℕ)) (on off bytes : List ℕ) (back : List (List ℕ)) → on ∷ off ∷ [] ≡ mid ++ bytes ∷ back
    → ((bytes ≡ on) × (back ≡ off ∷ [])) ⊎ ((bytes ≡ off) × (back ≡ []))
two_behind [] on off bytes back e =
    let first = same_first on bytes (off ∷ []) back e in
    inl (first.0, sym first.1)
two_behind (m ∷ mid) on off bytes back e =
    let first = same_first on m (off ∷ []) (mid ++ bytes ∷ back) e in
    inr (one_behind mid off bytes back first.1)

-- ## What begins anew

request_told : (k : Ledger) (bytes : List ℕ) (request : Request) → IsRequest bytes request → listens k (Received bytes) ≡ asks k request k.failed
request_told k bytes request q = ap (listens_down k) q.is ∙ ap (λ (r : Request). asks k r k.failed) q.asks

told_now : (disk : List Happening) (bytes : List ℕ) (request : Request) → IsRequest bytes request
    → ledger (disk ++ Received bytes ∷ []) ≡ asks (ledger disk) request (ledger disk).failed
told_now disk bytes request q = ledger_push disk (Received bytes) ∙ request_told (ledger disk) bytes request q

alone_mixes : (k x : Ledger) (cs : List Command) → cs ≡ [] → mixes k x cs ≡ x
alone_mixes k x [] e = refl
alone_mixes k x (c ∷ cs) e = cc e

abbrev logged : Ledger → Ledger
logged k = record (awaits_page k (LogOf k.failure)) { failed = false; failure = None }

reads_now : (k : Ledger) → IsErred k → asks k asked.ReadErrorLog k.failed ≡ logged k
reads_now k erred =
    ap (asks k asked.ReadErrorLog) erred.failed ∙ ap (λ (b : Bool). if b then k else reads_log k) erred.awake
    ∙ alone_mixes k (logged k) k.outstanding erred.rests.outstanding

log_begins : (k : Ledger) (back up : List (List ℕ)) → Rests k → back ≡ [] → up ≡ []
    → BothBegin k (logged k) (ShowsPage ∷ []) (LogOf k.failure ∷ []) back up
log_begins k back up rests none silent = record {
  owes = record {
    clear = record { failed = refl; outstanding = rests.outstanding; unanswered = rests.unanswered; moving = rests.moving };
    awaited = ap (λ (xs : List Reply). xs ++ ShowsPage ∷ []) rests.awaited;
    pages = ap (λ (xs : List Wanted). xs ++ LogOf k.failure ∷ []) rests.pages;
  };
  empty = none;
  quiet = subst NoneSigns (sym silent) tt;
  held = inl refl;
}

signed_begins : (k : Ledger) (back up : List (List ℕ)) → Rests k → k.in_reset ≡ true → back ≡ [] → NoneSigns up
    → BothBegin k (restarts k true) (Signs ∷ []) [] back up
signed_begins k back up rests inside none quiet = record {
  owes = record {
    clear = record { failed = ap (λ (b : Bool). not b && k.failed) inside; outstanding = rests.outstanding; unanswered = rests.unanswered; moving = rests.moving };
    awaited = ap (λ (xs : List Reply). xs ++ Signs ∷ []) rests.awaited;
    pages = rests.pages;
  };
  empty = none;
  quiet = quiet;
  held = inr refl;
}

abbrev held_ledger : Ledger → Ledger
held_ledger k = record (given_up k true) { resetting = true; in_reset = true }

held_rests : (k : Ledger) → Rests (held_ledger k)
held_rests k = record { outstanding = refl; unanswered = refl; awaited = refl; pages = refl; moving = refl }

-- ## One comes down

module _ (disk : List Happening) (front back up : List (List ℕ)) (bytes : List ℕ) where
  stays_now : IsPlain (seen bytes) → Stays (ledger disk) (ledger (disk ++ Received bytes ∷ []))
  stays_now plain = stays_received disk bytes (plain_no_reset (seen bytes) plain)

  failed_comes : IsFailed (ledger disk) (front ++ bytes ∷ back) up → StandsAt Failed (ledger disk) (ledger (disk ++ Received bytes ∷ [])) back up
  failed_comes o =
      let parts = plain_behind front bytes back o.plain in
      let same : ledger (disk ++ Received bytes ∷ []) ≡ ledger disk = unheard_now disk bytes o.erred parts.0 in
      record {
        on = record { erred = subst IsErred (sym same) o.erred; plain = parts.1; silent = o.silent };
        held = ap (λ (k : Ledger). k.resetting) same;
      }

  asked_split : (o : IsAsked (ledger disk) (front ++ bytes ∷ back) up) → IsSplit (o.log ∷ []) bytes back
      → ComesTo Asked (ledger disk) (ledger (disk ++ Received bytes ∷ [])) back up
  asked_split o (Ahead rest plain later is) = inl (record {
    on = record {
      erred = subst IsErred (sym (unheard_now disk bytes o.erred plain)) o.erred;
      ahead = rest;
      log = o.log;
      is = is;
      plain = later;
      asks = o.asks;
      silent = o.silent;
    };
    held = (stays_now plain).resetting;
  })
  asked_split o (Behind mid is) =
      let at = one_behind mid o.log bytes back is in
      let q : IsRequest bytes asked.ReadErrorLog = subst (λ (x : List ℕ). IsRequest x asked.ReadErrorLog) (sym at.0) o.asks in
      let told : ledger (disk ++ Received bytes ∷ []) ≡ logged (ledger disk) =
      told_now disk bytes asked.ReadErrorLog q ∙ reads_now (ledger disk) o.erred in
      inr (subst (λ (x : Ledger). BothBegin (ledger disk) x (ShowsPage ∷ []) (LogOf (ledger disk).failure ∷ []) back up) (sym told)
      (log_begins (ledger disk) back up o.erred.rests at.1 o.silent))

  loose_comes : IsLoose (ledger disk) (front ++ bytes ∷ back) up → StandsAt Loose (ledger disk) (ledger (disk ++ Received bytes ∷ [])) back up
  loose_comes o =
      let parts = plain_behind front bytes back o.plain in
      let stays : Stays (ledger disk) (ledger (disk ++ Received bytes ∷ [])) = stays_now parts.0 in
      record { on = record { unsigned = stays.unsigned o.unsigned; plain = parts.1; quiet = o.quiet }; held = stays.resetting }

  held_told : IsRequest bytes (asked.Reset true) → ledger (disk ++ Received bytes ∷ []) ≡ held_ledger (ledger disk)
  held_told q = told_now disk bytes (asked.Reset true) q

  held_split : (o : IsHeld (ledger disk) (front ++ bytes ∷ back) up) → IsSplit (o.on ∷ []) bytes back
      → ComesTo Held (ledger disk) (ledger (disk ++ Received bytes ∷ [])) back up
  held_split o (Ahead rest plain later is) =
      let stays : Stays (ledger disk) (ledger (disk ++ Received bytes ∷ [])) = stays_now plain in
      inl (record {
        on = record {
          unsigned = stays.unsigned o.unsigned;
          ahead = rest;
          on = o.on;
          is = is;
          plain = later;
          sets = o.sets;
          quiet = o.quiet;
        };
        held = stays.resetting;
      })
  held_split o (Behind mid is) =
      let at = one_behind mid o.on bytes back is in
      let told = held_told (subst (λ (x : List ℕ). IsRequest x (asked.Reset true)) (sym at.0) o.sets) in
      inr (subst (λ (x : Ledger). IsResting x back up) (sym told)
      (record { rests = held_rests (ledger disk); inside = refl; held = refl; empty = at.1; quiet = o.quiet }))

  both_set : (o : IsBoth (ledger disk) (front ++ bytes ∷ back) up) → bytes ≡ o.on → back ≡ o.off ∷ []
      → ComesTo Both (ledger disk) (ledger (disk ++ Received bytes ∷ [])) back up
  both_set o same is =
      let told = held_told (subst (λ (x : List ℕ). IsRequest x (asked.Reset true)) (sym same) o.sets) in
      inr (inl (subst (λ (x : Ledger). IsReleasing x back up) (sym told)
      (record { rests = held_rests (ledger disk); inside = refl; held = refl; off = o.off; is = is; clears = o.clears; quiet = o.quiet })))

  both_cleared : (o : IsBoth (ledger disk) (front ++ bytes ∷ back) up) → (ledger disk).resetting ≡ false → bytes ≡ o.off → back ≡ []
      → ComesTo Both (ledger disk) (ledger (disk ++ Received bytes ∷ [])) back up
  both_cleared o released last none =
      let q : IsRequest bytes (asked.Reset false) = subst (λ (x : List ℕ). IsRequest x (asked.Reset false)) (sym last) o.clears in
      let told : ledger (disk ++ Received bytes ∷ []) ≡ ledger disk =
      told_now disk bytes (asked.Reset false) q ∙ ap (restarts (ledger disk)) released in
      let loose : IsLoose (ledger disk) back up = record { unsigned = o.unsigned; plain = subst ArePlain (sym none) tt; quiet = o.quiet } in
      inr (inr (subst (λ (x : Ledger). StandsAt Loose (ledger disk) x back up) (sym told) (record { on = loose; held = refl }), none))

  -- the first of those that come down is not the last
  not_last : (o : IsBoth (ledger disk) (front ++ bytes ∷ back) up) → front ≡ [] → back ≡ [] → ⊥
  not_last o ahead none =
      let one : bytes ∷ [] ≡ o.ahead ++ o.on ∷ o.off ∷ [] =
      sym (ap (λ (xs : List (List ℕ)). xs ++ bytes ∷ back) ahead ∙ ap (λ (xs : List (List ℕ)). bytes ∷ xs) none) ∙ o.is in
      let first = one_behind o.ahead bytes o.on (o.off ∷ []) one in
      let bad : o.off ∷ [] ≡ [] = first.1 in
      cc bad

  both_last : (o : IsBoth (ledger disk) (front ++ bytes ∷ back) up) → (front ≡ []) ⊎ ((ledger disk).resetting ≡ false)
      → ((bytes ≡ o.on) × (back ≡ o.off ∷ [])) ⊎ ((bytes ≡ o.off) × (back ≡ []))
      → ComesTo Both (ledger disk) (ledger (disk ++ Received bytes ∷ [])) back up
  both_last o order (inl at) = both_set o at.0 at.1
  both_last o (inl ahead) (inr at) = absurd (not_last o ahead at.1)
  both_last o (inr released) (inr at) = both_cleared o released at.0 at.1

  both_split : (o : IsBoth (ledger disk) (front ++ bytes ∷ back) up) → (front ≡ []) ⊎ ((ledger disk).resetting ≡ false) → IsSplit (o.on ∷ o.off ∷ []) bytes back
      → ComesTo Both (ledger disk) (ledger (disk ++ Received bytes ∷ [])) back up
  both_split o order (Ahead rest plain later is) =
      let stays : Stays (ledger disk) (ledger (disk ++ Received bytes ∷ [])) = stays_now plain in
      inl (record {
        on = record {
          unsigned = stays.unsigned o.unsigned;
          ahead = rest;
          on = o.on;
          off = o.off;
          is = is;
          plain = later;
          sets = o.sets;
          clears = o.clears;
          quiet = o.quiet;
        };
        held = stays.resetting;
      })
  both_split o order (Behind mid is) = both_last o order (two_behind mid o.on o.off bytes back is)

  releasing_comes : IsReleasing (ledger disk) (front ++ bytes ∷ back) up → BothBegin (ledger disk) (ledger (disk ++ Received bytes ∷ [])) (Signs ∷ []) [] back up
  releasing_comes o =
      let at = one_behind front o.off bytes back (sym o.is) in
      let q : IsRequest bytes (asked.Reset false) = subst (λ (x : List ℕ). IsRequest x (asked.Reset false)) (sym at.0) o.clears in
      let told : ledger (disk ++ Received bytes ∷ []) ≡ restarts (ledger disk) true =
      told_now disk bytes (asked.Reset false) q ∙ ap (restarts (ledger disk)) o.held in
      subst (λ (x : Ledger). BothBegin (ledger disk) x (Signs ∷ []) [] back up) (sym told) (signed_begins (ledger disk) back up o.rests o.inside at.1 o.quiet)

comes_by : (line : Line) (disk : List Happening) (front back up : List (List ℕ)) (bytes : List ℕ)
    → (front ≡ []) ⊎ ((ledger disk).resetting ≡ false) → OnLine line (ledger disk) (front ++ bytes ∷ back) up
    → ComesTo line (ledger disk) (ledger (disk ++ Received bytes ∷ [])) back up
comes_by Failed disk front back up bytes order o = failed_comes disk front back up bytes o
comes_by Asked disk front back up bytes order o = asked_split disk front back up bytes o (splits o.ahead (o.log ∷ []) front bytes back (sym o.is) o.plain)
comes_by Loose disk front back up bytes order o = loose_comes disk front back up bytes o
comes_by Held disk front back up bytes order o = held_split disk front back up bytes o (splits o.ahead (o.on ∷ []) front bytes back (sym o.is) o.plain)
comes_by Both disk front back up bytes order o =
    both_split disk front back up bytes o order (splits o.ahead (o.on ∷ o.off ∷ []) front bytes back (sym o.is) o.plain)
comes_by Resting disk front back up bytes order o = absurd (no_end front bytes back o.empty)
comes_by Releasing disk front back up bytes order o = releasing_comes disk front back up bytes o

-- ## One goes up

-- what comes up leaves the line as it is on the way down
module _ (k x : Ledger) (down up next : List (List ℕ)) (unsigned : IsUnsigned x) (quiet : NoneSigns next) where
  up_on : (line : Line) → Speaks line → OnLine line k down up → OnLine line x down next
  up_on Loose speaks o = record { unsigned = unsigned; plain = o.plain; quiet = quiet }
  up_on Held speaks o = record { unsigned = unsigned; ahead = o.ahead; on = o.on; is = o.is; plain = o.plain; sets = o.sets; quiet = quiet }
  up_on Both speaks o =
      record { unsigned = unsigned; ahead = o.ahead; on = o.on; off = o.off; is = o.is; plain = o.plain; sets = o.sets; clears = o.clears; quiet = quiet }
  up_on other speaks o = absurd speaks

module _ (plan : DiskPlan) (sectors : ℕ) (disk : List Happening) (down up : List (List ℕ)) (bytes : List ℕ) (size : IsSize plan sectors)
    (run : IsDiskRun plan sectors (disk ++ Sent bytes ∷ [])) where
  rests_not : Rests (ledger disk) → ⊥
  rests_not rests = resting_is_silent plan sectors disk bytes size rests run

  not_signed : IsUnsigned (ledger disk) → signs (seen bytes) ≡ false
  not_signed none = unsigned_by (ledger disk) (seen bytes) (answers_right plan sectors disk bytes size run) none

  goes_up : (line : Line) → Speaks line → IsUnsigned (ledger disk) → NoneSigns up → OnLine line (ledger disk) down up
      → GoesUp line (ledger disk) (ledger (disk ++ Sent bytes ∷ [])) down up bytes
  goes_up line speaks none quiet o =
      let stays : Stays (ledger disk) (ledger (disk ++ Sent bytes ∷ [])) = stays_gone disk bytes in
      let one = not_signed none in
      record {
        speaks = speaks;
        unsigned = one;
        stands = record {
          held = stays.resetting;
          on =
              up_on (ledger disk) (ledger (disk ++ Sent bytes ∷ [])) down up (up ++ bytes ∷ []) (stays.unsigned none)
              (none_signs_push up bytes quiet one) line speaks o;
        };
      }

  sends_by : (line : Line) → OnLine line (ledger disk) down up → GoesUp line (ledger disk) (ledger (disk ++ Sent bytes ∷ [])) down up bytes
  sends_by Failed o = absurd (rests_not o.erred.rests)
  sends_by Asked o = absurd (rests_not o.erred.rests)
  sends_by Resting o = absurd (rests_not o.rests)
  sends_by Releasing o = absurd (rests_not o.rests)
  sends_by other o = goes_up other tt o.unsigned o.quiet o

-- ## The host takes one

takes_by : (line : Line) (k : Ledger) (down up : List (List ℕ)) (bytes : List ℕ) → OnLine line k down (bytes ∷ up) → IsTaken line k down up bytes
takes_by Loose k down up bytes o =
    record { spoken = tt; unsigned = o.quiet.0; on = up_on k k down (bytes ∷ up) up o.unsigned o.quiet.1 Loose tt o }
takes_by Held k down up bytes o =
    record { spoken = tt; unsigned = o.quiet.0; on = up_on k k down (bytes ∷ up) up o.unsigned o.quiet.1 Held tt o }
takes_by Both k down up bytes o =
    record { spoken = tt; unsigned = o.quiet.0; on = up_on k k down (bytes ∷ up) up o.unsigned o.quiet.1 Both tt o }
takes_by Resting k down up bytes o = record {
  spoken = tt;
  unsigned = o.quiet.0;
  on = record { rests = o.rests; inside = o.inside; held = o.held; empty = o.empty; quiet = o.quiet.1 };
}
takes_by Releasing k down up bytes o = record {
  spoken = tt;
  unsigned = o.quiet.0;
  on = record { rests = o.rests; inside = o.inside; held = o.held; off = o.off; is = o.is; clears = o.clears; quiet = o.quiet.1 };
}
takes_by other k down up bytes o = cc o.silent

-- ## The host gives one

asks_by : (k : Ledger) (down up : List (List ℕ)) (bytes : List ℕ) → IsRequest bytes asked.ReadErrorLog → IsFailed k down up
    → IsAsked k (down ++ bytes ∷ []) up
asks_by k down up bytes q o = record {
  erred = o.erred;
  ahead = down;
  log = bytes;
  is = refl;
  plain = o.plain;
  asks = q;
  silent = o.silent;
}

loosens_by : (k : Ledger) (down up : List (List ℕ)) → IsFailed k down up → IsLoose k down up
loosens_by k down up o = record {
  unsigned = subst (EachReply IsNoSignature) (sym o.erred.rests.awaited) tt;
  plain = o.plain;
  quiet = subst NoneSigns (sym o.silent) tt;
}

holds_by : (k : Ledger) (down up : List (List ℕ)) (bytes : List ℕ) → IsRequest bytes (asked.Reset true) → IsLoose k down up
    → IsHeld k (down ++ bytes ∷ []) up
holds_by k down up bytes q o = record {
  unsigned = o.unsigned;
  ahead = down;
  on = bytes;
  is = refl;
  plain = o.plain;
  sets = q;
  quiet = o.quiet;
}

clears_by : (k : Ledger) (down up : List (List ℕ)) (bytes : List ℕ) → IsRequest bytes (asked.Reset false) → IsHeld k down up
    → IsBoth k (down ++ bytes ∷ []) up
clears_by k down up bytes q o = record {
  unsigned = o.unsigned;
  ahead = o.ahead;
  on = o.on;
  off = bytes;
  is = ap (λ (xs : List (List ℕ)). xs ++ bytes ∷ []) o.is ∙ append_assoc o.ahead (o.on ∷ []) (bytes ∷ []);
  plain = o.plain;
  sets = o.sets;
  clears = q;
  quiet = o.quiet;
}

releases_by : (k : Ledger) (down up : List (List ℕ)) (bytes : List ℕ) → IsRequest bytes (asked.Reset false) → IsResting k down up
    → IsReleasing k (down ++ bytes ∷ []) up
releases_by k down up bytes q o = record {
  rests = o.rests;
  inside = o.inside;
  held = o.held;
  off = bytes;
  is = ap (λ (xs : List (List ℕ)). xs ++ bytes ∷ []) o.empty;
  clears = q;
  quiet = o.quiet;
}

pub lines_go_on : LinesGoOn
lines_go_on = record {
  asks = asks_by;
  loosens = loosens_by;
  holds = holds_by;
  clears = clears_by;
  releases = releases_by;
  comes = comes_by;
  sends = λ plan sectors line disk down up bytes size run o. sends_by plan sectors disk down up bytes size run line o;
  takes = takes_by;
}
