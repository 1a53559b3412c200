-- For `pushes_serve_on`. What a command that goes out to a disk asks for, since both began anew.
use Rattle.std.proofs.Common.{◌≡◌, ℕ, ◌<◌, ◌⊎◌, Bool, true, false, List, [], ◌∷◌, ◌++◌, append_assoc, length, refl, sym, ◌∙◌, ap, subst, inl, inr}
use Rattle.std.proofs.{Common.{arith, Some}, lemmas.Bool.{cases_Bool, false≢true, true≢false}}
use Rattle.std.specs.Prelude.{if◌then◌else◌, Ok, Err}
use Rattle.fis_view.specs.{Frames.{IsFrame, marked}, Marks.IsMarked, Seen.{kind_of, may_have, seen, view_as}, Table.Kind}
use Rattle.fis_view.specs.declared.view.FisFault.TheVariants.{WrongLength}
use Rattle.fis_view.specs.Table as table
use Rattle.fis_view.proofs.Door.{is_marked}
use Rattle.hba_commands.proofs.Door.{built_long}
use Rattle.hba_commands.specs.declared.command.Command as issued_command
use Rattle.slots.specs.{Slots.{Issue, is_control, issue_at, own_issue, slots_of}, Work.{is_dma, is_queued}, declared.work.Work.Work}
use Rattle.hba_fbs.specs.{Sending.{Order, resets}, Views.Port}
use Rattle.disk_model.specs.{declared.request.Request.TheVariants.Queue, Anew.{IsCarefulSince, IsClear}, Ends.{Fits, FitsAll}, Histories.Happening}
use Rattle.disk_model.specs.{Histories.Received, Ledger.{Ledger, empty, ledger, ledger_after}, Requests.request_of}
use Rattle.disk_model.proofs.Door.{after_more}
use Rattle.hba_laws.specs.{Client.{Touches, own}, History.{History, Transfer, issued}, Sound.IsHost, Between.GoesOut}
use Rattle.hba_laws.specs.Hosts as event
use Rattle.hba_laws.proofs.Door.{own_here, some_inj}
use Rattle.disk_simulation.specs.{Answers.IsAlone, Anew.IsHostedOn, Together.is_sent, Watched.{IsPlain, IsPlainRequest}, Same.SlotCommand}
use Rattle.disk_simulation.specs.Anew as anew
use Rattle.disk_simulation.proofs.Door.{hosted_on_is_kept}
use Rattle.hba_driver.specs.declared.path.{Path.Path, Stage.{Stage, TheVariants.{AssertReset, AwaitReset, Identify, ReadLog, ReleaseReset}}}
use Rattle.hba_driver.specs.{declared.plan.Plan.Plan, Drivers.{Entry, entry_at}, Events.shared_by, HostTurns.Host, Paths.stage_fields}
use Rattle.hba_driver.specs.{Served.IsBuiltOf, Tended.{Awaits, Fine, Identifies, IsAsking, IsAtStage, IsBegun, IsLiveAt, IsReleasing, IsTendedBy}}
use Rattle.hba_driver.specs.{Tended.{Logs, Releases, Spoilt}, Between.From}
use Rattle.hba_driver.specs.declared.request.Work as driver_work
use Rattle.hba_driver.specs.declared.request.Work.TheVariants as work
use Rattle.hba_driver.specs.Orders as orders
use Rattle.hba_driver.proofs.Door.{at_stage, issued_live}
use Rattle.disk_recovery.specs.{Steady.HasSigned, Together.IsServedOn}
use Rattle.disk_recovery.proofs.honest.FisLemmas.{flush_is, identify_control, identify_is, identify_kind, identify_moves, request_asks}
use Rattle.disk_recovery.proofs.honest.{FisLemmas.{request_control, request_kind, request_moves}, PushLemmas.{IsOrderOf, OutTold, flush_of}}
use Rattle.disk_recovery.proofs.{honest.{PushLemmas.none_queued, SignLemmas.{fits_last, ledger_more, signed_down}}, together.ResetLemmas.resets_none}
use Rattle.disk_recovery.proofs.together.TogetherBegins.{steps_alone_on}

-- ---- what is plain stays so with another PM Port

plain_by : (kind : Kind) (b : Bool) (old new : List ℕ) → request_of new ≡ request_of old → IsPlain (if b then Ok (view_as kind old) else Err WrongLength) → IsPlain (if b then Ok (view_as kind new) else Err WrongLength)
plain_by kind false old new same plain = absurd plain
plain_by table.H2d true old new same plain = subst IsPlainRequest (sym same) plain
plain_by table.Data true old new same plain = tt
plain_by other true old new same plain = absurd plain

same_request : (port : ℕ) (old new : List ℕ) → IsMarked port old new → request_of new ≡ request_of old
same_request port old new m =
    let c = m.fields table.H2d table.C (λ e. cc e) in
    let command = m.fields table.H2d table.Command (λ e. cc e) in
    let control = m.fields table.H2d table.Control (λ e. cc e) in
    let lba = m.fields table.H2d table.Lba (λ e. cc e) in
    let count = m.fields table.H2d table.Count (λ e. cc e) in
    let features = m.fields table.H2d table.Features (λ e. cc e) in
    rw (c, command, control, lba, count, features) refl

seen_is : (bytes : List ℕ) → seen bytes ≡ (if may_have (kind_of bytes) (length bytes) then Ok (view_as (kind_of bytes) bytes) else Err WrongLength)
unfolding seen
seen_is bytes = refl

pub plain_marked : (bytes : List ℕ) → IsFrame bytes → IsPlain (seen bytes) → IsPlain (seen (marked bytes 0))
plain_marked bytes frame plain =
    let m : IsMarked 0 bytes (marked bytes 0) = is_marked bytes 0 frame (omega arith) in
    subst IsPlain (sym m.view) (plain_by (kind_of bytes) (may_have (kind_of bytes) (length bytes)) bytes (marked bytes 0) (same_request 0 bytes (marked bytes 0) m) (subst IsPlain (seen_is bytes) plain))

-- ---- lists that begin anew

drop_front : {A : Type 0} (xs ys zs : List A) → xs ++ ys ≡ xs ++ zs → ys ≡ zs
drop_front [] ys zs is = is
drop_front (x ∷ xs) ys zs is = let it : xs ++ ys ≡ xs ++ zs = cc is in drop_front xs ys zs it

pub signed_since : (base given : List Happening) (bytes : List ℕ) → IsCarefulSince base given → IsCarefulSince base (given ++ Received bytes ∷ []) → HasSigned given → HasSigned (given ++ Received bytes ∷ [])
signed_since base given bytes old new was is =
    let now : ledger_after (ledger base) old.since ≡ ledger given = sym (after_more empty base old.since) ∙ ap ledger (sym old.is) in
    let same : old.since ++ Received bytes ∷ [] ≡ new.since =
    drop_front base (old.since ++ Received bytes ∷ []) new.since (sym (append_assoc base old.since (Received bytes ∷ [])) ∙ ap (λ (xs : List Happening). xs ++ Received bytes ∷ []) (sym old.is) ∙ new.is) in
    let fits : Fits (ledger given) (seen bytes) = subst (λ (l : Ledger). Fits l (seen bytes)) now (fits_last (ledger base) old.since bytes (subst (FitsAll (ledger base)) (sym same) new.fits)) in
    signed_down (ledger given) (seen bytes) fits was (sym (ap (λ (l : Ledger). l.awaited) (ledger_more empty given (Received bytes))) ∙ is)

-- nothing moved where both began anew
pub base_clear : (n : ℕ) (base : List Happening) (host : event.Host) (given : List Happening) (commands : ℕ → SlotCommand) (past : History) → IsHostedOn n base host given commands past → IsClear (ledger base)
base_clear n base host given commands past (anew.opens h c p opening) = opening.clear
base_clear n base host given commands past (anew.stays old new g c p keeps whole hosted) = base_clear n base old g c p hosted
base_clear n base host given commands past (anew.signs old new bytes report g c p sound plain framed from_n well right hosted) = base_clear n base old g c p hosted
base_clear n base host given commands past (anew.hears old new bytes report g c p sound plain framed from_n well right short hosted) = base_clear n base old g c p hosted
base_clear n base host given commands past (anew.issues old new value g c next p sound chosen does tags names counted hosted) = base_clear n base old g c p hosted
base_clear n base host given commands past (anew.sends old new frame slot command f t g c p sound framed does out here queued cfis request signed hosted) = base_clear n base old g c p hosted
base_clear n base host given commands past (anew.asks old new frame slot command f t g c p sound framed does out here not_queued control moves cfis one none signed hosted) = base_clear n base old g c p hosted
base_clear n base host given commands past (anew.gives old new frame offset len command g c p sound framed does out hosted) = base_clear n base old g c p hosted

-- ---- a command that goes out was not sent

record OutUnsent (port : Port) (dev slot : ℕ) : Type 0 where
  pub issue : Issue
  pub at : issue_at port.slots slot ≡ Some issue
  pub of_dev : dev ≡ issue.dev
  pub below : slot < 32
  pub unsent : issue.sent ≡ false

out_unsent : (port : Port) (dev slot : ℕ) (command : issued_command.Command) → GoesOut port (Order dev slot command) → OutUnsent port dev slot
unfolding GoesOut
out_unsent port dev slot command goes = record { issue = goes.0; at = goes.1; of_dev = goes.2; below = goes.3; unsent = goes.4 }

same_path : (x y : Path) → Some x ≡ Some y → x ≡ y
same_path x y h = cc

-- slot 30 works on the device to identify it, or what it holds went out before
identify_or_begun : (n : ℕ) (plan : Plan) (p : Path) → IsTendedBy n plan → plan.path ≡ Some p → p.dev ≡ n → (p.stage ≡ Identify) ⊎ IsAtStage n IsBegun plan
identify_or_begun n plan p (Fine fine path) here to = inl (path p here to).0
identify_or_begun n plan p (Releases device works) here to = inr (at_stage n ReleaseReset true plan IsBegun works tt)
identify_or_begun n plan p (Awaits device works) here to = inr (at_stage n AwaitReset false plan IsBegun works tt)
identify_or_begun n plan p (Identifies device works) here to =
    let x : Path = record { dev = n; stage = Identify; asked = true } in
    let same : x ≡ p = same_path x p (sym works ∙ here) in
    inl (sym (ap (λ (q : Path). q.stage) same))
identify_or_begun n plan p (Logs before file device works) here to = inr (at_stage n (ReadLog file) true plan IsBegun works tt)
identify_or_begun n plan p (Spoilt device free) here to = absurd (free p here to)

-- ---- the fields that say nothing of a reset

work_still : (slot : ℕ) (w : driver_work.Work) (dev lba sectors : ℕ) → (orders.work_fields slot w dev lba sectors).control ≡ 0
work_still slot work.Read dev lba sectors = refl
work_still slot other dev lba sectors = refl

request_still : (slot : ℕ) (e : Entry) → (orders.request_fields slot e.head).control ≡ 0
unfolding orders.request_fields
request_still slot e = work_still slot e.head.work e.head.dev e.head.lba e.head.sectors

stage_identify : (n : ℕ) (p : Path) → p.stage ≡ Identify → p.dev ≡ n → stage_fields p.dev p.stage ≡ Some (orders.identify_fields n)
unfolding stage_fields
stage_identify n p is to = ap (λ (s : Stage). stage_fields p.dev s) is ∙ ap (λ (k : ℕ). Some (orders.identify_fields k)) to

-- ---- the command that goes out

-- it asks for what the slot's command is, or for another that is plain; it begins no reset; and slot 30 holds nothing that went out before
pub record IsOrderOn (n slot : ℕ) (old : Host) (command : issued_command.Command) (given : List Happening) (commands : ℕ → SlotCommand) (past : History) (t : Transfer) : Type 0 where
  pub order : IsOrderOf slot command given commands past t
  pub plain : IsPlainRequest (request_of command.cfis)
  pub still : resets command.cfis ≡ false
  pub unreleased : IsAtStage n IsReleasing old.driver.plan → ⊥

releasing_begun : (s : Stage) → IsReleasing s → IsBegun s
releasing_begun Identify h = h
releasing_begun AssertReset h = h
releasing_begun other h = tt

module _ (n : ℕ) (base : List Happening) (old : Host) (given : List Happening) (commands : ℕ → SlotCommand) (touches : Touches) (below : n < 15) (sound : IsHost (shared_by old)) (h : IsServedOn n base old given commands touches)
    (slot : ℕ) (command : issued_command.Command) (goes : GoesOut old.port (Order n slot command)) (o : OutTold old touches n slot command) where
  is_unsent : is_sent slot (own n touches) ≡ false
  is_unsent =
      let u : OutUnsent old.port n slot = out_unsent old.port n slot command goes in
      let long = sound.slots.slots in
      let low = u.below in
      let there : own_issue (slots_of n old.port.slots) slot ≡ Some u.issue =
      subst (λ (k : ℕ). own_issue (slots_of k old.port.slots) slot ≡ Some u.issue) (sym u.of_dev) (own_here slot old.port.slots u.issue (omega (arith, long, low)) u.at) in
      (hosted_on_is_kept n base (shared_by old) given commands (own n touches) below h.hosted).joined.sent slot u.issue there ∙ u.unsent

  -- slot 30 holds none that went out before
  not_begun : slot ≡ 30 → IsAtStage n IsBegun old.driver.plan → ⊥
  not_begun at there =
      true≢false (sym (h.begun there o.transfer (subst (λ (k : ℕ). issued k (own n touches) ≡ Some o.transfer) at o.there)) ∙ subst (λ (k : ℕ). is_sent k (own n touches) ≡ false) at is_unsent)

  same_kind : (s : ℕ) (u : Transfer) → issued s (own n touches) ≡ Some u → slot ≡ s → is_queued o.transfer.work.kind ≡ false → is_queued u.work.kind ≡ false
  same_kind s u here same calm =
      let is : o.transfer ≡ u = some_inj o.transfer u (sym o.there ∙ ap (λ (k : ℕ). issued k (own n touches)) same ∙ here) in
      ap (λ (t : Transfer). is_queued t.work.kind) (sym is) ∙ calm

  of_request : (e : Entry) → slot < 30 → entry_at old.driver.entries slot ≡ Some e → IsLiveAt n slot old.driver.entries e → IsOrderOn n slot old command given commands (own n touches) o.transfer
  of_request e low stands live =
      let built : IsBuiltOf (orders.request_fields slot e.head) o.transfer command = o.fis.of_request e low stands in
      let kind : is_queued o.transfer.work.kind ≡ orders.is_queued e.head.work = ap (λ (w : Work). is_queued w.kind) built.work ∙ request_kind slot e in
      record {
        order = record {
          control = ap (λ (w : Work). is_control w.kind) built.work ∙ request_control slot e;
          moves = ap (λ (w : Work). is_dma w.kind) built.work ∙ request_moves slot e;
          cfis = built.cfis.viewed;
          long = built_long (orders.request_fields slot e.head) command.cfis built.cfis;
          signed = h.signed (inl (h.tended.requests.ready slot e live));
          queued = λ q.
              let queued : orders.is_queued e.head.work ≡ true = sym kind ∙ q in
              request_asks slot e command.cfis low queued ((h.served.bounded.entries slot e stands).size queued) built.cfis ∙ ap Queue (sym (h.named slot o.transfer e o.there stands queued));
          other = λ q.
              let calm : orders.is_queued e.head.work ≡ false = sym kind ∙ q in (
                subst IsAlone (sym (flush_is slot e command.cfis calm built.cfis)) tt,
                λ s. none_queued (issued s (own n touches)) (λ u here. by_issue (flush_of e.head.work calm) q s u here (h.served.issues n s u here).from),
              );
        };
        plain = elim (cases_Bool (orders.is_queued e.head.work)) [
          | inl queued ↦ subst IsPlainRequest (sym (request_asks slot e command.cfis low queued ((h.served.bounded.entries slot e stands).size queued) built.cfis)) tt
          | inr calm ↦ subst IsPlainRequest (sym (flush_is slot e command.cfis calm built.cfis)) tt
        ];
        still = resets_none (orders.request_fields slot e.head) command.cfis (request_still slot e) built.cfis;
        unreleased = λ there. steps_alone_on n old.driver there.0 slot e h.tended there.1.0 there.1.1.0 live;
      }
    where
      by_issue : orders.is_flush e.head.work ≡ true → is_queued o.transfer.work.kind ≡ false → (s : ℕ) (u : Transfer) → issued s (own n touches) ≡ Some u → From old.driver n s u → is_queued u.work.kind ≡ false
      by_issue flush q s u here (inl r) =
          let other : IsLiveAt n s old.driver.entries r.entry = record { stands = r.stands; of_dev = r.of_dev; lives = issued_live r.entry r.goes } in
          same_kind s u here (h.tended.requests.alone slot s e r.entry live other flush) q
      by_issue flush q s u here (inr (inl i)) = absurd (steps_alone_on n old.driver i.path slot e h.tended i.goes i.of_dev live)
      by_issue flush q s u here (inr (inr k)) = absurd (omega (arith, below, k.of_dev))

  of_step : (p : Path) → slot ≡ 30 → old.driver.plan.path ≡ Some p → p.asked ≡ true → p.dev ≡ n → p.stage ≡ Identify → IsOrderOn n slot old command given commands (own n touches) o.transfer
  of_step p at here asked to is =
      let built : IsBuiltOf (orders.identify_fields n) o.transfer command = o.fis.of_step p (orders.identify_fields n) at here asked (stage_identify n p is to) in
      let calm : is_queued o.transfer.work.kind ≡ false = ap (λ (w : Work). is_queued w.kind) built.work ∙ identify_kind n in
      record {
        order = record {
          control = ap (λ (w : Work). is_control w.kind) built.work ∙ identify_control n;
          moves = ap (λ (w : Work). is_dma w.kind) built.work ∙ identify_moves n;
          cfis = built.cfis.viewed;
          long = built_long (orders.identify_fields n) command.cfis built.cfis;
          signed = h.signed (inr (p, (here, (to, subst IsAsking (sym is) tt))));
          queued = λ q. absurd (false≢true (sym calm ∙ q));
          other = λ q. (
            subst IsAlone (sym (identify_is n command.cfis built.cfis)) tt,
            λ s. none_queued (issued s (own n touches)) (λ u here. by_one s u here (h.served.issues n s u here).from q),
          );
        };
        plain = subst IsPlainRequest (sym (identify_is n command.cfis built.cfis)) tt;
        still = resets_none (orders.identify_fields n) command.cfis refl built.cfis;
        unreleased = λ there. not_begun at (there.0, (there.1.0, (there.1.1.0, releasing_begun there.0.stage there.1.1.1)));
      }
    where
      by_one : (s : ℕ) (u : Transfer) → issued s (own n touches) ≡ Some u → From old.driver n s u → is_queued o.transfer.work.kind ≡ false → is_queued u.work.kind ≡ false
      by_one s u there (inl r) q = absurd (steps_alone_on n old.driver p s r.entry h.tended here to (record { stands = r.stands; of_dev = r.of_dev; lives = issued_live r.entry r.goes }))
      by_one s u there (inr (inl j)) q = same_kind s u there (at ∙ sym j.slot) q
      by_one s u there (inr (inr k)) q = absurd (omega (arith, below, k.of_dev))

  by_from : From old.driver n slot o.transfer → IsOrderOn n slot old command given commands (own n touches) o.transfer
  by_from (inl r) = of_request r.entry r.slot r.stands (record { stands = r.stands; of_dev = r.of_dev; lives = issued_live r.entry r.goes })
  by_from (inr (inl i)) = elim (identify_or_begun n old.driver.plan i.path h.tended.plan.way i.goes i.of_dev) [
    | inl is ↦ of_step i.path i.slot i.goes i.asked i.of_dev is
    | inr there ↦ absurd (not_begun i.slot there)
  ]
  by_from (inr (inr k)) = absurd (omega (arith, below, k.of_dev))

  pub order_on : IsOrderOn n slot old command given commands (own n touches) o.transfer
  order_on = by_from (h.served.issues n slot o.transfer o.there).from
