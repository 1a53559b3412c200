-- One more deed of a device.
use Rattle.std.proofs.Common.{◌≡◌, ℕ, ◌+◌, ◌<◌, ◌≤◌, true, false, List, [], ◌∷◌, ◌++◌, length, get_or, append_assoc, append-nil, length-append, refl}
use Rattle.std.proofs.{Common.{sym, ap, ◌∙◌, subst}, lemmas.{Grind.{flat_map-append}, List.Concat.{flat_map-cons}}}
use Rattle.std.specs.{Prelude.{◌==◌, if◌then◌else◌, All, Option, Some, None}, List.{flat_map, remove}, Option.option_to_list}
use Rattle.fis_view.specs.Frames.{Stamped}
use Rattle.disk_model.specs.Histories.{Happening, Received, Plugged, Plan, GoesOn, SendsNext}
use Rattle.link_items.specs.declared.items.Presence.TheVariants.{Came, Gone}
use Rattle.disk_thread.specs.Deeds.{Deed, plugged_in, pulled_out, took, gave, Standing, never_plugged, after_deed, hears, happens, MayBeDone}
use Rattle.disk_thread.specs.Deeds.{taken_by, given_by, told_by, pulled_by, after_deeds, history_of, MayAllBeDone, pulls_after, pulls_in}
use Rattle.disk_thread.specs.Runs.{StationState, all_given, all_told, IsRun, KeepsPulls}
use Rattle.disk_thread.proofs.PullLemmas.{keeps_give, keeps_none, keeps_pull, keeps_still, pulls_more}

-- ---- a list that is one longer

after_more : (s : Standing) (ds : List Deed) (d : Deed) → after_deeds s (ds ++ d ∷ []) ≡ after_deed (after_deeds s ds) d
unfolding after_deeds
after_more s [] d = refl
after_more s (x ∷ ds) d = after_more (after_deed s x) ds d

history_more : (s : Standing) (ds : List Deed) (d : Deed) → history_of s (ds ++ d ∷ []) ≡ history_of s ds ++ happens (after_deeds s ds) d
unfolding after_deeds history_of
history_more s [] d = append-nil (happens s d)
history_more s (x ∷ ds) d =
    ap (λ l. happens s x ++ l) (history_more (after_deed s x) ds d)
    ∙ sym (append_assoc (happens s x) (history_of (after_deed s x) ds) (happens (after_deeds (after_deed s x) ds) d))

module _ (MaySend : List Happening → List ℕ → Type 0) (n : ℕ) where
  done_more : (s : Standing) (h : List Happening) (ds : List Deed) (d : Deed) → MayAllBeDone MaySend n s h ds
      → MayBeDone (MaySend (h ++ history_of s ds)) n (after_deeds s ds) d → MayAllBeDone MaySend n s h (ds ++ d ∷ [])
  unfolding after_deeds history_of MayAllBeDone
  done_more s h [] d all may = (subst (λ l. MayBeDone (MaySend l) n s d) (append-nil h) may, tt)
  done_more s h (x ∷ ds) d all may =
      let same = append_assoc h (happens s x) (history_of (after_deed s x) ds) in (
        all.0,
        done_more (after_deed s x) (h ++ happens s x) ds d all.1
            (subst (λ l. MayBeDone (MaySend l) n (after_deeds (after_deed s x) ds) d) (sym same) may),
      )

moved_more : {A : Type 0} (f : Deed → List A) (ds : List Deed) (d : Deed) → flat_map f (ds ++ d ∷ []) ≡ flat_map f ds ++ f d
moved_more f ds d = flat_map-append f ds (d ∷ []) ∙ ap (λ l. flat_map f ds ++ l) (flat_map-cons f d [] ∙ append-nil (f d))

-- ---- a place before a link

-- it was empty, and has an item now
place_filled : {T : Type 0} (sent : List T) (was now : Option T) (x : T) → was ≡ None → now ≡ Some x
    → sent ++ option_to_list now ≡ (sent ++ option_to_list was) ++ x ∷ []
place_filled sent was now x empty full =
    ap (λ o. sent ++ option_to_list o) full ∙ ap (λ l. l ++ x ∷ []) (sym (append-nil sent))
    ∙ ap (λ o. (sent ++ option_to_list o) ++ x ∷ []) (sym empty)

nothing_more : {T : Type 0} (old new : List T) → new ≡ old → new ≡ old ++ []
nothing_more old new e = e ∙ sym (append-nil old)

heard : (s : Standing) (f : Stamped) → s.plugged ≡ true → (f.stamp.conn == s.conn) ≡ true → hears s f ≡ true
heard s f in_place of_conn = rw (in_place, of_conn) refl

unheard : (s : Standing) (f : Stamped) → s.plugged ≡ true → (f.stamp.conn == s.conn) ≡ false → hears s f ≡ false
unheard s f in_place of_conn = rw (in_place, of_conn) refl

-- ---- deeds

module _ {D : Type 0} (plan_of : D → Plan) (StandsFor : D → List Happening → Type 0) (MaySend : Plan → List Happening → List ℕ → Type 0) where
  -- a device with which nothing was done
  pub run_none : (now : StationState D) → now.standing ≡ never_plugged → now.commands.taken ≡ [] → now.frames.sent ≡ [] → now.hand ≡ None
      → now.presence.sent ≡ [] → now.note ≡ None → IsRun plan_of StandsFor MaySend now.left now.unit now
  unfolding after_deeds history_of MayAllBeDone pulls_after
  run_none now standing taken sent hand posted note = record {
    deeds = [];
    plan = refl;
    stands_for = λ h s. subst (StandsFor now.unit) (sym (append-nil h)) s;
    done = λ h s. tt;
    standing = standing;
    taken = taken;
    given = ap (λ l. l ++ option_to_list now.hand) sent ∙ ap option_to_list hand;
    told = ap (λ l. l ++ option_to_list now.note) posted ∙ ap option_to_list note;
    pulls = keeps_none now.left (length (all_given now)) (ap (λ l. length (l ++ option_to_list now.hand)) sent ∙ ap (λ o. length (option_to_list o)) hand);
  }

  module _ (due : List ℕ) (opening : D) (old new : StationState D) where
    -- a deed was done
    run_more : (d : Deed) → plan_of new.unit ≡ plan_of old.unit
        → ((h : List Happening) → StandsFor old.unit h → StandsFor new.unit (h ++ happens old.standing d))
        → ((h : List Happening) → StandsFor old.unit h → MayBeDone (MaySend (plan_of old.unit) h) old.port old.standing d)
        → new.port ≡ old.port → new.standing ≡ after_deed old.standing d
        → new.commands.taken ≡ old.commands.taken ++ taken_by d → all_given new ≡ all_given old ++ given_by d → all_told new ≡ all_told old ++ told_by d
        → ((made : List ℕ) → KeepsPulls due made old.left (length (all_given old))
        → KeepsPulls due (made ++ pulled_by (length (all_given old)) d) new.left (length (all_given new)))
        → IsRun plan_of StandsFor MaySend due opening old → IsRun plan_of StandsFor MaySend due opening new
    run_more d plan stands may port standing taken given told keeps r =
        let all : List Happening = history_of never_plugged r.deeds in
        let history : all ++ happens old.standing d ≡ history_of never_plugged (r.deeds ++ d ∷ []) =
        ap (λ s. all ++ happens s d) r.standing ∙ sym (history_more never_plugged r.deeds d) in
        record {
          deeds = r.deeds ++ d ∷ [];
          plan = plan ∙ r.plan;
          stands_for = λ h s. subst (StandsFor new.unit) (append_assoc h all (happens old.standing d) ∙ ap (λ l. h ++ l) history)
              (stands (h ++ all) (r.stands_for h s));
          done = λ h s. done_more (MaySend (plan_of opening)) new.port never_plugged h r.deeds d
              (subst (λ n. MayAllBeDone (MaySend (plan_of opening)) n never_plugged h r.deeds) (sym port) (r.done h s))
              (subst (λ x. MayBeDone (MaySend (plan_of opening) (h ++ all)) new.port x d) r.standing
              (subst (λ n. MayBeDone (MaySend (plan_of opening) (h ++ all)) n old.standing d) (sym port)
              (subst (λ p. MayBeDone (MaySend p (h ++ all)) old.port old.standing d) r.plan (may (h ++ all) (r.stands_for h s)))));
          standing = standing ∙ ap (λ s. after_deed s d) r.standing ∙ sym (after_more never_plugged r.deeds d);
          taken = taken ∙ ap (λ l. l ++ taken_by d) r.taken ∙ sym (moved_more taken_by r.deeds d);
          given = given ∙ ap (λ l. l ++ given_by d) r.given ∙ sym (moved_more given_by r.deeds d);
          told = told ∙ ap (λ l. l ++ told_by d) r.told ∙ sym (moved_more told_by r.deeds d);
          pulls = subst (λ l. KeepsPulls due l new.left (length (all_given new)))
              (ap (λ l. pulls_in r.deeds ++ pulled_by (length l) d) r.given ∙ sym (pulls_more r.deeds d)) (keeps (pulls_in r.deeds) r.pulls);
        }

    -- a deed that is not a pull, and gives nothing
    stays : new.left ≡ old.left → all_given new ≡ all_given old → (made : List ℕ) → KeepsPulls due made old.left (length (all_given old))
        → KeepsPulls due (made ++ []) new.left (length (all_given new))
    stays left given made h = keeps_still due made old.left new.left (length (all_given old)) (length (all_given new)) left (ap length given) h

    -- the device was plugged in
    pub run_plugged : GoesOn plan_of StandsFor old.unit Plugged new.unit → old.standing.plugged ≡ false
        → new.port ≡ old.port → new.standing ≡ record { conn = old.standing.conn + 1; plugged = true }
        → new.commands.taken ≡ old.commands.taken → all_given new ≡ all_given old
        → new.presence.sent ≡ old.presence.sent → old.note ≡ None → new.note ≡ Some (Came (old.standing.conn + 1)) → new.left ≡ old.left
        → IsRun plan_of StandsFor MaySend due opening old → IsRun plan_of StandsFor MaySend due opening new
    run_plugged ok out port standing taken given posted empty note left =
        run_more (plugged_in (old.standing.conn + 1)) ok.plan ok.goes_on (λ h s. (out, refl)) port standing
        (nothing_more old.commands.taken new.commands.taken taken) (nothing_more (all_given old) (all_given new) given)
        (ap (λ l. l ++ option_to_list new.note) posted ∙ place_filled old.presence.sent old.note new.note (Came (old.standing.conn + 1)) empty note) (stays left given)

    -- the device was pulled out
    pub run_pulled : new.unit ≡ old.unit → old.standing.plugged ≡ true
        → new.port ≡ old.port → new.standing ≡ record { conn = old.standing.conn; plugged = false }
        → new.commands.taken ≡ old.commands.taken → all_given new ≡ all_given old
        → new.presence.sent ≡ old.presence.sent → old.note ≡ None → new.note ≡ Some (Gone old.standing.conn)
        → (i other : ℕ) → i < length old.left → get_or old.left i other ≤ length (all_given old) → new.left ≡ remove old.left i
        → IsRun plan_of StandsFor MaySend due opening old → IsRun plan_of StandsFor MaySend due opening new
    run_pulled unit in_place port standing taken given posted empty note i other lt late left =
        run_more (pulled_out old.standing.conn) (ap plan_of unit)
        (λ h s. subst (λ u. StandsFor u (h ++ [])) (sym unit) (subst (StandsFor old.unit) (sym (append-nil h)) s))
        (λ h s. (in_place, refl)) port standing
        (nothing_more old.commands.taken new.commands.taken taken) (nothing_more (all_given old) (all_given new) given)
        (ap (λ l. l ++ option_to_list new.note) posted ∙ place_filled old.presence.sent old.note new.note (Gone old.standing.conn) empty note)
        (λ made h. subst (λ l. KeepsPulls due (made ++ length (all_given old) ∷ []) l (length (all_given new))) (sym left)
        (keeps_pull due made old.left (length (all_given old)) (length (all_given new)) i other lt late (ap length given) h))

    -- a FIS of the host was taken, and the device heard it
    pub run_heard : (f : Stamped) → GoesOn plan_of StandsFor old.unit (Received f.bytes) new.unit → old.standing.plugged ≡ true → (f.stamp.conn == old.standing.conn) ≡ true
        → new.port ≡ old.port → new.standing ≡ old.standing → new.commands.taken ≡ old.commands.taken ++ f ∷ []
        → all_given new ≡ all_given old → all_told new ≡ all_told old → new.left ≡ old.left
        → IsRun plan_of StandsFor MaySend due opening old → IsRun plan_of StandsFor MaySend due opening new
    run_heard f ok in_place of_conn port standing taken given told left =
        let test : hears old.standing f ≡ true = heard old.standing f in_place of_conn in
        run_more (took f) ok.plan
        (λ h s. subst (λ b. StandsFor new.unit (h ++ (if b then Received f.bytes ∷ [] else []))) (sym test) (ok.goes_on h s))
        (λ h s. tt) port standing taken (nothing_more (all_given old) (all_given new) given) (nothing_more (all_told old) (all_told new) told)
        (stays left given)

    -- a FIS of the host was taken, and let go
    pub run_unheard : (f : Stamped) → new.unit ≡ old.unit → old.standing.plugged ≡ true → (f.stamp.conn == old.standing.conn) ≡ false
        → new.port ≡ old.port → new.standing ≡ old.standing → new.commands.taken ≡ old.commands.taken ++ f ∷ []
        → all_given new ≡ all_given old → all_told new ≡ all_told old → new.left ≡ old.left
        → IsRun plan_of StandsFor MaySend due opening old → IsRun plan_of StandsFor MaySend due opening new
    run_unheard f unit in_place of_conn port standing taken given told left =
        let test : hears old.standing f ≡ false = unheard old.standing f in_place of_conn in
        run_more (took f) (ap plan_of unit)
        (λ h s. subst (λ b. StandsFor new.unit (h ++ (if b then Received f.bytes ∷ [] else []))) (sym test)
        (subst (λ u. StandsFor u (h ++ [])) (sym unit) (subst (StandsFor old.unit) (sym (append-nil h)) s)))
        (λ h s. tt) port standing taken (nothing_more (all_given old) (all_given new) given) (nothing_more (all_told old) (all_told new) told)
        (stays left given)

    -- the device gave a FIS
    pub run_gave : (f : Stamped) → SendsNext plan_of StandsFor MaySend old.unit f.bytes new.unit → old.standing.plugged ≡ true
        → f.stamp.port ≡ old.port → f.stamp.conn ≡ old.standing.conn
        → new.port ≡ old.port → new.standing ≡ old.standing → new.commands.taken ≡ old.commands.taken
        → new.frames.sent ≡ old.frames.sent → old.hand ≡ None → new.hand ≡ Some f → all_told new ≡ all_told old
        → new.left ≡ old.left → All (λ count. length (all_given old) < count) old.left
        → IsRun plan_of StandsFor MaySend due opening old → IsRun plan_of StandsFor MaySend due opening new
    run_gave f ok in_place of_port of_conn port standing taken sent empty hand told left none =
        let given : all_given new ≡ all_given old ++ f ∷ [] =
        ap (λ l. l ++ option_to_list new.hand) sent ∙ place_filled old.frames.sent old.hand new.hand f empty hand in
        run_more (gave f) ok.plan ok.goes_on (λ h s. (in_place, of_port, of_conn, ok.allowed h s)) port standing
        (nothing_more old.commands.taken new.commands.taken taken) given (nothing_more (all_told old) (all_told new) told)
        (λ made h. subst (λ l. KeepsPulls due (made ++ []) l (length (all_given new))) (sym left)
        (keeps_give due made old.left (length (all_given old)) (length (all_given new)) none (ap length given ∙ length-append (all_given old) (f ∷ [])) h))
