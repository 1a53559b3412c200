-- For `delivers`. What a device's part of the slots says after Data, and after the end of a block.
use Rattle.std.proofs.Common.{◌≡◌, ℕ, ◌+◌, ◌%◌, ◌≤◌, Bool, true, false, cond, eqb, List, ◌∷◌, length, refl, sym, ap, subst, ◌∙◌, inl, inr, Option}
use Rattle.std.proofs.{Common.{Some, None, arith}, lemmas.Bool.{and_parts, cases_eq, eq-eqb, ne_eqb, false≢true}}
use Rattle.std.specs.{Prelude.{MatchOption, is_some, ◌&&◌, ◌||◌}, Option.option_map}
use Rattle.slots.specs.{Commands.{after_pio_done, is_slot, whole_pio}, Data.{gone_over, moved_on, moved_over}, Slots.{DeviceSlots, Issue}}
use Rattle.slots.specs.Slots.{context_unless, freed, holds, is_pio, is_sent_pio, is_under_way, is_whole_issue, lowest, match_some, own_issue}
use Rattle.slots.specs.{Slots.sent_pio, declared.table.Context.Context, Table.IsIssue, Work.{is_queued, needs_all}}
use Rattle.slots.proofs.Door.{whole_dwords}
use Rattle.hba_fbs.specs.{Hearing.block_ended, Status.is_quiet}
use Rattle.hba_laws.specs.{Agreement.{Agrees, AreIssued, SetupAgrees, is_pio_issue}, History.{Carried, History, Setup, carried, completes, ends_well}}
use Rattle.hba_laws.specs.{History.{is_set_up, last_setup}, Between.{HasContext, IsOwn, at_slot, frees}}
use Rattle.hba_laws.proofs.histories.{StandLemmas.some_inj, AgreeLemmas.agrees_freed, CarryLemmas.agrees_carried, StepLemmas.{Says, frees_completed}}
use Rattle.hba_laws.proofs.histories.{StepLemmas.{kept, not_queued, pio_slot, whole_is, works_marked}, ViewLemmas.{at_other, at_same, ext, holds_at}}
use Rattle.hba_laws.proofs.histories.ViewLemmas.{own_below, own_freed, own_set}

-- whether bytes that are the last of their setup, or not, end a block well
abbrev pub ends_block : Option ℕ → Bool → Bool
ends_block ends last = match_some (cond last ends None) false is_quiet

same_sums : (a b c : ℕ) → eqb (a + b) (a + c) ≡ eqb c b
same_sums a b c = elim (cases_eq c b) [
  | inl e ↦ eq-eqb (a + b) (a + c) (ap (λ n. a + n) (sym e)) ∙ sym (eq-eqb c b e)
  | inr ne ↦ ne_eqb (a + b) (a + c) (λ e. ne (omega (arith, e))) ∙ sym (ne_eqb c b ne)
]

-- so it is by the history
ends_by : (c : Context) (ends : Option ℕ) (past : History) (len : ℕ) → MatchOption (last_setup past) ⊥ (SetupAgrees c ends past)
    → match_some (last_setup past) false (λ g. ends_well g (carried past + len)) ≡ ends_block ends (eqb c.left len)
ends_by c ends past len h = by_setup (last_setup past) h
  where
    by_setup : (o : Option Setup) → MatchOption o ⊥ (SetupAgrees c ends past) → match_some o false (λ g. ends_well g (carried past + len)) ≡ ends_block ends (eqb c.left len)
    by_setup None h = absurd h
    by_setup (Some g) h =
        ap (λ b. match_some (cond b g.ends None) false is_quiet) (ap (eqb (carried past + len)) (sym h.left_is) ∙ same_sums (carried past) len c.left)
        ∙ ap (λ e. match_some (cond (eqb c.left len) e None) false is_quiet) h.ends_is

ends_some : (ends : Option ℕ) (last : Bool) → ends_block ends last ≡ true → is_some ends ≡ true
ends_some None true e = absurd (false≢true e)
ends_some None false e = absurd (false≢true e)
ends_some (Some status) last e = refl

module _ (n : ℕ) (own : DeviceSlots) (ends : Option ℕ) (past : History) (is : IsOwn n own) (says : Says own ends past)
    (c : Context) (now : own.context ≡ Some c) (bytes : List ℕ) (whole_dword : length bytes % 4 ≡ 0) (fits : length bytes ≤ c.left) where
  has : HasContext n own c
  has = is.contexts c now

  abbrev gone : DeviceSlots
  gone = gone_over (length bytes) c own

  abbrev new : Issue
  new = moved_over c.next (length bytes) has.issue

  abbrev after : ℕ → Option Issue
  after = at_slot (own_issue own) c.slot (Some new)

  is_issue : IsIssue has.issue
  is_issue = is.issues c.slot has.issue has.at

  view : own_issue gone ≡ after
  view =
      own_set own c.slot (option_map (moved_over c.next (length bytes)) (own_issue own c.slot)) (let lt = own_below n c.slot own has.issue is has.at in omega (arith, lt, is.long))
      ∙ ap (λ o. at_slot (own_issue own) c.slot (option_map (moved_over c.next (length bytes)) o)) has.at

  moved : Agrees after (Some (moved_on (length bytes) c)) ends (Carried bytes ∷ past)
  moved = agrees_carried (own_issue own) own.context ends past says.agrees c has.issue bytes now has.at has.is.next_dwords whole_dword fits has.is.fits
      (whole_dwords has.issue.over has.issue.work.len is_issue.room (is_issue.work.0)) has.is.fresh

  works : AreIssued after past
  works = works_marked (own_issue own) c.slot has.issue new past has.at refl says.issued

  -- the test of completion, by what the view knows
  test : (b : Bool) → b ≡ ends_block ends (eqb c.left (length bytes)) → (s : ℕ) (i : Issue) → after s ≡ Some i
      → completes s (Carried bytes) past i.work ≡ (eqb c.slot s && is_pio i.work.kind && b && is_whole_issue i)
  test b ends_is s i e =
      let x = moved.issues_agree s i e in
      let up : is_set_up s past ≡ eqb c.slot s = x.set_up_is in
      ap (λ w. is_set_up s past && is_pio i.work.kind && match_some (last_setup past) false (λ g. ends_well g (carried past + length bytes)) && w)
      (sym (whole_is s i (Some (moved_on (length bytes) c)) (Carried bytes ∷ past) x))
      ∙ ap (λ m. is_set_up s past && is_pio i.work.kind && m && is_whole_issue i)
      (ends_by c ends past (length bytes) (says.agrees.context_agrees c now).of_setup ∙ sym ends_is)
      ∙ ap (λ u. u && is_pio i.work.kind && b && is_whole_issue i) up

  -- so many bytes, of which none becomes free
  nothing_freed : ((s : ℕ) (i : Issue) → after s ≡ Some i → completes s (Carried bytes) past i.work ≡ false) → Says gone ends (Carried bytes ∷ past)
  nothing_freed none = record {
    issued = subst (λ f. AreIssued f (Carried bytes ∷ past)) (sym view) (kept (λ s w. completes s (Carried bytes) past w) after past works none);
    agrees = subst (λ f. Agrees f (Some (moved_on (length bytes) c)) ends (Carried bytes ∷ past)) (sym view) moved;
  }

  -- it does not end a block well
  pub says_carried : ends_block ends (eqb c.left (length bytes)) ≡ false → Says (gone_over (length bytes) c own) ends (Carried bytes ∷ past)
  says_carried none = nothing_freed (λ s i e. test false (sym none) s i e ∙ no_and (eqb c.slot s && is_pio i.work.kind) (is_whole_issue i))
    where
      no_and : (a b : Bool) → (a && false && b) ≡ false
      no_and true b = refl
      no_and false b = refl

  -- the slot of the block is that of the PIO data-in that was sent
  pio_sent : is_some ends ≡ true → (is_sent_pio has.issue ≡ true) × (is_pio has.issue.work.kind ≡ true)
  pio_sent some =
      let pio : is_pio has.issue.work.kind ≡ true = sym (holds_at is_pio_issue (own_issue own c.slot) has.issue has.at) ∙ (says.agrees.context_agrees c now).of_kind ∙ some in
      let queued : is_queued has.issue.work.kind ≡ false = not_queued has.issue.work.kind pio in
      let way : is_under_way has.issue ≡ true = ap (λ q. (q && has.issue.answered) || is_under_way has.issue) (sym queued) ∙ has.is.goes in
      (ap (λ b. b && is_pio has.issue.work.kind) (and_parts has.issue.sent (needs_all has.issue.work.kind) way).0 ∙ pio, pio)

  same_sent : (k : ℕ) → holds is_sent_pio (own_issue gone k) ≡ holds is_sent_pio (own_issue own k)
  same_sent k = ap (λ (f : ℕ → Option Issue). holds is_sent_pio (f k)) view ∙ elim (cases_eq k c.slot) [
    | inl e ↦ ap (holds is_sent_pio) (at_same (own_issue own) c.slot k (Some new) e) ∙ sym (ap (holds is_sent_pio) (ap (own_issue own) e ∙ has.at))
    | inr ne ↦ ap (holds is_sent_pio) (at_other (own_issue own) c.slot k (Some new) ne)
  ]

  first : is_some ends ≡ true → sent_pio gone ≡ Some c.slot
  first some =
      ap lowest (ext (λ k. holds is_sent_pio (own_issue gone k)) (λ k. holds is_sent_pio (own_issue own k)) same_sent)
      ∙ pio_slot n own ends past is says c.slot has.issue has.at (pio_sent some).0

  whole_first : is_some ends ≡ true → whole_pio gone ≡ cond (is_whole_issue new) (Some c.slot) None
  whole_first some =
      ap (λ o. match_some o None (λ slot. cond (holds is_whole_issue (own_issue gone slot)) (Some slot) None)) (first some)
      ∙ ap (λ (f : ℕ → Option Issue). cond (holds is_whole_issue (f c.slot)) (Some c.slot) None) view
      ∙ ap (λ o. cond (holds is_whole_issue o) (Some c.slot) None) (at_same (own_issue own) c.slot c.slot (Some new) refl)

  -- the issue of the slot, or of another
  test_at : ends_block ends (eqb c.left (length bytes)) ≡ true → (s : ℕ) (i : Issue) → after s ≡ Some i
      → completes s (Carried bytes) past i.work ≡ (eqb s c.slot && is_whole_issue new)
  test_at well s i e = test true (sym well) s i e ∙ elim (cases_eq s c.slot) [
    | inl same ↦
        let is_new : new ≡ i = some_inj new i (sym (at_same (own_issue own) c.slot s (Some new) same) ∙ e) in
        let pio : is_pio i.work.kind ≡ true = ap (λ (v : Issue). is_pio v.work.kind) (sym is_new) ∙ (pio_sent (ends_some ends (eqb c.left (length bytes)) well)).1 in
        ap (λ b. b && is_pio i.work.kind && true && is_whole_issue i) (eq-eqb c.slot s (sym same))
        ∙ ap (λ b. b && true && is_whole_issue i) pio ∙ ap is_whole_issue (sym is_new)
        ∙ sym (ap (λ b. b && is_whole_issue new) (eq-eqb s c.slot same))
    | inr ne ↦
        ap (λ b. b && is_pio i.work.kind && true && is_whole_issue i) (ne_eqb c.slot s (λ same. ne (sym same)))
        ∙ sym (ap (λ b. b && is_whole_issue new) (ne_eqb s c.slot ne))
  ]

  by_whole : ends_block ends (eqb c.left (length bytes)) ≡ true → (w : Bool) → is_whole_issue new ≡ w
      → Says (match_some (cond w (Some c.slot) None) gone (λ slot. freed (is_slot slot) gone)) ends (Carried bytes ∷ past)
  by_whole well false none = nothing_freed (λ s i e. test_at well s i e ∙ ap (λ w. eqb s c.slot && w) none ∙ no_and (eqb s c.slot))
    where
      no_and : (b : Bool) → (b && false) ≡ false
      no_and true = refl
      no_and false = refl
  by_whole well true whole =
      let F : ℕ → Bool = is_slot c.slot in
      let freed_view : own_issue (freed F gone) ≡ frees F after = own_freed F gone ∙ ap (frees F) view in
      record {
        issued = subst (λ f. AreIssued f (Carried bytes ∷ past)) (sym freed_view)
            (frees_completed (λ s w. completes s (Carried bytes) past w) F after past works (λ s i e. test_at well s i e ∙ ap (λ w. eqb s c.slot && w) whole ∙ and_true (eqb s c.slot)));
        agrees = subst (λ f. Agrees f (context_unless F (Some (moved_on (length bytes) c))) ends (Carried bytes ∷ past)) (sym freed_view)
            (agrees_freed F after (Some (moved_on (length bytes) c)) ends (Carried bytes ∷ past) (λ s i free e. moved.issues_agree s i e) moved.context_agrees);
      }
    where
      and_true : (b : Bool) → (b && true) ≡ b
      and_true true = refl
      and_true false = refl

  pub says_ended : ends_block ends (eqb c.left (length bytes)) ≡ true → Says (after_pio_done (gone_over (length bytes) c own)) ends (Carried bytes ∷ past)
  says_ended well =
      subst (λ (o : Option ℕ). Says (match_some o gone (λ slot. freed (is_slot slot) gone)) ends (Carried bytes ∷ past))
      (sym (whole_first (ends_some ends (eqb c.left (length bytes)) well))) (by_whole well (is_whole_issue new) refl)

  pub says_block : (finishes : Bool) → finishes ≡ ends_block ends (eqb c.left (length bytes)) → Says (block_ended finishes (gone_over (length bytes) c own)) ends (Carried bytes ∷ past)
  says_block true e = says_ended (sym e)
  says_block false e = says_carried (sym e)
