-- For `reads_follow_writes`. A read that is submitted in a run after the poll of a write brings the bytes of the write.
use Rattle.std.proofs.Common.{◌≡◌, ◌-◌, ◌*◌, ◌+◌, ◌<◌, ◌≤◌, ℕ, zero, suc, true, List, [], ◌∷◌, ◌++◌, append_assoc, drop, length, length-append, refl, ap, subst, sym, ◌∙◌, arith}
use Rattle.std.specs.{Prelude.slice_index, List.{flat_map, range_with_len}}
use Rattle.std.proofs.{Math.Path.{path_j, subst_refl}, lemmas.Grind.flat_map-append}
use Rattle.host_memory.specs.{Memory.{Memory, client_start}, Place.place}
use Rattle.disk_model.specs.{Histories.Happening, Last.NoneCovers}
use Rattle.hba_driver.specs.declared.{mode.Mode.TheVariants.Switching, request.Completion.Completion, request.Request.Request, request.Ticket.Ticket}
use Rattle.hba_driver.specs.{declared.request.Work.TheVariants.Read, Drivers.Entry, Submits.new_entry}
use Rattle.pm_world.specs.{Attached.Attached, Disks.{Before, DiskRun, EndedSince, Since, WasSubmitted, disk_history}}
use Rattle.pm_world.specs.{InOrder.{IsLeftSince, ReadsFollowWrites, disk_run}, Places.{Places, is_config, new_world}, Polled.IsPolledHonestly}
use Rattle.pm_world.specs.{ReadBack.{IsOneByte, IsPart}, Rules.Run, Runs.{IsStepOf, Telling, over, world_before}, Submitted.StandsThere}
use Rattle.pm_world.specs.{Tickets.{AreCounted, given_by}, Units.happens, declared.{step.Config.Config, step.Step.Step, step.Answer.Answer}}
use Rattle.pm_world.specs.declared.step.Step.TheVariants as step
use Rattle.pm_world.specs.declared.step.Answer.TheVariants as answer
use Rattle.pm_world.proofs.{upward.Law.run_append, media.ReadSubmittedLemmas.reads_bring_submitted, turns.Tickets.keeps_tickets}

-- ## Lists

record IsStart {A : Type 0} (part whole : List A) : Type 0 where
  later : List A
  is : whole ≡ part ++ later

record HasHead {A : Type 0} (x : A) (xs : List A) : Type 0 where
  tail : List A
  is : xs ≡ x ∷ tail

-- two ways to take a list apart
record AreSame {A : Type 0} (x y : A) (xs ys : List A) : Type 0 where
  head : x ≡ y
  tail : xs ≡ ys

same_cons : {A : Type 0} (x y : A) (xs ys : List A) → x ∷ xs ≡ y ∷ ys → AreSame x y xs ys
same_cons x y xs ys e = record { head = cc e; tail = cc e }

-- ## The first part of a run

-- the steps, answers and worlds of a run are the first of these
record IsFirst (old new : Places) (steps : List Step) (answers : List Answer) (run : Run old steps answers new) (S : List Step) (A : List Answer)
    (W : List Places) : Type 0 where
  steps_rest : List Step
  steps_are : S ≡ steps ++ steps_rest
  answers_rest : List Answer
  answers_are : A ≡ answers ++ answers_rest
  worlds_rest : List Places
  worlds_are : W ≡ over world_before old steps answers new run ++ new ∷ worlds_rest

head_is : (old new : Places) (steps : List Step) (answers : List Answer) (run : Run old steps answers new) (S : List Step) (A : List Answer)
    (W : List Places) → IsFirst old new steps answers run S A W → HasHead old W
head_is old new [] [] run S A W f = record { tail = f.worlds_rest; is = f.worlds_are ∙ ap (λ (w : Places). w ∷ f.worlds_rest) run }
head_is old new (s ∷ steps) (a ∷ answers) run S A W f =
    record { tail = over world_before run.0 steps answers new run.2 ++ new ∷ f.worlds_rest; is = f.worlds_are }
head_is old new [] (a ∷ answers) run S A W f = absurd run
head_is old new (s ∷ steps) [] run S A W f = absurd run

one_head : (v w : Places) (W : List Places) → HasHead v W → HasHead w W → v ≡ w
one_head v w W h k = (same_cons v w h.tail k.tail (sym h.is ∙ k.is)).head

one_telling : {A : Type 0} (tell : Telling A) (v w : Places) (s t : Step) (a b : Answer) (x y : Places) → v ≡ w → s ≡ t → a ≡ b → x ≡ y
    → tell v s a x ≡ tell w t b y
one_telling tell v w s t a b x y e f g h =
    ap (λ (u : Places). tell u s a x) e ∙ ap (λ (u : Step). tell w u a x) f ∙ ap (λ (u : Answer). tell w t u x) g ∙ ap (tell w t b) h

-- what is told over a part of a run is the first of what is told over a longer one
starts : {T : Type 0} (tell : Telling T) (v x : Places) (ss : List Step) (aa : List Answer) (r : Run v ss aa x) (w y : Places) (ts : List Step)
    (bs : List Answer) (q : Run w ts bs y) (S : List Step) (A : List Answer) (W : List Places) → IsFirst v x ss aa r S A W → IsFirst w y ts bs q S A W
    → length ss ≤ length ts → IsStart (over tell v ss aa x r) (over tell w ts bs y q)
starts tell v x [] [] r w y ts bs q S A W f g short = record { later = over tell w ts bs y q; is = refl }
starts tell v x (s ∷ ss) (a ∷ aa) r w y [] [] q S A W f g short = absurd (omega (arith, short))
starts tell v x (s ∷ ss) (a ∷ aa) r w y (t ∷ ts) (b ∷ bs) q S A W f g short =
    let rest : IsStart (over tell r.0 ss aa x r.2) (over tell q.0 ts bs y q.2) =
    starts tell r.0 x ss aa r.2 q.0 y ts bs q.2 (ss ++ f.steps_rest) (aa ++ f.answers_rest) (over world_before r.0 ss aa x r.2 ++ x ∷ f.worlds_rest) left
    right (omega (arith, short)) in
    record {
      later = rest.later;
      is = ap (λ (l : List _). tell w t b q.0 ++ l) rest.is ∙ ap (λ (l : List _). l ++ (over tell r.0 ss aa x r.2 ++ rest.later)) told
          ∙ sym (append_assoc (tell v s a r.0) (over tell r.0 ss aa x r.2) rest.later);
    }
  where
    one_step : AreSame s t (ss ++ f.steps_rest) (ts ++ g.steps_rest)
    one_step = same_cons s t (ss ++ f.steps_rest) (ts ++ g.steps_rest) (sym f.steps_are ∙ g.steps_are)

    one_answer : AreSame a b (aa ++ f.answers_rest) (bs ++ g.answers_rest)
    one_answer = same_cons a b (aa ++ f.answers_rest) (bs ++ g.answers_rest) (sym f.answers_are ∙ g.answers_are)

    one_world : AreSame v w (over world_before r.0 ss aa x r.2 ++ x ∷ f.worlds_rest) (over world_before q.0 ts bs y q.2 ++ y ∷ g.worlds_rest)
    one_world =
        same_cons v w (over world_before r.0 ss aa x r.2 ++ x ∷ f.worlds_rest) (over world_before q.0 ts bs y q.2 ++ y ∷ g.worlds_rest)
        (sym f.worlds_are ∙ g.worlds_are)

    left : IsFirst r.0 x ss aa r.2 (ss ++ f.steps_rest) (aa ++ f.answers_rest) (over world_before r.0 ss aa x r.2 ++ x ∷ f.worlds_rest)
    left = record {
      steps_rest = f.steps_rest;
      steps_are = refl;
      answers_rest = f.answers_rest;
      answers_are = refl;
      worlds_rest = f.worlds_rest;
      worlds_are = refl;
    }

    right : IsFirst q.0 y ts bs q.2 (ss ++ f.steps_rest) (aa ++ f.answers_rest) (over world_before r.0 ss aa x r.2 ++ x ∷ f.worlds_rest)
    right = record {
      steps_rest = g.steps_rest;
      steps_are = one_step.tail;
      answers_rest = g.answers_rest;
      answers_are = one_answer.tail;
      worlds_rest = g.worlds_rest;
      worlds_are = one_world.tail;
    }

    told : tell w t b q.0 ≡ tell v s a r.0
    told =
        one_telling tell w v t s b a q.0 r.0 (sym one_world.head) (sym one_step.head) (sym one_answer.head)
        (one_head q.0 r.0 (over world_before r.0 ss aa x r.2 ++ x ∷ f.worlds_rest)
        (head_is q.0 y ts bs q.2 (ss ++ f.steps_rest) (aa ++ f.answers_rest) (over world_before r.0 ss aa x r.2 ++ x ∷ f.worlds_rest) right)
        (head_is r.0 x ss aa r.2 (ss ++ f.steps_rest) (aa ++ f.answers_rest) (over world_before r.0 ss aa x r.2 ++ x ∷ f.worlds_rest) left))
starts tell v x [] (a ∷ aa) r w y ts bs q S A W f g short = absurd r
starts tell v x (s ∷ ss) [] r w y ts bs q S A W f g short = absurd r
starts tell v x (s ∷ ss) (a ∷ aa) r w y [] (b ∷ bs) q S A W f g short = absurd q
starts tell v x (s ∷ ss) (a ∷ aa) r w y (t ∷ ts) [] q S A W f g short = absurd q

-- a step's run is the first of the whole
of_step : (s : Step) (a : Answer) (old new : Places) (S : List Step) (A : List Answer) (run : Run old S A new) (i : IsStepOf s a old new S A run)
    → IsFirst old i.at i.before i.told i.came S A (over world_before old S A new run)
of_step s a old new S A run i = record {
  steps_rest = s ∷ i.after;
  steps_are = i.steps_are;
  answers_rest = a ∷ i.later;
  answers_are = i.answers_are;
  worlds_rest = over world_before i.next i.after i.later new i.went;
  worlds_are = i.worlds;
}

-- the first of the first
through : (old new end : Places) (ss ts : List Step) (aa bs : List Answer) (r : Run old ss aa new) (q : Run old ts bs end) (S : List Step)
    (A : List Answer) (W : List Places) → IsFirst old new ss aa r ts bs (over world_before old ts bs end q) → IsFirst old end ts bs q S A W
    → IsFirst old new ss aa r S A W
through old new end ss ts aa bs r q S A W f g = record {
  steps_rest = f.steps_rest ++ g.steps_rest;
  steps_are = g.steps_are ∙ ap (λ (l : List Step). l ++ g.steps_rest) f.steps_are ∙ append_assoc ss f.steps_rest g.steps_rest;
  answers_rest = f.answers_rest ++ g.answers_rest;
  answers_are = g.answers_are ∙ ap (λ (l : List Answer). l ++ g.answers_rest) f.answers_are ∙ append_assoc aa f.answers_rest g.answers_rest;
  worlds_rest = f.worlds_rest ++ end ∷ g.worlds_rest;
  worlds_are = g.worlds_are ∙ ap (λ (l : List Places). l ++ end ∷ g.worlds_rest) f.worlds_are
      ∙ append_assoc (over world_before old ss aa new r) (new ∷ f.worlds_rest) (end ∷ g.worlds_rest);
}

-- ## One run and then another

moved : {T : Type 0} (tell : Telling T) (a b c : Places) (ss : List Step) (aa : List Answer) (e : b ≡ a) (next : Run b ss aa c)
    → over tell a ss aa c (subst (λ (p : Places). Run p ss aa c) e next) ≡ over tell b ss aa c next
moved tell a b c ss aa e next =
    path_j (λ (p : Places) (k : b ≡ p). over tell p ss aa c (subst (λ (u : Places). Run u ss aa c) k next) ≡ over tell b ss aa c next)
    (ap (over tell b ss aa c) (subst_refl (λ (u : Places). Run u ss aa c) next)) e

pub over_append : {T : Type 0} (tell : Telling T) (a b c : Places) (first : List Step) (told : List Answer) (second : List Step) (more : List Answer)
    (run : Run a first told b) (next : Run b second more c)
    → over tell a (first ++ second) (told ++ more) c (run_append a b c first told second more run next)
    ≡ over tell a first told b run ++ over tell b second more c next
unfolding run_append
over_append tell a b c [] [] second more run next = moved tell a b c second more run next
over_append tell a b c (s ∷ first) (x ∷ told) second more run next =
    ap (λ (l : List _). tell a s x run.0 ++ l) (over_append tell run.0 b c first told second more run.2 next)
    ∙ sym (append_assoc (tell a s x run.0) (over tell run.0 first told b run.2) (over tell b second more c next))
over_append tell a b c [] (x ∷ told) second more run next = absurd run
over_append tell a b c (s ∷ first) [] second more run next = absurd run

-- a run in two parts around a step
abbrev parted : (s : Step) (a : Answer) (old new : Places) (ss : List Step) (aa : List Answer) (r : Run old ss aa new) (i : IsStepOf s a old new ss aa r)
    → Run old (i.before ++ s ∷ i.after) (i.told ++ a ∷ i.later) new
parted s a old new ss aa r i = run_append old i.at new i.before i.told (s ∷ i.after) (a ∷ i.later) i.came (i.next, i.rule, i.went)

parted_first : (s : Step) (a : Answer) (old new : Places) (ss : List Step) (aa : List Answer) (r : Run old ss aa new) (i : IsStepOf s a old new ss aa r)
    (S : List Step) (A : List Answer) (W : List Places) → IsFirst old new ss aa r S A W
    → IsFirst old new (i.before ++ s ∷ i.after) (i.told ++ a ∷ i.later) (parted s a old new ss aa r i) S A W
parted_first s a old new ss aa r i S A W f = record {
  steps_rest = f.steps_rest;
  steps_are = f.steps_are ∙ ap (λ (l : List Step). l ++ f.steps_rest) i.steps_are;
  answers_rest = f.answers_rest;
  answers_are = f.answers_are ∙ ap (λ (l : List Answer). l ++ f.answers_rest) i.answers_are;
  worlds_rest = f.worlds_rest;
  worlds_are = f.worlds_are
      ∙ ap (λ (l : List Places). l ++ new ∷ f.worlds_rest)
      (i.worlds ∙ sym (over_append world_before old i.at new i.before i.told (s ∷ i.after) (a ∷ i.later) i.came (i.next, i.rule, i.went)));
}

-- up to a step of the second part
joined_first : (s t : Step) (a b : Answer) (old new : Places) (ss : List Step) (aa : List Answer) (r : Run old ss aa new) (i : IsStepOf s a old new ss aa r)
    (k : IsStepOf t b i.at new (s ∷ i.after) (a ∷ i.later) (i.next, i.rule, i.went))
    → IsFirst old k.at (i.before ++ k.before) (i.told ++ k.told) (run_append old i.at k.at i.before i.told k.before k.told i.came k.came) ss aa
    (over world_before old ss aa new r)
joined_first s t a b old new ss aa r i k = record {
  steps_rest = t ∷ k.after;
  steps_are = i.steps_are ∙ ap (λ (l : List Step). i.before ++ l) k.steps_are ∙ sym (append_assoc i.before k.before (t ∷ k.after));
  answers_rest = b ∷ k.later;
  answers_are = i.answers_are ∙ ap (λ (l : List Answer). i.told ++ l) k.answers_are ∙ sym (append_assoc i.told k.told (b ∷ k.later));
  worlds_rest = over world_before k.next k.after k.later new k.went;
  worlds_are = i.worlds ∙ ap (λ (l : List Places). over world_before old i.before i.told i.at i.came ++ l) k.worlds
      ∙ sym (append_assoc (over world_before old i.before i.told i.at i.came) (over world_before i.at k.before k.told k.at k.came)
      (k.at ∷ over world_before k.next k.after k.later new k.went))
      ∙ ap (λ (l : List Places). l ++ k.at ∷ over world_before k.next k.after k.later new k.went)
      (sym (over_append world_before old i.at k.at i.before i.told k.before k.told i.came k.came));
}

-- ## A ticket is given once

ranged : (start n : ℕ) (xs : List ℕ) (t : ℕ) (ys : List ℕ) → xs ++ t ∷ ys ≡ range_with_len start n → t ≡ start + length xs
ranged start zero [] t ys e = cc e
ranged start zero (x ∷ xs) t ys e = cc e
ranged start (suc n) [] t ys e =
    let same : t ≡ start = (same_cons t start ys (range_with_len (start + 1) n) e).head in
    omega (arith, same)
ranged start (suc n) (x ∷ xs) t ys e =
    let rest : t ≡ start + 1 + length xs = ranged (start + 1) n xs t ys (same_cons x start (xs ++ t ∷ ys) (range_with_len (start + 1) n) e).tail in
    omega (arith, rest)

counted_at : (xs ys : List Answer) (t : Ticket) → AreCounted (flat_map given_by (xs ++ answer.Submitted t ∷ ys)) → t.0 ≡ 1 + length (flat_map given_by xs)
counted_at xs ys t counted =
    ranged 1 (length (flat_map given_by (xs ++ answer.Submitted t ∷ ys))) (flat_map given_by xs) t.0 (flat_map given_by ys)
    (sym (flat_map-append given_by xs (answer.Submitted t ∷ ys)) ∙ counted)

-- a list that was taken apart where equally many tickets were given is taken apart at one place
same_place : (xs ys us vs : List Answer) (t u : Ticket) → xs ++ answer.Submitted t ∷ ys ≡ us ++ answer.Submitted u ∷ vs
    → length (flat_map given_by xs) ≡ length (flat_map given_by us) → length xs ≡ length us
same_place [] ys [] vs t u e n = refl
same_place [] ys (w ∷ us) vs t u e n =
    let head : answer.Submitted t ≡ w = (same_cons (answer.Submitted t) w ys (us ++ answer.Submitted u ∷ vs) e).head in
    let one : 0 ≡ suc (length (flat_map given_by us)) = n ∙ ap (λ (b : Answer). length (given_by b ++ flat_map given_by us)) (sym head) in
    absurd (omega (arith, one))
same_place (x ∷ xs) ys [] vs t u e n =
    let head : x ≡ answer.Submitted u = (same_cons x (answer.Submitted u) (xs ++ answer.Submitted t ∷ ys) vs e).head in
    let one : 0 ≡ suc (length (flat_map given_by xs)) = sym n ∙ ap (λ (b : Answer). length (given_by b ++ flat_map given_by xs)) head in
    absurd (omega (arith, one))
same_place (x ∷ xs) ys (w ∷ us) vs t u e n =
    ap suc (same_place xs ys us vs t u both.tail (omega (arith, fewer)))
  where
    both : AreSame x w (xs ++ answer.Submitted t ∷ ys) (us ++ answer.Submitted u ∷ vs)
    both = same_cons x w (xs ++ answer.Submitted t ∷ ys) (us ++ answer.Submitted u ∷ vs) e

    fewer : length (given_by x) + length (flat_map given_by xs) ≡ length (given_by x) + length (flat_map given_by us)
    fewer = sym (length-append (given_by x) (flat_map given_by xs)) ∙ n ∙ length-append (given_by w) (flat_map given_by us)
        ∙ ap (λ (b : Answer). length (given_by b) + length (flat_map given_by us)) (sym both.head)

given_once : (xs ys us vs : List Answer) (t u : Ticket) (all : List Answer) → all ≡ xs ++ answer.Submitted t ∷ ys → all ≡ us ++ answer.Submitted u ∷ vs
    → t.0 ≡ u.0 → AreCounted (flat_map given_by all) → length xs ≡ length us
given_once xs ys us vs t u all one other same counted =
    let first : t.0 ≡ 1 + length (flat_map given_by xs) = counted_at xs ys t (subst (λ (l : List Answer). AreCounted (flat_map given_by l)) one counted) in
    let second : u.0 ≡ 1 + length (flat_map given_by us) = counted_at us vs u (subst (λ (l : List Answer). AreCounted (flat_map given_by l)) other counted) in
    same_place xs ys us vs t u (sym one ∙ other) (omega (arith, first, second, same))

as_many : (old new : Places) (ss : List Step) (aa : List Answer) → Run old ss aa new → length ss ≡ length aa
as_many old new [] [] run = refl
as_many old new (s ∷ ss) (a ∷ aa) run = ap suc (as_many run.0 new ss aa run.2)
as_many old new [] (a ∷ aa) run = absurd run
as_many old new (s ∷ ss) [] run = absurd run

-- ## The law

-- what had happened when a request was submitted, by a run that is the first part of these
record IsSubmittedAt (config : Config) (units : List Attached) (n : ℕ) (S : List Step) (A : List Answer) (W : List Places) (count : ℕ)
    (past before : List Happening) : Type 0 where
  at : Places
  ss : List Step
  aa : List Answer
  came : Run (new_world config units) ss aa at
  first : IsFirst (new_world config units) at ss aa came S A W
  long : length ss ≡ count
  is : before ≡ past ++ over (happens n) (new_world config units) ss aa at came

module _ (config : Config) (units : List Attached) (fits : is_config config (length units) ≡ true) (n conn : ℕ) (now : Places) (T : List Step)
    (U : List Answer) (took : Run (new_world config units) T U now) (d : IsLeftSince n conn (new_world config units) now T U took) (S : List Step)
    (A : List Answer) (W : List Places) (whole : IsFirst (new_world config units) now T U took S A W) (dev : ℕ) (request : Request) (ticket : Ticket)
    (sub : IsStepOf (step.Submit dev request) (answer.Submitted ticket) (new_world config units) now T U took) where
  counted : AreCounted (flat_map given_by U)
  counted = (keeps_tickets (new_world config units) T U now took).given Switching config units fits [] [] refl

  -- it is one place in the answers, and so one place in the steps
  at_place : (t : Ticket) (front back : List Answer) → U ≡ front ++ answer.Submitted t ∷ back → t.0 ≡ ticket.0 → length front ≡ length sub.before
  at_place t front back is same =
      given_once front back sub.told sub.later t ticket U is sub.answers_are same counted
      ∙ sym (as_many (new_world config units) sub.at sub.before sub.told sub.came)

  submitted_at : (past : List Happening) (e : Entry) (before : List Happening) → e.head.ticket ≡ ticket.0
      → WasSubmitted config units n now (disk_run config units n conn now T U took d) past e before
      → IsSubmittedAt config units n S A W (length sub.before) past before
  submitted_at past e before named (Before t asked i is) = record {
    at = i.at;
    ss = i.before;
    aa = i.told;
    came = i.came;
    first = through (new_world config units) i.at now i.before T i.told U i.came took S A W
        (through (new_world config units) i.at d.came.at i.before d.came.before i.told d.came.told i.came d.came.came T U
        (over world_before (new_world config units) T U now took)
        (of_step (step.Submit n asked) (answer.Submitted t) (new_world config units) d.came.at d.came.before d.came.told d.came.came i)
        (of_step (step.Came n) (answer.Came n conn) (new_world config units) now T U took d.came)) whole;
    long = as_many (new_world config units) i.at i.before i.told i.came
        ∙ at_place t i.told (i.later ++ answer.Came n conn ∷ d.came.later)
        (d.came.answers_are ∙ ap (λ (l : List Answer). l ++ answer.Came n conn ∷ d.came.later) i.answers_are
        ∙ append_assoc i.told (answer.Submitted t ∷ i.later) (answer.Came n conn ∷ d.came.later))
        (ap (λ (x : Entry). x.head.ticket) is ∙ named);
    is = refl;
  }
  submitted_at past e before named (Since t asked i is) = record {
    at = i.at;
    ss = d.came.before ++ i.before;
    aa = d.came.told ++ i.told;
    came = run_append (new_world config units) d.came.at i.at d.came.before d.came.told i.before i.told d.came.came i.came;
    first = through (new_world config units) i.at now (d.came.before ++ i.before) T (d.came.told ++ i.told) U
        (run_append (new_world config units) d.came.at i.at d.came.before d.came.told i.before i.told d.came.came i.came) took S A W
        (joined_first (step.Came n) (step.Submit n asked) (answer.Came n conn) (answer.Submitted t) (new_world config units) now T U took d.came i) whole;
    long = as_many (new_world config units) i.at (d.came.before ++ i.before) (d.came.told ++ i.told)
        (run_append (new_world config units) d.came.at i.at d.came.before d.came.told i.before i.told d.came.came i.came)
        ∙ at_place t (d.came.told ++ i.told) i.later
        (d.came.answers_are ∙ ap (λ (l : List Answer). d.came.told ++ l) i.answers_are
        ∙ sym (append_assoc d.came.told i.told (answer.Submitted t ∷ i.later)))
        (ap (λ (x : Entry). x.head.ticket) is ∙ named);
    is = append_assoc past (over (happens n) (new_world config units) d.came.before d.came.told d.came.at d.came.came)
        (over (happens n) d.came.at i.before i.told i.at i.came)
        ∙ ap (λ (xs : List Happening). past ++ xs)
        (sym (over_append (happens n) (new_world config units) d.came.at i.at d.came.before d.came.told i.before i.told d.came.came i.came));
  }

-- ## Which part is the first

-- the history of a disk is told over the steps of its run
told_over : (config : Config) (units : List Attached) (n conn : ℕ) (now : Places) (T : List Step) (U : List Answer)
    (took : Run (new_world config units) T U now) (c : IsLeftSince n conn (new_world config units) now T U took) (past : List Happening)
    → past ++ over (happens n) (new_world config units) (c.came.before ++ step.Came n ∷ c.came.after) (c.came.told ++ answer.Came n conn ∷ c.came.later) now
    (parted (step.Came n) (answer.Came n conn) (new_world config units) now T U took c.came)
    ≡ disk_history config units n now (disk_run config units n conn now T U took c) past
told_over config units n conn now T U took c past =
    ap (λ (xs : List Happening). past ++ xs)
    (over_append (happens n) (new_world config units) c.came.at now c.came.before c.came.told (step.Came n ∷ c.came.after) (answer.Came n conn ∷ c.came.later)
    c.came.came (c.came.next, c.came.rule, c.came.went))
    ∙ sym (append_assoc past (over (happens n) (new_world config units) c.came.before c.came.told c.came.at c.came.came)
    (over (happens n) c.came.at (step.Came n ∷ c.came.after) (answer.Came n conn ∷ c.came.later) now (c.came.next, c.came.rule, c.came.went)))

-- what is told over a run of fewer steps is a part of what had happened
is_part : (config : Config) (units : List Attached) (n m count : ℕ) (now : Places) (ss : List Step) (aa : List Answer)
    (r : Run (new_world config units) ss aa now) (S : List Step) (A : List Answer) (W : List Places) (past before whole : List Happening)
    → IsFirst (new_world config units) now ss aa r S A W → IsSubmittedAt config units m S A W count past before → length ss ≤ count → m ≡ n
    → past ++ over (happens n) (new_world config units) ss aa now r ≡ whole → IsPart whole before
is_part config units n m count now ss aa r S A W past before whole f at short same is =
    let rest : IsStart (over (happens n) (new_world config units) ss aa now r) (over (happens n) (new_world config units) at.ss at.aa at.at at.came) =
    starts (happens n) (new_world config units) now ss aa r (new_world config units) at.at at.ss at.aa at.came S A W f at.first
    (subst (λ (k : ℕ). length ss ≤ k) (sym at.long) short) in
    record {
      later = rest.later;
      is = at.is ∙ ap (λ (k : ℕ). past ++ over (happens k) (new_world config units) at.ss at.aa at.at at.came) same
          ∙ ap (λ (l : List Happening). past ++ l) rest.is
          ∙ sym (append_assoc past (over (happens n) (new_world config units) ss aa now r) rest.later)
          ∙ ap (λ (l : List Happening). l ++ rest.later) is;
    }

-- a part is no longer than the whole
no_longer : {A : Type 0} (front back all : List A) → all ≡ front ++ back → length front ≤ length all
no_longer front back all is =
    let long : length all ≡ length front + length back = ap length is ∙ length-append front back in
    omega (arith, long)

-- ## A write that was polled before another request was submitted

module _ (config : Config) (units : List Attached) (fits : is_config config (length units) ≡ true) (steps : List Step) (answers : List Answer) (now : Places)
    (run : Run (new_world config units) steps answers now) (written read : Completion)
    (poll : IsStepOf step.Poll (answer.Polled written) (new_world config units) now steps answers run)
    (first : IsPolledHonestly config units poll.at poll.before poll.told poll.came written)
    (second : IsPolledHonestly config units now steps answers run read) (later : length poll.before < length second.reported.submitted.before)
    (same : second.reported.dev ≡ first.reported.dev)
    (c : IsLeftSince first.reported.dev first.reported.conn (new_world config units) first.reported.took.at first.reported.took.before
    first.reported.took.told first.reported.took.came)
    (d : IsLeftSince second.reported.dev second.reported.conn (new_world config units) second.reported.took.at second.reported.took.before
    second.reported.took.told second.reported.took.came) (past : List Happening) where
  submitted : (happened : List Happening)
      → WasSubmitted config units second.reported.dev second.reported.took.at
      (disk_run config units second.reported.dev second.reported.conn second.reported.took.at second.reported.took.before second.reported.took.told
      second.reported.took.came d) past (new_entry read.ticket.0 second.reported.dev second.reported.request) happened
      → IsSubmittedAt config units second.reported.dev steps answers (over world_before (new_world config units) steps answers now run)
      (length second.reported.submitted.before) past happened
  submitted happened was =
      submitted_at config units fits second.reported.dev second.reported.conn second.reported.took.at second.reported.took.before
      second.reported.took.told second.reported.took.came d steps answers (over world_before (new_world config units) steps answers now run)
      (of_step step.HostTake (answer.Took second.reported.dev second.reported.conn second.reported.number second.reported.bytes second.reported.report)
      (new_world config units) now steps answers run second.reported.took) second.reported.dev second.reported.request
      read.ticket second.reported.submitted past (new_entry read.ticket.0 second.reported.dev second.reported.request) happened refl was

  -- the report of the write in the run up to its poll, and so in the whole
  written_first : IsFirst (new_world config units) first.reported.took.at (c.came.before ++ step.Came first.reported.dev ∷ c.came.after)
      (c.came.told ++ answer.Came first.reported.dev first.reported.conn ∷ c.came.later)
      (parted (step.Came first.reported.dev) (answer.Came first.reported.dev first.reported.conn) (new_world config units) first.reported.took.at
      first.reported.took.before first.reported.took.told first.reported.took.came c.came) steps answers
      (over world_before (new_world config units) steps answers now run)
  written_first =
      parted_first (step.Came first.reported.dev) (answer.Came first.reported.dev first.reported.conn) (new_world config units) first.reported.took.at
      first.reported.took.before first.reported.took.told first.reported.took.came c.came steps answers
      (over world_before (new_world config units) steps answers now run)
      (through (new_world config units) first.reported.took.at poll.at first.reported.took.before poll.before first.reported.took.told poll.told
      first.reported.took.came poll.came steps answers (over world_before (new_world config units) steps answers now run)
      (of_step step.HostTake (answer.Took first.reported.dev first.reported.conn first.reported.number first.reported.bytes first.reported.report)
      (new_world config units) poll.at poll.before poll.told poll.came first.reported.took)
      (of_step step.Poll (answer.Polled written) (new_world config units) now steps answers run poll))

  fewer : length (c.came.before ++ step.Came first.reported.dev ∷ c.came.after) ≤ length second.reported.submitted.before
  fewer =
      let to_report : length first.reported.took.before ≤ length poll.before =
      no_longer first.reported.took.before (step.HostTake ∷ first.reported.took.after) poll.before first.reported.took.steps_are in
      let here : length first.reported.took.before ≡ length (c.came.before ++ step.Came first.reported.dev ∷ c.came.after) =
      ap length c.came.steps_are in
      omega (arith, to_report, here, later)

  -- what had happened to the disk at the report of the write is a part of what had happened at that submit
  pub history_part : (happened : List Happening)
      → WasSubmitted config units second.reported.dev second.reported.took.at
      (disk_run config units second.reported.dev second.reported.conn second.reported.took.at second.reported.took.before second.reported.took.told
      second.reported.took.came d) past (new_entry read.ticket.0 second.reported.dev second.reported.request) happened
      → IsPart
      (disk_history config units first.reported.dev first.reported.took.at
      (disk_run config units first.reported.dev first.reported.conn first.reported.took.at first.reported.took.before first.reported.took.told
      first.reported.took.came c) past) happened
  history_part happened was =
      is_part config units first.reported.dev second.reported.dev (length second.reported.submitted.before) first.reported.took.at
      (c.came.before ++ step.Came first.reported.dev ∷ c.came.after)
      (c.came.told ++ answer.Came first.reported.dev first.reported.conn ∷ c.came.later)
      (parted (step.Came first.reported.dev) (answer.Came first.reported.dev first.reported.conn) (new_world config units) first.reported.took.at
      first.reported.took.before first.reported.took.told first.reported.took.came c.came) steps answers
      (over world_before (new_world config units) steps answers now run) past happened
      (disk_history config units first.reported.dev first.reported.took.at
      (disk_run config units first.reported.dev first.reported.conn first.reported.took.at first.reported.took.before first.reported.took.told
      first.reported.took.came c) past) written_first (submitted happened was) fewer same
      (told_over config units first.reported.dev first.reported.conn first.reported.took.at first.reported.took.before first.reported.took.told
      first.reported.took.came c past)

pub reads_follow_writes : ReadsFollowWrites
reads_follow_writes config units fits steps answers now run written read poll first second writes reads queued queued_too later same sectors plan past disk
    disk_too c d i j one none =
    brings second.reported.dev same second.reported.took.at
    (disk_run config units second.reported.dev second.reported.conn second.reported.took.at second.reported.took.before second.reported.took.told
    second.reported.took.came d) read.slot (new_entry read.ticket.0 second.reported.dev second.reported.request) now.host.memory reads
    (second.honest sectors plan past disk_too queued_too
    (disk_run config units second.reported.dev second.reported.conn second.reported.took.at second.reported.took.before second.reported.took.told
    second.reported.took.came d) refl)
    (history_part config units fits steps answers now run written read poll first second later same c d past r.before r.submitted) one none
  where
    r : EndedSince config units second.reported.dev second.reported.took.at
        (disk_run config units second.reported.dev second.reported.conn second.reported.took.at second.reported.took.before second.reported.took.told
        second.reported.took.came d) past sectors read.slot (new_entry read.ticket.0 second.reported.dev second.reported.request) now.host.memory
    r = second.honest sectors plan past disk_too queued_too
        (disk_run config units second.reported.dev second.reported.conn second.reported.took.at second.reported.took.before second.reported.took.told
        second.reported.took.came d) refl

    -- the law of histories, at the port by another name
    brings : (n : ℕ) → n ≡ first.reported.dev → (at : Places) (f : DiskRun config units n at) (slot : ℕ) (e : Entry) (memory : Memory)
        (is_read : e.head.work ≡ Read) (ended : EndedSince config units n at f past sectors slot e memory)
        → IsPart
        (disk_history config units first.reported.dev first.reported.took.at
        (disk_run config units first.reported.dev first.reported.conn first.reported.took.at first.reported.took.before first.reported.took.told
        first.reported.took.came c) past) ended.before
        → IsOneByte e (new_entry written.ticket.0 first.reported.dev first.reported.request) i j
        → NoneCovers (512 * e.head.lba + i)
        (drop (suc ((first.honest sectors plan past disk queued
        (disk_run config units first.reported.dev first.reported.conn first.reported.took.at first.reported.took.before first.reported.took.told
        first.reported.took.came c) refl).ends.writes writes).at) (ended.ends.reads is_read).read.before)
        → StandsThere (slice_index memory.client (place e.prds i - client_start)) first.reported.request.prds.items
        first.reported.submitted.at.host.memory j
    brings n is =
        subst (λ (k : ℕ). (at : Places) (f : DiskRun config units k at) (slot : ℕ) (e : Entry) (memory : Memory)
        (is_read : e.head.work ≡ Read) (ended : EndedSince config units k at f past sectors slot e memory)
        → IsPart
        (disk_history config units first.reported.dev first.reported.took.at
        (disk_run config units first.reported.dev first.reported.conn first.reported.took.at first.reported.took.before first.reported.took.told
        first.reported.took.came c) past) ended.before
        → IsOneByte e (new_entry written.ticket.0 first.reported.dev first.reported.request) i j
        → NoneCovers (512 * e.head.lba + i)
        (drop (suc ((first.honest sectors plan past disk queued
        (disk_run config units first.reported.dev first.reported.conn first.reported.took.at first.reported.took.before first.reported.took.told
        first.reported.took.came c) refl).ends.writes writes).at) (ended.ends.reads is_read).read.before)
        → StandsThere (slice_index memory.client (place e.prds i - client_start)) first.reported.request.prds.items
        first.reported.submitted.at.host.memory j) (sym is)
        (λ at f slot e memory is_read ended within both none_of.
        reads_bring_submitted config units fits poll.before poll.told poll.at poll.came written first writes sectors plan past disk queued
        (disk_run config units first.reported.dev first.reported.conn first.reported.took.at first.reported.took.before first.reported.took.told
        first.reported.took.came c) refl at f slot e memory is_read ended within i j both none_of)
