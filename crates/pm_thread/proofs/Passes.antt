-- What a sound worker tells of each port.
use Rattle.std.proofs.Common.{◌≡◌, ◌≢◌, ◌==◌, ◌<◌, ℕ, Bool, true, false, List, [], ◌∷◌, ◌++◌, length, map, Option, Ok, Err, refl, sym, ap, ◌∙◌, subst}
use Rattle.std.proofs.{Common.{inl, inr, append_assoc}, lemmas.{Bool.{cases_Bool, eq-eqb, eqb-true, ne_eqb}, List.{map-append}}}
use Rattle.std.proofs.lemmas.List.Elements.{filter-append}
use Rattle.std.specs.{Prelude.{if◌then◌else◌, ◌&&◌}, Option.option_to_list}
use Rattle.fis_view.specs.Frames.{Stamped}
use Rattle.ruled_links.specs.Lists.{IsPrefixOf}
use Rattle.pm_ports.specs.Port as port
use Rattle.pm_ports.specs.declared.port.Offered.TheVariants as offered
use Rattle.multiplier.specs.{Orders.{InDeviceOrder, InStampedOrder, of_connection}, State.{PmState, IsSound as IsSoundPm, opening, port_at, rising}}
use Rattle.multiplier.specs.Passing.{Call, FromHost, FromDevice, Came, Gone, NextUp, PutBackUp, NextDown, PutBackDown, Does, DoesAll, Past, Suits}
use Rattle.multiplier.specs.{Passing.{all_past, past_after, came_by, came_in, held_of, lost_up, of_conn}, Stamping.{taken_by, taken_of}}
use Rattle.multiplier.proofs.Door.{apart, never_up_to, one_step, opens_sound, pass_in_order, step_gone}
use Rattle.pm_thread.specs.{Runs.{PmView, IsSound, frames_at, none_past}, Passing.{Passes, risen}}
use Rattle.pm_thread.proofs.Calls.{none_held, stamped_run}

-- ---- a FIS of a connection that is gone is not held

no_other : (n c : ℕ) (frame : Stamped) → frame.stamp.conn ≢ c → of_conn n c (rising n frame ∷ []) ≡ []
no_other n c frame ne = ap (λ (b : Bool). if b then rising n frame ∷ [] else [])
    (neither (n == n) (frame.stamp.conn == c) (ne_eqb frame.stamp.conn c ne))
  where
    neither : (a b : Bool) → b ≡ false → (a && b) ≡ false
    neither true b e = e
    neither false b e = refl

none_by : (b : Bool) (xs : List Stamped) → (b ≡ true → xs ≡ []) → (if b then xs else []) ≡ []
none_by true xs none = none refl
none_by false xs none = refl

module _ (n c : ℕ) where
  none_came : (old : PmState) (call : Call) (new : PmState) → Does old call new → port.is_gone (port_at old n) c ≡ true → came_by n c call ≡ []
  none_came old (FromDevice m frame (Ok offered.Held)) new does gone = none_by (m == n) (of_conn n c (rising n frame ∷ [])) (λ here.
      let same : m ≡ n = eqb-true m n here in
      let not_so : port.is_gone (port_at old n) frame.stamp.conn ≡ false =
      subst (λ (k : ℕ). port.is_gone (port_at old k) frame.stamp.conn ≡ false) same does.1.0 in
      no_other n c frame (apart (port_at old n).gone frame.stamp.conn c not_so gone))
  none_came old (FromDevice m frame (Ok offered.Dropped)) new does gone = refl
  none_came old (FromDevice m frame (Err back)) new does gone = refl
  none_came old (FromHost frame result made) new does gone = refl
  none_came old (Came m conn result) new does gone = refl
  none_came old (Gone m conn result up down) new does gone = refl
  none_came old (NextUp result) new does gone = refl
  none_came old (PutBackUp frame) new does gone = refl
  none_came old (NextDown m result) new does gone = refl
  none_came old (PutBackDown m frame) new does gone = refl

  one_rises : (frame : Stamped) → of_conn n c (rising n frame ∷ []) ≡ risen n c (frame ∷ [])
  one_rises frame = ap (λ (b : Bool). if b && (frame.stamp.conn == c) then rising n frame ∷ [] else []) (eq-eqb n n refl)
      ∙ by_conn (frame.stamp.conn == c)
    where
      by_conn : (b : Bool) → (if b then rising n frame ∷ [] else []) ≡ map (rising n) (if b then frame ∷ [] else [])
      by_conn true = refl
      by_conn false = refl

  -- for a connection that is not gone, what comes in is what is taken
  all_came : (old : PmState) (call : Call) (new : PmState) → Does old call new → port.is_gone (port_at old n) c ≡ false
      → came_by n c call ≡ risen n c (taken_by n call)
  all_came old (FromDevice m frame (Ok offered.Held)) new does not_so = by_port (m == n)
    where
      by_port : (b : Bool) → (if b then of_conn n c (rising n frame ∷ []) else []) ≡ risen n c (if b then frame ∷ [] else [])
      by_port true = one_rises frame
      by_port false = refl
  all_came old (FromDevice m frame (Ok offered.Dropped)) new does not_so = sym (by_port (m == n) (λ here.
      let same : m ≡ n = eqb-true m n here in
      let gone : port.is_gone (port_at old n) frame.stamp.conn ≡ true =
      subst (λ (k : ℕ). port.is_gone (port_at old k) frame.stamp.conn ≡ true) same does.1.0 in
      λ is. apart (port_at old n).gone c frame.stamp.conn not_so gone (sym is)))
    where
      by_port : (b : Bool) → (b ≡ true → frame.stamp.conn ≢ c) → risen n c (if b then frame ∷ [] else []) ≡ []
      by_port true other = ap (λ (t : Bool). map (rising n) (if t then frame ∷ [] else [])) (ne_eqb frame.stamp.conn c (other refl))
      by_port false other = refl
  all_came old (FromDevice m frame (Err back)) new does not_so = refl
  all_came old (FromHost frame result made) new does not_so = refl
  all_came old (Came m conn result) new does not_so = refl
  all_came old (Gone m conn result up down) new does not_so = refl
  all_came old (NextUp result) new does not_so = refl
  all_came old (PutBackUp frame) new does not_so = refl
  all_came old (NextDown m result) new does not_so = refl
  all_came old (PutBackDown m frame) new does not_so = refl

  stays_gone : (past : Past) (old : PmState) (call : Call) (new : PmState) → IsSoundPm old → Suits past call → Does old call new → n < 15
      → port.is_gone (port_at old n) c ≡ true → port.is_gone (port_at new n) c ≡ true
  stays_gone past old call new sound suits does lt gone =
      let grows = step_gone past old call new (one_step past old call new sound suits does) n lt in
      elim (cases_Bool (port.is_gone (port_at new n) c)) [
        | inl is ↦ is
        | inr not_so ↦ absurd (let never : port.is_gone (port_at old n) c ≡ false =
            never_up_to (port_at old n).gone (port_at new n).gone c grows not_so in
            let wrong : true ≡ false = sym gone ∙ never in cc)
      ]

  none_comes : (past : Past) (old : PmState) (calls : List Call) (new : PmState) → IsSoundPm old → DoesAll past old calls new → n < 15
      → port.is_gone (port_at old n) c ≡ true → came_in n c calls ≡ []
  none_comes past old [] new sound does lt gone = refl
  none_comes past old (call ∷ calls) new sound does lt gone =
      ap (λ l. l ++ came_in n c calls) (none_came old call does.0 does.2 gone)
      ∙ none_comes (past_after past call) does.0 calls new (one_step past old call does.0 sound does.1 does.2).sound does.3 lt
      (stays_gone past old call does.0 sound does.1 does.2 lt gone)

  risen_more : (xs ys : List Stamped) → risen n c (xs ++ ys) ≡ risen n c xs ++ risen n c ys
  risen_more xs ys = ap (map (rising n)) (filter-append (λ (f : Stamped). f.stamp.conn == c) xs ys)
      ∙ map-append (rising n) (of_connection c xs) (of_connection c ys)

  -- what came in begins what was taken
  begins_taken : (past : Past) (old : PmState) (calls : List Call) (new : PmState) → IsSoundPm old → DoesAll past old calls new → n < 15
      → IsPrefixOf (came_in n c calls) (risen n c (taken_of n calls))
  begins_taken past old [] new sound does lt = ([], refl)
  begins_taken past old (call ∷ calls) new sound does lt =
      elim (cases_Bool (port.is_gone (port_at old n) c)) [
        | inl gone ↦ (
          risen n c (taken_of n (call ∷ calls)),
          ap (λ l. l ++ risen n c (taken_of n (call ∷ calls)))
              (none_comes past old (call ∷ calls) new sound does lt gone),
        )
        | inr not_so ↦
            let rest = begins_taken (past_after past call) does.0 calls new (one_step past old call does.0 sound does.1 does.2).sound does.3 lt in (
              rest.0,
              append_assoc (came_by n c call) (came_in n c calls) rest.0 ∙ ap (λ l. came_by n c call ++ l) rest.1
                  ∙ ap (λ l. l ++ risen n c (taken_of n calls)) (all_came old call does.0 does.2 not_so)
                  ∙ sym (risen_more (taken_by n call) (taken_of n calls)),
            )
      ]

  begins_begun : (a b : List Stamped) (rest whole : List Stamped) → a ++ rest ≡ b → IsPrefixOf b whole → IsPrefixOf a whole
  begins_begun a b rest whole e is = (rest ++ is.0, sym (append_assoc a rest is.0) ∙ ap (λ l. l ++ is.0) e ∙ is.1)

pub passes : (w : PmView) → IsSound w → Passes w
passes w was =
    let calls : List Call = was.run.calls in
    let k : ℕ = length w.ports in
    let sound : IsSoundPm (opening k) = opens_sound k was.few in
    let stamped = stamped_run k calls w.pm was.few was.run.does (λ n. subst InDeviceOrder (was.run.frames n) (was.order n)) in
    let passed = pass_in_order none_past (opening k) w.pm calls sound was.run.does in
    record {
      order = subst InStampedOrder (sym was.run.up) stamped.order;
      whole = λ n c lt not_so. ap (λ l. of_conn n c l ++ held_of n c w.pm) was.run.up ∙ stamped.whole n c lt not_so
          ∙ ap (risen n c) (sym (was.run.frames n));
      begun = λ n c lt.
          let up : List Stamped = (all_past none_past calls).up in
          let held : held_of n c (opening k) ≡ [] = ap (λ (o : Option Stamped). of_conn n c (map (rising n) (option_to_list o))) (none_held k n) in
          let all : (of_conn n c up ++ held_of n c w.pm) ++ lost_up n c calls ≡ came_in n c calls =
          passed.up n c lt ∙ ap (λ l. l ++ came_in n c calls) held in
          let begun : IsPrefixOf (of_conn n c up) (risen n c (taken_of n calls)) =
          begins_begun n c (of_conn n c up) (came_in n c calls) (held_of n c w.pm ++ lost_up n c calls) (risen n c (taken_of n calls))
          (sym (append_assoc (of_conn n c up) (held_of n c w.pm) (lost_up n c calls)) ∙ all)
          (begins_taken n c none_past (opening k) calls w.pm sound was.run.does lt) in
          subst (λ l. IsPrefixOf (of_conn n c l) (risen n c (frames_at w.ports n))) (sym was.run.up)
          (subst (λ l. IsPrefixOf (of_conn n c up) (risen n c l)) (sym (was.run.frames n)) begun);
    }
