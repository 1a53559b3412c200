-- What is known of the ends of a run.
use Rattle.std.proofs.Common.{◌≡◌, ℕ, zero, suc, ◌<◌, Bool, true, false, List, [], ◌∷◌, ◌++◌, append_assoc, refl, sym, ap, ◌∙◌, subst, None, Some}
use Rattle.std.proofs.{Common.{Option, drop, arith}, lemmas.List.{map-append, Elements.{All-cons, filter-append}}}
use Rattle.std.specs.{Prelude.{◌||◌, map, All, IfOk, OnOk, Result, Ok, Err}, List.{AllZip, list_any}}
use Rattle.fis_view.specs.Frames.{Stamped}
use Rattle.ruled_links.specs.{Links.IsLink, Lists.IsPrefixOf}
use Rattle.multiplier.specs.{Orders.of_connection, State.rising, Passing.of_conn}
use Rattle.disk_thread.specs.Runs.{StationState, IsAtSamePort}
use Rattle.pm_thread.specs.{Runs.{PortSeats, ends_of, IsUnused, frames_at}, Passing.risen}
use Rattle.host_thread.specs.Runs.{HostView}
use Rattle.pm_threads.specs.{Seats.{TiedTo, Starts, Handed}, Ends.{sent_at, EachArrives}, Halts.{is_short, is_shut}}
use Rattle.runner.specs.declared.worker.Fault.{Fault}
use Rattle.runner.specs.declared.worker.Fault.TheVariants as fault

-- ---- beginnings

prefix_then : {T : Type 0} (xs ys zs : List T) → IsPrefixOf xs ys → IsPrefixOf ys zs → IsPrefixOf xs zs
prefix_then xs ys zs a b = (a.0 ++ b.0, sym (append_assoc xs a.0 b.0) ∙ ap (λ l. l ++ b.0) a.1 ∙ b.1)

of_conn_prefix : (n c : ℕ) (xs ys : List Stamped) → IsPrefixOf xs ys → IsPrefixOf (of_conn n c xs) (of_conn n c ys)
of_conn_prefix n c xs ys h = (of_conn n c h.0, sym (filter-append _ xs h.0) ∙ ap (of_conn n c) h.1)

risen_prefix : (n c : ℕ) (xs ys : List Stamped) → IsPrefixOf xs ys → IsPrefixOf (risen n c xs) (risen n c ys)
risen_prefix n c xs ys h = (
  risen n c h.0,
  sym (map-append (rising n) (of_connection c xs) (of_connection c h.0)) ∙ ap (map (rising n)) (sym (filter-append _ xs h.0))
      ∙ ap (risen n c) h.1,
)

-- what was taken off a link is a beginning of what was sent over it
pub link_prefix : {T : Type 0} (room : ℕ) (sent taken content : List T) → IsLink room sent taken content → IsPrefixOf taken sent
link_prefix room sent taken content h = (content, h.whole)

-- ---- before the run, and after it

module _ {D : Type 0} where
  pub all_unused : (ws : List (StationState D)) (ps : List PortSeats) → AllZip Starts ws ps → All IsUnused ps
  all_unused [] [] h = λ k d less. absurd (omega (arith, less))
  all_unused [] (p ∷ ps) h = absurd h
  all_unused (w ∷ ws) [] h = absurd h
  all_unused (w ∷ ws) (p ∷ ps) h = by h.0.unused (all_unused ws ps h.1)
    where
      by : IsUnused p → All IsUnused ps → All IsUnused (p ∷ ps)
      by here rest zero d less = here
      by here rest (suc k) d less = rest k d (omega (arith, less))

  pub starts_tied : (ws : List (StationState D)) (ps : List PortSeats) → AllZip Starts ws ps → AllZip TiedTo ws ps
  starts_tied [] [] h = tt
  starts_tied [] (p ∷ ps) h = absurd h
  starts_tied (w ∷ ws) [] h = absurd h
  starts_tied (w ∷ ws) (p ∷ ps) h = (h.0.tied, starts_tied ws ps h.1)

  still_tied : (w d : StationState D) (p q : PortSeats) → TiedTo w p → IsAtSamePort w d → ends_of q ≡ ends_of p → TiedTo d q
  still_tied w d p q tied same ends = record {
    frames = same.frames.0 ∙ tied.frames ∙ sym (ap (λ x. x.frames.link) ends);
    commands = ap (λ x. x.commands.link) ends ∙ tied.commands ∙ sym same.commands.0;
    presence = same.presence.0 ∙ tied.presence ∙ sym (ap (λ x. x.presence.link) ends);
  }

-- the ends of workers, whatever they lie in
module _ {D E : Type 0} (station : E → StationState D) (R : StationState D → E → Type 0) where
  module _ (same : (w : StationState D) (e : E) → R w e → IsAtSamePort w (station e)) where
    pub all_at_ports : (ws : List (StationState D)) (es : List E) → AllZip R ws es → map (λ s. s.port) (map station es) ≡ map (λ w. w.port) ws
    all_at_ports [] [] r = refl
    all_at_ports [] (x ∷ es) r = absurd r
    all_at_ports (w ∷ ws) [] r = absurd r
    all_at_ports (w ∷ ws) (x ∷ es) r =
        let rest : List ℕ = map (λ s. s.port) (map station es) in
        ap (λ p. p ∷ rest) (same w x r.0).port ∙ ap (λ l. w.port ∷ l) (all_at_ports ws es r.1)

    pub all_tied : (ws : List (StationState D)) (ps qs : List PortSeats) (es : List E) → AllZip TiedTo ws ps → AllZip R ws es → map ends_of qs ≡ map ends_of ps
        → AllZip TiedTo (map station es) qs
    all_tied [] [] [] [] s r e = tt
    all_tied [] [] (q ∷ qs) es s r e = absurd cc
    all_tied [] [] [] (x ∷ es) s r e = absurd r
    all_tied [] (p ∷ ps) qs es s r e = absurd s
    all_tied (w ∷ ws) [] qs es s r e = absurd s
    all_tied (w ∷ ws) (p ∷ ps) [] es s r e = absurd cc
    all_tied (w ∷ ws) (p ∷ ps) (q ∷ qs) [] s r e = absurd r
    all_tied (w ∷ ws) (p ∷ ps) (q ∷ qs) (x ∷ es) s r e =
        let rest : map ends_of qs ≡ map ends_of ps = ap (drop 1) e in
        let here : ends_of q ≡ ends_of p = cc in
        (still_tied w (station x) p q s.0 (same w x r.0) here, all_tied ws ps qs es s.1 r.1 rest)

  module _ {F U : Type 0} (fault : E → Option F) (Ran : U → StationState D → Type 0) (goes_on : (u : U) (w : StationState D) (e : E) → R w e → fault e ≡ None → Ran u w → Ran u (station e)) where
    pub all_ran : (us : List U) (ws : List (StationState D)) (es : List E) → AllZip Ran us ws → AllZip R ws es → All (λ e. fault e ≡ None) es → AllZip Ran us (map station es)
    all_ran [] [] [] u r f = tt
    all_ran [] [] (x ∷ es) u r f = absurd r
    all_ran [] (w ∷ ws) es u r f = absurd u
    all_ran (x ∷ us) [] es u r f = absurd u
    all_ran (x ∷ us) (w ∷ ws) [] u r f = absurd r
    all_ran (x ∷ us) (w ∷ ws) (y ∷ es) u r f =
        (goes_on x w y r.0 (f 0 y (omega arith)) u.0, all_ran us ws es u.1 r.1 (λ k d less. f (suc k) d (omega (arith, less))))

    -- those that no fault ended
    pub all_ran_unless : (us : List U) (ws : List (StationState D)) (es : List E) → AllZip Ran us ws → AllZip R ws es
        → AllZip (λ u e. fault e ≡ None → Ran u (station e)) us es
    all_ran_unless [] [] [] u r = tt
    all_ran_unless [] [] (x ∷ es) u r = absurd r
    all_ran_unless [] (w ∷ ws) es u r = absurd u
    all_ran_unless (x ∷ us) [] es u r = absurd u
    all_ran_unless (x ∷ us) (w ∷ ws) [] u r = absurd r
    all_ran_unless (x ∷ us) (w ∷ ws) (y ∷ es) u r = ((λ quiet. goes_on x w y r.0 quiet u.0), all_ran_unless us ws es u.1 r.1)

-- ---- faults

pub first_false : (a b c : Bool) → (a || b || c) ≡ false → a ≡ false
first_false true b c h = absurd cc
first_false false b c h = refl

module _ {E : Type 0} (fault_of : E → Option Fault) where
  quiet : (f : Option Fault) (s t : Bool) → (is_short f || s) ≡ false → (is_shut f || t) ≡ false → (f ≡ None) × (s ≡ false) × (t ≡ false)
  quiet None s t a b = (refl, a, b)
  quiet (Some fault.OutOfMemory) s t a b = absurd cc
  quiet (Some fault.GateShut) s t a b = absurd cc

  -- no worker had a fault
  pub all_quiet : (es : List E) → list_any (λ e. is_short (fault_of e)) es ≡ false → list_any (λ e. is_shut (fault_of e)) es ≡ false → All (λ e. fault_of e ≡ None) es
  all_quiet [] a b = λ k d less. absurd (omega (arith, less))
  all_quiet (x ∷ es) a b =
      let q = quiet (fault_of x) (list_any (λ e. is_short (fault_of e)) es) (list_any (λ e. is_shut (fault_of e)) es) a b in
      All-cons (λ e. fault_of e ≡ None) x es q.0 (all_quiet es q.1 q.2)

  module _ {D : Type 0} (R : StationState D → E → Type 0) (MayRefuse : Type 0) (by : (w : StationState D) (e : E) → R w e → fault_of e ≡ Some fault.GateShut → MayRefuse) where
    first_refused : (w : StationState D) (x : E) (rest : Bool) (f : Option Fault) → R w x → fault_of x ≡ f → (is_shut f || rest) ≡ true → (rest ≡ true → MayRefuse) → MayRefuse
    first_refused w x rest None r e h later = later h
    first_refused w x rest (Some fault.OutOfMemory) r e h later = later h
    first_refused w x rest (Some fault.GateShut) r e h later = by w x r e

    -- if a worker ended by its gate, that gate may refuse
    pub one_refused : (ws : List (StationState D)) (es : List E) → AllZip R ws es → list_any (λ e. is_shut (fault_of e)) es ≡ true → MayRefuse
    one_refused [] [] r h = absurd cc
    one_refused [] (x ∷ es) r h = absurd r
    one_refused (w ∷ ws) [] r h = absurd r
    one_refused (w ∷ ws) (x ∷ es) r h =
        first_refused w x (list_any (λ e. is_shut (fault_of e)) es) (fault_of x) r.0 refl h (λ t. one_refused ws es r.1 t)

-- what follows from two clauses on a success
pub on_ok : {T E : Type 0} (r : Result T E) (P : Type 0) (Q S : T → Type 0) → IfOk r Q → OnOk r P → ((x : T) → Q x → P → S x) → IfOk r S
on_ok (Ok x) P Q S q p f = f x q p
on_ok (Err e) P Q S q p f = tt

pub if_ok : {T E : Type 0} (r : Result T E) (Q S : T → Type 0) → IfOk r Q → ((x : T) → Q x → S x) → IfOk r S
if_ok (Ok x) Q S q f = f x q
if_ok (Err e) Q S q f = tt

-- ---- all seats together

handed_at : {D : Type 0} (ss : List (StationState D)) (ps : List PortSeats) → AllZip Handed ss ps → (n : ℕ) → IsPrefixOf (frames_at ps n) (sent_at ss n)
handed_at [] [] h n = ([], refl)
handed_at [] (p ∷ ps) h n = absurd h
handed_at (s ∷ ss) [] h n = absurd h
handed_at (s ∷ ss) (p ∷ ps) h zero = h.0.frames
handed_at (s ∷ ss) (p ∷ ps) h (suc n) = handed_at ss ps h.1 n

pub all_arrive : {D : Type 0} (ss : List (StationState D)) (ps : List PortSeats) (sent taken : List Stamped) → AllZip Handed ss ps
    → ((n c : ℕ) → n < 15 → IsPrefixOf (of_conn n c sent) (risen n c (frames_at ps n))) → IsPrefixOf taken sent → EachArrives ss taken
all_arrive ss ps sent taken handed begun met n c low =
    prefix_then (of_conn n c taken) (of_conn n c sent) (risen n c (sent_at ss n))
    (of_conn_prefix n c taken sent met)
    (prefix_then (of_conn n c sent) (risen n c (frames_at ps n)) (risen n c (sent_at ss n)) (begun n c low)
    (risen_prefix n c (frames_at ps n) (sent_at ss n) (handed_at ss ps handed n)))

-- the same of equal ends
pub same_arrive : {D : Type 0} (ss ts : List (StationState D)) (host other : HostView) → ss ≡ ts → host ≡ other → EachArrives ss host.frames.taken
    → EachArrives ts other.frames.taken
same_arrive ss ts host other disks hosts arrive =
    subst (λ l. EachArrives l other.frames.taken) disks (subst (λ (h : HostView). EachArrives ss h.frames.taken) hosts arrive)
