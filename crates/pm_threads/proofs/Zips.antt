-- Two lists, place by place.
use Rattle.std.proofs.Common.{◌≡◌, ◌∙◌, ◌+◌, ℕ, zero, suc, arith, List, [], ◌∷◌, ◌++◌, length, length-append, refl, ap, sym, subst}
use Rattle.std.proofs.lemmas.List.{get_or_append_left, map-append}
use Rattle.std.specs.{Prelude.{All, map}, List.{AllZip, range_with_len}}
use Rattle.disk_thread.specs.declared.worker.DiskEnd.{DiskEnd}
use Rattle.pm_threads.specs.Seats.{first_ports}

module _ {A B : Type 0} (R : A → B → Type 0) where
  -- one more pair, at the end
  pub zip_push : (xs : List A) (ys : List B) (x : A) (y : B) → AllZip R xs ys → R x y → AllZip R (xs ++ x ∷ []) (ys ++ y ∷ [])
  zip_push [] [] x y h r = (r, tt)
  zip_push [] (y' ∷ ys) x y h r = absurd h
  zip_push (x' ∷ xs) [] x y h r = absurd h
  zip_push (x' ∷ xs) (y' ∷ ys) x y h r = (h.0, zip_push xs ys x y h.1 r)

  no_right : (ys : List B) (y : B) → AllZip R [] (ys ++ y ∷ []) → ⊥
  no_right [] y h = h
  no_right (y' ∷ ys) y h = h

  no_left : (xs : List A) (x : A) → AllZip R (xs ++ x ∷ []) [] → ⊥
  no_left [] x h = h
  no_left (x' ∷ xs) x h = h

  -- the last pair, and those before it
  pub zip_pop : (xs : List A) (ys : List B) (x : A) (y : B) → AllZip R (xs ++ x ∷ []) (ys ++ y ∷ []) → AllZip R xs ys × R x y
  zip_pop [] [] x y h = (tt, h.0)
  zip_pop [] (y' ∷ ys) x y h = absurd (no_right ys y h.1)
  zip_pop (x' ∷ xs) [] x y h = absurd (no_left xs x h.1)
  zip_pop (x' ∷ xs) (y' ∷ ys) x y h = let r = zip_pop xs ys x y h.1 in ((h.0, r.0), r.1)

  -- both are as long
  pub zip_long : (xs : List A) (ys : List B) → AllZip R xs ys → length ys ≡ length xs
  zip_long [] [] h = refl
  zip_long [] (y ∷ ys) h = absurd h
  zip_long (x ∷ xs) [] h = absurd h
  zip_long (x ∷ xs) (y ∷ ys) h = ap suc (zip_long xs ys h.1)

-- an empty list has no pairs
module _ {A B : Type 0} (R S : A → B → Type 0) where
  pub none_left : (xs : List A) (ys : List B) → xs ≡ [] → AllZip R xs ys → AllZip S xs ys
  none_left [] [] e h = tt
  none_left [] (y ∷ ys) e h = absurd h
  none_left (x ∷ xs) ys e h = absurd cc

-- pairs with a part of each element
module _ {A B E : Type 0} (f : E → A) (R : A → B → Type 0) where
  pub map_push : (es : List E) (ys : List B) (e : E) (y : B) → AllZip R (map f es) ys → R (f e) y → AllZip R (map f (es ++ e ∷ [])) (ys ++ y ∷ [])
  map_push es ys e y h r = subst (λ l. AllZip R l (ys ++ y ∷ [])) (sym (map-append f es (e ∷ []))) (zip_push R (map f es) ys (f e) y h r)

  pub map_pop : (es : List E) (ys : List B) (e : E) (y : B) → AllZip R (map f (es ++ e ∷ [])) (ys ++ y ∷ []) → AllZip R (map f es) ys × R (f e) y
  map_pop es ys e y h = zip_pop R (map f es) ys (f e) y (subst (λ l. AllZip R l (ys ++ y ∷ [])) (map-append f es (e ∷ [])) h)

  -- if there are none on the right, there is no last one on the left
  pub map_last : (es : List E) (ys : List B) (e : E) → ys ≡ [] → AllZip R (map f (es ++ e ∷ [])) ys → ⊥
  map_last es [] e is h = no_left R (map f es) (f e) (subst (λ l. AllZip R l []) (map-append f es (e ∷ [])) h)
  map_last es (y ∷ ys) e is h = absurd cc

-- the ports from 0 on, with one more
ports_from : (a n : ℕ) → range_with_len a (suc n) ≡ range_with_len a n ++ (a + n) ∷ []
ports_from a zero = ap (λ k. k ∷ []) (let e : a ≡ a + 0 = omega arith in e)
ports_from a (suc n) =
    let e : (a + 1) + n ≡ a + suc n = omega arith in
    let rest : range_with_len (a + 1) (suc n) ≡ range_with_len (a + 1) n ++ (a + suc n) ∷ [] =
    ports_from (a + 1) n ∙ ap (λ k. range_with_len (a + 1) n ++ k ∷ []) e in
    ap (λ l. a ∷ l) rest

pub ports_push : {A : Type 0} (port : A → ℕ) (ws : List A) (w : A) (n : ℕ) → map port ws ≡ first_ports n → port w ≡ n
    → map port (ws ++ w ∷ []) ≡ first_ports (n + 1)
ports_push port ws w n h is =
    let zero_first : n ≡ 0 + n = omega arith in
    let next : suc n ≡ n + 1 = omega arith in
    map-append port ws (w ∷ []) ∙ ap (λ l. l ++ port w ∷ []) h ∙ ap (λ k. first_ports n ++ k ∷ []) (is ∙ zero_first)
    ∙ sym (ports_from 0 n) ∙ ap first_ports next

-- what is true of all is true of those in front
pub all_front : {A : Type 0} (P : A → Type 0) (xs ys : List A) → All P (xs ++ ys) → All P xs
all_front P xs ys h k d lt = subst P (get_or_append_left xs ys d k lt) (h k d (omega (arith, lt, length-append xs ys)))

-- the devices of these ends, and one more
pub units_more : {D : Type 0} (units : List D) (ends : List (DiskEnd D)) (end : DiskEnd D) (unit : D)
    → units ≡ map (λ s. s.unit) (map (λ e. e.station) ends) → unit ≡ end.station.unit
    → units ++ unit ∷ [] ≡ map (λ s. s.unit) (map (λ e. e.station) (ends ++ end ∷ []))
units_more units ends end unit are is =
    ap (λ l. l ++ unit ∷ []) are ∙ ap (λ u. map (λ s. s.unit) (map (λ e. e.station) ends) ++ u ∷ []) is
    ∙ sym (map-append (λ s. s.unit) (map (λ e. e.station) ends) (end.station ∷ []))
    ∙ sym (ap (map (λ s. s.unit)) (map-append (λ e. e.station) ends (end ∷ [])))
