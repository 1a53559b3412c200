-- For the field `links` of `laws`. What leaves a place of a port goes on, except what a removal drops there.
use Rattle.std.proofs.Common.{◌≡◌, ◌≢◌, ℕ, ◌<◌, ◌≤◌, Bool, true, false, not, List, [], ◌∷◌, ◌++◌, append_assoc, Option, Some, None, refl, sym, ap, ◌∙◌, subst, map, length, get_or, arith, length-append}
use Rattle.std.specs.Prelude.{is_none, option_to_list, if◌then◌else◌}
use Rattle.std.proofs.lemmas.{List.{append-nil, length-map, map-append}, List.Elements.{All-append, All-cons, All-nil}}
use Rattle.fis_view.specs.Frames.{Stamped}
use Rattle.ruled_links.specs.Links.{IsLink}
use Rattle.pm_ports.specs.Port.{PortState, came_refusal as port_came_refusal, gone_refusal as port_gone_refusal, is_gone, left_in, only_if}
use Rattle.pm_ports.specs.Port.{with_connection, with_removal}
use Rattle.multiplier.specs.{Rules.{with_device as connected, without_device}, State.{PmState, port_at}}
use Rattle.multiplier.proofs.Door.{kept_part, other_port, this_port}
use Rattle.pm_world.specs.{Links.{GoesOnBut, without}, Rules.recorded, declared.link.Change.Change}
use Rattle.pm_world.specs.declared.link.Change.TheVariants as change

-- ---- one link

module _ {T : Type 0} where
  -- nothing goes over it
  pub still : (capacity : ℕ) (items : List T) → length items ≤ capacity → IsLink capacity (items ++ []) [] items
  still capacity items fits = record { whole = sym (append-nil items); bounded = fits }

  -- some items go over it, and then more
  pub chained : (capacity : ℕ) (was entered left mid more gone now : List T) → IsLink capacity (was ++ entered) left mid → IsLink capacity (mid ++ more) gone now
      → IsLink capacity (was ++ (entered ++ more)) (left ++ gone) now
  chained capacity was entered left mid more gone now a b = record {
    whole =
        append_assoc left gone now ∙ ap (λ (l : List T). left ++ l) b.whole ∙ sym (append_assoc left mid more)
        ∙ ap (λ (l : List T). l ++ more) a.whole ∙ append_assoc was entered more;
    bounded = b.bounded;
  }

pub option_fits : (o : Option Stamped) → length (option_to_list o) ≤ 1
option_fits None = omega arith
option_fits (Some f) = omega arith

-- ---- without what was dropped

-- for some frames, and then for more
pub without-append : (drops more : List Bool) (frames later : List Stamped) → length drops ≡ length frames → without (drops ++ more) (frames ++ later) ≡ without drops frames ++ without more later
without-append [] more [] later e = refl
without-append [] more (f ∷ frames) later e = absurd cc
without-append (d ∷ drops) more [] later e = absurd cc
without-append (true ∷ drops) more (f ∷ frames) later e = without-append drops more frames later (omega (arith, e))
without-append (false ∷ drops) more (f ∷ frames) later e = ap (λ (fs : List Stamped). f ∷ fs) (without-append drops more frames later (omega (arith, e)))

-- ---- what goes on

-- a frame is of a connection that is removed
abbrev IsRemoved : PmState → ℕ → Stamped → Type 0
IsRemoved pm n f = is_gone (port_at pm n) f.stamp.conn ≡ true

-- nothing left
pub nothing_left : (pm : PmState) (n : ℕ) → GoesOnBut pm n [] [] []
nothing_left pm n = record { drops = []; each = refl; on_is = refl; lost_is = refl; removed = All-nil (IsRemoved pm n) }

-- a frame went on
pub one_goes_on : (pm : PmState) (n : ℕ) (frame : Stamped) → GoesOnBut pm n (frame ∷ []) (frame ∷ []) []
one_goes_on pm n frame = record { drops = false ∷ []; each = refl; on_is = refl; lost_is = refl; removed = All-nil (IsRemoved pm n) }

-- a frame was lost
pub one_lost : (pm : PmState) (n : ℕ) (frame : Stamped) → is_gone (port_at pm n) frame.stamp.conn ≡ true → GoesOnBut pm n (frame ∷ []) [] (frame ∷ [])
one_lost pm n frame so = record {
  drops = true ∷ [];
  each = refl;
  on_is = refl;
  lost_is = refl;
  removed = All-cons (IsRemoved pm n) frame [] so (All-nil (IsRemoved pm n));
}

-- what is gone at port n is still gone
abbrev pub StillGone : ℕ → PmState → PmState → Type 0
StillGone n old new = (c : ℕ) → is_gone (port_at old n) c ≡ true → is_gone (port_at new n) c ≡ true

-- some frames left, and then more
pub goes_on-append : (mid now : PmState) (n : ℕ) (left on lost later after dropped : List Stamped) → GoesOnBut mid n left on lost → GoesOnBut now n later after dropped → StillGone n mid now
    → GoesOnBut now n (left ++ later) (on ++ after) (lost ++ dropped)
goes_on-append mid now n left on lost later after dropped p q stays = record {
  drops = p.drops ++ q.drops;
  each = rw (length-append p.drops q.drops, length-append left later, p.each, q.each) refl;
  on_is =
      ap (λ (l : List Stamped). l ++ after) p.on_is ∙ ap (λ (l : List Stamped). without p.drops left ++ l) q.on_is
      ∙ sym (without-append p.drops q.drops left later p.each);
  lost_is =
      ap (λ (l : List Stamped). l ++ dropped) p.lost_is ∙ ap (λ (l : List Stamped). without (map not p.drops) left ++ l) q.lost_is
      ∙ sym (without-append (map not p.drops) (map not q.drops) left later (length-map p.drops not ∙ p.each))
      ∙ ap (λ (l : List Bool). without l (left ++ later)) (sym (map-append not p.drops q.drops));
  removed = All-append (IsRemoved now n) lost dropped (λ i d lt. stays (get_or lost i d).stamp.conn (p.removed i d lt)) q.removed;
}

-- ---- what a removal leaves in a place

-- A place of port n is a link with room for one frame. Nothing enters it, and what leaves it is dropped.
pub record Emptied (pm : PmState) (n : ℕ) (was now : Option Stamped) : Type 0 where
  pub left : List Stamped
  pub hold : IsLink 1 (option_to_list was ++ []) left (option_to_list now)
  pub goes_on : GoesOnBut pm n left [] left

-- it keeps what it has
unmoved : (pm : PmState) (n : ℕ) (was now : Option Stamped) → now ≡ was → Emptied pm n was now
unmoved pm n was now same = record {
  left = [];
  hold = subst (λ (o : Option Stamped). IsLink 1 (option_to_list was ++ []) [] (option_to_list o)) (sym same) (still 1 (option_to_list was) (option_fits was));
  goes_on = nothing_left pm n;
}

-- a frame of a connection that is gone leaves it
removal_empties : (pm : PmState) (n : ℕ) (was now : Option Stamped) → now ≡ left_in (port_at pm n).gone was → Emptied pm n was now
removal_empties pm n None now same = unmoved pm n None now same
removal_empties pm n (Some f) now same = by_test (is_gone (port_at pm n) f.stamp.conn) refl same
  where
    by_test : (b : Bool) → is_gone (port_at pm n) f.stamp.conn ≡ b → now ≡ only_if (not b) f → Emptied pm n (Some f) now
    by_test true so none = record {
      left = f ∷ [];
      hold = subst (λ (o : Option Stamped). IsLink 1 (f ∷ []) (f ∷ []) (option_to_list o)) (sym none) (record { whole = refl; bounded = omega arith });
      goes_on = one_lost pm n f so;
    }
    by_test false so same = unmoved pm n (Some f) now same

-- what a change that port n records leaves of the places of the ports
pub record RecordedAt (old : PmState) (n : ℕ) (new : PmState) : Type 0 where
  pub up : Emptied new n (port_at old n).up (port_at new n).up
  pub down : Emptied new n (port_at old n).down (port_at new n).down
  pub others : (m : ℕ) → m ≢ n → port_at new m ≡ port_at old m

unrecorded : (pm : PmState) (n : ℕ) → RecordedAt pm n pm
unrecorded pm n = record {
  up = unmoved pm n (port_at pm n).up (port_at pm n).up refl;
  down = unmoved pm n (port_at pm n).down (port_at pm n).down refl;
  others = λ m other. refl;
}

-- a connection that came
came_at : (pm : PmState) (n conn : ℕ) → RecordedAt pm n (connected pm n conn)
came_at pm n conn = record {
  up = unmoved (connected pm n conn) n (port_at pm n).up (port_at (connected pm n conn) n).up (kept_part (λ (q : PortState). q.up) pm.ports n (with_connection (port_at pm n) conn) refl n);
  down = unmoved (connected pm n conn) n (port_at pm n).down (port_at (connected pm n conn) n).down (kept_part (λ (q : PortState). q.down) pm.ports n (with_connection (port_at pm n) conn) refl n);
  others = λ m other. other_port pm.ports n m (with_connection (port_at pm n) conn) other;
}

-- one that went
module _ (pm : PmState) (n conn : ℕ) (there : n < length pm.ports) where
  removed_now : port_at (without_device pm n conn) n ≡ with_removal (port_at pm n) conn
  removed_now = this_port pm.ports n (with_removal (port_at pm n) conn) there

  went_at : RecordedAt pm n (without_device pm n conn)
  went_at = record {
    up =
        removal_empties (without_device pm n conn) n (port_at pm n).up (port_at (without_device pm n conn) n).up
        (ap (λ (q : PortState). q.up) removed_now ∙ ap (λ (q : PortState). left_in q.gone (port_at pm n).up) (sym removed_now));
    down =
        removal_empties (without_device pm n conn) n (port_at pm n).down (port_at (without_device pm n conn) n).down
        (ap (λ (q : PortState). q.down) removed_now ∙ ap (λ (q : PortState). left_in q.gone (port_at pm n).down) (sym removed_now));
    others = λ m other. other_port pm.ports n m (with_removal (port_at pm n) conn) other;
  }

pub recorded_at : (pm : PmState) (n : ℕ) (c : Change) → n < length pm.ports → RecordedAt pm n (recorded pm n c)
recorded_at pm n (change.Came conn) there = by_test (is_none (port_came_refusal (port_at pm n) conn))
  where
    by_test : (b : Bool) → RecordedAt pm n (if b then connected pm n conn else pm)
    by_test true = came_at pm n conn
    by_test false = unrecorded pm n
recorded_at pm n (change.Gone conn) there = by_test (is_none (port_gone_refusal (port_at pm n) conn))
  where
    by_test : (b : Bool) → RecordedAt pm n (if b then without_device pm n conn else pm)
    by_test true = went_at pm n conn there
    by_test false = unrecorded pm n
