-- For `later_connections_tell_of_all`. A disk that is plugged in again.
use Rattle.std.proofs.Common.{◌≡◌, ◌==◌, ◌&&◌, ℕ, zero, suc, ◌+◌, ◌*◌, Bool, true, false, List, [], ◌∷◌, ◌++◌, append_assoc, Option, Some, None, Ok}
use Rattle.std.proofs.{Common.{Result, drop, length, refl, ap, sym, subst, ◌∙◌, arith}, lemmas.List.{append-nil}}
use Rattle.std.specs.{Prelude.{find, if◌then◌else◌, map, slice_get}, Option.option_map}
use Rattle.fis_view.specs.{Table.{Bits, BufferId, Error, Offset, Setup, field}, Seen.seen, declared.view.{Fis.Fis, FisFault.FisFault}}
use Rattle.fis_view.specs.Table as table
use Rattle.fis_view.specs.declared.view.Fis.TheVariants as view
use Rattle.disk_model.specs.{declared.request.{Command.Command, Request.{Request, TheVariants.{Reset, Queue}}}, Histories.{Happening, Received, Sent}}
use Rattle.disk_model.specs.{Histories.{Plugged, Loaded}, Requests.request_of, Laws.{ActivatesRight, CarriesRight, SetsUpRight}, Ledger.Ledger}
use Rattle.disk_model.specs.Ledger.{Moving, ReadOut, Written, activates, answers, empty, ends, has_error, is_auto, ledger, ledger_after, listens}
use Rattle.disk_model.specs.{Ledger.{listens_down, listens_up, moves, sends_data, sets_up, starts_moving, takes_data, with_auto}, Ends.Fits}
use Rattle.disk_model.specs.{Ends.{FitsAll, FitsData, FitsRequest, IsCareful, IsLinked, IsRight, MovesOther, PageAsked, Rests}, Anew.IsLinkedOn}
use Rattle.disk_model.specs.{Later.{LaterIsLinked, LaterTellsOfAll, TellsOfAll}, Between.{alone, with_bytes}}
use Rattle.disk_model.specs.Ends as link
use Rattle.disk_model.specs.Anew as anew
use Rattle.disk_model.proofs.both_ends.{AnewLemmas.{after_more, begins_anew}, CrossLemmas.asks_fits, EndsLemmas.ledger_push}

-- ## Links

happened_more : (before xs : List Happening) (e : Happening) → before ++ (xs ++ e ∷ []) ≡ (before ++ xs) ++ e ∷ []
happened_more before xs e = sym (append_assoc before xs (e ∷ []))

module _ (before : List Happening) where
  abbrev On : List Happening → List Happening → List (List ℕ) → List (List ℕ) → Type 0
  On disk host down up = IsLinkedOn (before ++ Plugged ∷ []) disk host down [] up

  on : (disk host : List Happening) (down up : List (List ℕ)) → IsLinked disk host down up
      → IsLinkedOn (before ++ Plugged ∷ []) (before ++ disk) (before ++ host) down [] up
  on disk host down up link.begins = anew.begins [] (begins_anew.plugged before).clear
  on disk host down up (link.gives d h below above bytes linked) =
      subst (λ (x : List Happening). On (before ++ d) x (below ++ bytes ∷ []) above) (sym (happened_more before h (Received bytes)))
      (anew.gives (before ++ d) (before ++ h) below [] above bytes (on d h below above linked))
  on disk host down up (link.comes d h front back above bytes linked) =
      subst (λ (x : List Happening). On x (before ++ h) (front ++ back) above) (sym (happened_more before d (Received bytes)))
      (anew.comes (before ++ d) (before ++ h) front back [] above bytes (on d h (front ++ bytes ∷ back) above linked))
  on disk host down up (link.sends d h below above bytes fine linked) =
      subst (λ (x : List Happening). On x (before ++ h) below (above ++ bytes ∷ [])) (sym (happened_more before d (Sent bytes)))
      (anew.sends (before ++ d) (before ++ h) below [] above bytes fine (on d h below above linked))
  on disk host down up (link.takes d h below above bytes linked) =
      subst (λ (x : List Happening). On (before ++ d) x below above) (sym (happened_more before h (Sent bytes)))
      (anew.takes (before ++ d) (before ++ h) below above bytes (on d h below (bytes ∷ above) linked))

pub later_is_linked : LaterIsLinked
later_is_linked before disk host down up linked = on before disk host down up linked

-- what the host's end tells begins with the plugging
since_plugged : (disk host : List Happening) (down up : List (List ℕ)) → IsLinked disk host down up → (since : List Happening) × (host ≡ Plugged ∷ since)
since_plugged disk host down up link.begins = ([], refl)
since_plugged disk host down up (link.gives d h below above bytes linked) =
    let p = since_plugged d h below above linked in
    (p.0 ++ Received bytes ∷ [], ap (λ (xs : List Happening). xs ++ Received bytes ∷ []) p.1)
since_plugged disk host down up (link.comes d h front back above bytes linked) = since_plugged d h (front ++ bytes ∷ back) above linked
since_plugged disk host down up (link.sends d h below above bytes fine linked) = since_plugged d h below above linked
since_plugged disk host down up (link.takes d h below above bytes linked) =
    let p = since_plugged d h below (bytes ∷ above) linked in
    (p.0 ++ Sent bytes ∷ [], ap (λ (xs : List Happening). xs ++ Sent bytes ∷ []) p.1)

-- ## A ledger, with reads and writes that ended before

map_more : {X Y : Type 0} (f : X → Y) (xs : List X) (x : X) → map f (xs ++ x ∷ []) ≡ map f xs ++ f x ∷ []
map_more f [] x = refl
map_more f (y ∷ xs) x = ap (λ ys. f y ∷ ys) (map_more f xs x)

module _ (ws : List Written) (rs : List ReadOut) (resetting : Bool) where
  abbrev later_read : ReadOut → ReadOut
  later_read r = record r { before = ws ++ r.before }

  abbrev later_moving : Moving → Moving
  later_moving v = record v { before = ws ++ v.before }

  abbrev later : Ledger → Ledger
  later l = record l { resetting = resetting; moving = option_map later_moving l.moving; writes = ws ++ l.writes; reads = rs ++ map later_read l.reads }

  -- ---- what comes up

  later_ends : (l : Ledger) (v : Moving) (write : Bool) → ends (later l) (later_moving v) write ≡ later (ends l v write)
  later_ends l v true =
      let one : Written = record { tag = v.command.tag; at = 512 * v.command.lba; bytes = v.bytes } in
      ap (λ (xs : List Written). record (ends (later l) (later_moving v) true) { writes = xs }) (append_assoc ws l.writes (one ∷ []))
  later_ends l v false =
      let one : ReadOut = record { command = v.command; before = v.before; bytes = v.bytes } in
      ap (λ (xs : List ReadOut). record (ends (later l) (later_moving v) false) { reads = xs })
      (append_assoc rs (map later_read l.reads) (later_read one ∷ []) ∙ ap (λ (xs : List ReadOut). rs ++ xs) (sym (map_more later_read l.reads one)))

  later_goes : (l : Ledger) (v : Moving) (b write : Bool)
      → (if b then ends (later l) (later_moving v) write else record (later l) { moving = Some (later_moving v) })
      ≡ later (if b then ends l v write else record l { moving = Some v })
  later_goes l v true write = later_ends l v write
  later_goes l v false write = refl

  later_moves : (l : Ledger) (v : Moving) (bytes : List ℕ) → moves (later l) (later_moving v) bytes ≡ later (moves l v bytes)
  later_moves l v bytes =
      let w : Moving = with_bytes v bytes in
      later_goes l (with_bytes v bytes) (w.moved == 512 * w.command.count) w.command.write

  later_sends : (l : Ledger) (v : Option Moving) (bytes : List ℕ) → sends_data (later l) (option_map later_moving v) bytes ≡ later (sends_data l v bytes)
  later_sends l None bytes = refl
  later_sends l (Some v) bytes = later_moves l v bytes

  later_starts : (l : Ledger) (offset count : ℕ) (o : Option Command) → starts_moving (later l) offset count o ≡ later (starts_moving l offset count o)
  later_starts l offset count None = refl
  later_starts l offset count (Some c) = refl

  later_sets : (l : Ledger) (v : Option Moving) (tag offset count : ℕ)
      → sets_up (later l) (option_map later_moving v) tag offset count ≡ later (sets_up l v tag offset count)
  later_sets l None tag offset count = later_starts l offset count (find (λ c. c.tag == tag) l.outstanding)
  later_sets l (Some v) tag offset count = refl

  later_activates : (l : Ledger) (v : Option Moving) → activates (later l) (option_map later_moving v) ≡ later (activates l v)
  later_activates l None = refl
  later_activates l (Some v) = refl

  later_autos : (l : Ledger) (b : Bool) → with_auto b (later l) ≡ later (with_auto b l)
  later_autos l true = later_activates l l.moving
  later_autos l false = refl

  later_answers : (l : Ledger) (error : ℕ) (b : Bool) → answers (later l) error b ≡ later (answers l error b)
  later_answers l error true = refl
  later_answers l error false = refl

  later_up : (l : Ledger) (r : Result Fis FisFault) → listens_up (later l) r ≡ later (listens_up l r)
  later_up l (Ok (view.SetBits f)) = later_answers l (field Bits Error f) (has_error f)
  later_up l (Ok (view.DmaActivate f)) = later_activates l l.moving
  later_up l (Ok (view.DmaSetup f)) =
      ap (with_auto (is_auto f)) (later_sets l l.moving (field Setup BufferId f) (field Setup Offset f) (field Setup table.Count f))
      ∙ later_autos (sets_up l l.moving (field Setup BufferId f) (field Setup Offset f) (field Setup table.Count f)) (is_auto f)
  later_up l (Ok (view.Payload f)) = later_sends l l.moving (drop 4 f)
  later_up l other = refl

  -- ---- what goes down

  other_later : (tag : ℕ) (v : Option Moving) → MovesOther tag v → MovesOther tag (option_map later_moving v)
  other_later tag None other = tt
  other_later tag (Some v) other = other

  none_later : (v : Option Moving) → v ≡ None → option_map later_moving v ≡ None
  none_later v is = ap (option_map later_moving) is

  rests_later : (l : Ledger) → Rests l → Rests (later l)
  rests_later l rests = record {
    outstanding = rests.outstanding;
    unanswered = rests.unanswered;
    awaited = rests.awaited;
    pages = rests.pages;
    moving = none_later l.moving rests.moving;
  }

  fits_request : (l : Ledger) (r : Request) → FitsRequest l r → FitsRequest (later l) r
  fits_request l (Reset set) fits = absurd fits
  fits_request l (Queue c) fits =
      (record { outstanding = fits.0.outstanding; unanswered = fits.0.unanswered; moving = other_later c.tag l.moving fits.0.moving }, fits.1)
  fits_request l request fits = rests_later l fits

  later_alone : (l : Ledger) (r : Request) → FitsRequest l r → alone (later l) r ≡ later (alone l r)
  later_alone l (Reset set) fits = absurd fits
  later_alone l request fits = refl

  fits_data : (v : Option Moving) (bytes : List ℕ) → FitsData v bytes → FitsData (option_map later_moving v) bytes
  fits_data None bytes fits = absurd fits
  fits_data (Some v) bytes fits = record { writes = fits.writes; asked = fits.asked; long = fits.long }

  fits_later : (l : Ledger) (r : Result Fis FisFault) → Fits l r → Fits (later l) r
  fits_later l (Ok (view.RegH2D f)) fits = (fits.0, fits_request l (request_of f) fits.1)
  fits_later l (Ok (view.Payload f)) fits = fits_data l.moving (drop 4 f) fits
  fits_later l other fits = absurd fits

  later_taken : (l : Ledger) (v : Moving) (bytes : List ℕ) (b : Bool)
      → (if b then moves (later l) (later_moving v) bytes else later l) ≡ later (if b then moves l v bytes else l)
  later_taken l v bytes true = later_moves l v bytes
  later_taken l v bytes false = refl

  later_takes : (l : Ledger) (v : Option Moving) (bytes : List ℕ) → takes_data (later l) (option_map later_moving v) bytes ≡ later (takes_data l v bytes)
  later_takes l None bytes = refl
  later_takes l (Some v) bytes = later_taken l v bytes (v.active && (length bytes == v.count))

  later_down : (l : Ledger) (r : Result Fis FisFault) → Fits l r → listens_down (later l) r ≡ later (listens_down l r)
  later_down l (Ok (view.RegH2D f)) fits =
      asks_fits (later l) (request_of f) fits.0 (fits_request l (request_of f) fits.1) ∙ later_alone l (request_of f) fits.1
      ∙ ap later (sym (asks_fits l (request_of f) fits.0 fits.1))
  later_down l (Ok (view.Payload f)) fits = later_takes l l.moving (drop 4 f)
  later_down l other fits = absurd fits

  -- ---- a history

  pub record GoesLater (l : Ledger) (since : List Happening) : Type 0 where
    pub is : ledger_after (later l) since ≡ later (ledger_after l since)
    pub fits : FitsAll (later l) since

  pub goes_later : (l : Ledger) (since : List Happening) → FitsAll l since → GoesLater l since
  unfolding FitsAll ledger_after
  goes_later l [] fits = record { is = refl; fits = tt }
  goes_later l (Received bytes ∷ since) fits =
      let same : listens (later l) (Received bytes) ≡ later (listens l (Received bytes)) = later_down l (seen bytes) fits.0 in
      let rest : GoesLater (listens l (Received bytes)) since = goes_later (listens l (Received bytes)) since fits.1 in
      record {
        is = ap (λ (x : Ledger). ledger_after x since) same ∙ rest.is;
        fits = (fits_later l (seen bytes) fits.0, subst (λ (x : Ledger). FitsAll x since) (sym same) rest.fits);
      }
  goes_later l (Sent bytes ∷ since) fits =
      let same : listens (later l) (Sent bytes) ≡ later (listens l (Sent bytes)) = later_up l (seen bytes) in
      let rest : GoesLater (listens l (Sent bytes)) since = goes_later (listens l (Sent bytes)) since fits in
      record { is = ap (λ (x : Ledger). ledger_after x since) same ∙ rest.is; fits = subst (λ (x : Ledger). FitsAll x since) (sym same) rest.fits }
  goes_later l (Plugged ∷ since) fits =
      let rest : GoesLater (listens l Plugged) since = goes_later (listens l Plugged) since fits in
      record { is = rest.is; fits = rest.fits }
  goes_later l (Loaded bytes ∷ since) fits = absurd fits

  -- ---- what is right

  activates_back : (v : Option Moving) → ActivatesRight (option_map later_moving v) → ActivatesRight v
  activates_back None right = absurd right
  activates_back (Some v) right = record { writes = right.writes; once = right.once; in_turn = right.in_turn }

  carries_back : (v : Option Moving) (bytes : List ℕ) → CarriesRight (option_map later_moving v) bytes → CarriesRight v bytes
  carries_back None bytes right = tt
  carries_back (Some v) bytes right = record { reads = right.reads; count = right.count; in_turn = right.in_turn }

  sets_back : (l : Ledger) (v : Option Moving) (f : List ℕ) → SetsUpRight (later l) (option_map later_moving v) f → SetsUpRight l v f
  sets_back l None f right = right
  sets_back l (Some v) f right = right

  pages_back : (l : Ledger) (v : Option Moving) → PageAsked (later l) (option_map later_moving v) → PageAsked l v
  pages_back l None right = right
  pages_back l (Some v) right = tt

  pub right_back : (l : Ledger) (r : Result Fis FisFault) → IsRight (later l) r → IsRight l r
  right_back l (Ok (view.RegD2H f)) r = record { moves = tt; answers = tt; replies = r.replies; asked = tt; fine = refl }
  right_back l (Ok (view.SetBits f)) r = record { moves = tt; answers = r.answers; replies = tt; asked = tt; fine = r.fine }
  right_back l (Ok (view.DmaActivate f)) r = record { moves = activates_back l.moving r.moves; answers = tt; replies = tt; asked = tt; fine = refl }
  right_back l (Ok (view.DmaSetup f)) r = record { moves = sets_back l l.moving f r.moves; answers = tt; replies = tt; asked = tt; fine = refl }
  right_back l (Ok (view.PioSetup f)) r = record { moves = tt; answers = tt; replies = r.replies; asked = tt; fine = refl }
  right_back l (Ok (view.Payload f)) r =
      record { moves = carries_back l.moving (drop 4 f) r.moves; answers = tt; replies = tt; asked = pages_back l l.moving r.asked; fine = refl }
  right_back l other r = record { moves = tt; answers = tt; replies = tt; asked = tt; fine = refl }

-- ## A later connection

abbrev pub new_ledger : Ledger
new_ledger = listens empty Plugged

-- like the ledger of a new disk, with the earlier reads and writes
begins_later : (before : List Happening)
    → ledger (before ++ Plugged ∷ []) ≡ later (ledger before).writes (ledger before).reads (ledger before).resetting new_ledger
begins_later before =
    let l : Ledger = ledger before in
    ledger_push before Plugged
    ∙ ap (λ (xs : List Written). record (listens l Plugged) { writes = xs }) (sym (append-nil l.writes))
    ∙ ap (λ (xs : List ReadOut). record (listens l Plugged) { writes = l.writes ++ []; reads = xs }) (sym (append-nil l.reads))

record AsLater (before since : List Happening) : Type 0 where
  is : ledger (before ++ (Plugged ∷ since)) ≡ later (ledger before).writes (ledger before).reads (ledger before).resetting (ledger (Plugged ∷ since))
  fits : FitsAll (ledger (before ++ Plugged ∷ [])) since

as_later : (before since : List Happening) → FitsAll new_ledger since → AsLater before since
unfolding ledger_after
as_later before since careful =
    let l : Ledger = ledger before in
    let g : GoesLater l.writes l.reads l.resetting new_ledger since = goes_later l.writes l.reads l.resetting new_ledger since careful in
    let split : before ++ (Plugged ∷ since) ≡ (before ++ Plugged ∷ []) ++ since = sym (append_assoc before (Plugged ∷ []) since) in
    record {
      is =
          ap ledger split ∙ after_more empty (before ++ Plugged ∷ []) since
          ∙ ap (λ (x : Ledger). ledger_after x since) (begins_later before) ∙ g.is;
      fits = subst (λ (x : Ledger). FitsAll x since) (sym (begins_later before)) g.fits;
    }

careful_since : (since : List Happening) → IsCareful (Plugged ∷ since) → FitsAll new_ledger since
unfolding FitsAll
careful_since since careful = careful

behind : {X : Type 0} (xs ys : List X) (i : ℕ) (x : X) → slice_get ys i ≡ Some x → slice_get (xs ++ ys) (length xs + i) ≡ Some x
behind [] ys i x there = let zero_first : 0 + i ≡ i = omega arith in ap (slice_get ys) zero_first ∙ there
behind (y ∷ xs) ys i x there =
    let one_on : length (y ∷ xs) + i ≡ suc (length xs + i) = omega arith in
    ap (slice_get (y ∷ (xs ++ ys))) one_on ∙ behind xs ys i x there

mapped : {X Y : Type 0} (f : X → Y) (xs : List X) (i : ℕ) (x : X) → slice_get xs i ≡ Some x → slice_get (map f xs) i ≡ Some (f x)
mapped f [] i x there = cc there
mapped f (y ∷ xs) zero x there = let same : y ≡ x = cc there in ap (λ z. Some (f z)) same
mapped f (y ∷ xs) (suc i) x there = mapped f xs i x there

tells_by : (before since : List Happening) → IsCareful (Plugged ∷ since) → TellsOfAll before (Plugged ∷ since)
tells_by before since careful =
    let l : Ledger = ledger before in
    let k : Ledger = ledger (Plugged ∷ since) in
    let a : AsLater before since = as_later before since (careful_since since careful) in
    record {
      careful = record { since = since; is = sym (append_assoc before (Plugged ∷ []) since); fits = a.fits };
      right = λ fis right. right_back l.writes l.reads l.resetting (ledger (Plugged ∷ since)) fis (subst (λ (x : Ledger). IsRight x fis) a.is right);
      unanswered = ap (λ (x : Ledger). x.unanswered) a.is;
      reads = λ at r there. record {
        at = length l.reads + at;
        read = record r { before = l.writes ++ r.before };
        ended =
            ap (λ (x : Ledger). slice_get x.reads (length l.reads + at)) a.is
            ∙ behind l.reads (map (λ (x : ReadOut). record x { before = l.writes ++ x.before }) k.reads) at (record r { before = l.writes ++ r.before })
            (mapped (λ (x : ReadOut). record x { before = l.writes ++ x.before }) k.reads at r there);
        command = refl;
        bytes = refl;
        had = refl;
      };
      writes = λ at w there.
          ap (λ (x : Ledger). slice_get x.writes (length l.writes + at)) a.is ∙ behind l.writes k.writes at w there;
    }

pub later_tells_of_all : LaterTellsOfAll
later_tells_of_all before disk given down up linked careful =
    let p = since_plugged disk given down up linked in
    subst (TellsOfAll before) (sym p.1) (tells_by before p.0 (subst IsCareful p.1 careful))
