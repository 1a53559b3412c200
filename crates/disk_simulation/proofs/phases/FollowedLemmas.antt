-- For `disks_are_followed_to_their_errors`. What a host follows of a disk, up to an error of it.
use Rattle.std.proofs.Common.{◌≡◌, ℕ, Bool, true, false, List, [], ◌∷◌, ◌++◌, append_assoc, refl, sym, ap, subst, ◌∙◌, inl, inr}
use Rattle.std.specs.Prelude.{◌⊎◌}
use Rattle.std.proofs.lemmas.{Bool.true≢false, List.append-nil}
use Rattle.fis_view.specs.Seen.{seen}
use Rattle.disk_model.specs.{declared.plan.DiskPlan.DiskPlan, Anew.IsLinkedOn, Disks.{Moment, after, opening}, Ends.reports}
use Rattle.disk_model.specs.{Histories.{Happening, Received, Sent}, Ledger.ledger, Runs.{IsDiskRun, Runs}}
use Rattle.disk_model.specs.Anew as link
use Rattle.hba_laws.specs.History.{filled}
use Rattle.disk_simulation.specs.{Followed.{Failed, FollowedIsHonest, FollowsOn, IsFollowed, IsPast, NextIsRightOrFails, Now}, Honest.IsDoneHonestly}
use Rattle.disk_simulation.proofs.anew.AnewHonest.{fine_done, honest_stays, next_anew, reports_anew}

-- ## Runs

before_run : (plan : DiskPlan) (sectors : ℕ) (m : Moment) (history more : List Happening) → Runs plan sectors m (history ++ more)
    → Runs plan sectors m history
unfolding Runs
before_run plan sectors m [] more run = tt
before_run plan sectors m (e ∷ history) more run = (run.0, before_run plan sectors (after plan sectors m e) history more run.1)

-- ## Each event

pub follows_linked : (base disk host : List Happening) (down stale up : List (List ℕ)) → IsLinkedOn base disk host down stale up
    → IsFollowed base disk host down stale up
follows_linked base disk host down stale up linked = record {
  followed = disk;
  later = [];
  before = up;
  beyond = [];
  below = down;
  disk_is = sym (append-nil disk);
  up_is = sym (append-nil up);
  linked = linked;
  past = Now down;
}

-- an error comes up behind what was sent before it
pub follows_failed : (base disk host : List Happening) (down stale up : List (List ℕ)) (followed more : List Happening) (error : List ℕ)
    (before rest below : List (List ℕ)) → disk ≡ followed ++ Sent error ∷ more → up ≡ before ++ error ∷ rest → reports (seen error) ≡ true
    → IsLinkedOn base followed host below stale before → IsFollowed base disk host down stale up
follows_failed base disk host down stale up followed more error before rest below disk_is up_is fails linked = record {
  followed = followed;
  later = Sent error ∷ more;
  before = before;
  beyond = error ∷ rest;
  below = below;
  disk_is = disk_is;
  up_is = up_is;
  linked = linked;
  past = Failed error more rest down below fails;
}

-- there is no other way
data IsFollowedBy (base disk host : List Happening) (down stale up : List (List ℕ)) : Type 0 where
  Linked : IsLinkedOn base disk host down stale up → IsFollowedBy base disk host down stale up
  Erred : (followed more : List Happening) (error : List ℕ) (before rest below : List (List ℕ)) → disk ≡ followed ++ Sent error ∷ more
      → up ≡ before ++ error ∷ rest → reports (seen error) ≡ true → IsLinkedOn base followed host below stale before
      → IsFollowedBy base disk host down stale up

module _ (base disk host : List Happening) (stale : List (List ℕ)) where
  by_past : (down up : List (List ℕ)) (followed later : List Happening) (before beyond below : List (List ℕ)) → disk ≡ followed ++ later
      → up ≡ before ++ beyond → IsLinkedOn base followed host below stale before → IsPast later beyond down below
      → IsFollowedBy base disk host down stale up
  by_past down up followed later before beyond below disk_is up_is linked (Now d) =
      Linked (subst (λ (xs : List (List ℕ)). IsLinkedOn base disk host d stale xs) (sym (up_is ∙ append-nil before))
      (subst (λ (h : List Happening). IsLinkedOn base h host d stale before) (sym (disk_is ∙ append-nil followed)) linked))
  by_past down up followed later before beyond below disk_is up_is linked (Failed error more rest d b fails) =
      Erred followed more error before rest b disk_is up_is fails linked

  by : (down up : List (List ℕ)) → IsFollowed base disk host down stale up → IsFollowedBy base disk host down stale up
  by down up f = by_past down up f.followed f.later f.before f.beyond f.below f.disk_is f.up_is f.linked f.past

pub one_more : {X : Type 0} (front whole back : List X) (x : X) → whole ≡ front ++ back → whole ++ x ∷ [] ≡ front ++ (back ++ x ∷ [])
one_more front whole back x is = ap (λ xs. xs ++ x ∷ []) is ∙ append_assoc front back (x ∷ [])

module _ (base disk host : List Happening) (stale up : List (List ℕ)) (bytes : List ℕ) where
  gives_by : (down : List (List ℕ)) → IsFollowedBy base disk host down stale up
      → IsFollowed base disk (host ++ Received bytes ∷ []) (down ++ bytes ∷ []) stale up
  gives_by down (Linked linked) = follows_linked base disk _ _ stale up (link.gives disk host down stale up bytes linked)
  gives_by down (Erred followed more error before rest below disk_is up_is fails linked) =
      follows_failed base disk _ _ stale up followed more error before rest (below ++ bytes ∷ []) disk_is up_is fails
      (link.gives followed host below stale before bytes linked)

  comes_by : (front back : List (List ℕ)) → IsFollowedBy base disk host (front ++ bytes ∷ back) stale up
      → IsFollowed base (disk ++ Received bytes ∷ []) host (front ++ back) stale up
  comes_by front back (Linked linked) = follows_linked base _ host _ stale up (link.comes disk host front back stale up bytes linked)
  comes_by front back (Erred followed more error before rest below disk_is up_is fails linked) =
      follows_failed base _ host _ stale up followed (more ++ Received bytes ∷ []) error before rest below
      (one_more followed disk (Sent error ∷ more) (Received bytes) disk_is) up_is fails linked

  sends_by : (down : List (List ℕ)) (b : Bool) → reports (seen bytes) ≡ b → IsFollowedBy base disk host down stale up
      → IsFollowed base (disk ++ Sent bytes ∷ []) host down stale (up ++ bytes ∷ [])
  sends_by down false fine (Linked linked) = follows_linked base _ host down stale _ (link.sends disk host down stale up bytes fine linked)
  sends_by down true fails (Linked linked) = follows_failed base _ host down stale _ disk [] bytes up [] down refl refl fails linked
  sends_by down b is (Erred followed more error before rest below disk_is up_is fails linked) =
      follows_failed base _ host down stale _ followed (more ++ Sent bytes ∷ []) error before (rest ++ bytes ∷ []) below
      (one_more followed disk (Sent error ∷ more) (Sent bytes) disk_is) (one_more before up (error ∷ rest) bytes up_is) fails linked

  drops_by : (down : List (List ℕ)) → IsFollowedBy base disk host down (bytes ∷ stale) up → IsFollowed base disk host down stale up
  drops_by down (Linked linked) = follows_linked base disk host down stale up (link.drops disk host down stale up bytes linked)
  drops_by down (Erred followed more error before rest below disk_is up_is fails linked) =
      follows_failed base disk host down stale up followed more error before rest below disk_is up_is fails
      (link.drops followed host below stale before bytes linked)

-- ## What comes next

-- it was sent up to a moment up to which both are linked; this holds once it is taken
pub record IsBefore (base disk host : List Happening) (bytes : List ℕ) (Taken : Type 0) : Type 0 where
  pub followed : List Happening
  pub later : List Happening
  pub before : List (List ℕ)
  pub below : List (List ℕ)
  pub disk_is : disk ≡ followed ++ later
  pub linked : IsLinkedOn base followed host below [] (bytes ∷ before)
  pub taken : Taken

pub same_first : (x y : List ℕ) (xs ys : List (List ℕ)) → x ∷ xs ≡ y ∷ ys → (y ≡ x) × (xs ≡ ys)
same_first x y xs ys e = (let a : y ≡ x = cc e in a, let b : xs ≡ ys = cc e in b)

module _ (base disk host : List Happening) (down up : List (List ℕ)) (bytes : List ℕ) where
  abbrev IsTaken : Type 0
  IsTaken = IsFollowed base disk (host ++ Sent bytes ∷ []) down [] up

  next_by : IsFollowedBy base disk host down [] (bytes ∷ up) → (reports (seen bytes) ≡ true) ⊎ IsBefore base disk host bytes IsTaken
  next_by (Linked linked) = inr (record {
    followed = disk;
    later = [];
    before = up;
    below = down;
    disk_is = sym (append-nil disk);
    linked = linked;
    taken = follows_linked base disk _ down [] up (link.takes disk host down up bytes linked);
  })
  next_by (Erred followed more error [] rest below disk_is up_is fails linked) =
      inl (subst (λ (x : List ℕ). reports (seen x) ≡ true) (same_first bytes error up rest up_is).0 fails)
  next_by (Erred followed more error (b ∷ before) rest below disk_is up_is fails linked) =
      let first = same_first bytes b up (before ++ error ∷ rest) up_is in
      let mine : IsLinkedOn base followed host below [] (bytes ∷ before) =
      subst (λ (x : List ℕ). IsLinkedOn base followed host below [] (x ∷ before)) first.0 linked in
      inr (record {
        followed = followed;
        later = Sent error ∷ more;
        before = before;
        below = below;
        disk_is = disk_is;
        linked = mine;
        taken =
            follows_failed base disk _ down [] up followed more error before rest below disk_is first.1 fails
            (link.takes followed host below before bytes mine);
      })

  next : IsFollowed base disk host down [] (bytes ∷ up) → (reports (seen bytes) ≡ true) ⊎ IsBefore base disk host bytes IsTaken
  next f = next_by (by base disk host [] down (bytes ∷ up) f)

  pub takes_on : IsFollowed base disk host down [] (bytes ∷ up)
      → (reports (seen bytes) ≡ true) ⊎ IsFollowed base disk (host ++ Sent bytes ∷ []) down [] up
  takes_on f = elim (next f) [ inl fails ↦ inl fails | inr b ↦ inr b.taken ]

pub follows_on : FollowsOn
follows_on = record {
  linked = follows_linked;
  begins = λ base stale clear. follows_linked base base base [] stale [] (link.begins stale clear);
  gives = λ base disk host down stale up bytes f. gives_by base disk host stale up bytes down (by base disk host stale down up f);
  comes = λ base disk host front back stale up bytes f.
      comes_by base disk host stale up bytes front back (by base disk host stale (front ++ bytes ∷ back) up f);
  sends = λ base disk host down stale up bytes f.
      sends_by base disk host stale up bytes down (reports (seen bytes)) refl (by base disk host stale down up f);
  drops = λ base disk host down stale up bytes f. drops_by base disk host stale up bytes down (by base disk host (bytes ∷ stale) down up f);
  takes = takes_on;
}

-- ## Honesty

pub run_to : (plan : DiskPlan) (sectors : ℕ) (disk followed later : List Happening) → disk ≡ followed ++ later → IsDiskRun plan sectors disk
    → IsDiskRun plan sectors followed
run_to plan sectors disk followed later is run = before_run plan sectors (opening sectors) followed later (subst (IsDiskRun plan sectors) is run)

pub next_or_fails : NextIsRightOrFails
next_or_fails plan sectors base disk given down up bytes size run f careful = elim (next base disk given down up bytes f) [
  | inl fails ↦ inl fails
  | inr b ↦ inr (next_anew plan sectors base b.followed given b.below b.before bytes size (run_to plan sectors disk b.followed b.later b.disk_is run)
      b.linked careful)
]

pub followed_is_honest : FollowedIsHonest
followed_is_honest plan sectors base disk given down up bytes size run f careful n host new report commands past sound below plain framed from_n takes joined s t lt here queued set =
    elim (next base disk given down up bytes f) [
      | inl fails ↦
          absurd (true≢false (sym fails ∙ fine_done n host new bytes report commands past (ledger given) sound below plain framed from_n takes joined s t lt here queued set))
      | inr b ↦
          let honest = reports_anew plan sectors base b.followed given b.below b.before bytes size
          (run_to plan sectors disk b.followed b.later b.disk_is run) b.linked careful n host new report commands past sound below plain framed from_n takes joined s t lt here queued set in
          subst (λ (h : List Happening). IsDoneHonestly sectors (commands s) (filled s past) t.work.len (ledger h) (ledger given)) (sym b.disk_is)
          (honest_stays sectors t.work.len (commands s) (filled s past) b.followed b.later (ledger given) honest)
    ]
