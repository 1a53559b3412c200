-- For `Disk::is_at_rest`. What a disk at rest is.
use Rattle.std.proofs.Common.{◌≡◌, ◌==◌, ◌&&◌, ℕ, ◌*◌, Bool, true, false, List, [], ◌∷◌, Option, Some, None, length, ap, refl, rules, subst, sym}
use Rattle.std.specs.Prelude.{is_none, not}
use Rattle.disk_model.specs.{declared.plan.DiskPlan.DiskPlan, Disks.{DiskValue, Moment, moment_after, new_with, opening_medium}, Histories.Loaded}
use Rattle.disk_model.specs.{Quiet.is_at_rest, Runs.{DiskStandsFor, Runs}}
use Rattle.disk_model.proofs.turns.MomentLemmas.{disk_opens}

-- a disk at rest has nothing queued and owes nothing, and takes commands
pub record Rests (m : Moment) : Type 0 where
  pub queued : m.queued ≡ []
  pub owed : m.owed ≡ []
  pub fault : m.fault ≡ None
  pub started : m.started ≡ None
  pub writing : m.writing ≡ None
  pub resetting : m.resetting ≡ false

no_length : {A : Type 0} → (xs : List A) → (length xs == 0) ≡ true → xs ≡ []
no_length [] is = refl
no_length (x ∷ xs) is = absurd (search (rules, is))

no_some : {A : Type 0} → (o : Option A) → is_none o ≡ true → o ≡ None
no_some None is = refl
no_some (Some x) is = absurd (cc is)

all_six : (a b c d e f : Bool) → (a && b && c && d && e && not f) ≡ true
    → (a ≡ true) × (b ≡ true) × (c ≡ true) × (d ≡ true) × (e ≡ true) × (f ≡ false)
all_six true true true true true false is = (refl, refl, refl, refl, refl, refl)
all_six true true true true true true is = absurd (cc is)
all_six true true true true false f is = absurd (cc is)
all_six true true true false e f is = absurd (cc is)
all_six true true false d e f is = absurd (cc is)
all_six true false c d e f is = absurd (cc is)
all_six false b c d e f is = absurd (cc is)

pub at_rest : (m : Moment) → is_at_rest m ≡ true → Rests m
at_rest m is =
    let all =
    all_six (length m.queued == 0) (length m.owed == 0) (is_none m.fault) (is_none m.started) (is_none m.writing) m.resetting is in
    record {
      queued = no_length m.queued all.0;
      owed = no_length m.owed all.1;
      fault = no_some m.fault all.2;
      started = no_some m.started all.3;
      writing = no_some m.writing all.4;
      resetting = all.5;
    }

-- it is what a new disk with its sectors is
at_rest_new : (m : Moment) → is_at_rest m ≡ true → m ≡ new_with m.medium
at_rest_new m is =
    let rest : Rests m = at_rest m is in
    λ i. record (new_with m.medium) {
      queued = rest.queued i;
      fault = rest.fault i;
      resetting = rest.resetting i;
      owed = rest.owed i;
      started = rest.started i;
      writing = rest.writing i;
    }

-- a disk that is what a new one with these sectors is stands for it
pub stands_loaded : (d : DiskValue) (bytes : List ℕ) → length bytes ≡ 512 * d.sectors → d.now ≡ new_with bytes
    → DiskStandsFor d (Loaded bytes ∷ [])
unfolding moment_after Runs
stands_loaded d bytes long is = record { run = ((refl, long), tt); now = is }

pub rests_loaded : (d : DiskValue) (b : Bool) → b ≡ is_at_rest d.now → length d.now.medium ≡ 512 * d.sectors → b ≡ true
    → DiskStandsFor d (Loaded d.now.medium ∷ [])
rests_loaded d b same long is =
    stands_loaded d d.now.medium long (at_rest_new d.now (subst (λ (x : Bool). x ≡ true) same is))

-- a disk that was made with these sectors
pub made_loaded : (d : DiskValue) (plan : DiskPlan) (sectors : ℕ) (bytes : List ℕ)
    → d ≡ record { plan = plan; sectors = sectors; now = new_with bytes } → length bytes ≡ 512 * sectors
    → DiskStandsFor d (Loaded bytes ∷ [])
made_loaded d plan sectors bytes is long =
    subst (λ (x : DiskValue). DiskStandsFor x (Loaded bytes ∷ [])) (sym is)
    (stands_loaded (record { plan = plan; sectors = sectors; now = new_with bytes }) bytes long refl)

pub made_new : (d : DiskValue) (plan : DiskPlan) (sectors : ℕ) (bytes : List ℕ)
    → d ≡ record { plan = plan; sectors = sectors; now = new_with bytes } → bytes ≡ opening_medium sectors
    → DiskStandsFor d []
made_new d plan sectors bytes is same =
    subst (λ (x : DiskValue). DiskStandsFor x []) (sym is)
    (disk_opens (record { plan = plan; sectors = sectors; now = new_with bytes }) (ap new_with same))
