-- For `disks_are_honest`. Where a history has more FLUSHes than its first part, the disk took one since then.
use Rattle.std.proofs.{Common.{◌≡◌, ℕ, ◌+◌, ◌<◌, Bool, true, false, List, [], ◌∷◌, ◌++◌, refl, ap, ◌∙◌, arith, Ok, Result}, lemmas.Bool.{false≢true}}
use Rattle.fis_view.specs.{Seen.seen, declared.view.{Fis.Fis, FisFault.FisFault}}
use Rattle.fis_view.specs.declared.view.Fis.TheVariants as view
use Rattle.disk_model.specs.{declared.request.Request.Request, Anew.IsRequest, Histories.{Happening, Received}, Requests.request_of}
use Rattle.disk_model.specs.declared.request.Request.TheVariants as asked
use Rattle.disk_recovery.specs.Flushes.{asks_flush, flushes_taken, is_flush, one_if}
use Rattle.disk_recovery.proofs.Door.{flushes_more}
use Rattle.pm_world.specs.HonestEnds.{TookFlush}

asks_it : (r : Request) → asks_flush r ≡ true → r ≡ asked.Flush
asks_it asked.Flush is = refl
asks_it other is = absurd (false≢true is)

request_by : (bytes : List ℕ) (r : Result Fis FisFault) → seen bytes ≡ r → is_flush r ≡ true → IsRequest bytes asked.Flush
request_by bytes (Ok (view.RegH2D f)) shown is = record { frame = f; is = shown; asks = asks_it (request_of f) is }
request_by bytes other shown is = absurd (false≢true is)

one_more : (e : Happening) (rest : List Happening) → TookFlush rest → TookFlush (e ∷ rest)
one_more e rest t =
    record { front = e ∷ t.front; bytes = t.bytes; back = t.back; took = ap (λ (xs : List Happening). e ∷ xs) t.took; asks = t.asks }

took_among : (later : List Happening) → 0 < flushes_taken later → TookFlush later
unfolding flushes_taken
took_among [] some = absurd (omega (arith, some))
took_among (Received bytes ∷ rest) some = by_test (is_flush (seen bytes)) refl some (λ more. took_among rest more)
  where
    by_test : (b : Bool) → is_flush (seen bytes) ≡ b → 0 < one_if b + flushes_taken rest → (0 < flushes_taken rest → TookFlush rest)
        → TookFlush (Received bytes ∷ rest)
    by_test true is more later =
        record { front = []; bytes = bytes; back = rest; took = refl; asks = request_by bytes (seen bytes) refl is }
    by_test false is more later = one_more (Received bytes) rest (later (omega (arith, more)))
took_among (other ∷ rest) some = one_more other rest (took_among rest some)

pub took_since : (part later whole : List Happening) → whole ≡ part ++ later → flushes_taken part < flushes_taken whole → TookFlush later
took_since part later whole is more =
    let long : flushes_taken whole ≡ flushes_taken part + flushes_taken later = ap flushes_taken is ∙ flushes_more part later in
    took_among later (omega (arith, long, more))
