-- For `loaded_disks_show_their_sectors`.
use Rattle.std.proofs.{Common.{◌≡◌, ◌*◌, ℕ, List, ◌∷◌, [], length, ap, sym, ◌∙◌}, lemmas.List.FromFn.{length-map-range_with_len}}
use Rattle.disk_model.specs.{Anew.StayWritten, Disks.{opening_byte, opening_medium}, Histories.Loaded, Ledger.{ledger_after, with_writes}}
use Rattle.disk_model.specs.Loads.{LoadedIsFirst, LoadedIsUnderWrites}
use Rattle.disk_model.proofs.{agreement.LawLemmas.put_all, both_ends.WrittenLemmas.writes_stay}

pub loaded_is_first : LoadedIsFirst
unfolding ledger_after
loaded_is_first bytes history =
    let stay : StayWritten (Loaded bytes ∷ []) history = writes_stay (Loaded bytes ∷ []) history in
    record { later = stay.later; same = stay.same }

pub loaded_is_under_writes : LoadedIsUnderWrites
unfolding with_writes
loaded_is_under_writes sectors bytes later long =
    ap (λ (medium : List ℕ). with_writes medium later)
    (put_all (opening_medium sectors) bytes (length-map-range_with_len opening_byte 0 (512 * sectors) ∙ sym long))
