-- What is known of sectors behind a few calls, as worked rows: the caller is asked to store two sectors from 4 on, by number 7.
use Rattle.std.proofs.Common.{◌≡◌, ℕ, List, [], ◌∷◌, Some, refl}
use Rattle.block_engine.specs.declared.request.{Answer.TheVariants.{Done, Failed}, Failure.Failure, Request.Request}
use Rattle.block_engine.specs.declared.request.What.TheVariants as what
use Rattle.block_queue.specs.Line.{command_at}
use Rattle.sata_disk.specs.State.{DiskState, commands}
use Rattle.sata_disk_laws.specs.Calls.{Answers, Asks, Plugs}
use Rattle.sata_disk_media.specs.{Cells.{Kept, Storing, Unknown, asked_cell, bytes_at, sector_of}, Media.cell_of}

abbrev store : Request
store = record { number = 7; place = Some 0; what = what.Store 4 2 }

abbrev stored : DiskState → List ℕ
stored d = bytes_at (command_at (commands d) 0)

-- while it is out
out_now : (d : DiskState) → cell_of d 5 Unknown (Asks store ∷ []) ≡ Storing 7 (sector_of 4 5 (stored d))
unfolding cell_of
out_now d = refl

-- the second of its sectors, once it was done
done_now : (d : DiskState) → cell_of d 5 Unknown (Asks store ∷ Answers 7 Done ∷ []) ≡ Kept (sector_of 4 5 (stored d))
unfolding cell_of
done_now d = refl

-- the answer to another request says nothing of it, and a plug changes nothing
other_now : (d : DiskState) → cell_of d 5 Unknown (Asks store ∷ Answers 6 Done ∷ Plugs ∷ []) ≡ Storing 7 (sector_of 4 5 (stored d))
unfolding cell_of
other_now d = refl

-- it failed
failed_now : (d : DiskState) (f : Failure) (x : List ℕ) → cell_of d 5 (Kept x) (Asks store ∷ Answers 7 (Failed f) ∷ []) ≡ Unknown
unfolding cell_of
failed_now d f x = refl

-- the sector behind is as it was
behind_now : (d : DiskState) (x : List ℕ) → cell_of d 6 (Kept x) (Asks store ∷ Answers 7 Done ∷ []) ≡ Kept x
unfolding cell_of
behind_now d x = refl

-- a discard of sector 5
discarded : (x : List ℕ) → asked_cell 5 (Kept x) what.Discard 8 [] (record { lba = 5; count = 1 } ∷ []) ≡ Unknown
discarded x = refl

-- a discard of another
spared : (x : List ℕ) → asked_cell 5 (Kept x) what.Discard 8 [] (record { lba = 6; count = 1 } ∷ []) ≡ Kept x
spared x = refl
