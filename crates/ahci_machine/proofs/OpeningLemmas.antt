-- A machine as it opens.
use Rattle.std.proofs.Common.{◌≡◌, ℕ, ◌<◌, List, get_or, length, sym, ◌∙◌, arith, replicate, Option, None}
use Rattle.std.proofs.lemmas.List.{get_or-replicate, length-replicate, same_lists}
use Rattle.ahci_machine.specs.Gathers.{GatheringState}

abbrev no_gathering : Option GatheringState
no_gathering = None

-- no Data FIS is being read
pub none_gathered : (items : List (Option GatheringState)) (n : ℕ) → length items ≡ n → ((i : ℕ) (d : Option GatheringState) → i < n → get_or items i d ≡ None) → items ≡ replicate n None
none_gathered items n long none = same_lists items (replicate n None) (long ∙ sym (length-replicate n no_gathering)) (λ k d lt. none k d (omega arith) ∙ sym (get_or-replicate n k None d (omega arith)))
