-- A controller as it opens.
use Rattle.std.proofs.{Common.{◌≡◌, ℕ, ◌<◌, List, get_or, length, sym, ◌∙◌, arith, replicate, Option, None}, lemmas.List.{get_or-replicate}}
use Rattle.std.proofs.lemmas.List.{length-replicate, same_lists}
use Rattle.guest_fetch.specs.{Fetch.Fetching, Commands.Fetched}

abbrev no_fetch : Option Fetching
no_fetch = None

abbrev no_command : Option Fetched
no_command = None

-- nothing is being read
pub none_fetched : (items : List (Option Fetching)) (n : ℕ) → length items ≡ n → ((i : ℕ) (d : Option Fetching) → i < n → get_or items i d ≡ None) → items ≡ replicate n None
none_fetched items n long none = same_lists items (replicate n None) (long ∙ sym (length-replicate n no_fetch)) (λ k d lt. none k d (omega arith) ∙ sym (get_or-replicate n k None d (omega arith)))

-- no command is kept
pub none_kept : (items : List (Option Fetched)) (n : ℕ) → length items ≡ n → ((i : ℕ) (d : Option Fetched) → i < n → get_or items i d ≡ None) → items ≡ replicate n None
none_kept items n long none = same_lists items (replicate n None) (long ∙ sym (length-replicate n no_command)) (λ k d lt. none k d (omega arith) ∙ sym (get_or-replicate n k None d (omega arith)))
