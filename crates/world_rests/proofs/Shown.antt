-- For `rested_have_done`. Each FIS that a disk is to send next is that of some bytes, so a disk that may send none has none to
-- send.
use Rattle.std.proofs.Common.{◌≡◌, ℕ, zero, suc, ◌+◌, ◌-◌, ◌*◌, ◌/◌, ◌%◌, ◌^◌, ◌<◌, ◌≤◌, ◌&&◌, Bool, true, false, List, [], ◌∷◌, ◌++◌, bit_and, drop}
use Rattle.std.proofs.{Common.{length, refl, sym, ap, subst, ◌∙◌, arith, Option, Some, None, length-append}, Math.Nat.{div-add-mod, mul_comm}}
use Rattle.std.proofs.{Math.Nat.{mul-le-mul_right}, lemmas.{Bool.Decides.nat_tests, List.{length-drop, length-replicate, length-take-le}}}
use Rattle.std.proofs.lemmas.Option.{same_Some}
use Rattle.std.specs.{Prelude.{if◌then◌else◌, nat_lt, not, option_map, replicate}, Int.{byte_at, from_bool, to_le_bytes, w32, w64}}
use Rattle.fis_view.specs.{Between.{AreBytes, IsHead, activate_list, bits_list, d2h_list, setup_list}, Frames.IsPayload}
use Rattle.fis_view.specs.declared.build.{D2hFields.D2hFields, DmaActivateFields.DmaActivateFields, DmaSetupFields.DmaSetupFields}
use Rattle.fis_view.specs.declared.build.SetBitsFields.{SetBitsFields}
use Rattle.fis_view.proofs.Door.{activate_built, are_bytes, bits_built, d2h_built, flag_fits, payload_seen, setup_built}
use Rattle.disk_model.specs.declared.answer.Answer.{Answer, TheVariants.{Signature, Accepted, Finished, Refused, Ended, PageFollows, PageData}}
use Rattle.disk_model.specs.declared.{answer.{Fault.{Fault, TheVariants.{Held, Mixed, Failed}}, Page.Page}, plan.{DiskPlan.DiskPlan, Profile.Profile}}
use Rattle.disk_model.specs.{declared.{plan.Profile.TheVariants.{Bare, Stock}, request.Command.Command}, Between.{Asked, Fresh, IsQueue, IsReading}}
use Rattle.disk_model.specs.{Between.{IsWriting, Moves, SetUp, Stage}, Chunks.{asks_for, chunk_count, chunk_from, chunk_setup, chunks, error_of}}
use Rattle.disk_model.specs.{Chunks.{fault_of, first_bad, report, sectors_at, sends_left}, Disks.{Moment, Started, Turn, Writing, begun, begun_write}}
use Rattle.disk_model.specs.{Disks.{pick_turn, picked, read_turn, starts, turn, write_turn}, Ledger.Moving, Pages.{bare_data, checksum, error_head}}
use Rattle.disk_model.specs.Pages.{error_log, filled_to, capabilities, linked_words, names, page_bytes, profile_data, queuing_words, serial_words}
use Rattle.disk_model.specs.{Pages.{stock_data, stock_front, stock_names, stock_summed, timings, versions}, Runs.IsTurn, Sendings.Activates}
use Rattle.disk_model.specs.Sendings.{Carries, Sending, Shows, answer_sent, bits, register, setup}
use Rattle.disk_model.specs.declared.answer.Page.TheVariants as page
use Rattle.disk_model.proofs.Door.{chunk_part, picked_in, sends_left_next, some_chunks}
use Rattle.world_rests.proofs.PageBytes.{page_built, page_list}

-- some bytes are this FIS
abbrev pub CanBeShown : Sending → Type 0
CanBeShown s = (bytes : List ℕ) × Shows s bytes

byte_small : (k n : ℕ) → byte_at k n < 256
byte_small zero n = omega arith
byte_small (suc k) n = let m : ℕ = n / 256 ^ suc k in omega arith

flag_small : (b : Bool) → from_bool b ≤ 1
flag_small b = flag_fits b

-- ---- each kind

register_shown : (i : Bool) (status error first : ℕ) → status < 256 → error < 256 → CanBeShown (register i status error first)
register_shown i status error first low small =
    let v : D2hFields = record { pm_port = 0; i = i; status = status; error = error; lba = first; device = 0; count = first } in
    let head : ℕ = 64 * from_bool i in
    let flag : from_bool i ≤ 1 = flag_small i in
    let are : AreBytes (d2h_list v head) =
    (omega arith, (omega (arith, flag), (low, (small, (byte_small 0 first, (byte_small 1 first, (byte_small 2 first, (omega arith, (byte_small 3 first, (byte_small 4 first, (byte_small 5 first, (omega arith, (byte_small 0 first, (byte_small 1 first, (omega arith, (omega arith, (omega arith, (omega arith, (omega arith, (omega arith, tt)))))))))))))))))))) in
    let is : IsHead head 0 0 (from_bool i) 0 = record { is = omega arith; five_bit = omega arith; six_bit = flag; seven_bit = omega arith } in
    (d2h_list v head, d2h_built v head (are_bytes (d2h_list v head) are) is)

bits_shown : (status error sactive : ℕ) → bit_and status 119 < 256 → error < 256 → CanBeShown (bits status error sactive)
bits_shown status error sactive low small =
    let v : SetBitsFields = record { pm_port = 0; n = false; i = true; status = status; error = error; sactive = sactive } in
    let are : AreBytes (bits_list v 64) =
    (omega arith, (omega arith, (low, (small, (byte_small 0 sactive, (byte_small 1 sactive, (byte_small 2 sactive, (byte_small 3 sactive, tt)))))))) in
    let is : IsHead 64 0 0 (from_bool true) (from_bool false) = record { is = refl; five_bit = omega arith; six_bit = omega arith; seven_bit = omega arith } in
    (bits_list v 64, bits_built v 64 (are_bytes (bits_list v 64) are) is)

setup_shown : (tag offset count : ℕ) (d auto : Bool) → CanBeShown (setup tag offset count d auto)
setup_shown tag offset count d auto =
    let v : DmaSetupFields = record { pm_port = 0; a = auto && not d; i = false; d = d; buffer_id = tag; offset = offset; count = count } in
    let head : ℕ = 32 * from_bool d + 128 * from_bool (auto && not d) in
    let down : from_bool d ≤ 1 = flag_small d in
    let active : from_bool (auto && not d) ≤ 1 = flag_small (auto && not d) in
    let are : AreBytes (setup_list v head) =
    (omega arith, (omega (arith, down, active), (omega arith, (omega arith, (byte_small 0 tag, (byte_small 1 tag, (byte_small 2 tag, (byte_small 3 tag, (byte_small 4 tag, (byte_small 5 tag, (byte_small 6 tag, (byte_small 7 tag, (omega arith, (omega arith, (omega arith, (omega arith, (byte_small 0 offset, (byte_small 1 offset, (byte_small 2 offset, (byte_small 3 offset, (byte_small 0 count, (byte_small 1 count, (byte_small 2 count, (byte_small 3 count, (omega arith, (omega arith, (omega arith, (omega arith, tt)))))))))))))))))))))))))))) in
    let is : IsHead head 0 (from_bool d) (from_bool false) (from_bool (auto && not d)) =
    record { is = omega arith; five_bit = down; six_bit = omega arith; seven_bit = active } in
    (setup_list v head, setup_built v head (are_bytes (setup_list v head) are) is)

activate_shown : CanBeShown Activates
activate_shown =
    let v : DmaActivateFields = record { pm_port = 0 } in
    let are : AreBytes (activate_list v 0) =
    (omega arith, (omega arith, (omega arith, (omega arith, tt)))) in
    let is : IsHead 0 0 0 0 0 = record { is = refl; five_bit = omega arith; six_bit = omega arith; seven_bit = omega arith } in
    (activate_list v 0, activate_built v 0 (are_bytes (activate_list v 0) are) is)

payload_fits : (bytes : List ℕ) → 4 ≤ length bytes → length bytes ≤ 8192 → length bytes % 4 ≡ 0 → IsPayload bytes
payload_fits bytes least most whole = grind (arith, nat_tests)

data_shown : (bytes : List ℕ) → 4 ≤ length bytes → length bytes ≤ 8192 → length bytes % 4 ≡ 0 → CanBeShown (Carries bytes)
data_shown bytes least most whole = (0x46 ∷ 0 ∷ 0 ∷ 0 ∷ bytes, (refl, payload_seen 0 bytes (payload_fits bytes least most whole)))

-- ---- pages

filled_long : (n : ℕ) (bytes : List ℕ) → length bytes ≤ n → length (filled_to n bytes) ≡ n
unfolding filled_to
filled_long n bytes low =
    let zeros : List ℕ = replicate (n - length bytes) 0 in
    let both : length (bytes ++ zeros) ≡ length bytes + length zeros = length-append bytes zeros in
    let rest : length zeros ≡ n - length bytes = length-replicate (n - length bytes) 0 in
    omega (arith, both, rest, low)

-- filled, with more behind it
filled_more : (n : ℕ) (bytes more : List ℕ) → length bytes ≤ n → length (filled_to n bytes ++ more) ≡ n + length more
filled_more n bytes more low =
    let both : length (filled_to n bytes ++ more) ≡ length (filled_to n bytes) + length more = length-append (filled_to n bytes) more in
    let first : length (filled_to n bytes) ≡ n = filled_long n bytes low in
    omega (arith, both, first)

head_short : (fault : Option Fault) → length (error_head fault) ≤ 511
head_short (Some (Failed tag error lba)) = let e : length (error_head (Some (Failed tag error lba))) ≡ 14 = refl in omega (arith, e)
head_short (Some Mixed) = let e : length (error_head (Some Mixed)) ≡ 1 = refl in omega (arith, e)
head_short (Some Held) = let e : length (error_head (Some Held)) ≡ 1 = refl in omega (arith, e)
head_short None = let e : length (error_head None) ≡ 1 = refl in omega (arith, e)

log_long : (fault : Option Fault) → length (error_log fault) ≡ 512
unfolding error_log
log_long fault = filled_more 511 (error_head fault) (checksum (filled_to 511 (error_head fault)) ∷ []) (head_short fault)

bare_long : (sectors : ℕ) (auto : Bool) → length (bare_data sectors auto) ≡ 512
unfolding bare_data
bare_long sectors auto =
    let one : length (filled_to 150 [] ++ queuing_words auto) ≡ 160 = filled_more 150 [] (queuing_words auto) (omega arith) in
    let two : length (filled_to 200 (filled_to 150 [] ++ queuing_words auto) ++ to_le_bytes w64 sectors) ≡ 208 =
    filled_more 200 (filled_to 150 [] ++ queuing_words auto) (to_le_bytes w64 sectors) (omega (arith, one)) in
    filled_long 512 (filled_to 200 (filled_to 150 [] ++ queuing_words auto) ++ to_le_bytes w64 sectors) (omega (arith, two))

names_long : (serial : ℕ) → length (stock_names serial) ≡ 102
unfolding stock_names
names_long serial =
    let one : length (filled_to 20 (0x40 ∷ 0 ∷ []) ++ serial_words serial) ≡ 40 = filled_more 20 (0x40 ∷ 0 ∷ []) (serial_words serial) (omega arith) in
    let two : length (filled_to 46 (filled_to 20 (0x40 ∷ 0 ∷ []) ++ serial_words serial) ++ names) ≡ 94 =
    filled_more 46 (filled_to 20 (0x40 ∷ 0 ∷ []) ++ serial_words serial) names (omega (arith, one)) in
    let all : length ((filled_to 46 (filled_to 20 (0x40 ∷ 0 ∷ []) ++ serial_words serial) ++ names) ++ capabilities)
    ≡ length (filled_to 46 (filled_to 20 (0x40 ∷ 0 ∷ []) ++ serial_words serial) ++ names) + length capabilities =
    length-append (filled_to 46 (filled_to 20 (0x40 ∷ 0 ∷ []) ++ serial_words serial) ++ names) capabilities in
    omega (arith, two, all)

front_long : (serial sectors : ℕ) (auto : Bool) → length (stock_front serial sectors auto) ≡ 200
unfolding stock_front
front_long serial sectors auto =
    let one : length (filled_to 106 (stock_names serial) ++ 6 ∷ 0 ∷ []) ≡ 108 = filled_more 106 (stock_names serial) (6 ∷ 0 ∷ []) (omega (arith, names_long serial)) in
    let sized : List ℕ = filled_to 120 (filled_to 106 (stock_names serial) ++ 6 ∷ 0 ∷ []) ++ to_le_bytes w32 sectors in
    let two : length (filled_to 120 (filled_to 106 (stock_names serial) ++ 6 ∷ 0 ∷ []) ++ to_le_bytes w32 sectors) ≡ 124 =
    filled_more 120 (filled_to 106 (stock_names serial) ++ 6 ∷ 0 ∷ []) (to_le_bytes w32 sectors) (omega (arith, one)) in
    let three : length (filled_to 126 sized ++ timings) ≡ 138 = filled_more 126 sized timings (omega (arith, two)) in
    let four : length (filled_to 150 (filled_to 126 sized ++ timings) ++ linked_words auto) ≡ 160 =
    filled_more 150 (filled_to 126 sized ++ timings) (linked_words auto) (omega (arith, three)) in
    let five : length ((filled_to 150 (filled_to 126 sized ++ timings) ++ linked_words auto) ++ versions)
    ≡ length (filled_to 150 (filled_to 126 sized ++ timings) ++ linked_words auto) + length versions =
    length-append (filled_to 150 (filled_to 126 sized ++ timings) ++ linked_words auto) versions in
    filled_long 200 ((filled_to 150 (filled_to 126 sized ++ timings) ++ linked_words auto) ++ versions) (omega (arith, four, five))

summed_long : (serial sectors : ℕ) (auto : Bool) → length (stock_summed serial sectors auto) ≡ 511
unfolding stock_summed
summed_long serial sectors auto =
    let one : length (stock_front serial sectors auto ++ to_le_bytes w64 sectors) ≡ length (stock_front serial sectors auto) + length (to_le_bytes w64 sectors) =
    length-append (stock_front serial sectors auto) (to_le_bytes w64 sectors) in
    let front : length (stock_front serial sectors auto) ≡ 200 = front_long serial sectors auto in
    let sized : List ℕ = filled_to 212 (stock_front serial sectors auto ++ to_le_bytes w64 sectors) ++ 0 ∷ 0x40 ∷ [] in
    let two : length (filled_to 212 (stock_front serial sectors auto ++ to_le_bytes w64 sectors) ++ 0 ∷ 0x40 ∷ []) ≡ 214 =
    filled_more 212 (stock_front serial sectors auto ++ to_le_bytes w64 sectors) (0 ∷ 0x40 ∷ []) (omega (arith, one, front)) in
    let three : length (filled_to 434 sized ++ 1 ∷ 0 ∷ []) ≡ 436 = filled_more 434 sized (1 ∷ 0 ∷ []) (omega (arith, two)) in
    let four : length (filled_to 444 (filled_to 434 sized ++ 1 ∷ 0 ∷ []) ++ 0x7F ∷ 0x10 ∷ []) ≡ 446 =
    filled_more 444 (filled_to 434 sized ++ 1 ∷ 0 ∷ []) (0x7F ∷ 0x10 ∷ []) (omega (arith, three)) in
    filled_more 510 (filled_to 444 (filled_to 434 sized ++ 1 ∷ 0 ∷ []) ++ 0x7F ∷ 0x10 ∷ []) (0xA5 ∷ []) (omega (arith, four))

stock_long : (serial sectors : ℕ) (auto : Bool) → length (stock_data serial sectors auto) ≡ 512
unfolding stock_data
stock_long serial sectors auto =
    let all : length (stock_summed serial sectors auto ++ checksum (stock_summed serial sectors auto) ∷ []) ≡ length (stock_summed serial sectors auto) + 1 =
    length-append (stock_summed serial sectors auto) (checksum (stock_summed serial sectors auto) ∷ []) in
    omega (arith, all, summed_long serial sectors auto)

identity_long : (profile : Profile) (sectors : ℕ) (auto : Bool) → length (profile_data profile sectors auto) ≡ 512
identity_long Bare sectors auto = bare_long sectors auto
identity_long (Stock serial) sectors auto = stock_long serial sectors auto

pub page_long : (sectors : ℕ) (plan : DiskPlan) (p : Page) → length (page_bytes sectors plan p) ≡ 512
page_long sectors plan (page.ErrorLog fault) = log_long fault
page_long sectors plan page.Identity = identity_long plan.profile sectors plan.auto

-- ---- answers

answer_shown : (sectors : ℕ) (plan : DiskPlan) (a : Answer) → CanBeShown (answer_sent sectors plan a)
answer_shown sectors plan Signature = register_shown false 0x50 1 1 (omega arith) (omega arith)
answer_shown sectors plan Accepted = register_shown false 0x50 0 0 (omega arith) (omega arith)
answer_shown sectors plan Finished = register_shown true 0x50 0 0 (omega arith) (omega arith)
answer_shown sectors plan Refused = register_shown true 0x51 4 0 (omega arith) (omega arith)
answer_shown sectors plan (Ended tag) = bits_shown 0x50 0 (2 ^ (tag % 32)) (let e : bit_and 0x50 119 ≡ 0x50 = refl in omega (arith, e)) (omega arith)
answer_shown sectors plan PageFollows = (page_list, page_built)
answer_shown sectors plan (PageData p) =
    let long : length (page_bytes sectors plan p) ≡ 512 = page_long sectors plan p in
    data_shown (page_bytes sectors plan p) (omega (arith, long)) (omega (arith, long)) (omega (arith, long))

-- ---- errors

fault_in : (past write : Bool) (tag lba : ℕ) (bad : Option ℕ) (f : Fault)
    → (if past then Some (Failed tag 0x10 lba) else if write then None else option_map (λ at. Failed tag 0x40 at) bad) ≡ Some f → error_of f < 256
fault_in true write tag lba bad f is = subst (λ (x : Fault). error_of x < 256) (same_Some (Failed tag 0x10 lba) f is) (omega arith)
fault_in false true tag lba bad f is = absurd (cc)
fault_in false false tag lba None f is = absurd (cc)
fault_in false false tag lba (Some at) f is = subst (λ (x : Fault). error_of x < 256) (same_Some (Failed tag 0x40 at) f is) (omega arith)

report_shown : (plan : DiskPlan) (sectors : ℕ) (c : Command) (f : Fault) → fault_of plan sectors c ≡ Some f → CanBeShown (report f)
report_shown plan sectors c f is =
    bits_shown 0x41 (error_of f) 0 (let e : bit_and 0x41 119 ≡ 0x41 = refl in omega (arith, e))
    (fault_in (nat_lt sectors (c.lba + c.count)) c.write c.tag c.lba (first_bad c plan.bad.items) f is)

-- ---- chunks

chunk_shown : (plan : DiskPlan) (c : Command) (left : ℕ) → CanBeShown (chunk_setup plan c left)
chunk_shown plan c left = setup_shown c.tag (512 * chunk_from plan c left) (512 * chunk_count plan c left) (not c.write) plan.auto

pred_mul : (q s : ℕ) → (q - 1) * s ≡ q * s - s
pred_mul zero s = omega arith
pred_mul (suc k) s = let e : suc k - 1 ≡ k = omega arith in rw e (omega arith)

-- one chunk fewer than a command has does not cover it
short : (size count : ℕ) → 0 < size → 0 < count → ((count + (size - 1)) / size - 1) * size < count
short size count s c =
    let q : ℕ = (count + (size - 1)) / size in
    let whole : size * ((count + (size - 1)) / size) + (count + (size - 1)) % size ≡ count + (size - 1) = div-add-mod (count + (size - 1)) size in
    let turned : (count + (size - 1)) / size * size ≡ size * ((count + (size - 1)) / size) = mul_comm ((count + (size - 1)) / size) size in
    let less : ((count + (size - 1)) / size - 1) * size ≡ (count + (size - 1)) / size * size - size = pred_mul ((count + (size - 1)) / size) size in
    omega (arith, whole, turned, less)

from_below : (last_first : Bool) (all size count left : ℕ) → 0 < left → left ≤ all → (all - 1) * size < count → (if last_first then left - 1 else all - left) * size < count
from_below true all size count left some among less =
    let low : (left - 1) * size ≤ (all - 1) * size = mul-le-mul_right size (let h : left - 1 ≤ all - 1 = omega (arith, among) in h) in
    omega (arith, low, less)
from_below false all size count left some among less =
    let low : (all - left) * size ≤ (all - 1) * size = mul-le-mul_right size (let h : all - left ≤ all - 1 = omega (arith, some) in h) in
    omega (arith, low, less)

-- a chunk has a sector, and no more than fit into a Data FIS
pub chunk_some : (plan : DiskPlan) (c : Command) (left : ℕ) → 512 ≤ plan.chunk → 0 < c.count → 0 < left → left ≤ chunks plan c → 0 < chunk_count plan c left
chunk_some plan c left low some more among =
    let size : 0 < plan.chunk / 512 = omega (arith, low) in
    let below : chunk_from plan c left < c.count = from_below plan.last_first (chunks plan c) (plan.chunk / 512) c.count left more among (short (plan.chunk / 512) c.count size some) in
    omega (arith, size, below)

sectors_long : (medium : List ℕ) (lba count sectors : ℕ) → length medium ≡ 512 * sectors → lba + count ≤ sectors → length (sectors_at medium lba count) ≡ 512 * count
sectors_long medium lba count sectors long within =
    let rest : length (drop (512 * lba) medium) ≡ length medium - 512 * lba = length-drop (512 * lba) medium in
    length-take-le (512 * count) (drop (512 * lba) medium) (omega (arith, rest, long, within))

pub data_long : (plan : DiskPlan) (sectors : ℕ) (medium : List ℕ) (c : Command) (left : ℕ) → 512 ≤ plan.chunk → length medium ≡ 512 * sectors → c.lba + c.count ≤ sectors → 0 < c.count → 0 < left
    → left ≤ chunks plan c → length (sectors_at medium (c.lba + chunk_from plan c left) (chunk_count plan c left)) ≡ 512 * chunk_count plan c left
data_long plan sectors medium c left low long within some more among =
    let part = chunk_part plan c left low some more among in
    let inside : chunk_from plan c left + chunk_count plan c left ≤ c.count = part.inside in
    sectors_long medium (c.lba + chunk_from plan c left) (chunk_count plan c left) sectors long (omega (arith, inside, within))

chunk_data_shown : (plan : DiskPlan) (sectors : ℕ) (medium : List ℕ) (c : Command) (left : ℕ) → 512 ≤ plan.chunk → plan.chunk ≤ 8192 → length medium ≡ 512 * sectors → c.lba + c.count ≤ sectors → 0 < c.count → 0 < left
    → left ≤ chunks plan c → CanBeShown (Carries (sectors_at medium (c.lba + chunk_from plan c left) (chunk_count plan c left)))
chunk_data_shown plan sectors medium c left low high long within some more among =
    let least : 0 < chunk_count plan c left = chunk_some plan c left low some more among in
    let most : chunk_count plan c left ≤ plan.chunk / 512 = omega arith in
    let all : length (sectors_at medium (c.lba + chunk_from plan c left) (chunk_count plan c left)) ≡ 512 * chunk_count plan c left =
    data_long plan sectors medium c left low long within some more among in
    data_shown (sectors_at medium (c.lba + chunk_from plan c left) (chunk_count plan c left)) (omega (arith, all, least)) (omega (arith, all, most, high)) (omega (arith, all))

-- ---- the next FIS

-- what is known about the chunks of a disk
pub record HasChunks (plan : DiskPlan) : Type 0 where
  pub low : 512 ≤ plan.chunk
  pub high : plan.chunk ≤ 8192

-- this is true of each FIS that a disk of this plan sends
pub record OfEach (plan : DiskPlan) (sectors : ℕ) (P : Sending → Type 0) : Type 0 where
  pub answers : (a : Answer) → P (answer_sent sectors plan a)
  pub reports : (c : Command) (f : Fault) → fault_of plan sectors c ≡ Some f → P (report f)
  pub setups : (c : Command) (left : ℕ) → P (chunk_setup plan c left)
  pub activates : P Activates
  pub carries : (medium : List ℕ) (c : Command) (left : ℕ) → length medium ≡ 512 * sectors → c.lba + c.count ≤ sectors → 0 < c.count → 0 < left → left ≤ chunks plan c
      → P (Carries (sectors_at medium (c.lba + chunk_from plan c left) (chunk_count plan c left)))

-- the moment with what it owes, and what it has started
abbrev pub with_parts : Moment → List Answer → Option Started → Option Writing → Moment
with_parts m owed s w = record m { owed = owed; started = s; writing = w }

module _ (P : Sending → Type 0) where
  lifts : (s : Sending) (m : Moment) (t : Sending × Moment) → Some (s, m) ≡ Some t → P s → P t.0
  lifts s m t is of = subst (λ (x : Sending × Moment). P x.0) (same_Some (s, m) t is) of

  read_of : (m : Moment) (c : Command) (sends later : List Sending) (s : Sending) → sends ≡ s ∷ later → P s → (t : Sending × Moment) → read_turn m c sends ≡ Some t → P t.0
  read_of m c sends later s is of t e = lifts s _ t (sym (ap (read_turn m c) is) ∙ e) of

  write_of : (m : Moment) (w : Writing) (sends later : List Sending) (s : Sending) → sends ≡ s ∷ later → P s → (t : Sending × Moment) → write_turn m w sends ≡ Some t → P t.0
  write_of m w sends later s is of t e = lifts s _ t (sym (ap (write_turn m w) is) ∙ e) of

module _ (plan : DiskPlan) (sectors : ℕ) (sized : HasChunks plan) (P : Sending → Type 0) (each : OfEach plan sectors P) where
  start_of : (m : Moment) (c : Command) (write : Bool) → 0 < c.count → (t : Sending × Moment) → starts plan m c write ≡ Some t → P t.0
  start_of m c false some t e = read_of P m c (sends_left plan m.medium c (chunks plan c)) _ _ (sends_left_next plan m.medium c (chunks plan c) (some_chunks plan c sized.low some)) (each.setups c (chunks plan c)) t e
  start_of m c true some t e = write_of P m (begun_write plan c) (asks_for plan c (chunks plan c)) _ _ refl (each.setups c (chunks plan c)) t e

  begin_of : (m : Moment) (c : Command) (bad : Option Fault) → fault_of plan sectors c ≡ bad → 0 < c.count → (t : Sending × Moment) → begun plan m c bad ≡ Some t → P t.0
  begin_of m c None is some t e = start_of m c c.write some t e
  begin_of m c (Some f) is some t e = lifts P (report f) _ t e (each.reports c f is)

  pick_of : (m : Moment) (o : Option Command) → IsQueue m.queued → picked plan.order m.queued ≡ o → (t : Sending × Moment) → pick_turn plan sectors m o ≡ Some t → P t.0
  pick_of m None queue is t e = absurd (cc)
  pick_of m (Some c) queue is t e = begin_of m c (fault_of plan sectors c) refl (picked_in plan.order m.queued c queue is).some t e

  reading_of : (m : Moment) (s : Started) (v : Moving) (left : ℕ) (up : Bool) → length m.medium ≡ 512 * sectors → IsReading plan sectors m.medium s v left up → (t : Sending × Moment) → read_turn m s.command s.sends ≡ Some t → P t.0
  reading_of m s v left false long r t e =
      read_of P m s.command s.sends _ _ (r.stage ∙ sends_left_next plan m.medium s.command left r.moving.more) (each.setups s.command left) t e
  reading_of m s v left true long r t e =
      read_of P m s.command s.sends _ _ (r.stage.0 ∙ ap (drop 1) (sends_left_next plan m.medium s.command left r.moving.more))
      (each.carries m.medium s.command left long r.moving.inside r.moving.some r.moving.more r.moving.among) t e

  writing_of : (m : Moment) (w : Writing) (v : Moving) (stage : Stage) → IsWriting plan sectors w v stage → (t : Sending × Moment) → write_turn m w w.sends ≡ Some t → P t.0
  writing_of m w v Fresh r t e = write_of P m w w.sends _ _ r.stage.0 (each.setups w.command w.left) t e
  writing_of m w v SetUp r t e = write_of P m w w.sends _ _ r.stage.0 each.activates t e
  writing_of m w v Asked r t e = let wrong : None ≡ Some t = sym (ap (write_turn m w) r.stage.0) ∙ e in absurd (cc)

  pub turn_of : (m : Moment) (owed : List Answer) (s : Option Started) (w : Option Writing) (v : Option Moving) → IsQueue m.queued → length m.medium ≡ 512 * sectors → Moves plan sectors m.medium m.queued owed s w v
      → (t : Sending × Moment) → turn plan sectors (with_parts m owed s w) ≡ Some t → P t.0
  turn_of m (a ∷ later) s w v queue long moves t e = lifts P (answer_sent sectors plan a) _ t e (each.answers a)
  turn_of m [] None None None queue long moves t e = pick_of (with_parts m [] None None) (picked plan.order m.queued) queue refl t e
  turn_of m [] None None (Some v) queue long moves t e = absurd moves
  turn_of m [] (Some s) None None queue long moves t e = absurd moves
  turn_of m [] (Some s) None (Some v) queue long moves t e = reading_of (with_parts m [] (Some s) None) s v moves.0 moves.1 long moves.2 t e
  turn_of m [] None (Some w) None queue long moves t e = absurd moves
  turn_of m [] None (Some w) (Some v) queue long moves t e = writing_of (with_parts m [] None (Some w)) w v moves.0 moves.1 t e
  turn_of m [] (Some s) (Some w) v queue long moves t e = absurd moves

each_shown : (plan : DiskPlan) (sectors : ℕ) → HasChunks plan → OfEach plan sectors CanBeShown
each_shown plan sectors sized = record {
  answers = answer_shown sectors plan;
  reports = report_shown plan sectors;
  setups = chunk_shown plan;
  activates = activate_shown;
  carries = λ medium c left long within some more among. chunk_data_shown plan sectors medium c left sized.low sized.high long within some more among;
}

pub turn_shown : (plan : DiskPlan) (sectors : ℕ) → HasChunks plan → (m : Moment) (owed : List Answer) (s : Option Started) (w : Option Writing) (v : Option Moving) → IsQueue m.queued → length m.medium ≡ 512 * sectors
    → Moves plan sectors m.medium m.queued owed s w v → (t : Sending × Moment) → turn plan sectors (with_parts m owed s w) ≡ Some t → CanBeShown t.0
turn_shown plan sectors sized = turn_of plan sectors sized CanBeShown (each_shown plan sectors sized)

-- a turn of which no bytes are to be had is none
pub no_turn : (o : Turn) → ((t : Sending × Moment) → o ≡ Some t → CanBeShown t.0) → ((bytes : List ℕ) → IsTurn o bytes → ⊥) → o ≡ None
no_turn None shown none = refl
no_turn (Some t) shown none = let s : CanBeShown t.0 = shown t refl in absurd (none s.0 s.1)
