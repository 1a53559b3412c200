-- How many bytes a command moves at most.
use Rattle.std.proofs.{Common.{ℕ, ◌*◌, ◌<◌, ◌≤◌, ◌||◌, if◌then◌else◌, Bool, true, false, arith}, lemmas.Bool.Decides.nat_tests}
use Rattle.slots.specs.declared.work.Kind.{Kind, TheVariants.{QueuedRead, QueuedWrite, DmaIn, DmaOut, PioIn, PioOut, NoData, Control}}
use Rattle.fis_view.specs.declared.build.H2dFields.{H2dFields}
use Rattle.hba_commands.specs.Requests.{counted, few_sectors, is_page, is_smart_page, is_wide, kind_of, length_of, request_of, sectors, work_of}

sectors_few : (n : ℕ) → n < 65536 → sectors n ≤ 65536
sectors_few n h = grind (arith, nat_tests)

few_few : (n : ℕ) → n < 65536 → few_sectors n ≤ 65536
few_few n h = grind (arith, nat_tests)

chosen : (b : Bool) (x y : ℕ) → x ≤ 65536 → y ≤ 65536 → (if b then x else y) ≤ 65536
chosen true x y a b = a
chosen false x y a b = b

counted_few : (command count : ℕ) → count < 65536 → counted command count ≤ 65536
counted_few command count h = chosen (is_wide command) (sectors count) (few_sectors count) (sectors_few count h) (few_few count h)

page : (b : Bool) (n : ℕ) → n ≤ 65536 → (if b then 512 else 512 * n) ≤ 33554432
page true n h = omega arith
page false n h = omega arith

pub length_few : (kind : Kind) (f : H2dFields) → f.count < 65536 → f.features < 65536 → length_of kind (request_of f) ≤ 33554432
length_few QueuedRead f c g = let few = sectors_few f.features g in omega (arith, few)
length_few QueuedWrite f c g = let few = sectors_few f.features g in omega (arith, few)
length_few DmaIn f c g = let few = counted_few f.command f.count c in omega (arith, few)
length_few DmaOut f c g = let few = counted_few f.command f.count c in omega (arith, few)
length_few PioIn f c g = page (is_page f.command f.count || is_smart_page f.command f.features) (counted f.command f.count) (counted_few f.command f.count c)
length_few PioOut f c g = let few = counted_few f.command f.count c in omega (arith, few)
length_few NoData f c g = omega arith
length_few Control f c g = omega arith

pub work_few : (f : H2dFields) → f.count < 65536 → f.features < 65536 → (work_of (request_of f)).len ≤ 33554432
unfolding work_of
work_few f c g = length_few (kind_of (request_of f)) f c g
