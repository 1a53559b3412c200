-- The bits of a header.
use Rattle.std.proofs.{Common.{◌≡◌, ℕ, ◌+◌, ◌*◌, ◌<◌, ◌≤◌, Bool, true, false, List, ◌++◌, drop, refl, sym, ap, ◌∙◌, arith}, lemmas.List.{drop-drop}}
use Rattle.std.specs.{Prelude.{◌==◌}, Int.from_bool}
use Rattle.byteorder.specs.{Endian.{little_bytes, little_number}, Numbers.{little_number-reads_back}}
use Rattle.host_memory.specs.{Memory.zeros, Reading.dword_at}
use Rattle.hba_commands.specs.{Headers.{header_of_dwords, bits_of}, Writing.header_bytes, declared.header.Header.Header}

-- a PM Port has 4 bits
pub port_small : (dw0 dw2 dw3 : ℕ) → (header_of_dwords dw0 dw2 dw3).pmp < 16
unfolding header_of_dwords
port_small dw0 dw2 dw3 = omega arith

-- a header whose fields fit their bits, with C and the upper address at 0
pub record FitsHeader (header : Header) : Type 0 where
  pub prdtl : header.prdtl < 65536
  pub pmp : header.pmp < 16
  pub clear : header.clear ≡ false
  pub cfl : header.cfl < 32
  pub ctba : header.ctba < 4294967296
  pub ctbau : header.ctbau ≡ 0

pub bool_small : (b : Bool) → from_bool b ≤ 1
bool_small true = omega arith
bool_small false = omega arith

pub bool_back : (b : Bool) → (from_bool b == 1) ≡ b
bool_back true = refl
bool_back false = refl

-- the dword of these bits
abbrev pub dword_of : Header → ℕ
dword_of header = 65536 * header.prdtl + 4096 * header.pmp + 64 * from_bool header.write + header.cfl

header_back : (header : Header) → FitsHeader header → header_of_dwords (dword_of header) header.ctba 0 ≡ header
unfolding header_of_dwords
header_back header fits =
    let d = dword_of header in
    let w = bool_small header.write in
    let prdtl : bits_of d 16 16 ≡ header.prdtl = omega (arith, fits) in
    let pmp : bits_of d 12 4 ≡ header.pmp = omega (arith, fits) in
    let clear : bits_of d 10 1 ≡ 0 = omega (arith, fits) in
    let write : bits_of d 6 1 ≡ from_bool header.write = omega (arith, fits) in
    let cfl : bits_of d 0 5 ≡ header.cfl = omega (arith, fits) in
    let upper = fits.ctbau in
    let off = fits.clear in
    rw (prdtl, pmp, clear, write, cfl, bool_back header.write, sym off, sym upper) refl

-- a header that stands there reads as what was written
pub header_reads : (s : List ℕ) (place : ℕ) (header : Header) (rest : List ℕ) → FitsHeader header → drop place s ≡ header_bytes header ++ rest → header_of_dwords (dword_at s place) (dword_at s (place + 8)) (dword_at s (place + 12)) ≡ header
unfolding header_bytes zeros
header_reads s place header rest fits is =
    let d = dword_of header in
    let w = bool_small header.write in
    let small : d < 4294967296 = omega (arith, fits) in
    let zero : dword_at s place ≡ d = ap (little_number 4) is ∙ little_number-reads_back 4 d (zeros 4 ++ little_bytes 4 header.ctba ++ zeros 20 ++ rest) small in
    let there : drop (place + 8) s ≡ little_bytes 4 header.ctba ++ (zeros 20 ++ rest) = sym (drop-drop 8 place s) ∙ ap (drop 8) is in
    let two : dword_at s (place + 8) ≡ header.ctba = ap (little_number 4) there ∙ little_number-reads_back 4 header.ctba (zeros 20 ++ rest) fits.ctba in
    let after : drop (place + 12) s ≡ zeros 20 ++ rest = sym (drop-drop 12 place s) ∙ ap (drop 12) is in
    let three : dword_at s (place + 12) ≡ 0 = ap (little_number 4) after in
    rw (zero, two, three) (header_back header fits)
