-- The interrupts and the link as words.
use Rattle.std.specs.Prelude.{ℕ, ◌<◌, ◌^◌, List, Bool}
use Rattle.std.proofs.Common.{ap}
use Rattle.ahci_registers.specs.declared.{lines.Lines.Lines, link.LinkControl.LinkControl}
use Rattle.saved_state.specs.State.{IsToldApart, bool_apart, number_apart, parts_apart, put_bool, put_number, put_three, three_apart}

-- PxIS, PxIE and GHC.IE
abbrev pub LineParts : Type 0
LineParts = ℕ × ℕ × Bool

abbrev pub line_parts : Lines → LineParts
line_parts lines = (lines.status, lines.mask, lines.enabled)

abbrev pub put_line_parts : LineParts → List ℕ → List ℕ
put_line_parts = put_three put_number put_number put_bool

abbrev pub KeepsLineParts : LineParts → Type 0
KeepsLineParts parts = (parts.0 < 2 ^ 32) × (parts.1 < 2 ^ 32) × Unit {0}

abbrev pub put_lines : Lines → List ℕ → List ℕ
put_lines lines rest = put_line_parts (line_parts lines) rest

abbrev pub KeepsLines : Lines → Type 0
KeepsLines lines = KeepsLineParts (line_parts lines)

-- PxSCTL
abbrev pub put_link : LinkControl → List ℕ → List ℕ
put_link link rest = put_number link.control rest

abbrev pub KeepsLink : LinkControl → Type 0
KeepsLink link = link.control < 2 ^ 32

-- ---- words are those of one value

line_parts_apart : IsToldApart put_line_parts KeepsLineParts
line_parts_apart = three_apart put_number (λ n. n < 2 ^ 32) (λ a b x y k l e. number_apart a b x y e)
    put_number (λ n. n < 2 ^ 32) (λ a b x y k l e. number_apart a b x y e)
    put_bool (λ _. Unit {0}) (λ a b x y k l e. bool_apart a b x y e)

pub lines_apart : IsToldApart put_lines KeepsLines
lines_apart = parts_apart put_line_parts KeepsLineParts KeepsLines line_parts line_parts_apart (λ l k. k)
    (λ a b e. ap (λ p. record { status = p.0; mask = p.1; enabled = p.2 }) e)

pub link_apart : IsToldApart put_link KeepsLink
link_apart = parts_apart put_number (λ n. n < 2 ^ 32) KeepsLink (λ l. l.control) (λ a b x y k l e. number_apart a b x y e) (λ l k. k)
    (λ a b e. ap (λ n. record { control = n }) e)
