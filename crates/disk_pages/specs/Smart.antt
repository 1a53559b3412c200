-- SMART (ACS-3, 7.46).
use Rattle.std.specs.Prelude.{ℕ, List, [], ◌∷◌, take}
use Rattle.disk_pages.specs.Bytes.{at, closed, page_with}

-- READ DATA (7.46.2): the revision of the structure, 0010h. No attribute, no off-line collection, no self-test: 0 each.
-- The last byte is the checksum.
unfoldable pub smart_data : List ℕ
smart_data = closed (take 511 (page_with (at 0 0x10 ∷ [])))
