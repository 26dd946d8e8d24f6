-- Printed by tests/print-cases from rows/Listings.rows: do not edit.
-- Listings of some of document 01's problems and of a few more, and the first line of each kind of answer, worked from the definitions.
use mathlib.Core.Path.{◌≡◌, refl}
use mathlib.Core.List.{List, [], ◌∷◌, ◌++◌, map}
use Prim.Native.Nat.{ℕ}
use Rattle.calculus.specs.Reading.{◌>>=◌, ask, byte, bytes, read_constraints, read_sets, read_variables, read_constants, read}
use Rattle.calculus.specs.Search.{next}
use Rattle.calculus.specs.Run.{run}
use Rattle.calculus.specs.Branch.{start, assert, root_at, inside, outside, add_inside, add_outside, merge, torn}
use Rattle.calculus.specs.Forms.{record_length, root_in, inside_in}
use Rattle.calculus.specs.Calls.{Answer, refusal, ended, FORMS, FALSE, SPENT, NOROOM, asked, call}
use Rattle.text.specs.Text.{decimal}
use Rattle.listing_lines.specs.Listing.{form_line, heading, listing, program_call}
use Rattle.cases.proofs.Rows.{words_from}

-- a problem's bytes, and the lines of its listing
pub record Row : Type 0 where
  pub problem : List ℕ
  pub lines : List (List ℕ)

unfoldable table : List Row
table =
    -- C1: x in A, A = [3, 4], x ≠ 3
    -- FORMS 1 STEPS 5
    -- x=4 A={3,4}
    record { problem = 0x02 ∷ 0x03 ∷ 0x00 ∷ 0x04 ∷ 0x00 ∷ 0x01 ∷ 0x78 ∷ 0x01 ∷ 0x41 ∷ 0x03 ∷ 0x01 ∷ 0x02 ∷ 0x00 ∷ 0x0C ∷ 0x00 ∷ 0x00 ∷ 0x01 ∷ 0x04 ∷ 0x02 ∷ 0x00 ∷ []; lines = (70 ∷ 79 ∷ 82 ∷ 77 ∷ 83 ∷ 32 ∷ 49 ∷ 32 ∷ 83 ∷ 84 ∷ 69 ∷ 80 ∷ 83 ∷ 32 ∷ 53 ∷ 10 ∷ []) ∷ (120 ∷ 61 ∷ 52 ∷ 32 ∷ 65 ∷ 61 ∷ 123 ∷ 51 ∷ 44 ∷ 52 ∷ 125 ∷ 10 ∷ []) ∷ [] }
    -- C4: its last byte cut off
    -- REFUSED 2
    ∷ record { problem = 0x02 ∷ 0x03 ∷ 0x00 ∷ 0x04 ∷ 0x00 ∷ 0x01 ∷ 0x78 ∷ 0x01 ∷ 0x41 ∷ 0x03 ∷ 0x01 ∷ 0x02 ∷ 0x00 ∷ 0x0C ∷ 0x00 ∷ 0x00 ∷ 0x01 ∷ 0x04 ∷ 0x02 ∷ []; lines = (82 ∷ 69 ∷ 70 ∷ 85 ∷ 83 ∷ 69 ∷ 68 ∷ 32 ∷ 50 ∷ 10 ∷ []) ∷ [] }
    -- C5: no names
    -- FORMS 1 STEPS 0
    -- (an empty line)
    ∷ record { problem = 0x00 ∷ 0x00 ∷ 0x00 ∷ 0x00 ∷ []; lines = (70 ∷ 79 ∷ 82 ∷ 77 ∷ 83 ∷ 32 ∷ 49 ∷ 32 ∷ 83 ∷ 84 ∷ 69 ∷ 80 ∷ 83 ∷ 32 ∷ 48 ∷ 10 ∷ []) ∷ (10 ∷ []) ∷ [] }
    -- C6: nothing
    -- REFUSED 2
    ∷ record { problem = []; lines = (82 ∷ 69 ∷ 70 ∷ 85 ∷ 83 ∷ 69 ∷ 68 ∷ 32 ∷ 50 ∷ 10 ∷ []) ∷ [] }
    -- C7: A ≠ A
    -- FALSE 0 STEPS 1
    ∷ record { problem = 0x00 ∷ 0x00 ∷ 0x01 ∷ 0x41 ∷ 0x01 ∷ 0x06 ∷ 0x00 ∷ 0x00 ∷ []; lines = (70 ∷ 65 ∷ 76 ∷ 83 ∷ 69 ∷ 32 ∷ 48 ∷ 32 ∷ 83 ∷ 84 ∷ 69 ∷ 80 ∷ 83 ∷ 32 ∷ 49 ∷ 10 ∷ []) ∷ [] }
    -- C10: C = A ∪ B, x in C
    -- FORMS 2 STEPS 2
    -- x=32001 A={32001} B={} C={32001}
    -- x=32001 A={} B={32001} C={32001}
    ∷ record { problem = 0x00 ∷ 0x01 ∷ 0x78 ∷ 0x03 ∷ 0x41 ∷ 0x42 ∷ 0x43 ∷ 0x02 ∷ 0x07 ∷ 0x00 ∷ 0x01 ∷ 0x02 ∷ 0x01 ∷ 0x00 ∷ 0x02 ∷ []; lines = (70 ∷ 79 ∷ 82 ∷ 77 ∷ 83 ∷ 32 ∷ 50 ∷ 32 ∷ 83 ∷ 84 ∷ 69 ∷ 80 ∷ 83 ∷ 32 ∷ 50 ∷ 10 ∷ []) ∷ (120 ∷ 61 ∷ 51 ∷ 50 ∷ 48 ∷ 48 ∷ 49 ∷ 32 ∷ 65 ∷ 61 ∷ 123 ∷ 51 ∷ 50 ∷ 48 ∷ 48 ∷ 49 ∷ 125 ∷ 32 ∷ 66 ∷ 61 ∷ 123 ∷ 125 ∷ 32 ∷ 67 ∷ 61 ∷ 123 ∷ 51 ∷ 50 ∷ 48 ∷ 48 ∷ 49 ∷ 125 ∷ 10 ∷ []) ∷ (120 ∷ 61 ∷ 51 ∷ 50 ∷ 48 ∷ 48 ∷ 49 ∷ 32 ∷ 65 ∷ 61 ∷ 123 ∷ 125 ∷ 32 ∷ 66 ∷ 61 ∷ 123 ∷ 51 ∷ 50 ∷ 48 ∷ 48 ∷ 49 ∷ 125 ∷ 32 ∷ 67 ∷ 61 ∷ 123 ∷ 51 ∷ 50 ∷ 48 ∷ 48 ∷ 49 ∷ 125 ∷ 10 ∷ []) ∷ [] }
    -- A = [-1, 0], x = -1
    -- FORMS 1 STEPS 3
    -- x=-1 A={-1,0}
    ∷ record { problem = 0x02 ∷ 0xFF ∷ 0xFF ∷ 0x00 ∷ 0x00 ∷ 0x01 ∷ 0x78 ∷ 0x01 ∷ 0x41 ∷ 0x02 ∷ 0x0C ∷ 0x00 ∷ 0x00 ∷ 0x01 ∷ 0x03 ∷ 0x02 ∷ 0x00 ∷ []; lines = (70 ∷ 79 ∷ 82 ∷ 77 ∷ 83 ∷ 32 ∷ 49 ∷ 32 ∷ 83 ∷ 84 ∷ 69 ∷ 80 ∷ 83 ∷ 32 ∷ 51 ∷ 10 ∷ []) ∷ (120 ∷ 61 ∷ 45 ∷ 49 ∷ 32 ∷ 65 ∷ 61 ∷ 123 ∷ 45 ∷ 49 ∷ 44 ∷ 48 ∷ 125 ∷ 10 ∷ []) ∷ [] }
    -- the sample of crates/listing: C = A ∪ B, A = {-300, 7}, x in C, B ≠ D
    -- FORMS 6 STEPS 13
    -- x=-300 A={-300,7} B={32004} C={-300,7,32004} D={}
    -- x=-300 A={-300,7} B={} C={-300,7} D={32004}
    -- x=7 A={-300,7} B={32004} C={-300,7,32004} D={}
    -- x=7 A={-300,7} B={} C={-300,7} D={32004}
    -- x=32003 A={-300,7} B={32003,32004} C={-300,7,32003,32004} D={}
    -- x=32003 A={-300,7} B={32003} C={-300,7,32003} D={32004}
    ∷ record { problem = 0x02 ∷ 0xD4 ∷ 0xFE ∷ 0x07 ∷ 0x00 ∷ 0x01 ∷ 0x78 ∷ 0x04 ∷ 0x41 ∷ 0x42 ∷ 0x43 ∷ 0x44 ∷ 0x04 ∷ 0x07 ∷ 0x00 ∷ 0x01 ∷ 0x02 ∷ 0x0B ∷ 0x00 ∷ 0x02 ∷ 0x00 ∷ 0x01 ∷ 0x01 ∷ 0x02 ∷ 0x02 ∷ 0x06 ∷ 0x01 ∷ 0x03 ∷ []; lines = (70 ∷ 79 ∷ 82 ∷ 77 ∷ 83 ∷ 32 ∷ 54 ∷ 32 ∷ 83 ∷ 84 ∷ 69 ∷ 80 ∷ 83 ∷ 32 ∷ 49 ∷ 51 ∷ 10 ∷ []) ∷ (120 ∷ 61 ∷ 45 ∷ 51 ∷ 48 ∷ 48 ∷ 32 ∷ 65 ∷ 61 ∷ 123 ∷ 45 ∷ 51 ∷ 48 ∷ 48 ∷ 44 ∷ 55 ∷ 125 ∷ 32 ∷ 66 ∷ 61 ∷ 123 ∷ 51 ∷ 50 ∷ 48 ∷ 48 ∷ 52 ∷ 125 ∷ 32 ∷ 67 ∷ 61 ∷ 123 ∷ 45 ∷ 51 ∷ 48 ∷ 48 ∷ 44 ∷ 55 ∷ 44 ∷ 51 ∷ 50 ∷ 48 ∷ 48 ∷ 52 ∷ 125 ∷ 32 ∷ 68 ∷ 61 ∷ 123 ∷ 125 ∷ 10 ∷ []) ∷ (120 ∷ 61 ∷ 45 ∷ 51 ∷ 48 ∷ 48 ∷ 32 ∷ 65 ∷ 61 ∷ 123 ∷ 45 ∷ 51 ∷ 48 ∷ 48 ∷ 44 ∷ 55 ∷ 125 ∷ 32 ∷ 66 ∷ 61 ∷ 123 ∷ 125 ∷ 32 ∷ 67 ∷ 61 ∷ 123 ∷ 45 ∷ 51 ∷ 48 ∷ 48 ∷ 44 ∷ 55 ∷ 125 ∷ 32 ∷ 68 ∷ 61 ∷ 123 ∷ 51 ∷ 50 ∷ 48 ∷ 48 ∷ 52 ∷ 125 ∷ 10 ∷ []) ∷ (120 ∷ 61 ∷ 55 ∷ 32 ∷ 65 ∷ 61 ∷ 123 ∷ 45 ∷ 51 ∷ 48 ∷ 48 ∷ 44 ∷ 55 ∷ 125 ∷ 32 ∷ 66 ∷ 61 ∷ 123 ∷ 51 ∷ 50 ∷ 48 ∷ 48 ∷ 52 ∷ 125 ∷ 32 ∷ 67 ∷ 61 ∷ 123 ∷ 45 ∷ 51 ∷ 48 ∷ 48 ∷ 44 ∷ 55 ∷ 44 ∷ 51 ∷ 50 ∷ 48 ∷ 48 ∷ 52 ∷ 125 ∷ 32 ∷ 68 ∷ 61 ∷ 123 ∷ 125 ∷ 10 ∷ []) ∷ (120 ∷ 61 ∷ 55 ∷ 32 ∷ 65 ∷ 61 ∷ 123 ∷ 45 ∷ 51 ∷ 48 ∷ 48 ∷ 44 ∷ 55 ∷ 125 ∷ 32 ∷ 66 ∷ 61 ∷ 123 ∷ 125 ∷ 32 ∷ 67 ∷ 61 ∷ 123 ∷ 45 ∷ 51 ∷ 48 ∷ 48 ∷ 44 ∷ 55 ∷ 125 ∷ 32 ∷ 68 ∷ 61 ∷ 123 ∷ 51 ∷ 50 ∷ 48 ∷ 48 ∷ 52 ∷ 125 ∷ 10 ∷ []) ∷ (120 ∷ 61 ∷ 51 ∷ 50 ∷ 48 ∷ 48 ∷ 51 ∷ 32 ∷ 65 ∷ 61 ∷ 123 ∷ 45 ∷ 51 ∷ 48 ∷ 48 ∷ 44 ∷ 55 ∷ 125 ∷ 32 ∷ 66 ∷ 61 ∷ 123 ∷ 51 ∷ 50 ∷ 48 ∷ 48 ∷ 51 ∷ 44 ∷ 51 ∷ 50 ∷ 48 ∷ 48 ∷ 52 ∷ 125 ∷ 32 ∷ 67 ∷ 61 ∷ 123 ∷ 45 ∷ 51 ∷ 48 ∷ 48 ∷ 44 ∷ 55 ∷ 44 ∷ 51 ∷ 50 ∷ 48 ∷ 48 ∷ 51 ∷ 44 ∷ 51 ∷ 50 ∷ 48 ∷ 48 ∷ 52 ∷ 125 ∷ 32 ∷ 68 ∷ 61 ∷ 123 ∷ 125 ∷ 10 ∷ []) ∷ (120 ∷ 61 ∷ 51 ∷ 50 ∷ 48 ∷ 48 ∷ 51 ∷ 32 ∷ 65 ∷ 61 ∷ 123 ∷ 45 ∷ 51 ∷ 48 ∷ 48 ∷ 44 ∷ 55 ∷ 125 ∷ 32 ∷ 66 ∷ 61 ∷ 123 ∷ 51 ∷ 50 ∷ 48 ∷ 48 ∷ 51 ∷ 125 ∷ 32 ∷ 67 ∷ 61 ∷ 123 ∷ 45 ∷ 51 ∷ 48 ∷ 48 ∷ 44 ∷ 55 ∷ 44 ∷ 51 ∷ 50 ∷ 48 ∷ 48 ∷ 51 ∷ 125 ∷ 32 ∷ 68 ∷ 61 ∷ 123 ∷ 51 ∷ 50 ∷ 48 ∷ 48 ∷ 52 ∷ 125 ∷ 10 ∷ []) ∷ [] }
    -- C1 and one byte more
    -- REFUSED 10
    ∷ record { problem = 0x02 ∷ 0x03 ∷ 0x00 ∷ 0x04 ∷ 0x00 ∷ 0x01 ∷ 0x78 ∷ 0x01 ∷ 0x41 ∷ 0x03 ∷ 0x01 ∷ 0x02 ∷ 0x00 ∷ 0x0C ∷ 0x00 ∷ 0x00 ∷ 0x01 ∷ 0x04 ∷ 0x02 ∷ 0x00 ∷ 0x00 ∷ []; lines = (82 ∷ 69 ∷ 70 ∷ 85 ∷ 83 ∷ 69 ∷ 68 ∷ 32 ∷ 49 ∷ 48 ∷ 10 ∷ []) ∷ [] }
    -- 65 constants
    -- REFUSED 11
    ∷ record { problem = (0x41 ∷ []) ++ words_from 0 65 ++ (0x00 ∷ 0x00 ∷ 0x00 ∷ []); lines = (82 ∷ 69 ∷ 70 ∷ 85 ∷ 83 ∷ 69 ∷ 68 ∷ 32 ∷ 49 ∷ 49 ∷ 10 ∷ []) ∷ [] }
    ∷ []

rows : map (λ (r : Row). listing r.problem) table ≡ map (λ (r : Row). r.lines) table
unfolding table record_length root_in inside_in listing program_call form_line decimal start assert next run root_at inside outside add_inside add_outside merge torn ◌>>=◌ ask byte bytes read_constraints read_sets read_variables read_constants read asked call
rows = refl

-- answers, and the first lines that say them
unfoldable headings : List (Answer × List ℕ)
headings =
    -- FORMS 512 STEPS 1000
    (ended FORMS 1000 512, 70 ∷ 79 ∷ 82 ∷ 77 ∷ 83 ∷ 32 ∷ 53 ∷ 49 ∷ 50 ∷ 32 ∷ 83 ∷ 84 ∷ 69 ∷ 80 ∷ 83 ∷ 32 ∷ 49 ∷ 48 ∷ 48 ∷ 48 ∷ 10 ∷ [])
    -- FALSE 0 STEPS 12
    ∷ (ended FALSE 12 0, 70 ∷ 65 ∷ 76 ∷ 83 ∷ 69 ∷ 32 ∷ 48 ∷ 32 ∷ 83 ∷ 84 ∷ 69 ∷ 80 ∷ 83 ∷ 32 ∷ 49 ∷ 50 ∷ 10 ∷ [])
    -- SPENT 0 STEPS 1000
    ∷ (ended SPENT 1000 0, 83 ∷ 80 ∷ 69 ∷ 78 ∷ 84 ∷ 32 ∷ 48 ∷ 32 ∷ 83 ∷ 84 ∷ 69 ∷ 80 ∷ 83 ∷ 32 ∷ 49 ∷ 48 ∷ 48 ∷ 48 ∷ 10 ∷ [])
    -- NOROOM 910 STEPS 914
    ∷ (ended NOROOM 914 910, 78 ∷ 79 ∷ 82 ∷ 79 ∷ 79 ∷ 77 ∷ 32 ∷ 57 ∷ 49 ∷ 48 ∷ 32 ∷ 83 ∷ 84 ∷ 69 ∷ 80 ∷ 83 ∷ 32 ∷ 57 ∷ 49 ∷ 52 ∷ 10 ∷ [])
    -- REFUSED 1
    ∷ (refusal 1, 82 ∷ 69 ∷ 70 ∷ 85 ∷ 83 ∷ 69 ∷ 68 ∷ 32 ∷ 49 ∷ 10 ∷ [])
    -- no run answers this
    -- REFUSED 14
    ∷ (refusal 14, 82 ∷ 69 ∷ 70 ∷ 85 ∷ 83 ∷ 69 ∷ 68 ∷ 32 ∷ 49 ∷ 52 ∷ 10 ∷ [])
    ∷ []

headings_hold : map (λ (r : Answer × List ℕ). heading r.0) headings ≡ map (λ (r : Answer × List ℕ). r.1) headings
unfolding headings decimal
headings_hold = refl
