-- Document 01's example, its cases "by run", and a case for each refusal and status of listing, computed by the definitions.
use mathlib.Core.Path.{◌≡◌, refl}
use mathlib.Core.List.{List, [], ◌∷◌, ◌++◌, map}
use Prim.Native.Nat.{ℕ, ◌+◌, ◌*◌}
use lib.ListN.{length, replicate, take, drop}
use Rattle.listing.specs.Listing as Listing
use Rattle.listing.specs.Listing.{Result, listed_result, result, record_numbers, listing, stored}
use Rattle.listed_records.proofs.Computing.{computing}

-- ---- The example, word by word

abbrev example_catalog : List ℕ
example_catalog =
    0x0001 ∷ 0x0384 ∷ 0x0000 ∷ 0x0000 ∷ 0x0000 ∷ 0x0000 ∷ 0x0000 ∷ 0x0000
    ∷ 0x0003 ∷ 0x0001 ∷ 0x0001 ∷ 0x0001 ∷ 0x0002 ∷ 0x0003 ∷ 0x0001 ∷ 0x0000
    ∷ 0x0003 ∷ 0x0002 ∷ 0x0002 ∷ 0x0001 ∷ 0x0000 ∷ 0x0000 ∷ 0x0001 ∷ 0x0000
    ∷ 0x0003 ∷ 0x0003 ∷ 0x0008 ∷ 0x0001 ∷ 0x0000 ∷ 0x0000 ∷ 0x0001 ∷ 0x0000
    ∷ 0x0002 ∷ 0x0004 ∷ 0x0000 ∷ 0x0001 ∷ 0x0002 ∷ 0x0000 ∷ 0x0000 ∷ 0x0000
    ∷ 0x0003 ∷ 0x0005 ∷ 0x000A ∷ 0x0002 ∷ 0x0000 ∷ 0x0000 ∷ 0x0000 ∷ 0x0001
    ∷ 0x0004 ∷ 0x0000 ∷ 0x0000 ∷ 0x0000 ∷ 0x0000 ∷ 0x0000 ∷ 0x0000 ∷ 0x0000
    ∷ 0x0004 ∷ 0x0000 ∷ 0x0000 ∷ 0x0000 ∷ 0x0000 ∷ 0x0000 ∷ 0x0000 ∷ 0x0000
    ∷ []

abbrev example_map : List ℕ
example_map =
    0x5375 ∷ 0x6E53 ∷ 0x0001 ∷ 0x0001 ∷ 0x0000 ∷ 0x0384 ∷ 0x0007 ∷ 0x00E6
    ∷ 0x0002 ∷ 0xFFFF ∷ 0x0000 ∷ 0x0005 ∷ 0xFFFF ∷ 0xFFFF ∷ 0xFFFF ∷ 0x0000
    ∷ []

-- With a list of 52 entries: five records, and the last two entries as they were.
abbrev example_answer : Result × List ℕ
example_answer =
    let found = listing example_catalog example_map 52 in
    (result found, stored found (replicate 52 9))

pub example : example_answer
    ≡ (
      listed_result 5 3,
      1 ∷ 900 ∷ 1 ∷ 0 ∷ 0 ∷ 0 ∷ 7 ∷ 0 ∷ 230 ∷ 65535
          ∷ 1 ∷ 900 ∷ 2 ∷ 0 ∷ 0 ∷ 0 ∷ 8 ∷ 0 ∷ 2 ∷ 0
          ∷ 1 ∷ 900 ∷ 3 ∷ 0 ∷ 0 ∷ 0 ∷ 9 ∷ 0 ∷ 65535 ∷ 0
          ∷ 1 ∷ 900 ∷ 5 ∷ 0 ∷ 0 ∷ 0 ∷ 10 ∷ 0 ∷ 5 ∷ 0
          ∷ 1 ∷ 900 ∷ 5 ∷ 1 ∷ 0 ∷ 0 ∷ 12 ∷ 1 ∷ 4294967295 ∷ 0
          ∷ 9 ∷ 9 ∷ [],
    )
unfolding computing
example = refl

-- ---- Catalogs and maps by hand

-- A model frame.
abbrev pub model : ℕ → List ℕ
model id = 1 ∷ id ∷ 0 ∷ 0 ∷ 0 ∷ 0 ∷ 0 ∷ 0 ∷ []

-- A group with a constant count, with the value of a point as its count, and the fill group.
abbrev pub times : ℕ → ℕ → List ℕ
times number count = 2 ∷ number ∷ 0 ∷ 0 ∷ count ∷ 0 ∷ 0 ∷ 0 ∷ []

abbrev counted : ℕ → ℕ → List ℕ
counted number by = 2 ∷ number ∷ 0 ∷ 1 ∷ by ∷ 0 ∷ 0 ∷ 0 ∷ []

abbrev filling : ℕ → List ℕ
filling number = 2 ∷ number ∷ 0 ∷ 2 ∷ 0 ∷ 0 ∷ 0 ∷ 0 ∷ []

-- A point with no scale factor, optional, R: its number, type and size.
abbrev pub point : ℕ → ℕ → ℕ → List ℕ
point number type_code size = 3 ∷ number ∷ type_code ∷ size ∷ 0 ∷ 0 ∷ 0 ∷ 0 ∷ []

-- The same point, mandatory.
abbrev mandatory : List ℕ → List ℕ
mandatory p = take 6 p ++ 1 ∷ drop 7 p

-- A uint16 and a sunssf point.
abbrev pub uint16 : ℕ → List ℕ
uint16 number = point number 2 1

abbrev pub sunssf : ℕ → List ℕ
sunssf number = point number 8 1

-- An int16 point with a fixed scale factor, and one with the value of a point as its scale factor.
abbrev fixed : ℕ → ℕ → List ℕ
fixed number scale = 3 ∷ number ∷ 1 ∷ 1 ∷ 1 ∷ scale ∷ 0 ∷ 0 ∷ []

abbrev pub scaled : ℕ → ℕ → List ℕ
scaled number by = 3 ∷ number ∷ 1 ∷ 1 ∷ 2 ∷ by ∷ 0 ∷ 0 ∷ []

-- An acc16 whose scale factor is the value of a point.
abbrev counter : ℕ → ℕ → List ℕ
counter number by = 3 ∷ number ∷ 3 ∷ 1 ∷ 2 ∷ by ∷ 0 ∷ 0 ∷ []

-- An end frame.
abbrev pub end : List ℕ
end = 4 ∷ 0 ∷ 0 ∷ 0 ∷ 0 ∷ 0 ∷ 0 ∷ 0 ∷ []

-- The words of frames.
abbrev pub joined : List (List ℕ) → List ℕ
joined [] = []
joined (w ∷ ws) = w ++ joined ws

-- A map of a model 1 with one register, followed by `rest` from address 5 on.
abbrev pub from5 : List ℕ → List ℕ
from5 rest = 0x5375 ∷ 0x6E53 ∷ 1 ∷ 1 ∷ 7 ∷ rest

-- A map of a model 1 with one register and a model 900, whose body begins at address 7.
abbrev pub body : List ℕ → List ℕ
body registers = from5 (900 ∷ length registers ∷ registers ++ 0xFFFF ∷ 0 ∷ [])

-- What listing gives: a refusal with number, place and headers, or the numbers of the records and the headers.
pub data Shown : Type 0 where
  refused : ℕ → ℕ → ℕ → Shown
  listed : List (List ℕ) → ℕ → Shown

-- An answer with the numbers of its records.
abbrev pub shown : Listing.Answer → Shown
shown (Listing.refused number place headers) = refused number place headers
shown (Listing.listed rs headers) = listed (map record_numbers rs) headers

-- A record of the model 900 in such a map: point number, instance numbers, address, status, raw value, scale.
abbrev pub row : ℕ → ℕ → ℕ → ℕ → ℕ → ℕ → ℕ → ℕ → List ℕ
row number level2 level3 level4 address status raw scale =
    1 ∷ 900 ∷ number ∷ level2 ∷ level3 ∷ level4 ∷ address ∷ status ∷ raw ∷ scale ∷ []

-- A catalog, a map, the number of entries of the list, and the answer.
pub record Case : Type 0 where
  pub catalog : List ℕ
  pub registers : List ℕ
  pub capacity : ℕ
  pub answer : Shown

-- A case on one line.
abbrev case : List ℕ → List ℕ → ℕ → Shown → Case
case c r n a = record { catalog = c; registers = r; capacity = n; answer = a }

-- A fill group of size 6, and one of size 8 after a point of 16 registers.
abbrev six : List ℕ
six = joined (model 900 ∷ filling 1 ∷ point 2 19 6 ∷ end ∷ end ∷ [])

abbrev eight : List ℕ
eight = joined (model 900 ∷ point 3 19 16 ∷ filling 1 ∷ point 2 19 8 ∷ end ∷ end ∷ [])

-- A fill group after a point and a group with two instances.
abbrev fill_after : List ℕ
fill_after = joined (model 900 ∷ uint16 9 ∷ times 1 2 ∷ uint16 2 ∷ end ∷ filling 3 ∷ uint16 4 ∷ end ∷ end ∷ [])

-- A model whose last point is a pad; and a model 1 with a group after the pad.
abbrev padded : ℕ → List ℕ
padded id = joined (model id ∷ uint16 2 ∷ point 3 6 1 ∷ end ∷ [])

abbrev padded_group : List ℕ
padded_group = joined (model 1 ∷ uint16 2 ∷ point 3 6 1 ∷ times 4 1 ∷ uint16 5 ∷ end ∷ end ∷ [])

-- A map of one model 1.
abbrev model1 : List ℕ → List ℕ
model1 registers = 0x5375 ∷ 0x6E53 ∷ 1 ∷ length registers ∷ registers ++ 0xFFFF ∷ 0 ∷ []

-- The cases.
unfoldable pub cases : List Case
cases =
    -- Document 01, by run: size 6, fill, L 18 gives 3, 17 is 29, 0 is 25
    case six (body (replicate 18 5)) 30
    (listed (row 2 0 0 0 7 0 0 0 ∷ row 2 1 0 0 13 0 0 0 ∷ row 2 2 0 0 19 0 0 0 ∷ []) 3)
    ∷ case six (body (replicate 17 5)) 30 (refused 29 5 1)
    ∷ case six (body []) 30 (refused 25 5 1)
    -- 16 + 8 × 12 = 112 gives 12
    ∷ case eight (body (replicate 112 5)) 130
    (listed (row 3 0 0 0 7 0 0 0 ∷ map (λ j. row 2 j 0 0 (23 + 8 * j) 0 0 0)
    (0 ∷ 1 ∷ 2 ∷ 3 ∷ 4 ∷ 5 ∷ 6 ∷ 7 ∷ 8 ∷ 9 ∷ 10 ∷ 11 ∷ [])) 3)
    ∷ case eight (body (replicate 16 5)) 10 (listed (row 3 0 0 0 7 0 0 0 ∷ []) 3)  -- none is a fill, too
    ∷ case eight (body (replicate 15 5)) 10 (refused 27 5 1)
    ∷ case eight (body (replicate 23 5)) 10 (refused 29 5 1)
    ∷ case fill_after (body (1 ∷ 2 ∷ [])) 90 (refused 29 5 1)  -- below the rest
    ∷ case fill_after (body (1 ∷ 2 ∷ 3 ∷ 4 ∷ 5 ∷ [])) 90
    (listed (
    row 9 0 0 0 7 0 1 0 ∷ row 2 0 0 0 8 0 2 0 ∷ row 2 1 0 0 9 0 3 0 ∷ row 4 0 0 0 10 0 4 0 ∷ row 4 1 0 0 11 0 5 0 ∷ []) 3)
    -- Model 1 whose last point is a pad: one short, it is left out
    ∷ case (padded 1) (model1 (7 ∷ [])) 20 (listed ((0 ∷ 1 ∷ 2 ∷ 0 ∷ 0 ∷ 0 ∷ 4 ∷ 0 ∷ 7 ∷ 0 ∷ []) ∷ []) 2)
    ∷ case (padded 1) (model1 (7 ∷ 0x8000 ∷ [])) 20
    (listed ((0 ∷ 1 ∷ 2 ∷ 0 ∷ 0 ∷ 0 ∷ 4 ∷ 0 ∷ 7 ∷ 0 ∷ []) ∷ (0 ∷ 1 ∷ 3 ∷ 0 ∷ 0 ∷ 0 ∷ 5 ∷ 0 ∷ 32768 ∷ 0 ∷ []) ∷ []) 2)
    ∷ case (padded 1) (model1 (7 ∷ 0x8000 ∷ 0 ∷ [])) 20 (refused 29 2 0)
    ∷ case (padded 900) (body (7 ∷ [])) 20 (refused 27 5 1)  -- not model 1
    ∷ case padded_group (model1 (7 ∷ [])) 30 (refused 27 2 0)  -- not without groups
    -- 27, 28, 29 in this order, and 30 last
    ∷ case example_catalog (body (230 ∷ 0xFFFF ∷ [])) 0 (refused 27 5 1)
    ∷ case example_catalog (body (230 ∷ 0xFFFF ∷ 0xFFFF ∷ 0 ∷ [])) 0 (refused 28 5 1)
    ∷ case example_catalog (body (230 ∷ 2 ∷ 0xFFFF ∷ 0 ∷ 5 ∷ 0 ∷ [])) 0 (refused 29 5 1)
    ∷ case example_catalog example_map 49 (refused 30 5 3)
    ∷ case example_catalog (body (230 ∷ 0 ∷ 0xFFFF ∷ [])) 30  -- a count of 0
    (listed (row 1 0 0 0 7 0 230 65535 ∷ row 2 0 0 0 8 0 0 0 ∷ row 3 0 0 0 9 0 65535 0 ∷ []) 3)
    -- Status 3 and 4, by the scale point; 2 and 5 of the scale point itself; 2 wins over 3
    ∷ case example_catalog (body (230 ∷ 0 ∷ 0x8000 ∷ [])) 30
    (listed (row 1 0 0 0 7 3 230 0 ∷ row 2 0 0 0 8 0 0 0 ∷ row 3 0 0 0 9 2 32768 0 ∷ []) 3)
    ∷ case example_catalog (body (230 ∷ 0 ∷ 0x000B ∷ [])) 30
    (listed (row 1 0 0 0 7 4 230 0 ∷ row 2 0 0 0 8 0 0 0 ∷ row 3 0 0 0 9 5 11 0 ∷ []) 3)
    ∷ case example_catalog (body (0x8000 ∷ 0 ∷ 0x8000 ∷ [])) 30
    (listed (row 1 0 0 0 7 2 32768 0 ∷ row 2 0 0 0 8 0 0 0 ∷ row 3 0 0 0 9 2 32768 0 ∷ []) 3)
    -- Status 1 and 5; FFFF is a value of an optional acc16, and 0 is not
    ∷ case (joined (model 900 ∷ point 1 3 1 ∷ point 2 3 1 ∷ point 3 5 1 ∷ end ∷ [])) (body (0xFFFF ∷ 0 ∷ 0x8000 ∷ [])) 30
    (listed (row 1 0 0 0 7 0 65535 0 ∷ row 2 0 0 0 8 1 0 0 ∷ row 3 0 0 0 9 5 32768 0 ∷ []) 3)
    -- Change request 2: a mandatory acc16, acc32 or acc64 at 0 is a value, and an optional one or a mandatory ipaddr is not
    ∷ case (joined (
    model 900 ∷ mandatory (point 1 3 1) ∷ mandatory (point 2 11 2) ∷ mandatory (point 3 18 4) ∷ point 4 3 1 ∷ mandatory (point 5 15 2)
    ∷ end ∷ []))
    (body (replicate 10 0)) 50
    (listed (row 1 0 0 0 7 0 0 0 ∷ row 2 0 0 0 8 0 0 0 ∷ row 3 0 0 0 10 0 0 0 ∷ row 4 0 0 0 14 1 0 0 ∷ row 5 0 0 0 15 2 0 0 ∷ []) 3)
    -- Its scale point gives its scale, or status 3 or 4; an optional one keeps status 1
    ∷ case (joined (
    model 900 ∷ mandatory (counter 1 2) ∷ sunssf 2 ∷ mandatory (counter 3 4) ∷ sunssf 4 ∷ mandatory (counter 5 6) ∷ sunssf 6
    ∷ counter 7 6 ∷ end ∷ []))
    (body (0 ∷ 0xFFFE ∷ 0 ∷ 0x8000 ∷ 0 ∷ 11 ∷ 0 ∷ [])) 70
    (listed (
    row 1 0 0 0 7 0 0 65534 ∷ row 2 0 0 0 8 0 65534 0 ∷ row 3 0 0 0 9 3 0 0 ∷ row 4 0 0 0 10 1 32768 0
    ∷ row 5 0 0 0 11 4 0 0 ∷ row 6 0 0 0 12 5 11 0 ∷ row 7 0 0 0 13 1 0 0 ∷ []) 3)
    -- A fixed scale factor, shown only with status 0
    ∷ case (joined (model 900 ∷ fixed 1 0xFFFE ∷ fixed 2 3 ∷ end ∷ [])) (body (15 ∷ 0x8000 ∷ [])) 20
    (listed (row 1 0 0 0 7 0 15 65534 ∷ row 2 0 0 0 8 1 32768 0 ∷ []) 3)
    -- A scale factor of the same instance, of the enclosing group's same instance, and of the top group
    ∷ case (joined (model 900 ∷ times 1 2 ∷ scaled 2 3 ∷ sunssf 3 ∷ end ∷ end ∷ [])) (body (100 ∷ 0xFFFF ∷ 200 ∷ 1 ∷ [])) 40
    (listed (row 2 0 0 0 7 0 100 65535 ∷ row 3 0 0 0 8 0 65535 0 ∷ row 2 1 0 0 9 0 200 1 ∷ row 3 1 0 0 10 0 1 0 ∷ []) 3)
    ∷ case (joined (model 900 ∷ times 1 2 ∷ sunssf 9 ∷ times 3 2 ∷ scaled 2 9 ∷ end ∷ end ∷ end ∷ []))
    (body (1 ∷ 5 ∷ 6 ∷ 0xFFFF ∷ 7 ∷ 8 ∷ [])) 60
    (listed (
    row 9 0 0 0 7 0 1 0 ∷ row 2 0 0 0 8 0 5 1 ∷ row 2 0 1 0 9 0 6 1
    ∷ row 9 1 0 0 10 0 65535 0 ∷ row 2 1 0 0 11 0 7 65535 ∷ row 2 1 1 0 12 0 8 65535 ∷ []) 3)
    ∷ case (joined (model 900 ∷ sunssf 9 ∷ times 1 2 ∷ scaled 2 9 ∷ end ∷ end ∷ [])) (body (0xFFFE ∷ 5 ∷ 6 ∷ [])) 30
    (listed (row 9 0 0 0 7 0 65534 0 ∷ row 2 0 0 0 8 0 5 65534 ∷ row 2 1 0 0 9 0 6 65534 ∷ []) 3)
    -- Four levels; sibling groups; a count point of the top group for a group at level 3
    ∷ case (joined (
    model 900 ∷ times 1 1 ∷ uint16 2 ∷ times 3 1 ∷ uint16 4 ∷ times 5 2 ∷ uint16 6 ∷ end ∷ end ∷ end ∷ end ∷ []))
    (body (1 ∷ 2 ∷ 3 ∷ 4 ∷ [])) 40
    (listed (row 2 0 0 0 7 0 1 0 ∷ row 4 0 0 0 8 0 2 0 ∷ row 6 0 0 0 9 0 3 0 ∷ row 6 0 0 1 10 0 4 0 ∷ []) 3)
    ∷ case (joined (model 900 ∷ times 1 2 ∷ uint16 2 ∷ end ∷ times 3 1 ∷ uint16 4 ∷ end ∷ end ∷ [])) (body (1 ∷ 2 ∷ 3 ∷ [])) 30
    (listed (row 2 0 0 0 7 0 1 0 ∷ row 2 1 0 0 8 0 2 0 ∷ row 4 0 0 0 9 0 3 0 ∷ []) 3)
    ∷ case (joined (model 900 ∷ uint16 9 ∷ times 1 2 ∷ uint16 2 ∷ counted 3 9 ∷ uint16 4 ∷ end ∷ end ∷ end ∷ []))
    (body (1 ∷ 2 ∷ 3 ∷ 4 ∷ 5 ∷ [])) 50
    (listed (
    row 9 0 0 0 7 0 1 0 ∷ row 2 0 0 0 8 0 2 0 ∷ row 4 0 0 0 9 0 3 0 ∷ row 2 1 0 0 10 0 4 0 ∷ row 4 1 0 0 11 0 5 0 ∷ []) 3)
    ∷ case (joined (model 900 ∷ uint16 9 ∷ times 1 2 ∷ uint16 2 ∷ counted 3 9 ∷ uint16 4 ∷ end ∷ end ∷ end ∷ []))
    (body (0xFFFF ∷ 2 ∷ 3 ∷ [])) 50 (refused 28 5 1)
    -- 20 to 26; registers past the marker are ignored; a refusal of the catalog comes first, and that of a model at its header
    ∷ case [] (replicate 65537 0) 0 (refused 20 0 0)  -- and not 21
    ∷ case [] (replicate 65536 0) 0 (refused 21 0 0)
    ∷ case [] [] 0 (refused 21 0 0)
    ∷ case [] (0x5375 ∷ 0x6E53 ∷ []) 0 (refused 22 2 0)
    ∷ case [] (from5 (900 ∷ [])) 0 (refused 22 5 1)
    ∷ case [] (0x5375 ∷ 0x6E53 ∷ 2 ∷ 1 ∷ 7 ∷ 0xFFFF ∷ 0 ∷ []) 0 (refused 23 2 0)
    ∷ case [] (0x5375 ∷ 0x6E53 ∷ 0xFFFF ∷ 0 ∷ []) 0 (refused 23 2 0)
    ∷ case [] (from5 (0 ∷ 1 ∷ 7 ∷ 0xFFFF ∷ 0 ∷ [])) 0 (refused 24 5 1)
    ∷ case [] (from5 (0xFFFF ∷ 1 ∷ [])) 0 (refused 25 5 1)
    ∷ case [] (from5 (900 ∷ 3 ∷ 1 ∷ 2 ∷ [])) 0 (refused 26 5 1)
    ∷ case [] (from5 (900 ∷ 2 ∷ 1 ∷ 2 ∷ 0xFFFF ∷ 0 ∷ 3 ∷ [])) 0 (listed [] 3)
    ∷ case end [] 0 (refused 4 0 0)
    ∷ case six (from5 (900 ∷ 1 ∷ 7 ∷ [])) 0 (refused 29 5 1)  -- and not 22 after it
    ∷ []

-- What listing gives in a case.
abbrev answers : Case → Shown
answers c = shown (listing c.catalog c.registers c.capacity)

-- Every case has the answer that the list says.
pub worked_cases : map answers cases ≡ map (λ (c : Case). c.answer) cases
unfolding cases computing
worked_cases = refl
