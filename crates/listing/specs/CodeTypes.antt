-- The code's types as values of the definitions: what `list` and `find` return.
use Rattle.std.specs.Prelude.{◌≡◌, Option, Some, None, Result, Ok, Err, List, ℕ, ◌+◌, ◌-◌, ◌/◌, ◌≤◌, ◌++◌, length, codes, decimal}
use Rattle.refusals.specs.Refusals.{number, printed_with_place}
use Rattle.refusals.specs.declared.Refusal.{Refusal}
use Rattle.refusals.specs.declared.Refused.{Refused}
use Rattle.catalog_frames.specs.CodeTypes.{to_spec_point}
use Rattle.register_map.specs.Scan.{scan}
use Rattle.listing.specs.Listing as Listing
use Rattle.listing.specs.declared.Listed.{Listed}
use Rattle.listing.specs.declared.NotListed.{NotListed}
use Rattle.listing.specs.Finding as Finding
use Rattle.listing.specs.declared.search.Target.{Target}

-- What `list` returns. A refusal has no field for the count of points: it means count 0.
abbrev pub to_spec_listing : Result Listed NotListed → Listing.Result
to_spec_listing (Ok l) = Listing.listed_result l.points l.headers
to_spec_listing (Err r) = Listing.refused_result (number r.refusal) r.place r.headers 0

-- Document 01, "Listing": a walk to the end marker counts models + 1 headers, at most (registers − 1) / 3.
pub record AllHeaders (map : List ℕ) (headers : ℕ) : Type 0 where
  pub counted : headers ≡ length (scan map).models + 1
  pub bounded : headers ≤ (length map - 1) / 3

-- On acceptance and on 30 `list` returns this number of headers.
abbrev pub HeadersCounted : List ℕ → Result Listed NotListed → Type 0
HeadersCounted map (Ok l) = AllHeaders map l.headers
HeadersCounted map (Err r) = number r.refusal ≡ 30 → AllHeaders map r.headers

-- `refused` is the refusal of `not_listed` and its place.
abbrev pub WithoutHeaders : NotListed → Refused → Type 0
WithoutHeaders not_listed refused = refused ≡ record { refusal = not_listed.refusal; place = not_listed.place }

-- `not_listed` is the refusal `refused` before the first header.
abbrev pub BeforeHeaders : Refused → NotListed → Type 0
BeforeHeaders refused not_listed = not_listed ≡ record { refusal = refused.refusal; place = refused.place; headers = 0 }

-- `not_listed` is the refusal `refusal` at place 0, before the first header.
abbrev pub AtStart : Refusal → NotListed → Type 0
AtStart refusal not_listed = not_listed ≡ record { refusal = refusal; place = 0; headers = 0 }

-- What a refusal of `list` prints, as in `5 at 3 headers 0`.
abbrev pub printed_with_headers : NotListed → List ℕ
printed_with_headers r =
    printed_with_place (record { refusal = r.refusal; place = r.place }) ++ codes " headers " ++ decimal r.headers

-- The point that `find` returns.
abbrev pub to_spec_target : Target → Finding.Target
to_spec_target t = record { address = t.address; definition = to_spec_point t.point; raw = t.raw }

-- What `find` returns.
abbrev pub to_spec_finding : Result (Option Target) Refused → Finding.Result
to_spec_finding (Ok (Some t)) = Finding.found_result (to_spec_target t)
to_spec_finding (Ok None) = Finding.nothing_result
to_spec_finding (Err r) = Finding.refused_result (number r.refusal) r.place
