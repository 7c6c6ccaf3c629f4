-- How the packets that a writer took are cut from the frames of the accepted lines, if short counts may come.
--
--   offers:  short short last | short last | last  | short short, and the held text
--   lines:   line line line   | line       | line  | line line line
--            a run            | a run      | a run | the rest
--
-- Each run is the offers above and the lines below: what the writer took of those offers, joined, is the frames of
-- those lines. The rest is the short counts that came since the last run; together with the held text they are the
-- frames of the lines that remain. If no short count comes, each packet of the writer is therefore whole frames.
use Rattle.std.specs.Prelude.{◌≡◌, ℕ, List, [], ◌∷◌, ◌++◌, length, map, take, All}
use Rattle.std.specs.List.{concat, flat_map}
use Rattle.cadence_flow.specs.Frame.{Format, taken_stream}
use Rattle.cadence_flow.specs.Offers.{Offer, IsShort}

-- the bytes that a writer took of these offers, joined
abbrev pub bytes_taken : List Offer → List ℕ
bytes_taken offers = concat (map (λ p. take p.1 p.0) offers)

-- a run: short counts, perhaps none, then a packet that was taken whole, and the accepted lines that they are cut from
pub record Run : Type 0 where
  pub shorts : List Offer
  pub last : List ℕ
  pub lines : List (List ℕ × ℕ)

-- the offers of a run
abbrev pub offers_in : Run → List Offer
offers_in run = run.shorts ++ (run.last, length run.last) ∷ []

-- The bytes of a run's offers are the frames of its lines.
pub record IsPacketRun (format : Format) (run : Run) : Type 0 where
  pub all_short : All IsShort run.shorts
  pub frames : bytes_taken (offers_in run) ≡ taken_stream format run.lines

-- The offers and the accepted lines are those of some runs and a rest, as drawn above.
pub record IsCut (format : Format) (offers : List Offer) (accepted : List (List ℕ × ℕ)) (held : List ℕ) : Type 0 where
  pub runs : List Run
  pub shorts : List Offer
  pub lines : List (List ℕ × ℕ)
  pub each : All (IsPacketRun format) runs
  pub all_short : All IsShort shorts
  pub all_offers : offers ≡ flat_map offers_in runs ++ shorts
  pub all_lines : accepted ≡ flat_map (λ run. run.lines) runs ++ lines
  pub rest : bytes_taken shorts ++ held ≡ taken_stream format lines
