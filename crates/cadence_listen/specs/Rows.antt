-- What is printed of the lines of a packet, in columns.
use Rattle.std.specs.Prelude.{◌≡◌, ◌≢◌, ◌<◌, ◌+◌, ◌⊎◌, ℕ, List, [], ◌∷◌, ◌++◌, Option, Some, None, codes, length}
use Rattle.std.specs.Fmt.{decimal}
use denote.Ref.{Bor}
use Rattle.cadence_cli.specs.Escapes.{escaped_bytes}
use Rattle.cadence_text.specs.Metric.{Metric}
use Rattle.cadence_read.specs.Cuts.{IsFound}
use Rattle.cadence_read.specs.Listed.{IsMetricOf}
use Rattle.cadence_read.specs.declared.any_line.AnyLine.{AnyLine}
use Rattle.cadence_read.specs.declared.any_line.AnyLine.TheVariants.{Event, MetricLine, Opaque, ServiceCheck}
use Rattle.cadence_value.specs.Finds.{HasNone}
use Rattle.cadence_listen.specs.Filters.{IsKept}
use Rattle.cadence_listen.specs.Places.{IsPlace}
use Rattle.cadence_listen.specs.declared.filter.Filter.{Filter}
use Rattle.cadence_listen.specs.declared.watch.Origin.{Origin}

-- a tab, and the bytes as they are printed
abbrev pub column : List ℕ → List ℕ
column bytes = 9 ∷ escaped_bytes bytes

-- what is printed of a line: of a metric its parts, and of every other line the whole line
abbrev pub row_of : AnyLine → List ℕ
row_of (MetricLine p) =
    codes "metric" ++ (column p.name.now ++ (column p.values.now ++ (column p.kind.now ++ column p.fields.now)))
row_of (Event text) = codes "event" ++ column text.now
row_of (ServiceCheck text) = codes "check" ++ column text.now
row_of (Opaque text) = codes "unreadable" ++ column text.now

-- The remark names the byte at a place, by its number from 1, and what is wanted there.
abbrev pub SaysPlace : ℕ → List ℕ → Type 0
SaysPlace at text = (why : List ℕ) × (text ≡ codes "byte " ++ (decimal (at + 1) ++ (codes ": statsd_listen wants " ++ why)))

-- There is no remark on a line that some metric has. If there is one, then no metric has the line, and what is before the
-- byte that the remark names is the beginning of some metric's line.
abbrev pub IsRemarkOn : List ℕ → Option (List ℕ) → Type 0
IsRemarkOn line None = (metric : Metric) × IsMetricOf line metric
IsRemarkOn line (Some text) = HasNone (IsMetricOf line) × ((at : ℕ) × IsPlace line at × SaysPlace at text)

-- Only a line that was cut as a metric's may have a remark.
abbrev pub IsRemarkOf : List ℕ → AnyLine → Option (List ℕ) → Type 0
IsRemarkOf line (MetricLine p) remark = IsRemarkOn line remark
IsRemarkOf line (Event text) remark = remark ≡ None
IsRemarkOf line (ServiceCheck text) remark = remark ≡ None
IsRemarkOf line (Opaque text) remark = remark ≡ None

-- a column behind what is printed of a line: a tab and the remark, or nothing if there is none
abbrev pub remark_column : Option (List ℕ) → List ℕ
remark_column None = []
remark_column (Some text) = 9 ∷ text

-- a column before what is printed of a line: the text and a tab, or nothing if there is no text
abbrev pub front_column : Option (Bor (List ℕ)) → List ℕ
front_column None = []
front_column (Some text) = text.now ++ 9 ∷ []

-- The row of a line: what is known of its packet, what the line is, the remark on it, and a newline.
abbrev pub IsRow : Origin → List ℕ → AnyLine → List ℕ → Type 0
IsRow origin line is row =
    (remark : Option (List ℕ)) × IsRemarkOf line is remark
    × (row ≡ front_column origin.time ++ (front_column origin.sender ++ (row_of is ++ (remark_column remark ++ 10 ∷ []))))

-- The second text is the first one without this byte at its end. If the byte isn't there, they are the same.
abbrev pub IsWithoutLast : ℕ → List ℕ → List ℕ → Type 0
IsWithoutLast last text front = (text ≡ front ++ last ∷ []) ⊎ ((front ≡ text) × ((other : List ℕ) → text ≢ other ++ last ∷ []))

-- If the filter keeps the line, which isn't empty, then its row is printed. Otherwise nothing is printed.
abbrev pub IsPrinted : Filter → Origin → List ℕ → AnyLine → List ℕ → Type 0
IsPrinted filter origin line is row =
    ((0 < length line) × IsKept filter is × IsRow origin line is row) ⊎ (((length line ≡ 0) ⊎ (IsKept filter is → ⊥)) × (row ≡ []))

-- What is printed of a text between newlines: its line doesn't have the carriage return at the end of the text.
pub record IsRowOf (filter : Filter) (origin : Origin) (piece row : List ℕ) : Type 0 where
  pub line : List ℕ
  pub cut : IsWithoutLast 13 piece line
  pub is : AnyLine
  pub found : IsFound line is
  pub printed : IsPrinted filter origin line is row

-- What is printed of texts between newlines, in order.
abbrev pub AreRows : Filter → Origin → List (List ℕ) → List ℕ → Type 0
AreRows filter origin [] text = text ≡ []
AreRows filter origin (piece ∷ pieces) text =
    (row : List ℕ) × (rest : List ℕ) × IsRowOf filter origin piece row × AreRows filter origin pieces rest × (text ≡ row ++ rest)
