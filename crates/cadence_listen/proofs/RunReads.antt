-- The packets of a run over a new log are those of the metrics of its kept calls.
use Rattle.std.proofs.Common.{◌≡◌, ℕ, Option, List, [], ◌∷◌, ◌++◌, refl, sym, ap, ◌∙◌, subst, inl}
use Rattle.std.specs.Prelude.{All}
use Rattle.std.specs.List.{AllByRecursion, AllZip, flat_map}
use Rattle.std.proofs.lemmas.List.{append-nil}
use Rattle.std.proofs.lemmas.List.Concat.{flat_map-append}
use Rattle.std.proofs.lemmas.List.Elements.{All-nil, All-from_recursion, recursion_from_All}
use Rattle.cadence_text.specs.Metric.{Metric}
use Rattle.cadence_text.specs.OneReading.{IsFreeOfSeparators}
use Rattle.cadence_text.specs.Representable.{IsRepresentable}
use Rattle.cadence_flow.specs.Frame.{held_packet}
use Rattle.cadence_flow.specs.Log.{LogState, log_history, log_kind, has_no_short}
use Rattle.cadence_schedule.specs.declared.steps.Step.{Step}
use Rattle.cadence_schedule.specs.Headline.{ReportsWhole, packets_of_run}
use Rattle.cadence_schedule.specs.Packets.{IsPacketOfOnly, ReadsAs}
use Rattle.cadence_schedule.specs.Report.{Outcome}
use Rattle.cadence_settings.specs.Settings.{Settings}
use Rattle.cadence_read.specs.Listed.{AreListed, IsListed, IsListOf}
use Rattle.cadence_listen.specs.RunRead.{IsBare, IsNewWhole, IsRun, given_to, kept_metrics, texts_of_run}

-- what a metric needs beside texts without separators, so that it is listed
abbrev IsPlain : Metric → Type 0
IsPlain metric = IsRepresentable metric × IsBare metric

each_plain : (ms : List Metric) → AllByRecursion IsRepresentable ms → AllByRecursion IsBare ms → AllByRecursion IsPlain ms
each_plain [] representable bare = tt
each_plain (m ∷ ms) (representable, saids) (bare, bares) = ((representable, bare), each_plain ms saids bares)

each_listed : (ms : List Metric) → AllByRecursion IsFreeOfSeparators ms → AllByRecursion IsPlain ms → AllByRecursion IsListed ms
each_listed [] free plain = tt
each_listed (m ∷ ms) (free, frees) ((representable, bare), plains) =
    (record { representable = representable; free = free; bare = bare }, each_listed ms frees plains)

split_append : {X : Type 0} (P : X → Type 0) (xs ys : List X) → AllByRecursion P (xs ++ ys) → AllByRecursion P xs × AllByRecursion P ys
split_append P [] ys h = (tt, h)
split_append P (x ∷ xs) ys (h, hs) = let (front, back) = split_append P xs ys hs in ((h, front), back)

lists_listed : (lists : List (List Metric)) (packets : List (List ℕ)) → AllZip (IsPacketOfOnly IsFreeOfSeparators) lists packets
    → AllByRecursion IsPlain (flat_map (λ list. list) lists) → AllZip IsListOf packets lists
lists_listed [] [] h plain = tt
lists_listed [] (p ∷ ps) h plain = absurd h
lists_listed (x ∷ xs) [] h plain = absurd h
lists_listed (x ∷ xs) (p ∷ ps) (one, rest) plain =
    let (here, later) = split_append IsPlain x (flat_map (λ list. list) xs) plain in (
      record { listed = All-from_recursion IsListed x (each_listed x (recursion_from_All IsFreeOfSeparators x one.each) here); whole = one.reads },
      lists_listed xs ps rest later,
    )

zip_more : (packets : List (List ℕ)) (lists : List (List Metric)) (p : List ℕ) (list : List Metric) → AllZip IsListOf packets lists
    → IsListOf p list → AllZip IsListOf (packets ++ p ∷ []) (lists ++ list ∷ [])
zip_more [] [] p list h one = (one, tt)
zip_more [] (l ∷ ls) p list h one = absurd h
zip_more (a ∷ ps) [] p list h one = absurd h
zip_more (a ∷ ps) (l ∷ ls) p list (h, hs) one = (h, zip_more ps ls p list hs one)

-- If the held text is empty, its list of metrics is empty.
with_held : (packets : List (List ℕ)) (held : List ℕ) (lists : List (List Metric)) → AllZip IsListOf (packets ++ held_packet held) lists
    → AreListed (packets ++ held ∷ []) (flat_map (λ list. list) lists)
with_held packets [] lists h =
    let none : AllZip IsListOf packets lists = subst (λ ps. AllZip IsListOf ps lists) (append-nil packets) h in (
      lists ++ [] ∷ [],
      zip_more packets lists [] [] none (record { listed = All-nil IsListed; whole = inl refl }),
      flat_map-append
          (λ list. list) lists ([] ∷ [])
          ∙ append-nil (flat_map (λ list. list) lists),
    )
with_held packets (byte ∷ rest) lists h = (lists, h, refl)

reads_listed : (metrics : List Metric) (packets : List (List ℕ)) (held : List ℕ) → All IsRepresentable metrics → All IsBare metrics → ReadsAs IsFreeOfSeparators metrics packets held
    → AreListed (packets ++ held ∷ []) metrics
reads_listed metrics packets held representable bare (lists, joined, zipped) =
    let plain : AllByRecursion IsPlain metrics =
    each_plain metrics (recursion_from_All IsRepresentable metrics representable) (recursion_from_All IsBare metrics bare) in
    let each : AllByRecursion IsPlain (flat_map (λ list. list) lists) = subst (AllByRecursion IsPlain) (sym joined) plain in
    subst (AreListed (packets ++ held ∷ [])) joined (with_held packets held lists (lists_listed lists (packets ++ held_packet held) zipped each))

-- If the metrics of the kept calls have no separators, no external data and no cardinality, then the packets and the held
-- text are the packets of these metrics.
pub kept_listed : {A : Type 0} (settings : Settings) (capacity : ℕ) (queue : Option ℕ) (steps : List (Step A)) (log : LogState)
    (outcome : Outcome LogState A)
    → IsNewWhole log → IsRun (given_to settings capacity queue steps log) outcome
    → All IsFreeOfSeparators (kept_metrics (given_to settings capacity queue steps log) outcome)
    → All IsBare (kept_metrics (given_to settings capacity queue steps log) outcome)
    → AreListed (texts_of_run outcome) (kept_metrics (given_to settings capacity queue steps log) outcome)
kept_listed settings capacity queue steps log outcome (script, new, whole) run free bare =
    let given = given_to settings capacity queue steps log in
    let kind : ReportsWhole (log_kind log) = (refl, ap (λ l. has_no_short l.script) new ∙ whole) in
    let packets : packets_of_run log_history given outcome ≡ outcome.writer.packets =
    ap (λ (l : LogState). packets_of_run log_history (given_to settings capacity queue steps l) outcome) new in
    let reads = run.beside.one_reading kind refl free in
    subst (λ ps. AreListed (ps ++ outcome.held ∷ []) (kept_metrics given outcome)) packets
    (reads_listed (kept_metrics given outcome) (packets_of_run log_history given outcome) outcome.held run.beside.representable bare reads)
