-- What a packer was given, in order, is in its packets and its held text, and their cut is as tight as it can be.
use Rattle.std.proofs.Common.{◌≡◌, ◌≢◌, ℕ, ◌+◌, ◌^◌, ◌<◌, List, [], ◌∷◌, ◌++◌, Ok, Err, true, length, refl, sym, ap, ◌∙◌, subst, arith}
use Rattle.std.specs.List.{AllByRecursion}
use Rattle.std.proofs.lemmas.List.{append-nil, append_assoc, length-append}
use Rattle.cadence_flow.proofs.Histories.{Extends-trans}
use Rattle.cadence_flow.specs.Frame.{Format, frame_of, held_packet, taken_stream}
use Rattle.cadence_flow.specs.Packer.{whole_text}
use Rattle.cadence_flow.specs.Writer.{Extends, PacketHistory, WriterKind}
use Rattle.cadence_schedule.proofs.packets.CutSoFar.{IsCutSoFar, marks_flush}
use Rattle.cadence_schedule.proofs.packets.CutLengths.{CutSince, has_last}
use Rattle.cadence_schedule.proofs.packets.PackerSteps.{cut_refused, cut_written, refused, written}
use Rattle.cadence_schedule.specs.PackedRuns.{PackedState, PackingView, Packs, AllMovePacker, packed_state, packer_in_state}
use Rattle.cadence_stage.specs.Call.{Call, Flush, Line}
use Rattle.cadence_stage.specs.Past.{taken_in}
use Rattle.cadence_aggregate.specs.Led.{AllLead}
use Rattle.cadence_schedule.specs.Calls.{marks_from, refusals_from, texts_in}

-- Each kept line is not empty.
abbrev pub AreFilled : List (List ℕ × ℕ) → Type 0
AreFilled kept = AllByRecursion (λ (k : List ℕ × ℕ). k.0 ≢ []) kept

module _ {P : Type 0} (kind : P → WriterKind) (history : P → PacketHistory) where
  -- What a packer was given leads from one state to the other, with the kind and the format of the first.
  pub record Moved (a b : PackingView P) (xs : List Call) : Type 0 where
    pub same_kind : kind b.packer.writer ≡ kind a.packer.writer
    pub same_format : b.packer.format ≡ a.packer.format
    pub all : AllMovePacker (kind a.packer.writer) a.packer.format (packed_state history a) xs (packed_state history b)

  pub moved : (xs : List Call) (a b : PackingView P) → AllLead (Packs kind history) a xs b → Moved a b xs
  moved [] a b same = subst (λ x. Moved a x []) (sym same) (record { same_kind = refl; same_format = refl; all = refl })
  moved (x ∷ xs) a b (mid, one, rest) =
      let m = moved xs mid b rest in
      record {
        same_kind = m.same_kind ∙ one.same_kind;
        same_format = m.same_format ∙ one.same_format;
        all = (
          packed_state history mid,
          one.moves,
          subst (λ f. AllMovePacker (kind a.packer.writer) f (packed_state history mid) xs (packed_state history b)) one.same_format
              (subst (λ k. AllMovePacker k mid.packer.format (packed_state history mid) xs (packed_state history b)) one.same_kind m.all),
        );
      }

module _ (kind : WriterKind) (format : Format) (reports : kind.reports ≡ true) where
  -- The text of the packer grows by what was taken of the kept lines.
  pub text_all : (xs : List Call) (s s' : PackedState) → AllMovePacker kind format s xs s'
      → whole_text (packer_in_state s') ≡ whole_text (packer_in_state s) ++ taken_stream format (taken_in xs)
  text_all [] s s' same = ap (λ t. whole_text (packer_in_state t)) same ∙ sym (append-nil (whole_text (packer_in_state s)))
  text_all (Line line (Ok n) ∷ xs) s s' (mid, (w, counts), rest) =
      text_all xs mid s' rest ∙ ap (λ t. t ++ taken_stream format (taken_in xs)) (w.text reports)
      ∙ append_assoc (whole_text (packer_in_state s)) (frame_of format line n) (taken_stream format (taken_in xs))
  text_all (Line line (Err e) ∷ xs) s s' (mid, (w, counts), rest) =
      text_all xs mid s' rest
      ∙ ap (λ t. t ++ taken_stream format (taken_in xs)) (w.text reports ∙ append-nil (whole_text (packer_in_state s)))
  text_all (Flush result ∷ xs) s s' (mid, (f, same), rest) =
      text_all xs mid s' rest ∙ ap (λ t. t ++ taken_stream format (taken_in xs)) (f.text reports)

  -- The packets that were there before come first.
  pub extends_all : (xs : List Call) (s s' : PackedState) → AllMovePacker kind format s xs s' → Extends s.history s'.history
  extends_all [] s s' same = ([], ap (λ t. t.history.packets) same ∙ sym (append-nil s.history.packets))
  extends_all (Line line result ∷ xs) s s' (mid, (w, counts), rest) =
      Extends-trans s.history mid.history s'.history (w.extends reports) (extends_all xs mid s' rest)
  extends_all (Flush result ∷ xs) s s' (mid, (f, same), rest) =
      Extends-trans s.history mid.history s'.history (f.extends reports) (extends_all xs mid s' rest)

  module _ (whole : kind.takes_whole ≡ true) (start : List (List ℕ)) where
    -- The packets since the start and the held text are a cut of the lines.
    abbrev pub CutAfter : List ℕ → List ℕ → List (List ℕ) → PackedState → Type 0
    CutAfter marks refusals lines s = CutSince format start marks refusals lines s.cut s.history s.held

    along : (marks marks' refusals refusals' : List ℕ) (lines lines' : List (List ℕ)) (s s' : PackedState)
        → marks ≡ marks' → refusals ≡ refusals' → lines ≡ lines' → s ≡ s' → CutAfter marks refusals lines s → CutAfter marks' refusals' lines' s'
    along marks marks' refusals refusals' lines lines' s s' m r l t cut =
        subst (λ x. CutAfter marks' refusals' lines' x) t
        (subst (λ x. CutAfter marks' refusals' x s) l
        (subst (λ x. CutAfter marks' x lines s) r
        (subst (λ x. CutAfter x refusals lines s) m cut)))

    more_lines : (lines : List (List ℕ)) (line : List ℕ) → length (lines ++ line ∷ []) ≡ length lines + 1
    more_lines lines line = length-append lines (line ∷ [])

    -- All that was given keeps the cut.
    pub cut_all : (xs : List Call) (marks refusals : List ℕ) (lines : List (List ℕ)) (s s' : PackedState) → AllMovePacker kind format s xs s'
        → AreFilled (taken_in xs) → length lines + length (taken_in xs) < 2 ^ 64 → CutAfter marks refusals lines s
        → CutAfter (marks ++ marks_from (length lines) xs) (refusals ++ refusals_from (length lines) xs) (lines ++ texts_in (taken_in xs)) s'
    cut_all [] marks refusals lines s s' same filled short a =
        along _ _ _ _ _ _ _ _ (sym (append-nil marks)) (sym (append-nil refusals)) (sym (append-nil lines)) (sym same) a
    cut_all (Line line (Ok n) ∷ xs) marks refusals lines s s' (mid, (w, counts), rest) (some, filled) short a =
        let (packets', since', way) =
        written kind format reports whole start s.history mid.history a.packets s.held mid.held line s.cut mid.cut n
        a.since (has_last format start marks refusals lines s.cut s.history s.held a (omega arith)) w counts in
        let (groups', plan', cut') =
        cut_written format marks refusals lines a.groups line s.cut mid.cut a.packets packets' s.held mid.held some a.plan_is a.cut way in
        let next : CutAfter marks refusals (lines ++ line ∷ []) mid =
        record { packets = packets'; groups = groups'; since = since'; plan_is = plan'; cut = cut' } in
        along _ _ _ _ _ _ _ _ (ap (λ k. marks ++ marks_from k xs) (more_lines lines line)) (ap (λ k. refusals ++ refusals_from k xs) (more_lines lines line))
        (append_assoc lines (line ∷ []) (texts_in (taken_in xs))) refl
        (cut_all xs marks refusals (lines ++ line ∷ []) mid s' rest filled (omega (arith, more_lines lines line)) next)
    cut_all (Line line (Err e) ∷ xs) marks refusals lines s s' (mid, (w, counts), rest) filled short a =
        let (packets', since', way) =
        refused kind format reports whole start s.history mid.history a.packets s.held mid.held line s.cut mid.cut e
        a.since w counts in
        let cut' = cut_refused format marks refusals lines a.groups s.cut mid.cut a.packets packets' s.held mid.held a.cut way in
        let next : CutAfter marks (refusals ++ length lines ∷ []) lines mid =
        record { packets = packets'; groups = a.groups; since = since'; plan_is = counts ∙ a.plan_is; cut = cut' } in
        along _ _ _ _ _ _ _ _ refl (append_assoc refusals (length lines ∷ []) (refusals_from (length lines) xs)) refl refl
        (cut_all xs marks (refusals ++ length lines ∷ []) lines mid s' rest filled short next)
    cut_all (Flush (Ok done) ∷ xs) marks refusals lines s s' (mid, (f, same), rest) filled short a =
        let since : mid.history.packets ≡ start ++ (a.packets ++ held_packet s.held) = f.one_packet reports whole
        ∙ ap (λ p. p ++ held_packet s.held) a.since ∙ append_assoc start a.packets (held_packet s.held) in
        let next : CutAfter (marks ++ length lines ∷ []) refusals lines mid = record {
          packets = a.packets ++ held_packet s.held;
          groups = a.groups;
          since = since;
          plan_is = same ∙ a.plan_is;
          cut = subst (λ x. IsCutSoFar format (marks ++ length lines ∷ []) refusals lines a.groups (a.packets ++ held_packet s.held) x) (sym f.empties)
              (marks_flush format marks refusals lines a.groups a.packets s.held a.cut (a.packets ++ held_packet s.held) refl);
        } in
        along _ _ _ _ _ _ _ _ (append_assoc marks (length lines ∷ []) (marks_from (length lines) xs)) refl refl refl
        (cut_all xs (marks ++ length lines ∷ []) refusals lines mid s' rest filled short next)
    cut_all (Flush (Err e) ∷ xs) marks refusals lines s s' (mid, (f, same), rest) filled short a =
        let (rest_is, packets_are) = f.unchanged whole in
        let next : CutAfter marks refusals lines mid = record {
          packets = a.packets;
          groups = a.groups;
          since = packets_are ∙ a.since;
          plan_is = same ∙ a.plan_is;
          cut = subst (λ x. IsCutSoFar format marks refusals lines a.groups a.packets x) (sym rest_is) a.cut;
        } in
        cut_all xs marks refusals lines mid s' rest filled short next
