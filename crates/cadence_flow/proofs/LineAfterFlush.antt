-- What writing an oversize line does (`Writes`), if the flush before it succeeded.
use Rattle.std.proofs.Common.{◌≡◌, ℕ, ◌+◌, ◌-◌, ◌<◌, true, [], ◌∷◌, ◌++◌, List}
use Rattle.std.proofs.Common.{length, take, ap, ◌∙◌, sym, arith, take_all, ◌%◌, ◌^◌}
use Rattle.std.proofs.Common.{Bool, if◌then◌else◌, Ok, Err, Result, inl}
use Rattle.std.proofs.lemmas.Bool.{false≢true}
use Rattle.std.proofs.lemmas.List.{append-nil, drop_all}
use Rattle.std.specs.List.{concat}
use Rattle.cadence_errors.specs.declared.SinkError.{SinkError}
use Rattle.cadence_flow.specs.Frame.{Format, size_of, is_oversize, frame_of, held_packet}
use Rattle.cadence_flow.specs.Packer.{Flushes, PackerState, Writes, rest_or, taken_of_held, whole_text}
use Rattle.cadence_flow.specs.Writer.{PacketHistory, WriterKind, Sends, WritesPacket, after_packet}
use Rattle.cadence_flow.proofs.Histories.{concat-push, Sends-then, Extends-trans, Extends-refl}

-- If nothing is held, the packets are all text.
nothing_held : (s : PackerState) → s.held ≡ [] → whole_text s ≡ concat s.history.packets
nothing_held s none = ap (λ h. concat s.history.packets ++ h) none ∙ append-nil (concat s.history.packets)

module _ (kind : WriterKind) (old mid new : PackerState) (format : Format) (line : List ℕ) (u : Unit {0})
    (emptied : new.held ≡ []) (sent : mid.held ≡ []) where
  -- The text grows by as much of the line as was taken.
  text_more : (n : ℕ) → whole_text mid ≡ whole_text old → new.history ≡ after_packet mid.history (take n line) → is_oversize format line ≡ true
      → whole_text new ≡ whole_text old ++ frame_of format line n
  text_more n before e over =
      nothing_held new emptied ∙ ap (λ (h : PacketHistory). concat h.packets) e ∙ concat-push mid.history.packets (take n line)
      ∙ ap (λ (l : List ℕ). l ++ take n line) (sym (nothing_held mid sent) ∙ before)
      ∙ ap (λ (b : Bool). whole_text old ++ (if b then take n line else line ++ format.ending)) (sym over)

  -- Writing an oversize line does what `Writes` says, for each of the two results of offering the line.
  pub Writes-alone : (r : Result ℕ SinkError) → Flushes kind old mid (Ok u) → is_oversize format line ≡ true
      → format.capacity < size_of format line → WritesPacket kind mid.history new.history line r → Writes kind format old new line r
  Writes-alone (Ok n) flushed over passes answered =
      let one_more = ap (λ (h : PacketHistory). h.packets) in
      record {
        count = record { within = answered.count; not_oversize = λ no. absurd (false≢true (sym no ∙ over)); takes_whole = answered.whole };
        fits = λ room. absurd (omega arith);
        goes_first = λ _ no. absurd (false≢true (sym no ∙ over));
        alone = λ _. record {
          held = emptied;
          sent = λ t. Sends-then old.history mid.history new.history old.held (take n line) (flushed.sent t) (one_more (answered.taken t));
          two_packets = λ t w. one_more (answered.taken t)
              ∙ ap (λ (ps : List (List ℕ)). ps ++ take n line ∷ []) (flushed.one_packet t w)
              ∙ ap (λ (l : List ℕ). (old.history.packets ++ held_packet old.held) ++ l ∷ []) (take_all n line (omega (arith, answered.whole w)));
        };
        fails = tt;
        none_refused = (answered.kept.0 ∙ flushed.none_refused.0, answered.kept.1 ∙ flushed.none_refused.1);
        text = λ t. text_more n (flushed.text t) (answered.taken t) over;
        extends = λ t. Extends-trans old.history mid.history new.history (flushed.extends t) (take n line ∷ [], one_more (answered.taken t));
      }
  Writes-alone (Err e) flushed over passes answered =
      let no_packet = ap (λ (h : PacketHistory). h.packets) answered.refused in
      record {
        count = record { within = tt; not_oversize = λ _. tt; takes_whole = λ _. tt };
        fits = λ room. absurd (omega arith);
        goes_first = λ _ no. absurd (false≢true (sym no ∙ over));
        alone = λ _. tt;
        fails = record {
          keeps_end = emptied ∙ sym (drop_all (length old.held - length new.held) old.held (omega (arith, ap length emptied)));
          keeps_some = λ no. absurd (false≢true (sym no ∙ over));
          cause = inl (record {
            may_give = answered.may_give;
            once = (
              ap (λ (h : PacketHistory). h.refusals) answered.refused ∙ ap (λ (k : ℕ). (k + 1) % 2 ^ 64) flushed.none_refused.0,
              ap (λ (h : PacketHistory). h.refused_bytes) answered.refused ∙ ap (λ (k : ℕ). (k + length line) % 2 ^ 64) flushed.none_refused.1
                  ∙ ap (λ (rest : List ℕ). (old.history.refused_bytes + length (rest_or rest line)) % 2 ^ 64) (sym emptied),
            );
            sent = λ t. Sends-same (flushed.sent t) no_packet;
          });
          sent = λ t w _. no_packet ∙ flushed.one_packet t w;
          refused = λ t w some. absurd (omega (arith, ap length emptied));
        };
        none_refused = tt;
        text = λ t. nothing_held new emptied ∙ ap (λ (ps : List (List ℕ)). concat ps) no_packet ∙ sym (nothing_held mid sent)
            ∙ flushed.text t ∙ sym (append-nil (whole_text old));
        extends = λ t. Extends-trans old.history mid.history new.history (flushed.extends t) (Extends-refl mid.history new.history no_packet);
      }
    where
      Sends-same : Sends old.history mid.history old.held → new.history.packets ≡ mid.history.packets
          → Sends old.history new.history (taken_of_held old.held new.held)
      Sends-same s e =
          record {
            more = s.more;
            packets = e ∙ s.packets;
            joined = s.joined ∙ sym (take_all (length old.held - length new.held) old.held (omega (arith, ap length emptied)));
            none_empty = s.none_empty;
          }
