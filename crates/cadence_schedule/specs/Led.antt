-- The laws of what leads a packer from one state to another: a call may ask nothing, also because memory ran out, and a
-- call that succeeds and another one are a call together.
use Rattle.std.proofs.Common.{ℕ, List, [], ◌∷◌, ◌++◌, Ok, Err, Option, Some, None, Result, inl, inr, refl, sym, ap, ◌∙◌}
use Rattle.std.proofs.lemmas.List.{append-nil, append_assoc, map-append}
use Rattle.std.proofs.lemmas.List.Concat.{flat_map-append}
use Rattle.cadence_aggregate.specs.Led.{lead_joined}
use Rattle.cadence_errors.specs.declared.SinkError.{SinkError}
use Rattle.cadence_errors.specs.declared.SinkError.TheVariants.{OutOfMemory}
use Rattle.cadence_flow.specs.Writer.{PacketHistory, WriterKind}
use Rattle.cadence_schedule.specs.Asked.{AsksLine, WritesLines}
use Rattle.cadence_schedule.specs.Leads.{LeadsSink, SinkPacks, lines_by}
use Rattle.cadence_schedule.specs.PackedRuns.{Packs, view_of}
use Rattle.cadence_stage.specs.Call.{Call, Flush, Line}
use Rattle.cadence_stage.specs.Past.{taken_by, taken_in}
use Rattle.cadence_schedule.specs.Calls.{texts_in}
use Rattle.cadence_schedule.specs.declared.packer_sink.PackerSink.{PackerSink}

writes_joined : (xs ys : List Call) (error : Option SinkError) → WritesLines xs None → WritesLines ys error → WritesLines (xs ++ ys) error
writes_joined [] ys error none more = more
writes_joined (Line line (Ok n) ∷ xs) ys error all more = writes_joined xs ys error all more
writes_joined (Line line (Err e) ∷ xs) ys error (ends, some) more = absurd cc
writes_joined (Flush result ∷ xs) ys error all more = absurd all

asks_joined : (xs ys : List Call) (result : Result (Unit {0}) SinkError) → WritesLines xs None → AsksLine result ys → AsksLine result (xs ++ ys)
asks_joined xs ys (Ok done) first more = writes_joined xs ys None first more
asks_joined xs ys (Err e) first (inl refused) = inl (writes_joined xs ys (Some e) first refused)
asks_joined xs ys (Err e) first (inr (more, memory)) = inr (writes_joined xs ys None first more, memory)

module _ {P A : Type 0} (kind : P → WriterKind) (history : P → PacketHistory) where
  pub packs_none : (s : PackerSink P A) → SinkPacks kind history s s []
  packs_none s = record { lines = sym (append-nil (lines_by s)); sends = refl }

  pub packs_joined : (a b c : PackerSink P A) (xs ys : List Call) → SinkPacks kind history a b xs → SinkPacks kind history b c ys
      → SinkPacks kind history a c (xs ++ ys)
  packs_joined a b c xs ys x y = record {
    lines = y.lines ∙ ap (λ ls. ls ++ texts_in (taken_in ys)) x.lines
        ∙ append_assoc (lines_by a) (texts_in (taken_in xs)) (texts_in (taken_in ys))
        ∙ ap (λ ls. lines_by a ++ ls) (sym (ap texts_in (flat_map-append taken_by xs ys)
        ∙ map-append (λ (k : List ℕ × ℕ). k.0) (taken_in xs) (taken_in ys)));
    sends = lead_joined (Packs kind history) xs ys (view_of a.packing) (view_of b.packing) (view_of c.packing) x.sends y.sends;
  }

  pub leads_none : (s : PackerSink P A) → LeadsSink kind history s (Ok tt) s
  leads_none s = record { asked = []; asks = refl; packs = packs_none s }

  pub none_without_memory : (s : PackerSink P A) → LeadsSink kind history s (Err OutOfMemory) s
  none_without_memory s = record { asked = []; asks = inr (refl, refl); packs = packs_none s }

  pub leads_joined : (a b c : PackerSink P A) (result : Result (Unit {0}) SinkError) → LeadsSink kind history a (Ok tt) b → LeadsSink kind history b result c
      → LeadsSink kind history a result c
  leads_joined a b c result x y = record {
    asked = x.asked ++ y.asked;
    asks = asks_joined x.asked y.asked result x.asks y.asks;
    packs = packs_joined a b c x.asked y.asked x.packs y.packs;
  }
