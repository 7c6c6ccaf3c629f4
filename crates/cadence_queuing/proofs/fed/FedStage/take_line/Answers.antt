use Rattle.std.proofs.Common.{List, ℕ, ◌∷◌, [], ◌++◌, ◌≡◌, map, string_bytes, ap, sym, subst, ◌∙◌}
use Rattle.std.specs.Option.{ok_or}
use mathlib.Core.List.{IsPrefix}
use Rattle.cadence_stage.specs.Call.{Call, Line, call_of}
use Rattle.cadence_stage.specs.Past.{lines_in, taken_by}
use Rattle.cadence_stage.specs.declared.entry.Entry.{Entry}
use Rattle.cadence_stage.proofs.Pasts.{given_entry, taken_entry}
use Rattle.cadence_queuing.proofs.fed.FedStage.take_line.Goals as goal

pub invariant_of-self : goal.invariant_of-self
invariant_of-self g c =
    let now = c.args.self.now in
    let line = c.args.line.now in
    let took = c.take_line-taken in
    let entry = c.of_line-entry.result in
    let call : Call = Line line (ok_or took.result took.new.fault) in
    let is : call_of entry ≡ call = c.of_line-entry.ensures in
    let log = c.note.ensures.log in
    let lines = ap (λ (es : List Entry). lines_in (map call_of es)) log ∙ given_entry now.fed.items entry call is
    ∙ ap (λ (es : List Entry). lines_in (map call_of es) ++ line ∷ []) (sym c.note.ensures.same) in
    record {
      names = (c.note.ensures.names.0 ∙ now.names.0, c.requires.names.1);
      taken = rw log (took.ensures.taken ∙ ap (λ (l : List (List ℕ × ℕ)). l ++ taken_by call) now.taken
          ∙ sym (taken_entry now.fed.items entry call is));
      begins = subst (λ (l : List (List ℕ)). ∥ IsPrefix l (map string_bytes c.args.from.items) ∥₁) (sym lines) c.requires.next;
    }
