use Rattle.std.proofs.Common.{◌≡◌, ◌⊎◌, [], arith, length, refl, string_bytes, sym, inl, inr}
use Rattle.std.proofs.lemmas.List.{append-nil}
use Rattle.cadence_listen.specs.Filters.{IsKept}
use Rattle.cadence_listen.proofs.Printed.{fails}
use Rattle.cadence_listen.proofs.watch.push_piece.Goals as goal
use Rattle.cadence_listen.proofs.watch.push_piece.Goals.{then-is_empty-via-then-is_empty, then-is_empty-via-else-is_empty+then-not-keeps}

pub returns-then-is_empty : goal.returns-then-is_empty
returns-then-is_empty c = λ json.
    let why : (length c.without_last-line.result.now ≡ 0) ⊎ (IsKept c.args.format.filter c.cut_line-is.result → ⊥) =
    elim c.then-is_empty.branch [
      | then-is_empty-via-then-is_empty w ↦ inl (grind arith)
      | then-is_empty-via-else-is_empty+then-not-keeps w ↦ inr (fails w.keeps.ensures.1 w.if-not-keeps.true)
    ] in (
      [],
      record {
        line = c.without_last-line.result.now;
        cut = c.without_last-line.ensures;
        is = c.cut_line-is.result;
        found = c.cut_line-is.ensures;
        printed = inr (why, refl);
      },
      sym (append-nil (string_bytes c.args.out.now)),
    )
