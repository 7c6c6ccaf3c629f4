use Rattle.std.proofs.Common.{◌≡◌, All, sym, subst, ◌∙◌}
use Rattle.cadence_audit.specs.AuditSeats.{IsRecordedIn}
use Rattle.cadence_audit.proofs.history.History.agrees.Goals as goal

pub contains_all_receipts-requires : goal.contains_all_receipts-requires
contains_all_receipts-requires g c = rw c.as_slice-events.ensures.value c.self.invariant

pub returns-then-has_receipt_count : goal.returns-then-has_receipt_count
returns-then-has_receipt_count g c =
    let same : c.as_slice-events.result.now ≡ c.args.self.now = c.as_slice-events.ensures.value ∙ c.self.view_is in (
      λ h. (
        rw same at (c.has_receipt_count.ensures.0 c.if-has_receipt_count.true),
        subst (λ events. All (IsRecordedIn events) c.args.seats.now) same
            (c.contains_all_receipts.ensures.0 h),
      ),
      λ all. c.contains_all_receipts.ensures.1 (subst (λ events. All (IsRecordedIn events) c.args.seats.now) (sym same) all.1),
    )
