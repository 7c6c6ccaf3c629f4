use Rattle.std.proofs.Common.{◌≡◌, ◌+◌, ◌==◌, length, Contains, take, sym, ap, arith, inl, inr, ◌∙◌}
use Rattle.std.proofs.lemmas.List.{take_all, length-take}
use Rattle.std.proofs.lemmas.List.Sums.{count_by-le-length}
use Rattle.std.proofs.lemmas.Bool.{cases_lt}
use Rattle.std.proofs.lemmas.Bool.Decides.{nat_tests}
use Rattle.cadence_audit.specs.AuditHistory.{event_count}
use Rattle.cadence_audit.proofs.AuditAgreement.{fails, all_done, refuted, missing, event_count-more, event_count-other, held_more, held_all}
use Rattle.cadence_audit.proofs.history.contains_receipts.Goals.{then-event-number+else-found-receipts}
use Rattle.cadence_audit.proofs.history.contains_receipts.Goals.{else-found-receipts-via-then-found-receipts+else-not-is_same}
use Rattle.cadence_audit.proofs.history.contains_receipts.Goals.{else-found-receipts-via-else-found-receipts, else-event-number}
use Rattle.cadence_audit.proofs.history.contains_receipts.Goals as goal

pub returns-then-not-is_same : goal.returns-then-not-is_same
returns-then-not-is_same g c = (
  λ h. cc,
  λ all. absurd (refuted c.args.events.now c.args.number c.requires.counted c.args.receipts.now c.requires.own
      c.loop-event.found c.loop-event.event-index c.event-item.result c.index-receipts-found.result c.loop-event.invariant.found
      c.loop-event-test.true c.event-item.is c.if-event-number.true c.if-found-receipts.true c.index-receipts-found.is
      (fails c.is_same.ensures.1 c.if-not-is_same.true) all),
)

pub loop-event-preserved : goal.loop-event-preserved
loop-event-preserved g c =
    let events = c.args.events.now in
    let at = c.loop-event.event-index in
    elim c.if-event-number.branch [
      | then-event-number+else-found-receipts w ↦
          rw w.found-is (record {
            found = ap (λ n. n + 1) c.loop-event.invariant.found
                ∙ sym (event_count-more events c.args.number at c.event-item.result c.loop-event-test.true c.event-item.is w.if-event-number.true);
            held = elim w.else-found-receipts.branch [
              | else-found-receipts-via-then-found-receipts+else-not-is_same w' ↦ held_more events c.args.receipts.now c.loop-event.found at
                  c.event-item.result w'.index-receipts-found.result c.loop-event-test.true c.event-item.is w'.if-found-receipts.true
                  w'.index-receipts-found.is (w'.is_same.ensures.0 w'.if-not-is_same.false) c.loop-event.invariant.held
              | else-found-receipts-via-else-found-receipts w' ↦ held_all events c.args.receipts.now c.loop-event.found
                  w'.if-found-receipts.false c.loop-event.invariant.held
            ];
          })
      | else-event-number w ↦
          rw w.found-is (record {
            found = c.loop-event.invariant.found
                ∙ sym (event_count-other events c.args.number at c.event-item.result c.loop-event-test.true c.event-item.is w.if-event-number.false);
            held = c.loop-event.invariant.held;
          })
    ]

pub returns : goal.returns
returns g c =
    let whole : take c.loop-event.event-index c.args.events.now ≡ c.args.events.now =
    take_all c.loop-event.event-index c.args.events.now c.loop-event-test.false in
    let now : c.loop-event.found ≡ event_count c.args.number c.args.events.now =
    c.loop-event.invariant.found ∙ ap (event_count c.args.number) whole in (
      λ h. all_done (Contains c.args.events.now) c.args.receipts.now c.loop-event.found (grind (arith, nat_tests)) c.loop-event.invariant.held,
      λ all. elim (cases_lt c.loop-event.found (length c.args.receipts.now)) [
        | inl lt ↦ absurd (missing c.args.events.now c.args.number c.requires.counted c.args.receipts.now c.requires.own c.loop-event.found
            now lt all)
        | inr ge ↦ grind (arith, nat_tests)
      ],
    )

pub overflow_add-found : goal.overflow_add-found
overflow_add-found g c =
    let before = take c.loop-event.event-index c.args.events.now in
    let le = count_by-le-length (λ e. e.seat == c.args.number) before in
    omega (arith, le, length-take c.loop-event.event-index c.args.events.now)
