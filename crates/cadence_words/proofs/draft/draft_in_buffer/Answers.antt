use Rattle.std.proofs.Common.{◌∙◌, ap}
use Rattle.cadence_words.proofs.WordByWord.{plain_rate, plain_time}
use Rattle.cadence_words.proofs.draft.draft_in_buffer.Goals as goal
use Rattle.cadence_text.specs.Draft.{Draft}

pub set_rate_and_time-requires : goal.set_rate_and_time-requires
set_rate_and_time-requires g c = (
  ap (λ (d : Draft). d.rate) c.in_ok-draft.ensures ∙ plain_rate _ _ _ _,
  ap (λ (d : Draft). d.time) c.in_ok-draft.ensures ∙ plain_time _ _ _ _,
)

pub returns : goal.returns
returns g c =
    c.set_rate_and_time.ensures
    ∙ ap (λ (d : Draft). record d { rate = c.args.defaults.now.rate; time = c.args.defaults.now.time }) c.in_ok-draft.ensures
