use Rattle.std.proofs.Common.{rules, ◌≡◌, length}
use Rattle.cadence_queue.proofs.TakenTexts.{all_given, none_left}
use Rattle.cadence_queue.proofs.taking.taker.Taker.is_empty.Goals as goal

pub returns : goal.returns
returns g c = (
  λ empty.
      let none : length c.args.self.now.texts.items ≡ 0 = search rules in
      none_left _ _ _ c.args.self.now.whole none,
  λ same.
      let none : length c.args.self.now.texts.items ≡ 0 = all_given _ _ _ c.args.self.now.whole same in
      search rules,
)
