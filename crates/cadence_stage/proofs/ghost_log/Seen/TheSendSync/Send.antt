use base.Growing
use denote.RattleType.{RattleType}
use denote.Param.Send.{IsSend}
use Rattle.cadence_stage.specs.GhostLog.{seen_owns}
use Rattle.cadence_stage.specs.contracts.ghost_log.Seen.{the_row}

pub send : (A : RattleType) → IsSend (the_row A)
unfolding seen_owns base.Growing.at_least
send A = record { owned = λ d vs. ((λ vss. (tt, ((λ uss. (tt, tt)), tt))), tt); leaving = λ k f vs. tt }
