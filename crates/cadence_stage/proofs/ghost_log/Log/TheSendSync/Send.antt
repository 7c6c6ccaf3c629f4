use base.Growing
use denote.RattleType.{RattleType}
use denote.Param.Send.{IsSend}
use Rattle.cadence_stage.specs.GhostLog.{log_owns}
use Rattle.cadence_stage.specs.contracts.ghost_log.Log.{the_row}

pub send : (A : RattleType) → IsSend (the_row A)
unfolding log_owns base.Growing.latest
send A = record { owned = λ d vs. ((λ vss. (tt, ((λ uss. (tt, tt)), tt))), tt); leaving = λ k f vs. tt }
