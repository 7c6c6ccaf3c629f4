use Rattle.std.proofs.Common.{rules, arith, ◌≡◌, ◌<◌, ◌∷◌, [], length, Err}
use Rattle.cadence_read.proofs.PacketRead.{suffix_found, suffix_none, packet_through, alone_fails, alone_found, empty_packet}
use Rattle.cadence_read.proofs.packet.read_list.Goals as goal

pub returns-in-Some : goal.returns-in-Some
returns-in-Some g c =
    let whole = suffix_found c.args.packet.now c.in-Some.lines.now (10 ∷ []) c.in-Some.ensures.cases.0 c.in-Some.ensures.cases.1 in
    packet_through c.args.packet.now c.in-Some.lines.now c.read_lines.result whole c.read_lines.ensures

pub returns-in_err-metric : goal.returns-in_err-metric
returns-in_err-metric g c =
    let some : 0 < length c.args.packet.now = grind arith in
    let is : c.from_residual-in_err-metric.result ≡ Err c.in_err-metric.field-0.0 = search rules in
    alone_fails c.args.packet.now c.from_residual-in_err-metric.result c.in_err-metric.field-0.0 is some
    (suffix_none c.args.packet.now (10 ∷ []) c.in_default.ensures.cases) c.in_err-metric.ensures

pub returns-then-is_empty : goal.returns-then-is_empty
returns-then-is_empty g c =
    let none : length c.args.packet.now ≡ 0 = grind arith in
    empty_packet c.args.packet.now c.new.result none (search rules)

pub returns : goal.returns
returns g c =
    let one : c.push.new.self.items ≡ c.in_ok-metric.metric ∷ [] = search rules in
    alone_found c.args.packet.now c.push.new.self c.in_ok-metric.metric one c.in_ok-metric.ensures
